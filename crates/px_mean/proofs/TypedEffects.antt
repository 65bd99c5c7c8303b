-- What effects and operations do keeps a heap typed.
use Rattle.std.proofs.Common.{◌≡◌, ℕ, suc, ◌+◌, ◌<◌, nat_lt, Bool, true, false, ◌||◌, if◌then◌else◌, List, [], ◌∷◌, ◌++◌, length, replicate, pos, negsuc, Option, Some, option_map, unwrap_or, slice_get, slice_set, Result, Ok, Err, refl, sym, ap, ◌∙◌, subst, arith}
use Rattle.std.proofs.lemmas.Bool.{ltb-true, true≢false}
use Rattle.std.specs.List.{list_any}
use Rattle.px_value.specs.declared.value.Value.{Value}
use Rattle.px_value.specs.declared.value.Value.TheVariants.{Int, Long, Bool as Truth, Text, Null, Ref}
use Rattle.px_value.specs.declared.object.Object.{Object}
use Rattle.px_value.specs.declared.header.Kind.TheVariants as kind
use Rattle.px_value.specs.declared.thrown.Thrown.{Thrown}
use Rattle.px_value.specs.declared.thrown.Thrown.TheVariants.{HeapFull, TurnsOut, SQLException, TextTooLong}
use Rattle.px_value.specs.declared.statement.Statement.{Statement}
use Rattle.px_value.specs.declared.statement.TableOp.{TableOp}
use Rattle.px_value.specs.declared.answer.Answer.{Answer}
use Rattle.px_value.specs.declared.answer.Answer.TheVariants.{Rows, Count, Refused}
use Rattle.px_value.specs.Heap.{cell_of, written}
use Rattle.px_value.specs.Operators.{Applied}
use Rattle.px_value.specs.Outcome.{Outcome, Gives, Throws, Asks, then_run, ◌>>=◌, pure}
use Rattle.px_facts.specs.declared.operation.Operation.{Operation}
use Rattle.px_facts.specs.declared.types.Ty.{Ty}
use Rattle.px_facts.specs.declared.types.Ty.TheVariants as ty
use Rattle.px_facts.specs.declared.types.Element.{Element}
use Rattle.px_facts.specs.declared.types.Element.TheVariants as element
use Rattle.px_facts.specs.declared.checked.Facts.{Facts}
use Rattle.px_facts.specs.Types.{element_type}
use Rattle.px_effects.specs.Run.{in_world}
use Rattle.px_effects.specs.Act as effect
use Rattle.px_effects.specs.Act.{Act, Comes, Prints, Reads, Writes, Looks, Makes, Firsts, Ends, Came, Printed, Acted, acted, header_at, value_at, has_no_room, quiet, unless_full, may_print, printed_if, landed, came, settled, does}
use Rattle.px_effects.specs.Cells as cells
use Rattle.px_effects.specs.Cells.{first_cells, or_throws, at_object, length_in, size_value, place_of, array_size}
use Rattle.px_effects.specs.Rows as rows
use Rattle.px_effects.specs.Rows.{Standing, standing, width_at, moved, cell_in, long_in, text_in, make_rows, changed}
use Rattle.px_effects.specs.Operations.{is_null, are_short, sent, operation_with, operates_on, Said, Answers, Out, counted, told, with_said, works, max_operations}
use Rattle.px_effects.proofs.Made.{rows_object, rows_are_made}
use Rattle.px_mean.specs.Run.{Shared, There, came_to, turn, max_turns}
use Rattle.px_mean.specs.Facts.{by_number, fields_of, element_default, element_number}
use Rattle.px_mean.specs.Effects.{reference, fresh_with, no_object, statements_of, acts, only_acts, get_field, put_field, array_length, load, store, new_object, new_array, next, get_long, get_string, print_line}
use Rattle.px_mean.specs.Operations.{Ask, query, update}
use Rattle.px_mean.specs.Typed as typed
use Rattle.px_mean.specs.Typing as typing
use Rattle.px_mean.specs.Typed.{kind_at, MayBeNull, HasType, HaveTypes, AllHaveType, IsKept, AllKept, AreRows, numbered_element, HasCells, IsTypedHeap}
use Rattle.px_mean.specs.Typing.{IsSendable, AreSendable, is_select}
use Rattle.px_mean.specs.TypedRuns.{IsAnswerTo, IsAsked, AnswersTyped}
use Rattle.px_mean.proofs.TypedHeaps.{Grows, stays, grows_then, keeps_type, typed_at, types_written, all_at, all_written, defaults_typed, element_default_typed, numbered_is, all_replicated, kind_of_new, grows_by_one, typed_with_one, KeepsCells, grows_written, typed_written, cells_there, keeps_cells}
use Rattle.px_mean.proofs.TypedRuns.{Kept, Ended, Keeps, comes, and_then}

abbrev pub U : Type 0
U = Unit {0}

-- a value of a type
abbrev pub OfType : Ty → List Object → Value → Type 0
OfType t heap v = HasType heap t v

abbrev pub Anything : (A : Type 0) → List Object → A → Type 0
Anything A heap a = Unit {0}

abbrev pub shared_kept : Facts → (W : Type 0) → (W → Type 0) → Kept
shared_kept F W I = record { State = Shared W; heap = λ s. s.heap; Holds = λ s. IsTypedHeap F s.heap × I s.world }

module _ (Q W : Type 0) (F : Facts) (I : W → Type 0) where
  abbrev K : Kept
  K = shared_kept F W I

  abbrev pub KeepsThere : List Object → (A : Type 0) → There Q W A → (List Object → A → Type 0) → Type 0
  KeepsThere heap A r P = Keeps Q K heap A r P

  abbrev pub EndedThere : (A : Type 0) → (List Object → A → Type 0) → List Object → Outcome Q (Shared W) A → Type 0
  EndedThere A P heap o = Ended Q K A P heap o

  pub then_there : {A B : Type 0} (P : List Object → A → Type 0) (R : List Object → B → Type 0) (heap : List Object) (r : There Q W A) (f : A → There Q W B) → KeepsThere heap A r P → ((later : List Object) → Grows heap later → (a : A) → P later a → KeepsThere later B (f a) R) → KeepsThere heap B (r >>= f) R
  then_there P R heap r f h k = and_then Q K P R heap r f h k

  pub turn_kept : (heap : List Object) → KeepsThere heap U turn (Anything U)
  turn_kept heap = record { at = λ s g k. unless s (nat_lt s.turns max_turns) (stays s.heap, k, tt) }
    where
      unless : (s : Shared W) (b : Bool) → EndedThere U (Anything U) s.heap (Gives tt (record s { turns = s.turns + 1 })) → EndedThere U (Anything U) s.heap (if b then Gives tt (record s { turns = s.turns + 1 }) else Throws TurnsOut s)
      unless s true h = h
      unless s false h = tt

  -- ---- acts on a typed heap

  -- each write and each new object keeps the heap typed, and this holds of the value
  abbrev pub Safe : Firsts → (List Object → Value → Type 0) → Act → List Object → Type 0
  Safe firsts P (Comes (Ok v)) h = P h v
  Safe firsts P (Comes (Err t)) h = U
  Safe firsts P (Prints line) h = P h Null
  Safe firsts P (Reads o i k) h = Safe firsts P (k (value_at h o i)) h
  Safe firsts P (Writes o i v k) h = KeepsCells F h o i v × Safe firsts P k (written h o i v)
  Safe firsts P (Looks o k) h = Safe firsts P (k (header_at h o)) h
  Safe firsts P (Makes x k) h = HasCells F h x.kind (firsts x) × Safe firsts P (k (length h)) (h ++ effect.new_object firsts x ∷ [])

  abbrev Final : (List Object → Value → Type 0) → List Object → Ends → Type 0
  Final P h (Came (Ok v)) = P h v
  Final P h (Came (Err t)) = U
  Final P h (Printed line) = P h Null

  abbrev Left : (List Object → Value → Type 0) → List Object → Acted → Type 0
  Left P h a = Grows h a.heap × IsTypedHeap F a.heap × Final P a.heap a.ends

  left_later : (P : List Object → Value → Type 0) (h later : List Object) (a : Acted) → Grows h later → Left P later a → Left P h a
  left_later P h later a g l = (grows_then h later a.heap g l.0, l.1, l.2)

  left_or_full : (P : List Object → Value → Type 0) (h : List Object) (b : Bool) (a : Acted) → IsTypedHeap F h → Left P h a → Left P h (unless_full b a h)
  left_or_full P h true a k l = (stays h, k, tt)
  left_or_full P h false a k l = l

  leaves : (firsts : Firsts) (P : List Object → Value → Type 0) (act : Act) (h : List Object) → IsTypedHeap F h → Safe firsts P act h → Left P h (acted firsts act h)
  leaves firsts P (Comes (Ok v)) h k s = (stays h, k, s)
  leaves firsts P (Comes (Err t)) h k s = (stays h, k, tt)
  leaves firsts P (Prints line) h k s = (stays h, k, s)
  leaves firsts P (Reads o i f) h k s = leaves firsts P (f (value_at h o i)) h k s
  leaves firsts P (Writes o i v f) h k s = left_later P h (written h o i v) (acted firsts f (written h o i v)) (grows_written F h o i v) (leaves firsts P f (written h o i v) (typed_written F h o i v k s.0) s.1)
  leaves firsts P (Looks o f) h k s = leaves firsts P (f (header_at h o)) h k s
  leaves firsts P (Makes x f) h k s =
      let o = effect.new_object firsts x in
      let later = h ++ o ∷ [] in
      let a = acted firsts (f (length h)) later in
      left_or_full P h (has_no_room x.kind x.length h) a k (left_later P h later a (grows_by_one o h) (leaves firsts P (f (length h)) later (typed_with_one o F h k s.0) s.1))

  settled_kept : (P : List Object → Value → Type 0) (s : Shared W) (a : Acted) (e : Ends) → I s.world → Grows s.heap a.heap × IsTypedHeap F a.heap × Final P a.heap e → EndedThere Value P s.heap (came s a (landed s.prints e))
  settled_kept P s a (Came (Ok v)) i l = (l.0, (l.1, i), l.2)
  settled_kept P s a (Came (Err t)) i l = tt
  settled_kept P s a (Printed line) i l = printed (may_print line s.prints)
    where
      printed : (b : Bool) → EndedThere Value P s.heap (came s a (printed_if b line s.prints))
      printed true = (l.0, (l.1, i), l.2)
      printed false = tt

  -- an act that is safe on each typed heap that grew from this one
  pub does_kept : (heap : List Object) (firsts : Firsts) (act : Act) (P : List Object → Value → Type 0) → ((later : List Object) → Grows heap later → IsTypedHeap F later → Safe firsts P act later) → KeepsThere heap Value (does firsts act) P
  does_kept heap firsts act P h = record { at = λ s g k. settled_kept P s (acted firsts act s.heap) (acted firsts act s.heap).ends k.1 (leaves firsts P act s.heap k.0 (h s.heap g k.0)) }

  only_kept : (heap : List Object) (act : Act) → ((later : List Object) → Grows heap later → IsTypedHeap F later → Safe (first_cells no_object) (Anything Value) act later) → KeepsThere heap U (only_acts act) (Anything U)
  only_kept heap act h = then_there (Anything Value) (Anything U) heap (acts act) (λ v. pure tt) (does_kept heap (first_cells no_object) act (Anything Value) h) (λ later g v u. record { at = λ s l k. (stays s.heap, k, tt) })

  safe_or : {A : Type 0} (firsts : Firsts) (P : List Object → Value → Type 0) (heap : List Object) (x : Result A Thrown) (f : A → Act) → ((a : A) → x ≡ Ok a → Safe firsts P (f a) heap) → Safe firsts P (or_throws x f) heap
  safe_or firsts P heap (Ok a) f h = h a refl
  safe_or firsts P heap (Err t) f h = tt

  safe_comes : (firsts : Firsts) (P : List Object → Value → Type 0) (heap : List Object) (x : Applied) → ((v : Value) → x ≡ Ok v → P heap v) → Safe firsts P (Comes x) heap
  safe_comes firsts P heap (Ok v) h = h v refl
  safe_comes firsts P heap (Err t) h = tt

  abbrev none : Firsts
  none = first_cells no_object

  pub print_kept : (heap : List Object) (v : Value) → KeepsThere heap U (print_line v) (Anything U)
  print_kept heap v = only_kept heap (cells.print_line v) (λ later g k. tt)

  -- ---- cells

  field_there : (heap : List Object) (object place class : ℕ) (t : Ty) → IsTypedHeap F heap → kind_at heap object ≡ Some (kind.Object class) → slice_get (fields_of F class) place ≡ Some t → HasType heap t (value_at heap object place)
  field_there heap object place class t k e f =
      let c = cells_there F heap object (kind.Object class) k e in
      subst (λ (o : Option Object). HasType heap t (unwrap_or (cell_of o place) Null)) (sym c.1) (typed_at heap (fields_of F class) c.0.cells place t c.2 f)

  -- a reference to an object of a class, or null
  pub get_kept : (heap : List Object) (of : Value) (place class : ℕ) (t : Ty) → HasType heap (ty.Object class) of → slice_get (fields_of F class) place ≡ Some t → KeepsThere heap Value (get_field of place) (OfType t)
  get_kept heap _ place class t (typed.HasType.object _ object e) f = does_kept heap none (cells.get_field (Ref object) place) (OfType t) (λ later g k. field_there later object place class t k (g.kinds object (kind.Object class) e) f)
  get_kept heap _ place class t (typed.HasType.null _ n) f = does_kept heap none (cells.get_field Null place) (OfType t) (λ later g k. tt)

  pub put_kept : (heap : List Object) (of : Value) (place class : ℕ) (t : Ty) (v : Value) → HasType heap (ty.Object class) of → slice_get (fields_of F class) place ≡ Some t → HasType heap t v → KeepsThere heap U (put_field of place v) (Anything U)
  put_kept heap _ place class t v (typed.HasType.object _ object e) f h = only_kept heap (cells.put_field (Ref object) place v) (λ later g k.
      (keeps_cells F later object place v (kind.Object class) (g.kinds object (kind.Object class) e) (λ o d c n. types_written later (fields_of F class) o.cells place t v n f (keeps_type heap later g t v h)) k, tt))
  put_kept heap _ place class t v (typed.HasType.null _ n) f h = only_kept heap (cells.put_field Null place v) (λ later g k. tt)

  pub reference_kept : (heap : List Object) (of : Value) → KeepsThere heap ℕ (came_to (reference of)) (Anything ℕ)
  reference_kept heap of = comes Q K ℕ (Anything ℕ) heap (reference of) (λ a e later g. tt)

  pub length_kept : (heap : List Object) (of : Value) → KeepsThere heap Value (array_length of) (OfType ty.Int)
  length_kept heap of = does_kept heap none (cells.array_length of) (OfType ty.Int) (λ later g k. safe_or none (OfType ty.Int) later (reference of) _ (λ object e. typed.HasType.int _))

  -- ---- elements

  no_ok : {A : Type 0} (t : Thrown) (a : A) → Err t ≡ Ok a → ⊥
  no_ok {A} t a e = subst IsErr e tt
    where
      IsErr : Result A Thrown → Type 0
      IsErr (Ok x) = ⊥
      IsErr (Err x) = Unit {0}

  abbrev okay : {A : Type 0} → A → Result A Thrown
  okay a = Ok a

  is_ok : {A : Type 0} (a b : A) → okay a ≡ okay b → a ≡ b
  is_ok {A} a b e = ap from e
    where
      from : Result A Thrown → A
      from (Ok x) = x
      from (Err t) = a

  within : (b : Bool) (n i j : ℕ) (t : Thrown) → nat_lt i n ≡ b → (if b then Ok i else Err t) ≡ Ok j → j < n
  within true n i j t l e = subst (λ (x : ℕ). x < n) (is_ok i j e) (ltb-true i n l)
  within false n i j t l e = absurd (no_ok t j e)

  place_within : (index : Value) (n i : ℕ) → place_of index n ≡ Ok i → i < n
  place_within (Int (pos k)) n i e = within (nat_lt k n) n k i _ refl e
  place_within (Int (negsuc k)) n i e = absurd (no_ok _ i e)
  place_within (Long k) n i e = absurd (no_ok _ i e)
  place_within (Truth k) n i e = absurd (no_ok _ i e)
  place_within (Text k) n i e = absurd (no_ok _ i e)
  place_within Null n i e = absurd (no_ok _ i e)
  place_within (Ref k) n i e = absurd (no_ok _ i e)

  element_there : (heap : List Object) (object : ℕ) (of : Element) (index : Value) (i : ℕ) → IsTypedHeap F heap → kind_at heap object ≡ Some (kind.Array (element_number of)) → place_of index (length_in (header_at heap object)) ≡ Ok i → HasType heap (element_type of) (value_at heap object i)
  element_there heap object of index i k e p =
      let c = cells_there F heap object (kind.Array (element_number of)) k e in
      let t = element_type of in
      let all : AllHaveType heap t c.0.cells = subst (λ (x : Element). AllHaveType heap (element_type x) c.0.cells) (numbered_is of) c.2 in
      let l : i < length c.0.cells = subst (λ (x : Option Object). i < length_in (option_map effect.header_of x)) c.1 (place_within index (length_in (header_at heap object)) i p) in
      subst (λ (o : Option Object). HasType heap t (unwrap_or (cell_of o i) Null)) (sym c.1) (all_at heap t c.0.cells i all l)

  element_keeps : (heap : List Object) (object : ℕ) (of : Element) (i : ℕ) (v : Value) → IsTypedHeap F heap → kind_at heap object ≡ Some (kind.Array (element_number of)) → HasType heap (element_type of) v → KeepsCells F heap object i v
  element_keeps heap object of i v k e h =
      let number = element_number of in
      let t : HasType heap (element_type (numbered_element number)) v = subst (λ (x : Element). HasType heap (element_type x) v) (sym (numbered_is of)) h in
      keeps_cells F heap object i v (kind.Array number) e (λ o d c n. all_written heap (element_type (numbered_element number)) o.cells i v n t) k

  pub load_kept : (heap : List Object) (of : Value) (t : Element) (index : Value) → HasType heap (ty.Array t) of → KeepsThere heap Value (load of index) (OfType (element_type t))
  load_kept heap _ t index (typed.HasType.array _ object e) = does_kept heap none (cells.load (Ref object) index) (OfType (element_type t)) (λ later g k.
      safe_or none (OfType (element_type t)) later (place_of index (length_in (header_at later object))) _ (λ i p. element_there later object t index i k (g.kinds object (kind.Array (element_number t)) e) p))
  load_kept heap _ t index (typed.HasType.null _ n) = does_kept heap none (cells.load Null index) (OfType (element_type t)) (λ later g k. tt)

  pub store_kept : (heap : List Object) (of : Value) (t : Element) (index v : Value) → HasType heap (ty.Array t) of → HasType heap (element_type t) v → KeepsThere heap U (store of index v) (Anything U)
  store_kept heap _ t index v (typed.HasType.array _ object e) h = only_kept heap (cells.store (Ref object) index v) (λ later g k.
      safe_or none (Anything Value) later (place_of index (length_in (header_at later object))) _ (λ i p. (element_keeps later object t i v k (g.kinds object (kind.Array (element_number t)) e) (keeps_type heap later g (element_type t) v h), tt)))
  store_kept heap _ t index v (typed.HasType.null _ n) h = only_kept heap (cells.store Null index v) (λ later g k. tt)

  -- ---- new objects

  pub object_kept : (heap : List Object) (class site : ℕ) → KeepsThere heap Value (new_object class site (fields_of F class)) (OfType (ty.Object class))
  object_kept heap class site =
      let fresh = fresh_with (fields_of F class) in
      does_kept heap (first_cells fresh) (cells.make_object fresh class site) (OfType (ty.Object class)) (λ later g k.
      (defaults_typed later (fields_of F class), typed.HasType.object class (length later) (kind_of_new (effect.new_object (first_cells fresh) (cells.object_header fresh class site)) later)))

  same_default : (of : Element) → cells.element_default (element_number of) ≡ element_default of
  same_default element.Int = refl
  same_default element.Long = refl
  same_default element.Boolean = refl
  same_default element.Text = refl
  same_default (element.Object class) = let q : 4 + class ≡ suc (suc (suc (suc class))) = omega arith in ap cells.element_default q

  elements_typed : (heap : List Object) (of : Element) (n : ℕ) → HasCells F heap (kind.Array (element_number of)) (replicate n (cells.element_default (element_number of)))
  elements_typed heap of n =
      let all : AllHaveType heap (element_type of) (replicate n (element_default of)) = all_replicated heap (element_type of) (element_default of) n (element_default_typed heap of) in
      let numbered = subst (λ (x : Element). AllHaveType heap (element_type x) (replicate n (element_default of))) (sym (numbered_is of)) all in
      subst (λ (x : Value). AllHaveType heap (element_type (numbered_element (element_number of))) (replicate n x)) (sym (same_default of)) numbered

  pub array_kept : (heap : List Object) (site : ℕ) (of : Element) (size : Value) → KeepsThere heap Value (new_array site (ty.Array of) size) (OfType (ty.Array of))
  array_kept heap site of size = does_kept heap none (cells.make_array (element_number of) site size) (OfType (ty.Array of)) (λ later g k.
      safe_or none (OfType (ty.Array of)) later (array_size size) _ (λ n e. (elements_typed later of n, typed.HasType.array of (length later) (kind_of_new (effect.new_object none (cells.array_header (element_number of) site n)) later))))

  -- ---- result sets

  cursor_keeps : (heap : List Object) (number object n : ℕ) → IsTypedHeap F heap → kind_at heap object ≡ Some (kind.Rows number) → KeepsCells F heap object 0 (size_value n)
  cursor_keeps heap number object n k e = keeps_cells F heap object 0 (size_value n) (kind.Rows number) e (λ o d c r. with_cursor o.cells r) k
    where
      with_cursor : (cs : List Value) → AreRows heap cs → AreRows heap (slice_set cs 0 (size_value n))
      with_cursor [] r = absurd r
      with_cursor (c ∷ cs) r = (typed.HasType.int _, r.1)

  pub next_kept : (heap : List Object) (of : Value) → HasType heap ty.ResultSet of → KeepsThere heap Value (next F of) (OfType ty.Boolean)
  next_kept heap _ (typed.HasType.rows number object e) = does_kept heap none (rows.next (statements_of F) (Ref object)) (OfType ty.Boolean) (λ later g k.
      (cursor_keeps later number object _ k (g.kinds object (kind.Rows number) e), typed.HasType.truth _))
  next_kept heap _ (typed.HasType.null _ n) = does_kept heap none (rows.next (statements_of F) Null) (OfType ty.Boolean) (λ later g k. tt)

  -- what is wanted has a type on any heap
  abbrev Wanted : (Value → Result Value Thrown) → Ty → Type 0
  Wanted wanted t = (v w : Value) → wanted v ≡ Ok w → (h : List Object) → HasType h t w

  column_kept : (heap : List Object) (wanted : Value → Result Value Thrown) (of index : Value) (t : Ty) → Wanted wanted t → KeepsThere heap Value (acts (rows.get_column (statements_of F) wanted of index)) (OfType t)
  column_kept heap wanted of index t f = does_kept heap none (rows.get_column (statements_of F) wanted of index) (OfType t) (λ later g k.
      safe_or none (OfType t) later (reference of) _ (λ object e.
      let p = standing (width_at (statements_of F) (header_at later object)) (length_in (header_at later object)) (value_at later object 0) in
      safe_or none (OfType t) later (cell_in p index) _ (λ i d.
      safe_comes none (OfType t) later (wanted (value_at later object i)) (λ w n. f (value_at later object i) w n later))))

  long_wanted : (v w : Value) → long_in v ≡ Ok w → (h : List Object) → HasType h ty.Long w
  long_wanted (Long n) w e h = subst (λ (x : Value). HasType h ty.Long x) (is_ok (Long n) w e) (typed.HasType.long n)
  long_wanted (Int n) w e h = absurd (no_ok _ w e)
  long_wanted (Truth n) w e h = absurd (no_ok _ w e)
  long_wanted (Text n) w e h = absurd (no_ok _ w e)
  long_wanted Null w e h = absurd (no_ok _ w e)
  long_wanted (Ref n) w e h = absurd (no_ok _ w e)

  text_wanted : (v w : Value) → text_in v ≡ Ok w → (h : List Object) → HasType h ty.Text w
  text_wanted (Text n) w e h = subst (λ (x : Value). HasType h ty.Text x) (is_ok (Text n) w e) (typed.HasType.text n)
  text_wanted (Int n) w e h = absurd (no_ok _ w e)
  text_wanted (Long n) w e h = absurd (no_ok _ w e)
  text_wanted (Truth n) w e h = absurd (no_ok _ w e)
  text_wanted Null w e h = absurd (no_ok _ w e)
  text_wanted (Ref n) w e h = absurd (no_ok _ w e)

  pub long_kept : (heap : List Object) (of index : Value) → KeepsThere heap Value (get_long F of index) (OfType ty.Long)
  long_kept heap of index = column_kept heap long_in of index ty.Long long_wanted

  pub string_kept : (heap : List Object) (of index : Value) → KeepsThere heap Value (get_string F of index) (OfType ty.Text)
  string_kept heap of index = column_kept heap text_in of index ty.Text text_wanted

  -- ---- operations

  kept_value : (heap : List Object) (t : Ty) (v : Value) → IsSendable t → HasType heap t v → is_null v ≡ false → IsKept v
  kept_value heap _ _ typing.IsSendable.long (typed.HasType.long n) e = typed.IsKept.long n
  kept_value heap _ _ typing.IsSendable.text (typed.HasType.text n) e = typed.IsKept.text n
  kept_value heap _ _ typing.IsSendable.long (typed.HasType.null _ n) e = absurd n
  kept_value heap _ _ typing.IsSendable.text (typed.HasType.null _ n) e = absurd (true≢false e)

  none_of_both : (a b : Bool) → (a || b) ≡ false → (a ≡ false) × (b ≡ false)
  none_of_both true b e = absurd (true≢false e)
  none_of_both false b e = (refl, e)

  kept_values : (heap : List Object) (ts : List Ty) (vs : List Value) → AreSendable ts → HaveTypes heap ts vs → list_any is_null vs ≡ false → AllKept vs
  kept_values heap [] [] a h e = tt
  kept_values heap (t ∷ ts) (v ∷ vs) a h e = let n = none_of_both (is_null v) (list_any is_null vs) e in (kept_value heap t v a.0 h.0 n.0, kept_values heap ts vs a.1 h.1 n.1)
  kept_values heap [] (v ∷ vs) a h e = absurd h
  kept_values heap (t ∷ ts) [] a h e = absurd h

  sent_by : (b c : Bool) (vs ws : List Value) → (if b then Err SQLException else if c then Ok vs else Err TextTooLong) ≡ okay ws → (b ≡ false) × (vs ≡ ws)
  sent_by true c vs ws e = absurd (no_ok _ ws e)
  sent_by false true vs ws e = (refl, is_ok vs ws e)
  sent_by false false vs ws e = absurd (no_ok _ ws e)

  same_count : (heap : List Object) (ts : List Ty) (vs : List Value) → HaveTypes heap ts vs → length vs ≡ length ts
  same_count heap [] [] h = refl
  same_count heap (t ∷ ts) (v ∷ vs) h = ap suc (same_count heap ts vs h.1)
  same_count heap [] (v ∷ vs) h = absurd h
  same_count heap (t ∷ ts) [] h = absurd h

  -- as many as the types
  abbrev IsSent : List Ty → List Object → List Value → Type 0
  IsSent ts heap vs = (length vs ≡ length ts) × AllKept vs

  sent_kept : (heap : List Object) (ts : List Ty) (vs ws : List Value) → AreSendable ts → HaveTypes heap ts vs → sent vs ≡ Ok ws → IsSent ts heap ws
  sent_kept heap ts vs ws a h e =
      let r = sent_by (list_any is_null vs) (are_short vs) vs ws e in
      subst (λ (xs : List Value). (length xs ≡ length ts) × AllKept xs) r.1 (same_count heap ts vs h, kept_values heap ts vs a h r.0)

  abbrev IsSaid : Statement → List Object → Said → Type 0
  IsSaid statement heap (Answers a) = IsAnswerTo statement a
  IsSaid statement heap Out = U

  module _ (ask : Ask Q W) (answers : AnswersTyped F ask I) where
    abbrev says : Answer → There Q W Said
    says a = pure (Answers a)

    answered : (s : Shared W) (o : TableOp) (x : Outcome Q W Answer) → ask o s.world ≡ x → IsAsked F o → IsTypedHeap F s.heap × I s.world → EndedThere Said (IsSaid o.statement) s.heap (then_run (in_world (counted s) x) says)
    answered s o (Gives a w) e p k = let r = answers o s.world k.1 p a w e in (stays s.heap, (k.0, r.0), r.1)
    answered s o (Throws t w) e p k = tt
    answered s o (Asks q z) e p k = tt

    told_kept : (heap : List Object) (o : TableOp) → IsAsked F o → KeepsThere heap Said (told ask o) (IsSaid o.statement)
    told_kept heap o p = record { at = λ s g k. unless s (nat_lt s.operations max_operations) k (answered s o (ask o s.world) refl p k) }
      where
        unless : (s : Shared W) (b : Bool) → IsTypedHeap F s.heap × I s.world → EndedThere Said (IsSaid o.statement) s.heap (then_run (in_world (counted s) (ask o s.world)) says) → EndedThere Said (IsSaid o.statement) s.heap (if b then then_run (in_world (counted s) (ask o s.world)) says else Gives Out s)
        unless s true k h = h
        unless s false k h = (stays s.heap, k, tt)

    module _ (f : Answer → Act) (R : List Object → Value → Type 0) (statement : Statement) (goes : (later : List Object) (a : Answer) → IsAnswerTo statement a → KeepsThere later Value (does none (f a)) R) where
      said_kept : (heap : List Object) (said : Said) → IsSaid statement heap said → KeepsThere heap Value (does none (with_said f said)) R
      said_kept heap (Answers a) h = goes heap a h
      said_kept heap Out h = does_kept heap none (with_said f Out) R (λ later g k. tt)

      sends_kept : (heap : List Object) (number : ℕ) (o : Operation) (x : Result (List Value) Thrown) → o.statement ≡ statement → by_number F.operations number ≡ Some o → ((ws : List Value) → x ≡ Ok ws → IsSent o.params heap ws) → KeepsThere heap Value (works none ask (operates_on number statement x) f) R
      sends_kept heap number o (Ok params) d e h =
          let p = h params refl in
          let q = operation_with number statement params in
          then_there (IsSaid statement) R heap (told ask q) (λ said. does none (with_said f said)) (told_kept heap q (record { number = number; operation = o; operation_is = e; statement = sym d; count = p.0; kept = p.1 })) (λ later g said k. said_kept later said k)
      sends_kept heap number o (Err t) d e h = does_kept heap none (Comes (Err t)) R (λ later g k. tt)

    rows_made : (heap : List Object) (number site : ℕ) (statement : Statement) (a : Answer) → IsAnswerTo statement a → KeepsThere heap Value (does none (make_rows number site a)) (OfType ty.ResultSet)
    rows_made heap number site statement (Rows width cells) h = record {
      at = λ s g k.
          let o = rows_object number site cells in
          subst (λ (x : Outcome Q (Shared W) Value). EndedThere Value (OfType ty.ResultSet) s.heap x) (sym (rows_are_made Q W no_object number site width cells s))
          (denied s o (has_no_room o.header.kind o.header.length s.heap) (grows_by_one o s.heap, (typed_with_one o F s.heap k.0 (typed.HasType.int _, h.1), k.1), typed.HasType.rows number (length s.heap) (kind_of_new o s.heap)));
    }
      where
        denied : (s : Shared W) (o : Object) (b : Bool) → EndedThere Value (OfType ty.ResultSet) s.heap (Gives (Ref (length s.heap)) (record s { heap = s.heap ++ o ∷ [] })) → EndedThere Value (OfType ty.ResultSet) s.heap (if b then Throws HeapFull s else Gives (Ref (length s.heap)) (record s { heap = s.heap ++ o ∷ [] }))
        denied s o true h = tt
        denied s o false h = h
    rows_made heap number site statement (Count n) h = does_kept heap none (make_rows number site (Count n)) (OfType ty.ResultSet) (λ later g k. typed.HasType.null ty.ResultSet tt)
    rows_made heap number site statement Refused h = does_kept heap none (make_rows number site Refused) (OfType ty.ResultSet) (λ later g k. typed.HasType.null ty.ResultSet tt)

    pub query_kept : (heap : List Object) (number site : ℕ) (o : Operation) (vs : List Value) → by_number F.operations number ≡ Some o → AreSendable o.params → HaveTypes heap o.params vs → KeepsThere heap Value (query ask number site (Some o) vs) (OfType ty.ResultSet)
    query_kept heap number site o vs e a h = sends_kept (make_rows number site) (OfType ty.ResultSet) o.statement (λ later x p. rows_made later number site o.statement x p) heap number o (sent vs) refl e (λ ws d. sent_kept heap o.params vs ws a h d)

    change_told : (heap : List Object) (statement : Statement) (a : Answer) → is_select statement ≡ false → IsAnswerTo statement a → KeepsThere heap Value (does none (changed a)) (OfType ty.Int)
    change_told heap statement (Count n) e h = does_kept heap none (changed (Count n)) (OfType ty.Int) (λ later g k. typed.HasType.int _)
    change_told heap statement Refused e h = does_kept heap none (changed Refused) (OfType ty.Int) (λ later g k. tt)
    change_told heap statement (Rows width cells) e h = absurd (true≢false (sym h.0 ∙ e))

    pub update_kept : (heap : List Object) (number : ℕ) (o : Operation) (vs : List Value) → by_number F.operations number ≡ Some o → is_select o.statement ≡ false → AreSendable o.params → HaveTypes heap o.params vs → KeepsThere heap Value (update ask number (Some o) vs) (OfType ty.Int)
    update_kept heap number o vs e f a h = sends_kept changed (OfType ty.Int) o.statement (λ later x p. change_told later o.statement x f p) heap number o (sent vs) refl e (λ ws d. sent_kept heap o.params vs ws a h d)
