-- What statements write and come to leads to one of the objects that then stand.
use Rattle.std.proofs.Common.{◌≡◌, ℕ, suc, ◌+◌, ◌<◌, ◌≤◌, nat_lt, Bool, true, false, ◌||◌, cond, List, [], ◌∷◌, ◌++◌, length, Option, Some, None, unwrap_or, slice_get, Result, Ok, Err, IfOk, refl, sym, ap, ◌∙◌, subst, arith}
use Rattle.std.specs.List.{AllByRecursion}
use Rattle.std.proofs.lemmas.Bool.{ltb-false}
use Rattle.std.proofs.lemmas.List.Sums.{sum_by-append, sum_by-cons}
use Rattle.px_value.specs.declared.value.Value.{Value}
use Rattle.px_value.specs.declared.value.Value.TheVariants.{Null, Ref, Int, Long, Bool as Truth, Text}
use Rattle.px_value.specs.declared.thrown.Thrown.{Thrown}
use Rattle.px_value.specs.declared.header.Header.{Header}
use Rattle.px_value.specs.declared.object.Object.{Object}
use Rattle.px_value.specs.declared.answer.Answer.{Answer}
use Rattle.px_value.specs.declared.answer.Answer.TheVariants.{Rows, Count, Refused}
use Rattle.px_value.specs.declared.statement.Statement.{Statement as Query_of}
use Rattle.px_value.specs.Heap.{cell_at, written, cells_counted, heap_counted, max_counted}
use Rattle.px_value.specs.Operators.{Applied, apply}
use Rattle.px_value.proofs.Given.{given}
use Rattle.px_effects.specs.Act.{Act, Comes, Prints, Reads, Writes, Looks, Makes, Ends, Came, Printed, Acted, acted, header_at, value_at, new_object, has_no_room, is_long, unless_full}
use Rattle.px_effects.specs.Cells.{comes, or_throws, at_object, length_in, size_value, place_of, array_size, array_header, element_default}
use Rattle.px_effects.specs.Rows.{width_at, standing, cell_in, long_in, text_in, get_column, all_written, make_rows, changed}
use Rattle.px_effects.specs.Operations.{Acts, Operates, operates_on, operation, sent, Said, Answers, Out, with_said}
use Rattle.px_normal.specs.declared.word.Operand.{Operand}
use Rattle.px_normal.specs.declared.word.Operand.TheVariants.{Slot as In_slot, Literal}
use Rattle.px_normal.specs.declared.word.Word.{Word}
use Rattle.px_normal.specs.declared.word.Word.TheVariants as w
use Rattle.px_normal.specs.declared.code.Code.{Code}
use Rattle.px_normal.specs.First.{Slots, statements_of}
use Rattle.px_normal.specs.Words.{Does, Works, Invokes, operand, operand_or, operands, invokes_on, answer_of, does_of}
use Rattle.px_blocks.specs.Sides.{same, same_cell}
use Rattle.px_blocks.specs.Plan.{firsts_of}
use Rattle.px_ends.specs.Fits.{IsPlain, PlainOperand, PlainAnswer, PlainSaid}
use Rattle.px_ends.specs.Welcome.{LeadsIn, CellsLead, PlainWord}
use Rattle.px_ends.proofs.Places.{put, cell_written, length_written, cell_made, headers_written}
use Rattle.px_ends.proofs.Acts.{same_counted}
use Rattle.px_ends.proofs.HeapSteps.{length_replicate}
use Rattle.px_ends.proofs.Fitting.{first_plain}

-- ---- values

pub plain_leads : (n : ℕ) (v : Value) → IsPlain v → LeadsIn n v
plain_leads n Null p = tt
plain_leads n (Ref o) p = absurd p
plain_leads n (Int x) p = tt
plain_leads n (Long x) p = tt
plain_leads n (Truth x) p = tt
plain_leads n (Text x) p = tt

pub still : (n m : ℕ) (v : Value) → n ≤ m → LeadsIn n v → LeadsIn m v
still n m Null l h = tt
still n m (Ref o) l h = omega (arith, h)
still n m (Int x) l h = tt
still n m (Long x) l h = tt
still n m (Truth x) l h = tt
still n m (Text x) l h = tt

-- ---- acts

abbrev pub SafeEnd : ℕ → Applied → Type 0
SafeEnd n (Ok v) = LeadsIn n v
SafeEnd n (Err t) = Unit {0}

-- of a heap of n objects; a new object has as many cells as its header tells
abbrev pub Safe : Code → ℕ → Act → Type 0
Safe code n (Comes e) = SafeEnd n e
Safe code n (Prints line) = Unit {0}
Safe code n (Reads o i k) = (v : Value) → LeadsIn n v → Safe code n (k v)
Safe code n (Writes o i v k) = LeadsIn n v × Safe code n k
Safe code n (Looks o k) = (h : Option Header) → Safe code n (k h)
Safe code n (Makes h k) = (length (firsts_of code h) ≡ h.length) × Safe code (suc n) (k n)

abbrev pub EndsLead : ℕ → Ends → Type 0
EndsLead n (Came e) = SafeEnd n e
EndsLead n (Printed line) = Unit {0}

pub record IsAfter (heap : List Object) (a : Acted) : Type 0 where
  pub longer : length heap ≤ length a.heap
  pub cells : CellsLead a.heap
  pub ends : EndsLead (length a.heap) a.ends
  pub room : heap_counted heap ≤ max_counted → heap_counted a.heap ≤ max_counted

length_pushed : (hs : List Object) (x : Object) → length (hs ++ x ∷ []) ≡ suc (length hs)
length_pushed [] x = refl
length_pushed (y ∷ ys) x = ap suc (length_pushed ys x)

first_false : (a b : Bool) → (a || b) ≡ false → a ≡ false
first_false true b e = e
first_false false b e = refl

counted_one : (x : Object) → heap_counted (x ∷ []) ≡ cells_counted x + 0
counted_one x = sum_by-cons cells_counted x []

module _ (code : Code) where
  write_leads : (heap : List Object) (o i : ℕ) (v : Value) → LeadsIn (length heap) v → CellsLead heap → CellsLead (written heap o i v)
  write_leads heap o i v l all o' i' =
      subst (λ n. LeadsIn n (value_at (written heap o i v) o' i')) (sym (length_written heap o i v))
      (subst (λ (z : Option Value). LeadsIn (length heap) (unwrap_or z Null)) (sym (cell_written heap o i v o' i')) (pick (same_cell o i o' i') (cell_at heap o' i') (all o' i')))
    where
      pick : (b : Bool) (x : Option Value) → LeadsIn (length heap) (unwrap_or x Null) → LeadsIn (length heap) (unwrap_or (cond b (put v x) x) Null)
      pick true None h = tt
      pick true (Some w) h = l
      pick false x h = h

  make_leads : (heap : List Object) (h : Header) → CellsLead heap → CellsLead (heap ++ new_object (firsts_of code) h ∷ [])
  make_leads heap h all o i =
      subst (λ n. LeadsIn n (value_at (heap ++ new_object (firsts_of code) h ∷ []) o i)) (sym (length_pushed heap (new_object (firsts_of code) h)))
      (subst (λ (z : Option Value). LeadsIn (suc (length heap)) (unwrap_or z Null)) (sym (cell_made heap (new_object (firsts_of code) h) o i)) (pick (same o (length heap))))
    where
      pick : (b : Bool) → LeadsIn (suc (length heap)) (unwrap_or (cond b (slice_get (firsts_of code h) i) (cell_at heap o i)) Null)
      pick true = plain_leads (suc (length heap)) (unwrap_or (slice_get (firsts_of code h) i) Null) (first_plain code h i)
      pick false = still (length heap) (suc (length heap)) (value_at heap o i) (omega arith) (all o i)

  room_made : (heap : List Object) (h : Header) → length (firsts_of code h) ≡ h.length → has_no_room h.kind h.length heap ≡ false → heap_counted (heap ++ new_object (firsts_of code) h ∷ []) ≤ max_counted
  room_made heap h l e =
      let x : Object = new_object (firsts_of code) h in
      let q : heap_counted heap + (1 + h.length) ≤ max_counted = ltb-false max_counted (heap_counted heap + (1 + h.length)) (first_false (nat_lt max_counted (heap_counted heap + (1 + h.length))) (is_long h.kind h.length) e) in
      let s : heap_counted (heap ++ x ∷ []) ≡ heap_counted heap + (1 + h.length) = sum_by-append cells_counted heap (x ∷ []) ∙ (λ k. heap_counted heap + counted_one x k) ∙ (λ k. heap_counted heap + ((1 + l k) + 0)) ∙ no_more (heap_counted heap) (1 + h.length) in
      subst (λ n. n ≤ max_counted) (sym s) q
    where
      no_more : (a b : ℕ) → a + (b + 0) ≡ a + b
      no_more a b = omega arith

  pub acts_lead : (a : Act) (heap : List Object) → Safe code (length heap) a → CellsLead heap → IsAfter heap (acted (firsts_of code) a heap)
  acts_lead (Comes e) heap s all = record { longer = omega arith; cells = all; ends = s; room = λ z. z }
  acts_lead (Prints line) heap s all = record { longer = omega arith; cells = all; ends = tt; room = λ z. z }
  acts_lead (Reads o i k) heap s all = let r = acts_lead (k (value_at heap o i)) heap (s (value_at heap o i) (all o i)) all in record { longer = r.longer; cells = r.cells; ends = r.ends; room = r.room }
  acts_lead (Writes o i v k) heap s all =
      let w : List Object = written heap o i v in
      let l = length_written heap o i v in
      let r = acts_lead k w (subst (λ n. Safe code n k) (sym l) s.1) (write_leads heap o i v s.0 all) in
      record { longer = let m = r.longer in omega arith; cells = r.cells; ends = r.ends; room = λ z. r.room (subst (λ n. n ≤ max_counted) (sym (same_counted w heap (headers_written heap o i v))) z) }
  acts_lead (Looks o k) heap s all = acts_lead (k (header_at heap o)) heap (s (header_at heap o)) all
  acts_lead (Makes h k) heap s all =
      let w : List Object = heap ++ new_object (firsts_of code) h ∷ [] in
      let l = length_pushed heap (new_object (firsts_of code) h) in
      let r = acts_lead (k (length heap)) w (subst (λ n. Safe code n (k (length heap))) (sym l) s.1) (make_leads heap h all) in
      finish (has_no_room h.kind h.length heap) heap h (acted (firsts_of code) (k (length heap)) w) refl s.0 all (let m = r.longer in omega arith) r.cells r.ends r.room
    where
      finish : (b : Bool) (heap : List Object) (h : Header) (a : Acted) → has_no_room h.kind h.length heap ≡ b → length (firsts_of code h) ≡ h.length → CellsLead heap → length heap ≤ length a.heap → CellsLead a.heap → EndsLead (length a.heap) a.ends → (heap_counted (heap ++ new_object (firsts_of code) h ∷ []) ≤ max_counted → heap_counted a.heap ≤ max_counted) → IsAfter heap (unless_full b a heap)
      finish false heap h a e len all m c n r = record { longer = m; cells = c; ends = n; room = λ z. r (room_made heap h len e) }
      finish true heap h a e len all m c n r = record { longer = omega arith; cells = all; ends = tt; room = λ z. z }

-- ---- words

module _ (code : Code) (n : ℕ) where
  pub operand_leads : (slots : Slots) (a : Operand) → ((k : ℕ) → LeadsIn n (unwrap_or (slice_get slots k) Null)) → PlainOperand a → LeadsIn n (operand slots a)
  operand_leads slots (In_slot k) all p = all k
  operand_leads slots (Literal v) all p = plain_leads n v p

  pub operands_lead : (slots : Slots) (args : List Operand) → ((k : ℕ) → LeadsIn n (unwrap_or (slice_get slots k) Null)) → AllByRecursion PlainOperand args → AllByRecursion (LeadsIn n) (operands slots args)
  operands_lead slots [] all p = tt
  operands_lead slots (a ∷ args) all p = (operand_leads slots a all p.0, operands_lead slots args all p.1)

  applied_safe : (e : Applied) → IfOk e IsPlain → SafeEnd n e
  applied_safe (Ok v) p = plain_leads n v p
  applied_safe (Err t) p = tt

  object_safe : (v : Value) (f : ℕ → Act) → ((o : ℕ) → Safe code n (f o)) → Safe code n (at_object v f)
  object_safe (Ref o) f k = k o
  object_safe _ f k = tt

  throws_safe : {A : Type 0} (r : Result A Thrown) (f : A → Act) → ((a : A) → Safe code n (f a)) → Safe code n (or_throws r f)
  throws_safe (Ok a) f k = k a
  throws_safe (Err t) f k = tt

  long_plain : (v : Value) → IfOk (long_in v) IsPlain
  long_plain (Long x) = tt
  long_plain _ = tt

  text_plain : (v : Value) → IfOk (text_in v) IsPlain
  text_plain (Text t) = tt
  text_plain _ = tt

  column_safe : (wanted : Value → Applied) → ((v : Value) → IfOk (wanted v) IsPlain) → (of index : Value) → Safe code n (get_column (statements_of code) wanted of index)
  column_safe wanted plain of index = object_safe of _ (λ o h v l. throws_safe (cell_in (standing (width_at (statements_of code) h) (length_in h) v) index) (λ i. Reads o i (λ x. Comes (wanted x))) (λ i x m. applied_safe (wanted x) (plain x)))

  abbrev pub SafeDoes : Does → Type 0
  SafeDoes (Works (Acts act)) = Safe code n act
  SafeDoes (Works (Operates op)) = Unit {0}
  SafeDoes (Invokes method values) = AllByRecursion (LeadsIn n) values

  operates_safe : (number : ℕ) (s : Query_of) (r : Result (List Value) Thrown) → SafeDoes (Works (operates_on number s r))
  operates_safe number s (Ok params) = tt
  operates_safe number s (Err t) = tt

  operation_safe : (number : ℕ) (s : Option Query_of) (values : List Value) → SafeDoes (Works (operation number s values))
  operation_safe number None values = tt
  operation_safe number (Some s) values = operates_safe number s (sent values)

  invokes_safe : (v : Value) (method : ℕ) (values : List Value) → LeadsIn n v → AllByRecursion (LeadsIn n) values → SafeDoes (invokes_on v method values)
  invokes_safe (Ref o) method values l all = (l, all)
  invokes_safe _ method values l all = tt

  pub words_safe : (word : Word) (slots : Slots) → ((k : ℕ) → LeadsIn n (unwrap_or (slice_get slots k) Null)) → PlainWord word → SafeDoes (does_of code word slots)
  words_safe (w.Set to a) slots all p = operand_leads slots a all p
  words_safe (w.Op op to a b) slots all p = applied_safe (apply op (operand slots a) (operand_or slots (operand slots a) b)) (given IsPlain (λ x. tt) (λ x. tt) (λ x. tt) tt op (operand slots a) (operand_or slots (operand slots a) b) (λ h. tt))
  words_safe (w.Get to of class field) slots all p = object_safe (operand slots of) (λ o. Reads o field comes) (λ o v l. l)
  words_safe (w.Put of class field a) slots all p = object_safe (operand slots of) (λ o. Writes o field (operand slots a) (comes Null)) (λ o. (operand_leads slots a all p, tt))
  words_safe (w.Load to of index) slots all p = object_safe (operand slots of) _ (λ o h. throws_safe (place_of (operand slots index) (length_in h)) (λ i. Reads o i comes) (λ i v l. l))
  words_safe (w.Store of index a) slots all p = object_safe (operand slots of) _ (λ o h. throws_safe (place_of (operand slots index) (length_in h)) (λ i. Writes o i (operand slots a) (comes Null)) (λ i. (operand_leads slots a all p, tt)))
  words_safe (w.Len to of) slots all p = object_safe (operand slots of) (λ o. Looks o (λ h. comes (size_value (length_in h)))) (λ o h. tt)
  words_safe (w.New to class site) slots all p = (refl, omega arith)
  words_safe (w.Array to element size site) slots all p = throws_safe (array_size (operand slots size)) (λ m. Makes (array_header element site m) (λ o. comes (Ref o))) (λ m. (length_replicate m (element_default element), omega arith))
  words_safe (w.Call to of method args) slots all p = invokes_safe (operand slots of) method (operands slots args) (operand_leads slots of all p.0) (operands_lead slots args all p.1)
  words_safe (w.Query to number site params) slots all p = operation_safe number (statements_of code number) (operands slots params)
  words_safe (w.Update to number params) slots all p = operation_safe number (statements_of code number) (operands slots params)
  words_safe (w.Next to of) slots all p = object_safe (operand slots of) _ (λ o h v l. (tt, tt))
  words_safe (w.Long to of index) slots all p = column_safe long_in long_plain (operand slots of) (operand slots index)
  words_safe (w.Text to of index) slots all p = column_safe text_in text_plain (operand slots of) (operand slots index)
  words_safe (w.Print a) slots all p = tt
  words_safe (w.Return None) slots all p = tt
  words_safe (w.Return (Some a)) slots all p = operand_leads slots a all p

-- ---- answers

module _ (code : Code) where
  all_safe : (n o i : ℕ) (vs : List Value) → o < n → AllByRecursion IsPlain vs → Safe code n (all_written o i vs (comes (Ref o)))
  all_safe n o i [] l all = l
  all_safe n o i (v ∷ vs) l all = (plain_leads n v all.0, all_safe n o (suc i) vs l all.1)

  rows_safe : (n number site : ℕ) (answer : Answer) → PlainAnswer answer → Safe code n (make_rows number site answer)
  rows_safe n number site (Rows width cells) p = (ap suc (length_replicate (length cells) Null), all_safe (suc n) n 1 cells (omega arith) p)
  rows_safe n number site (Count m) p = tt
  rows_safe n number site Refused p = tt

  changed_safe : (n : ℕ) (answer : Answer) → Safe code n (changed answer)
  changed_safe n (Rows width cells) = tt
  changed_safe n (Count m) = tt
  changed_safe n Refused = tt

  answer_safe : (n : ℕ) (word : Word) (answer : Answer) → PlainAnswer answer → Safe code n (answer_of word answer)
  answer_safe n (w.Query to number site params) answer p = rows_safe n number site answer p
  answer_safe n (w.Update to number params) answer p = changed_safe n answer
  answer_safe n _ answer p = tt

  pub said_safe : (n : ℕ) (word : Word) (said : Said) → PlainSaid said → Safe code n (with_said (answer_of word) said)
  said_safe n word (Answers answer) p = answer_safe n word answer p
  said_safe n word Out p = tt
