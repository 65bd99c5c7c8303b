-- A plan that keeps what is read and sends what is written meets what a run must meet.
use Rattle.std.proofs.Common.{◌≡◌, ℕ, zero, suc, ◌-◌, nat_le, Bool, true, false, ◌&&◌, ◌||◌, List, [], ◌∷◌, ◌++◌, length, Option, Some, None, is_some, unwrap_or, slice_get, slice_set, Result, Ok, Err, refl, sym, ap, ◌∙◌, subst}
use Rattle.std.specs.List.{AllByRecursion}
use Rattle.px_value.specs.declared.value.Value.{Value}
use Rattle.px_value.specs.declared.value.Value.TheVariants.{Null, Ref, Bool as Truth}
use Rattle.px_value.specs.declared.thrown.Thrown.{Thrown}
use Rattle.px_value.specs.declared.thrown.Thrown.TheVariants.{NullPointerException, SQLException, OpsOut}
use Rattle.px_value.specs.declared.header.Header.{Header}
use Rattle.px_value.specs.declared.header.Kind.{Kind}
use Rattle.px_value.specs.declared.header.Kind.TheVariants as kind
use Rattle.px_value.specs.declared.object.Object.{Object}
use Rattle.px_value.specs.declared.statement.Statement.{Statement as Query_of}
use Rattle.px_value.specs.declared.answer.Answer.{Answer}
use Rattle.px_value.specs.declared.answer.Answer.TheVariants.{Rows, Count, Refused}
use Rattle.px_value.specs.Heap.{cell_at, written}
use Rattle.px_value.specs.Operators.{Applied, apply, text_of}
use Rattle.px_effects.specs.Act.{Place as Cell}
use Rattle.px_blocks.specs.declared.side.Side.{Side}
use Rattle.px_blocks.specs.declared.side.Side.TheVariants.{App, Db}
use Rattle.px_normal.specs.declared.word.Operand.{Operand}
use Rattle.px_normal.specs.declared.word.Operand.TheVariants.{Slot as In_slot, Literal}
use Rattle.px_normal.specs.declared.word.Word.{Word}
use Rattle.px_normal.specs.declared.word.Word.TheVariants as w
use Rattle.px_blocks.specs.declared.block.Send.{Send}
use Rattle.px_blocks.specs.Sides.{other, same, same_cell}
use Rattle.px_normal.specs.First.{Slots, fresh_of, statements_of}
use Rattle.px_effects.specs.Cells.{object_header, array_header, rows_header}
use Rattle.px_effects.specs.Act.{header_of, Act, Comes, Prints, Reads, Writes, Looks, Makes, Came, Printed, header_at, value_at, new_object, has_no_room, with_place_if, Acted, quiet, also_read, also_wrote, unless_full, acted, landed}
use Rattle.px_normal.specs.Words.{Works, operand, operand_or, operands, answer_of, invokes_on, does_of, to_of, is_return}
use Rattle.px_effects.specs.Cells.{comes, or_throws, at_object, length_in, size_value, place_of, array_size}
use Rattle.px_effects.specs.Rows.{width_at, standing, moved, cell_in, long_in, text_in, get_column, all_written, make_rows, changed}
use Rattle.px_effects.specs.Operations.{sent as sent_values, operates_on, operation, Answers, Out}
use Rattle.px_blocks.specs.Plan.{Part, Field, Elements, Plan, firsts_of, part_of, kept}
use Rattle.px_blocks.specs.Machine.{Slot, Frame, just_written, values_in, slots_at, top, filled, put_in_slot, marked, named, at_home, naming, namings, Control, Machine, values_of}
use Rattle.px_ends.specs.Runs.{IsKept, SendsName, SendsOf, SendsIf, IsGoodAct, IsGood, GoodDoes}
use Rattle.px_ends.specs.Sends.{Reach, read_of, wrote_of, writes_now, kind_at, kind_named, is_print, Leads, MayWrite, IsPlaced, HasPart, LeadsThere, IsPointed, IsPointedQuery, PlacedIsGood, AnsweredIsGood}
use Rattle.px_ends.proofs.Places.{same_cell_true, header_some}
use Rattle.px_ends.proofs.HeapSteps.{header_stays}
use Rattle.px_ends.proofs.Acts.{stays}
use Rattle.px_ends.proofs.StackSteps.{filled_above, length_filled}

-- ---- places

same_refl : (m : ℕ) → same m m ≡ true
same_refl zero = refl
same_refl (suc m) = same_refl m

pub last_header : (heap : List Object) (x : Object) → header_at (heap ++ x ∷ []) (length heap) ≡ Some (header_of x)
last_header [] x = refl
last_header (y ∷ ys) x = last_header ys x

-- ---- parts

abbrev pub FitsIndex : Part → ℕ → Type 0
FitsIndex (Field f) i = i ≡ f
FitsIndex Elements i = Unit {0}

pub part_is : (k : Kind) (p : Part) (i : ℕ) → HasPart k p → FitsIndex p i → part_of k i ≡ p
part_is (kind.Object class) (Field f) i h e = ap Field e
part_is (kind.Object class) Elements i h e = absurd h
part_is (kind.Array element) (Field f) i h e = absurd h
part_is (kind.Array element) Elements i h e = refl
part_is (kind.Rows statement) (Field f) i h e = absurd h
part_is (kind.Rows statement) Elements i h e = refl

-- ---- the slots of the frame that runs, after a result

slots_filled : (frames : List Frame) (f n : ℕ) (v : Value) → slots_at (filled frames f n v) f ≡ slice_set (slots_at frames f) n (just_written v)
slots_filled [] f n v = refl
slots_filled (x ∷ frames) zero n v = refl
slots_filled (x ∷ frames) (suc f) n v = ap (λ (l : List Frame). slots_at l (suc f)) (filled_above (slice_get frames f) n v x frames f) ∙ slots_filled frames f n v

values_set : (slots : List Slot) (n : ℕ) (v : Value) → values_in (slice_set slots n (just_written v)) ≡ slice_set (values_in slots) n v
values_set [] n v = refl
values_set (s ∷ slots) zero v = refl
values_set (s ∷ slots) (suc n) v = ap (λ (vs : Slots). s.value ∷ vs) (values_set slots n v)

get_other : (xs : Slots) (n k : ℕ) (y : Value) → (k ≡ n → ⊥) → slice_get (slice_set xs n y) k ≡ slice_get xs k
get_other [] n k y e = refl
get_other (x ∷ xs) zero zero y e = absurd (e refl)
get_other (x ∷ xs) zero (suc k) y e = refl
get_other (x ∷ xs) (suc n) zero y e = refl
get_other (x ∷ xs) (suc n) (suc k) y e = get_other xs n k y (λ q. e (ap suc q))

get_same : (xs : Slots) (n : ℕ) (y : Value) → is_some (slice_get xs n) ≡ true → slice_get (slice_set xs n y) n ≡ Some y
get_same [] n y e = cc
get_same (x ∷ xs) zero y e = refl
get_same (x ∷ xs) (suc n) y e = get_same xs n y e

abbrev with_top : Control → Option ℕ → Value → Control
with_top c to v = put_in_slot (top c.frames) to v c

top_values : (c : Control) (n : ℕ) (v : Value) → values_of (with_top c (Some n) v) ≡ slice_set (values_of c) n v
top_values c n v =
    ap (λ k. values_in (slots_at (filled c.frames (top c.frames) n v) (k - 1))) (length_filled c.frames (top c.frames) n v)
    ∙ ap values_in (slots_filled c.frames (top c.frames) n v)
    ∙ values_set (slots_at c.frames (top c.frames)) n v

operand_stays : (c : Control) (n : ℕ) (v : Value) (a : Operand) → (a ≡ In_slot n → ⊥) → operand (values_of (with_top c (Some n) v)) a ≡ operand (values_of c) a
operand_stays c n v (Literal x) e = refl
operand_stays c n v (In_slot k) e =
    ap (λ (vs : Slots). unwrap_or (slice_get vs k) Null) (top_values c n v)
    ∙ ap (λ (z : Option Value). unwrap_or z Null) (get_other (values_of c) n k v (λ q. e (ap In_slot q)))

operand_comes : (c : Control) (n : ℕ) (v : Value) → is_some (slice_get (values_of c) n) ≡ true → operand (values_of (with_top c (Some n) v)) (In_slot n) ≡ v
operand_comes c n v e =
    ap (λ (vs : Slots). unwrap_or (slice_get vs n) Null) (top_values c n v)
    ∙ ap (λ (z : Option Value). unwrap_or z Null) (get_same (values_of c) n v e)

-- ---- names

home_is : (side : Side) → at_home (kind_at side) side ≡ true
home_is App = refl
home_is Db = refl

home_fits : (plan : Plan) (word : Word) (r : Reach) (h : Header) (i : ℕ) → part_of h.kind i ≡ r.part → at_home (kind_named plan word r h.site) (plan.home h.site (part_of h.kind i)) ≡ true
home_fits plan (w.Put of class field a) r h i e = ap (λ p. at_home (kind_at (plan.home h.site r.part)) (plan.home h.site p)) e ∙ home_is (plan.home h.site r.part)
home_fits plan _ r h i e = refl

-- what a word writes before any answer
may_write : (leads : Leads) (word : Word) (r : Reach) (s : ℕ) → writes_now word ≡ Some r → leads r.of s ≡ true → MayWrite leads word r s
may_write leads (w.Query to number site params) r s e h = cc
may_write leads _ r s e h = h

not_printed : (a : Applied) (line : List ℕ) → Came a ≡ Printed line → ⊥
not_printed a line e = cc

apart : false ≡ true → ⊥
apart e = cc

module _ (plan : Plan) (leads : Leads) (side : Side) (send : Option Send) (word : Word) (placed : IsPlaced plan leads side send word) (m : Machine) where
  abbrev Good : Act → Type 0
  Good act = IsGood plan side send word act m

  abbrev GoodActed : Acted → Type 0
  GoodActed a = IsGoodAct plan side send word m a

  -- ---- acts that write nothing

  quiet_sends : (a : Acted) (x : Applied) → a.writes ≡ [] → SendsIf plan side send word a x m.control
  quiet_sends a (Err t) e = tt
  quiet_sends a (Ok v) e = by_return (is_return word)
    where
      by_return : (over : Bool) → SendsOf over plan side send word a v m.control
      by_return true = e
      by_return false = λ o i k h. absurd (apart (ap (λ (cs : List Cell). marked cs o i) (sym e) ∙ k))

  quiet_good : (x : Applied) (heap : List Object) → GoodActed (quiet (Came x) heap)
  quiet_good x heap = record { reads = tt; sends = quiet_sends (quiet (Came x) heap) x refl; prints = λ line e. absurd (not_printed x line e) }

  comes_good : (x : Applied) → Good (Comes x)
  comes_good x = quiet_good x m.heap

  prints_good : is_print word ≡ true → (line : List ℕ) → Good (Prints line)
  prints_good e line = record { reads = tt; sends = quiet_sends (quiet (Printed line) m.heap) (landed m.prints (Printed line)).value refl; prints = λ l q. placed.prints e }

  object_good : (v : Value) (f : ℕ → Act) → ((o : ℕ) → v ≡ Ref o → Good (f o)) → Good (at_object v f)
  object_good (Ref o) f k = k o refl
  object_good _ f k = comes_good (Err NullPointerException)

  looks_good : (o : ℕ) (k : Option Header → Act) → Good (k (header_at m.heap o)) → Good (Looks o k)
  looks_good o k g = g

  throws_good : {A : Type 0} (r : Result A Thrown) (f : A → Act) → ((a : A) → Good (f a)) → Good (or_throws r f)
  throws_good (Ok a) f k = k a
  throws_good (Err t) f k = comes_good (Err t)

  made_good : (b : Bool) (a : Acted) → GoodActed a → GoodActed (unless_full b a m.heap)
  made_good false a g = g
  made_good true a g = quiet_good _ m.heap

  new_good : (h : Header) → Good (Makes h (λ o. comes (Ref o)))
  new_good h = made_good (has_no_room h.kind h.length m.heap) _ (quiet_good (Ok (Ref (length m.heap))) (m.heap ++ new_object (firsts_of plan.code) h ∷ []))

  -- ---- cells

  kept_there : (heap : List Object) (y : Side) (r : Reach) (o i : ℕ) → LeadsThere leads heap r (Ref o) → ((site : ℕ) → leads r.of site ≡ true → plan.keep y site r.part ≡ true) → FitsIndex r.part i → kept plan y (header_at heap o) i ≡ true
  kept_there heap y r o i l k f = pick (header_at heap o) refl
    where
      pick : (h : Option Header) → header_at heap o ≡ h → kept plan y h i ≡ true
      pick None e = refl
      pick (Some h) e = let q = l h e in ap (λ p. plan.keep y h.site p) (part_is h.kind r.part i q.1 f) ∙ k h.site q.0

  -- the send names the cell
  named_there : (heap : List Object) (r : Reach) (o i : ℕ) (d : Control) → wrote_of word ≡ Some r → LeadsThere leads heap r (Ref o) → ((h : Header) → header_at heap o ≡ Some h → MayWrite leads word r h.site) → FitsIndex r.part i → is_some (header_at heap o) ≡ true → operand (values_of d) r.of ≡ Ref o
      → kept plan (other side) (header_at heap o) i ≡ true → named plan (header_at heap o) (namings send (values_of d)) o i ≡ true
  named_there heap r o i d w l may f there v k = pick (header_at heap o) refl there k
    where
      pick : (h : Option Header) → header_at heap o ≡ h → is_some h ≡ true → kept plan (other side) h i ≡ true → named plan h (namings send (values_of d)) o i ≡ true
      pick None e t k = cc
      pick (Some h) e t k =
          let q = l h e in
          let part : part_of h.kind i ≡ r.part = part_is h.kind r.part i q.1 f in
          let sends = placed.sends r w h.site (may h e) (ap (λ p. plan.keep (other side) h.site p) (sym part) ∙ k) in
          ap (λ z. named plan (Some h) (namings z (values_of d)) o i) sends
          ∙ ap (λ z. named plan (Some h) (naming (kind_named plan word r h.site) z) o i) v
          ∙ (λ j. (same_refl o j && home_fits plan word r h i part j) || false)

  one_cell : (b : Bool) (o i o' i' : ℕ) → marked (with_place_if b (record { object = o; index = i }) []) o' i' ≡ true → (o' ≡ o) × ((i' ≡ i) × (b ≡ true))
  one_cell true o i o' i' k = let p = same_cell_true o i o' i' (none (same_cell o i o' i') k) in (p.0, (p.1, refl))
    where
      none : (b : Bool) → (b || false) ≡ true → b ≡ true
      none true e = refl
      none false e = e
  one_cell false o i o' i' k = cc

  write_sends : (heap : List Object) (r : Reach) (o i : ℕ) (v : Value) (d : Control) → wrote_of word ≡ Some r → writes_now word ≡ Some r → LeadsThere leads heap r (Ref o) → FitsIndex r.part i → operand (values_of d) r.of ≡ Ref o
      → SendsName plan side (written heap o i v) (with_place_if (is_some (cell_at heap o i)) (record { object = o; index = i }) []) send d
  write_sends heap r o i v d w x l f u o' i' k h =
      let p = one_cell (is_some (cell_at heap o i)) o i o' i' k in
      let e : header_at (written heap o i v) o' ≡ header_at heap o = header_stays heap o i v o' ∙ ap (header_at heap) p.0 in
      let q = p.1 in
      let ke : kept plan (other side) (header_at heap o) i ≡ true = (λ j. kept plan (other side) (sym e j) (sym q.0 j)) ∙ h in
      (λ j. named plan (e j) (namings send (values_of d)) (p.0 j) (q.0 j)) ∙ named_there heap r o i d w l (λ h e. may_write leads word r h.site x (l h e).0) f (header_some heap o i q.1) u ke

  module _ (pointed : IsPointed leads word m) where
    abbrev now : Slots
    now = values_of m.control

    read_kept : (r : Reach) (o i : ℕ) → read_of word ≡ Some r → operand now r.of ≡ Ref o → FitsIndex r.part i → kept plan side (header_at m.heap o) i ≡ true
    read_kept r o i w v f = kept_there m.heap side r o i (subst (LeadsThere leads m.heap r) v (pointed.reads r w)) (placed.reads r w) f

    read_good : (r : Reach) (o i : ℕ) → read_of word ≡ Some r → operand now r.of ≡ Ref o → FitsIndex r.part i → Good (Reads o i comes)
    read_good r o i w v f = record { reads = (read_kept r o i w v f, tt); sends = quiet_sends _ (Ok (value_at m.heap o i)) refl; prints = λ line e. absurd (not_printed _ line e) }

    write_good : (r : Reach) (o i : ℕ) (v : Value) → wrote_of word ≡ Some r → writes_now word ≡ Some r → operand now r.of ≡ Ref o → FitsIndex r.part i → is_return word ≡ false → to_of word ≡ None → Good (Writes o i v (comes Null))
    write_good r o i v w x u f no_return no_slot =
        let a : Acted = also_wrote (is_some (cell_at m.heap o i)) (record { object = o; index = i }) (quiet (Came (Ok Null)) (written m.heap o i v)) in
        record {
          reads = tt;
          sends = subst (λ b. SendsOf b plan side send word a Null m.control) (sym no_return)
              (subst (λ to. SendsName plan side a.heap a.writes send (with_top m.control to Null)) (sym no_slot)
              (write_sends m.heap r o i v m.control w x (subst (LeadsThere leads m.heap r) u (pointed.wrote r x)) f u));
          prints = λ line e. absurd (not_printed _ line e);
        }

    moved_good : (x b : Value) (r : Reach) (o to : ℕ) → read_of word ≡ Some r → wrote_of word ≡ Some r → writes_now word ≡ Some r → r.part ≡ Elements → operand now r.of ≡ Ref o → is_return word ≡ false → to_of word ≡ Some to → (r.of ≡ In_slot to → ⊥)
        → GoodActed (also_read (record { object = o; index = 0 }) (acted (firsts_of plan.code) (Writes o 0 x (comes b)) m.heap))
    moved_good x b r o to w u y p v no_return slot e =
        let f : FitsIndex r.part 0 = subst (λ z. FitsIndex z 0) (sym p) tt in
        let a : Acted = also_read (record { object = o; index = 0 }) (also_wrote (is_some (cell_at m.heap o 0)) (record { object = o; index = 0 }) (quiet (Came (Ok b)) (written m.heap o 0 x))) in
        record {
          reads = (ap (λ z. kept plan side z 0) (header_stays m.heap o 0 x o) ∙ read_kept r o 0 w v f, tt);
          sends = subst (λ z. SendsOf z plan side send word a b m.control) (sym no_return)
              (subst (λ z. SendsName plan side a.heap a.writes send (with_top m.control z b)) (sym slot)
              (write_sends m.heap r o 0 x (with_top m.control (Some to) b) u y (subst (LeadsThere leads m.heap r) v (pointed.wrote r y)) f (operand_stays m.control to b r.of e ∙ v)));
          prints = λ line q. absurd (not_printed _ line q);
        }

    row_good : (place : Result ℕ Thrown) (wanted : Value → Applied) (r : Reach) (o : ℕ) → read_of word ≡ Some r → r.part ≡ Elements → operand now r.of ≡ Ref o → GoodActed (also_read (record { object = o; index = 0 }) (acted (firsts_of plan.code) (or_throws place (λ i. Reads o i (λ v. Comes (wanted v)))) m.heap))
    row_good (Ok i) wanted r o w p v =
        let f : (j : ℕ) → FitsIndex r.part j = λ j. subst (λ z. FitsIndex z j) (sym p) tt in
        record { reads = (read_kept r o 0 w v (f 0), (read_kept r o i w v (f i), tt)); sends = quiet_sends _ (wanted (value_at m.heap o i)) refl; prints = λ line e. absurd (not_printed _ line e) }
    row_good (Err t) wanted r o w p v = record { reads = (read_kept r o 0 w v (subst (λ z. FitsIndex z 0) (sym p) tt), tt); sends = tt; prints = λ line e. absurd (not_printed _ line e) }

-- ---- the words

module _ (plan : Plan) (leads : Leads) (side : Side) (send : Option Send) (m : Machine) where
  abbrev slots : Slots
  slots = values_of m.control

  abbrev PlacedAt : Word → Type 0
  PlacedAt word = IsPlaced plan leads side send word

  abbrev GoodAt : Word → Type 0
  GoodAt word = GoodDoes plan side send word m (does_of plan.code word slots)

  asks_good : (word : Word) → PlacedAt word → (number : ℕ) (s : Query_of) (r : Result (List Value) Thrown) → GoodDoes plan side send word m (Works (operates_on number s r))
  asks_good word p number s (Ok params) = tt
  asks_good word p number s (Err t) = comes_good plan leads side send word p m (Err t)

  operation_good : (word : Word) → PlacedAt word → (number : ℕ) (s : Option Query_of) (values : List Value) → GoodDoes plan side send word m (Works (operation number s values))
  operation_good word p number None values = comes_good plan leads side send word p m (Ok Null)
  operation_good word p number (Some s) values = asks_good word p number s (sent_values values)

  invokes_good : (word : Word) → PlacedAt word → (v : Value) (method : ℕ) (values : List Value) → GoodDoes plan side send word m (invokes_on v method values)
  invokes_good word p (Ref o) method values = tt
  invokes_good word p _ method values = comes_good plan leads side send word p m (Err NullPointerException)

  column_good : (word : Word) → PlacedAt word → IsPointed leads word m → (of index : Operand) (wanted : Value → Applied) → read_of word ≡ Some (record { of = of; part = Elements }) → IsGood plan side send word (get_column (statements_of plan.code) wanted (operand slots of) (operand slots index)) m
  column_good word p q of index wanted reads =
      object_good plan leads side send word p m (operand slots of) _ (λ o v.
      let h = header_at m.heap o in
      row_good plan leads side send word p m q (cell_in (standing (width_at (statements_of plan.code) h) (length_in h) (value_at m.heap o 0)) (operand slots index)) wanted (record { of = of; part = Elements }) o reads refl v)

  by_word : (word : Word) → PlacedAt word → IsPointed leads word m → GoodAt word
  by_word (w.Set to a) p q = comes_good plan leads side send _ p m (Ok (operand slots a))
  by_word (w.Op op to a b) p q = comes_good plan leads side send _ p m (apply op (operand slots a) (operand_or slots (operand slots a) b))
  by_word (w.Get to of class field) p q = object_good plan leads side send _ p m (operand slots of) (λ o. Reads o field comes) (λ o v. read_good plan leads side send _ p m q (record { of = of; part = Field field }) o field refl v refl)
  by_word (w.Put of class field a) p q = object_good plan leads side send _ p m (operand slots of) (λ o. Writes o field (operand slots a) (comes Null)) (λ o v. write_good plan leads side send _ p m q (record { of = of; part = Field field }) o field (operand slots a) refl refl v refl refl refl)
  by_word (w.Load to of index) p q = object_good plan leads side send _ p m (operand slots of) _ (λ o v. throws_good plan leads side send _ p m (place_of (operand slots index) (length_in (header_at m.heap o))) (λ i. Reads o i comes) (λ i. read_good plan leads side send _ p m q (record { of = of; part = Elements }) o i refl v tt))
  by_word (w.Store of index a) p q = object_good plan leads side send _ p m (operand slots of) _ (λ o v. throws_good plan leads side send _ p m (place_of (operand slots index) (length_in (header_at m.heap o))) (λ i. Writes o i (operand slots a) (comes Null)) (λ i. write_good plan leads side send _ p m q (record { of = of; part = Elements }) o i (operand slots a) refl refl v tt refl refl))
  by_word (w.Len to of) p q = object_good plan leads side send _ p m (operand slots of) _ (λ o v. comes_good plan leads side send _ p m (Ok (size_value (length_in (header_at m.heap o)))))
  by_word (w.New to class site) p q = new_good plan leads side send _ p m (object_header (fresh_of plan.code) class site)
  by_word (w.Array to element size site) p q = throws_good plan leads side send _ p m (array_size (operand slots size)) (λ n. Makes (array_header element site n) (λ o. comes (Ref o))) (λ n. new_good plan leads side send _ p m (array_header element site n))
  by_word (w.Call to of method args) p q = invokes_good _ p (operand slots of) method (operands slots args)
  by_word (w.Query to number site params) p q = operation_good _ p number (statements_of plan.code number) (operands slots params)
  by_word (w.Update to number params) p q = operation_good _ p number (statements_of plan.code number) (operands slots params)
  by_word (w.Next to of) p q = object_good plan leads side send _ p m (operand slots of) _ (λ o v.
      let h = header_at m.heap o in
      let place = standing (width_at (statements_of plan.code) h) (length_in h) (value_at m.heap o 0) in
      moved_good plan leads side send _ p m q (size_value (moved place)) (Truth (nat_le (moved place) place.rows)) (record { of = of; part = Elements }) o to refl refl refl refl v refl refl q.kept_receiver)
  by_word (w.Long to of index) p q = column_good _ p q of index long_in refl
  by_word (w.Text to of index) p q = column_good _ p q of index text_in refl
  by_word (w.Print a) p q = prints_good plan leads side send _ p m refl (text_of (operand slots a))
  by_word (w.Return None) p q = comes_good plan leads side send _ p m (Ok Null)
  by_word (w.Return (Some a)) p q = comes_good plan leads side send _ p m (Ok (operand slots a))

pub placed_is_good : PlacedIsGood
placed_is_good plan leads side send word m placed pointed = by_word plan leads side send m word placed pointed

-- ---- an answer

module _ (plan : Plan) where
  all_reads : (o i : ℕ) (vs : List Value) (heap : List Object) → (acted (firsts_of plan.code) (all_written o i vs (comes (Ref o))) heap).reads ≡ []
  all_reads o i [] heap = refl
  all_reads o i (v ∷ vs) heap = all_reads o (suc i) vs (written heap o i v)

  all_ends : (o i : ℕ) (vs : List Value) (heap : List Object) → (acted (firsts_of plan.code) (all_written o i vs (comes (Ref o))) heap).ends ≡ Came (Ok (Ref o))
  all_ends o i [] heap = refl
  all_ends o i (v ∷ vs) heap = all_ends o (suc i) vs (written heap o i v)

  all_writes : (o i : ℕ) (vs : List Value) (heap : List Object) (o' i' : ℕ) → marked (acted (firsts_of plan.code) (all_written o i vs (comes (Ref o))) heap).writes o' i' ≡ true → o' ≡ o
  all_writes o i [] heap o' i' k = cc
  all_writes o i (v ∷ vs) heap o' i' k = pick (is_some (cell_at heap o i)) k (all_writes o (suc i) vs (written heap o i v) o' i')
    where
      rest : List Cell
      rest = (acted (firsts_of plan.code) (all_written o (suc i) vs (comes (Ref o))) (written heap o i v)).writes

      here : (s : Bool) → same_cell o i o' i' ≡ s → (s || marked rest o' i') ≡ true → (marked rest o' i' ≡ true → o' ≡ o) → o' ≡ o
      here true e k f = let p = same_cell_true o i o' i' e in p.0
      here false e k f = f k

      pick : (b : Bool) → marked (with_place_if b (record { object = o; index = i }) rest) o' i' ≡ true → (marked rest o' i' ≡ true → o' ≡ o) → o' ≡ o
      pick true k f = here (same_cell o i o' i') refl k f
      pick false k f = f k

module _ (plan : Plan) (leads : Leads) (side : Side) (send : Option Send) (m : Machine) (to number site : ℕ) (params : List Operand)
    (placed : IsPlaced plan leads side send (w.Query to number site params)) (pointed : IsPointedQuery leads (w.Query to number site params) m.control) where
  abbrev query : Word
  query = w.Query to number site params

  same_some : (a b : Header) → Some a ≡ Some b → a ≡ b
  same_some a b e = cc

  filled_good : (values : List Value) (o n : ℕ) (heap : List Object) → header_at heap o ≡ Some (record { kind = kind.Rows number; site = site; length = n }) → IsGoodAct plan side send query m (acted (firsts_of plan.code) (all_written o 1 values (comes (Ref o))) heap)
  filled_good values o n heap there = record {
    reads = subst (AllByRecursion (IsKept plan side after.heap)) (sym (all_reads plan o 1 values heap)) tt;
    sends = subst (λ z. SendsIf plan side send query after (landed m.prints z).value m.control) (sym (all_ends plan o 1 values heap)) sends;
    prints = λ line e. absurd (not_printed (Ok (Ref o)) line (sym (all_ends plan o 1 values heap) ∙ e));
  }
    where
      after : Acted
      after = acted (firsts_of plan.code) (all_written o 1 values (comes (Ref o))) heap

      h : Header
      h = record { kind = kind.Rows number; site = site; length = n }

      r : Reach
      r = record { of = In_slot to; part = Elements }

      now_there : header_at after.heap o ≡ Some h
      now_there = stays plan (all_written o 1 values (comes (Ref o))) heap o (ap is_some there) ∙ there

      led : LeadsThere leads after.heap r (Ref o)
      led h' x = subst (λ (z : Header). (leads r.of z.site ≡ true) × HasPart z.kind Elements) (same_some h h' (sym now_there ∙ x)) (pointed.0, tt)

      sends : SendsName plan side after.heap after.writes send (with_top m.control (Some to) (Ref o))
      sends o' i' x k =
          let p : o' ≡ o = all_writes plan o 1 values heap o' i' x in
          let ke : kept plan (other side) (header_at after.heap o) i' ≡ true = ap (λ z. kept plan (other side) (header_at after.heap z) i') (sym p) ∙ k in
          (λ j. named plan (header_at after.heap (p j)) (namings send (values_of (with_top m.control (Some to) (Ref o)))) (p j) i')
          ∙ named_there plan leads side send query placed m after.heap r o i' (with_top m.control (Some to) (Ref o)) refl led (λ h' x. ap (λ (z : Header). z.site) (same_some h' h (sym x ∙ now_there))) tt (ap is_some now_there) (operand_comes m.control to (Ref o) pointed.1) ke

  rows_good : (answer : Answer) → IsGood plan side send query (make_rows number site answer) m
  rows_good (Rows width cells) =
      let h : Header = rows_header number site (length cells) in
      let with_it : List Object = m.heap ++ new_object (firsts_of plan.code) h ∷ [] in
      made_good plan leads side send query placed m (has_no_room h.kind h.length m.heap) (acted (firsts_of plan.code) (all_written (length m.heap) 1 cells (comes (Ref (length m.heap)))) with_it)
      (filled_good cells (length m.heap) (length (firsts_of plan.code h)) with_it (last_header m.heap (new_object (firsts_of plan.code) h)))
  rows_good (Count n) = comes_good plan leads side send query placed m (Ok Null)
  rows_good Refused = comes_good plan leads side send query placed m (Ok Null)

module _ (plan : Plan) (leads : Leads) (side : Side) (send : Option Send) (m : Machine) where
  changed_good : (word : Word) → IsPlaced plan leads side send word → (answer : Answer) → IsGood plan side send word (changed answer) m
  changed_good word p (Count n) = comes_good plan leads side send word p m (Ok (size_value n))
  changed_good word p Refused = comes_good plan leads side send word p m (Err SQLException)
  changed_good word p (Rows width cells) = comes_good plan leads side send word p m (Ok Null)

  answer_good : (word : Word) (answer : Answer) → IsPlaced plan leads side send word → IsPointedQuery leads word m.control → IsGood plan side send word (answer_of word answer) m
  answer_good (w.Query to number site params) answer p q = rows_good plan leads side send m to number site params p q answer
  answer_good (w.Update to number params) answer p q = changed_good (w.Update to number params) p answer
  answer_good word answer p q = comes_good plan leads side send _ p m (Ok Null)

pub answered_is_good : AnsweredIsGood
answered_is_good plan leads side send word Out m placed pointed = comes_good plan leads side send word placed m (Err OpsOut)
answered_is_good plan leads side send word (Answers answer) m placed pointed = answer_good plan leads side send m word answer placed pointed
