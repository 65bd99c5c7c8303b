-- The updates of an end reach the other end.
use Rattle.std.proofs.Common.{◌≡◌, ℕ, zero, suc, ◌<◌, Bool, true, false, cond, ◌==◌, ◌||◌, List, [], ◌∷◌, map, length, Option, Some, None, is_some, slice_get, slice_index_or, if◌then◌else◌, option_and_then, Contains, refl, sym, ap, subst, ◌∙◌, eqb-true, arith}
use Rattle.std.proofs.lemmas.Bool.{and_parts, and_from, eq-eqb, lt-ltb}
use Rattle.std.proofs.lemmas.List.{drop_all}
use Rattle.std.specs.List.{AllByRecursion}
use Rattle.px_value.specs.declared.value.Value.{Value}
use Rattle.px_value.specs.declared.value.Value.TheVariants as v
use Rattle.px_value.specs.declared.object.Object.{Object}
use Rattle.px_value.specs.declared.header.Header.{Header}
use Rattle.px_value.specs.Heap.{cell_at, cell_of, header_of, written}
use Rattle.px_code.specs.declared.side.Side.{Side}
use Rattle.px_code.specs.declared.side.Side.TheVariants.{App, Db}
use Rattle.px_code.specs.declared.plan.Plan.{Plan}
use Rattle.px_code.specs.Places.{other, home_in}
use Rattle.px_code.specs.Fits.{header_at, Fits, Leads}
use Rattle.px_code.specs.Machine.{Machine}
use Rattle.px_wire.specs.declared.cell.CellAt.{CellAt}
use Rattle.px_wire.specs.declared.updates.Updates.{Updates}
use Rattle.px_half.specs.Messages.{is_marked, is_named, travels, AreUpdates}
use Rattle.px_half.specs.Absorbed.{leads, cell_fits, cells_fit, if_cells_fit, with_cells, with_news, with_room}
use Rattle.px_pair.specs.Agree.{KeepsCell, CopiesAgree, Agree}
use Rattle.px_pair.specs.Crossing.{HeapCrosses}
use Rattle.px_pair.proofs.Heaps.{put, at_cell, cell_written, header_written}

-- ---- what is where

pub same_places : (o i o' i' : ℕ) → at_cell o i o' i' ≡ true → (o ≡ o') × (i ≡ i')
same_places o i o' i' h =
    let both = and_parts (o == o') (i == i') h in
    (eqb-true o o' both.0, eqb-true i i' both.1)

or_here : (a b : Bool) → a ≡ true → (a || b) ≡ true
or_here true b h = refl
or_here false b h = cc

or_later : (a b : Bool) → b ≡ true → (a || b) ≡ true
or_later true b h = refl
or_later false b h = h

pub still_there : (b : Bool) (v : Value) (n : Option Value) → is_some (cond b (put v n) n) ≡ is_some n
still_there true v None = refl
still_there true v (Some n) = refl
still_there false v n = refl

-- an object is there if one of its cells is
has_header : (x : Option Object) (i : ℕ) (v : Value) → cell_of x i ≡ Some v → (h : Header) × (header_of x ≡ Some h)
has_header None i v e = cc
has_header (Some o) i v e = (o.header, refl)

is_below : (heap : List Object) (o : ℕ) (h : Header) → header_at heap o ≡ Some h → o < length heap
is_below [] o h e = cc
is_below (x ∷ heap) zero h e = omega arith
is_below (x ∷ heap) (suc o) h e = let below = is_below heap o h e in omega (arith, below)

-- ---- cells that are written into a heap

-- one of these cells is the one at this place
abbrev pub has_cell : List CellAt → ℕ → ℕ → Bool
has_cell [] o i = false
has_cell (c ∷ cells) o i = at_cell c.object c.index o i || has_cell cells o i

found_at : (c : CellAt) (cells : List CellAt) (x : CellAt) → (Contains cells x → has_cell cells x.object x.index ≡ true) → (k : ℕ) → k < length (c ∷ cells) → slice_index_or (c ∷ cells) k x ≡ x → has_cell (c ∷ cells) x.object x.index ≡ true
found_at c cells x later zero l e =
    or_here (at_cell c.object c.index x.object x.index) (has_cell cells x.object x.index)
    (and_from (c.object == x.object) (c.index == x.index) (eq-eqb c.object x.object (ap (λ (y : CellAt). y.object) e)) (eq-eqb c.index x.index (ap (λ (y : CellAt). y.index) e)))
found_at c cells x later (suc k) l e = or_later (at_cell c.object c.index x.object x.index) (has_cell cells x.object x.index) (later (k, omega (arith, l), e))

pub has_found : (cells : List CellAt) (x : CellAt) → Contains cells x → has_cell cells x.object x.index ≡ true
has_found [] x h = absurd (let l = h.1 in omega (arith, l))
has_found (c ∷ cells) x h = found_at c cells x (has_found cells x) h.0 h.1 h.2

header_with : (cells : List CellAt) (heap : List Object) (o : ℕ) → header_at (with_cells cells heap) o ≡ header_at heap o
header_with [] heap o = refl
header_with (c ∷ cells) heap o = header_with cells (written heap c.object c.index c.value) o ∙ header_written heap c.object c.index c.value o

joined : (b more : Bool) (v : Value) (n s : Option Value) → is_some n ≡ is_some s → (b ≡ true → s ≡ Some v) → cond more s (cond b (put v n) n) ≡ cond (b || more) s n
joined false more v n s there e = refl
joined true true v n s there e = refl
joined true false v None s there e = let none : false ≡ true = there ∙ ap (λ (x : Option Value). is_some x) (e refl) in cc
joined true false v (Some w) s there e = sym (e refl)

none_alike : (f w : Option Value) → w ≡ None → is_some f ≡ is_some w → f ≡ w
none_alike None w e there = sym e
none_alike (Some x) w e there = let some : true ≡ false = there ∙ ap (λ (y : Option Value). is_some y) e in cc

other_other : (side : Side) → other (other side) ≡ side
other_other App = refl
other_other Db = refl

module _ (plan : Plan) (near : Machine) where
  -- these cells travel, with the values that they have
  abbrev AreTold : List CellAt → Type 0
  AreTold cells = AllByRecursion (λ (c : CellAt). (travels (Some plan) near c.object c.index ≡ true) × (cell_at near.heap c.object c.index ≡ Some c.value)) cells

  travels_marked : (o i : ℕ) → travels (Some plan) near o i ≡ true → is_marked near.marks o i ≡ true
  travels_marked o i h = (and_parts (is_marked near.marks o i) (is_named near.named (home_in plan.code plan.placement.sides (header_at near.heap o) i) o) h).0

  has_marked : (cells : List CellAt) (o i : ℕ) → AreTold cells → has_cell cells o i ≡ true → is_marked near.marks o i ≡ true
  has_marked [] o i told h = cc
  has_marked (c ∷ cells) o i told h = split (at_cell c.object c.index o i) refl (has_marked cells o i told.1)
    where
      split : (b : Bool) → at_cell c.object c.index o i ≡ b → (has_cell cells o i ≡ true → is_marked near.marks o i ≡ true) → is_marked near.marks o i ≡ true
      split true e later =
          let here = same_places c.object c.index o i e in
          (λ k. is_marked near.marks (sym here.0 k) (sym here.1 k)) ∙ travels_marked c.object c.index told.0.0
      split false e later = later (ap (λ b. b || has_cell cells o i) (sym e) ∙ h)

  -- what is among these cells has its value here, and all else stays
  cell_with : (cells : List CellAt) (heap : List Object) (o i : ℕ) → AreTold cells → is_some (cell_at heap o i) ≡ is_some (cell_at near.heap o i) → cell_at (with_cells cells heap) o i ≡ cond (has_cell cells o i) (cell_at near.heap o i) (cell_at heap o i)
  cell_with [] heap o i told there = refl
  cell_with (c ∷ cells) heap o i told there =
      let b : Bool = at_cell c.object c.index o i in
      let n : Option Value = cell_at heap o i in
      let now = cell_written heap c.object c.index c.value o i in
      cell_with cells (written heap c.object c.index c.value) o i told.1 (ap (λ (x : Option Value). is_some x) now ∙ still_there b c.value n ∙ there)
      ∙ ap (λ (x : Option Value). cond (has_cell cells o i) (cell_at near.heap o i) x) now
      ∙ joined b (has_cell cells o i) c.value n (cell_at near.heap o i) there value
    where
      value : at_cell c.object c.index o i ≡ true → cell_at near.heap o i ≡ Some c.value
      value e =
          let here = same_places c.object c.index o i e in
          (λ k. cell_at near.heap (sym here.0 k) (sym here.1 k)) ∙ told.0.1

  there_with : (cells : List CellAt) (heap : List Object) (o i : ℕ) → is_some (cell_at (with_cells cells heap) o i) ≡ is_some (cell_at heap o i)
  there_with [] heap o i = refl
  there_with (c ∷ cells) heap o i =
      there_with cells (written heap c.object c.index c.value) o i
      ∙ ap (λ (x : Option Value). is_some x) (cell_written heap c.object c.index c.value o i)
      ∙ still_there (at_cell c.object c.index o i) c.value (cell_at heap o i)

  module _ (side : Side) (far one : Machine) (agree : Agree plan side near far one) where
    -- ---- all of it is there

    module _ (fits : Fits plan.code one.heap) where
      leads_there : (o i : ℕ) (x : Value) → cell_at one.heap o i ≡ Some x → leads far.heap x ≡ true
      leads_there o i (v.Int n) e = refl
      leads_there o i (v.Long n) e = refl
      leads_there o i (v.Bool b) e = refl
      leads_there o i (v.Text s) e = refl
      leads_there o i v.Null e = refl
      leads_there o i (v.Ref target) e =
          let of = has_header (slice_get one.heap o) i (v.Ref target) e in
          let l : Leads plan.code one.heap _ target = fits.leads o i target of.0 e of.1 in
          lt-ltb target (length far.heap) (is_below far.heap target l.header (agree.far_headers target ∙ l.there))

      cell_fits_there : (c : CellAt) → travels (Some plan) near c.object c.index ≡ true → cell_at near.heap c.object c.index ≡ Some c.value → cell_fits far.heap c ≡ true
      cell_fits_there c moves e =
          let copies : CopiesAgree plan side near far one.heap c.object c.index = agree.copies c.object c.index in
          and_from (is_some (cell_at far.heap c.object c.index)) (leads far.heap c.value)
          (copies.far_there ∙ sym copies.near_there ∙ ap (λ (x : Option Value). is_some x) e)
          (leads_there c.object c.index c.value (sym (copies.written (travels_marked c.object c.index moves)) ∙ e))

      all_fit : (cells : List CellAt) → AreTold cells → cells_fit cells far.heap ≡ true
      all_fit [] told = refl
      all_fit (c ∷ cells) told = and_from (cell_fits far.heap c) (cells_fit cells far.heap) (cell_fits_there c told.0.0 told.0.1) (all_fit cells told.1)

    -- ---- the newest value

    module _ (u : Updates) (is : AreUpdates (Some plan) (length near.heap) near u) where
      abbrev after : List Object
      after = with_cells u.cells far.heap

      no_headers : u.headers ≡ []
      no_headers = is.headers ∙ ap (λ (l : List Object). map (λ (o : Object). o.header) l) (drop_all (length near.heap) near.heap (omega arith))

      has_room : Fits plan.code one.heap → with_room plan u far.heap ≡ Some far.heap
      has_room fits =
          ap (λ (hs : List Header). option_and_then (if_cells_fit u.cells) (with_news plan.code hs far.heap)) no_headers
          ∙ ap (λ b. if b then Some far.heap else None) (all_fit fits u.cells is.cells.travel)

      newest : (o i : ℕ) → KeepsCell plan (other side) one.heap o i → cell_at after o i ≡ cell_at one.heap o i
      newest o i keeps =
          cell_with u.cells far.heap o i is.cells.travel (copies.far_there ∙ sym copies.near_there)
          ∙ by_cells (has_cell u.cells o i) refl
        where
          copies : CopiesAgree plan side near far one.heap o i
          copies = agree.copies o i

          by_value : (x : Option Value) → cell_at near.heap o i ≡ x → is_marked near.marks o i ≡ true → has_cell u.cells o i ≡ false → cell_at far.heap o i ≡ cell_at one.heap o i
          by_value None n marked e = none_alike (cell_at far.heap o i) (cell_at one.heap o i) (sym (copies.written marked) ∙ n) copies.far_there
          by_value (Some x) n marked e =
              let moves : travels (Some plan) near o i ≡ true =
              and_from (is_marked near.marks o i) (is_named near.named (home_in plan.code plan.placement.sides (header_at near.heap o) i) o) marked
              (ap (λ (h : Option Header). is_named near.named (home_in plan.code plan.placement.sides h i) o) (agree.near_headers o) ∙ agree.named o i marked keeps) in
              let there : has_cell u.cells o i ≡ true = has_found u.cells (record { object = o; index = i; value = x }) (is.cells.all o i x moves n) in
              let never : false ≡ true = sym e ∙ there in
              cc

          by_mark : (b : Bool) → is_marked near.marks o i ≡ b → has_cell u.cells o i ≡ false → cell_at far.heap o i ≡ cell_at one.heap o i
          by_mark true marked e = by_value (cell_at near.heap o i) refl marked e
          by_mark false marked e = copies.far_kept keeps marked

          by_cells : (b : Bool) → has_cell u.cells o i ≡ b → cond b (cell_at near.heap o i) (cell_at far.heap o i) ≡ cell_at one.heap o i
          by_cells true e = copies.written (has_marked u.cells o i is.cells.travel e)
          by_cells false e = by_mark (is_marked near.marks o i) refl e

      copies_after : (o i : ℕ) → CopiesAgree plan (other side) (record far { heap = after; marks = [] }) near one.heap o i
      copies_after o i =
          let copies : CopiesAgree plan side near far one.heap o i = agree.copies o i in
          record {
            near_there = there_with u.cells far.heap o i ∙ copies.far_there;
            far_there = copies.near_there;
            kept = newest o i;
            written = λ h. let never : false ≡ true = h in cc;
            far_kept = λ keeps h. copies.kept (subst (λ (y : Side). KeepsCell plan y one.heap o i) (other_other side) keeps);
          }

pub heap_crosses : HeapCrosses
heap_crosses plan side near far one u agree fits is = record {
  room = has_room plan near side far one agree u is fits;
  headers = λ o. header_with u.cells far.heap o ∙ agree.far_headers o;
  copies = copies_after plan near side far one agree u is;
}
