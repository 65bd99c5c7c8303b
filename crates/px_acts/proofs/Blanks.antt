-- The values of rows are written into blank cells of a new object, one after the other.
use Rattle.std.proofs.Common.{◌≡◌, ℕ, suc, Bool, true, false, List, [], ◌∷◌, ◌++◌, length, replicate, pos, Option, Some, Ok, Err, Result, is_some, slice_get, slice_set, refl, sym, ap, ◌∙◌, subst}
use Rattle.std.specs.Result.{IsErrAnd}
use Rattle.px_value.specs.declared.value.Value.{Value}
use Rattle.px_value.specs.declared.value.Value.TheVariants.{Int, Null, Ref}
use Rattle.px_value.specs.declared.object.Object.{Object}
use Rattle.px_value.specs.declared.header.Header.{Header}
use Rattle.px_value.specs.Heap.{with_cell, written, cell_at, cell_of}
use Rattle.px_value.specs.declared.header.Kind.TheVariants as kind
use Rattle.px_value.specs.declared.thrown.Thrown.{Thrown}
use Rattle.px_value.specs.declared.thrown.Thrown.TheVariants.{HeapFull}
use Rattle.px_value.specs.declared.answer.Answer.TheVariants.{Rows}
use Rattle.px_effects.specs.Act.{Firsts, Acted, acted, Came, quiet, unless_full, has_no_room, also_wrote, Place as Cell}
use Rattle.px_effects.specs.Cells.{comes, Fresh, first_cells, rows_header}
use Rattle.px_effects.specs.Rows.{all_written, make_rows}
use Rattle.px_acts.specs.declared.stop.Stop.{Stop}
use Rattle.px_acts.specs.declared.stop.Stop.TheVariants.{Threw, NoMemory}
use Rattle.px_acts.proofs.Making.{header, Allocates}
use Rattle.px_acts.specs.Places.{cells_from}
use Rattle.px_acts.specs.declared.rows.Made.{Made}
use Rattle.px_acts.specs.Ends.{IsEnd, Stops, Makes}

last_at : (heap : List Object) (o : Object) → slice_get (heap ++ o ∷ []) (length heap) ≡ Some o
last_at [] o = refl
last_at (x ∷ heap) o = last_at heap o

last_set : (heap : List Object) (o n : Object) → slice_set (heap ++ o ∷ []) (length heap) n ≡ heap ++ n ∷ []
last_set [] o n = refl
last_set (x ∷ heap) o n = ap (λ (xs : List Object). x ∷ xs) (last_set heap o n)

set_behind : (front rest : List Value) (w v : Value) → slice_set (front ++ w ∷ rest) (length front) v ≡ (front ++ v ∷ []) ++ rest
set_behind [] rest w v = refl
set_behind (x ∷ front) rest w v = ap (λ (xs : List Value). x ∷ xs) (set_behind front rest w v)

get_behind : (front rest : List Value) (w : Value) → slice_get (front ++ w ∷ rest) (length front) ≡ Some w
get_behind [] rest w = refl
get_behind (x ∷ front) rest w = get_behind front rest w

one_longer : (front : List Value) (v : Value) → suc (length front) ≡ length (front ++ v ∷ [])
one_longer [] v = refl
one_longer (x ∷ front) v = ap suc (one_longer front v)

one_behind : (front rest : List Value) (v : Value) → (front ++ v ∷ []) ++ rest ≡ front ++ v ∷ rest
one_behind [] rest v = refl
one_behind (x ∷ front) rest v = ap (λ (xs : List Value). x ∷ xs) (one_behind front rest v)

-- one more cell was written before
also : (there : Bool) (p : Cell) (a : Acted) (v : Value) (cells : List Cell) (heap : List Object) → there ≡ true → IsEnd a (Ok v) cells heap → IsEnd (also_wrote there p a) (Ok v) (p ∷ cells) heap
also true p a v cells heap h e = record { comes = e.comes; wrote = ap (λ (cs : List Cell). p ∷ cs) e.wrote; left = e.left }
also false p a v cells heap h e = absurd cc

module _ (heap : List Object) (h : Header) where
  abbrev pub last : List Value → List Object
  last cells = heap ++ record { header = h; cells = cells } ∷ []

  last_written : (front rest : List Value) (w v : Value) → written (last (front ++ w ∷ rest)) (length heap) (length front) v ≡ last ((front ++ v ∷ []) ++ rest)
  last_written front rest w v =
      let o : Object = record { header = h; cells = front ++ w ∷ rest } in
      ap (λ (x : Option Object). with_cell x (length front) v (last (front ++ w ∷ rest)) (length heap)) (last_at heap o)
      ∙ last_set heap o (record { header = h; cells = slice_set (front ++ w ∷ rest) (length front) v })
      ∙ ap last (set_behind front rest w v)

  last_cell : (front rest : List Value) (w : Value) → is_some (cell_at (last (front ++ w ∷ rest)) (length heap) (length front)) ≡ true
  last_cell front rest w =
      let o : Object = record { header = h; cells = front ++ w ∷ rest } in
      ap (λ (x : Option Object). is_some (cell_of x (length front))) (last_at heap o) ∙ ap (λ (x : Option Value). is_some x) (get_behind front rest w)

  abbrev place : ℕ → Cell
  place i = record { object = length heap; index = i }

  -- blank cells are written one after the other
  pub blanks : (firsts : Firsts) (front cells : List Value) (v : Value)
      → IsEnd (acted firsts (all_written (length heap) (length front) cells (comes v)) (last (front ++ replicate (length cells) Null))) (Ok v) (cells_from (length heap) (length front) (length cells)) (last (front ++ cells))
  blanks firsts front [] v = record { comes = refl; wrote = refl; left = refl }
  blanks firsts front (c ∷ cells) v =
      let rest = replicate (length cells) Null in
      let there = blanks firsts (front ++ c ∷ []) cells v in
      let started = subst (λ (n : ℕ). IsEnd (acted firsts (all_written (length heap) n cells (comes v)) (last ((front ++ c ∷ []) ++ rest))) (Ok v) (cells_from (length heap) n (length cells)) (last ((front ++ c ∷ []) ++ cells))) (sym (one_longer front c)) there in
      let blank = subst (λ (x : List Object). IsEnd (acted firsts (all_written (length heap) (suc (length front)) cells (comes v)) x) (Ok v) (cells_from (length heap) (suc (length front)) (length cells)) (last ((front ++ c ∷ []) ++ cells))) (sym (last_written front rest Null c)) started in
      let ended = subst (λ (x : List Object). IsEnd (acted firsts (all_written (length heap) (suc (length front)) cells (comes v)) (written (last (front ++ Null ∷ rest)) (length heap) (length front) c)) (Ok v) (cells_from (length heap) (suc (length front)) (length cells)) x) (ap last (one_behind front cells c)) blank in
      also (is_some (cell_at (last (front ++ Null ∷ rest)) (length heap) (length front))) (place (length front)) (acted firsts (all_written (length heap) (suc (length front)) cells (comes v)) (written (last (front ++ Null ∷ rest)) (length heap) (length front) c)) v
      (cells_from (length heap) (suc (length front)) (length cells)) (last (front ++ c ∷ cells)) (last_cell front rest Null) ended

-- ---- a result set

-- where the object is made, its values are written too
many_made : (full : Bool) (many : Acted) (heap whole new : List Object) (x v : Value) (cells : List Cell)
    → IsEnd (unless_full full (quiet (Came (Ok x)) whole) heap) (Ok v) [] new → IsEnd many (Ok x) cells whole → IsEnd (unless_full full many heap) (Ok v) cells new
many_made true many heap whole new x v cells h e = absurd (not_full (h.comes))
  where
    not_full : Came (Err HeapFull) ≡ Came (Ok v) → ⊥
    not_full q = absurd cc
many_made false many heap whole new x v cells h e = record { comes = e.comes ∙ h.comes; wrote = e.wrote; left = e.left ∙ h.left }

none_made : (full : Bool) (many : Acted) (heap whole new : List Object) (x : Value) (t : Thrown)
    → IsEnd (unless_full full (quiet (Came (Ok x)) whole) heap) (Err t) [] new → IsEnd (unless_full full many heap) (Err t) [] new
none_made true many heap whole new x t h = record { comes = h.comes; wrote = refl; left = h.left }
none_made false many heap whole new x t h = absurd (not_made h.comes)
  where
    not_made : Came (Ok x) ≡ Came (Err t) → ⊥
    not_made q = absurd cc

stopped : (full : Bool) (many : Acted) (heap whole new : List Object) (x : Value) (e : Stop)
    → Stops (unless_full full (quiet (Came (Ok x)) whole) heap) e new → Stops (unless_full full many heap) e new
stopped full many heap whole new x (Threw t) h = none_made full many heap whole new x t h
stopped full many heap whole new x NoMemory h = tt

makes_stopped : (a : Acted) (r : Result Made Stop) (e : Stop) (heap : List Object) → IsErrAnd r (λ y. y ≡ e) → Stops a e heap → Makes a r heap
makes_stopped a (Ok m) e heap i h = absurd i
makes_stopped a (Err y) e heap i h = subst (λ (x : Stop). Stops a x heap) (sym i) h

module _ (fresh : Fresh) (number site width : ℕ) (cells all : List Value) (heap new : List Object) (is : all ≡ Int (pos 0) ∷ cells) where
  abbrev full : List Value → Bool
  full vs = has_no_room (kind.Rows number) (length vs) heap

  abbrev one : Value
  one = Ref (length heap)

  abbrev with_all : List Value → Acted
  with_all vs = unless_full (full vs) (quiet (Came (Ok one)) (heap ++ record { header = header (kind.Rows number) site (length vs); cells = vs } ∷ [])) heap

  pub rows_done : (object : ℕ) (v : Value) → object ≡ length heap → Allocates (kind.Rows number) site all heap (Ok v) new
      → IsEnd (acted (first_cells fresh) (make_rows number site (Rows width cells)) heap) (Ok v) (cells_from object 1 (length cells)) new
  rows_done object v at h =
      subst (λ (n : ℕ). IsEnd (acted (first_cells fresh) (make_rows number site (Rows width cells)) heap) (Ok v) (cells_from n 1 (length cells)) new) (sym at) (
      let made = subst (λ (vs : List Value). IsEnd (with_all vs) (Ok v) [] new) is (h (λ _. all) refl) in
      many_made (full (Int (pos 0) ∷ cells)) _ heap (last heap (rows_header number site (length cells)) (Int (pos 0) ∷ cells)) new one v (cells_from (length heap) 1 (length cells)) made
      (blanks heap (rows_header number site (length cells)) (first_cells fresh) (Int (pos 0) ∷ []) cells one))

  pub rows_stopped : (e : Stop) (r : Result Made Stop) → IsErrAnd r (λ y. y ≡ e) → Allocates (kind.Rows number) site all heap (Err e) new
      → Makes (acted (first_cells fresh) (make_rows number site (Rows width cells)) heap) r new
  rows_stopped e r q h =
      let none = subst (λ (vs : List Value). Stops (with_all vs) e new) is (h (λ _. all) refl) in
      makes_stopped _ r e new q (stopped (full (Int (pos 0) ∷ cells)) _ heap (last heap (rows_header number site (length cells)) (Int (pos 0) ∷ cells)) new one e none)
