-- What acts come to that make an object.
use Rattle.std.proofs.Common.{◌≡◌, ℕ, suc, Bool, true, false, if◌then◌else◌, List, [], ◌∷◌, ◌++◌, length, replicate, pos, Option, Some, Ok, slice_get, slice_set, refl, sym, ap, ◌∙◌, subst}
use Rattle.px_value.specs.declared.value.Value.{Value}
use Rattle.px_value.specs.declared.value.Value.TheVariants.{Int, Null, Ref}
use Rattle.px_value.specs.declared.object.Object.{Object}
use Rattle.px_value.specs.declared.header.Header.{Header}
use Rattle.px_value.specs.declared.header.Kind.TheVariants as kind
use Rattle.px_value.specs.declared.thrown.Thrown.TheVariants.{HeapFull}
use Rattle.px_value.specs.declared.answer.Answer.TheVariants.{Rows}
use Rattle.px_value.specs.Heap.{with_cell, written}
use Rattle.px_value.specs.Outcome.{Outcome, Gives, Throws}
use Rattle.px_effects.specs.Run.{Shared}
use Rattle.px_effects.specs.Act.{Firsts, Ends, Came, Makes, Acted, acted, quiet, new_object, has_no_room, unless_full, settled, does, came, landed}
use Rattle.px_effects.specs.Cells.{comes, Fresh, first_cells, rows_header}
use Rattle.px_effects.specs.Rows.{all_written, make_rows}

-- the object where there is room for it
abbrev pub allocated : {Q W : Type 0} → Object → Shared W → Outcome Q (Shared W) Value
allocated o s = if has_no_room o.header.kind o.header.length s.heap then Throws HeapFull s else Gives (Ref (length s.heap)) (record s { heap = s.heap ++ o ∷ [] })

-- ---- an object is made whole

-- what matters of what an act came to
abbrev pub IsSo : Acted → Ends → List Object → Type 0
IsSo a ends heap = (a.ends ≡ ends) × (a.heap ≡ heap)

module _ (Q W : Type 0) (s : Shared W) where
  abbrev O : Type 0
  O = Outcome Q (Shared W) Value

  so_settled : (a b : Acted) → IsSo a b.ends b.heap → settled {Q = Q} s a ≡ settled s b
  so_settled a b h = ap (λ (e : Ends). came {Q = Q} s a (landed s.prints e)) h.0 ∙ ap (λ (x : List Object). came {Q = Q} s (record b { heap = x }) (landed s.prints b.ends)) h.1

  -- an act that makes one object
  made_or_full : (o : Object) (b : Bool) (after : Acted) → IsSo after (Came (Ok (Ref (length s.heap)))) (s.heap ++ o ∷ []) → settled {Q = Q} s (unless_full b after s.heap) ≡ (if b then Throws HeapFull s else Gives (Ref (length s.heap)) (record s { heap = s.heap ++ o ∷ [] }))
  made_or_full o true after h = refl
  made_or_full o false after h = so_settled after (quiet (Came (Ok (Ref (length s.heap)))) (s.heap ++ o ∷ [])) h

  pub makes_one : (firsts : Firsts) (h : Header) → does {Q = Q} firsts (Makes h (λ object. comes (Ref object))) s ≡ allocated (new_object firsts h) s
  makes_one firsts h = made_or_full (new_object firsts h) (has_no_room h.kind h.length s.heap) _ (refl, refl)

-- ---- rows

last_at : (heap : List Object) (o : Object) → slice_get (heap ++ o ∷ []) (length heap) ≡ Some o
last_at [] o = refl
last_at (x ∷ heap) o = last_at heap o

last_set : (heap : List Object) (o n : Object) → slice_set (heap ++ o ∷ []) (length heap) n ≡ heap ++ n ∷ []
last_set [] o n = refl
last_set (x ∷ heap) o n = ap (λ (xs : List Object). x ∷ xs) (last_set heap o n)

set_behind : (front rest : List Value) (w v : Value) → slice_set (front ++ w ∷ rest) (length front) v ≡ (front ++ v ∷ []) ++ rest
set_behind [] rest w v = refl
set_behind (x ∷ front) rest w v = ap (λ (xs : List Value). x ∷ xs) (set_behind front rest w v)

one_longer : (front : List Value) (v : Value) → suc (length front) ≡ length (front ++ v ∷ [])
one_longer [] v = refl
one_longer (x ∷ front) v = ap suc (one_longer front v)

one_behind : (front rest : List Value) (v : Value) → (front ++ v ∷ []) ++ rest ≡ front ++ v ∷ rest
one_behind [] rest v = refl
one_behind (x ∷ front) rest v = ap (λ (xs : List Value). x ∷ xs) (one_behind front rest v)

module _ (heap : List Object) (h : Header) where
  abbrev last : List Value → List Object
  last cells = heap ++ record { header = h; cells = cells } ∷ []

  -- one cell of the last object is written
  last_written : (front rest : List Value) (w v : Value) → written (last (front ++ w ∷ rest)) (length heap) (length front) v ≡ last ((front ++ v ∷ []) ++ rest)
  last_written front rest w v =
      let o : Object = record { header = h; cells = front ++ w ∷ rest } in
      ap (λ (x : Option Object). with_cell x (length front) v (last (front ++ w ∷ rest)) (length heap)) (last_at heap o)
      ∙ last_set heap o (record { header = h; cells = slice_set (front ++ w ∷ rest) (length front) v })
      ∙ ap last (set_behind front rest w v)

  -- blank cells are written one after the other
  pub blanks_written : (firsts : Firsts) (front cells : List Value) (v : Value)
      → IsSo (acted firsts (all_written (length heap) (length front) cells (comes v)) (last (front ++ replicate (length cells) Null))) (Came (Ok v)) (last (front ++ cells))
  blanks_written firsts front [] v = (refl, refl)
  blanks_written firsts front (c ∷ cells) v =
      let there = blanks_written firsts (front ++ c ∷ []) cells v in
      let started = subst (λ (n : ℕ). IsSo (acted firsts (all_written (length heap) n cells (comes v)) (last ((front ++ c ∷ []) ++ replicate (length cells) Null))) (Came (Ok v)) (last ((front ++ c ∷ []) ++ cells))) (sym (one_longer front c)) there in
      let blank = subst (λ (x : List Object). IsSo (acted firsts (all_written (length heap) (suc (length front)) cells (comes v)) x) (Came (Ok v)) (last ((front ++ c ∷ []) ++ cells))) (sym (last_written front (replicate (length cells) Null) Null c)) started in
      (blank.0, blank.1 ∙ ap last (one_behind front cells c))

-- rows in one object: its cursor, and then their values
abbrev pub rows_object : (number site : ℕ) → List Value → Object
rows_object number site cells = record { header = rows_header number site (length cells); cells = Int (pos 0) ∷ cells }

-- rows are there as if they had been made at once
pub rows_are_made : (Q W : Type 0) (fresh : Fresh) (number site width : ℕ) (cells : List Value) (s : Shared W)
    → does {Q = Q} (first_cells fresh) (make_rows number site (Rows width cells)) s ≡ allocated (rows_object number site cells) s
rows_are_made Q W fresh number site width cells s =
    made_or_full Q W s (rows_object number site cells) (has_no_room (kind.Rows number) (suc (length cells)) s.heap) _ (blanks_written s.heap (rows_header number site (length cells)) (first_cells fresh) (Int (pos 0) ∷ []) cells (Ref (length s.heap)))
