-- What a write and a new object do to a heap that fits.
use Rattle.std.proofs.Common.{◌≡◌, ℕ, List, [], ◌∷◌, ◌++◌, length, Option, Some, None, slice_get, slice_set, refl, sym, ap, ◌∙◌, ◌⊎◌, inl, inr, ⊎_elim, subst}
use Rattle.std.specs.List.{AllByRecursion}
use Rattle.std.proofs.lemmas.Option.{same_Some}
use Rattle.px_value.specs.declared.value.Value.{Value}
use Rattle.px_value.specs.declared.value.Value.TheVariants.{Ref}
use Rattle.px_value.specs.declared.header.Header.{Header}
use Rattle.px_value.specs.declared.object.Object.{Object}
use Rattle.px_value.specs.Heap.{cell_of, cell_at, with_cell, written}
use Rattle.px_normal.specs.declared.code.Code.{Code}
use Rattle.px_flow_points.specs.Places.{site_kind}
use Rattle.px_flow_points.specs.Points.{Place, InPart}
use Rattle.px_points_stay.specs.Fits.{part_by, header_in, header_at, IsNoReference, Leads, HeapFits}
use Rattle.px_points_stay.proofs.Lists.{at_set, view_set, at_end, still_at, all_at}

-- ---- headers

header_kept : (o : Option Object) (heap : List Object) (object index : ℕ) (v : Value) (place : ℕ) → slice_get heap object ≡ o → header_at (with_cell o index v heap object) place ≡ header_at heap place
header_kept None heap object index v place e = refl
header_kept (Some o) heap object index v place e = view_set header_in heap object place o (record o { cells = slice_set o.cells index v }) e refl

pub header_at-written : (heap : List Object) (object index : ℕ) (v : Value) (place : ℕ) → header_at (written heap object index v) place ≡ header_at heap place
header_at-written heap object index v place = header_kept (slice_get heap object) heap object index v place refl

-- the object of a header
pub with_header : (o : Option Object) (h : Header) → header_in o ≡ Some h → (x : Object) × (o ≡ Some x) × (x.header ≡ h)
with_header None h e = cc
with_header (Some x) h e = (x, refl, same_Some x.header h e)

-- headers that stand stay
abbrev pub Grows : List Object → List Object → Type 0
Grows old new = (place : ℕ) (h : Header) → header_at old place ≡ Some h → header_at new place ≡ Some h

pub grows_written : (heap : List Object) (object index : ℕ) (v : Value) → Grows heap (written heap object index v)
grows_written heap object index v place h there = header_at-written heap object index v place ∙ there

pub grows_made : (heap : List Object) (o : Object) → Grows heap (heap ++ o ∷ [])
grows_made heap o place h there =
    let x = with_header (slice_get heap place) h there in
    ap header_in (still_at heap (o ∷ []) place x.0 x.1) ∙ ap (λ (k : Header). Some k) x.2

-- ---- cells

abbrev pub IsWrittenOr : List Object → ℕ → ℕ → Value → ℕ → ℕ → Value → Type 0
IsWrittenOr heap object index v place at found = ((object ≡ place) × (index ≡ at) × (v ≡ found)) ⊎ (cell_at heap place at ≡ Some found)

cell_found : (o : Option Object) (heap : List Object) (object index : ℕ) (v : Value) (place at : ℕ) (found : Value) → slice_get heap object ≡ o → cell_at (with_cell o index v heap object) place at ≡ Some found → IsWrittenOr heap object index v place at found
cell_found None heap object index v place at found e h = inr h
cell_found (Some o) heap object index v place at found e h =
    let new : Object = record o { cells = slice_set o.cells index v } in
    ⊎_elim
    (λ (t : (object ≡ place) × (cell_of (Some new) at ≡ Some found)). ⊎_elim
    (λ (s : (index ≡ at) × (Some v ≡ Some found)). inl (t.0, s.0, same_Some v found s.1))
    (λ (s : slice_get o.cells at ≡ Some found). inr (ap (λ p. cell_at heap p at) (sym t.0) ∙ ap (λ (x : Option Object). cell_of x at) e ∙ s))
    (at_set (λ (x : Option Value). x ≡ Some found) o.cells index at v t.1))
    inr
    (at_set (λ (x : Option Object). cell_of x at ≡ Some found) heap object place new h)

-- what stands in a cell after a write was written to it, or stood there before
pub cell_at-written : (heap : List Object) (object index : ℕ) (v : Value) (place at : ℕ) (found : Value) → cell_at (written heap object index v) place at ≡ Some found → IsWrittenOr heap object index v place at found
cell_at-written heap object index v place at found h = cell_found (slice_get heap object) heap object index v place at found refl h

object_of_cell : (o : Option Object) (index : ℕ) (v : Value) → cell_of o index ≡ Some v → (x : Object) × (o ≡ Some x) × (slice_get x.cells index ≡ Some v)
object_of_cell None index v h = cc
object_of_cell (Some x) index v h = (x, refl, h)

-- ---- heaps that fit

module _ (code : Code) where
  pub leads_grow : (old new : List Object) (place : Place) (target : ℕ) → Grows old new → Leads code old place target → Leads code new place target
  leads_grow old new place target grows l = record { header = l.header; there = grows target l.header l.there; site = l.site }

  -- a write of what may stand there
  pub fits_written : (heap : List Object) (object index : ℕ) (v : Value) → HeapFits code heap → ((target : ℕ) (h : Header) → v ≡ Ref target → header_at heap object ≡ Some h → Leads code heap (InPart h.site (part_by h.kind index)) target) → HeapFits code (written heap object index v)
  fits_written heap object index v fits may = record {
    first = fits.first;
    first_there = header_at-written heap object index v 0 ∙ fits.first_there;
    first_site = fits.first_site;
    made = λ place h there. fits.made place h (sym (header_at-written heap object index v place) ∙ there);
    leads = λ place at target h cell header.
        let before : header_at heap place ≡ Some h = sym (header_at-written heap object index v place) ∙ header in
        leads_grow heap (written heap object index v) (InPart h.site (part_by h.kind at)) target (grows_written heap object index v) (⊎_elim
        (λ (t : (object ≡ place) × (index ≡ at) × (v ≡ Ref target)). subst (λ i. Leads code heap (InPart h.site (part_by h.kind i)) target) t.1 (may target h t.2 (ap (λ p. header_at heap p) t.0 ∙ before)))
        (λ (t : cell_at heap place at ≡ Some (Ref target)). fits.leads place at target h t before)
        (cell_at-written heap object index v place at (Ref target) cell));
  }

  no_reference : (v : Value) (target : ℕ) → IsNoReference v → v ≡ Ref target → ⊥
  no_reference v target plain h = subst IsNoReference h plain

  made_header : (heap : List Object) (o : Object) (place : ℕ) (h : Header) → header_at (heap ++ o ∷ []) place ≡ Some h → (header_at heap place ≡ Some h) ⊎ (o.header ≡ h)
  made_header heap o place h there =
      let x = with_header (slice_get (heap ++ o ∷ []) place) h there in
      ⊎_elim
      (λ (t : slice_get heap place ≡ Some x.0). inl (ap header_in t ∙ ap (λ (k : Header). Some k) x.2))
      (λ (t : (place ≡ length heap) × (o ≡ x.0)). inr (ap (λ (z : Object). z.header) t.1 ∙ x.2))
      (at_end heap o place x.0 x.1)

  old_header : (heap : List Object) (o x : Object) (place : ℕ) (h : Header) → slice_get heap place ≡ Some x → header_at (heap ++ o ∷ []) place ≡ Some h → header_at heap place ≡ Some h
  old_header heap o x place h at there =
      let e : Some x.header ≡ Some h = sym (ap header_in (still_at heap (o ∷ []) place x at)) ∙ there in
      ap header_in at ∙ e

  -- a new object without references
  pub fits_made : (heap : List Object) (o : Object) → HeapFits code heap → site_kind code o.header.site ≡ Some o.header.kind → AllByRecursion IsNoReference o.cells → HeapFits code (heap ++ o ∷ [])
  fits_made heap o fits made plain = record {
    first = fits.first;
    first_there = grows_made heap o 0 fits.first fits.first_there;
    first_site = fits.first_site;
    made = λ place h there. ⊎_elim
        (λ (t : header_at heap place ≡ Some h). fits.made place h t)
        (λ (t : o.header ≡ h). subst (λ (k : Header). site_kind code k.site ≡ Some k.kind) t made)
        (made_header heap o place h there);
    leads = λ place at target h cell header.
        let x = object_of_cell (slice_get (heap ++ o ∷ []) place) at (Ref target) cell in
        ⊎_elim
        (λ (t : slice_get heap place ≡ Some x.0). leads_grow heap (heap ++ o ∷ []) (InPart h.site (part_by h.kind at)) target (grows_made heap o) (fits.leads place at target h (ap (λ (z : Option Object). cell_of z at) t ∙ x.2) (old_header heap o x.0 place h t header)))
        (λ (t : (place ≡ length heap) × (o ≡ x.0)). absurd (no_reference (Ref target) target (all_at IsNoReference o.cells at (Ref target) plain (ap (λ (z : Object). slice_get z.cells at) t.1 ∙ x.2)) refl))
        (at_end heap o place x.0 x.1);
  }
