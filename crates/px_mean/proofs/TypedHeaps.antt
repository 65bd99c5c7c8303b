-- Heaps grow, and keep their types.
use Rattle.std.proofs.Common.{◌≡◌, ℕ, zero, suc, ◌+◌, ◌<◌, List, [], ◌∷◌, ◌++◌, length, map, drop, replicate, Option, Some, None, unwrap_or, slice_get, slice_set, refl, sym, ap, ◌∙◌, subst, arith}
use Rattle.std.proofs.lemmas.Option.{none-some}
use Rattle.px_value.specs.declared.value.Value.{Value}
use Rattle.px_value.specs.declared.value.Value.TheVariants.{Null}
use Rattle.px_value.specs.declared.object.Object.{Object}
use Rattle.px_value.specs.declared.header.Kind.{Kind}
use Rattle.px_value.specs.declared.header.Kind.TheVariants as kind
use Rattle.px_value.specs.Heap.{with_cell, written}
use Rattle.px_facts.specs.declared.types.Ty.{Ty}
use Rattle.px_facts.specs.declared.types.Ty.TheVariants as ty
use Rattle.px_facts.specs.declared.types.Element.{Element}
use Rattle.px_facts.specs.declared.types.Element.TheVariants as element
use Rattle.px_facts.specs.declared.checked.Facts.{Facts}
use Rattle.px_facts.specs.Types.{element_type}
use Rattle.px_mean.specs.Facts.{fields_of, default_of, element_default, element_number}
use Rattle.px_mean.specs.Typed as typed
use Rattle.px_mean.specs.Typed.{kind_in, kind_at, MayBeNull, HasType, HaveTypes, AllHaveType, numbered_element, AreRows, HasCells, IsTypedHeap}

-- what is there keeps its kind
pub record Grows (old new : List Object) : Type 0 where
  pub kinds : (place : ℕ) (k : Kind) → kind_at old place ≡ Some k → kind_at new place ≡ Some k

pub stays : (heap : List Object) → Grows heap heap
stays heap = record { kinds = λ place k h. h }

pub grows_then : (a b c : List Object) → Grows a b → Grows b c → Grows a c
grows_then a b c g h = record { kinds = λ place k e. h.kinds place k (g.kinds place k e) }

module _ (a b : List Object) (g : Grows a b) where
  pub keeps_type : (t : Ty) (v : Value) → HasType a t v → HasType b t v
  keeps_type _ _ (typed.HasType.int n) = typed.HasType.int n
  keeps_type _ _ (typed.HasType.long n) = typed.HasType.long n
  keeps_type _ _ (typed.HasType.truth x) = typed.HasType.truth x
  keeps_type _ _ (typed.HasType.text bytes) = typed.HasType.text bytes
  keeps_type _ _ (typed.HasType.object class place h) = typed.HasType.object class place (g.kinds place _ h)
  keeps_type _ _ (typed.HasType.array of place h) = typed.HasType.array of place (g.kinds place _ h)
  keeps_type _ _ (typed.HasType.rows number place h) = typed.HasType.rows number place (g.kinds place _ h)
  keeps_type _ _ (typed.HasType.null t h) = typed.HasType.null t h

  pub keep_types : (ts : List Ty) (vs : List Value) → HaveTypes a ts vs → HaveTypes b ts vs
  keep_types [] [] h = tt
  keep_types (t ∷ ts) (v ∷ vs) h = (keeps_type t v h.0, keep_types ts vs h.1)
  keep_types [] (v ∷ vs) h = absurd h
  keep_types (t ∷ ts) [] h = absurd h

  pub all_keep_type : (t : Ty) (vs : List Value) → AllHaveType a t vs → AllHaveType b t vs
  all_keep_type t [] h = tt
  all_keep_type t (v ∷ vs) h = (keeps_type t v h.0, all_keep_type t vs h.1)

  rows_keep : (vs : List Value) → AreRows a vs → AreRows b vs
  rows_keep [] h = absurd h
  rows_keep (v ∷ vs) h = (keeps_type ty.Int v h.0, h.1)

  pub cells_keep : (F : Facts) (k : Kind) (vs : List Value) → HasCells F a k vs → HasCells F b k vs
  cells_keep F (kind.Object class) vs h = keep_types (fields_of F class) vs h
  cells_keep F (kind.Array number) vs h = all_keep_type (element_type (numbered_element number)) vs h
  cells_keep F (kind.Rows number) vs h = rows_keep vs h

-- ---- lists of types

some_is : {A : Type 0} (a b : A) → Some a ≡ Some b → a ≡ b
some_is {A = A} a b e = ap (λ (o : Option A). unwrap_or o a) e

pub typed_at : (heap : List Object) (ts : List Ty) (vs : List Value) (i : ℕ) (t : Ty) → HaveTypes heap ts vs → slice_get ts i ≡ Some t → HasType heap t (unwrap_or (slice_get vs i) Null)
typed_at heap (u ∷ ts) (v ∷ vs) zero t h e = subst (λ (x : Ty). HasType heap x v) (some_is u t e) h.0
typed_at heap (u ∷ ts) (v ∷ vs) (suc i) t h e = typed_at heap ts vs i t h.1 e
typed_at heap [] [] i t h e = absurd (none-some t e)
typed_at heap [] (v ∷ vs) i t h e = absurd h
typed_at heap (u ∷ ts) [] i t h e = absurd h

pub types_written : (heap : List Object) (ts : List Ty) (vs : List Value) (i : ℕ) (t : Ty) (v : Value) → HaveTypes heap ts vs → slice_get ts i ≡ Some t → HasType heap t v → HaveTypes heap ts (slice_set vs i v)
types_written heap (u ∷ ts) (w ∷ vs) zero t v h e k = (subst (λ (x : Ty). HasType heap x v) (sym (some_is u t e)) k, h.1)
types_written heap (u ∷ ts) (w ∷ vs) (suc i) t v h e k = (h.0, types_written heap ts vs i t v h.1 e k)
types_written heap [] [] i t v h e k = tt
types_written heap [] (w ∷ vs) i t v h e k = absurd h
types_written heap (u ∷ ts) [] i t v h e k = absurd h

pub all_at : (heap : List Object) (t : Ty) (vs : List Value) (i : ℕ) → AllHaveType heap t vs → i < length vs → HasType heap t (unwrap_or (slice_get vs i) Null)
all_at heap t [] i h l = let no : ⊥ = omega arith in absurd no
all_at heap t (v ∷ vs) zero h l = h.0
all_at heap t (v ∷ vs) (suc i) h l = all_at heap t vs i h.1 (omega arith)

pub all_written : (heap : List Object) (t : Ty) (vs : List Value) (i : ℕ) (v : Value) → AllHaveType heap t vs → HasType heap t v → AllHaveType heap t (slice_set vs i v)
all_written heap t [] i v h k = tt
all_written heap t (w ∷ vs) zero v h k = (k, h.1)
all_written heap t (w ∷ vs) (suc i) v h k = (h.0, all_written heap t vs i v h.1 k)

-- ---- what holds of new variables

default_typed : (heap : List Object) (t : Ty) → HasType heap t (default_of t)
default_typed heap ty.Unknown = typed.HasType.null ty.Unknown tt
default_typed heap ty.Void = typed.HasType.null ty.Void tt
default_typed heap ty.Null = typed.HasType.null ty.Null tt
default_typed heap ty.Int = typed.HasType.int _
default_typed heap ty.Long = typed.HasType.long _
default_typed heap ty.Boolean = typed.HasType.truth _
default_typed heap ty.Text = typed.HasType.null ty.Text tt
default_typed heap (ty.Object class) = typed.HasType.null (ty.Object class) tt
default_typed heap (ty.Array e) = typed.HasType.null (ty.Array e) tt
default_typed heap ty.ResultSet = typed.HasType.null ty.ResultSet tt

pub defaults_typed : (heap : List Object) (ts : List Ty) → HaveTypes heap ts (map default_of ts)
defaults_typed heap [] = tt
defaults_typed heap (t ∷ ts) = (default_typed heap t, defaults_typed heap ts)

pub element_default_typed : (heap : List Object) (e : Element) → HasType heap (element_type e) (element_default e)
element_default_typed heap element.Int = typed.HasType.int _
element_default_typed heap element.Long = typed.HasType.long _
element_default_typed heap element.Boolean = typed.HasType.truth _
element_default_typed heap element.Text = typed.HasType.null ty.Text tt
element_default_typed heap (element.Object class) = typed.HasType.null (ty.Object class) tt

pub numbered_is : (e : Element) → numbered_element (element_number e) ≡ e
numbered_is element.Int = refl
numbered_is element.Long = refl
numbered_is element.Boolean = refl
numbered_is element.Text = refl
numbered_is (element.Object class) = let q : 4 + class ≡ suc (suc (suc (suc class))) = omega arith in ap numbered_element q

pub all_replicated : (heap : List Object) (t : Ty) (v : Value) (n : ℕ) → HasType heap t v → AllHaveType heap t (replicate n v)
all_replicated heap t v zero h = tt
all_replicated heap t v (suc n) h = (h, all_replicated heap t v n h)

-- the values of the first slots, and then defaults
pub slots_filled : (heap : List Object) (ts rest : List Ty) (vs : List Value) → HaveTypes heap ts vs → HaveTypes heap (ts ++ rest) (vs ++ map default_of (drop (length vs) (ts ++ rest)))
slots_filled heap [] rest [] h = defaults_typed heap rest
slots_filled heap (t ∷ ts) rest (v ∷ vs) h = (h.0, slots_filled heap ts rest vs h.1)
slots_filled heap [] rest (v ∷ vs) h = absurd h
slots_filled heap (t ∷ ts) rest [] h = absurd h

-- ---- one object more

module _ (x : Object) where
  kind_stays : (heap : List Object) (place : ℕ) (k : Kind) → kind_at heap place ≡ Some k → kind_at (heap ++ x ∷ []) place ≡ Some k
  kind_stays [] place k h = absurd (none-some k h)
  kind_stays (o ∷ heap) zero k h = h
  kind_stays (o ∷ heap) (suc place) k h = kind_stays heap place k h

  pub kind_of_new : (heap : List Object) → kind_at (heap ++ x ∷ []) (length heap) ≡ Some x.header.kind
  kind_of_new [] = refl
  kind_of_new (o ∷ heap) = kind_of_new heap

  pub grows_by_one : (heap : List Object) → Grows heap (heap ++ x ∷ [])
  grows_by_one heap = record { kinds = kind_stays heap }

  there_or_new : (P : Object → Type 0) (heap : List Object) (place : ℕ) → P x → ((o : Object) → slice_get heap place ≡ Some o → P o) → (o : Object) → slice_get (heap ++ x ∷ []) place ≡ Some o → P o
  there_or_new P [] zero h k o e = subst P (some_is x o e) h
  there_or_new P [] (suc place) h k o e = absurd (none-some o e)
  there_or_new P (y ∷ heap) zero h k o e = k o e
  there_or_new P (y ∷ heap) (suc place) h k o e = there_or_new P heap place h k o e

  pub typed_with_one : (F : Facts) (heap : List Object) → IsTypedHeap F heap → HasCells F heap x.header.kind x.cells → IsTypedHeap F (heap ++ x ∷ [])
  typed_with_one F heap h k place o e =
      let new = heap ++ x ∷ [] in
      cells_keep heap new (grows_by_one heap) F o.header.kind o.cells (there_or_new (λ y. HasCells F heap y.header.kind y.cells) heap place k (λ y. h place y) o e)

-- ---- one cell written

module _ (o n : Object) (same : n.header ≡ o.header) where
  kind_same : (heap : List Object) (at : ℕ) → slice_get heap at ≡ Some o → (place : ℕ) (k : Kind) → kind_at heap place ≡ Some k → kind_at (slice_set heap at n) place ≡ Some k
  kind_same [] at e place k h = absurd (none-some k h)
  kind_same (y ∷ heap) zero e zero k h = ap (λ z. Some z.kind) same ∙ sym (ap kind_in e) ∙ h
  kind_same (y ∷ heap) zero e (suc place) k h = h
  kind_same (y ∷ heap) (suc at) e zero k h = h
  kind_same (y ∷ heap) (suc at) e (suc place) k h = kind_same heap at e place k h

set_or_there : (P : Object → Type 0) (n : Object) (heap : List Object) (at place : ℕ) → P n → ((o : Object) → slice_get heap place ≡ Some o → P o) → (o : Object) → slice_get (slice_set heap at n) place ≡ Some o → P o
set_or_there P n [] at place h k o e = k o e
set_or_there P n (y ∷ heap) zero zero h k o e = subst P (some_is n o e) h
set_or_there P n (y ∷ heap) zero (suc place) h k o e = k o e
set_or_there P n (y ∷ heap) (suc at) zero h k o e = k o e
set_or_there P n (y ∷ heap) (suc at) (suc place) h k o e = set_or_there P n heap at place h k o e

module _ (F : Facts) (heap : List Object) (at index : ℕ) (v : Value) where
  -- in an object that is there this is what the write has to keep
  abbrev pub KeepsCells : Type 0
  KeepsCells = (o : Object) → slice_get heap at ≡ Some o → HasCells F heap o.header.kind (slice_set o.cells index v)

  grown_at : (found : Option Object) → slice_get heap at ≡ found → Grows heap (with_cell found index v heap at)
  grown_at None e = stays heap
  grown_at (Some o) e = record { kinds = kind_same o (record o { cells = slice_set o.cells index v }) refl heap at e }

  pub grows_written : Grows heap (written heap at index v)
  grows_written = grown_at (slice_get heap at) refl

  typed_with : (found : Option Object) → slice_get heap at ≡ found → IsTypedHeap F heap → KeepsCells → IsTypedHeap F (with_cell found index v heap at)
  typed_with None e h k = h
  typed_with (Some o) e h k = λ place y d.
      let n : Object = record o { cells = slice_set o.cells index v } in
      cells_keep heap (slice_set heap at n) (grown_at (Some o) e) F y.header.kind y.cells (set_or_there (λ z. HasCells F heap z.header.kind z.cells) n heap at place (k o e) (λ z. h place z) y d)

  pub typed_written : IsTypedHeap F heap → KeepsCells → IsTypedHeap F (written heap at index v)
  typed_written h k = typed_with (slice_get heap at) refl h k

-- ---- cells of an object whose kind is known

object_there : (P : Object → Type 0) (k : Kind) (found : Option Object) → kind_in found ≡ Some k → ((o : Object) → found ≡ Some o → o.header.kind ≡ k → P o) → (o : Object) × (found ≡ Some o) × P o
object_there P k None h f = absurd (none-some k h)
object_there P k (Some o) h f = (o, refl, f o refl (some_is o.header.kind k h))

-- its cells are those of its kind
pub cells_there : (F : Facts) (heap : List Object) (place : ℕ) (k : Kind) → IsTypedHeap F heap → kind_at heap place ≡ Some k → (o : Object) × (slice_get heap place ≡ Some o) × HasCells F heap k o.cells
cells_there F heap place k h e = object_there (λ o. HasCells F heap k o.cells) k (slice_get heap place) e (λ o d s. subst (λ (x : Kind). HasCells F heap x o.cells) s (h place o d))

-- where a value is written into an object of a kind, it is enough that it keeps the cells of this kind
pub keeps_cells : (F : Facts) (heap : List Object) (place index : ℕ) (v : Value) (k : Kind) → kind_at heap place ≡ Some k → ((o : Object) → slice_get heap place ≡ Some o → HasCells F heap o.header.kind o.cells → HasCells F heap k o.cells → HasCells F heap k (slice_set o.cells index v)) → IsTypedHeap F heap → KeepsCells F heap place index v
keeps_cells F heap place index v k e f h o d =
    let s : o.header.kind ≡ k = some_is o.header.kind k (sym (ap kind_in d) ∙ e) in
    let c = h place o d in
    subst (λ (x : Kind). HasCells F heap x (slice_set o.cells index v)) (sym s) (f o d c (subst (λ (x : Kind). HasCells F heap x o.cells) s c))
