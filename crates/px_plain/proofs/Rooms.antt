-- Whether the heap has room for one more object.
use Rattle.std.proofs.Common.{◌≡◌, ◌<◌, ◌+◌, inl, inr, ℕ, nat_lt, Bool, true, false, ◌||◌, if◌then◌else◌, List, length, ◌%◌, replicate, refl, ap, arith, w32, pos, ◌++◌, ◌∷◌, []}
use Rattle.std.specs.Int.{int_wrap, cast_signed}
use Rattle.std.proofs.lemmas.Bool.Decides.{nat_tests}
use Rattle.std.proofs.lemmas.List.{length-replicate}
use Rattle.px_value.specs.declared.value.Value.{Value}
use Rattle.px_value.specs.declared.value.Value.TheVariants.{Ref}
use Rattle.px_value.specs.declared.object.Object.{Object}
use Rattle.px_value.specs.declared.header.Kind.{Kind}
use Rattle.px_value.specs.declared.header.Kind.TheVariants as kind
use Rattle.px_value.specs.declared.thrown.Thrown.TheVariants.{HeapFull}
use Rattle.px_value.specs.Heap.{HasNoRoom, IsLongArray, heap_counted, max_counted, max_elements}
use Rattle.px_value.specs.Outcome.{Outcome, Gives, Throws}
use Rattle.px_effects.specs.Act.{has_no_room, is_long}
use Rattle.px_plain.specs.Effects.{allocate, fresh_object}
use Rattle.px_rows.specs.Tables.{Tables}
use Rattle.px_plain.specs.View.{There}

long_is : (k : Kind) (n : ℕ) → IsLongArray k n → is_long k n ≡ true
long_is (kind.Object c) n h = absurd h
long_is (kind.Array e) n h = let far : max_elements < n = h in grind (arith, nat_tests, far)
long_is (kind.Rows r) n h = absurd h

is_long_array : (k : Kind) (n : ℕ) → is_long k n ≡ true → IsLongArray k n
is_long_array (kind.Object c) n h = absurd cc
is_long_array (kind.Array e) n h = grind (arith, nat_tests, h)
is_long_array (kind.Rows r) n h = absurd cc

or_right : (a b : Bool) → b ≡ true → (a || b) ≡ true
or_right true b h = refl
or_right false b h = h

or_left : (a b : Bool) → a ≡ true → (a || b) ≡ true
or_left a b h = ap (λ x. x || b) h

no_room : (k : Kind) (site n : ℕ) (heap : List Object) (cells : List Value) → HasNoRoom heap (fresh_object k site cells).header (length cells) → has_no_room k (length cells) heap ≡ true
no_room k site n heap cells (inl h) =
    let far : nat_lt max_counted (heap_counted heap + (1 + length cells)) ≡ true = grind (arith, nat_tests, h) in
    or_left _ _ far
no_room k site n heap cells (inr h) = or_right (nat_lt max_counted (heap_counted heap + (1 + length cells))) _ (long_is k (length cells) h)

by_test : (b : Bool) (k : Kind) (site : ℕ) (heap : List Object) (cells : List Value) → nat_lt max_counted (heap_counted heap + (1 + length cells)) ≡ b → (b || is_long k (length cells)) ≡ true → HasNoRoom heap (fresh_object k site cells).header (length cells)
by_test true k site heap cells t h = inl (grind (arith, nat_tests, t))
by_test false k site heap cells t h = inr (is_long_array k (length cells) h)

abbrev allocates : Kind → ℕ → List Value → There → Outcome ⊥ There Value
allocates k site cells = allocate {Q = ⊥} {W = Tables} k site cells

abbrev allocated : There → Kind → ℕ → List Value → Bool → Outcome ⊥ There Value
allocated s k site cells full = if full then Throws HeapFull s else Gives (Ref (length s.heap)) (record s { heap = s.heap ++ fresh_object k site cells ∷ [] })

pub full_heap : (s : There) (k : Kind) (site : ℕ) (cells : List Value) → HasNoRoom s.heap (fresh_object k site cells).header (length cells) → allocates k site cells s ≡ Throws HeapFull s
full_heap s k site cells h = ap (allocated s k site cells) (no_room k site 0 s.heap cells h)

not_true : (b : Bool) → (b ≡ true → ⊥) → b ≡ false
not_true true h = absurd (h refl)
not_true false h = refl

pub room_left : (s : There) (k : Kind) (site : ℕ) (cells : List Value) → (HasNoRoom s.heap (fresh_object k site cells).header (length cells) → ⊥) → allocates k site cells s ≡ Gives (Ref (length s.heap)) (record s { heap = s.heap ++ fresh_object k site cells ∷ [] })
room_left s k site cells h = ap (allocated s k site cells) (not_true _ (λ t. h (by_test _ k site s.heap cells refl t)))

pub long_array : (s : There) (element site n : ℕ) (v : Value) → max_elements < n → allocates (kind.Array element) site (replicate n v) s ≡ Throws HeapFull s
long_array s element site n v h = ap (allocated s (kind.Array element) site (replicate n v)) (or_right (nat_lt max_counted (heap_counted s.heap + (1 + length (replicate n v)))) _ (long_is (kind.Array element) (length (replicate n v)) (let e = length-replicate n v in omega (arith, h, e))))

pub low_count : (n : ℕ) → cast_signed w32 (n % 4294967296) ≡ int_wrap w32 (pos n)
unfolding int_wrap
low_count n = refl
