-- Loops over trees and methods, and lists of summaries in halves.
use Rattle.std.proofs.Common.{◌≡◌, ◌≤◌, ◌<◌, ◌+◌, ℕ, zero, suc, List, [], ◌∷◌, ◌++◌, length, drop, Some, slice_get, append-nil, append_assoc, refl, sym, ap, ◌∙◌, ⊎_elim, subst, arith}
use Rattle.std.proofs.lemmas.Option.{slice_get_within, get_or_from_slice_get}
use Rattle.std.proofs.lemmas.List.{drop_more}
use Rattle.px_normal.specs.declared.ty.Ty.{Ty}
use Rattle.px_normal.specs.declared.method.Tree.{Tree}
use Rattle.px_normal.specs.declared.method.Method.{Method}
use Rattle.px_depend.specs.declared.edge.Edge.{Edge}
use Rattle.px_depend.specs.declared.summary.Summary.{Summary}
use Rattle.px_depend.specs.Places.{Flows, IsSummary}
use Rattle.px_depend.specs.Summaries.{Adds, IsMet, IsOver, over, IsCross, IsWithin, AreSummaries, IsFew, line, flows_of, flows_in, IsSlotEdge, AreSlotEdges}
use Rattle.px_depend.proofs.Steps.{then_empty, empty_sum, copy_sum}
use Rattle.px_depend.proofs.Branching.{adds_two, adds_none}

drop_all : {A : Type 0} (xs : List A) (i : ℕ) → length xs ≤ i → drop i xs ≡ []
drop_all [] zero h = refl
drop_all [] (suc i) h = refl
drop_all (x ∷ xs) zero h = absurd (omega (arith, h))
drop_all (x ∷ xs) (suc i) h = drop_all xs i (omega (arith, h))

pub dropped : {A : Type 0} (xs : List A) (i : ℕ) (x : A) → slice_get xs i ≡ Some x → drop i xs ≡ x ∷ drop (i + 1) xs
dropped xs i x h = drop_more xs i x (slice_get_within xs i x h) ∙ ap (λ z. z ∷ drop (i + 1) xs) (get_or_from_slice_get xs i x x h)

-- ---- trees

pub next_sums : (list : List Tree) (i : ℕ) (x : Tree) (all more : List Summary) (one : Summary) → slice_get list i ≡ Some x → IsSummary one (flows_of x) → more ≡ all ++ one ∷ [] → ((rest : List Summary) → AreSummaries rest (flows_in (drop i list)) → AreSummaries (all ++ rest) (flows_in list)) → (rest : List Summary) → AreSummaries rest (flows_in (drop (i + 1) list)) → AreSummaries (more ++ rest) (flows_in list)
next_sums list i x all more one h S m before rest R =
    subst (λ (z : List Summary). AreSummaries z (flows_in list)) (sym (ap (λ (z : List Summary). z ++ rest) m ∙ append_assoc all (one ∷ []) rest)) (before (one ∷ rest) (subst (λ (z : List Tree). AreSummaries (one ∷ rest) (flows_in z)) (sym (dropped list i x h)) (S, R)))

pub next_within : (types : List Ty) (list : List Tree) (i : ℕ) (x : Tree) (first one two : List Edge) → slice_get list i ≡ Some x → Adds one two (IsMet types (flows_of x)) → ((new : List Edge) → Adds one new (IsWithin types (drop i list)) → Adds first new (IsWithin types list)) → (new : List Edge) → Adds two new (IsWithin types (drop (i + 1) list)) → Adds first new (IsWithin types list)
next_within types list i x first one two h A before new B = before new (subst (λ (z : List Tree). Adds one new (IsWithin types z)) (sym (dropped list i x h)) (adds_two one two new (IsMet types (flows_of x)) (IsWithin types (drop (i + 1) list)) A B))

pub done_sums : (list : List Tree) (i : ℕ) (all seen : List Summary) → length list ≤ i → seen ≡ all → ((rest : List Summary) → AreSummaries rest (flows_in (drop i list)) → AreSummaries (all ++ rest) (flows_in list)) → AreSummaries seen (flows_in list)
done_sums list i all seen h s inv = subst (λ (z : List Summary). AreSummaries z (flows_in list)) (append-nil all ∙ sym s) (inv [] (subst (λ (z : List Tree). AreSummaries [] (flows_in z)) (sym (drop_all list i h)) tt))

pub done_within : (types : List Ty) (list : List Tree) (i : ℕ) (first last : List Edge) → length list ≤ i → ((new : List Edge) → Adds last new (IsWithin types (drop i list)) → Adds first new (IsWithin types list)) → Adds first last (IsWithin types list)
done_within types list i first last h inv = inv last (subst (λ (z : List Tree). Adds last last (IsWithin types z)) (sym (drop_all list i h)) (adds_none last (IsWithin types []) (λ e x. x)))

pub first_within : (types : List Ty) (list : List Tree) (first : List Edge) → (new : List Edge) → Adds first new (IsWithin types list) → Adds first new (IsWithin types list)
first_within types list first new A = A

-- ---- methods

pub next_methods : (list : List Method) (i : ℕ) (x : Method) (first one two : List Edge) → slice_get list i ≡ Some x → Adds one two (IsSlotEdge x) → ((new : List Edge) → Adds one new (AreSlotEdges (drop i list)) → Adds first new (AreSlotEdges list)) → (new : List Edge) → Adds two new (AreSlotEdges (drop (i + 1) list)) → Adds first new (AreSlotEdges list)
next_methods list i x first one two h A before new B = before new (subst (λ (z : List Method). Adds one new (AreSlotEdges z)) (sym (dropped list i x h)) (adds_two one two new (IsSlotEdge x) (AreSlotEdges (drop (i + 1) list)) A B))

pub done_methods : (list : List Method) (i : ℕ) (first last : List Edge) → length list ≤ i → ((new : List Edge) → Adds last new (AreSlotEdges (drop i list)) → Adds first new (AreSlotEdges list)) → Adds first last (AreSlotEdges list)
done_methods list i first last h inv = inv last (subst (λ (z : List Method). Adds last last (AreSlotEdges z)) (sym (drop_all list i h)) (adds_none last (AreSlotEdges []) (λ e x. x)))

-- ---- one summary at most

pub few_sum : (list : List Summary) (fs : List Flows) (s : Summary) → length list < 2 → IsFew list s → AreSummaries list fs → IsSummary s (line fs)
few_sum [] [] s h F A = empty_sum s F
few_sum [] (f ∷ fs) s h F A = absurd A
few_sum (one ∷ []) [] s h F A = absurd A
few_sum (one ∷ []) (f ∷ []) s h F A = then_empty s f (copy_sum one s f F A.0)
few_sum (one ∷ []) (f ∷ g ∷ fs) s h F A = absurd A.1
few_sum (one ∷ two ∷ rest) fs s h F A = absurd (omega (arith, h))

no_line : (types : List Ty) (f : Flows) (e : Edge) → IsOver types f (line []) e → ⊥
no_line types f e (over t l r) = elim r [ ]

few_cross : (types : List Ty) (list : List Summary) (fs : List Flows) (e : Edge) → length list < 2 → AreSummaries list fs → IsCross types fs e → ⊥
few_cross types [] [] e h A x = x
few_cross types [] (f ∷ fs) e h A x = absurd A
few_cross types (one ∷ []) [] e h A x = x
few_cross types (one ∷ []) (f ∷ []) e h A x = ⊎_elim (λ (t : IsOver types f (line []) e). no_line types f e t) (λ (t : IsCross types [] e). t) x
few_cross types (one ∷ []) (f ∷ g ∷ fs) e h A x = absurd A.1
few_cross types (one ∷ two ∷ rest) fs e h A x = absurd (omega (arith, h))

pub few_over : (types : List Ty) (list : List Summary) (fs : List Flows) (old : List Edge) → length list < 2 → AreSummaries list fs → Adds old old (IsCross types fs)
few_over types list fs old h A = adds_none old (IsCross types fs) (λ e x. few_cross types list fs e h A x)
