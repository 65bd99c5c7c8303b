-- The lists of summaries.
use Rattle.std.proofs.Common.{◌≡◌, ℕ, nat_eq, Bool, true, false, not, ◌&&◌, List, [], ◌∷◌, ◌++◌, Option, Some, None, slice_get, refl, sym, ap, ◌∙◌, ◌⊎◌, inl, inr, ⊎_elim, subst, if◌then◌else◌, arith}
use Rattle.px_constraints.specs.System.{At}
use Rattle.px_normal.specs.declared.ty.Ty.{Ty}
use Rattle.px_depend.specs.declared.edge.Edge.{Edge}
use Rattle.px_depend.specs.declared.places.Place.{Place}
use Rattle.px_depend.specs.declared.summary.Summary.{Summary}
use Rattle.px_depend.specs.Places.{place, nodes_at, passes, passing, others}
use Rattle.px_depend.specs.Uses.{has}
use Rattle.px_depend.specs.Summaries.{slot_edge, slot_edges_to, reached_by, reached, pairs}
use Rattle.px_flow_points.proofs.Elements.{in_none, in_cons, in_head, in_tail, in_append, in_first, in_second, in_map, from_map}
use Rattle.px_depend.proofs.Truths.{same_number}

-- ---- places

pub same_slot : (d u k j : ℕ) → place d k ≡ place u j → k ≡ j
same_slot d u k j e = ap (λ (p : Place). p.slot) e

pub same_node : (d u k j : ℕ) → place d k ≡ place u j → d ≡ u
same_node d u k j e = ap (λ (p : Place). p.node) e

passing_to_if : (b : Bool) (s : Summary) (p : Place) (ps : List Place) (k d : ℕ) → passes s p.slot ≡ b → (At (passing s ps) (place d k) → (passes s k ≡ true) × At ps (place d k)) → At (if b then p ∷ passing s ps else passing s ps) (place d k) → (passes s k ≡ true) × At (p ∷ ps) (place d k)
passing_to_if true s p ps k d e rest h = ⊎_elim
    (λ (q : p ≡ place d k). (ap (λ (z : Place). passes s z.slot) (sym q) ∙ e, subst (λ (z : Place). At (z ∷ ps) (place d k)) (sym q) (in_head (place d k) ps)))
    (λ (t : At (passing s ps) (place d k)). let u = rest t in (u.0, in_tail p ps (place d k) u.1))
    (in_cons p (passing s ps) (place d k) h)
passing_to_if false s p ps k d e rest h = let u = rest h in (u.0, in_tail p ps (place d k) u.1)

pub passing_to : (s : Summary) (ps : List Place) (k d : ℕ) → At (passing s ps) (place d k) → (passes s k ≡ true) × At ps (place d k)
passing_to s [] k d h = absurd (in_none (place d k) h)
passing_to s (p ∷ ps) k d h = passing_to_if (passes s p.slot) s p ps k d refl (passing_to s ps k d) h

passing_back_if : (b : Bool) (s : Summary) (p : Place) (ps : List Place) (k d : ℕ) → passes s p.slot ≡ b → passes s k ≡ true → (p ≡ place d k) ⊎ At (passing s ps) (place d k) → At (if b then p ∷ passing s ps else passing s ps) (place d k)
passing_back_if true s p ps k d e h t = ⊎_elim
    (λ (q : p ≡ place d k). subst (λ (z : Place). At (z ∷ passing s ps) (place d k)) (sym q) (in_head (place d k) (passing s ps)))
    (λ (u : At (passing s ps) (place d k)). in_tail p (passing s ps) (place d k) u)
    t
passing_back_if false s p ps k d e h t = ⊎_elim
    (λ (q : p ≡ place d k). let z : passes s k ≡ false = ap (λ (z : Place). passes s z.slot) (sym q) ∙ e in cc)
    (λ (u : At (passing s ps) (place d k)). u)
    t

pub passing_back : (s : Summary) (ps : List Place) (k d : ℕ) → passes s k ≡ true → At ps (place d k) → At (passing s ps) (place d k)
passing_back s [] k d h t = t
passing_back s (p ∷ ps) k d h t = passing_back_if (passes s p.slot) s p ps k d refl h (⊎_elim inl (λ (u : At ps (place d k)). inr (passing_back s ps k d h u)) (in_cons p ps (place d k) t))

-- ---- the nodes of a slot

nodes_to_if : (b : Bool) (k : ℕ) (p : Place) (ps : List Place) (d : ℕ) → nat_eq k p.slot ≡ b → (At (nodes_at k ps) d → At ps (place d k)) → At (if b then p.node ∷ nodes_at k ps else nodes_at k ps) d → At (p ∷ ps) (place d k)
nodes_to_if true k p ps d e rest h = ⊎_elim
    (λ (q : p.node ≡ d). subst (λ (n : ℕ). At (p ∷ ps) (place n k)) q (subst (λ (j : ℕ). At (p ∷ ps) (place p.node j)) (sym (same_number k p.slot e)) (in_head p ps)))
    (λ (t : At (nodes_at k ps) d). in_tail p ps (place d k) (rest t))
    (in_cons p.node (nodes_at k ps) d h)
nodes_to_if false k p ps d e rest h = in_tail p ps (place d k) (rest h)

pub nodes_to : (k : ℕ) (ps : List Place) (d : ℕ) → At (nodes_at k ps) d → At ps (place d k)
nodes_to k [] d h = absurd (in_none d h)
nodes_to k (p ∷ ps) d h = nodes_to_if (nat_eq k p.slot) k p ps d refl (nodes_to k ps d) h

pub self_equal : (k : ℕ) → nat_eq k k ≡ true
self_equal k = grind arith

nodes_back_if : (b : Bool) (k : ℕ) (p : Place) (ps : List Place) (d : ℕ) → nat_eq k p.slot ≡ b → (p ≡ place d k) ⊎ At (nodes_at k ps) d → At (if b then p.node ∷ nodes_at k ps else nodes_at k ps) d
nodes_back_if true k p ps d e t = ⊎_elim
    (λ (q : p ≡ place d k). subst (λ (n : ℕ). At (n ∷ nodes_at k ps) d) (sym (ap (λ (z : Place). z.node) q)) (in_head d (nodes_at k ps)))
    (λ (u : At (nodes_at k ps) d). in_tail p.node (nodes_at k ps) d u)
    t
nodes_back_if false k p ps d e t = ⊎_elim
    (λ (q : p ≡ place d k). let z : nat_eq k k ≡ false = ap (λ (z : Place). nat_eq k z.slot) (sym q) ∙ e in let y = self_equal k in cc)
    (λ (u : At (nodes_at k ps) d). u)
    t

pub nodes_back : (k : ℕ) (ps : List Place) (d : ℕ) → At ps (place d k) → At (nodes_at k ps) d
nodes_back k [] d h = absurd (in_none (place d k) h)
nodes_back k (p ∷ ps) d h = nodes_back_if (nat_eq k p.slot) k p ps d refl (⊎_elim inl (λ (u : At ps (place d k)). inr (nodes_back k ps d u)) (in_cons p ps (place d k) h))

-- ---- edges from places to places

pub record Paired (types : List Ty) (leave arrive : List Place) (e : Edge) : Type 0 where
  pub slot : ℕ
  pub first : ℕ
  pub second : ℕ
  pub ty : Ty
  pub typed : slice_get types slot ≡ Some ty
  pub leaves : At leave (place first slot)
  pub arrives : At arrive (place second slot)
  pub is : slot_edge slot first second ty ≡ e

reached_to : (types : List Ty) (o : Option Ty) (leave : List Place) (p : Place) (e : Edge) → slice_get types p.slot ≡ o → At (reached_by o p (nodes_at p.slot leave)) e → Paired types leave (p ∷ []) e
reached_to types None leave p e g h = absurd (in_none e h)
reached_to types (Some t) leave p e g h = let c = from_map (slot_edges_to p.slot p.node t) (nodes_at p.slot leave) e h in record {
  slot = p.slot;
  first = c.from;
  second = p.node;
  ty = t;
  typed = g;
  leaves = nodes_to p.slot leave c.from c.at;
  arrives = in_head p [];
  is = c.is;
}

wider : (types : List Ty) (leave some all : List Place) (e : Edge) → ((q : Place) → At some q → At all q) → Paired types leave some e → Paired types leave all e
wider types leave some all e up c = record { slot = c.slot; first = c.first; second = c.second; ty = c.ty; typed = c.typed; leaves = c.leaves; arrives = up (place c.second c.slot) c.arrives; is = c.is }

head_only : (p : Place) (ps : List Place) (q : Place) → At (p ∷ []) q → At (p ∷ ps) q
head_only p ps q h = ⊎_elim (λ (t : p ≡ q). subst (λ (z : Place). At (z ∷ ps) q) (sym t) (in_head q ps)) (λ (t : At [] q). absurd (in_none q t)) (in_cons p [] q h)

pub pairs_to : (types : List Ty) (leave arrive : List Place) (e : Edge) → At (pairs types leave arrive) e → Paired types leave arrive e
pairs_to types leave [] e h = absurd (in_none e h)
pairs_to types leave (p ∷ ps) e h = ⊎_elim
    (λ (t : At (reached types p (nodes_at p.slot leave)) e). wider types leave (p ∷ []) (p ∷ ps) e (head_only p ps) (reached_to types (slice_get types p.slot) leave p e refl t))
    (λ (t : At (pairs types leave ps) e). wider types leave ps (p ∷ ps) e (in_tail p ps) (pairs_to types leave ps e t))
    (in_append (reached types p (nodes_at p.slot leave)) (pairs types leave ps) e h)

reached_back : (types : List Ty) (o : Option Ty) (leave : List Place) (k d u : ℕ) (t : Ty) → o ≡ Some t → At leave (place d k) → At (reached_by o (place u k) (nodes_at k leave)) (slot_edge k d u t)
reached_back types None leave k d u t g h = cc
reached_back types (Some x) leave k d u t g h = subst (λ (y : Option Ty). At (reached_by y (place u k) (nodes_at k leave)) (slot_edge k d u t)) (sym g) (in_map (slot_edges_to k u t) (nodes_at k leave) d (nodes_back k leave d h))

pub pairs_back : (types : List Ty) (leave arrive : List Place) (k d u : ℕ) (t : Ty) → slice_get types k ≡ Some t → At leave (place d k) → At arrive (place u k) → At (pairs types leave arrive) (slot_edge k d u t)
pairs_back types leave [] k d u t g l a = absurd (in_none (place u k) a)
pairs_back types leave (p ∷ ps) k d u t g l a = ⊎_elim
    (λ (q : p ≡ place u k). subst (λ (z : Place). At (reached types z (nodes_at z.slot leave) ++ pairs types leave ps) (slot_edge k d u t)) (sym q) (in_first (reached types (place u k) (nodes_at k leave)) (pairs types leave ps) (slot_edge k d u t) (reached_back types (slice_get types k) leave k d u t g l)))
    (λ (s : At ps (place u k)). in_second (reached types p (nodes_at p.slot leave)) (pairs types leave ps) (slot_edge k d u t) (pairs_back types leave ps k d u t g l s))
    (in_cons p ps (place u k) a)

-- ---- those that are left as they were

passing_if : (b : Bool) (p : Place) (ps qs : List Place) → ps ≡ qs → (if (true && not b) then p ∷ ps else ps) ≡ (if b then qs else p ∷ qs)
passing_if true p ps qs h = h
passing_if false p ps qs h = ap (λ (z : List Place). p ∷ z) h

pub passing_true : (s : Summary) (ps : List Place) → s.completes ≡ true → passing s ps ≡ others s.written.items ps
passing_true s [] c = refl
passing_true s (p ∷ ps) c = ap (λ (b : Bool). if (b && not (has p.slot s.written.items)) then p ∷ passing s ps else passing s ps) c ∙ passing_if (has p.slot s.written.items) p (passing s ps) (others s.written.items ps) (passing_true s ps c)

pub passing_false : (s : Summary) (ps : List Place) → s.completes ≡ false → passing s ps ≡ []
passing_false s [] c = refl
passing_false s (p ∷ ps) c = ap (λ (b : Bool). if (b && not (has p.slot s.written.items)) then p ∷ passing s ps else passing s ps) c ∙ passing_false s ps c
