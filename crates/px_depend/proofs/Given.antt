-- The edges of parameters, and those of all methods.
use Rattle.std.proofs.Common.{◌≡◌, ◌≤◌, ℕ, nat_lt, Bool, true, false, List, [], ◌∷◌, ◌++◌, Option, Some, None, slice_get, refl, sym, inl, inr, ⊎_elim, subst, if◌then◌else◌, arith}
use Rattle.px_constraints.specs.System.{At}
use Rattle.px_normal.specs.declared.ty.Ty.{Ty}
use Rattle.px_normal.specs.declared.method.Method.{Method}
use Rattle.px_depend.specs.declared.edge.Edge.{Edge}
use Rattle.px_depend.specs.declared.places.Place.{Place}
use Rattle.px_depend.specs.declared.summary.Summary.{Summary}
use Rattle.px_depend.specs.Places.{place, IsSummary}
use Rattle.px_depend.specs.Summaries.{slot_edge, reached_by, reached, Adds, IsMet, shapes, IsGiven, given, IsSlotEdge, AreSlotEdges, given_one, given_all}
use Rattle.px_flow_points.proofs.Elements.{in_none, in_one, in_cons, in_head, in_tail, in_append, in_first, in_second}
use Rattle.px_depend.proofs.Branching.{adds_two}

not_below : (a b : ℕ) → nat_lt a b ≡ false → b ≤ a
not_below a b h = grind arith

below_not : (a b : ℕ) → b ≤ a → nat_lt a b ≡ false
below_not a b h = grind arith

-- a parameter that is used
record Takes (types : List Ty) (params node : ℕ) (arrive : List Place) (e : Edge) : Type 0 where
  slot : ℕ
  user : ℕ
  ty : Ty
  typed : slice_get types slot ≡ Some ty
  within : slot ≤ params
  arrives : At arrive (place user slot)
  is : slot_edge slot node user ty ≡ e

one_to : (types : List Ty) (o : Option Ty) (params node : ℕ) (p : Place) (e : Edge) → slice_get types p.slot ≡ o → p.slot ≤ params → At (reached_by o p (node ∷ [])) e → Takes types params node (p ∷ []) e
one_to types None params node p e g le h = absurd (in_none e h)
one_to types (Some t) params node p e g le h = record { slot = p.slot; user = p.node; ty = t; typed = g; within = le; arrives = in_head p []; is = in_one (slot_edge p.slot node p.node t) e h }

one_if : (b : Bool) (types : List Ty) (params node : ℕ) (p : Place) (e : Edge) → nat_lt params p.slot ≡ b → At (if b then [] else reached types p (node ∷ [])) e → Takes types params node (p ∷ []) e
one_if true types params node p e g h = absurd (in_none e h)
one_if false types params node p e g h = one_to types (slice_get types p.slot) params node p e refl (not_below params p.slot g) h

wider : (types : List Ty) (params node : ℕ) (some all : List Place) (e : Edge) → ((q : Place) → At some q → At all q) → Takes types params node some e → Takes types params node all e
wider types params node some all e up c = record { slot = c.slot; user = c.user; ty = c.ty; typed = c.typed; within = c.within; arrives = up (place c.user c.slot) c.arrives; is = c.is }

takes_to : (types : List Ty) (params node : ℕ) (arrive : List Place) (e : Edge) → At (given_all types params node arrive) e → Takes types params node arrive e
takes_to types params node [] e h = absurd (in_none e h)
takes_to types params node (p ∷ ps) e h = ⊎_elim
    (λ (t : At (given_one types params node p) e). wider types params node (p ∷ []) (p ∷ ps) e (λ q u. in_first (p ∷ []) ps q u) (one_if (nat_lt params p.slot) types params node p e refl t))
    (λ (t : At (given_all types params node ps) e). wider types params node ps (p ∷ ps) e (in_tail p ps) (takes_to types params node ps e t))
    (in_append (given_one types params node p) (given_all types params node ps) e h)

reached_one : (o : Option Ty) (k u node : ℕ) (t : Ty) → o ≡ Some t → At (reached_by o (place u k) (node ∷ [])) (slot_edge k node u t)
reached_one o k u node t g = subst (λ (z : Option Ty). At (reached_by z (place u k) (node ∷ [])) (slot_edge k node u t)) (sym g) (in_head (slot_edge k node u t) [])

given_here : (b : Bool) (types : List Ty) (params node k u : ℕ) (t : Ty) → b ≡ false → slice_get types k ≡ Some t → At (if b then [] else reached types (place u k) (node ∷ [])) (slot_edge k node u t)
given_here true types params node k u t e g = cc
given_here false types params node k u t e g = reached_one (slice_get types k) k u node t g

takes_back : (types : List Ty) (params node : ℕ) (arrive : List Place) (k u : ℕ) (t : Ty) → slice_get types k ≡ Some t → k ≤ params → At arrive (place u k) → At (given_all types params node arrive) (slot_edge k node u t)
takes_back types params node [] k u t g le h = absurd (in_none (place u k) h)
takes_back types params node (p ∷ ps) k u t g le h = ⊎_elim
    (λ (q : p ≡ place u k). in_first (given_one types params node p) (given_all types params node ps) (slot_edge k node u t) (subst (λ (z : Place). At (given_one types params node z) (slot_edge k node u t)) (sym q) (given_here (nat_lt params k) types params node k u t (below_not params k le) g)))
    (λ (s : At ps (place u k)). in_second (given_one types params node p) (given_all types params node ps) (slot_edge k node u t) (takes_back types params node ps k u t g le s))
    (in_cons p ps (place u k) h)

given_to : (m : Method) (s : Summary) (e : Edge) → IsSummary s (shapes m.body) → At (given_all m.slots m.params m.node s.arrive.items) e → IsGiven m e
given_to m s e S h = let c = takes_to m.slots m.params m.node s.arrive.items e h in subst (λ (z : Edge). IsGiven m z) c.is (given c.typed c.within ((S.arrive c.slot c.user).to c.arrives))

given_back : (m : Method) (s : Summary) (e : Edge) → IsSummary s (shapes m.body) → IsGiven m e → At (given_all m.slots m.params m.node s.arrive.items) e
given_back m s e S (given {k = k} {u = u} {t = t} g le a) = takes_back m.slots m.params m.node s.arrive.items k u t g le ((S.arrive k u).back a)

-- ---- one method, and all

pub method_adds : (m : Method) (s : Summary) (old mid new : List Edge) → IsSummary s (shapes m.body) → Adds old mid (IsMet m.slots (shapes m.body)) → new ≡ mid ++ given_all m.slots m.params m.node s.arrive.items → Adds old new (IsSlotEdge m)
method_adds m s old mid new S A h = adds_two old mid new (IsMet m.slots (shapes m.body)) (IsGiven m) A (λ e. record {
  to = λ t. ⊎_elim inl (λ (u : At (given_all m.slots m.params m.node s.arrive.items) e). inr (given_to m s e S u)) (in_append mid (given_all m.slots m.params m.node s.arrive.items) e (subst (λ (z : List Edge). At z e) h t));
  back = λ t. subst (λ (z : List Edge). At z e) (sym h) (⊎_elim (λ (u : At mid e). in_first mid (given_all m.slots m.params m.node s.arrive.items) e u) (λ (u : IsGiven m e). in_second mid (given_all m.slots m.params m.node s.arrive.items) e (given_back m s e S u)) t);
})

pub next_method : (m : Method) (ms : List Method) (one two new : List Edge) → Adds one two (IsSlotEdge m) → Adds two new (AreSlotEdges ms) → Adds one new (AreSlotEdges (m ∷ ms))
next_method m ms one two new A B = adds_two one two new (IsSlotEdge m) (AreSlotEdges ms) A B
