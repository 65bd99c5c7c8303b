-- The lists of what objects hold are the edges that the rules give.
use Rattle.std.proofs.Common.{◌≡◌, ◌<◌, ◌+◌, ℕ, nat_eq, Bool, true, false, List, [], ◌∷◌, ◌++◌, length, drop, get_or, Option, Some, None, refl, sym, ap, ◌∙◌, ◌⊎◌, inl, inr, ⊎_elim, subst, if◌then◌else◌, append_assoc}
use Rattle.std.specs.Option.{option_eq}
use Rattle.std.proofs.lemmas.List.{drop_more}
use Rattle.px_constraints.specs.System.{At}
use Rattle.px_normal.specs.declared.code.Code.{Code}
use Rattle.px_flow_points.specs.declared.part.Part.{Part}
use Rattle.px_flow_points.specs.declared.part.Part.TheVariants.{Field, Elements}
use Rattle.px_flow_points.specs.declared.part.Pair.{Pair}
use Rattle.px_flow_points.specs.declared.pairs.Touch.{Touch}
use Rattle.px_flow_points.specs.ByNode.{pair, touch, ReadsAt, WritesAt, Found, AreTouched}
use Rattle.px_depend.specs.declared.edge.Edge.{Edge}
use Rattle.px_depend.specs.declared.edge.End.TheVariants as end
use Rattle.px_depend.specs.declared.edge.Tie.TheVariants as tie
use Rattle.px_depend.specs.declared.sizes.Home.{Home}
use Rattle.px_depend.specs.Depend.{edge, IsEdge}
use Rattle.px_depend.specs.Depend as rule
use Rattle.px_depend.specs.Sizes.{home_of}
use Rattle.px_depend.specs.Objects.{Key, field_in, key_of, is_key, nodes_of, update_by, updates, part_edge, found_by, found, object_edges}
use Rattle.px_flow_points.proofs.Elements.{in_none, in_one, in_cons, in_head, in_tail, in_append, in_first, in_second, in_map, from_map}
use Rattle.px_flow_points.proofs.TouchWhere.{by_pair, pair_to, pair_back}
use Rattle.px_depend.proofs.Truths.{and_to, and_back, same_number}
use Rattle.px_depend.proofs.Lists.{self_equal}

-- ---- keys

same_field : (a b : Option ℕ) → option_eq nat_eq a b ≡ true → a ≡ b
same_field None None h = refl
same_field None (Some y) h = cc
same_field (Some x) None h = cc
same_field (Some x) (Some y) h = ap (λ (n : ℕ). Some n) (same_number x y h)

own_field : (a : Option ℕ) → option_eq nat_eq a a ≡ true
own_field None = refl
own_field (Some x) = self_equal x

same_key : (a b : Key) → is_key a b ≡ true → a ≡ b
same_key a b h =
    let t = and_to (nat_eq a.0 b.0) (option_eq nat_eq a.1 b.1) h in
    ap (λ (n : ℕ). (n, a.1)) (same_number a.0 b.0 t.0) ∙ ap (λ (o : Option ℕ). (b.0, o)) (same_field a.1 b.1 t.1)

own_key : (a : Key) → is_key a a ≡ true
own_key a = and_back (nat_eq a.0 a.0) (option_eq nat_eq a.1 a.1) (self_equal a.0) (own_field a.1)

same_part : (a b : Part) → field_in a ≡ field_in b → a ≡ b
same_part (Field m) (Field n) h = ap (λ (o : Option ℕ). part_of o) h
  where
    part_of : Option ℕ → Part
    part_of None = Elements
    part_of (Some k) = Field k
same_part (Field m) Elements h = cc
same_part Elements (Field n) h = cc
same_part Elements Elements h = refl

same_pair : (a b : Pair) → key_of a ≡ key_of b → a ≡ b
same_pair a b h = ap (λ (n : ℕ). pair n a.part) (ap (λ (k : Key). k.0) h) ∙ ap (λ (q : Part). pair b.site q) (same_part a.part b.part (ap (λ (k : Key). k.1) h))

nodes_to_if : (b : Bool) (q : Pair) (t : Touch) (ts : List Touch) (d : ℕ) → is_key (key_of q) (key_of t.pair) ≡ b → (At (nodes_of (key_of q) ts) d → At ts (by_pair d q)) → At (if b then t.node ∷ nodes_of (key_of q) ts else nodes_of (key_of q) ts) d → At (t ∷ ts) (by_pair d q)
nodes_to_if true q t ts d g rest h = ⊎_elim
    (λ (u : t.node ≡ d). subst (λ (n : ℕ). At (t ∷ ts) (by_pair n q)) u (subst (λ (z : Pair). At (t ∷ ts) (by_pair t.node z)) (sym (same_pair q t.pair (same_key (key_of q) (key_of t.pair) g))) (in_head t ts)))
    (λ (u : At (nodes_of (key_of q) ts) d). in_tail t ts (by_pair d q) (rest u))
    (in_cons t.node (nodes_of (key_of q) ts) d h)
nodes_to_if false q t ts d g rest h = in_tail t ts (by_pair d q) (rest h)

nodes_to : (q : Pair) (ts : List Touch) (d : ℕ) → At (nodes_of (key_of q) ts) d → At ts (by_pair d q)
nodes_to q [] d h = absurd (in_none d h)
nodes_to q (t ∷ ts) d h = nodes_to_if (is_key (key_of q) (key_of t.pair)) q t ts d refl (nodes_to q ts d) h

nodes_back_if : (b : Bool) (q : Pair) (t : Touch) (ts : List Touch) (d : ℕ) → is_key (key_of q) (key_of t.pair) ≡ b → (t ≡ by_pair d q) ⊎ At (nodes_of (key_of q) ts) d → At (if b then t.node ∷ nodes_of (key_of q) ts else nodes_of (key_of q) ts) d
nodes_back_if true q t ts d g h = ⊎_elim
    (λ (u : t ≡ by_pair d q). subst (λ (n : ℕ). At (n ∷ nodes_of (key_of q) ts) d) (sym (ap (λ (z : Touch). z.node) u)) (in_head d (nodes_of (key_of q) ts)))
    (λ (u : At (nodes_of (key_of q) ts) d). in_tail t.node (nodes_of (key_of q) ts) d u)
    h
nodes_back_if false q t ts d g h = ⊎_elim
    (λ (u : t ≡ by_pair d q). let z : is_key (key_of q) (key_of q) ≡ false = ap (λ (z : Touch). is_key (key_of q) (key_of z.pair)) (sym u) ∙ g in let y = own_key (key_of q) in cc)
    (λ (u : At (nodes_of (key_of q) ts) d). u)
    h

nodes_back : (q : Pair) (ts : List Touch) (d : ℕ) → At ts (by_pair d q) → At (nodes_of (key_of q) ts) d
nodes_back q [] d h = absurd (in_none (by_pair d q) h)
nodes_back q (t ∷ ts) d h = nodes_back_if (is_key (key_of q) (key_of t.pair)) q t ts d refl (⊎_elim inl (λ (u : At ts (by_pair d q)). inr (nodes_back q ts d u)) (in_cons t ts (by_pair d q) h))

-- ---- for the code

more_if : (b : Bool) (key : Key) (t : Touch) (ts : List Touch) (old : List ℕ) → is_key (key_of t.pair) key ≡ b → (at_own : List ℕ) → ((key_of t.pair ≡ key) → at_own ≡ old) → (if b then at_own ++ t.node ∷ [] else old) ++ nodes_of key ts ≡ old ++ nodes_of key (t ∷ ts)
more_if true key t ts old g own same =
    let q = same_key (key_of t.pair) key g in
    ap (λ (zs : List ℕ). (zs ++ t.node ∷ []) ++ nodes_of key ts) (same q) ∙ append_assoc old (t.node ∷ []) (nodes_of key ts) ∙ ap (λ (b : Bool). old ++ (if b then t.node ∷ nodes_of key ts else nodes_of key ts)) (sym (ap (λ (k : Key). is_key key k) q ∙ own_key key))
more_if false key t ts old g own same = ap (λ (b : Bool). old ++ (if b then t.node ∷ nodes_of key ts else nodes_of key ts)) (sym (other (is_key key (key_of t.pair)) refl))
  where
    other : (b : Bool) → is_key key (key_of t.pair) ≡ b → is_key key (key_of t.pair) ≡ false
    other false h = h
    other true h = let z : is_key key key ≡ false = ap (λ (k : Key). is_key k key) (same_key key (key_of t.pair) h) ∙ g in let y = own_key key in cc

-- one writer more is in the map
pub one_more : (key : Key) (writes : List Touch) (i : ℕ) (d : Touch) (before after : Key → List ℕ) → i < length writes → (after key ≡ (if is_key (key_of (get_or writes i d).pair) key then before (key_of (get_or writes i d).pair) ++ (get_or writes i d).node ∷ [] else before key)) → before key ++ nodes_of key (drop i writes) ≡ nodes_of key writes → after key ++ nodes_of key (drop (i + 1) writes) ≡ nodes_of key writes
one_more key writes i d before after h a rest =
    ap (λ (zs : List ℕ). zs ++ nodes_of key (drop (i + 1) writes)) a
    ∙ more_if (is_key (key_of (get_or writes i d).pair) key) key (get_or writes i d) (drop (i + 1) writes) (before key) refl (before (key_of (get_or writes i d).pair)) (λ q. ap before q)
    ∙ ap (λ (z : List Touch). before key ++ nodes_of key z) (sym (drop_more writes i d h))
    ∙ rest

-- ---- edges

module _ (code : Code) (P : Found) (T : AreTouched code P) where
  write_to : (t : Touch) → At P.writes t → WritesAt code t.node t.pair.site t.pair.part
  write_to t h = (T.writes t.node t.pair.site t.pair.part).to (pair_back t.node P.writes t.pair h)

  write_back : (d s : ℕ) (q : Part) → WritesAt code d s q → At P.writes (touch d q s)
  write_back d s q w = pair_to d P.writes (pair s q) ((T.writes d s q).back w)

  read_to : (t : Touch) → At P.reads t → ReadsAt code t.node t.pair.site t.pair.part
  read_to t h = (T.reads t.node t.pair.site t.pair.part).to (pair_back t.node P.reads t.pair h)

  read_back : (u s : ℕ) (q : Part) → ReadsAt code u s q → At P.reads (touch u q s)
  read_back u s q r = pair_to u P.reads (pair s q) ((T.reads u s q).back r)

  update_to : (t : Touch) (o : Option Home) (x : Edge) → At P.writes t → home_of code t.pair.site t.pair.part ≡ o → At (update_by o t) x → IsEdge code x
  update_to t None x at g h = absurd (in_none x h)
  update_to t (Some home) x at g h = subst (λ (z : Edge). IsEdge code z) (in_one (edge (end.Node home.node) t.node tie.Home home.size) x h) (rule.IsEdge.updates (write_to t at) g)

  updates_to : (ts : List Touch) (x : Edge) → ((t : Touch) → At ts t → At P.writes t) → At (updates code ts) x → IsEdge code x
  updates_to [] x all h = absurd (in_none x h)
  updates_to (t ∷ ts) x all h = ⊎_elim
      (λ (u : At (update_by (home_of code t.pair.site t.pair.part) t) x). update_to t (home_of code t.pair.site t.pair.part) x (all t (in_head t ts)) refl u)
      (λ (u : At (updates code ts) x). updates_to ts x (λ s v. all s (in_tail t ts s v)) u)
      (in_append (update_by (home_of code t.pair.site t.pair.part) t) (updates code ts) x h)

  found_one : (t : Touch) (o : Option Home) (x : Edge) → At P.reads t → home_of code t.pair.site t.pair.part ≡ o → At (found_by o t (nodes_of (key_of t.pair) P.writes)) x → IsEdge code x
  found_one t None x at g h = absurd (in_none x h)
  found_one t (Some home) x at g h =
      let c = from_map (part_edge t home.size) (nodes_of (key_of t.pair) P.writes) x h in
      subst (λ (z : Edge). IsEdge code z) c.is (rule.IsEdge.found (write_to (by_pair c.from t.pair) (nodes_to t.pair P.writes c.from c.at)) (read_to t at) g)

  found_to : (ts : List Touch) (x : Edge) → ((t : Touch) → At ts t → At P.reads t) → At (found code P.writes ts) x → IsEdge code x
  found_to [] x all h = absurd (in_none x h)
  found_to (t ∷ ts) x all h = ⊎_elim
      (λ (u : At (found_by (home_of code t.pair.site t.pair.part) t (nodes_of (key_of t.pair) P.writes)) x). found_one t (home_of code t.pair.site t.pair.part) x (all t (in_head t ts)) refl u)
      (λ (u : At (found code P.writes ts) x). found_to ts x (λ s v. all s (in_tail t ts s v)) u)
      (in_append (found_by (home_of code t.pair.site t.pair.part) t (nodes_of (key_of t.pair) P.writes)) (found code P.writes ts) x h)

  pub objects_to : (x : Edge) → At (object_edges code P.writes P.reads) x → IsEdge code x
  objects_to x h = ⊎_elim (λ (u : At (updates code P.writes) x). updates_to P.writes x (λ t v. v) u) (λ (u : At (found code P.writes P.reads) x). found_to P.reads x (λ t v. v) u) (in_append (updates code P.writes) (found code P.writes P.reads) x h)

  -- ---- back

  updates_back : (ts : List Touch) (t : Touch) (home : Home) → At ts t → home_of code t.pair.site t.pair.part ≡ Some home → At (updates code ts) (edge (end.Node home.node) t.node tie.Home home.size)
  updates_back [] t home at g = absurd (in_none t at)
  updates_back (s ∷ ts) t home at g = ⊎_elim
      (λ (q : s ≡ t). in_first (update_by (home_of code s.pair.site s.pair.part) s) (updates code ts) (edge (end.Node home.node) t.node tie.Home home.size) (subst (λ (z : Touch). At (update_by (home_of code z.pair.site z.pair.part) z) (edge (end.Node home.node) t.node tie.Home home.size)) (sym q) (subst (λ (o : Option Home). At (update_by o t) (edge (end.Node home.node) t.node tie.Home home.size)) (sym g) (in_head (edge (end.Node home.node) t.node tie.Home home.size) []))))
      (λ (u : At ts t). in_second (update_by (home_of code s.pair.site s.pair.part) s) (updates code ts) (edge (end.Node home.node) t.node tie.Home home.size) (updates_back ts t home u g))
      (in_cons s ts t at)

  found_back : (ts : List Touch) (t : Touch) (d : ℕ) (home : Home) → At ts t → At P.writes (by_pair d t.pair) → home_of code t.pair.site t.pair.part ≡ Some home → At (found code P.writes ts) (part_edge t home.size d)
  found_back [] t d home at w g = absurd (in_none t at)
  found_back (s ∷ ts) t d home at w g = ⊎_elim
      (λ (q : s ≡ t). in_first (found_by (home_of code s.pair.site s.pair.part) s (nodes_of (key_of s.pair) P.writes)) (found code P.writes ts) (part_edge t home.size d) (subst (λ (z : Touch). At (found_by (home_of code z.pair.site z.pair.part) z (nodes_of (key_of z.pair) P.writes)) (part_edge t home.size d)) (sym q) (subst (λ (o : Option Home). At (found_by o t (nodes_of (key_of t.pair) P.writes)) (part_edge t home.size d)) (sym g) (in_map (part_edge t home.size) (nodes_of (key_of t.pair) P.writes) d (nodes_back t.pair P.writes d w)))))
      (λ (u : At ts t). in_second (found_by (home_of code s.pair.site s.pair.part) s (nodes_of (key_of s.pair) P.writes)) (found code P.writes ts) (part_edge t home.size d) (found_back ts t d home u w g))
      (in_cons s ts t at)

  pub of_update : (d s : ℕ) (q : Part) (home : Home) → WritesAt code d s q → home_of code s q ≡ Some home → At (object_edges code P.writes P.reads) (edge (end.Node home.node) d tie.Home home.size)
  of_update d s q home w g = in_first (updates code P.writes) (found code P.writes P.reads) (edge (end.Node home.node) d tie.Home home.size) (updates_back P.writes (touch d q s) home (write_back d s q w) g)

  pub of_found : (d u s : ℕ) (q : Part) (home : Home) → WritesAt code d s q → ReadsAt code u s q → home_of code s q ≡ Some home → At (object_edges code P.writes P.reads) (edge (end.Node d) u (tie.Part q) home.size)
  of_found d u s q home w r g = in_second (updates code P.writes) (found code P.writes P.reads) (edge (end.Node d) u (tie.Part q) home.size) (found_back P.reads (touch u q s) d home (read_back u s q r) (write_back d s q w) g)
