-- What statements touch, by their nodes.
use Rattle.std.proofs.Common.{◌≡◌, ℕ, zero, suc, ◌+◌, nat_eq, Bool, true, false, List, [], ◌∷◌, ◌++◌, Some, slice_get, refl, sym, ap, ◌∙◌, ◌⊎◌, inl, inr, ⊎_elim, subst, if◌then◌else◌, arith}
use Rattle.std.specs.List.{AllByRecursion}
use Rattle.std.proofs.lemmas.Option.{same_Some}
use Rattle.px_constraints.specs.System.{At}
use Rattle.px_normal.specs.declared.word.Word.{Word}
use Rattle.px_normal.specs.declared.method.Tree.{Tree}
use Rattle.px_normal.specs.declared.method.Tree.TheVariants.{Do, If, Loop}
use Rattle.px_normal.specs.declared.method.Method.{Method}
use Rattle.px_normal.specs.declared.code.Code.{Code}
use Rattle.px_normal.specs.First.{numbered}
use Rattle.px_flow_points.specs.declared.part.Part.{Part}
use Rattle.px_flow_points.specs.declared.part.Pair.{Pair}
use Rattle.px_flow_points.specs.declared.pairs.Touch.{Touch}
use Rattle.px_flow_points.specs.declared.touched.Access.{Access}
use Rattle.px_flow_points.specs.Statements.{Stands, here, in_yes, in_no, in_first, in_body, HasStatement}
use Rattle.px_flow_points.specs.Exact.{PointsOf}
use Rattle.px_flow_points.specs.Touched.{part_of_word}
use Rattle.px_flow_points.specs.ByNode.{pair, touch, pairs_at, sites_of, word_touches, tree_touches, trees_touches, methods_touches, AreAll}
use Rattle.px_flow_points.proofs.Trees.{TreeCases, each_tree}
use Rattle.px_flow_points.proofs.TouchWalk.{of_do, of_if, of_loop}
use Rattle.px_flow_points.proofs.Elements.{in_none, in_cons, in_head, in_tail, in_append, in_first as first_in, in_second as second_in, in_map, from_map}

abbrev pub by_pair : ℕ → Pair → Touch
by_pair n q = record { node = n; pair = q }

pub equal_numbers : (a b : ℕ) → nat_eq a b ≡ true → a ≡ b
equal_numbers a b h = grind arith

self_equal : (k : ℕ) → nat_eq k k ≡ true
self_equal k = grind arith

-- a statement that touches it
pub record FromStatement (code : Code) (P : PointsOf) (access : Access) (k : Touch) : Type 0 where
  pub method : ℕ
  pub node : ℕ
  pub word : Word
  pub has : HasStatement code method node word
  pub at : At (word_touches P access method node word) k

-- a statement of the node that touches the part of the site
pub record Touches (code : Code) (P : PointsOf) (access : Access) (node s : ℕ) (part : Part) : Type 0 where
  pub method : ℕ
  pub word : Word
  pub has : HasStatement code method node word
  pub at : At (sites_of P access method word) s
  pub part_is : part_of_word word ≡ part

module _ (P : PointsOf) (access : Access) (m : ℕ) (k : Touch) where
  -- a statement of a tree touches it
  record FromTree (t : Tree) : Type 0 where
    node : ℕ
    word : Word
    stands : Stands node word t
    at : At (word_touches P access m node word) k

  record FromList (ts : List Tree) : Type 0 where
    place : ℕ
    tree : Tree
    is : slice_get ts place ≡ Some tree
    from : FromTree tree

  abbrev Goal : Tree → Type 0
  Goal t = At (tree_touches P access m t) k → FromTree t

  none_at : At [] k → ⊥
  none_at h = cc

  list_to : (ts : List Tree) → AllByRecursion Goal ts → At (trees_touches P access m ts) k → FromList ts
  list_to [] all h = absurd (none_at h)
  list_to (t ∷ ts) all h = ⊎_elim
      (λ (u : At (tree_touches P access m t) k). record { place = zero; tree = t; is = refl; from = all.0 u })
      (λ (u : At (trees_touches P access m ts) k). let r = list_to ts all.1 u in record { place = suc r.place; tree = r.tree; is = r.is; from = r.from })
      (in_append (tree_touches P access m t) (trees_touches P access m ts) k h)

  cases : TreeCases Goal
  cases = record {
    on_do = λ node word h. record { node = node; word = word; stands = here refl; at = subst (λ (xs : List Touch). At xs k) (of_do P access m node word) h };
    on_if = λ node a ys ns first rest h. ⊎_elim
        (λ (u : At (trees_touches P access m ys) k). let r = list_to ys first u in record { node = r.from.node; word = r.from.word; stands = in_yes node r.place a ys ns r.tree refl r.is r.from.stands; at = r.from.at })
        (λ (u : At (trees_touches P access m ns) k). let r = list_to ns rest u in record { node = r.from.node; word = r.from.word; stands = in_no node r.place a ys ns r.tree refl r.is r.from.stands; at = r.from.at })
        (in_append (trees_touches P access m ys) (trees_touches P access m ns) k (subst (λ (xs : List Touch). At xs k) (of_if P access m node a ys ns) h));
    on_loop = λ before node a body first rest h. ⊎_elim
        (λ (u : At (trees_touches P access m before) k). let r = list_to before first u in record { node = r.from.node; word = r.from.word; stands = in_first node r.place a before body r.tree refl r.is r.from.stands; at = r.from.at })
        (λ (u : At (trees_touches P access m body) k). let r = list_to body rest u in record { node = r.from.node; word = r.from.word; stands = in_body node r.place a before body r.tree refl r.is r.from.stands; at = r.from.at })
        (in_append (trees_touches P access m before) (trees_touches P access m body) k (subst (λ (xs : List Touch). At xs k) (of_loop P access m before node a body) h));
  }

  all_goals : (ts : List Tree) → AllByRecursion Goal ts
  all_goals [] = tt
  all_goals (t ∷ ts) = (each_tree Goal cases t, all_goals ts)

  body_to : (ts : List Tree) → At (trees_touches P access m ts) k → FromList ts
  body_to ts h = list_to ts (all_goals ts) h

  list_back : (ts : List Tree) (j : ℕ) (t : Tree) → slice_get ts j ≡ Some t → At (tree_touches P access m t) k → At (trees_touches P access m ts) k
  list_back [] j t is h = cc
  list_back (x ∷ ts) zero t is h = first_in (tree_touches P access m x) (trees_touches P access m ts) k (subst (λ (y : Tree). At (tree_touches P access m y) k) (sym (same_Some x t is)) h)
  list_back (x ∷ ts) (suc j) t is h = second_in (tree_touches P access m x) (trees_touches P access m ts) k (list_back ts j t is h)

  as_tree : (t u : Tree) (ks : List Touch) → t ≡ u → tree_touches P access m u ≡ ks → At ks k → At (tree_touches P access m t) k
  as_tree t u ks e f h = subst (λ (xs : List Touch). At xs k) (sym (ap (tree_touches P access m) e ∙ f)) h

  tree_back : (node : ℕ) (word : Word) (t : Tree) → Stands node word t → At (word_touches P access m node word) k → At (tree_touches P access m t) k
  tree_back node word t (here e) h = as_tree t (Do node word) (word_touches P access m node word) e (of_do P access m node word) h
  tree_back node word t (in_yes n j a ys ns y e is s) h = as_tree t (If n a ys ns) (trees_touches P access m ys ++ trees_touches P access m ns) e (of_if P access m n a ys ns) (first_in (trees_touches P access m ys) (trees_touches P access m ns) k (list_back ys j y is (tree_back node word y s h)))
  tree_back node word t (in_no n j a ys ns y e is s) h = as_tree t (If n a ys ns) (trees_touches P access m ys ++ trees_touches P access m ns) e (of_if P access m n a ys ns) (second_in (trees_touches P access m ys) (trees_touches P access m ns) k (list_back ns j y is (tree_back node word y s h)))
  tree_back node word t (in_first n j a before body y e is s) h = as_tree t (Loop before n a body) (trees_touches P access m before ++ trees_touches P access m body) e (of_loop P access m before n a body) (first_in (trees_touches P access m before) (trees_touches P access m body) k (list_back before j y is (tree_back node word y s h)))
  tree_back node word t (in_body n j a before body y e is s) h = as_tree t (Loop before n a body) (trees_touches P access m before ++ trees_touches P access m body) e (of_loop P access m before n a body) (second_in (trees_touches P access m before) (trees_touches P access m body) k (list_back body j y is (tree_back node word y s h)))

module _ (P : PointsOf) (access : Access) (k : Touch) where
  record FromMethods (n : ℕ) (methods : List Method) : Type 0 where
    place : ℕ
    method : Method
    is : slice_get methods place ≡ Some method
    at : At (trees_touches P access (n + place) method.body) k

  none_here : At [] k → ⊥
  none_here h = cc

  methods_to : (n : ℕ) (methods : List Method) → At (methods_touches P access n methods) k → FromMethods n methods
  methods_to n [] h = absurd (none_here h)
  methods_to n (x ∷ xs) h = ⊎_elim
      (λ (u : At (trees_touches P access n x.body) k). record { place = zero; method = x; is = refl; at = subst (λ j. At (trees_touches P access j x.body) k) (let e : n ≡ n + 0 = omega arith in e) u })
      (λ (u : At (methods_touches P access (n + 1) xs) k). let r = methods_to (n + 1) xs u in record { place = suc r.place; method = r.method; is = r.is; at = subst (λ j. At (trees_touches P access j r.method.body) k) (let e : n + 1 + r.place ≡ n + suc r.place = omega arith in e) r.at })
      (in_append (trees_touches P access n x.body) (methods_touches P access (n + 1) xs) k h)

  methods_back : (n : ℕ) (methods : List Method) (j : ℕ) (method : Method) → slice_get methods j ≡ Some method → At (trees_touches P access (n + j) method.body) k → At (methods_touches P access n methods) k
  methods_back n [] j method is h = cc
  methods_back n (x ∷ xs) zero method is h = first_in (trees_touches P access n x.body) (methods_touches P access (n + 1) xs) k
      (subst (λ (y : Method). At (trees_touches P access n y.body) k) (sym (same_Some x method is)) (subst (λ j. At (trees_touches P access j method.body) k) (let e : n + 0 ≡ n = omega arith in e) h))
  methods_back n (x ∷ xs) (suc j) method is h = second_in (trees_touches P access n x.body) (methods_touches P access (n + 1) xs) k
      (methods_back (n + 1) xs j method is (subst (λ i. At (trees_touches P access i method.body) k) (let e : n + suc j ≡ n + 1 + j = omega arith in e) h))

  comes_to : (code : Code) → At (methods_touches P access 1 code.methods) k → FromStatement code P access k
  comes_to code h =
      let r = methods_to 1 code.methods h in
      let number : 1 + r.place ≡ suc r.place = omega arith in
      let is : numbered code.methods (1 + r.place) ≡ Some r.method = ap (λ j. numbered code.methods j) number ∙ r.is in
      let b = body_to P access (1 + r.place) k r.method.body r.at in
      record { method = 1 + r.place; node = b.from.node; word = b.from.word; has = record { method = r.method; is = record { is = is }; place = b.place; tree = b.tree; at = b.is; stands = b.from.stands }; at = b.from.at }

  method_back : (code : Code) (m : ℕ) (method : Method) → numbered code.methods m ≡ Some method → At (trees_touches P access m method.body) k → At (methods_touches P access 1 code.methods) k
  method_back code zero method is h = cc
  method_back code (suc j) method is h = methods_back 1 code.methods j method is (subst (λ i. At (trees_touches P access i method.body) k) (let e : suc j ≡ 1 + j = omega arith in e) h)

  comes_back : (code : Code) (m node : ℕ) (word : Word) → HasStatement code m node word → At (word_touches P access m node word) k → At (methods_touches P access 1 code.methods) k
  comes_back code m node word has at = method_back code m has.method has.is.is (list_back P access m k has.method.body has.place has.tree has.at (tree_back P access m k node word has.tree has.stands at))

-- ---- by node

pair_to_if : (b : Bool) (node : ℕ) (t : Touch) (ts : List Touch) (q : Pair) → nat_eq node t.node ≡ b → (At (pairs_at node ts) q → At ts (by_pair node q)) → At (if b then t.pair ∷ pairs_at node ts else pairs_at node ts) q → At (t ∷ ts) (by_pair node q)
pair_to_if true node t ts q e rest h = ⊎_elim
    (λ (u : t.pair ≡ q). subst (λ (z : Pair). At (t ∷ ts) (by_pair node z)) u (subst (λ (n : ℕ). At (t ∷ ts) (by_pair n t.pair)) (sym (equal_numbers node t.node e)) (in_head t ts)))
    (λ (u : At (pairs_at node ts) q). in_tail t ts (by_pair node q) (rest u))
    (in_cons t.pair (pairs_at node ts) q h)
pair_to_if false node t ts q e rest h = in_tail t ts (by_pair node q) (rest h)

pub pair_to : (node : ℕ) (ts : List Touch) (q : Pair) → At (pairs_at node ts) q → At ts (by_pair node q)
pair_to node [] q h = absurd (in_none q h)
pair_to node (t ∷ ts) q h = pair_to_if (nat_eq node t.node) node t ts q refl (pair_to node ts q) h

pair_back_if : (b : Bool) (node : ℕ) (t : Touch) (ts : List Touch) (q : Pair) → nat_eq node t.node ≡ b → (t ≡ by_pair node q) ⊎ At (pairs_at node ts) q → At (if b then t.pair ∷ pairs_at node ts else pairs_at node ts) q
pair_back_if true node t ts q e h = ⊎_elim
    (λ (u : t ≡ by_pair node q). subst (λ (z : Pair). At (z ∷ pairs_at node ts) q) (sym (ap (λ (z : Touch). z.pair) u)) (in_head q (pairs_at node ts)))
    (λ (u : At (pairs_at node ts) q). in_tail t.pair (pairs_at node ts) q u)
    h
pair_back_if false node t ts q e h = ⊎_elim
    (λ (u : t ≡ by_pair node q). let z : nat_eq node node ≡ false = ap (λ (z : Touch). nat_eq node z.node) (sym u) ∙ e in let y = self_equal node in cc)
    (λ (u : At (pairs_at node ts) q). u)
    h

pub pair_back : (node : ℕ) (ts : List Touch) (q : Pair) → At ts (by_pair node q) → At (pairs_at node ts) q
pair_back node [] q h = absurd (in_none (by_pair node q) h)
pair_back node (t ∷ ts) q h = pair_back_if (nat_eq node t.node) node t ts q refl (⊎_elim inl (λ (u : At ts (by_pair node q)). inr (pair_back node ts q u)) (in_cons t ts (by_pair node q) h))

-- ---- exactly

module _ (code : Code) (P : PointsOf) (access : Access) (all : List Touch) (A : AreAll (methods_touches P access 1 code.methods) all) (node s : ℕ) (part : Part) where
  pub touched_to : At (pairs_at node all) (pair s part) → Touches code P access node s part
  touched_to h =
      let r = comes_to P access (touch node part s) code ((A.same (touch node part s)).to (pair_to node all (pair s part) h)) in
      let c = from_map (touch r.node (part_of_word r.word)) (sites_of P access r.method r.word) (touch node part s) r.at in
      record {
        method = r.method;
        word = r.word;
        has = subst (λ (n : ℕ). HasStatement code r.method n r.word) (ap (λ (z : Touch). z.node) c.is) r.has;
        at = subst (λ (n : ℕ). At (sites_of P access r.method r.word) n) (ap (λ (z : Touch). z.pair.site) c.is) c.at;
        part_is = ap (λ (z : Touch). z.pair.part) c.is;
      }

  pub touched_back : Touches code P access node s part → At (pairs_at node all) (pair s part)
  touched_back r = pair_back node all (pair s part) ((A.same (touch node part s)).back (comes_back P access (touch node part s) code r.method node r.word r.has (subst (λ (q : Part). At (word_touches P access r.method node r.word) (touch node q s)) r.part_is (in_map (touch node (part_of_word r.word)) (sites_of P access r.method r.word) s r.at))))
