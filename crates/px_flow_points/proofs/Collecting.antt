-- Where the constraints of code come from.
use Rattle.std.proofs.Common.{◌≡◌, ℕ, zero, suc, ◌+◌, Bool, true, false, List, [], ◌∷◌, ◌++◌, Some, slice_get, refl, sym, ap, ◌∙◌, ⊎_elim, subst, arith}
use Rattle.std.specs.List.{AllByRecursion}
use Rattle.std.proofs.lemmas.Option.{same_Some}
use Rattle.px_constraints.specs.declared.system.Constraint.{Constraint}
use Rattle.px_constraints.specs.System.{At}
use Rattle.px_normal.specs.declared.word.Word.{Word}
use Rattle.px_normal.specs.declared.method.Tree.{Tree}
use Rattle.px_normal.specs.declared.method.Tree.TheVariants.{Do, If, Loop}
use Rattle.px_normal.specs.declared.method.Method.{Method}
use Rattle.px_normal.specs.declared.code.Code.{Code}
use Rattle.px_normal.specs.First.{numbered}
use Rattle.px_flow_points.specs.Statements.{Stands, here, in_yes, in_no, in_first, in_body}
use Rattle.px_flow_points.proofs.Trees.{TreeCases, each_tree}
use Rattle.px_flow_points.specs.Numbers.{slot_var}
use Rattle.px_flow_points.specs.Constraints.{starts, word_constraints, tree_constraints, trees_constraints, entry_constraints, methods_constraints}
use Rattle.px_flow_points.specs.Laws.{Comes, of_statement, of_entry, Collects}
use Rattle.px_flow_points.proofs.Walk.{of_do, of_if, of_loop}
use Rattle.px_flow_points.proofs.Grouping.{in_append, in_left, in_right, in_cases}

module _ (bases : List ℕ) (m : ℕ) (k : Constraint) where
  -- a statement of a tree has the constraint
  record FromTree (t : Tree) : Type 0 where
    node : ℕ
    word : Word
    stands : Stands node word t
    at : At (word_constraints bases m word) k

  record FromList (ts : List Tree) : Type 0 where
    place : ℕ
    tree : Tree
    is : slice_get ts place ≡ Some tree
    from : FromTree tree

  abbrev Goal : Tree → Type 0
  Goal t = At (tree_constraints bases m t) k → FromTree t

  none_at : At [] k → ⊥
  none_at h = cc

  list_to : (ts : List Tree) → AllByRecursion Goal ts → At (trees_constraints bases m ts) k → FromList ts
  list_to [] all h = absurd (none_at h)
  list_to (t ∷ ts) all h = ⊎_elim
      (λ (u : At (tree_constraints bases m t) k). record { place = zero; tree = t; is = refl; from = all.0 u })
      (λ (u : At (trees_constraints bases m ts) k). let r = list_to ts all.1 u in record { place = suc r.place; tree = r.tree; is = r.is; from = r.from })
      (in_append (tree_constraints bases m t) (trees_constraints bases m ts) k h)

  cases : TreeCases Goal
  cases = record {
    on_do = λ node word h. record { node = node; word = word; stands = here refl; at = subst (λ (xs : List Constraint). At xs k) (of_do bases m node word) h };
    on_if = λ node a ys ns first rest h. ⊎_elim
        (λ (u : At (trees_constraints bases m ys) k). let r = list_to ys first u in record { node = r.from.node; word = r.from.word; stands = in_yes node r.place a ys ns r.tree refl r.is r.from.stands; at = r.from.at })
        (λ (u : At (trees_constraints bases m ns) k). let r = list_to ns rest u in record { node = r.from.node; word = r.from.word; stands = in_no node r.place a ys ns r.tree refl r.is r.from.stands; at = r.from.at })
        (in_append (trees_constraints bases m ys) (trees_constraints bases m ns) k (subst (λ (xs : List Constraint). At xs k) (of_if bases m node a ys ns) h));
    on_loop = λ before node a body first rest h. ⊎_elim
        (λ (u : At (trees_constraints bases m before) k). let r = list_to before first u in record { node = r.from.node; word = r.from.word; stands = in_first node r.place a before body r.tree refl r.is r.from.stands; at = r.from.at })
        (λ (u : At (trees_constraints bases m body) k). let r = list_to body rest u in record { node = r.from.node; word = r.from.word; stands = in_body node r.place a before body r.tree refl r.is r.from.stands; at = r.from.at })
        (in_append (trees_constraints bases m before) (trees_constraints bases m body) k (subst (λ (xs : List Constraint). At xs k) (of_loop bases m before node a body) h));
  }

  all_goals : (ts : List Tree) → AllByRecursion Goal ts
  all_goals [] = tt
  all_goals (t ∷ ts) = (each_tree Goal cases t, all_goals ts)

  body_to : (ts : List Tree) → At (trees_constraints bases m ts) k → FromList ts
  body_to ts h = list_to ts (all_goals ts) h

  list_back : (ts : List Tree) (j : ℕ) (t : Tree) → slice_get ts j ≡ Some t → At (tree_constraints bases m t) k → At (trees_constraints bases m ts) k
  list_back [] j t is h = cc
  list_back (x ∷ ts) zero t is h = in_left (tree_constraints bases m x) (trees_constraints bases m ts) k (subst (λ (y : Tree). At (tree_constraints bases m y) k) (sym (same_Some x t is)) h)
  list_back (x ∷ ts) (suc j) t is h = in_right (tree_constraints bases m x) (trees_constraints bases m ts) k (list_back ts j t is h)

  as_tree : (t u : Tree) (ks : List Constraint) → t ≡ u → tree_constraints bases m u ≡ ks → At ks k → At (tree_constraints bases m t) k
  as_tree t u ks e f h = subst (λ (xs : List Constraint). At xs k) (sym (ap (tree_constraints bases m) e ∙ f)) h

  tree_back : (node : ℕ) (word : Word) (t : Tree) → Stands node word t → At (word_constraints bases m word) k → At (tree_constraints bases m t) k
  tree_back node word t (here e) h = as_tree t (Do node word) (word_constraints bases m word) e (of_do bases m node word) h
  tree_back node word t (in_yes n j a ys ns y e is s) h = as_tree t (If n a ys ns) (trees_constraints bases m ys ++ trees_constraints bases m ns) e (of_if bases m n a ys ns) (in_left (trees_constraints bases m ys) (trees_constraints bases m ns) k (list_back ys j y is (tree_back node word y s h)))
  tree_back node word t (in_no n j a ys ns y e is s) h = as_tree t (If n a ys ns) (trees_constraints bases m ys ++ trees_constraints bases m ns) e (of_if bases m n a ys ns) (in_right (trees_constraints bases m ys) (trees_constraints bases m ns) k (list_back ns j y is (tree_back node word y s h)))
  tree_back node word t (in_first n j a before body y e is s) h = as_tree t (Loop before n a body) (trees_constraints bases m before ++ trees_constraints bases m body) e (of_loop bases m before n a body) (in_left (trees_constraints bases m before) (trees_constraints bases m body) k (list_back before j y is (tree_back node word y s h)))
  tree_back node word t (in_body n j a before body y e is s) h = as_tree t (Loop before n a body) (trees_constraints bases m before ++ trees_constraints bases m body) e (of_loop bases m before n a body) (in_right (trees_constraints bases m before) (trees_constraints bases m body) k (list_back body j y is (tree_back node word y s h)))

-- ---- all methods

module _ (bases : List ℕ) (k : Constraint) where
  record FromMethods (n : ℕ) (methods : List Method) : Type 0 where
    place : ℕ
    method : Method
    is : slice_get methods place ≡ Some method
    at : At (entry_constraints bases (n + place) method.entry ++ trees_constraints bases (n + place) method.body) k

  none_here : At [] k → ⊥
  none_here h = cc

  methods_to : (n : ℕ) (methods : List Method) → At (methods_constraints bases n methods) k → FromMethods n methods
  methods_to n [] h = absurd (none_here h)
  methods_to n (x ∷ xs) h = ⊎_elim
      (λ (u : At (entry_constraints bases n x.entry ++ trees_constraints bases n x.body) k). record { place = zero; method = x; is = refl; at = subst (λ j. At (entry_constraints bases j x.entry ++ trees_constraints bases j x.body) k) (let e : n ≡ n + 0 = omega arith in e) u })
      (λ (u : At (methods_constraints bases (n + 1) xs) k). let r = methods_to (n + 1) xs u in record { place = suc r.place; method = r.method; is = r.is; at = subst (λ j. At (entry_constraints bases j r.method.entry ++ trees_constraints bases j r.method.body) k) (let e : n + 1 + r.place ≡ n + suc r.place = omega arith in e) r.at })
      (in_append (entry_constraints bases n x.entry ++ trees_constraints bases n x.body) (methods_constraints bases (n + 1) xs) k h)

  methods_back : (n : ℕ) (methods : List Method) (j : ℕ) (method : Method) → slice_get methods j ≡ Some method → At (entry_constraints bases (n + j) method.entry ++ trees_constraints bases (n + j) method.body) k → At (methods_constraints bases n methods) k
  methods_back n [] j method is h = cc
  methods_back n (x ∷ xs) zero method is h = in_left (entry_constraints bases n x.entry ++ trees_constraints bases n x.body) (methods_constraints bases (n + 1) xs) k
      (subst (λ (y : Method). At (entry_constraints bases n y.entry ++ trees_constraints bases n y.body) k) (sym (same_Some x method is)) (subst (λ j. At (entry_constraints bases j method.entry ++ trees_constraints bases j method.body) k) (let e : n + 0 ≡ n = omega arith in e) h))
  methods_back n (x ∷ xs) (suc j) method is h = in_right (entry_constraints bases n x.entry ++ trees_constraints bases n x.body) (methods_constraints bases (n + 1) xs) k
      (methods_back (n + 1) xs j method is (subst (λ i. At (entry_constraints bases i method.entry ++ trees_constraints bases i method.body) k) (let e : n + suc j ≡ n + 1 + j = omega arith in e) h))

  entry_to : (m : ℕ) (b : Bool) → At (entry_constraints bases m b) k → (b ≡ true) × (k ≡ starts (slot_var bases m 0) 0)
  entry_to m false h = absurd (none_here h)
  entry_to m true h = (refl, ⊎_elim (λ (e : starts (slot_var bases m 0) 0 ≡ k). sym e) (λ (t : At [] k). absurd (none_here t)) (in_cases (starts (slot_var bases m 0) 0) [] k h))

  entry_back : (m : ℕ) (b : Bool) → b ≡ true → k ≡ starts (slot_var bases m 0) 0 → At (entry_constraints bases m b) k
  entry_back m true e h = (zero, ap (λ (x : Constraint). Some x) (sym h))
  entry_back m false e h = cc

  comes_to : (code : Code) → At (methods_constraints bases 1 code.methods) k → Comes code bases k
  comes_to code h =
      let r = methods_to 1 code.methods h in
      let number : 1 + r.place ≡ suc r.place = omega arith in
      let is : numbered code.methods (1 + r.place) ≡ Some r.method = ap (λ j. numbered code.methods j) number ∙ r.is in
      ⊎_elim
      (λ (u : At (entry_constraints bases (1 + r.place) r.method.entry) k). let e = entry_to (1 + r.place) r.method.entry u in of_entry (1 + r.place) r.method (record { is = is }) e.0 e.1)
      (λ (u : At (trees_constraints bases (1 + r.place) r.method.body) k).
      let b = body_to bases (1 + r.place) k r.method.body u in
      of_statement (1 + r.place) b.from.node b.from.word (record { method = r.method; is = record { is = is }; place = b.place; tree = b.tree; at = b.is; stands = b.from.stands }) b.from.at)
      (in_append (entry_constraints bases (1 + r.place) r.method.entry) (trees_constraints bases (1 + r.place) r.method.body) k r.at)

  method_back : (code : Code) (m : ℕ) (method : Method) → numbered code.methods m ≡ Some method → At (entry_constraints bases m method.entry ++ trees_constraints bases m method.body) k → At (methods_constraints bases 1 code.methods) k
  method_back code zero method is h = cc
  method_back code (suc j) method is h = methods_back 1 code.methods j method is (subst (λ i. At (entry_constraints bases i method.entry ++ trees_constraints bases i method.body) k) (let e : suc j ≡ 1 + j = omega arith in e) h)

  comes_back : (code : Code) → Comes code bases k → At (methods_constraints bases 1 code.methods) k
  comes_back code (of_statement m node word has at) = method_back code m has.method has.is.is (in_right (entry_constraints bases m has.method.entry) (trees_constraints bases m has.method.body) k (list_back bases m k has.method.body has.place has.tree has.at (tree_back bases m k node word has.tree has.stands at)))
  comes_back code (of_entry m method is entry e) = method_back code m method is.is (in_left (entry_constraints bases m method.entry) (trees_constraints bases m method.body) k (entry_back m method.entry entry e))

pub collects : Collects
collects code bases k = record { to = comes_to bases k code; back = comes_back bases k code }
