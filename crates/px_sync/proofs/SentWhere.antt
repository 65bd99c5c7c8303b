-- Where what is sent comes from.
use Rattle.std.proofs.Common.{◌≡◌, ℕ, zero, suc, List, [], ◌∷◌, ◌++◌, Some, slice_get, refl, sym, ap, ◌∙◌, ⊎_elim, subst}
use Rattle.std.specs.List.{AllByRecursion}
use Rattle.std.proofs.lemmas.Option.{same_Some}
use Rattle.px_constraints.specs.System.{At}
use Rattle.px_normal.specs.declared.word.Word.{Word}
use Rattle.px_normal.specs.declared.method.Tree.{Tree}
use Rattle.px_normal.specs.declared.method.Tree.TheVariants.{Do, If, Loop}
use Rattle.px_normal.specs.declared.method.Method.{Method}
use Rattle.px_normal.specs.declared.code.Code.{Code}
use Rattle.px_normal.specs.First.{numbered}
use Rattle.px_flow_points.specs.Statements.{Stands, here, in_yes, in_no, in_first, in_body, HasStatement}
use Rattle.px_flow_points.proofs.Trees.{TreeCases, each_tree}
use Rattle.px_flow_points.proofs.Elements.{in_append, in_first as first_in, in_second as second_in}
use Rattle.px_sync.specs.declared.sent.Sent.{Sent}
use Rattle.px_sync.specs.Found.{Placing, word_sent, tree_sent, trees_sent, methods_sent}
use Rattle.px_sync.proofs.SentWalk.{of_do, of_if, of_loop}

-- a statement that asks for it
pub record FromStatement (code : Code) (P : Placing) (k : Sent) : Type 0 where
  pub method : ℕ
  pub node : ℕ
  pub word : Word
  pub has : HasStatement code method node word
  pub at : At (word_sent P node word) k

module _ (P : Placing) (k : Sent) where
  -- a statement of a tree asks for it
  record FromTree (t : Tree) : Type 0 where
    node : ℕ
    word : Word
    stands : Stands node word t
    at : At (word_sent P node word) k

  record FromList (ts : List Tree) : Type 0 where
    place : ℕ
    tree : Tree
    is : slice_get ts place ≡ Some tree
    from : FromTree tree

  abbrev Goal : Tree → Type 0
  Goal t = At (tree_sent P t) k → FromTree t

  none_at : At [] k → ⊥
  none_at h = cc

  list_to : (ts : List Tree) → AllByRecursion Goal ts → At (trees_sent P ts) k → FromList ts
  list_to [] all h = absurd (none_at h)
  list_to (t ∷ ts) all h = ⊎_elim
      (λ (u : At (tree_sent P t) k). record { place = zero; tree = t; is = refl; from = all.0 u })
      (λ (u : At (trees_sent P ts) k). let r = list_to ts all.1 u in record { place = suc r.place; tree = r.tree; is = r.is; from = r.from })
      (in_append (tree_sent P t) (trees_sent P ts) k h)

  cases : TreeCases Goal
  cases = record {
    on_do = λ node word h. record { node = node; word = word; stands = here refl; at = subst (λ (xs : List Sent). At xs k) (of_do P node word) h };
    on_if = λ node a ys ns first rest h. ⊎_elim
        (λ (u : At (trees_sent P ys) k). let r = list_to ys first u in record { node = r.from.node; word = r.from.word; stands = in_yes node r.place a ys ns r.tree refl r.is r.from.stands; at = r.from.at })
        (λ (u : At (trees_sent P ns) k). let r = list_to ns rest u in record { node = r.from.node; word = r.from.word; stands = in_no node r.place a ys ns r.tree refl r.is r.from.stands; at = r.from.at })
        (in_append (trees_sent P ys) (trees_sent P ns) k (subst (λ (xs : List Sent). At xs k) (of_if P node a ys ns) h));
    on_loop = λ before node a body first rest h. ⊎_elim
        (λ (u : At (trees_sent P before) k). let r = list_to before first u in record { node = r.from.node; word = r.from.word; stands = in_first node r.place a before body r.tree refl r.is r.from.stands; at = r.from.at })
        (λ (u : At (trees_sent P body) k). let r = list_to body rest u in record { node = r.from.node; word = r.from.word; stands = in_body node r.place a before body r.tree refl r.is r.from.stands; at = r.from.at })
        (in_append (trees_sent P before) (trees_sent P body) k (subst (λ (xs : List Sent). At xs k) (of_loop P before node a body) h));
  }

  all_goals : (ts : List Tree) → AllByRecursion Goal ts
  all_goals [] = tt
  all_goals (t ∷ ts) = (each_tree Goal cases t, all_goals ts)

  body_to : (ts : List Tree) → At (trees_sent P ts) k → FromList ts
  body_to ts h = list_to ts (all_goals ts) h

  list_back : (ts : List Tree) (j : ℕ) (t : Tree) → slice_get ts j ≡ Some t → At (tree_sent P t) k → At (trees_sent P ts) k
  list_back [] j t is h = cc
  list_back (x ∷ ts) zero t is h = first_in (tree_sent P x) (trees_sent P ts) k (subst (λ (y : Tree). At (tree_sent P y) k) (sym (same_Some x t is)) h)
  list_back (x ∷ ts) (suc j) t is h = second_in (tree_sent P x) (trees_sent P ts) k (list_back ts j t is h)

  as_tree : (t u : Tree) (ks : List Sent) → t ≡ u → tree_sent P u ≡ ks → At ks k → At (tree_sent P t) k
  as_tree t u ks e f h = subst (λ (xs : List Sent). At xs k) (sym (ap (tree_sent P) e ∙ f)) h

  tree_back : (node : ℕ) (word : Word) (t : Tree) → Stands node word t → At (word_sent P node word) k → At (tree_sent P t) k
  tree_back node word t (here e) h = as_tree t (Do node word) (word_sent P node word) e (of_do P node word) h
  tree_back node word t (in_yes n j a ys ns y e is s) h = as_tree t (If n a ys ns) (trees_sent P ys ++ trees_sent P ns) e (of_if P n a ys ns) (first_in (trees_sent P ys) (trees_sent P ns) k (list_back ys j y is (tree_back node word y s h)))
  tree_back node word t (in_no n j a ys ns y e is s) h = as_tree t (If n a ys ns) (trees_sent P ys ++ trees_sent P ns) e (of_if P n a ys ns) (second_in (trees_sent P ys) (trees_sent P ns) k (list_back ns j y is (tree_back node word y s h)))
  tree_back node word t (in_first n j a before body y e is s) h = as_tree t (Loop before n a body) (trees_sent P before ++ trees_sent P body) e (of_loop P before n a body) (first_in (trees_sent P before) (trees_sent P body) k (list_back before j y is (tree_back node word y s h)))
  tree_back node word t (in_body n j a before body y e is s) h = as_tree t (Loop before n a body) (trees_sent P before ++ trees_sent P body) e (of_loop P before n a body) (second_in (trees_sent P before) (trees_sent P body) k (list_back body j y is (tree_back node word y s h)))

  record FromMethods (methods : List Method) : Type 0 where
    place : ℕ
    method : Method
    is : slice_get methods place ≡ Some method
    at : At (trees_sent P method.body) k

  methods_to : (methods : List Method) → At (methods_sent P methods) k → FromMethods methods
  methods_to [] h = absurd (none_at h)
  methods_to (x ∷ xs) h = ⊎_elim
      (λ (u : At (trees_sent P x.body) k). record { place = zero; method = x; is = refl; at = u })
      (λ (u : At (methods_sent P xs) k). let r = methods_to xs u in record { place = suc r.place; method = r.method; is = r.is; at = r.at })
      (in_append (trees_sent P x.body) (methods_sent P xs) k h)

  methods_back : (methods : List Method) (j : ℕ) (method : Method) → slice_get methods j ≡ Some method → At (trees_sent P method.body) k → At (methods_sent P methods) k
  methods_back [] j method is h = cc
  methods_back (x ∷ xs) zero method is h = first_in (trees_sent P x.body) (methods_sent P xs) k (subst (λ (y : Method). At (trees_sent P y.body) k) (sym (same_Some x method is)) h)
  methods_back (x ∷ xs) (suc j) method is h = second_in (trees_sent P x.body) (methods_sent P xs) k (methods_back xs j method is h)

  pub comes_to : (code : Code) → At (methods_sent P code.methods) k → FromStatement code P k
  comes_to code h =
      let r = methods_to code.methods h in
      let b = body_to r.method.body r.at in
      record { method = suc r.place; node = b.from.node; word = b.from.word; has = record { method = r.method; is = record { is = r.is }; place = b.place; tree = b.tree; at = b.is; stands = b.from.stands }; at = b.from.at }

  method_back : (code : Code) (m : ℕ) (method : Method) → numbered code.methods m ≡ Some method → At (trees_sent P method.body) k → At (methods_sent P code.methods) k
  method_back code zero method is h = cc
  method_back code (suc j) method is h = methods_back code.methods j method is h

  pub comes_back : (code : Code) (m node : ℕ) (word : Word) → HasStatement code m node word → At (word_sent P node word) k → At (methods_sent P code.methods) k
  comes_back code m node word has at = method_back code m has.method has.is.is (list_back has.method.body has.place has.tree has.at (tree_back node word has.tree has.stands at))
