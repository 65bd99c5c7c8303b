-- The words of a method are those of its statements.
use Rattle.std.proofs.Common.{◌≡◌, ℕ, zero, suc, List, [], ◌∷◌, ◌++◌, Option, Some, None, slice_get, refl, sym, ap, ◌∙◌, ⊎_elim, subst}
use Rattle.std.specs.List.{AllByRecursion}
use Rattle.std.proofs.lemmas.Option.{same_Some}
use Rattle.px_constraints.specs.System.{At}
use Rattle.px_normal.specs.declared.word.Operand.{Operand}
use Rattle.px_normal.specs.declared.word.Word.{Word}
use Rattle.px_normal.specs.declared.method.Tree.{Tree, Tree-F, fold-roll-Tree, roll-Tree, map-Tree}
use Rattle.px_normal.specs.declared.method.Tree.TheVariants.{Do, If, Loop, rolls-Do, rolls-If, rolls-Loop}
use Rattle.px_normal.specs.declared.method.Tree.TheOpen.{Tree-F as t}
use Rattle.px_normal.specs.declared.method.Method.{Method}
use Rattle.px_normal.specs.declared.code.Code.{Code}
use Rattle.px_normal.specs.First.{numbered}
use Rattle.px_flow_points.specs.Statements.{Stands, here, in_yes, in_no, in_first, in_body, HasStatement}
use Rattle.px_flow_points.proofs.Trees.{TreeCases, each_tree}
use Rattle.px_flow_points.proofs.Elements.{in_none, in_one, in_append, in_first as first_in, in_second as second_in}
use Rattle.px_sound_plans.specs.Words.{words_step, words_in, words_among, words_of, method_words}

-- ---- each kind of tree

at_tree : (x : Tree-F Tree) → words_in (roll-Tree x) ≡ words_step (map-Tree Tree (List Word) words_in x)
unfolding words_in
at_tree x = fold-roll-Tree (List Word) words_step x

of_do : (node : ℕ) (x : Word) → words_in (Do node x) ≡ x ∷ []
of_do node x = ap words_in (sym (rolls-Do node x)) ∙ at_tree (t.Do node x)

of_if : (node : ℕ) (a : Operand) (ys ns : List Tree) → words_in (If node a ys ns) ≡ words_among ys ++ words_among ns
of_if node a ys ns = ap words_in (sym (rolls-If node a ys ns)) ∙ at_tree (t.If node a ys ns)

of_loop : (before : List Tree) (node : ℕ) (a : Operand) (body : List Tree) → words_in (Loop before node a body) ≡ words_among before ++ words_among body
of_loop before node a body = ap words_in (sym (rolls-Loop before node a body)) ∙ at_tree (t.Loop before node a body)

module _ (word : Word) where
  -- a statement of a tree has the word
  record InTree (t : Tree) : Type 0 where
    node : ℕ
    stands : Stands node word t

  record InTrees (ts : List Tree) : Type 0 where
    place : ℕ
    tree : Tree
    is : slice_get ts place ≡ Some tree
    inside : InTree tree

  abbrev Goal : Tree → Type 0
  Goal t = At (words_in t) word → InTree t

  list_to : (ts : List Tree) → AllByRecursion Goal ts → At (words_among ts) word → InTrees ts
  list_to [] all h = absurd (in_none word h)
  list_to (t ∷ ts) all h = ⊎_elim
      (λ (u : At (words_in t) word). record { place = zero; tree = t; is = refl; inside = all.0 u })
      (λ (u : At (words_among ts) word). let r = list_to ts all.1 u in record { place = suc r.place; tree = r.tree; is = r.is; inside = r.inside })
      (in_append (words_in t) (words_among ts) word h)

  cases : TreeCases Goal
  cases = record {
    on_do = λ node x h. record { node = node; stands = here (ap (λ (z : Word). Do node z) (in_one x word (subst (λ (xs : List Word). At xs word) (of_do node x) h))) };
    on_if = λ node a ys ns first rest h. ⊎_elim
        (λ (u : At (words_among ys) word). let r = list_to ys first u in record { node = r.inside.node; stands = in_yes node r.place a ys ns r.tree refl r.is r.inside.stands })
        (λ (u : At (words_among ns) word). let r = list_to ns rest u in record { node = r.inside.node; stands = in_no node r.place a ys ns r.tree refl r.is r.inside.stands })
        (in_append (words_among ys) (words_among ns) word (subst (λ (xs : List Word). At xs word) (of_if node a ys ns) h));
    on_loop = λ before node a body first rest h. ⊎_elim
        (λ (u : At (words_among before) word). let r = list_to before first u in record { node = r.inside.node; stands = in_first node r.place a before body r.tree refl r.is r.inside.stands })
        (λ (u : At (words_among body) word). let r = list_to body rest u in record { node = r.inside.node; stands = in_body node r.place a before body r.tree refl r.is r.inside.stands })
        (in_append (words_among before) (words_among body) word (subst (λ (xs : List Word). At xs word) (of_loop before node a body) h));
  }

  all_goals : (ts : List Tree) → AllByRecursion Goal ts
  all_goals [] = tt
  all_goals (t ∷ ts) = (each_tree Goal cases t, all_goals ts)

  list_back : (ts : List Tree) (j : ℕ) (t : Tree) → slice_get ts j ≡ Some t → At (words_in t) word → At (words_among ts) word
  list_back [] j t is h = cc
  list_back (x ∷ ts) zero t is h = first_in (words_in x) (words_among ts) word (subst (λ (y : Tree). At (words_in y) word) (sym (same_Some x t is)) h)
  list_back (x ∷ ts) (suc j) t is h = second_in (words_in x) (words_among ts) word (list_back ts j t is h)

  as_tree : (t u : Tree) (xs : List Word) → t ≡ u → words_in u ≡ xs → At xs word → At (words_in t) word
  as_tree t u xs e f h = subst (λ (ys : List Word). At ys word) (sym (ap words_in e ∙ f)) h

  tree_back : (node : ℕ) (t : Tree) → Stands node word t → At (words_in t) word
  tree_back node t (here e) = as_tree t (Do node word) (word ∷ []) e (of_do node word) (zero, refl)
  tree_back node t (in_yes n j a ys ns y e is s) = as_tree t (If n a ys ns) (words_among ys ++ words_among ns) e (of_if n a ys ns) (first_in (words_among ys) (words_among ns) word (list_back ys j y is (tree_back node y s)))
  tree_back node t (in_no n j a ys ns y e is s) = as_tree t (If n a ys ns) (words_among ys ++ words_among ns) e (of_if n a ys ns) (second_in (words_among ys) (words_among ns) word (list_back ns j y is (tree_back node y s)))
  tree_back node t (in_first n j a before body y e is s) = as_tree t (Loop before n a body) (words_among before ++ words_among body) e (of_loop before n a body) (first_in (words_among before) (words_among body) word (list_back before j y is (tree_back node y s)))
  tree_back node t (in_body n j a before body y e is s) = as_tree t (Loop before n a body) (words_among before ++ words_among body) e (of_loop before n a body) (second_in (words_among before) (words_among body) word (list_back body j y is (tree_back node y s)))

  module _ (code : Code) (m : ℕ) where
    -- a statement of the method has the word
    pub record HasWord : Type 0 where
      pub node : ℕ
      pub has : HasStatement code m node word

    no_method : At (words_of None) word → ⊥
    no_method h = cc

    pub words_to : At (method_words code m) word → HasWord
    words_to h = by_lookup (numbered code.methods m) refl h
      where
        by_lookup : (o : Option Method) → numbered code.methods m ≡ o → At (words_of o) word → HasWord
        by_lookup None e h = absurd (no_method h)
        by_lookup (Some method) e h = let r = list_to method.body (all_goals method.body) h in record { node = r.inside.node; has = record { method = method; is = record { is = e }; place = r.place; tree = r.tree; at = r.is; stands = r.inside.stands } }

    pub words_back : (node : ℕ) → HasStatement code m node word → At (method_words code m) word
    words_back node has = subst (λ (o : Option Method). At (words_of o) word) (sym has.is.is) (list_back has.method.body has.place has.tree has.at (tree_back node has.tree has.stands))
