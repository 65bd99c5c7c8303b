-- Nodes in order are those of one statement each.
use Rattle.std.proofs.Common.{◌≡◌, ℕ, zero, suc, ◌+◌, List, [], ◌∷◌, ◌++◌, map, length, Option, Some, None, true, is_some, slice_get, refl, sym, ap, ◌∙◌, subst, arith}
use Rattle.std.specs.List.{AllByRecursion}
use Rattle.std.proofs.lemmas.Option.{same_Some}
use Rattle.px_constraints.specs.System.{At}
use Rattle.px_normal.specs.declared.word.Operand.{Operand}
use Rattle.px_normal.specs.declared.word.Word.{Word}
use Rattle.px_normal.specs.declared.method.Tree.{Tree, Tree-F, fold-Tree, fold-roll-Tree, roll-Tree, map-Tree}
use Rattle.px_normal.specs.declared.method.Tree.TheVariants.{Do, If, Loop, rolls-Do, rolls-If, rolls-Loop}
use Rattle.px_normal.specs.declared.method.Tree.TheOpen.{Tree-F as t}
use Rattle.px_normal.specs.declared.method.Method.{Method}
use Rattle.px_normal.specs.declared.code.Code.{Code}
use Rattle.px_normal.specs.First.{numbered}
use Rattle.px_flow_points.specs.Statements.{Stands, here, in_yes, in_no, in_first, in_body, HasStatement}
use Rattle.px_flow_points.proofs.Trees.{TreeCases, each_tree}
use Rattle.px_flow_points.proofs.Elements.{in_first as first_in, in_second as second_in, in_tail}
use Rattle.px_typed_code.specs.Nodes.{nodes_step, nodes_in, all_nodes, nodes_of, method_nodes, count_up}
use Rattle.px_sync.specs.Sends.{IsOwn}
use Rattle.px_two_ends.specs.Own.{NodesAreOwn}

-- a node with the word of its statement, if it is that of one
record Line : Type 0 where
  node : ℕ
  word : Option Word

abbrev node_at : Line → ℕ
node_at l = l.node

abbrev line : ℕ → Option Word → Line
line node word = record { node = node; word = word }

abbrev flat : List (List Line) → List Line
flat [] = []
flat (xs ∷ rest) = xs ++ flat rest

-- the lines of a tree, in the order of its nodes
abbrev lines_step : Tree-F (List Line) → List Line
lines_step (t.Do node word) = line node (Some word) ∷ []
lines_step (t.If node a yes' no') = line node None ∷ (flat yes' ++ flat no')
lines_step (t.Loop first node a body) = flat first ++ line node None ∷ flat body

lines_in : Tree → List Line
lines_in = fold-Tree (List Line) lines_step

abbrev all_lines : List Tree → List Line
all_lines trees = flat (map lines_in trees)

abbrev lines_of : Method → List Line
lines_of m = line m.node None ∷ all_lines m.body

abbrev method_lines : List Method → List Line
method_lines [] = []
method_lines (m ∷ ms) = lines_of m ++ method_lines ms

-- ---- each kind of tree

lines_at : (x : Tree-F Tree) → lines_in (roll-Tree x) ≡ lines_step (map-Tree Tree (List Line) lines_in x)
unfolding lines_in
lines_at x = fold-roll-Tree (List Line) lines_step x

lines_do : (node : ℕ) (word : Word) → lines_in (Do node word) ≡ line node (Some word) ∷ []
lines_do node word = ap lines_in (sym (rolls-Do node word)) ∙ lines_at (t.Do node word)

lines_if : (node : ℕ) (a : Operand) (ys ns : List Tree) → lines_in (If node a ys ns) ≡ line node None ∷ (all_lines ys ++ all_lines ns)
lines_if node a ys ns = ap lines_in (sym (rolls-If node a ys ns)) ∙ lines_at (t.If node a ys ns)

lines_loop : (first : List Tree) (node : ℕ) (a : Operand) (body : List Tree) → lines_in (Loop first node a body) ≡ all_lines first ++ line node None ∷ all_lines body
lines_loop first node a body = ap lines_in (sym (rolls-Loop first node a body)) ∙ lines_at (t.Loop first node a body)

nodes_at : (x : Tree-F Tree) → nodes_in (roll-Tree x) ≡ nodes_step (map-Tree Tree (List ℕ) nodes_in x)
unfolding nodes_in
nodes_at x = fold-roll-Tree (List ℕ) nodes_step x

nodes_do : (node : ℕ) (word : Word) → nodes_in (Do node word) ≡ node ∷ []
nodes_do node word = ap nodes_in (sym (rolls-Do node word)) ∙ nodes_at (t.Do node word)

nodes_if : (node : ℕ) (a : Operand) (ys ns : List Tree) → nodes_in (If node a ys ns) ≡ node ∷ (all_nodes ys ++ all_nodes ns)
nodes_if node a ys ns = ap nodes_in (sym (rolls-If node a ys ns)) ∙ nodes_at (t.If node a ys ns)

nodes_loop : (first : List Tree) (node : ℕ) (a : Operand) (body : List Tree) → nodes_in (Loop first node a body) ≡ all_nodes first ++ node ∷ all_nodes body
nodes_loop first node a body = ap nodes_in (sym (rolls-Loop first node a body)) ∙ nodes_at (t.Loop first node a body)

-- ---- the nodes of the lines are the nodes

abbrev nodes_among : List Line → List ℕ
nodes_among lines = map node_at lines

map_both : (xs ys : List Line) → nodes_among (xs ++ ys) ≡ nodes_among xs ++ nodes_among ys
map_both [] ys = refl
map_both (x ∷ xs) ys = ap (λ (ns : List ℕ). x.node ∷ ns) (map_both xs ys)

abbrev Same : Tree → Type 0
Same x = nodes_among (lines_in x) ≡ nodes_in x

all_same : (ts : List Tree) → AllByRecursion Same ts → nodes_among (all_lines ts) ≡ all_nodes ts
all_same [] all = refl
all_same (x ∷ ts) all = map_both (lines_in x) (all_lines ts) ∙ ap (λ (ns : List ℕ). ns ++ nodes_among (all_lines ts)) all.0 ∙ ap (λ (ns : List ℕ). nodes_in x ++ ns) (all_same ts all.1)

same_cases : TreeCases Same
same_cases = record {
  on_do = λ node word. ap nodes_among (lines_do node word) ∙ sym (nodes_do node word);
  on_if = λ node a ys ns first rest.
      ap nodes_among (lines_if node a ys ns)
      ∙ ap (λ (ks : List ℕ). node ∷ ks) (map_both (all_lines ys) (all_lines ns) ∙ ap (λ (ks : List ℕ). ks ++ nodes_among (all_lines ns)) (all_same ys first) ∙ ap (λ (ks : List ℕ). all_nodes ys ++ ks) (all_same ns rest))
      ∙ sym (nodes_if node a ys ns);
  on_loop = λ before node a body first rest.
      ap nodes_among (lines_loop before node a body)
      ∙ map_both (all_lines before) (line node None ∷ all_lines body)
      ∙ ap (λ (ks : List ℕ). ks ++ node ∷ nodes_among (all_lines body)) (all_same before first)
      ∙ ap (λ (ks : List ℕ). all_nodes before ++ node ∷ ks) (all_same body rest)
      ∙ sym (nodes_loop before node a body);
}

each_same : (ts : List Tree) → AllByRecursion Same ts
each_same [] = tt
each_same (x ∷ ts) = (each_tree Same same_cases x, each_same ts)

methods_same : (ms : List Method) → nodes_among (method_lines ms) ≡ method_nodes ms
methods_same [] = refl
methods_same (m ∷ ms) =
    map_both (lines_of m) (method_lines ms)
    ∙ ap (λ (ks : List ℕ). (m.node ∷ ks) ++ nodes_among (method_lines ms)) (all_same m.body (each_same m.body))
    ∙ ap (λ (ks : List ℕ). nodes_of m ++ ks) (methods_same ms)

-- ---- a statement has its line

module _ (node : ℕ) (word : Word) where
  abbrev own : Line
  own = line node (Some word)

  list_back : (ts : List Tree) (j : ℕ) (x : Tree) → slice_get ts j ≡ Some x → At (lines_in x) own → At (all_lines ts) own
  list_back [] j x is h = cc
  list_back (y ∷ ts) zero x is h = first_in (lines_in y) (all_lines ts) own (subst (λ (z : Tree). At (lines_in z) own) (sym (same_Some y x is)) h)
  list_back (y ∷ ts) (suc j) x is h = second_in (lines_in y) (all_lines ts) own (list_back ts j x is h)

  as_tree : (x y : Tree) (ls : List Line) → x ≡ y → lines_in y ≡ ls → At ls own → At (lines_in x) own
  as_tree x y ls e f h = subst (λ (zs : List Line). At zs own) (sym (ap lines_in e ∙ f)) h

  tree_back : (x : Tree) → Stands node word x → At (lines_in x) own
  tree_back x (here e) = as_tree x (Do node word) (own ∷ []) e (lines_do node word) (zero, refl)
  tree_back x (in_yes n j a ys ns y e is s) = as_tree x (If n a ys ns) (line n None ∷ (all_lines ys ++ all_lines ns)) e (lines_if n a ys ns) (in_tail (line n None) (all_lines ys ++ all_lines ns) own (first_in (all_lines ys) (all_lines ns) own (list_back ys j y is (tree_back y s))))
  tree_back x (in_no n j a ys ns y e is s) = as_tree x (If n a ys ns) (line n None ∷ (all_lines ys ++ all_lines ns)) e (lines_if n a ys ns) (in_tail (line n None) (all_lines ys ++ all_lines ns) own (second_in (all_lines ys) (all_lines ns) own (list_back ns j y is (tree_back y s))))
  tree_back x (in_first n j a before body y e is s) = as_tree x (Loop before n a body) (all_lines before ++ line n None ∷ all_lines body) e (lines_loop before n a body) (first_in (all_lines before) (line n None ∷ all_lines body) own (list_back before j y is (tree_back y s)))
  tree_back x (in_body n j a before body y e is s) = as_tree x (Loop before n a body) (all_lines before ++ line n None ∷ all_lines body) e (lines_loop before n a body) (second_in (all_lines before) (line n None ∷ all_lines body) own (in_tail (line n None) (all_lines body) own (list_back body j y is (tree_back y s))))

  methods_back : (ms : List Method) (j : ℕ) (method : Method) → slice_get ms j ≡ Some method → At (all_lines method.body) own → At (method_lines ms) own
  methods_back [] j method is h = cc
  methods_back (m ∷ ms) zero method is h = first_in (lines_of m) (method_lines ms) own (in_tail (line m.node None) (all_lines m.body) own (subst (λ (z : Method). At (all_lines z.body) own) (sym (same_Some m method is)) h))
  methods_back (m ∷ ms) (suc j) method is h = second_in (lines_of m) (method_lines ms) own (methods_back ms j method is h)

  method_back : (code : Code) (m : ℕ) (method : Method) → numbered code.methods m ≡ Some method → At (all_lines method.body) own → At (method_lines code.methods) own
  method_back code zero method is h = cc
  method_back code (suc j) method is h = methods_back code.methods j method is h

  has_line : (code : Code) (m : ℕ) → HasStatement code m node word → At (method_lines code.methods) own
  has_line code m has = method_back code m has.method has.is.is (list_back has.method.body has.place has.tree has.at (tree_back has.tree has.stands))

-- ---- each node stands once

get_map : (ls : List Line) (i : ℕ) (l : Line) → slice_get ls i ≡ Some l → slice_get (nodes_among ls) i ≡ Some l.node
get_map [] i l h = cc
get_map (x ∷ ls) zero l h = ap (λ (z : Option Line). node_if z) h
  where
    node_if : Option Line → Option ℕ
    node_if None = None
    node_if (Some z) = Some z.node
get_map (x ∷ ls) (suc i) l h = get_map ls i l h

get_front : (xs ys : List ℕ) (i x : ℕ) → slice_get xs i ≡ Some x → slice_get (xs ++ ys) i ≡ Some x
get_front [] ys i x h = cc
get_front (z ∷ xs) ys zero x h = h
get_front (z ∷ xs) ys (suc i) x h = get_front xs ys i x h

counted_at : (first n i x : ℕ) → slice_get (count_up first n) i ≡ Some x → x ≡ first + i
counted_at first zero i x h = cc
counted_at first (suc n) zero x h = let e : first ≡ x = same_Some first x h in omega (arith, e)
counted_at first (suc n) (suc i) x h = let e = counted_at (first + 1) n i x h in omega (arith, e)

counted_there : {A : Type 0} (first : ℕ) (xs : List A) (i x : ℕ) → slice_get (count_up first (length xs)) i ≡ Some x → is_some (slice_get xs i) ≡ true
counted_there first [] i x h = cc
counted_there first (y ∷ xs) zero x h = refl
counted_there first (y ∷ xs) (suc i) x h = counted_there (first + 1) xs i x h

module _ (code : Code) (rest : List ℕ) (order : method_nodes code.methods ++ rest ≡ count_up 1 (length code.nodes)) where
  abbrev lines : List Line
  lines = method_lines code.methods

  counted : (i : ℕ) (l : Line) → slice_get lines i ≡ Some l → slice_get (count_up 1 (length code.nodes)) i ≡ Some l.node
  counted i l h = ap (λ (ks : List ℕ). slice_get ks i) (sym order) ∙ get_front (method_nodes code.methods) rest i l.node (ap (λ (ks : List ℕ). slice_get ks i) (sym (methods_same code.methods)) ∙ get_map lines i l h)

  place_of : (i : ℕ) (l : Line) → slice_get lines i ≡ Some l → l.node ≡ suc i
  place_of i l h = let e = counted_at 1 (length code.nodes) i l.node (counted i l h) in omega (arith, e)

  some_word : (v u : Word) → ◌≡◌ {A = Option Word} (Some v) (Some u) → v ≡ u
  some_word v u e = same_Some v u e

  one_word : (node : ℕ) (v u : Word) → At lines (line node (Some v)) → At lines (line node (Some u)) → v ≡ u
  one_word node v u a b =
      let e = place_of a.0 (line node (Some v)) a.1 in
      let f = place_of b.0 (line node (Some u)) b.1 in
      let same : a.0 ≡ b.0 = omega (arith, e, f) in
      let l : line node (Some v) ≡ line node (Some u) = same_Some (line node (Some v)) (line node (Some u)) (sym a.1 ∙ ap (λ i. slice_get lines i) same ∙ b.1) in
      some_word v u (ap (λ (z : Line). z.word) l)

  there : (node : ℕ) (word : Word) → At lines (line node (Some word)) → is_some (numbered code.nodes node) ≡ true
  there node word a =
      let e : node ≡ suc a.0 = place_of a.0 (line node (Some word)) a.1 in
      subst (λ k. is_some (numbered code.nodes k) ≡ true) (sym e) (counted_there 1 code.nodes a.0 node (counted a.0 (line node (Some word)) a.1))

  pub own_node : (m node : ℕ) (word : Word) → HasStatement code m node word → IsOwn code node
  own_node m node word has = record {
    there = there node word (has_line node word code m has);
    one = λ i j v u p q. one_word node v u (has_line node v code i p) (has_line node u code j q);
  }

pub nodes_are_own : NodesAreOwn
nodes_are_own code rest order m node word has = own_node code rest order m node word has
