-- Lists of nodes that count up.
use Rattle.std.proofs.Common.{◌≡◌, ℕ, zero, suc, ◌+◌, List, [], ◌∷◌, ◌++◌, append_assoc, append-nil, refl, sym, ap, ◌∙◌, subst, arith}
use Rattle.px_normal.specs.declared.word.Operand.{Operand}
use Rattle.px_normal.specs.declared.word.Word.{Word}
use Rattle.px_normal.specs.declared.method.Tree.{Tree, Tree-F, fold-roll-Tree, roll-Tree, map-Tree}
use Rattle.px_normal.specs.declared.method.Tree.TheVariants.{Do, If, Loop, rolls-Do, rolls-If, rolls-Loop}
use Rattle.px_normal.specs.declared.method.Tree.TheOpen.{Tree-F as t}
use Rattle.px_typed_code.specs.Nodes.{nodes_step, nodes_in, all_nodes, count_up}

-- ---- trees

at_tree : (x : Tree-F Tree) → nodes_in (roll-Tree x) ≡ nodes_step (map-Tree Tree (List ℕ) nodes_in x)
unfolding nodes_in
at_tree x = fold-roll-Tree (List ℕ) nodes_step x

pub nodes_do : (node : ℕ) (word : Word) → nodes_in (Do node word) ≡ node ∷ []
nodes_do node word = ap nodes_in (sym (rolls-Do node word)) ∙ at_tree (t.Do node word)

pub nodes_if : (node : ℕ) (a : Operand) (ys ns : List Tree) → nodes_in (If node a ys ns) ≡ node ∷ (all_nodes ys ++ all_nodes ns)
nodes_if node a ys ns = ap nodes_in (sym (rolls-If node a ys ns)) ∙ at_tree (t.If node a ys ns)

pub nodes_loop : (first : List Tree) (node : ℕ) (a : Operand) (body : List Tree) → nodes_in (Loop first node a body) ≡ all_nodes first ++ node ∷ all_nodes body
nodes_loop first node a body = ap nodes_in (sym (rolls-Loop first node a body)) ∙ at_tree (t.Loop first node a body)

pub all_next : (ts : List Tree) (x : Tree) → all_nodes (ts ++ x ∷ []) ≡ all_nodes ts ++ nodes_in x
all_next [] x = append-nil (nodes_in x)
all_next (y ∷ ts) x = ap (λ (ks : List ℕ). nodes_in y ++ ks) (all_next ts x) ∙ sym (append_assoc (nodes_in y) (all_nodes ts) (nodes_in x))

-- ---- counting

-- these count up from the first to the last
pub record IsCounted (first : ℕ) (ns : List ℕ) (last : ℕ) : Type 0 where
  pub many : ℕ
  pub are : ns ≡ count_up first many
  pub ends : first + many ≡ last + 1

count_append : (first a b : ℕ) → count_up first a ++ count_up (first + a) b ≡ count_up first (a + b)
count_append first zero b = let e : first + 0 ≡ first = omega arith in let n : b ≡ 0 + b = omega arith in ap (λ k. count_up k b) e ∙ ap (count_up first) n
count_append first (suc a) b =
    let e : first + suc a ≡ first + 1 + a = omega arith in
    let n : suc (a + b) ≡ suc a + b = omega arith in
    ap (λ k. first ∷ (count_up (first + 1) a ++ count_up k b)) e ∙ ap (λ (ks : List ℕ). first ∷ ks) (count_append (first + 1) a b) ∙ ap (count_up first) n

pub counted_then : (first middle last : ℕ) (ns ms : List ℕ) → IsCounted first ns middle → IsCounted (middle + 1) ms last → IsCounted first (ns ++ ms) last
counted_then first middle last ns ms h k = record {
  many = h.many + k.many;
  are = (λ i. h.are i ++ k.are i) ∙ ap (λ j. count_up first h.many ++ count_up j k.many) (sym h.ends) ∙ count_append first h.many k.many;
  ends = omega (arith, h.ends, k.ends);
}

pub counted_none : (n : ℕ) → IsCounted (n + 1) [] n
counted_none n = record { many = 0; are = refl; ends = omega arith }

pub counted_first : (n middle last : ℕ) (ns : List ℕ) → middle ≡ n + 1 → IsCounted (middle + 1) ns last → IsCounted (n + 1) ((n + 1) ∷ ns) last
counted_first n middle last ns e h = record {
  many = suc h.many;
  are = ap (λ (ks : List ℕ). (n + 1) ∷ ks) (h.are ∙ ap (λ k. count_up (k + 1) h.many) e);
  ends = omega (arith, h.ends, e);
}

pub counted_by : (first last : ℕ) (ns ms : List ℕ) → ns ≡ ms → IsCounted first ms last → IsCounted first ns last
counted_by first last ns ms e h = subst (λ (ks : List ℕ). IsCounted first ks last) (sym e) h
