-- The flows and edges of each kind of tree.
use Rattle.std.proofs.Common.{◌≡◌, ℕ, List, sym, ap, ◌∙◌, ◌⊎◌, inl, inr, ⊎_elim, subst}
use Rattle.px_constraints.specs.System.{At}
use Rattle.px_normal.specs.declared.ty.Ty.{Ty}
use Rattle.px_normal.specs.declared.word.Operand.{Operand}
use Rattle.px_normal.specs.declared.word.Word.{Word}
use Rattle.px_normal.specs.declared.method.Tree.{Tree, Tree-F, fold-roll-Tree, roll-Tree, map-Tree}
use Rattle.px_normal.specs.declared.method.Tree.TheVariants.{Do, If, Loop, rolls-Do, rolls-If, rolls-Loop}
use Rattle.px_normal.specs.declared.method.Tree.TheOpen.{Tree-F as t}
use Rattle.px_normal.specs.Words.{to_of}
use Rattle.px_depend.specs.declared.edge.Edge.{Edge}
use Rattle.px_depend.specs.declared.summary.Summary.{Summary}
use Rattle.px_depend.specs.Flow.{Flow, Then, Either, Round}
use Rattle.px_depend.specs.Paths.{Passes, Arrives, Leaves, Meets}
use Rattle.px_depend.specs.Paths as p
use Rattle.px_depend.specs.Places.{Flows, IsSummary}
use Rattle.px_depend.specs.Shapes.{is_slot, shape_step, shape}
use Rattle.px_depend.specs.Uses.{has, uses}
use Rattle.px_depend.specs.Summaries.{slot_edge, Adds, IsMet, met, IsOver, over, IsRound, in_turn, one_of, rounds, flows_of, shapes, IsOfWord}
use Rattle.px_depend.proofs.Turns.{meets_then, meets_either, meets_round, round_meets}
use Rattle.px_depend.proofs.Steps.{word_flow, test_flow, ends, no_word, word_sum, same_sum}

-- ---- what adds to lists of edges

pub adds_two : (old mid new : List Edge) (P Q : Edge → Type 0) → Adds old mid P → Adds mid new Q → Adds old new (λ e. P e ⊎ Q e)
adds_two old mid new P Q A B = λ e. record {
  to = λ h. ⊎_elim (λ (t : At mid e). ⊎_elim inl (λ (s : P e). inr (inl s)) ((A e).to t)) (λ (t : Q e). inr (inr t)) ((B e).to h);
  back = λ h. ⊎_elim (λ (t : At old e). (B e).back (inl ((A e).back (inl t)))) (λ (t : P e ⊎ Q e). ⊎_elim (λ (s : P e). (B e).back (inl ((A e).back (inr s)))) (λ (s : Q e). (B e).back (inr s)) t) h;
}

pub adds_same : (old new : List Edge) (P Q : Edge → Type 0) → ((e : Edge) → P e → Q e) → ((e : Edge) → Q e → P e) → Adds old new P → Adds old new Q
adds_same old new P Q to back A = λ e. record {
  to = λ h. ⊎_elim inl (λ (t : P e). inr (to e t)) ((A e).to h);
  back = λ h. (A e).back (⊎_elim inl (λ (t : Q e). inr (back e t)) h);
}

pub adds_none : (old : List Edge) (P : Edge → Type 0) → ((e : Edge) → P e → ⊥) → Adds old old P
adds_none old P never = λ e. record { to = λ h. inl h; back = λ h. ⊎_elim (λ (t : At old e). t) (λ (t : P e). absurd (never e t)) h }

-- ---- the flow of each kind of tree

module _ (k : ℕ) where
  at_tree : (x : Tree-F Tree) → shape k (roll-Tree x) ≡ shape_step k (map-Tree Tree Flow (shape k) x)
  unfolding shape
  at_tree x = fold-roll-Tree Flow (shape_step k) x

  pub of_do : (node : ℕ) (x : Word) → shape k (Do node x) ≡ word_flow node x k
  of_do node x = ap (shape k) (sym (rolls-Do node x)) ∙ at_tree (t.Do node x)

  pub of_if : (node : ℕ) (a : Operand) (ys ns : List Tree) → shape k (If node a ys ns) ≡ in_turn (test_flow node a) (one_of (shapes ys) (shapes ns)) k
  of_if node a ys ns = ap (shape k) (sym (rolls-If node a ys ns)) ∙ at_tree (t.If node a ys ns)

  pub of_loop : (before : List Tree) (node : ℕ) (a : Operand) (body : List Tree) → shape k (Loop before node a body) ≡ rounds (in_turn (shapes before) (test_flow node a)) (shapes body) k
  of_loop before node a body = ap (shape k) (sym (rolls-Loop before node a body)) ∙ at_tree (t.Loop before node a body)

-- ---- edges

module _ (types : List Ty) where
  same_met : (f g : Flows) → ((k : ℕ) → f k ≡ g k) → (e : Edge) → IsMet types f e → IsMet types g e
  same_met f g same e (met {k = k} {d = d} {u = u} h m) = met {k = k} h (subst (λ (z : Flow). Meets d u z) (same k) m)

  pub adds_alike : (f g : Flows) (old new : List Edge) → ((k : ℕ) → f k ≡ g k) → Adds old new (IsMet types f) → Adds old new (IsMet types g)
  adds_alike f g old new same A = adds_same old new (IsMet types f) (IsMet types g) (same_met f g same) (same_met g f (λ k. sym (same k))) A

  word_met : (node : ℕ) (word : Word) (e : Edge) → IsMet types (word_flow node word) e → ⊥
  word_met node word e (met {k = k} {d = d} {u = u} h m) = no_word d u word node (has k (uses word)) (is_slot k (to_of word)) (ends word) m

  test_met : (node : ℕ) (a : Operand) (e : Edge) → IsMet types (test_flow node a) e → ⊥
  test_met node a e (met h m) = elim m [ ]

  -- a branch of two
  abbrev IfParts : Flows → Flows → Flows → Edge → Type 0
  IfParts f g h e = (IsMet types g e ⊎ IsMet types h e) ⊎ IsOver types f (one_of g h) e

  if_to : (f g h : Flows) → ((e : Edge) → IsMet types f e → ⊥) → (e : Edge) → IsMet types (in_turn f (one_of g h)) e → IfParts f g h e
  if_to f g h never e (met {k = k} {d = d} {u = u} {t = ty} q m) = ⊎_elim
      (λ (s : Meets d u (f k)). absurd (never (slot_edge k d u ty) (met {k = k} q s)))
      (λ (s : Meets d u (Either (g k) (h k)) ⊎ (Leaves d (f k) × Arrives u (Either (g k) (h k)))). ⊎_elim
      (λ (v : Meets d u (Either (g k) (h k))). inl (⊎_elim (λ (x : Meets d u (g k)). inl (met {k = k} q x)) (λ (x : Meets d u (h k)). inr (met {k = k} q x)) (meets_either d u (g k) (h k) v)))
      (λ (v : Leaves d (f k) × Arrives u (Either (g k) (h k))). inr (over {k = k} q v.0 v.1))
      s)
      (meets_then d u (f k) (Either (g k) (h k)) m)

  if_left : (f g h : Flows) (e : Edge) → IsMet types g e → IsMet types (in_turn f (one_of g h)) e
  if_left f g h e (met {k = k} q m) = met {k = k} q (p.Meets.in_second (p.Meets.in_left m))

  if_right : (f g h : Flows) (e : Edge) → IsMet types h e → IsMet types (in_turn f (one_of g h)) e
  if_right f g h e (met {k = k} q m) = met {k = k} q (p.Meets.in_second (p.Meets.in_right m))

  if_over : (f g h : Flows) (e : Edge) → IsOver types f (one_of g h) e → IsMet types (in_turn f (one_of g h)) e
  if_over f g h e (over {k = k} q l r) = met {k = k} q (p.Meets.over l r)

  if_back : (f g h : Flows) (e : Edge) → IfParts f g h e → IsMet types (in_turn f (one_of g h)) e
  if_back f g h e s = ⊎_elim (λ (v : IsMet types g e ⊎ IsMet types h e). ⊎_elim (λ (x : IsMet types g e). if_left f g h e x) (λ (x : IsMet types h e). if_right f g h e x) v) (λ (v : IsOver types f (one_of g h) e). if_over f g h e v) s

  -- a loop
  abbrev LoopParts : Flows → Flows → Flows → Edge → Type 0
  LoopParts f g h e = (IsMet types f e ⊎ IsMet types h e) ⊎ (IsOver types f g e ⊎ IsRound types (in_turn f g) h e)

  loop_to : (f g h : Flows) → ((e : Edge) → IsMet types g e → ⊥) → (e : Edge) → IsMet types (rounds (in_turn f g) h) e → LoopParts f g h e
  loop_to f g h never e (met {k = k} {d = d} {u = u} {t = ty} q m) = ⊎_elim
      (λ (s : Meets d u (Then (f k) (g k))). ⊎_elim
      (λ (v : Meets d u (f k)). inl (inl (met {k = k} q v)))
      (λ (v : Meets d u (g k) ⊎ (Leaves d (f k) × Arrives u (g k))). ⊎_elim (λ (x : Meets d u (g k)). absurd (never (slot_edge k d u ty) (met {k = k} q x))) (λ (x : Leaves d (f k) × Arrives u (g k)). inr (inl (over {k = k} q x.0 x.1))) v)
      (meets_then d u (f k) (g k) s))
      (λ (s : Meets d u (h k) ⊎ ((Leaves d (Then (f k) (g k)) × Arrives u (h k)) ⊎ (Leaves d (Then (Then (f k) (g k)) (h k)) × Arrives u (Round (Then (f k) (g k)) (h k))))). ⊎_elim
      (λ (v : Meets d u (h k)). inl (inr (met {k = k} q v)))
      (λ (v : (Leaves d (Then (f k) (g k)) × Arrives u (h k)) ⊎ (Leaves d (Then (Then (f k) (g k)) (h k)) × Arrives u (Round (Then (f k) (g k)) (h k)))). ⊎_elim
      (λ (x : Leaves d (Then (f k) (g k)) × Arrives u (h k)). inr (inr (inl (over {k = k} q x.0 x.1))))
      (λ (x : Leaves d (Then (Then (f k) (g k)) (h k)) × Arrives u (Round (Then (f k) (g k)) (h k))). inr (inr (inr (over {k = k} q x.0 x.1))))
      v)
      s)
      (meets_round d u (Then (f k) (g k)) (h k) m)

  loop_first : (f g h : Flows) (e : Edge) → IsMet types f e → IsMet types (rounds (in_turn f g) h) e
  loop_first f g h e (met {k = k} q m) = met {k = k} q (p.Meets.in_begin (p.Meets.in_first m))

  loop_body : (f g h : Flows) (e : Edge) → IsMet types h e → IsMet types (rounds (in_turn f g) h) e
  loop_body f g h e (met {k = k} q m) = met {k = k} q (p.Meets.in_body m)

  loop_test : (f g h : Flows) (e : Edge) → IsOver types f g e → IsMet types (rounds (in_turn f g) h) e
  loop_test f g h e (over {k = k} q l r) = met {k = k} q (p.Meets.in_begin (p.Meets.over l r))

  loop_into : (f g h : Flows) (e : Edge) → IsOver types (in_turn f g) h e → IsMet types (rounds (in_turn f g) h) e
  loop_into f g h e (over {k = k} q l r) = met {k = k} q (p.Meets.into_body l r)

  loop_again : (f g h : Flows) (e : Edge) → IsOver types (in_turn (in_turn f g) h) (rounds (in_turn f g) h) e → IsMet types (rounds (in_turn f g) h) e
  loop_again f g h e (over {k = k} {d = d} {u = u} q l r) = met {k = k} q (round_meets d u (Then (f k) (g k)) (h k) (l, r))

  loop_back : (f g h : Flows) (e : Edge) → LoopParts f g h e → IsMet types (rounds (in_turn f g) h) e
  loop_back f g h e s = ⊎_elim
      (λ (v : IsMet types f e ⊎ IsMet types h e). ⊎_elim (λ (x : IsMet types f e). loop_first f g h e x) (λ (x : IsMet types h e). loop_body f g h e x) v)
      (λ (v : IsOver types f g e ⊎ IsRound types (in_turn f g) h e). ⊎_elim
      (λ (x : IsOver types f g e). loop_test f g h e x)
      (λ (x : IsRound types (in_turn f g) h e). ⊎_elim (λ (y : IsOver types (in_turn f g) h e). loop_into f g h e y) (λ (y : IsOver types (in_turn (in_turn f g) h) (rounds (in_turn f g) h) e). loop_again f g h e y) x)
      v)
      s

  -- ---- for the code

  pub do_met : (x : Tree) (node : ℕ) (word : Word) (old : List Edge) → x ≡ Do node word → Adds old old (IsMet types (flows_of x))
  do_met x node word old e = adds_none old (IsMet types (flows_of x)) (λ z m. word_met node word z (same_met (flows_of x) (word_flow node word) (λ k. ap (shape k) e ∙ of_do k node word) z m))

  pub if_met : (x : Tree) (node : ℕ) (a : Operand) (ys ns ys' ns' : List Tree) (old one two new : List Edge) → x ≡ If node a ys ns → ys' ≡ ys → ns' ≡ ns → Adds old one (IsMet types (shapes ys')) → Adds one two (IsMet types (shapes ns')) → Adds two new (IsOver types (test_flow node a) (one_of (shapes ys') (shapes ns'))) → Adds old new (IsMet types (flows_of x))
  if_met x node a ys ns ys' ns' old one two new e y n A B C = adds_alike (in_turn (test_flow node a) (one_of (shapes ys') (shapes ns'))) (flows_of x) old new
      (λ k. ap (λ (z : List Tree). in_turn (test_flow node a) (one_of (shapes z) (shapes ns')) k) y ∙ ap (λ (z : List Tree). in_turn (test_flow node a) (one_of (shapes ys) (shapes z)) k) n ∙ sym (ap (shape k) e ∙ of_if k node a ys ns))
      (adds_same old new (IfParts (test_flow node a) (shapes ys') (shapes ns')) (IsMet types (in_turn (test_flow node a) (one_of (shapes ys') (shapes ns')))) (if_back (test_flow node a) (shapes ys') (shapes ns')) (if_to (test_flow node a) (shapes ys') (shapes ns') (test_met node a))
      (adds_two old two new (λ z. IsMet types (shapes ys') z ⊎ IsMet types (shapes ns') z) (IsOver types (test_flow node a) (one_of (shapes ys') (shapes ns'))) (adds_two old one two (IsMet types (shapes ys')) (IsMet types (shapes ns')) A B) C))

  pub loop_met : (x : Tree) (before : List Tree) (node : ℕ) (a : Operand) (body before' body' : List Tree) (old one two new : List Edge) → x ≡ Loop before node a body → before' ≡ before → body' ≡ body → Adds old one (IsMet types (shapes before')) → Adds one two (IsMet types (shapes body')) → Adds two new (λ z. IsOver types (shapes before') (test_flow node a) z ⊎ IsRound types (in_turn (shapes before') (test_flow node a)) (shapes body') z) → Adds old new (IsMet types (flows_of x))
  loop_met x before node a body before' body' old one two new e y n A B C = adds_alike (rounds (in_turn (shapes before') (test_flow node a)) (shapes body')) (flows_of x) old new
      (λ k. ap (λ (z : List Tree). rounds (in_turn (shapes z) (test_flow node a)) (shapes body') k) y ∙ ap (λ (z : List Tree). rounds (in_turn (shapes before) (test_flow node a)) (shapes z) k) n ∙ sym (ap (shape k) e ∙ of_loop k before node a body))
      (adds_same old new (LoopParts (shapes before') (test_flow node a) (shapes body')) (IsMet types (rounds (in_turn (shapes before') (test_flow node a)) (shapes body'))) (loop_back (shapes before') (test_flow node a) (shapes body')) (loop_to (shapes before') (test_flow node a) (shapes body') (test_met node a))
      (adds_two old two new (λ z. IsMet types (shapes before') z ⊎ IsMet types (shapes body') z) (λ z. IsOver types (shapes before') (test_flow node a) z ⊎ IsRound types (in_turn (shapes before') (test_flow node a)) (shapes body') z) (adds_two old one two (IsMet types (shapes before')) (IsMet types (shapes body')) A B) C))

pub do_sum : (s : Summary) (x : Tree) (node : ℕ) (word : Word) → x ≡ Do node word → IsOfWord node word s → IsSummary s (flows_of x)
do_sum s x node word e W = same_sum s (word_flow node word) (flows_of x) (λ k. sym (ap (shape k) e ∙ of_do k node word)) (word_sum s node word W)

pub if_sum : (s : Summary) (x : Tree) (node : ℕ) (a : Operand) (ys ns ys' ns' : List Tree) → x ≡ If node a ys ns → ys' ≡ ys → ns' ≡ ns → IsSummary s (in_turn (test_flow node a) (one_of (shapes ys') (shapes ns'))) → IsSummary s (flows_of x)
if_sum s x node a ys ns ys' ns' e y n S = same_sum s (in_turn (test_flow node a) (one_of (shapes ys') (shapes ns'))) (flows_of x)
    (λ k. ap (λ (z : List Tree). in_turn (test_flow node a) (one_of (shapes z) (shapes ns')) k) y ∙ ap (λ (z : List Tree). in_turn (test_flow node a) (one_of (shapes ys) (shapes z)) k) n ∙ sym (ap (shape k) e ∙ of_if k node a ys ns))
    S

pub loop_sum : (s : Summary) (x : Tree) (before : List Tree) (node : ℕ) (a : Operand) (body before' body' : List Tree) → x ≡ Loop before node a body → before' ≡ before → body' ≡ body → IsSummary s (rounds (in_turn (shapes before') (test_flow node a)) (shapes body')) → IsSummary s (flows_of x)
loop_sum s x before node a body before' body' e y n S = same_sum s (rounds (in_turn (shapes before') (test_flow node a)) (shapes body')) (flows_of x)
    (λ k. ap (λ (z : List Tree). rounds (in_turn (shapes z) (test_flow node a)) (shapes body') k) y ∙ ap (λ (z : List Tree). rounds (in_turn (shapes before) (test_flow node a)) (shapes z) k) n ∙ sym (ap (shape k) e ∙ of_loop k before node a body))
    S
