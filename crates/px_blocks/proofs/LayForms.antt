-- What the cutter makes of each kind of tree, as the code does.
use Rattle.std.proofs.Common.{◌≡◌, ℕ, zero, suc, ◌+◌, ◌≤◌, List, [], ◌∷◌, ◌++◌, take, length, reverse, Some, slice_get, take_all, length-append, le_of_eq, arith, refl, sym, ap, ◌∙◌}
use Rattle.px_normal.specs.declared.word.Operand.{Operand}
use Rattle.px_normal.specs.declared.word.Word.{Word}
use Rattle.px_normal.specs.declared.method.Tree.{Tree}
use Rattle.px_normal.specs.declared.method.Tree.TheVariants.{Do, If, Loop}
use Rattle.px_blocks.specs.declared.block.Deed.TheVariants as deed
use Rattle.px_blocks.specs.declared.block.Exit.TheVariants.{Branch}
use Rattle.px_normal.specs.Words.{is_return}
use Rattle.px_blocks.specs.Rules.{Placed, side_of, statement_of}
use Rattle.px_blocks.specs.declared.pending.Pending.{Pending}
use Rattle.px_blocks.specs.Cutter.{Shape, Closed, Left, left_open, kind_of, made_in, made_after, left_before, word_cut, closing, after_all, back_all, cut_of, cuts_of, Cut}
use Rattle.px_blocks.specs.Seen.{seen, shapes_of, IsReady, IsTested, loop_end}
use Rattle.px_blocks.proofs.Cutting.{cut_do, cut_if, cut_loop}

pub lay_do : (P : Placed) (firsts : List ℕ) (m : ℕ) (t : Tree) (node : ℕ) (word : Word) (s : Shape) (l : Left) → t ≡ Do node word →
    (cut_of P t).back firsts m s l ≡ (word_cut (side_of P.sides node) (statement_of P node (deed.Does word)) (is_return word) (kind_of word)).back firsts m s l
lay_do P firsts m t node word s l e = ap (λ t. (cut_of P t).back firsts m s l) e ∙ ap (λ (x : Cut). x.back firsts m s l) (cut_do P node word)

module _ (P : Placed) (firsts : List ℕ) (m : ℕ) where
  abbrev backs : List Tree → Shape → Left → Left
  backs ts s l = back_all (cuts_of P ts) firsts m s l

  abbrev afters : List Tree → Shape → Shape
  afters ts s = after_all (cuts_of P ts) s

  pub lay_if : (t : Tree) (node : ℕ) (a : Operand) (ys ns : List Tree) (s : Shape) (left at_no other at_yes branch result : Pending) (made made1 : ℕ) → t ≡ If node a ys ns →
      made ≡ made_after (side_of P.sides node) s → made1 ≡ made_in (afters ys (Closed made)) →
      seen at_no ≡ closing (afters ns (Closed made1)) left.to (reverse left.later) → seen other ≡ backs ns (Closed made1) (seen at_no) →
      seen at_yes ≡ closing (afters ys (Closed made)) left.to (reverse other.later) → seen branch ≡ backs ys (Closed made) (seen at_yes) →
      seen result ≡ left_before m (side_of P.sides node) (statement_of P node (deed.Chooses a)) s (left_open [] (Branch branch.to other.to) (reverse branch.later)) →
      seen result ≡ (cut_of P t).back firsts m s (seen left)
  lay_if t node a ys ns s left at_no other at_yes branch result made made1 e e0 e1 no' o yes' b r =
      let side = side_of P.sides node in
      let st = statement_of P node (deed.Chooses a) in
      let k = made_after side s in
      let k1 = made_in (afters ys (Closed k)) in
      let l = seen left in
      let f : made1 ≡ k1 = e1 ∙ ap (λ n. made_in (afters ys (Closed n))) e0 in
      let other_of : ℕ → Left = λ n. backs ns (Closed n) (closing (afters ns (Closed n)) l.to l.later) in
      let o_is : seen other ≡ other_of k1 = o ∙ ap (backs ns (Closed made1)) no' ∙ ap other_of f in
      let branch_of : ℕ → Left → Left = λ n x. backs ys (Closed n) (closing (afters ys (Closed n)) l.to x.later) in
      let b_is : seen branch ≡ branch_of k (other_of k1) = b ∙ ap (backs ys (Closed made)) yes' ∙ ap (λ n. branch_of n (seen other)) e0 ∙ ap (branch_of k) o_is in
      let whole : Left → Left → Left = λ x y. left_before m side st s (left_open [] (Branch x.to y.to) x.later) in
      r ∙ ap (λ x. whole x (seen other)) b_is ∙ ap (whole (branch_of k (other_of k1))) o_is
      ∙ sym (ap (λ t. (cut_of P t).back firsts m s l) e ∙ ap (λ (x : Cut). x.back firsts m s l) (cut_if P node a ys ns))

  pub loop_ended : (node : ℕ) (a : Operand) (first body : List Tree) (s at_test : Shape) (left at_end inner whole : Pending) (made made1 start to : ℕ) → IsReady P node first body s left made made1 start to at_test at_end →
      seen inner ≡ backs body (Closed made1) (seen at_end) → IsTested P m node a at_test to inner whole → seen whole ≡ loop_end P firsts m node a first body s (seen left)
  loop_ended node a first body s at_test left at_end inner whole made made1 start to ready inner_is tested =
      let side = side_of P.sides node in
      let st = statement_of P node (deed.Tests a) in
      let k = made_in s in
      let at = afters first (Closed k) in
      let k1 = made_after side at in
      let e1 : at_test ≡ at = ready.test_is ∙ ap (λ n. afters first (Closed n)) ready.made_is in
      let f : made1 ≡ k1 = ready.made1_is ∙ ap (made_after side) e1 in
      let inner_of : ℕ → ℕ → Left = λ n n1. backs body (Closed n1) (closing (afters body (Closed n1)) n (reverse left.later)) in
      let i : seen inner ≡ inner_of (suc k) k1 = inner_is ∙ ap (backs body (Closed made1)) ready.end_is ∙ ap (λ n. inner_of n made1) (ready.start_is ∙ ap suc ready.made_is) ∙ ap (inner_of (suc k)) f in
      let test_of : Shape → ℕ → Left → Left = λ z to x. left_before m side st z (left_open [] (Branch x.to to) x.later) in
      tested.tested_is ∙ ap (λ z. test_of z to (seen inner)) e1 ∙ ap (λ to. test_of at to (seen inner)) ready.to_is ∙ ap (test_of at left.to) i

  pub lay_loop : (t : Tree) (first : List Tree) (node : ℕ) (a : Operand) (body : List Tree) (s : Shape) (left tested whole result : Pending) (made start : ℕ) → t ≡ Loop first node a body →
      made ≡ made_in s → start ≡ suc made → seen tested ≡ loop_end P firsts m node a first body s (seen left) →
      seen whole ≡ backs first (Closed made) (seen tested) → seen result ≡ closing s start (reverse whole.later) →
      seen result ≡ (cut_of P t).back firsts m s (seen left)
  lay_loop t first node a body s left tested whole result made start e e0 e1 tested_is whole_is r =
      let k = made_in s in
      let l = seen left in
      let w : seen whole ≡ backs first (Closed k) (loop_end P firsts m node a first body s l) = whole_is ∙ ap (backs first (Closed made)) tested_is ∙ ap (λ n. backs first (Closed n) (loop_end P firsts m node a first body s l)) e0 in
      r ∙ ap (λ n. closing s n (reverse whole.later)) (e1 ∙ ap suc e0) ∙ ap (λ (x : Left). closing s (suc k) x.later) w
      ∙ sym (ap (λ t. (cut_of P t).back firsts m s l) e ∙ ap (λ (x : Cut). x.back firsts m s l) (cut_loop P first node a body))

-- ---- the last tree of a list

pub shapes_snoc : (xs : List Cut) (x : Cut) (s : Shape) → shapes_of (xs ++ x ∷ []) s ≡ shapes_of xs s ++ after_all xs s ∷ []
shapes_snoc [] x s = refl
shapes_snoc (y ∷ ys) x s = ap (λ l. s ∷ l) (shapes_snoc ys x (y.after s))

pub back_snoc : (xs : List Cut) (x : Cut) (firsts : List ℕ) (m : ℕ) (s : Shape) (l : Left) → back_all (xs ++ x ∷ []) firsts m s l ≡ back_all xs firsts m s (x.back firsts m (after_all xs s) l)
back_snoc [] x firsts m s l = refl
back_snoc (y ∷ ys) x firsts m s l = ap (y.back firsts m s) (back_snoc ys x firsts m (y.after s) l)

map_snoc : (P : Placed) (xs : List Tree) (t : Tree) → cuts_of P (xs ++ t ∷ []) ≡ cuts_of P xs ++ cut_of P t ∷ []
map_snoc P [] t = refl
map_snoc P (x ∷ xs) t = ap (λ l. cut_of P x ∷ l) (map_snoc P xs t)

pub take_snoc : {A : Type 0} (xs : List A) (n : ℕ) (t : A) → slice_get xs n ≡ Some t → take (suc n) xs ≡ take n xs ++ t ∷ []
take_snoc [] n t e = absurd (let x : ⊥ = cc in x)
take_snoc (x ∷ xs) zero t e = ap (λ y. y ∷ []) (let q : x ≡ t = cc in q)
take_snoc (x ∷ xs) (suc n) t e = ap (λ l. x ∷ l) (take_snoc xs n t e)

pub snoc_parts : {A : Type 0} (xs ys : List A) (x y : A) → xs ++ x ∷ [] ≡ ys ++ y ∷ [] → (xs ≡ ys) × (x ≡ y)
snoc_parts [] [] x y e = (refl, cc)
snoc_parts [] (b ∷ []) x y e = absurd (let q : ⊥ = cc in q)
snoc_parts [] (b ∷ c ∷ ys) x y e = absurd (let q : ⊥ = cc in q)
snoc_parts (a ∷ []) [] x y e = absurd (let q : ⊥ = cc in q)
snoc_parts (a ∷ c ∷ xs) [] x y e = absurd (let q : ⊥ = cc in q)
snoc_parts (a ∷ xs) (b ∷ ys) x y e =
    let h : a ≡ b = cc in
    let t : xs ++ x ∷ [] ≡ ys ++ y ∷ [] = cc in
    let r = snoc_parts xs ys x y t in
    (ap (λ z. z ∷ xs) h ∙ ap (λ l. b ∷ l) r.0, r.1)

shapes_length : (xs : List Cut) (s : Shape) → length (shapes_of xs s) ≡ length xs
shapes_length [] s = refl
shapes_length (x ∷ xs) s = ap suc (shapes_length xs (x.after s))

cuts_length : (P : Placed) (ts : List Tree) → length (cuts_of P ts) ≡ length ts
cuts_length P [] = refl
cuts_length P (t ∷ ts) = ap suc (cuts_length P ts)

-- what is left to lay: the trees before as many as have a shape here
pub record Lays (P : Placed) (firsts : List ℕ) (m : ℕ) (trees : List Tree) (s : Shape) (whole : Left) (shapes : List Shape) (left : Left) : Type 0 where
  pub shapes_are : shapes ≡ shapes_of (cuts_of P (take (length shapes) trees)) s
  pub within : length shapes ≤ length trees
  pub same : back_all (cuts_of P trees) firsts m s whole ≡ back_all (cuts_of P (take (length shapes) trees)) firsts m s left

pub lays_first : (P : Placed) (firsts : List ℕ) (m : ℕ) (trees : List Tree) (s : Shape) (whole : Left) (shapes : List Shape) → shapes ≡ shapes_of (cuts_of P trees) s → Lays P firsts m trees s whole shapes whole
lays_first P firsts m trees s whole shapes e =
    let n : length shapes ≡ length trees = ap length e ∙ shapes_length (cuts_of P trees) s ∙ cuts_length P trees in
    let all : take (length shapes) trees ≡ trees = ap (λ k. take k trees) n ∙ take_all (length trees) trees (omega arith) in
    record {
      shapes_are = e ∙ ap (λ ts. shapes_of (cuts_of P ts) s) (sym all);
      within = le_of_eq n;
      same = ap (λ ts. back_all (cuts_of P ts) firsts m s whole) (sym all);
    }

pub lays_next : (P : Placed) (firsts : List ℕ) (m : ℕ) (trees : List Tree) (s : Shape) (whole : Left) (old new : List Shape) (last : Shape) (t : Tree) (left left' : Left) → Lays P firsts m trees s whole old left → old ≡ new ++ last ∷ [] → slice_get trees (length new) ≡ Some t →
    left' ≡ (cut_of P t).back firsts m last left → Lays P firsts m trees s whole new left'
lays_next P firsts m trees s whole old new last t left left' lays e at is =
    let n : length old ≡ suc (length new) = ap length e ∙ length-append new (last ∷ []) ∙ (let q : length new + 1 ≡ suc (length new) = omega arith in q) in
    let front : take (length old) trees ≡ take (length new) trees ++ t ∷ [] = ap (λ k. take k trees) n ∙ take_snoc trees (length new) t at in
    let cuts : cuts_of P (take (length old) trees) ≡ cuts_of P (take (length new) trees) ++ cut_of P t ∷ [] = ap (cuts_of P) front ∙ map_snoc P (take (length new) trees) t in
    let parts = snoc_parts new (shapes_of (cuts_of P (take (length new) trees)) s) last (after_all (cuts_of P (take (length new) trees)) s)
    (sym e ∙ lays.shapes_are ∙ ap (λ xs. shapes_of xs s) cuts ∙ shapes_snoc (cuts_of P (take (length new) trees)) (cut_of P t) s) in
    record {
      shapes_are = parts.0;
      within = (let w = lays.within in omega (arith, w, n));
      same = lays.same ∙ ap (λ xs. back_all xs firsts m s left) cuts ∙ back_snoc (cuts_of P (take (length new) trees)) (cut_of P t) firsts m s left
          ∙ ap (back_all (cuts_of P (take (length new) trees)) firsts m s) (ap (λ z. (cut_of P t).back firsts m z left) (sym parts.1) ∙ sym is);
    }
