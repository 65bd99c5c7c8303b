-- Methods that are laid from the last back.
use Rattle.std.proofs.Common.{◌≡◌, ℕ, zero, suc, ◌+◌, ◌≤◌, List, [], ◌∷◌, ◌++◌, take, length, Some, slice_get, take_all, length-append, le_of_eq, arith, refl, sym, ap, subst, ◌∙◌}
use Rattle.px_normal.specs.declared.method.Method.{Method}
use Rattle.px_normal.specs.declared.code.Code.{Code}
use Rattle.px_blocks.specs.declared.block.Block.{Block}
use Rattle.px_blocks.specs.declared.block.Blocks.{Blocks}
use Rattle.px_blocks.specs.Rules.{Placed, IsCut}
use Rattle.px_blocks.specs.Cutter.{made_in, body_shape, firsts_from, blocks_from, cut}
use Rattle.px_blocks.specs.Seen.{mades_of, blocks_before, blocks_with}
use Rattle.px_blocks.proofs.Cutting.{code_is_cut}
use Rattle.px_blocks.proofs.LayForms.{take_snoc, snoc_parts}

made_through : Placed → ℕ → List Method → ℕ
made_through P made [] = made
made_through P made (m ∷ ms) = made_through P (made_in (body_shape P made m)) ms

mades_snoc : (P : Placed) (made : ℕ) (xs : List Method) (x : Method) → mades_of P made (xs ++ x ∷ []) ≡ mades_of P made xs ++ made_through P made xs ∷ []
unfolding made_through
mades_snoc P made [] x = refl
mades_snoc P made (y ∷ ys) x = ap (λ l. made ∷ l) (mades_snoc P (made_in (body_shape P made y)) ys x)

blocks_snoc : (P : Placed) (firsts : List ℕ) (m made : ℕ) (xs : List Method) (x : Method) (later : List Block) → blocks_with P firsts m made (xs ++ x ∷ []) later ≡ blocks_with P firsts m made xs (blocks_before P firsts (m + length xs) (made_through P made xs) x.body later)
unfolding made_through
blocks_snoc P firsts m made [] x later = ap (λ n. blocks_before P firsts n made x.body later) (let e : m ≡ m + 0 = omega arith in e)
blocks_snoc P firsts m made (y ∷ ys) x later = ap (blocks_before P firsts m made y.body)
    (blocks_snoc P firsts (suc m) (made_in (body_shape P made y)) ys x later
    ∙ ap (λ n. blocks_with P firsts (suc m) (made_in (body_shape P made y)) ys (blocks_before P firsts n (made_through P (made_in (body_shape P made y)) ys) x.body later)) (let e : suc m + length ys ≡ m + suc (length ys) = omega arith in e))

got_length : (xs : List Method) (n : ℕ) (x : Method) → slice_get xs n ≡ Some x → length (take n xs) ≡ n
got_length [] n x e = absurd (let q : ⊥ = cc in q)
got_length (y ∷ ys) zero x e = refl
got_length (y ∷ ys) (suc n) x e = ap suc (got_length ys n x e)

mades_length : (P : Placed) (made : ℕ) (ms : List Method) → length (mades_of P made ms) ≡ length ms
mades_length P made [] = refl
mades_length P made (m ∷ ms) = ap suc (mades_length P (made_in (body_shape P made m)) ms)

with_nothing : (P : Placed) (firsts : List ℕ) (m made : ℕ) (ms : List Method) → blocks_with P firsts m made ms [] ≡ blocks_from P firsts m made ms
with_nothing P firsts m made [] = refl
with_nothing P firsts m made (x ∷ xs) = ap (blocks_before P firsts m made x.body) (with_nothing P firsts (suc m) (made_in (body_shape P made x)) xs)

-- what is left to lay: the methods before as many as have a number here
pub record LaysMethods (P : Placed) (firsts : List ℕ) (methods : List Method) (mades : List ℕ) (later : List Block) : Type 0 where
  pub mades_are : mades ≡ mades_of P 0 (take (length mades) methods)
  pub within : length mades ≤ length methods
  pub same : blocks_with P firsts 1 0 methods [] ≡ blocks_with P firsts 1 0 (take (length mades) methods) later

pub methods_first : (P : Placed) (firsts : List ℕ) (methods : List Method) (mades : List ℕ) → mades ≡ mades_of P 0 methods → LaysMethods P firsts methods mades []
methods_first P firsts methods mades e =
    let n : length mades ≡ length methods = ap length e ∙ mades_length P 0 methods in
    let all : take (length mades) methods ≡ methods = ap (λ k. take k methods) n ∙ take_all (length methods) methods (omega arith) in
    record {
      mades_are = e ∙ ap (mades_of P 0) (sym all);
      within = le_of_eq n;
      same = ap (λ ms. blocks_with P firsts 1 0 ms []) (sym all);
    }

pub methods_next : (P : Placed) (firsts : List ℕ) (methods : List Method) (old new : List ℕ) (last : ℕ) (x : Method) (later later' : List Block) → LaysMethods P firsts methods old later → old ≡ new ++ last ∷ [] → slice_get methods (length new) ≡ Some x →
    later' ≡ blocks_before P firsts (suc (length new)) last x.body later → LaysMethods P firsts methods new later'
methods_next P firsts methods old new last x later later' lays e at is =
    let front = take (length new) methods in
    let n : length old ≡ suc (length new) = ap length e ∙ length-append new (last ∷ []) ∙ (let q : length new + 1 ≡ suc (length new) = omega arith in q) in
    let f : take (length old) methods ≡ front ++ x ∷ [] = ap (λ k. take k methods) n ∙ take_snoc methods (length new) x at in
    let parts = snoc_parts new (mades_of P 0 front) last (made_through P 0 front) (sym e ∙ lays.mades_are ∙ ap (mades_of P 0) f ∙ mades_snoc P 0 front x) in
    let number : 1 + length front ≡ suc (length new) = (let g = got_length methods (length new) x at in omega (arith, g)) in
    record {
      mades_are = parts.0;
      within = (let w = lays.within in omega (arith, w, n));
      same = lays.same ∙ ap (λ ms. blocks_with P firsts 1 0 ms later) f ∙ blocks_snoc P firsts 1 0 front x later
          ∙ ap (blocks_with P firsts 1 0 front) (ap (λ k. blocks_before P firsts k (made_through P 0 front) x.body later) number ∙ ap (λ k. blocks_before P firsts (suc (length new)) k x.body later) (sym parts.1) ∙ sym is);
    }

pub cut_so : (code : Code) (P : Placed) (firsts : List ℕ) (blocks : List Block) → firsts ≡ firsts_from P 0 code.methods → blocks ≡ blocks_with P firsts 1 0 code.methods [] → IsCut code P (record { firsts = firsts; blocks = blocks })
unfolding cut
cut_so code P firsts blocks e b =
    let made : List ℕ → List Block → Blocks = λ fs bs. record { firsts = fs; blocks = bs } in
    subst (IsCut code P) (sym (ap (made firsts) (b ∙ with_nothing P firsts 1 0 code.methods) ∙ ap (λ fs. made fs (blocks_from P fs 1 0 code.methods)) e)) (code_is_cut code P)
