-- Where a method lies in the blocks.
use Rattle.std.proofs.Common.{◌≡◌, ℕ, zero, suc, ◌+◌, List, drop, Some, None, unwrap_or, slice_get, refl, subst, arith}
use Rattle.px_normal.specs.declared.method.Method.{Method}
use Rattle.px_blocks.specs.declared.block.Block.{Block}
use Rattle.px_normal.specs.First.{numbered}
use Rattle.px_blocks.specs.Rules.{Cutting, Place, Anew, From, In, first_in, AreMethods, none, one}
use Rattle.px_blocks.proofs.Places.{from_sits, sits_on}

-- where a method lies
pub record Lies (blocks : List Block) (c : Cutting) (m first : ℕ) (method : Method) : Type 0 where
  pub made : ℕ
  pub later : List Block
  pub sits : later ≡ drop made blocks
  pub out : Place
  pub body : In c m (Anew made first later) method.body out
  pub made1 : ℕ
  pub later1 : List Block
  pub ends : From out made1 0 later1

module _ (blocks : List Block) (c : Cutting) where
  lies : (m made : ℕ) (ms : List Method) (firsts : List ℕ) (later : List Block) → AreMethods c m made ms firsts later → later ≡ drop made blocks → (i : ℕ) (method : Method) → slice_get ms i ≡ Some method → Lies blocks c (m + i) (unwrap_or (slice_get firsts i) 0) method
  lies m made ms firsts later none s i method e = absurd (let x : ⊥ = cc in x)
  lies m made ms firsts later (one {first = first} {made1 = made1} {q = q} {method = method'} {firsts = firsts'} {later1 = later1} d f rest) s zero method e =
      subst (λ k. Lies blocks c k first method) (omega arith)
      (subst (λ x. Lies blocks c m first x) (let x : method' ≡ method = cc in x)
      (record { made = made; later = later; sits = s; out = q; body = d; made1 = made1; later1 = later1; ends = f }))
  lies m made ms firsts later (one {first = first} {made1 = made1} {q = q} {method = method'} {firsts = firsts'} {later1 = later1} d f rest) s (suc i) method e =
      subst (λ k. Lies blocks c k (unwrap_or (slice_get firsts' i) 0) method) (let x : suc m + i ≡ m + suc i = omega arith in x)
      (lies (suc m) made1 _ firsts' later1 rest (from_sits blocks c m q made1 0 later1 f (sits_on blocks c m _ q _ d s)) i method e)

  absent : (m made : ℕ) (ms : List Method) (firsts : List ℕ) (later : List Block) → AreMethods c m made ms firsts later → (i : ℕ) → slice_get ms i ≡ None → unwrap_or (slice_get firsts i) 0 ≡ 0
  absent m made ms firsts later none zero e = refl
  absent m made ms firsts later none (suc i) e = refl
  absent m made ms firsts later (one d f rest) zero e = absurd (let x : ⊥ = cc in x)
  absent m made ms firsts later (one d f rest) (suc i) e = absent (suc m) _ _ _ _ rest i e

module _ (blocks : List Block) (c : Cutting) (methods : List Method) (cut : AreMethods c 1 0 methods c.firsts blocks) where
  pub no_first : (method : ℕ) → numbered methods method ≡ None → first_in c.firsts method ≡ 0
  no_first zero e = refl
  no_first (suc i) e = absent blocks c 1 0 _ _ _ cut i e

  pub method_lies : (method : ℕ) (mt : Method) → numbered methods method ≡ Some mt → Lies blocks c method (first_in c.firsts method) mt
  method_lies zero mt e = absurd (let x : ⊥ = cc in x)
  method_lies (suc i) mt e = subst (λ k. Lies blocks c k (unwrap_or (slice_get c.firsts i) 0) mt) (let x : 1 + i ≡ suc i = omega arith in x) (lies blocks c 1 0 _ _ _ cut refl i mt e)
