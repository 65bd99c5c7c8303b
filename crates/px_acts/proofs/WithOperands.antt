-- An act on values that are those of operands.
use Rattle.std.proofs.Common.{◌≡◌, List, Result, IfOk, subst}
use Rattle.std.specs.declared.alloc.AllocError.{AllocError}
use Rattle.px_value.specs.declared.value.Value.{Value}
use Rattle.px_value.specs.declared.object.Object.{Object}
use Rattle.px_effects.specs.Act.{Firsts, Act, acted}
use Rattle.px_acts.specs.declared.does.Does.{Does}
use Rattle.px_acts.specs.Did.{ActsAs}

module _ (firsts : Firsts) (heap new : List Object) (r : Result Does AllocError) where
  abbrev pub Acts : Act → Type 0
  Acts act = IfOk r (λ d. ActsAs (acted firsts act heap) d new)

  pub one : (act : Value → Act) (v w : Value) → w ≡ v → Acts (act w) → Acts (act v)
  one act v w e h = subst (λ (x : Value). Acts (act x)) e h

  pub two : (act : Value → Value → Act) (a b v w : Value) → v ≡ a → w ≡ b → Acts (act v w) → Acts (act a b)
  two act a b v w e k h = subst (λ (x : Value). Acts (act x b)) e (subst (λ (y : Value). Acts (act v y)) k h)

  pub three : (act : Value → Value → Value → Act) (a b d v w x : Value) → v ≡ a → w ≡ b → x ≡ d → Acts (act v w x) → Acts (act a b d)
  three act a b d v w x e k q h = subst (λ (z : Value). Acts (act z b d)) e (subst (λ (y : Value). Acts (act v y d)) k (subst (λ (z : Value). Acts (act v w z)) q h))
