-- The last statement of a block.
use Rattle.std.proofs.Common.{◌≡◌, ℕ, suc, ◌-◌, List, [], ◌∷◌, length, Some, None, slice_get, refl, sym, ap, ◌∙◌, arith}
use Rattle.px_blocks.specs.declared.block.Statement.{Statement}
use Rattle.px_blocks.specs.Machine.{last_or}

behind : (s : Statement) (rest : List Statement) → last_or (Some s) rest ≡ slice_get (s ∷ rest) (length rest)
behind s [] = refl
behind s (t ∷ rest) = behind t rest

one_off : (n : ℕ) → n ≡ suc n - 1
one_off n = omega arith

pub last_is : (statements : List Statement) → slice_get statements (length statements - 1) ≡ last_or None statements
last_is [] = refl
last_is (s ∷ rest) = sym (behind s rest ∙ ap (slice_get (s ∷ rest)) (one_off (length rest)))
