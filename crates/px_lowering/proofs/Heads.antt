-- The first of a list, and lists without their first.
use Rattle.std.proofs.Common.{◌≡◌, Bool, true, false, List, [], ◌∷◌, ◌++◌, map, drop, if◌then◌else◌, refl}
use Rattle.px_tree.specs.declared.Expr.{Expr}
use Rattle.px_facts.specs.declared.checked.Checked.{Checked}
use Rattle.px_facts.specs.declared.checked.Named.{Named}
use Rattle.px_mean.specs.Expressions.{is_operation, operands}
use Rattle.px_normal.specs.declared.word.Operand.{Operand}
use Rattle.px_lowering.specs.Expressions.{first_or, part_of}

-- the last one is taken away
pub first_of_more : (a b : Operand) (xs : List Operand) → first_or a (xs ++ b ∷ []) ≡ first_or b xs
first_of_more a b [] = refl
first_of_more a b (x ∷ xs) = refl

if_parts : (P : Checked) (b : Bool) (xs : List Expr) → map (part_of P) (if b then drop 1 xs else xs) ≡ (if b then drop 1 (map (part_of P) xs) else map (part_of P) xs)
if_parts P true [] = refl
if_parts P true (x ∷ xs) = refl
if_parts P false xs = refl

pub operands_of_parts : (P : Checked) (n : Named) (xs : List Expr) → map (part_of P) (operands n xs) ≡ operands n (map (part_of P) xs)
operands_of_parts P n xs = if_parts P (is_operation n) xs
