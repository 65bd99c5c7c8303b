-- What the symbols of an expression do with a token.
use Rattle.std.specs.Prelude.{ℕ, ◌+◌, [], ◌∷◌}
use Rattle.px_accept.specs.declared.role.Role.{Role}
use Rattle.px_accept.specs.declared.role.Role.TheVariants.{Name, Integral, Boolean, New, Value, Open, Close, OpenBracket, CloseBracket, Comma, Dot, Minus, Not, Infix}
use Rattle.px_accept.specs.declared.symbol.Symbol.TheVariants.{Need, Identifier, Expression, Operand, Parenthesis, Tail, ArrayTail, Making, MakingName, Arguments, ArgumentList, MoreArguments}
use Rattle.px_accept.specs.Moves.{Move, Refuse, Pass, Push, before}

-- the first token of an operand, in an expression that has n of its own and p open prefixes
abbrev pub operand : ℕ → ℕ → Role → Move
operand n p Minus = Push (Operand n (p + 1) ∷ [])
operand n p Not = Push (Operand n (p + 1) ∷ [])
operand n p Open = Push (Parenthesis n p ∷ [])
operand n p Value = Push (Tail n p ∷ [])
operand n p (Name s) = Push (Arguments ∷ Tail n p ∷ [])
operand n p New = Push (Making n p ∷ [])
operand n p t = Refuse

abbrev pub parenthesis : ℕ → ℕ → Role → Move
parenthesis n p Integral = Push (Need Close ∷ Operand n (p + 1) ∷ [])
parenthesis n p t = before (operand 1 0 t) (Need Close ∷ Tail n p ∷ [])

abbrev pub tail : ℕ → ℕ → Role → Move
tail n p Dot = Push (Identifier ∷ Arguments ∷ Tail (n + 1) p ∷ [])
tail n p OpenBracket = Push (Expression ∷ Need CloseBracket ∷ Tail (n + 1) p ∷ [])
tail n p Infix = Push (Operand (n + 1) 0 ∷ [])
tail n p Minus = Push (Operand (n + 1) 0 ∷ [])
tail n p t = Pass

abbrev pub array_tail : ℕ → ℕ → Role → Move
array_tail n p Dot = Push (Identifier ∷ Arguments ∷ Tail (n + 1) p ∷ [])
array_tail n p Infix = Push (Operand (n + 1) 0 ∷ [])
array_tail n p Minus = Push (Operand (n + 1) 0 ∷ [])
array_tail n p t = Pass

abbrev pub making : ℕ → ℕ → Role → Move
making n p Integral = Push (Need OpenBracket ∷ Expression ∷ Need CloseBracket ∷ ArrayTail n p ∷ [])
making n p Boolean = Push (Need OpenBracket ∷ Expression ∷ Need CloseBracket ∷ ArrayTail n p ∷ [])
making n p (Name s) = Push (MakingName n p ∷ [])
making n p t = Refuse

abbrev pub making_name : ℕ → ℕ → Role → Move
making_name n p Open = Push (Need Close ∷ Tail n p ∷ [])
making_name n p OpenBracket = Push (Expression ∷ Need CloseBracket ∷ ArrayTail n p ∷ [])
making_name n p t = Refuse

abbrev pub argument_list : Role → Move
argument_list Close = Push []
argument_list t = before (operand 1 0 t) (MoreArguments ∷ [])

abbrev pub more_arguments : Role → Move
more_arguments Comma = Push (Expression ∷ MoreArguments ∷ [])
more_arguments Close = Push []
more_arguments t = Refuse

abbrev pub arguments : Role → Move
arguments Open = Push (ArgumentList ∷ [])
arguments t = Pass
