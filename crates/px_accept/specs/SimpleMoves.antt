-- What a simple statement does with a token.
use Rattle.std.specs.Prelude.{ℕ, ◌+◌, [], ◌∷◌}
use Rattle.px_accept.specs.declared.role.Role.{Role}
use Rattle.px_accept.specs.declared.role.Role.TheVariants.{Name, Integral, Boolean, New, Value, Open, Close, OpenBracket, CloseBracket, Semicolon, Dot, Assign, Compound, Step}
use Rattle.px_accept.specs.declared.symbol.Position.{Position}
use Rattle.px_accept.specs.declared.symbol.Position.TheVariants.{Alone, Init, Update}
use Rattle.px_accept.specs.declared.symbol.Seen.{Seen}
use Rattle.px_accept.specs.declared.symbol.Seen.TheVariants.{Nothing, AfterNew, AfterNewName, AnArray, APrimary, AName, AField, AnElement, ACall, AValue}
use Rattle.px_accept.specs.declared.symbol.Symbol.TheVariants.{Need, Identifier, Ended, Statement, Simple, Expression, ArgumentList}
use Rattle.px_accept.specs.Moves.{Move, Refuse, Push}

-- a simple statement that has n of its own
abbrev pub simple_first : Position → ℕ → Role → Move
simple_first q n (Name s) = Push (Simple AName q n ∷ [])
simple_first q n Value = Push (Simple APrimary q n ∷ [])
simple_first q n Open = Push (Expression ∷ Need Close ∷ Simple APrimary q n ∷ [])
simple_first q n New = Push (Simple AfterNew q n ∷ [])
simple_first q n t = Refuse

abbrev pub simple_new : Position → ℕ → Role → Move
simple_new q n Integral = Push (Need OpenBracket ∷ Expression ∷ Need CloseBracket ∷ Simple AnArray q n ∷ [])
simple_new q n Boolean = Push (Need OpenBracket ∷ Expression ∷ Need CloseBracket ∷ Simple AnArray q n ∷ [])
simple_new q n (Name s) = Push (Simple AfterNewName q n ∷ [])
simple_new q n t = Refuse

abbrev pub simple_new_name : Position → ℕ → Role → Move
simple_new_name q n Open = Push (Need Close ∷ Simple APrimary q n ∷ [])
simple_new_name q n OpenBracket = Push (Expression ∷ Need CloseBracket ∷ Simple AnArray q n ∷ [])
simple_new_name q n t = Refuse

abbrev pub end_alone : ℕ → Role → Move
end_alone n Semicolon = Push (Ended n ∷ [])
end_alone n t = Refuse

abbrev pub end_init : ℕ → Role → Move
end_init n Semicolon = Push (Expression ∷ Need Semicolon ∷ Simple Nothing Update n ∷ [])
end_init n t = Refuse

abbrev pub end_update : ℕ → Role → Move
end_update n Close = Push (Statement ∷ Ended n ∷ [])
end_update n t = Refuse

abbrev pub simple_end : Position → ℕ → Role → Move
simple_end Alone n t = end_alone n t
simple_end Init n t = end_init n t
simple_end Update n t = end_update n t

abbrev pub simple_array : Position → ℕ → Role → Move
simple_array q n Dot = Push (Identifier ∷ Simple AField q (n + 1) ∷ [])
simple_array q n t = Refuse

abbrev pub simple_primary : Position → ℕ → Role → Move
simple_primary q n Dot = Push (Identifier ∷ Simple AField q (n + 1) ∷ [])
simple_primary q n OpenBracket = Push (Expression ∷ Need CloseBracket ∷ Simple AnElement q (n + 1) ∷ [])
simple_primary q n t = Refuse

abbrev pub simple_call : Position → ℕ → Role → Move
simple_call q n Dot = Push (Identifier ∷ Simple AField q (n + 1) ∷ [])
simple_call q n OpenBracket = Push (Expression ∷ Need CloseBracket ∷ Simple AnElement q (n + 1) ∷ [])
simple_call q n t = simple_end q n t

abbrev pub simple_element : Position → ℕ → Role → Move
simple_element q n Dot = Push (Identifier ∷ Simple AField q (n + 1) ∷ [])
simple_element q n OpenBracket = Push (Expression ∷ Need CloseBracket ∷ Simple AnElement q (n + 1) ∷ [])
simple_element q n Assign = Push (Expression ∷ Simple AValue q n ∷ [])
simple_element q n t = Refuse

abbrev pub simple_field : Position → ℕ → Role → Move
simple_field q n Dot = Push (Identifier ∷ Simple AField q (n + 1) ∷ [])
simple_field q n OpenBracket = Push (Expression ∷ Need CloseBracket ∷ Simple AnElement q (n + 1) ∷ [])
simple_field q n Assign = Push (Expression ∷ Simple AValue q n ∷ [])
simple_field q n Open = Push (ArgumentList ∷ Simple ACall q n ∷ [])
simple_field q n t = Refuse

abbrev pub simple_name : Position → ℕ → Role → Move
simple_name q n Dot = Push (Identifier ∷ Simple AField q (n + 1) ∷ [])
simple_name q n OpenBracket = Push (Expression ∷ Need CloseBracket ∷ Simple AnElement q (n + 1) ∷ [])
simple_name q n Assign = Push (Expression ∷ Simple AValue q n ∷ [])
simple_name q n Compound = Push (Expression ∷ Simple AValue q n ∷ [])
simple_name q n Open = Push (ArgumentList ∷ Simple ACall q n ∷ [])
simple_name q n Step = Push (Simple AValue q n ∷ [])
simple_name q n t = Refuse

abbrev pub simple : Seen → Position → ℕ → Role → Move
simple Nothing q n t = simple_first q n t
simple AfterNew q n t = simple_new q n t
simple AfterNewName q n t = simple_new_name q n t
simple AnArray q n t = simple_array q n t
simple APrimary q n t = simple_primary q n t
simple AName q n t = simple_name q n t
simple AField q n t = simple_field q n t
simple AnElement q n t = simple_element q n t
simple ACall q n t = simple_call q n t
simple AValue q n t = simple_end q n t
