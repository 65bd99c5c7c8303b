-- The codes by which roles are compared.
use Rattle.std.specs.Prelude.{ℕ, ◌+◌}
use Rattle.px_accept.specs.declared.role.Spelling.{Spelling}
use Rattle.px_accept.specs.declared.role.Spelling.TheVariants.{Create, Table, Column, System, Out, Println, SqlException, Plain}
use Rattle.px_accept.specs.declared.role.Role.{Role}
use Rattle.px_accept.specs.declared.role.Role.TheVariants.{Name, Public, Private, Class, Integral, Boolean, Void, Throws, If, Else, While, For, Return, New, Value, OpenBrace, CloseBrace, Open, Close, OpenBracket, CloseBracket, Comma, Semicolon, Dot, Assign, Compound, Step, Minus, Not, Infix, End, Other}

abbrev pub spelling_code : Spelling → ℕ
spelling_code Create = 0
spelling_code Table = 1
spelling_code Column = 2
spelling_code System = 3
spelling_code Out = 4
spelling_code Println = 5
spelling_code SqlException = 6
spelling_code Plain = 7

abbrev pub role_code : Role → ℕ
role_code (Name s) = 40 + spelling_code s
role_code Public = 1
role_code Private = 2
role_code Class = 3
role_code Integral = 4
role_code Boolean = 5
role_code Void = 6
role_code Throws = 7
role_code If = 8
role_code Else = 9
role_code While = 10
role_code For = 11
role_code Return = 12
role_code New = 13
role_code Value = 14
role_code OpenBrace = 15
role_code CloseBrace = 16
role_code Open = 17
role_code Close = 18
role_code OpenBracket = 19
role_code CloseBracket = 20
role_code Comma = 21
role_code Semicolon = 22
role_code Dot = 23
role_code Assign = 24
role_code Compound = 25
role_code Step = 26
role_code Minus = 27
role_code Not = 28
role_code Infix = 29
role_code End = 30
role_code Other = 31
