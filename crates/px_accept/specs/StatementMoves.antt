-- What the symbols of statements and blocks do with a token.
use Rattle.std.specs.Prelude.{[], ◌∷◌}
use Rattle.px_accept.specs.declared.role.Spelling.{Spelling}
use Rattle.px_accept.specs.declared.role.Spelling.TheVariants.{System, Out, Println}
use Rattle.px_accept.specs.declared.role.Role.{Role}
use Rattle.px_accept.specs.declared.role.Role.TheVariants.{Name, Integral, Boolean, If, Else, While, For, Return, OpenBrace, CloseBrace, Open, Close, OpenBracket, CloseBracket, Semicolon, Dot, Assign}
use Rattle.px_accept.specs.declared.symbol.Position.TheVariants.{Alone, Init, Update}
use Rattle.px_accept.specs.declared.symbol.Seen.TheVariants.{Nothing, AName, AField, AnElement}
use Rattle.px_accept.specs.declared.symbol.Symbol.TheVariants.{Need, Identifier, Brackets, Items, Ended, ItemName, ItemBracket, Statement, Otherwise, Returned, ForInit, ForName, ForBracket, SystemFirst, SystemDot, SystemOut, SystemOutDot, Printing, Simple, Expression}
use Rattle.px_accept.specs.Moves.{Move, Refuse, Pass, Push, before}
use Rattle.px_accept.specs.ExpressionMoves.{operand}
use Rattle.px_accept.specs.SimpleMoves.{simple_first, simple_field, simple_name}

-- the first token of a statement
abbrev pub named_statement : Spelling → Move
named_statement System = Push (SystemFirst ∷ [])
named_statement s = Push (Simple AName Alone 1 ∷ [])

abbrev pub statement : Role → Move
statement OpenBrace = Push (Items ∷ Ended 1 ∷ [])
statement Semicolon = Push (Ended 1 ∷ [])
statement If = Push (Need Open ∷ Expression ∷ Need Close ∷ Statement ∷ Otherwise ∷ Ended 1 ∷ [])
statement While = Push (Need Open ∷ Expression ∷ Need Close ∷ Statement ∷ Ended 1 ∷ [])
statement For = Push (Need Open ∷ ForInit ∷ [])
statement Return = Push (Returned ∷ Ended 1 ∷ [])
statement (Name s) = named_statement s
statement t = simple_first Alone 1 t

abbrev pub returned : Role → Move
returned Semicolon = Push []
returned t = before (operand 1 0 t) (Need Semicolon ∷ [])

abbrev pub otherwise : Role → Move
otherwise Else = Push (Statement ∷ [])
otherwise t = Pass

-- in a block
abbrev pub items : Role → Move
items CloseBrace = Push (Ended 1 ∷ [])
items Integral = Push (Brackets ∷ Identifier ∷ Need Assign ∷ Expression ∷ Need Semicolon ∷ Items ∷ [])
items Boolean = Push (Brackets ∷ Identifier ∷ Need Assign ∷ Expression ∷ Need Semicolon ∷ Items ∷ [])
items (Name s) = Push (ItemName s ∷ Items ∷ [])
items t = before (statement t) (Items ∷ [])

-- a name that begins an item: a type, a place, a call or `System`
abbrev pub item_dot : Spelling → Move
item_dot System = Push (SystemDot ∷ [])
item_dot s = Push (Identifier ∷ Simple AField Alone 2 ∷ [])

abbrev pub item_name : Spelling → Role → Move
item_name s (Name r) = Push (Need Assign ∷ Expression ∷ Need Semicolon ∷ [])
item_name s OpenBracket = Push (ItemBracket ∷ [])
item_name s Dot = item_dot s
item_name s t = simple_name Alone 1 t

abbrev pub item_bracket : Role → Move
item_bracket CloseBracket = Push (Identifier ∷ Need Assign ∷ Expression ∷ Need Semicolon ∷ [])
item_bracket t = before (operand 1 0 t) (Need CloseBracket ∷ Simple AnElement Alone 2 ∷ [])

abbrev pub for_init : Role → Move
for_init Integral = Push (Brackets ∷ Identifier ∷ Need Assign ∷ Expression ∷ Need Semicolon ∷ Expression ∷ Need Semicolon ∷ Simple Nothing Update 1 ∷ [])
for_init Boolean = Push (Brackets ∷ Identifier ∷ Need Assign ∷ Expression ∷ Need Semicolon ∷ Expression ∷ Need Semicolon ∷ Simple Nothing Update 1 ∷ [])
for_init (Name s) = Push (ForName ∷ [])
for_init t = simple_first Init 1 t

abbrev pub for_name : Role → Move
for_name (Name s) = Push (Need Assign ∷ Expression ∷ Need Semicolon ∷ Expression ∷ Need Semicolon ∷ Simple Nothing Update 1 ∷ [])
for_name OpenBracket = Push (ForBracket ∷ [])
for_name t = simple_name Init 1 t

abbrev pub for_bracket : Role → Move
for_bracket CloseBracket = Push (Identifier ∷ Need Assign ∷ Expression ∷ Need Semicolon ∷ Expression ∷ Need Semicolon ∷ Simple Nothing Update 1 ∷ [])
for_bracket t = before (operand 1 0 t) (Need CloseBracket ∷ Simple AnElement Init 2 ∷ [])

-- `System . out . println (`
abbrev pub system_first : Role → Move
system_first Dot = Push (SystemDot ∷ [])
system_first t = simple_name Alone 1 t

abbrev pub system_named : Spelling → Move
system_named Out = Push (SystemOut ∷ [])
system_named s = Push (Simple AField Alone 2 ∷ [])

abbrev pub system_dot : Role → Move
system_dot (Name s) = system_named s
system_dot t = Refuse

abbrev pub system_out : Role → Move
system_out Dot = Push (SystemOutDot ∷ [])
system_out t = simple_field Alone 2 t

abbrev pub out_named : Spelling → Move
out_named Println = Push (Printing ∷ [])
out_named s = Push (Simple AField Alone 3 ∷ [])

abbrev pub system_out_dot : Role → Move
system_out_dot (Name s) = out_named s
system_out_dot t = Refuse

abbrev pub printing : Role → Move
printing Open = Push (Expression ∷ Need Close ∷ Need Semicolon ∷ Ended 1 ∷ [])
printing t = simple_field Alone 3 t
