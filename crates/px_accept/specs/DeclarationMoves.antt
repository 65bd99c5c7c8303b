-- What the symbols of tables, classes, members and types do with a token.
use Rattle.std.specs.Prelude.{[], ◌∷◌}
use Rattle.px_accept.specs.declared.role.Spelling.{Spelling}
use Rattle.px_accept.specs.declared.role.Spelling.TheVariants.{Create, Table, Column, SqlException}
use Rattle.px_accept.specs.declared.role.Role.{Role}
use Rattle.px_accept.specs.declared.role.Role.TheVariants.{Name, Public, Private, Class, Integral, Boolean, Void, Throws, OpenBrace, CloseBrace, Open, Close, OpenBracket, CloseBracket, Comma, Semicolon, End}
use Rattle.px_accept.specs.declared.symbol.Symbol.TheVariants.{Need, Identifier, ParameterType, Tables, Classes, Columns, Members, Member, Brackets, MemberRest, Parameters, MoreParameters, Body, Braced, Items}
use Rattle.px_accept.specs.Moves.{Move, Refuse, Pass, Push, before}

abbrev pub identifier : Role → Move
identifier (Name s) = Push []
identifier t = Refuse

abbrev pub parameter_type : Role → Move
parameter_type Integral = Push (Brackets ∷ [])
parameter_type Boolean = Push (Brackets ∷ [])
parameter_type (Name s) = Push (Brackets ∷ [])
parameter_type t = Refuse

abbrev pub brackets : Role → Move
brackets OpenBracket = Push (Need CloseBracket ∷ [])
brackets t = Pass

abbrev pub classes : Role → Move
classes Public = Push (Need Class ∷ Identifier ∷ Need OpenBrace ∷ Members ∷ Classes ∷ [])
classes Class = Push (Identifier ∷ Need OpenBrace ∷ Members ∷ Classes ∷ [])
classes End = Push []
classes t = Refuse

abbrev pub created : Spelling → Move
created Create = Push (Need (Name Table) ∷ Identifier ∷ Need Open ∷ Identifier ∷ Need (Name Column) ∷ Columns ∷ Tables ∷ [])
created s = Refuse

abbrev pub tables : Role → Move
tables (Name s) = created s
tables Public = Push (Need Class ∷ Identifier ∷ Need OpenBrace ∷ Members ∷ Classes ∷ [])
tables Class = Push (Identifier ∷ Need OpenBrace ∷ Members ∷ Classes ∷ [])
tables t = Refuse

abbrev pub columns : Role → Move
columns Comma = Push (Identifier ∷ Need (Name Column) ∷ Columns ∷ [])
columns Close = Push (Need Semicolon ∷ [])
columns t = Refuse

abbrev pub member : Role → Move
member Void = Push (Identifier ∷ Need Open ∷ Parameters ∷ [])
member Integral = Push (Brackets ∷ Identifier ∷ MemberRest ∷ [])
member Boolean = Push (Brackets ∷ Identifier ∷ MemberRest ∷ [])
member (Name s) = Push (Brackets ∷ Identifier ∷ MemberRest ∷ [])
member t = Refuse

abbrev pub members : Role → Move
members CloseBrace = Push []
members Public = Push (Member ∷ Members ∷ [])
members Private = Push (Member ∷ Members ∷ [])
members t = before (member t) (Members ∷ [])

abbrev pub member_rest : Role → Move
member_rest Semicolon = Push []
member_rest Open = Push (Parameters ∷ [])
member_rest t = Refuse

abbrev pub parameters : Role → Move
parameters Close = Push (Body ∷ [])
parameters Integral = Push (Brackets ∷ Identifier ∷ MoreParameters ∷ [])
parameters Boolean = Push (Brackets ∷ Identifier ∷ MoreParameters ∷ [])
parameters (Name s) = Push (Brackets ∷ Identifier ∷ MoreParameters ∷ [])
parameters t = Refuse

abbrev pub more_parameters : Role → Move
more_parameters Close = Push (Body ∷ [])
more_parameters Comma = Push (ParameterType ∷ Identifier ∷ MoreParameters ∷ [])
more_parameters t = Refuse

abbrev pub braced : Role → Move
braced OpenBrace = Push (Items ∷ [])
braced t = Refuse

abbrev pub body : Role → Move
body OpenBrace = Push (Items ∷ [])
body Throws = Push (Need (Name SqlException) ∷ Braced ∷ [])
body t = Refuse
