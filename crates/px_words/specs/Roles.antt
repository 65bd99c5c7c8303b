-- What each word is to the acceptor.
use Rattle.std.specs.Prelude.{List, map}
use Rattle.px_words.specs.declared.lexeme.Lexeme.{Lexeme}
use Rattle.px_words.specs.declared.lexeme.Word.{Word}
use Rattle.px_words.specs.declared.lexeme.Word.TheVariants as w
use Rattle.px_accept.specs.declared.role.Role.{Role}
use Rattle.px_accept.specs.declared.role.Role.TheVariants as r
use Rattle.px_accept.specs.declared.role.Spelling.TheVariants as s

abbrev pub role_of : Word → Role
role_of w.Public = r.Public
role_of w.Private = r.Private
role_of w.Class = r.Class
role_of w.Int = r.Integral
role_of w.Long = r.Integral
role_of w.Boolean = r.Boolean
role_of w.Void = r.Void
role_of w.Throws = r.Throws
role_of w.If = r.If
role_of w.Else = r.Else
role_of w.While = r.While
role_of w.For = r.For
role_of w.Return = r.Return
role_of w.New = r.New
role_of w.This = r.Value
role_of w.True = r.Value
role_of w.False = r.Value
role_of w.Null = r.Value
role_of w.Number = r.Value
role_of w.Text = r.Value
role_of w.Name = r.Name s.Plain
role_of w.Create = r.Name s.Create
role_of w.Table = r.Name s.Table
role_of w.ColumnLong = r.Name s.Column
role_of w.ColumnText = r.Name s.Column
role_of w.System = r.Name s.System
role_of w.Out = r.Name s.Out
role_of w.Println = r.Name s.Println
role_of w.SqlException = r.Name s.SqlException
role_of w.StringType = r.Name s.Plain
role_of w.ResultSet = r.Name s.Plain
role_of w.Db = r.Name s.Plain
role_of w.OpenBrace = r.OpenBrace
role_of w.CloseBrace = r.CloseBrace
role_of w.Open = r.Open
role_of w.Close = r.Close
role_of w.OpenBracket = r.OpenBracket
role_of w.CloseBracket = r.CloseBracket
role_of w.Comma = r.Comma
role_of w.Semicolon = r.Semicolon
role_of w.Dot = r.Dot
role_of w.Assign = r.Assign
role_of w.PlusAssign = r.Compound
role_of w.MinusAssign = r.Compound
role_of w.TimesAssign = r.Compound
role_of w.OverAssign = r.Compound
role_of w.RestAssign = r.Compound
role_of w.AndAssign = r.Compound
role_of w.OrAssign = r.Compound
role_of w.XorAssign = r.Compound
role_of w.ShlAssign = r.Compound
role_of w.ShrAssign = r.Compound
role_of w.UshrAssign = r.Compound
role_of w.Increment = r.Step
role_of w.Decrement = r.Step
role_of w.Minus = r.Minus
role_of w.Not = r.Not
role_of w.Inv = r.Not
role_of w.Unused = r.Other
role_of w.Bad = r.Other
role_of w.End = r.End
role_of _ = r.Infix

abbrev pub role_at : Lexeme → Role
role_at x = role_of x.word

abbrev pub roles_of : List Lexeme → List Role
roles_of xs = map role_at xs
