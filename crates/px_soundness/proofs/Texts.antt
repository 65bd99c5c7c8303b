-- The programs of texts are numbered trees.
use Rattle.std.proofs.Common.{◌≡◌, ℕ, ◌+◌, Bool, false, List, [], ◌∷◌, ◌++◌, map, Option, Some, None, refl, sym, ap, ◌∙◌, subst}
use Rattle.px_words.specs.declared.lexeme.Lexeme.{Lexeme}
use Rattle.px_words.specs.declared.lexeme.Word.{Word}
use Rattle.px_words.specs.declared.lexeme.Word.TheVariants as w
use Rattle.px_words.specs.Words.{binary_sign, prefix_sign, cast_sign}
use Rattle.px_parse.specs.Trees.{base_by, base_of, single_type_of, array_type_of, word_form, expression_of, name_of, block_of, first_token}
use Rattle.px_parse.specs.Grammar.{SpellsType, Ending, SpellsExpression, SpellsOperand, SpellsPostfix, SpellsArguments, SpellsMoreArguments, SpellsSimple, SpellsLocal, SpellsFirst, SpellsStatement, SpellsItem, SpellsItems, SpellsResult, SpellsParam, SpellsMoreParams, SpellsParams, SpellsMember, SpellsMembers, SpellsClass, SpellsClasses, SpellsProgram}
use Rattle.px_parse.specs.declared.whole.Declared.{Declared}
use Rattle.px_parse.specs.Programs.{IsProgram}
use Rattle.px_tree.specs.declared.Sign.{Sign}
use Rattle.px_tree.specs.declared.Base.{Base}
use Rattle.px_tree.specs.declared.Name.{Name as NameData}
use Rattle.px_tree.specs.declared.TypeName.{TypeName}
use Rattle.px_tree.specs.declared.Param.{Param}
use Rattle.px_tree.specs.declared.Expr.{Expr}
use Rattle.px_tree.specs.declared.ExprForm.{ExprForm}
use Rattle.px_tree.specs.declared.ExprForm.TheVariants as e
use Rattle.px_tree.specs.declared.Stmt.{Stmt}
use Rattle.px_tree.specs.declared.StmtForm.{StmtForm}
use Rattle.px_tree.specs.declared.StmtForm.TheVariants as st
use Rattle.px_tree.specs.declared.Member.{Member}
use Rattle.px_tree.specs.declared.Class.{Class}
use Rattle.px_tree.specs.declared.Program.{Program}
use Rattle.px_tree.specs.Numbering.{in_order, number_if, numbered_expression, numbered_expression_form, number_returned, numbered_statement, numbered_statement_form, numbered_member, numbered_class}
use Rattle.px_tree.proofs.Numbers.{of_number, of_text, of_true, of_false, of_null, of_this, of_name, of_group, of_field, of_index, of_call, of_object, of_array, of_prefix, of_binary, of_block, of_empty, of_local, of_assign, of_compound, of_up, of_down, of_call_statement, of_if, of_while, of_for, of_return, of_print, no_part, one_part, two_parts, three_parts, four_parts, an_expression, a_statement}
use Rattle.px_soundness.specs.Numbered.{IsPrefix, IsBinary, IsElement, IsTypeName, IsExpr, AreExprs, IsStmt, AreStmts, AreParams, IsResult, AreMembers, AreClasses}
use Rattle.px_soundness.proofs.Clean.{some_is}

-- ---- words

binary_by : (x : Word) (s : Sign) → binary_sign x ≡ Some s → IsBinary s
binary_by w.Public s h = absurd (cc h)
binary_by w.Private s h = absurd (cc h)
binary_by w.Class s h = absurd (cc h)
binary_by w.Int s h = absurd (cc h)
binary_by w.Long s h = absurd (cc h)
binary_by w.Boolean s h = absurd (cc h)
binary_by w.Void s h = absurd (cc h)
binary_by w.Throws s h = absurd (cc h)
binary_by w.If s h = absurd (cc h)
binary_by w.Else s h = absurd (cc h)
binary_by w.While s h = absurd (cc h)
binary_by w.For s h = absurd (cc h)
binary_by w.Return s h = absurd (cc h)
binary_by w.New s h = absurd (cc h)
binary_by w.This s h = absurd (cc h)
binary_by w.True s h = absurd (cc h)
binary_by w.False s h = absurd (cc h)
binary_by w.Null s h = absurd (cc h)
binary_by w.Name s h = absurd (cc h)
binary_by w.Create s h = absurd (cc h)
binary_by w.Table s h = absurd (cc h)
binary_by w.ColumnLong s h = absurd (cc h)
binary_by w.ColumnText s h = absurd (cc h)
binary_by w.System s h = absurd (cc h)
binary_by w.Out s h = absurd (cc h)
binary_by w.Println s h = absurd (cc h)
binary_by w.SqlException s h = absurd (cc h)
binary_by w.StringType s h = absurd (cc h)
binary_by w.ResultSet s h = absurd (cc h)
binary_by w.Db s h = absurd (cc h)
binary_by w.Number s h = absurd (cc h)
binary_by w.Text s h = absurd (cc h)
binary_by w.OpenBrace s h = absurd (cc h)
binary_by w.CloseBrace s h = absurd (cc h)
binary_by w.Open s h = absurd (cc h)
binary_by w.Close s h = absurd (cc h)
binary_by w.OpenBracket s h = absurd (cc h)
binary_by w.CloseBracket s h = absurd (cc h)
binary_by w.Comma s h = absurd (cc h)
binary_by w.Semicolon s h = absurd (cc h)
binary_by w.Dot s h = absurd (cc h)
binary_by w.Assign s h = absurd (cc h)
binary_by w.PlusAssign s h = absurd (cc h)
binary_by w.MinusAssign s h = absurd (cc h)
binary_by w.TimesAssign s h = absurd (cc h)
binary_by w.OverAssign s h = absurd (cc h)
binary_by w.RestAssign s h = absurd (cc h)
binary_by w.AndAssign s h = absurd (cc h)
binary_by w.OrAssign s h = absurd (cc h)
binary_by w.XorAssign s h = absurd (cc h)
binary_by w.ShlAssign s h = absurd (cc h)
binary_by w.ShrAssign s h = absurd (cc h)
binary_by w.UshrAssign s h = absurd (cc h)
binary_by w.Increment s h = absurd (cc h)
binary_by w.Decrement s h = absurd (cc h)
binary_by w.Plus s h = subst IsBinary (some_is h) IsBinary.plus
binary_by w.Minus s h = subst IsBinary (some_is h) IsBinary.minus
binary_by w.Times s h = subst IsBinary (some_is h) IsBinary.times
binary_by w.Over s h = subst IsBinary (some_is h) IsBinary.over
binary_by w.Rest s h = subst IsBinary (some_is h) IsBinary.rest
binary_by w.And s h = subst IsBinary (some_is h) IsBinary.and
binary_by w.Or s h = subst IsBinary (some_is h) IsBinary.or
binary_by w.Xor s h = subst IsBinary (some_is h) IsBinary.xor
binary_by w.Shl s h = subst IsBinary (some_is h) IsBinary.shl
binary_by w.Shr s h = subst IsBinary (some_is h) IsBinary.shr
binary_by w.Ushr s h = subst IsBinary (some_is h) IsBinary.ushr
binary_by w.Less s h = subst IsBinary (some_is h) IsBinary.less
binary_by w.AtMost s h = subst IsBinary (some_is h) IsBinary.at_most
binary_by w.More s h = subst IsBinary (some_is h) IsBinary.more
binary_by w.AtLeast s h = subst IsBinary (some_is h) IsBinary.at_least
binary_by w.Equal s h = subst IsBinary (some_is h) IsBinary.equal
binary_by w.Unequal s h = subst IsBinary (some_is h) IsBinary.unequal
binary_by w.Both s h = subst IsBinary (some_is h) IsBinary.both
binary_by w.Either s h = subst IsBinary (some_is h) IsBinary.either
binary_by w.Not s h = absurd (cc h)
binary_by w.Inv s h = absurd (cc h)
binary_by w.Unused s h = absurd (cc h)
binary_by w.Bad s h = absurd (cc h)
binary_by w.End s h = absurd (cc h)

prefix_by : (x : Word) (s : Sign) → prefix_sign x ≡ Some s → IsPrefix s
prefix_by w.Public s h = absurd (cc h)
prefix_by w.Private s h = absurd (cc h)
prefix_by w.Class s h = absurd (cc h)
prefix_by w.Int s h = absurd (cc h)
prefix_by w.Long s h = absurd (cc h)
prefix_by w.Boolean s h = absurd (cc h)
prefix_by w.Void s h = absurd (cc h)
prefix_by w.Throws s h = absurd (cc h)
prefix_by w.If s h = absurd (cc h)
prefix_by w.Else s h = absurd (cc h)
prefix_by w.While s h = absurd (cc h)
prefix_by w.For s h = absurd (cc h)
prefix_by w.Return s h = absurd (cc h)
prefix_by w.New s h = absurd (cc h)
prefix_by w.This s h = absurd (cc h)
prefix_by w.True s h = absurd (cc h)
prefix_by w.False s h = absurd (cc h)
prefix_by w.Null s h = absurd (cc h)
prefix_by w.Name s h = absurd (cc h)
prefix_by w.Create s h = absurd (cc h)
prefix_by w.Table s h = absurd (cc h)
prefix_by w.ColumnLong s h = absurd (cc h)
prefix_by w.ColumnText s h = absurd (cc h)
prefix_by w.System s h = absurd (cc h)
prefix_by w.Out s h = absurd (cc h)
prefix_by w.Println s h = absurd (cc h)
prefix_by w.SqlException s h = absurd (cc h)
prefix_by w.StringType s h = absurd (cc h)
prefix_by w.ResultSet s h = absurd (cc h)
prefix_by w.Db s h = absurd (cc h)
prefix_by w.Number s h = absurd (cc h)
prefix_by w.Text s h = absurd (cc h)
prefix_by w.OpenBrace s h = absurd (cc h)
prefix_by w.CloseBrace s h = absurd (cc h)
prefix_by w.Open s h = absurd (cc h)
prefix_by w.Close s h = absurd (cc h)
prefix_by w.OpenBracket s h = absurd (cc h)
prefix_by w.CloseBracket s h = absurd (cc h)
prefix_by w.Comma s h = absurd (cc h)
prefix_by w.Semicolon s h = absurd (cc h)
prefix_by w.Dot s h = absurd (cc h)
prefix_by w.Assign s h = absurd (cc h)
prefix_by w.PlusAssign s h = absurd (cc h)
prefix_by w.MinusAssign s h = absurd (cc h)
prefix_by w.TimesAssign s h = absurd (cc h)
prefix_by w.OverAssign s h = absurd (cc h)
prefix_by w.RestAssign s h = absurd (cc h)
prefix_by w.AndAssign s h = absurd (cc h)
prefix_by w.OrAssign s h = absurd (cc h)
prefix_by w.XorAssign s h = absurd (cc h)
prefix_by w.ShlAssign s h = absurd (cc h)
prefix_by w.ShrAssign s h = absurd (cc h)
prefix_by w.UshrAssign s h = absurd (cc h)
prefix_by w.Increment s h = absurd (cc h)
prefix_by w.Decrement s h = absurd (cc h)
prefix_by w.Plus s h = absurd (cc h)
prefix_by w.Minus s h = subst IsPrefix (some_is h) IsPrefix.minus
prefix_by w.Times s h = absurd (cc h)
prefix_by w.Over s h = absurd (cc h)
prefix_by w.Rest s h = absurd (cc h)
prefix_by w.And s h = absurd (cc h)
prefix_by w.Or s h = absurd (cc h)
prefix_by w.Xor s h = absurd (cc h)
prefix_by w.Shl s h = absurd (cc h)
prefix_by w.Shr s h = absurd (cc h)
prefix_by w.Ushr s h = absurd (cc h)
prefix_by w.Less s h = absurd (cc h)
prefix_by w.AtMost s h = absurd (cc h)
prefix_by w.More s h = absurd (cc h)
prefix_by w.AtLeast s h = absurd (cc h)
prefix_by w.Equal s h = absurd (cc h)
prefix_by w.Unequal s h = absurd (cc h)
prefix_by w.Both s h = absurd (cc h)
prefix_by w.Either s h = absurd (cc h)
prefix_by w.Not s h = subst IsPrefix (some_is h) IsPrefix.not
prefix_by w.Inv s h = subst IsPrefix (some_is h) IsPrefix.inv
prefix_by w.Unused s h = absurd (cc h)
prefix_by w.Bad s h = absurd (cc h)
prefix_by w.End s h = absurd (cc h)

cast_by : (x : Word) (s : Sign) → cast_sign x ≡ Some s → IsPrefix s
cast_by w.Public s h = absurd (cc h)
cast_by w.Private s h = absurd (cc h)
cast_by w.Class s h = absurd (cc h)
cast_by w.Int s h = subst IsPrefix (some_is h) IsPrefix.to_int
cast_by w.Long s h = subst IsPrefix (some_is h) IsPrefix.to_long
cast_by w.Boolean s h = absurd (cc h)
cast_by w.Void s h = absurd (cc h)
cast_by w.Throws s h = absurd (cc h)
cast_by w.If s h = absurd (cc h)
cast_by w.Else s h = absurd (cc h)
cast_by w.While s h = absurd (cc h)
cast_by w.For s h = absurd (cc h)
cast_by w.Return s h = absurd (cc h)
cast_by w.New s h = absurd (cc h)
cast_by w.This s h = absurd (cc h)
cast_by w.True s h = absurd (cc h)
cast_by w.False s h = absurd (cc h)
cast_by w.Null s h = absurd (cc h)
cast_by w.Name s h = absurd (cc h)
cast_by w.Create s h = absurd (cc h)
cast_by w.Table s h = absurd (cc h)
cast_by w.ColumnLong s h = absurd (cc h)
cast_by w.ColumnText s h = absurd (cc h)
cast_by w.System s h = absurd (cc h)
cast_by w.Out s h = absurd (cc h)
cast_by w.Println s h = absurd (cc h)
cast_by w.SqlException s h = absurd (cc h)
cast_by w.StringType s h = absurd (cc h)
cast_by w.ResultSet s h = absurd (cc h)
cast_by w.Db s h = absurd (cc h)
cast_by w.Number s h = absurd (cc h)
cast_by w.Text s h = absurd (cc h)
cast_by w.OpenBrace s h = absurd (cc h)
cast_by w.CloseBrace s h = absurd (cc h)
cast_by w.Open s h = absurd (cc h)
cast_by w.Close s h = absurd (cc h)
cast_by w.OpenBracket s h = absurd (cc h)
cast_by w.CloseBracket s h = absurd (cc h)
cast_by w.Comma s h = absurd (cc h)
cast_by w.Semicolon s h = absurd (cc h)
cast_by w.Dot s h = absurd (cc h)
cast_by w.Assign s h = absurd (cc h)
cast_by w.PlusAssign s h = absurd (cc h)
cast_by w.MinusAssign s h = absurd (cc h)
cast_by w.TimesAssign s h = absurd (cc h)
cast_by w.OverAssign s h = absurd (cc h)
cast_by w.RestAssign s h = absurd (cc h)
cast_by w.AndAssign s h = absurd (cc h)
cast_by w.OrAssign s h = absurd (cc h)
cast_by w.XorAssign s h = absurd (cc h)
cast_by w.ShlAssign s h = absurd (cc h)
cast_by w.ShrAssign s h = absurd (cc h)
cast_by w.UshrAssign s h = absurd (cc h)
cast_by w.Increment s h = absurd (cc h)
cast_by w.Decrement s h = absurd (cc h)
cast_by w.Plus s h = absurd (cc h)
cast_by w.Minus s h = absurd (cc h)
cast_by w.Times s h = absurd (cc h)
cast_by w.Over s h = absurd (cc h)
cast_by w.Rest s h = absurd (cc h)
cast_by w.And s h = absurd (cc h)
cast_by w.Or s h = absurd (cc h)
cast_by w.Xor s h = absurd (cc h)
cast_by w.Shl s h = absurd (cc h)
cast_by w.Shr s h = absurd (cc h)
cast_by w.Ushr s h = absurd (cc h)
cast_by w.Less s h = absurd (cc h)
cast_by w.AtMost s h = absurd (cc h)
cast_by w.More s h = absurd (cc h)
cast_by w.AtLeast s h = absurd (cc h)
cast_by w.Equal s h = absurd (cc h)
cast_by w.Unequal s h = absurd (cc h)
cast_by w.Both s h = absurd (cc h)
cast_by w.Either s h = absurd (cc h)
cast_by w.Not s h = absurd (cc h)
cast_by w.Inv s h = absurd (cc h)
cast_by w.Unused s h = absurd (cc h)
cast_by w.Bad s h = absurd (cc h)
cast_by w.End s h = absurd (cc h)

element_by : (x : Word) (name : NameData) → IsElement (base_by x name)
element_by w.Public name = IsElement.class name
element_by w.Private name = IsElement.class name
element_by w.Class name = IsElement.class name
element_by w.Int name = IsElement.int
element_by w.Long name = IsElement.long
element_by w.Boolean name = IsElement.boolean
element_by w.Void name = IsElement.class name
element_by w.Throws name = IsElement.class name
element_by w.If name = IsElement.class name
element_by w.Else name = IsElement.class name
element_by w.While name = IsElement.class name
element_by w.For name = IsElement.class name
element_by w.Return name = IsElement.class name
element_by w.New name = IsElement.class name
element_by w.This name = IsElement.class name
element_by w.True name = IsElement.class name
element_by w.False name = IsElement.class name
element_by w.Null name = IsElement.class name
element_by w.Name name = IsElement.class name
element_by w.Create name = IsElement.class name
element_by w.Table name = IsElement.class name
element_by w.ColumnLong name = IsElement.class name
element_by w.ColumnText name = IsElement.class name
element_by w.System name = IsElement.class name
element_by w.Out name = IsElement.class name
element_by w.Println name = IsElement.class name
element_by w.SqlException name = IsElement.class name
element_by w.StringType name = IsElement.text
element_by w.ResultSet name = IsElement.class name
element_by w.Db name = IsElement.class name
element_by w.Number name = IsElement.class name
element_by w.Text name = IsElement.class name
element_by w.OpenBrace name = IsElement.class name
element_by w.CloseBrace name = IsElement.class name
element_by w.Open name = IsElement.class name
element_by w.Close name = IsElement.class name
element_by w.OpenBracket name = IsElement.class name
element_by w.CloseBracket name = IsElement.class name
element_by w.Comma name = IsElement.class name
element_by w.Semicolon name = IsElement.class name
element_by w.Dot name = IsElement.class name
element_by w.Assign name = IsElement.class name
element_by w.PlusAssign name = IsElement.class name
element_by w.MinusAssign name = IsElement.class name
element_by w.TimesAssign name = IsElement.class name
element_by w.OverAssign name = IsElement.class name
element_by w.RestAssign name = IsElement.class name
element_by w.AndAssign name = IsElement.class name
element_by w.OrAssign name = IsElement.class name
element_by w.XorAssign name = IsElement.class name
element_by w.ShlAssign name = IsElement.class name
element_by w.ShrAssign name = IsElement.class name
element_by w.UshrAssign name = IsElement.class name
element_by w.Increment name = IsElement.class name
element_by w.Decrement name = IsElement.class name
element_by w.Plus name = IsElement.class name
element_by w.Minus name = IsElement.class name
element_by w.Times name = IsElement.class name
element_by w.Over name = IsElement.class name
element_by w.Rest name = IsElement.class name
element_by w.And name = IsElement.class name
element_by w.Or name = IsElement.class name
element_by w.Xor name = IsElement.class name
element_by w.Shl name = IsElement.class name
element_by w.Shr name = IsElement.class name
element_by w.Ushr name = IsElement.class name
element_by w.Less name = IsElement.class name
element_by w.AtMost name = IsElement.class name
element_by w.More name = IsElement.class name
element_by w.AtLeast name = IsElement.class name
element_by w.Equal name = IsElement.class name
element_by w.Unequal name = IsElement.class name
element_by w.Both name = IsElement.class name
element_by w.Either name = IsElement.class name
element_by w.Not name = IsElement.class name
element_by w.Inv name = IsElement.class name
element_by w.Unused name = IsElement.class name
element_by w.Bad name = IsElement.class name
element_by w.End name = IsElement.class name

abbrev IsNumbered : Expr → Type 0
IsNumbered x = (n : ℕ) → IsExpr n (numbered_expression x n).0 (numbered_expression x n).1

by_number : (x : Expr) (n m : ℕ) (form : ExprForm) → numbered_expression_form x.form (n + 1) ≡ (form, m) → IsExpr n (record { id = n; token = x.token; form = form }) m → IsExpr n (numbered_expression x n).0 (numbered_expression x n).1
by_number x n m form h d = subst (λ (p : Expr × ℕ). IsExpr n p.0 p.1) (sym (an_expression x n n (n + 1) m form refl refl h)) d

word_numbered : (x : Word) (token : ℕ) (form : ExprForm) → word_form x ≡ Some form → IsNumbered (expression_of token form)
word_numbered w.Public token form h n = absurd (cc h)
word_numbered w.Private token form h n = absurd (cc h)
word_numbered w.Class token form h n = absurd (cc h)
word_numbered w.Int token form h n = absurd (cc h)
word_numbered w.Long token form h n = absurd (cc h)
word_numbered w.Boolean token form h n = absurd (cc h)
word_numbered w.Void token form h n = absurd (cc h)
word_numbered w.Throws token form h n = absurd (cc h)
word_numbered w.If token form h n = absurd (cc h)
word_numbered w.Else token form h n = absurd (cc h)
word_numbered w.While token form h n = absurd (cc h)
word_numbered w.For token form h n = absurd (cc h)
word_numbered w.Return token form h n = absurd (cc h)
word_numbered w.New token form h n = absurd (cc h)
word_numbered w.This token form h n = subst (λ (f : ExprForm). IsExpr n (numbered_expression (expression_of token f) n).0 (numbered_expression (expression_of token f) n).1) (some_is h) (by_number (expression_of token e.This) n (n + 1) e.This (no_part (numbered_expression_form e.This) e.This (n + 1) of_this) (IsExpr.this (record { id = n; token = token; form = e.This }) refl))
word_numbered w.True token form h n = subst (λ (f : ExprForm). IsExpr n (numbered_expression (expression_of token f) n).0 (numbered_expression (expression_of token f) n).1) (some_is h) (by_number (expression_of token e.True) n (n + 1) e.True (no_part (numbered_expression_form e.True) e.True (n + 1) of_true) (IsExpr.truth (record { id = n; token = token; form = e.True }) refl))
word_numbered w.False token form h n = subst (λ (f : ExprForm). IsExpr n (numbered_expression (expression_of token f) n).0 (numbered_expression (expression_of token f) n).1) (some_is h) (by_number (expression_of token e.False) n (n + 1) e.False (no_part (numbered_expression_form e.False) e.False (n + 1) of_false) (IsExpr.falsehood (record { id = n; token = token; form = e.False }) refl))
word_numbered w.Null token form h n = subst (λ (f : ExprForm). IsExpr n (numbered_expression (expression_of token f) n).0 (numbered_expression (expression_of token f) n).1) (some_is h) (by_number (expression_of token e.Null) n (n + 1) e.Null (no_part (numbered_expression_form e.Null) e.Null (n + 1) of_null) (IsExpr.null (record { id = n; token = token; form = e.Null }) refl))
word_numbered w.Name token form h n = absurd (cc h)
word_numbered w.Create token form h n = absurd (cc h)
word_numbered w.Table token form h n = absurd (cc h)
word_numbered w.ColumnLong token form h n = absurd (cc h)
word_numbered w.ColumnText token form h n = absurd (cc h)
word_numbered w.System token form h n = absurd (cc h)
word_numbered w.Out token form h n = absurd (cc h)
word_numbered w.Println token form h n = absurd (cc h)
word_numbered w.SqlException token form h n = absurd (cc h)
word_numbered w.StringType token form h n = absurd (cc h)
word_numbered w.ResultSet token form h n = absurd (cc h)
word_numbered w.Db token form h n = absurd (cc h)
word_numbered w.Number token form h n = absurd (cc h)
word_numbered w.Text token form h n = absurd (cc h)
word_numbered w.OpenBrace token form h n = absurd (cc h)
word_numbered w.CloseBrace token form h n = absurd (cc h)
word_numbered w.Open token form h n = absurd (cc h)
word_numbered w.Close token form h n = absurd (cc h)
word_numbered w.OpenBracket token form h n = absurd (cc h)
word_numbered w.CloseBracket token form h n = absurd (cc h)
word_numbered w.Comma token form h n = absurd (cc h)
word_numbered w.Semicolon token form h n = absurd (cc h)
word_numbered w.Dot token form h n = absurd (cc h)
word_numbered w.Assign token form h n = absurd (cc h)
word_numbered w.PlusAssign token form h n = absurd (cc h)
word_numbered w.MinusAssign token form h n = absurd (cc h)
word_numbered w.TimesAssign token form h n = absurd (cc h)
word_numbered w.OverAssign token form h n = absurd (cc h)
word_numbered w.RestAssign token form h n = absurd (cc h)
word_numbered w.AndAssign token form h n = absurd (cc h)
word_numbered w.OrAssign token form h n = absurd (cc h)
word_numbered w.XorAssign token form h n = absurd (cc h)
word_numbered w.ShlAssign token form h n = absurd (cc h)
word_numbered w.ShrAssign token form h n = absurd (cc h)
word_numbered w.UshrAssign token form h n = absurd (cc h)
word_numbered w.Increment token form h n = absurd (cc h)
word_numbered w.Decrement token form h n = absurd (cc h)
word_numbered w.Plus token form h n = absurd (cc h)
word_numbered w.Minus token form h n = absurd (cc h)
word_numbered w.Times token form h n = absurd (cc h)
word_numbered w.Over token form h n = absurd (cc h)
word_numbered w.Rest token form h n = absurd (cc h)
word_numbered w.And token form h n = absurd (cc h)
word_numbered w.Or token form h n = absurd (cc h)
word_numbered w.Xor token form h n = absurd (cc h)
word_numbered w.Shl token form h n = absurd (cc h)
word_numbered w.Shr token form h n = absurd (cc h)
word_numbered w.Ushr token form h n = absurd (cc h)
word_numbered w.Less token form h n = absurd (cc h)
word_numbered w.AtMost token form h n = absurd (cc h)
word_numbered w.More token form h n = absurd (cc h)
word_numbered w.AtLeast token form h n = absurd (cc h)
word_numbered w.Equal token form h n = absurd (cc h)
word_numbered w.Unequal token form h n = absurd (cc h)
word_numbered w.Both token form h n = absurd (cc h)
word_numbered w.Either token form h n = absurd (cc h)
word_numbered w.Not token form h n = absurd (cc h)
word_numbered w.Inv token form h n = absurd (cc h)
word_numbered w.Unused token form h n = absurd (cc h)
word_numbered w.Bad token form h n = absurd (cc h)
word_numbered w.End token form h n = absurd (cc h)

-- ---- types

type_name : (source : List ℕ) (t : TypeName) (xs : List Lexeme) → SpellsType source t xs → IsTypeName t
type_name source _ _ (SpellsType.single x h) = IsTypeName.single (single_type_of source x) refl
type_name source _ _ (SpellsType.array x opening closing h k l) = IsTypeName.array (array_type_of source x) refl (element_by x.word (name_of source x))

-- ---- expressions

abbrev AreNumbered : List Expr → Type 0
AreNumbered xs = (n : ℕ) → AreExprs n (in_order (map numbered_expression xs) n).0 (in_order (map numbered_expression xs) n).1

group_numbered : (token : ℕ) (inner : Expr) → IsNumbered inner → IsNumbered (expression_of token (e.Group inner))
group_numbered token inner d n =
    let p = numbered_expression inner (n + 1) in
    by_number (expression_of token (e.Group inner)) n p.1 (e.Group p.0) (one_part (numbered_expression_form (e.Group inner)) (numbered_expression inner) (λ y. e.Group y) (n + 1) p.1 p.0 (of_group inner) refl) (IsExpr.group p.1 (record { id = n; token = token; form = e.Group p.0 }) p.0 refl (d (n + 1)))

field_numbered : (token : ℕ) (of : Expr) (name : NameData) → IsNumbered of → IsNumbered (expression_of token (e.Field of name))
field_numbered token of name d n =
    let p = numbered_expression of (n + 1) in
    by_number (expression_of token (e.Field of name)) n p.1 (e.Field p.0 name) (one_part (numbered_expression_form (e.Field of name)) (numbered_expression of) (λ y. e.Field y name) (n + 1) p.1 p.0 (of_field of name) refl) (IsExpr.field p.1 (record { id = n; token = token; form = e.Field p.0 name }) p.0 name refl (d (n + 1)))

array_numbered : (token : ℕ) (b : Base) (size : Expr) → IsElement b → IsNumbered size → IsNumbered (expression_of token (e.NewArray b size))
array_numbered token b size i d n =
    let p = numbered_expression size (n + 1) in
    by_number (expression_of token (e.NewArray b size)) n p.1 (e.NewArray b p.0) (one_part (numbered_expression_form (e.NewArray b size)) (numbered_expression size) (λ y. e.NewArray b y) (n + 1) p.1 p.0 (of_array b size) refl) (IsExpr.new_array p.1 (record { id = n; token = token; form = e.NewArray b p.0 }) b p.0 refl i (d (n + 1)))

prefix_numbered : (token : ℕ) (s : Sign) (y : Expr) → IsPrefix s → IsNumbered y → IsNumbered (expression_of token (e.Prefix s y))
prefix_numbered token s y i d n =
    let p = numbered_expression y (n + 1) in
    by_number (expression_of token (e.Prefix s y)) n p.1 (e.Prefix s p.0) (one_part (numbered_expression_form (e.Prefix s y)) (numbered_expression y) (λ y. e.Prefix s y) (n + 1) p.1 p.0 (of_prefix s y) refl) (IsExpr.prefix p.1 (record { id = n; token = token; form = e.Prefix s p.0 }) s p.0 refl i (d (n + 1)))

index_numbered : (token : ℕ) (of at : Expr) → IsNumbered of → IsNumbered at → IsNumbered (expression_of token (e.Index of at))
index_numbered token of at d f n =
    let p = numbered_expression of (n + 1) in
    let q = numbered_expression at p.1 in
    by_number (expression_of token (e.Index of at)) n q.1 (e.Index p.0 q.0) (two_parts (numbered_expression_form (e.Index of at)) (numbered_expression of) (numbered_expression at) (λ x y. e.Index x y) (n + 1) p.1 q.1 p.0 q.0 (of_index of at) refl refl) (IsExpr.indexed p.1 q.1 (record { id = n; token = token; form = e.Index p.0 q.0 }) p.0 q.0 refl (d (n + 1)) (f p.1))

binary_numbered : (token : ℕ) (s : Sign) (at : ℕ) (l r : Expr) → IsBinary s → IsNumbered l → IsNumbered r → IsNumbered (expression_of token (e.Binary s at l r))
binary_numbered token s at l r i d f n =
    let p = numbered_expression l (n + 1) in
    let q = numbered_expression r p.1 in
    by_number (expression_of token (e.Binary s at l r)) n q.1 (e.Binary s at p.0 q.0) (two_parts (numbered_expression_form (e.Binary s at l r)) (numbered_expression l) (numbered_expression r) (λ x y. e.Binary s at x y) (n + 1) p.1 q.1 p.0 q.0 (of_binary s at l r) refl refl) (IsExpr.binary p.1 q.1 (record { id = n; token = token; form = e.Binary s at p.0 q.0 }) s at p.0 q.0 refl i (d (n + 1)) (f p.1))

own_call_numbered : (token : ℕ) (name : NameData) (args : List Expr) → AreNumbered args → IsNumbered (expression_of token (e.Call None name args))
own_call_numbered token name args f n =
    let q = in_order (map numbered_expression args) (n + 1) in
    by_number (expression_of token (e.Call None name args)) n q.1 (e.Call None name q.0) (two_parts (numbered_expression_form (e.Call None name args)) (number_if None) (in_order (map numbered_expression args)) (λ x ys. e.Call x name ys) (n + 1) (n + 1) q.1 None q.0 (of_call None name args) refl refl) (IsExpr.own_call q.1 (record { id = n; token = token; form = e.Call None name q.0 }) name q.0 refl (f (n + 1)))

call_numbered : (token : ℕ) (of : Expr) (name : NameData) (args : List Expr) → IsNumbered of → AreNumbered args → IsNumbered (expression_of token (e.Call (Some of) name args))
call_numbered token of name args d f n =
    let p = numbered_expression of (n + 1) in
    let q = in_order (map numbered_expression args) p.1 in
    by_number (expression_of token (e.Call (Some of) name args)) n q.1 (e.Call (Some p.0) name q.0) (two_parts (numbered_expression_form (e.Call (Some of) name args)) (number_if (Some (numbered_expression of))) (in_order (map numbered_expression args)) (λ x ys. e.Call x name ys) (n + 1) p.1 q.1 (Some p.0) q.0 (of_call (Some of) name args) refl refl) (IsExpr.call p.1 q.1 (record { id = n; token = token; form = e.Call (Some p.0) name q.0 }) p.0 name q.0 refl (d (n + 1)) (f p.1))

none_numbered : AreNumbered []
none_numbered n = AreExprs.none n

more_numbered : (x : Expr) (xs : List Expr) → IsNumbered x → AreNumbered xs → AreNumbered (x ∷ xs)
more_numbered x xs d f n =
    let p = numbered_expression x n in
    let q = in_order (map numbered_expression xs) p.1 in
    AreExprs.more n p.1 q.1 p.0 q.0 (d n) (f p.1)

number_at : (x : Expr) (n : ℕ) (digits : List ℕ) (long : Bool) → x.form ≡ e.Number digits long → IsExpr n (numbered_expression x n).0 (numbered_expression x n).1
number_at x n digits long h = by_number x n (n + 1) (e.Number digits long) (ap (λ (f : ExprForm). numbered_expression_form f (n + 1)) h ∙ no_part (numbered_expression_form (e.Number digits long)) (e.Number digits long) (n + 1) (of_number digits long)) (IsExpr.number (record { id = n; token = x.token; form = e.Number digits long }) digits long refl)

text_at : (x : Expr) (n : ℕ) (bytes : List ℕ) → x.form ≡ e.Str bytes → IsExpr n (numbered_expression x n).0 (numbered_expression x n).1
text_at x n bytes h = by_number x n (n + 1) (e.Str bytes) (ap (λ (f : ExprForm). numbered_expression_form f (n + 1)) h ∙ no_part (numbered_expression_form (e.Str bytes)) (e.Str bytes) (n + 1) (of_text bytes)) (IsExpr.text (record { id = n; token = x.token; form = e.Str bytes }) bytes refl)

name_at : (x : Expr) (n : ℕ) (name : NameData) → x.form ≡ e.Name name → IsExpr n (numbered_expression x n).0 (numbered_expression x n).1
name_at x n name h = by_number x n (n + 1) (e.Name name) (ap (λ (f : ExprForm). numbered_expression_form f (n + 1)) h ∙ no_part (numbered_expression_form (e.Name name)) (e.Name name) (n + 1) (of_name name)) (IsExpr.variable (record { id = n; token = x.token; form = e.Name name }) name refl)

object_at : (x : Expr) (n : ℕ) (name : NameData) → x.form ≡ e.NewObject name → IsExpr n (numbered_expression x n).0 (numbered_expression x n).1
object_at x n name h = by_number x n (n + 1) (e.NewObject name) (ap (λ (f : ExprForm). numbered_expression_form f (n + 1)) h ∙ no_part (numbered_expression_form (e.NewObject name)) (e.NewObject name) (n + 1) (of_object name)) (IsExpr.new_object (record { id = n; token = x.token; form = e.NewObject name }) name refl)

mutual
  expression : (source : List ℕ) (k : ℕ) (x : Expr) (xs : List Lexeme) → SpellsExpression source k x xs → IsNumbered x
  expression source _ x xs (SpellsExpression.operand d) = operand source x xs d
  expression source _ _ _ (SpellsExpression.binary at op k m l r ls rs h i j d f) = binary_numbered l.token op at.token l r (binary_by at.word op h) (expression source k l ls d) (expression source m r rs f)

  operand : (source : List ℕ) (x : Expr) (xs : List Lexeme) → SpellsOperand source x xs → IsNumbered x
  operand source _ _ (SpellsOperand.prefix x op y xs h d) = prefix_numbered x.token op y (prefix_by x.word op h) (operand source y xs d)
  operand source _ _ (SpellsOperand.cast opening x closing op y xs h i j d) = prefix_numbered opening.token op y (cast_by x.word op i) (operand source y xs d)
  operand source x xs (SpellsOperand.postfix ending d) = postfix source ending x xs d

  postfix : (source : List ℕ) (ending : Ending) (x : Expr) (xs : List Lexeme) → SpellsPostfix source ending x xs → IsNumbered x
  postfix source _ y _ (SpellsPostfix.number x h) n = number_at y n _ _ refl
  postfix source _ y _ (SpellsPostfix.text x h) n = text_at y n _ refl
  postfix source _ _ _ (SpellsPostfix.word x form h) n = word_numbered x.word x.token form h n
  postfix source _ y _ (SpellsPostfix.variable x h) n = name_at y n _ refl
  postfix source _ _ _ (SpellsPostfix.own_call x args xs h d) n = own_call_numbered x.token (name_of source x) args (arguments source args xs d) n
  postfix source _ _ _ (SpellsPostfix.group opening closing k inner xs h i d) n = group_numbered opening.token inner (expression source k inner xs d) n
  postfix source _ y _ (SpellsPostfix.object new name opening closing h i j l) n = object_at y n _ refl
  postfix source _ _ _ (SpellsPostfix.array new b opening closing k size xs h i j l d) n = array_numbered new.token (base_of source b) size (element_by b.word (name_of source b)) (expression source k size xs d) n
  postfix source _ _ _ (SpellsPostfix.field ending of xs dot name h i d) n = field_numbered of.token of (name_of source name) (postfix source ending of xs d) n
  postfix source _ _ _ (SpellsPostfix.call ending of args xs ys dot name h i d f) n = call_numbered of.token of (name_of source name) args (postfix source ending of xs d) (arguments source args ys f) n
  postfix source _ _ _ (SpellsPostfix.element ending of at k xs ys opening closing a h i d f) n = index_numbered of.token of at (postfix source ending of xs d) (expression source k at ys f) n

  arguments : (source : List ℕ) (xs : List Expr) (ls : List Lexeme) → SpellsArguments source xs ls → AreNumbered xs
  arguments source _ _ (SpellsArguments.no_argument opening closing h i) = none_numbered
  arguments source _ _ (SpellsArguments.arguments opening closing k x es xs ys h i d f) = more_numbered x es (expression source k x xs d) (more_arguments source es ys f)

  more_arguments : (source : List ℕ) (xs : List Expr) (ls : List Lexeme) → SpellsMoreArguments source xs ls → AreNumbered xs
  more_arguments source _ _ SpellsMoreArguments.no_more = none_numbered
  more_arguments source _ _ (SpellsMoreArguments.more comma k x es xs ys h d f) = more_numbered x es (expression source k x xs d) (more_arguments source es ys f)

-- ---- statements

abbrev IsNumberedStmt : Stmt → Type 0
IsNumberedStmt x = (n : ℕ) → IsStmt n (numbered_statement x n).0 (numbered_statement x n).1

abbrev AreNumberedStmts : List Stmt → Type 0
AreNumberedStmts xs = (n : ℕ) → AreStmts n (in_order (map numbered_statement xs) n).0 (in_order (map numbered_statement xs) n).1

placed : (x : Stmt) (n m : ℕ) (form : StmtForm) → numbered_statement_form x.form (n + 1) ≡ (form, m) → IsStmt n (record { id = n; token = x.token; form = form }) m → IsStmt n (numbered_statement x n).0 (numbered_statement x n).1
placed x n m form h d = subst (λ (p : Stmt × ℕ). IsStmt n p.0 p.1) (sym (a_statement x n n (n + 1) m form refl refl h)) d

abbrev unnumbered : ℕ → StmtForm → Stmt
unnumbered token form = record { id = 0; token = token; form = form }

abbrev with_number : ℕ → ℕ → StmtForm → Stmt
with_number n token form = record { id = n; token = token; form = form }

block_placed : (token : ℕ) (items : List Stmt) → AreNumberedStmts items → IsNumberedStmt (unnumbered token (st.Block items))
block_placed token items d n =
    let p = in_order (map numbered_statement items) (n + 1) in
    placed (unnumbered token (st.Block items)) n p.1 (st.Block p.0) (one_part (numbered_statement_form (st.Block items)) (in_order (map numbered_statement items)) (λ y. st.Block y) (n + 1) p.1 p.0 (of_block items) refl) (IsStmt.block p.1 (with_number n token (st.Block p.0)) p.0 refl (d (n + 1)))

empty_placed : (token : ℕ) → IsNumberedStmt (unnumbered token st.Empty)
empty_placed token n = placed (unnumbered token st.Empty) n (n + 1) st.Empty (no_part (numbered_statement_form st.Empty) st.Empty (n + 1) of_empty) (IsStmt.empty (with_number n token st.Empty) refl)

local_placed : (token : ℕ) (t : TypeName) (name : NameData) (value : Expr) → IsTypeName t → IsNumbered value → IsNumberedStmt (unnumbered token (st.Local t name value))
local_placed token t name value i d n =
    let p = numbered_expression value (n + 1) in
    placed (unnumbered token (st.Local t name value)) n p.1 (st.Local t name p.0) (one_part (numbered_statement_form (st.Local t name value)) (numbered_expression value) (λ y. st.Local t name y) (n + 1) p.1 p.0 (of_local t name value) refl) (IsStmt.local p.1 (with_number n token (st.Local t name p.0)) t name p.0 refl i (d (n + 1)))

assign_placed : (token : ℕ) (place value : Expr) → IsNumbered place → IsNumbered value → IsNumberedStmt (unnumbered token (st.Assign place value))
assign_placed token place value d f n =
    let p = numbered_expression place (n + 1) in
    let q = numbered_expression value p.1 in
    placed (unnumbered token (st.Assign place value)) n q.1 (st.Assign p.0 q.0) (two_parts (numbered_statement_form (st.Assign place value)) (numbered_expression place) (numbered_expression value) (λ x y. st.Assign x y) (n + 1) p.1 q.1 p.0 q.0 (of_assign place value) refl refl) (IsStmt.assign p.1 q.1 (with_number n token (st.Assign p.0 q.0)) p.0 q.0 refl (d (n + 1)) (f p.1))

compound_placed : (token : ℕ) (name : NameData) (s : Sign) (value : Expr) → IsNumbered value → IsNumberedStmt (unnumbered token (st.Compound name s value))
compound_placed token name s value d n =
    let p = numbered_expression value (n + 1) in
    placed (unnumbered token (st.Compound name s value)) n p.1 (st.Compound name s p.0) (one_part (numbered_statement_form (st.Compound name s value)) (numbered_expression value) (λ y. st.Compound name s y) (n + 1) p.1 p.0 (of_compound name s value) refl) (IsStmt.compound p.1 (with_number n token (st.Compound name s p.0)) name s p.0 refl (d (n + 1)))

up_placed : (token : ℕ) (name : NameData) → IsNumberedStmt (unnumbered token (st.Up name))
up_placed token name n = placed (unnumbered token (st.Up name)) n (n + 1) (st.Up name) (no_part (numbered_statement_form (st.Up name)) (st.Up name) (n + 1) (of_up name)) (IsStmt.up (with_number n token (st.Up name)) name refl)

down_placed : (token : ℕ) (name : NameData) → IsNumberedStmt (unnumbered token (st.Down name))
down_placed token name n = placed (unnumbered token (st.Down name)) n (n + 1) (st.Down name) (no_part (numbered_statement_form (st.Down name)) (st.Down name) (n + 1) (of_down name)) (IsStmt.down (with_number n token (st.Down name)) name refl)

call_placed : (token : ℕ) (value : Expr) → IsNumbered value → IsNumberedStmt (unnumbered token (st.Call value))
call_placed token value d n =
    let p = numbered_expression value (n + 1) in
    placed (unnumbered token (st.Call value)) n p.1 (st.Call p.0) (one_part (numbered_statement_form (st.Call value)) (numbered_expression value) (λ y. st.Call y) (n + 1) p.1 p.0 (of_call_statement value) refl) (IsStmt.call p.1 (with_number n token (st.Call p.0)) p.0 refl (d (n + 1)))

print_placed : (token : ℕ) (value : Expr) → IsNumbered value → IsNumberedStmt (unnumbered token (st.Print value))
print_placed token value d n =
    let p = numbered_expression value (n + 1) in
    placed (unnumbered token (st.Print value)) n p.1 (st.Print p.0) (one_part (numbered_statement_form (st.Print value)) (numbered_expression value) (λ y. st.Print y) (n + 1) p.1 p.0 (of_print value) refl) (IsStmt.print p.1 (with_number n token (st.Print p.0)) p.0 refl (d (n + 1)))

leave_placed : (token : ℕ) → IsNumberedStmt (unnumbered token (st.Return None))
leave_placed token n = placed (unnumbered token (st.Return None)) n (n + 1) (st.Return None) (one_part (numbered_statement_form (st.Return None)) (number_returned None) (λ y. st.Return y) (n + 1) (n + 1) None (of_return None) refl) (IsStmt.leave (with_number n token (st.Return None)) refl)

give_placed : (token : ℕ) (value : Expr) → IsNumbered value → IsNumberedStmt (unnumbered token (st.Return (Some value)))
give_placed token value d n =
    let p = numbered_expression value (n + 1) in
    placed (unnumbered token (st.Return (Some value))) n p.1 (st.Return (Some p.0)) (one_part (numbered_statement_form (st.Return (Some value))) (number_returned (Some value)) (λ y. st.Return y) (n + 1) p.1 (Some p.0) (of_return (Some value)) refl) (IsStmt.give p.1 (with_number n token (st.Return (Some p.0))) p.0 refl (d (n + 1)))

if_only_placed : (token : ℕ) (test : Expr) (y : Stmt) → IsNumbered test → IsNumberedStmt y → IsNumberedStmt (unnumbered token (st.If test y None))
if_only_placed token test y d f n =
    let p = numbered_expression test (n + 1) in
    let q = numbered_statement y p.1 in
    placed (unnumbered token (st.If test y None)) n q.1 (st.If p.0 q.0 None) (three_parts (numbered_statement_form (st.If test y None)) (numbered_expression test) (numbered_statement y) (number_if None) (λ a b c. st.If a b c) (n + 1) p.1 q.1 q.1 p.0 q.0 None (of_if test y None) refl refl refl) (IsStmt.if_only p.1 q.1 (with_number n token (st.If p.0 q.0 None)) p.0 q.0 refl (d (n + 1)) (f p.1))

if_else_placed : (token : ℕ) (test : Expr) (y z : Stmt) → IsNumbered test → IsNumberedStmt y → IsNumberedStmt z → IsNumberedStmt (unnumbered token (st.If test y (Some z)))
if_else_placed token test y z d f h n =
    let p = numbered_expression test (n + 1) in
    let q = numbered_statement y p.1 in
    let r = numbered_statement z q.1 in
    placed (unnumbered token (st.If test y (Some z))) n r.1 (st.If p.0 q.0 (Some r.0)) (three_parts (numbered_statement_form (st.If test y (Some z))) (numbered_expression test) (numbered_statement y) (number_if (Some (numbered_statement z))) (λ a b c. st.If a b c) (n + 1) p.1 q.1 r.1 p.0 q.0 (Some r.0) (of_if test y (Some z)) refl refl refl) (IsStmt.if_else p.1 q.1 r.1 (with_number n token (st.If p.0 q.0 (Some r.0))) p.0 q.0 r.0 refl (d (n + 1)) (f p.1) (h q.1))

while_placed : (token : ℕ) (test : Expr) (body : Stmt) → IsNumbered test → IsNumberedStmt body → IsNumberedStmt (unnumbered token (st.While test body))
while_placed token test body d f n =
    let p = numbered_expression test (n + 1) in
    let q = numbered_statement body p.1 in
    placed (unnumbered token (st.While test body)) n q.1 (st.While p.0 q.0) (two_parts (numbered_statement_form (st.While test body)) (numbered_expression test) (numbered_statement body) (λ a b. st.While a b) (n + 1) p.1 q.1 p.0 q.0 (of_while test body) refl refl) (IsStmt.while p.1 q.1 (with_number n token (st.While p.0 q.0)) p.0 q.0 refl (d (n + 1)) (f p.1))

for_placed : (token : ℕ) (first : Stmt) (test : Expr) (last body : Stmt) → IsNumberedStmt first → IsNumbered test → IsNumberedStmt last → IsNumberedStmt body → IsNumberedStmt (unnumbered token (st.For first test last body))
for_placed token first test last body d f h k n =
    let p = numbered_statement first (n + 1) in
    let q = numbered_expression test p.1 in
    let r = numbered_statement last q.1 in
    let s = numbered_statement body r.1 in
    placed (unnumbered token (st.For first test last body)) n s.1 (st.For p.0 q.0 r.0 s.0) (four_parts (numbered_statement_form (st.For first test last body)) (numbered_statement first) (numbered_expression test) (numbered_statement last) (numbered_statement body) (λ a b c e. st.For a b c e) (n + 1) p.1 q.1 r.1 s.1 p.0 q.0 r.0 s.0 (of_for first test last body) refl refl refl refl) (IsStmt.for_loop p.1 q.1 r.1 s.1 (with_number n token (st.For p.0 q.0 r.0 s.0)) p.0 q.0 r.0 s.0 refl (d (n + 1)) (f p.1) (h q.1) (k r.1))

simple : (source : List ℕ) (x : Stmt) (xs : List Lexeme) → SpellsSimple source x xs → IsNumberedStmt x
simple source _ _ (SpellsSimple.assignment ending k place value ps xs equals h i d f) = assign_placed place.token place value (postfix source ending place ps d) (expression source k value xs f)
simple source _ _ (SpellsSimple.compound x sign op k value xs h i d) = compound_placed x.token (name_of source x) op value (expression source k value xs d)
simple source _ _ (SpellsSimple.up x sign h i) = up_placed x.token (name_of source x)
simple source _ _ (SpellsSimple.down x sign h i) = down_placed x.token (name_of source x)
simple source _ _ (SpellsSimple.call x xs d) = call_placed x.token x (postfix source Ending.AtCall x xs d)

local : (source : List ℕ) (x : Stmt) (xs : List Lexeme) → SpellsLocal source x xs → IsNumberedStmt x
local source _ _ (SpellsLocal.local t name equals k value ts xs h i d f) = local_placed t.token t (name_of source name) value (type_name source t ts d) (expression source k value xs f)

first_part : (source : List ℕ) (x : Stmt) (xs : List Lexeme) → SpellsFirst source x xs → IsNumberedStmt x
first_part source x xs (SpellsFirst.local d) = local source x xs d
first_part source x xs (SpellsFirst.simple d) = simple source x xs d

none_placed : AreNumberedStmts []
none_placed n = AreStmts.none n

more_placed : (x : Stmt) (xs : List Stmt) → IsNumberedStmt x → AreNumberedStmts xs → AreNumberedStmts (x ∷ xs)
more_placed x xs d f n =
    let p = numbered_statement x n in
    let q = in_order (map numbered_statement xs) p.1 in
    AreStmts.more n p.1 q.1 p.0 q.0 (d n) (f p.1)

mutual
  statement : (source : List ℕ) (b : Bool) (x : Stmt) (xs : List Lexeme) → SpellsStatement source b x xs → IsNumberedStmt x
  statement source _ _ _ (SpellsStatement.block opening closing ss xs h i d) = block_placed opening.token ss (items source ss xs d)
  statement source _ _ _ (SpellsStatement.empty semicolon h) = empty_placed semicolon.token
  statement source _ x _ (SpellsStatement.simple _ xs semicolon h i d) = simple source x xs d
  statement source _ _ _ (SpellsStatement.if_alone b x opening closing k test y ts ys h i j d f) = if_only_placed x.token test y (expression source k test ts d) (statement source b y ys f)
  statement source _ _ _ (SpellsStatement.if_else b x opening closing other k test y z ts ys zs h i j l d f u) = if_else_placed x.token test y z (expression source k test ts d) (statement source false y ys f) (statement source b z zs u)
  statement source _ _ _ (SpellsStatement.while_loop b x opening closing k test body ts bs h i j d f) = while_placed x.token test body (expression source k test ts d) (statement source b body bs f)
  statement source _ _ _ (SpellsStatement.for_loop b x opening semicolon again closing k first test last body fs ts ls bs h i j l o d f u v) = for_placed x.token first test last body (first_part source first fs d) (expression source k test ts f) (simple source last ls u) (statement source b body bs v)
  statement source _ _ _ (SpellsStatement.return_nothing x semicolon h i) = leave_placed x.token
  statement source _ _ _ (SpellsStatement.return_value x semicolon k value xs h i d) = give_placed x.token value (expression source k value xs d)
  statement source _ _ _ (SpellsStatement.print system dot o point println opening closing semicolon k value xs h1 h2 h3 h4 h5 h6 h7 h8 d) = print_placed system.token value (expression source k value xs d)

  item : (source : List ℕ) (x : Stmt) (xs : List Lexeme) → SpellsItem source x xs → IsNumberedStmt x
  item source x _ (SpellsItem.local _ xs semicolon h d) = local source x xs d
  item source x xs (SpellsItem.statement b d) = statement source b x xs d

  items : (source : List ℕ) (ss : List Stmt) (xs : List Lexeme) → SpellsItems source ss xs → AreNumberedStmts ss
  items source _ _ SpellsItems.no_item = none_placed
  items source _ _ (SpellsItems.item x ss xs ys d f) = more_placed x ss (item source x xs d) (items source ss ys f)

-- ---- members and classes

result : (source : List ℕ) (gives : Option TypeName) (xs : List Lexeme) → SpellsResult source gives xs → IsResult gives
result source _ _ (SpellsResult.nothing x h) = tt
result source _ xs (SpellsResult.of_type {ty = u} d) = type_name source u xs d

param : (source : List ℕ) (p : Param) (xs : List Lexeme) → SpellsParam source p xs → IsTypeName p.ty
param source _ _ (SpellsParam.param t ts name h d) = type_name source t ts d

more_params : (source : List ℕ) (ps : List Param) (xs : List Lexeme) → SpellsMoreParams source ps xs → AreParams ps
more_params source _ _ SpellsMoreParams.no_more = tt
more_params source _ _ (SpellsMoreParams.more comma p ps xs ys h d f) = (param source p xs d, more_params source ps ys f)

params : (source : List ℕ) (ps : List Param) (xs : List Lexeme) → SpellsParams source ps xs → AreParams ps
params source _ _ SpellsParams.no_param = tt
params source _ _ (SpellsParams.params p ps xs ys d f) = (param source p xs d, more_params source ps ys f)

abbrev AreMembersOf : List Member → Type 0
AreMembersOf ms = (n : ℕ) → AreMembers n (in_order (map numbered_member ms) n).0 (in_order (map numbered_member ms) n).1

one_member : (source : List ℕ) (m : Member) (ms : List Member) (xs : List Lexeme) → SpellsMember source m xs → AreMembersOf ms → AreMembersOf (m ∷ ms)
one_member source _ ms _ (SpellsMember.field access t name semicolon ws ts h i d f) k n =
    let q = in_order (map numbered_member ms) n in
    AreMembers.field n q.1 (record { access = access; ty = t; name = name_of source name }) q.0 (type_name source t ts f) (k n)
one_member source _ ms _ (SpellsMember.method access gives ps ss ws rs pts ts xs name opening closing begin finish h1 h2 h3 h4 h5 d r p t b) k n =
    let body = block_placed begin.token ss (items source ss xs b) in
    let y = numbered_statement (block_of begin ss) n in
    let q = in_order (map numbered_member ms) y.1 in
    AreMembers.method n y.1 q.1 (record { access = access; gives = gives; name = name_of source name; params = ps; body = y.0; from = first_token (ws ++ rs); to = finish.token }) q.0 (result source gives rs r) (params source ps pts p) (body n) (k y.1)

members : (source : List ℕ) (ms : List Member) (xs : List Lexeme) → SpellsMembers source ms xs → AreMembersOf ms
members source _ _ SpellsMembers.no_member n = AreMembers.none n
members source _ _ (SpellsMembers.member m ms xs ys d f) n = one_member source m ms xs d (members source ms ys f) n

abbrev AreClassesOf : List Class → Type 0
AreClassesOf cs = (n : ℕ) → AreClasses n (in_order (map numbered_class cs) n).0 (in_order (map numbered_class cs) n).1

one_class : (source : List ℕ) (c : Class) (cs : List Class) (xs : List Lexeme) → SpellsClass source c xs → AreClassesOf cs → AreClassesOf (c ∷ cs)
one_class source _ cs _ (SpellsClass.class word name opening closing ms ws xs h1 h2 h3 h4 p d) k n =
    let y = in_order (map numbered_member ms) n in
    let q = in_order (map numbered_class cs) y.1 in
    AreClasses.more n y.1 q.1 (record { name = name_of source name; members = y.0 }) q.0 (members source ms xs d n) (k y.1)

classes : (source : List ℕ) (cs : List Class) (xs : List Lexeme) → SpellsClasses source cs xs → AreClassesOf cs
classes source _ _ SpellsClasses.no_class n = AreClasses.none n
classes source _ _ (SpellsClasses.class c cs xs ys d f) n = one_class source c cs xs d (classes source cs ys f) n

declared_classes : (source : List ℕ) (d : Declared) (xs : List Lexeme) → SpellsProgram source d xs → AreClassesOf d.classes
declared_classes source _ _ (SpellsProgram.program tables c cs finish ts xs ys h t d f) n = one_class source c cs xs d (classes source cs ys f) n

-- the classes of a text's program
pub program_classes : (source : List ℕ) (program : Program) → IsProgram source program → (m : ℕ) × AreClasses 0 program.classes m
program_classes source program p =
    (_, subst (λ (cs : List Class). AreClasses 0 cs (in_order (map numbered_class p.declared.classes) 0).1) (sym p.classes) (declared_classes source p.declared _ p.spells 0))
