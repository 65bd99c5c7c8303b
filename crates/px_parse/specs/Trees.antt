-- The nodes of a tree, each from the lexemes that it begins with. All numbers `id` are 0.
use Rattle.std.specs.Prelude.{ℕ, ◌-◌, ◌==◌, ◌||◌, Bool, true, false, List, [], ◌∷◌, Option, Some, None, length, take, drop, slice_index, if◌then◌else◌}
use Rattle.px_words.specs.declared.lexeme.Lexeme.{Lexeme}
use Rattle.px_words.specs.declared.lexeme.Word.{Word}
use Rattle.px_words.specs.declared.lexeme.Word.TheVariants as w
use Rattle.px_tree.specs.declared.Access.{Access}
use Rattle.px_tree.specs.declared.Base.{Base}
use Rattle.px_tree.specs.declared.Base.TheVariants as base
use Rattle.px_tree.specs.declared.TypeName.{TypeName}
use Rattle.px_tree.specs.declared.Name.{Name as NameData}
use Rattle.px_tree.specs.declared.Sign.{Sign}
use Rattle.px_tree.specs.declared.Expr.{Expr}
use Rattle.px_tree.specs.declared.ExprForm.{ExprForm}
use Rattle.px_tree.specs.declared.ExprForm.TheVariants as e
use Rattle.px_tree.specs.declared.Stmt.{Stmt}
use Rattle.px_tree.specs.declared.StmtForm.{StmtForm}
use Rattle.px_tree.specs.declared.StmtForm.TheVariants as s
use Rattle.px_tree.specs.declared.Param.{Param}
use Rattle.px_tree.specs.declared.Member.{Member}
use Rattle.px_tree.specs.declared.Member.TheVariants.{Field, Method}
use Rattle.px_tree.specs.declared.Class.{Class}
use Rattle.px_tree.specs.declared.Column.{Column}
use Rattle.px_tree.specs.declared.TableDecl.{TableDecl}
use Rattle.px_lex.specs.Spelling.{spelled}
use Rattle.px_words.specs.Literals.{is_long, digits_of, text_in}

abbrev pub first_token : List Lexeme → ℕ
first_token [] = 0
first_token (x ∷ xs) = x.token

-- ---- names

abbrev pub name_of : List ℕ → Lexeme → NameData
name_of source x = record { bytes = spelled source x.from x.to; token = x.token }

-- ---- types

-- the type of an array's elements
abbrev pub base_by : Word → NameData → Base
base_by w.Int name = base.Int
base_by w.Long name = base.Long
base_by w.Boolean name = base.Boolean
base_by w.StringType name = base.Str
base_by _ name = base.Class name

abbrev pub base_of : List ℕ → Lexeme → Base
base_of source x = base_by x.word (name_of source x)

-- a type that isn't an array's
abbrev pub single_base_by : Word → NameData → Base
single_base_by w.ResultSet name = base.ResultSet
single_base_by word name = base_by word name

abbrev pub single_type_of : List ℕ → Lexeme → TypeName
single_type_of source x = record { base = single_base_by x.word (name_of source x); array = false; token = x.token }

abbrev pub array_type_of : List ℕ → Lexeme → TypeName
array_type_of source x = record { base = base_of source x; array = true; token = x.token }

-- ---- expressions

abbrev pub expression_of : ℕ → ExprForm → Expr
expression_of token form = record { id = 0; token = token; form = form }

abbrev pub number_of : List ℕ → Lexeme → Expr
number_of source x = let spelling = spelled source x.from x.to in expression_of x.token (e.Number (digits_of spelling) (is_long spelling))

abbrev pub text_of : List ℕ → Lexeme → Expr
text_of source x = expression_of x.token (e.Str (text_in (spelled source x.from x.to)))

-- `true`, `false`, `null` or `this`
abbrev pub word_form : Word → Option ExprForm
word_form w.True = Some e.True
word_form w.False = Some e.False
word_form w.Null = Some e.Null
word_form w.This = Some e.This
word_form _ = None

abbrev pub variable_of : List ℕ → Lexeme → Expr
variable_of source x = expression_of x.token (e.Name (name_of source x))

abbrev pub group_of : Lexeme → Expr → Expr
group_of opening inner = expression_of opening.token (e.Group inner)

abbrev pub field_of : List ℕ → Expr → Lexeme → Expr
field_of source of name = expression_of of.token (e.Field of (name_of source name))

abbrev pub element_of : Expr → Expr → Expr
element_of of index = expression_of of.token (e.Index of index)

abbrev pub own_call_of : List ℕ → Lexeme → List Expr → Expr
own_call_of source name args = expression_of name.token (e.Call None (name_of source name) args)

abbrev pub call_of : List ℕ → Expr → Lexeme → List Expr → Expr
call_of source of name args = expression_of of.token (e.Call (Some of) (name_of source name) args)

abbrev pub object_of : List ℕ → Lexeme → Lexeme → Expr
object_of source new name = expression_of new.token (e.NewObject (name_of source name))

abbrev pub array_of : List ℕ → Lexeme → Lexeme → Expr → Expr
array_of source new base size = expression_of new.token (e.NewArray (base_of source base) size)

abbrev pub prefix_of : Sign → Lexeme → Expr → Expr
prefix_of op first operand = expression_of first.token (e.Prefix op operand)

abbrev pub binary_of : Sign → Lexeme → Expr → Expr → Expr
binary_of op sign_word left right = expression_of left.token (e.Binary op sign_word.token left right)

-- ---- statements

abbrev pub statement_of : ℕ → StmtForm → Stmt
statement_of token form = record { id = 0; token = token; form = form }

abbrev pub block_of : Lexeme → List Stmt → Stmt
block_of opening items = statement_of opening.token (s.Block items)

abbrev pub empty_of : Lexeme → Stmt
empty_of semicolon = statement_of semicolon.token s.Empty

abbrev pub local_of : List ℕ → TypeName → Lexeme → Expr → Stmt
local_of source ty name value = statement_of ty.token (s.Local ty (name_of source name) value)

abbrev pub assignment_of : Expr → Expr → Stmt
assignment_of place value = statement_of place.token (s.Assign place value)

abbrev pub compound_of : List ℕ → Lexeme → Sign → Expr → Stmt
compound_of source name op value = statement_of name.token (s.Compound (name_of source name) op value)

abbrev pub up_of : List ℕ → Lexeme → Stmt
up_of source name = statement_of name.token (s.Up (name_of source name))

abbrev pub down_of : List ℕ → Lexeme → Stmt
down_of source name = statement_of name.token (s.Down (name_of source name))

abbrev pub call_statement_of : Expr → Stmt
call_statement_of call = statement_of call.token (s.Call call)

abbrev pub if_of : Lexeme → Expr → Stmt → Option Stmt → Stmt
if_of x test then_part else_part = statement_of x.token (s.If test then_part else_part)

abbrev pub while_of : Lexeme → Expr → Stmt → Stmt
while_of x test body = statement_of x.token (s.While test body)

abbrev pub for_of : Lexeme → Stmt → Expr → Stmt → Stmt → Stmt
for_of x first test last body = statement_of x.token (s.For first test last body)

abbrev pub return_of : Lexeme → Option Expr → Stmt
return_of x value = statement_of x.token (s.Return value)

abbrev pub print_of : Lexeme → Expr → Stmt
print_of system value = statement_of system.token (s.Print value)

-- ---- members, classes, tables

abbrev pub param_of : List ℕ → TypeName → Lexeme → Param
param_of source ty name = record { ty = ty; name = name_of source name }

abbrev pub field_declaration_of : List ℕ → Access → TypeName → Lexeme → Member
field_declaration_of source access ty name = Field (record { access = access; ty = ty; name = name_of source name })

-- from the number of its first token, to that of its last
abbrev pub method_with : List ℕ → ℕ → Access → Option TypeName → Lexeme → List Param → Stmt → ℕ → Member
method_with source from access gives name params body to =
    Method (record { access = access; gives = gives; name = name_of source name; params = params; body = body; from = from; to = to })

abbrev pub class_of : List ℕ → Lexeme → List Member → Class
class_of source name members = record { name = name_of source name; members = members }

abbrev pub is_text : Word → Bool
is_text w.ColumnText = true
is_text _ = false

abbrev pub column_of : List ℕ → Lexeme → Lexeme → Column
column_of source name ty = record { name = name_of source name; text = is_text ty.word }

abbrev pub table_of : List ℕ → Lexeme → List Column → TableDecl
table_of source name columns = record { name = name_of source name; columns = columns }
