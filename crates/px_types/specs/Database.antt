-- Calls of `Db`, and what they ask of the tables.
use Rattle.std.specs.Prelude.{ℕ, ◌+◌, Bool, true, not, ◌&&◌, List, [], ◌∷◌, Option, Some, None, length, map, codes, nat_eq, slice_index_or, if◌then◌else◌}
use Rattle.std.specs.Str.{bytes_eq}
use Rattle.std.specs.Option.{option_map}
use Rattle.px_value.specs.declared.schema.ColumnType.{ColumnType}
use Rattle.px_value.specs.declared.schema.ColumnType.TheVariants as column
use Rattle.px_value.specs.declared.schema.Schema.{Schema}
use Rattle.px_value.specs.declared.statement.Statement.{Statement}
use Rattle.px_sql.specs.Reading.{statement_of}
use Rattle.px_sql.specs.Parameters.{is_select, parameters}
use Rattle.px_tree.specs.declared.Expr.{Expr}
use Rattle.px_tree.specs.declared.ExprForm.{ExprForm, ExprForm-F, out-ExprForm}
use Rattle.px_tree.specs.declared.ExprForm.TheOpen.{ExprForm-F as e}
use Rattle.px_facts.specs.declared.types.Ty.{Ty}
use Rattle.px_facts.specs.declared.types.Ty.TheVariants as ty
use Rattle.px_facts.specs.declared.operation.Operation.{Operation}
use Rattle.px_facts.specs.Types.{fits}
use Rattle.px_types.specs.declared.database.Verb.{Verb}
use Rattle.px_types.specs.declared.database.Verb.TheVariants.{Query, Update}
use Rattle.px_type_rules.specs.Breaches.{Note, breach_if}

-- how an expression is written: a bare name, a string literal with its token, or any other
pub data Written : Type 0 where
  Bare : List ℕ → Written
  Literal : List ℕ → ℕ → Written
  Other : Written

abbrev pub written_form : ℕ → ExprForm-F ExprForm Expr → Written
written_form token (e.Name name) = Bare name.bytes
written_form token (e.Str bytes) = Literal bytes token
written_form token _ = Other

abbrev pub written : Expr → Written
written x = written_form x.token (out-ExprForm x.form)

-- ---- the call

abbrev pub verb_of : List ℕ → Option Verb
verb_of name = if bytes_eq name (codes "query") then Some Query else if bytes_eq name (codes "update") then Some Update else None

-- a method of this name is called of the bare name `Db`
abbrev pub asked : Written → List ℕ → Option Verb
asked (Bare of) name = if bytes_eq of (codes "Db") then verb_of name else None
asked _ name = None

abbrev pub verb_type : Verb → Ty
verb_type Query = ty.ResultSet
verb_type Update = ty.Int

-- ---- its text

-- `query` has a SELECT, `update` another form
abbrev pub fits_verb : Verb → Statement → Bool
fits_verb Query s = is_select s
fits_verb Update s = not (is_select s)

abbrev pub if_fitting : Verb → Option Statement → Option Statement
if_fitting verb None = None
if_fitting verb (Some s) = if fits_verb verb s then Some s else None

-- ---- its parameters

abbrev pub column_type : ColumnType → Ty
column_type column.Long = ty.Long
column_type column.Text = ty.Text

abbrev pub operation_of : Schema → Statement → Operation
operation_of schema s = record { statement = s; params = map column_type (parameters schema s) }

-- what a text asks for, where it is one of the forms that the verb takes
abbrev pub asked_operation : Schema → Verb → List ℕ → Option Operation
asked_operation schema verb text = option_map (operation_of schema) (if_fitting verb (statement_of schema text))

-- the values from one on have fitting types
abbrev pub each_fits : List Ty → ℕ → List Ty → Bool
each_fits tos place [] = true
each_fits tos place (from ∷ froms) = fits (slice_index_or tos place ty.Unknown) from && each_fits tos (place + 1) froms

-- as many values as parameters, each of a fitting type
abbrev pub all_fit : List Ty → List Ty → Bool
all_fit tos froms = nat_eq (length tos) (length froms) && each_fits tos 0 froms

-- rules 12 and 13: the text is such a form, and the values behind it fit its parameters; of another text no parameters are known
abbrev pub text_notes : ℕ → ℕ → Option Operation → List Ty → List Note
text_notes database token None types = breach_if true token 12
text_notes database token (Some o) types = breach_if (not (all_fit o.params types)) database 13

-- ---- as the code sees it

abbrev pub literal_in : Written → Option (List ℕ)
literal_in (Literal bytes token) = Some bytes
literal_in _ = None

abbrev pub first_written : List Expr → Written
first_written [] = Other
first_written (x ∷ xs) = written x
