-- The types of expressions, and the rules that they break (JLS 15).
use Rattle.std.specs.Prelude.{ℕ, ◌+◌, Bool, true, false, not, ◌||◌, ◌&&◌, List, [], ◌∷◌, ◌++◌, Option, Some, None, is_none, length, nat_eq, nat_le, slice_index_or, if◌then◌else◌}
use Rattle.px_tree.specs.declared.Sign.{Sign}
use Rattle.px_tree.specs.declared.Name.{Name}
use Rattle.px_tree.specs.declared.Base.{Base}
use Rattle.px_tree.specs.declared.Expr.{Expr, Expr-F, fold-Expr}
use Rattle.px_tree.specs.declared.ExprForm.{ExprForm, ExprForm-F, fold-ExprForm}
use Rattle.px_tree.specs.declared.ExprForm.TheOpen.{ExprForm-F as e}
use Rattle.px_value.specs.declared.schema.Schema.{Schema}
use Rattle.px_facts.specs.declared.types.Ty.{Ty}
use Rattle.px_facts.specs.declared.types.Ty.TheVariants.{Unknown, Null, Int, Boolean, Text, Object}
use Rattle.px_types.specs.declared.classes.FieldType.{FieldType}
use Rattle.px_types.specs.declared.classes.MethodType.{MethodType}
use Rattle.px_types.specs.declared.database.Verb.{Verb}
use Rattle.px_types.specs.declared.context.Context.{Context}
use Rattle.px_types.specs.declared.locals.Locals.{Locals}
use Rattle.px_type_rules.specs.Breaches.{Note, New, breach_if}
use Rattle.px_facts.specs.Types.{is_unknown, is_array, fits, array_of, indexed}
use Rattle.px_type_rules.specs.Operators.{is_minus, prefix_fits, prefix_type, group_of, operands_fit, group_type, compares_texts}
use Rattle.px_type_rules.specs.Literals.{max_text, literal_type, is_in_range}
use Rattle.px_types.specs.Names.{find}
use Rattle.px_types.specs.Members.{class_type, base_type, no_class, names_no_class, field_of, method_of, hidden}
use Rattle.px_types.specs.Scopes.{variable_type, or_unknown}
use Rattle.px_types.specs.Database.{Written, Bare, Literal, Other, asked, verb_type, asked_operation, text_notes}

-- the type of an expression, what is found in it, and how it is written
pub record Typed : Type 0 where
  pub ty : Ty
  pub notes : List Note
  pub written : Written

abbrev pub of_type : Ty → Typed
of_type ty = record { ty = ty; notes = []; written = Other }

-- an expression is judged by whether it stands right after a minus, and by the locals in scope
abbrev pub Judges : Type 0
Judges = Bool → Locals → Typed

-- and its form by its first token too
abbrev pub JudgesForm : Type 0
JudgesForm = ℕ → Bool → Locals → Typed

-- rule 6: a value has a fitting type (JLS 5.2)
abbrev pub misfit : Bool → ℕ → List Note
misfit fitting token = breach_if (not fitting) token 6

-- ---- literals and names

-- rule 11: an integer literal is in its type's range (JLS 3.10.1)
abbrev pub number : List ℕ → Bool → ℕ → Bool → Typed
number digits long token negated = record { ty = literal_type long; notes = breach_if (not (is_in_range digits long negated)) token 11; written = Other }

-- rule 17: a string literal isn't too long
abbrev pub text : List ℕ → ℕ → Typed
text bytes token = record { ty = Text; notes = breach_if (not (nat_le (length bytes) max_text)) token 17; written = Literal bytes token }

-- rule 3: a name is a local or parameter in scope, or else a field of this class (JLS 6.5.6.1)
abbrev pub variable : Name → Option Ty → Typed
variable name found = record { ty = or_unknown found; notes = breach_if (is_none found) name.token 3; written = Bare name.bytes }

-- in brackets a name or a literal is neither
abbrev pub bracketed : Typed → Typed
bracketed x = record x { written = Other }

-- ---- members

abbrev pub found_type : Option FieldType → Ty
found_type None = Unknown
found_type (Some f) = f.ty

-- rule 4: a receiver's type has the member (JLS 15.11, 15.12)
abbrev pub no_member : Ty → Name → List Note
no_member of name = breach_if (not (is_unknown of)) name.token 4

abbrev pub field_notes : Context → Ty → Name → Option FieldType → List Note
field_notes context of name None = no_member of name
field_notes context of name (Some f) = hidden of context.this f.access name

abbrev pub field : Context → Typed → Name → Typed
field context of name =
    let found = field_of of.ty name.bytes context.classes in
    record { ty = found_type found; notes = of.notes ++ field_notes context of.ty name found; written = Other }

abbrev pub result_of : Option MethodType → Ty
result_of None = Unknown
result_of (Some m) = m.result

-- rule 5: the number of arguments is right (JLS 15.12.2)
abbrev pub has_count : MethodType → ℕ → Bool
has_count m count = nat_eq count (length m.params)

abbrev pub method_notes : Context → Ty → Name → ℕ → Option MethodType → List Note
method_notes context of name count None = no_member of name
method_notes context of name count (Some m) = hidden of context.this m.access name ++ breach_if (not (has_count m count)) name.token 5

-- the parameters against which arguments are judged
abbrev pub wanted : ℕ → Option MethodType → List Ty
wanted count None = []
wanted count (Some m) = if has_count m count then m.params else []

-- where the type that is wanted isn't known, any argument fits, a void call too
abbrev pub argument_fits : Ty → Ty → Bool
argument_fits want given = is_unknown want || fits want given

-- the arguments from one on; where no parameter is wanted, any fits
abbrev pub arguments : ℕ → List Ty → ℕ → Locals → List Judges → List Note
arguments token wants place locals [] = []
arguments token wants place locals (j ∷ js) =
    let x = j false locals in
    x.notes ++ (misfit (argument_fits (slice_index_or wants place Unknown) x.ty) token ++ arguments token wants (place + 1) locals js)

abbrev pub call : Context → ℕ → Typed → Name → List Judges → Locals → Typed
call context token of name args locals =
    let found = method_of of.ty name.bytes context.classes in
    record {
      ty = result_of found;
      notes = of.notes ++ (method_notes context of.ty name (length args) found ++ arguments token (wanted (length args) found) 0 locals args);
      written = Other;
    }

-- ---- calls of `Db`

abbrev pub types_of : Locals → List Judges → List Ty
types_of locals [] = []
types_of locals (j ∷ js) = (j false locals).ty ∷ types_of locals js

-- The arguments behind the text and the text itself, which isn't judged as other literals are. Without a text all are judged, and rule 12
-- names `Db`.
abbrev pub asked_notes : Schema → ℕ → Verb → Written → Judges → List Judges → Locals → List Note
asked_notes schema database verb (Literal bytes token) j js locals =
    arguments database [] 0 locals js ++ text_notes database token (asked_operation schema verb bytes) (types_of locals js)
asked_notes schema database verb _ j js locals = arguments database [] 0 locals (j ∷ js) ++ breach_if true database 12

abbrev pub database_notes : Schema → ℕ → Verb → List Judges → Locals → List Note
database_notes schema database verb [] locals = breach_if true database 12
database_notes schema database verb (j ∷ js) locals = asked_notes schema database verb (j false locals).written j js locals

-- a call of `Db` counts as an allocation
abbrev pub database_call : Context → ℕ → Verb → List Judges → Locals → Typed
database_call context database verb args locals = record {
  ty = verb_type verb;
  notes = New database ∷ database_notes context.classes.library.schema database verb args locals;
  written = Other;
}

abbrev pub call_or : Option Verb → Context → ℕ → Typed → Name → List Judges → Locals → Typed
call_or None context token of name args locals = call context token of name args locals
call_or (Some verb) context token of name args locals = database_call context token verb args locals

-- a call with a receiver, which stands first
abbrev pub call_on : Context → ℕ → Typed → Name → List Judges → Locals → Typed
call_on context token of name args locals = bracketed (call_or (asked of.written name.bytes) context token of name args locals)

-- ---- arrays and `new`

-- an index is an int (JLS 15.10.3)
abbrev pub index : ℕ → Typed → Typed → Typed
index token of at = record {
  ty = indexed of.ty;
  notes = of.notes ++ (at.notes ++ misfit ((is_unknown of.ty || is_array of.ty) && fits Int at.ty) token);
  written = Other;
}

abbrev pub new_object : Context → ℕ → Name → Typed
new_object context token name = record {
  ty = class_type (find name.bytes context.classes.numbers);
  notes = New token ∷ no_class context.classes.numbers name;
  written = Other;
}

-- so is a length (JLS 15.10.1)
abbrev pub new_array : Context → ℕ → Base → Typed → Typed
new_array context token base length = record {
  ty = array_of (base_type context.classes.numbers base);
  notes = New token ∷ (names_no_class context.classes.numbers base ++ (length.notes ++ misfit (fits Int length.ty) token));
  written = Other;
}

-- ---- operators

abbrev pub prefixed : ℕ → Sign → Typed → Typed
prefixed token sign x = record { ty = prefix_type sign x.ty; notes = x.notes ++ misfit (prefix_fits sign x.ty) token; written = Other }

-- rule 7: `==` and `!=` don't stand between two Strings
abbrev pub texts_compared : Sign → ℕ → Ty → Ty → List Note
texts_compared sign sign_token l r = breach_if (compares_texts (group_of sign) l r) sign_token 7

abbrev pub binary : ℕ → Sign → ℕ → Typed → Typed → Typed
binary token sign sign_token l r = record {
  ty = group_type (group_of sign) l.ty r.ty;
  notes = l.notes ++ (r.notes ++ (misfit (operands_fit (group_of sign) l.ty r.ty) token ++ texts_compared sign sign_token l.ty r.ty));
  written = Other;
}

-- ---- expressions

-- One level of an expression. What stands first in a field's, an index's or a call's receiver stands right after the minus too.
abbrev pub typed_step : Context → ExprForm-F JudgesForm Judges → JudgesForm
typed_step context (e.Number digits long) token negated locals = number digits long token negated
typed_step context (e.Str bytes) token negated locals = text bytes token
typed_step context e.True token negated locals = of_type Boolean
typed_step context e.False token negated locals = of_type Boolean
typed_step context e.Null token negated locals = of_type Null
typed_step context e.This token negated locals = of_type (Object context.this)
typed_step context (e.Name name) token negated locals = variable name (variable_type context locals name.bytes)
typed_step context (e.Group x) token negated locals = bracketed (x false locals)
typed_step context (e.Field of name) token negated locals = field context (of negated locals) name
typed_step context (e.Index of at) token negated locals = index token (of negated locals) (at false locals)
typed_step context (e.Call None name args) token negated locals = call context token (of_type (Object context.this)) name args locals
typed_step context (e.Call (Some of) name args) token negated locals = call_on context token (of negated locals) name args locals
typed_step context (e.NewObject name) token negated locals = new_object context token name
typed_step context (e.NewArray base length) token negated locals = new_array context token base (length false locals)
typed_step context (e.Prefix sign x) token negated locals = prefixed token sign (x (is_minus sign) locals)
typed_step context (e.Binary sign sign_token l r) token negated locals = binary token sign sign_token (l false locals) (r false locals)

abbrev pub whole : Expr-F JudgesForm Judges → Judges
whole x = x.form x.token

unfoldable pub typed_form : Context → ExprForm → JudgesForm
typed_form context = fold-ExprForm JudgesForm Judges (typed_step context) whole

unfoldable pub typed : Context → Expr → Judges
typed context = fold-Expr JudgesForm Judges (typed_step context) whole
