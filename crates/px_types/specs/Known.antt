-- What is known of an expression, and of those in it.
use Rattle.std.specs.Prelude.{ℕ, List, [], ◌∷◌, ◌++◌, Option, Some, None}
use Rattle.px_tree.specs.declared.Expr.{Expr, Expr-F, fold-Expr}
use Rattle.px_tree.specs.declared.ExprForm.{ExprForm, ExprForm-F, fold-ExprForm}
use Rattle.px_tree.specs.declared.ExprForm.TheOpen.{ExprForm-F as e}
use Rattle.px_facts.specs.declared.types.Ty.{Ty}
use Rattle.px_facts.specs.declared.types.Ty.TheVariants.{Null, Boolean, Text, Object}
use Rattle.px_value.specs.declared.schema.Schema.{Schema}
use Rattle.px_facts.specs.declared.checked.Fact.{Fact}
use Rattle.px_facts.specs.declared.operation.Operation.{Operation}
use Rattle.px_types.specs.declared.node.Node.{Node}
use Rattle.px_types.specs.declared.database.Verb.{Verb}
use Rattle.px_types.specs.declared.home.Home.{Home}
use Rattle.px_types.specs.declared.scope.Scope.{Scope}
use Rattle.px_facts.specs.Types.{array_of, indexed}
use Rattle.px_type_rules.specs.Literals.{literal_type}
use Rattle.px_type_rules.specs.Operators.{prefix_type, group_of, group_type}
use Rattle.px_types.specs.Members.{base_type}
use Rattle.px_types.specs.Facts.{typed_only, variable_fact, field_fact, method_fact, new_fact, new_array_fact, database_fact, verb_fact}
use Rattle.px_types.specs.Database.{Written, Bare, Literal, Other, asked, asked_operation}

-- an expression or a statement that is no call of `Db`
abbrev pub fact_only : Fact → Node
fact_only fact = record { fact = fact; operation = None }

-- what is known of an expression, and of those in it in the order of their numbers, and how it is written
pub record Known : Type 0 where
  pub own : Node
  pub inner : List Node
  pub written : Written

-- its number is the first
abbrev pub all_nodes : Known → List Node
all_nodes k = k.own ∷ k.inner

abbrev pub known_of : Fact → List Node → Known
known_of fact inner = record { own = fact_only fact; inner = inner; written = Other }

abbrev pub leaf : Fact → Known
leaf fact = known_of fact []

-- what is known depends on the locals in scope
abbrev pub Knows : Type 0
Knows = Scope → Known

abbrev pub argument_nodes : Scope → List Knows → List Node
argument_nodes scope [] = []
argument_nodes scope (k ∷ ks) = all_nodes (k scope) ++ argument_nodes scope ks

-- the token of a literal plays no part here
abbrev pub text_known : List ℕ → Known
text_known bytes = record { own = fact_only (typed_only Text); inner = []; written = Literal bytes 0 }

abbrev pub name_known : Fact → List ℕ → Known
name_known fact name = record { own = fact_only fact; inner = []; written = Bare name }

abbrev pub group_known : Known → Known
group_known x = known_of (typed_only x.own.fact.ty) (all_nodes x)

abbrev pub field_known : Home → Known → List ℕ → Known
field_known home of name = known_of (field_fact home of.own.fact.ty name) (all_nodes of)

abbrev pub index_known : Known → Known → Known
index_known of at = known_of (typed_only (indexed of.own.fact.ty)) (all_nodes of ++ all_nodes at)

abbrev pub own_call : Home → List ℕ → List Node → Known
own_call home name args = known_of (method_fact home (Object home.this) name) args

abbrev pub call_known : Home → Known → List ℕ → List Node → Known
call_known home of name args = known_of (method_fact home of.own.fact.ty name) (all_nodes of ++ args)

-- ---- calls of `Db`

abbrev pub operation_in : Schema → Verb → Written → Option Operation
operation_in schema verb (Literal bytes token) = asked_operation schema verb bytes
operation_in schema verb _ = None

-- how the first argument is written
abbrev pub first_written : Scope → List Knows → Written
first_written scope [] = Other
first_written scope (k ∷ ks) = (k scope).written

abbrev pub database_node : Home → Verb → Written → Node
database_node home verb text = record { fact = verb_fact verb; operation = operation_in home.classes.library.schema verb text }

-- `Db` itself stands first
abbrev pub database_known : Home → Verb → Scope → List Knows → Known
database_known home verb scope args = record {
  own = database_node home verb (first_written scope args);
  inner = fact_only database_fact ∷ argument_nodes scope args;
  written = Other;
}

abbrev pub call_or : Option Verb → Home → Known → List ℕ → Scope → List Knows → Known
call_or None home of name scope args = call_known home of name (argument_nodes scope args)
call_or (Some verb) home of name scope args = database_known home verb scope args

-- a call with a receiver
abbrev pub call_on : Home → Known → List ℕ → Scope → List Knows → Known
call_on home of name scope args = record (call_or (asked of.written name) home of name scope args) { written = Other }

-- ---- expressions

abbrev pub array_known : Ty → Known → Known
array_known element length = known_of (new_array_fact (array_of element)) (all_nodes length)

abbrev pub operator_known : Ty → List Node → Known
operator_known t operands = known_of (typed_only t) operands

-- one level of an expression
abbrev pub known_step : Home → ExprForm-F Knows Knows → Knows
known_step home (e.Number digits long) scope = leaf (typed_only (literal_type long))
known_step home (e.Str bytes) scope = text_known bytes
known_step home e.True scope = leaf (typed_only Boolean)
known_step home e.False scope = leaf (typed_only Boolean)
known_step home e.Null scope = leaf (typed_only Null)
known_step home e.This scope = leaf (typed_only (Object home.this))
known_step home (e.Name name) scope = name_known (variable_fact home scope name.bytes) name.bytes
known_step home (e.Group x) scope = group_known (x scope)
known_step home (e.Field of name) scope = field_known home (of scope) name.bytes
known_step home (e.Index of at) scope = index_known (of scope) (at scope)
known_step home (e.Call None name args) scope = own_call home name.bytes (argument_nodes scope args)
known_step home (e.Call (Some of) name args) scope = call_on home (of scope) name.bytes scope args
known_step home (e.NewObject name) scope = leaf (new_fact home name.bytes)
known_step home (e.NewArray base length) scope = array_known (base_type home.classes.numbers base) (length scope)
known_step home (e.Prefix sign x) scope = operator_known (prefix_type sign (x scope).own.fact.ty) (all_nodes (x scope))
known_step home (e.Binary sign sign_token l r) scope =
    operator_known (group_type (group_of sign) (l scope).own.fact.ty (r scope).own.fact.ty) (all_nodes (l scope) ++ all_nodes (r scope))

abbrev pub whole : Expr-F Knows Knows → Knows
whole x = x.form

unfoldable pub known_form : Home → ExprForm → Knows
known_form home = fold-ExprForm Knows Knows (known_step home) whole

unfoldable pub known : Home → Expr → Knows
known home = fold-Expr Knows Knows (known_step home) whole
