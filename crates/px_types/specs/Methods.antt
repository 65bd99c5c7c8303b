-- The rules of a method (JLS 8.4).
use Rattle.std.specs.Prelude.{ℕ, ◌+◌, ◌-◌, Bool, true, false, not, ◌&&◌, ◌||◌, List, [], ◌∷◌, ◌++◌, Option, Some, None, nat_lt}
use Rattle.std.specs.List.{list_all}
use Rattle.px_tree.specs.declared.Access.{Access}
use Rattle.px_tree.specs.declared.Access.TheVariants.{Public}
use Rattle.px_tree.specs.declared.TypeName.{TypeName}
use Rattle.px_tree.specs.declared.Param.{Param}
use Rattle.px_tree.specs.declared.Method.{Method}
use Rattle.px_facts.specs.declared.types.Ty.{Ty}
use Rattle.px_types.specs.declared.table.Table.{Table}
use Rattle.px_types.specs.declared.classes.Classes.{Classes}
use Rattle.px_types.specs.declared.context.Context.{Context}
use Rattle.px_types.specs.declared.locals.Locals.{Locals}
use Rattle.px_type_rules.specs.Breaches.{Note, breach_if}
use Rattle.px_facts.specs.Types.{is_void, is_printable}
use Rattle.px_types.specs.Members.{result_type, param_type, names_no_class}
use Rattle.px_types.specs.Scopes.{no_locals, with_local, all_usable, local_notes}
use Rattle.px_types.specs.Statements.{Judged, judged}

-- the tokens that a method may have
abbrev pub max_tokens : ℕ
max_tokens = 10000

abbrev pub result_notes : Table ℕ → Option TypeName → List Note
result_notes numbers None = []
result_notes numbers (Some t) = names_no_class numbers t.base

-- the parameters, behind those in scope
abbrev pub param_notes : Table ℕ → Locals → List Param → List Note
param_notes numbers locals [] = []
param_notes numbers locals (p ∷ ps) =
    names_no_class numbers p.ty.base ++ (local_notes p.name locals ++ param_notes numbers (with_local p.name (param_type numbers p) locals) ps)

abbrev pub with_params : Table ℕ → Locals → List Param → Locals
with_params numbers locals [] = locals
with_params numbers locals (p ∷ ps) = with_params numbers (with_local p.name (param_type numbers p) locals) ps

abbrev pub params_of : Table ℕ → List Param → Locals
params_of numbers ps = all_usable (with_params numbers no_locals ps)

-- where a method of the class with this number stands
abbrev pub context_of : Classes → ℕ → Method → Context
context_of classes this m = record { classes = classes; this = this; result = result_type classes.numbers m.gives }

abbrev pub judged_body : Classes → ℕ → Method → Judged
judged_body classes this m = judged (context_of classes this m) m.body true (params_of classes.numbers m.params)

-- rule 9: a method that isn't void can't complete normally (JLS 8.4.7)
abbrev pub ends : Method → Ty → Bool → List Note
ends m result completes = breach_if (not (is_void result) && completes) m.name.token 9

-- rule 17: a method isn't too long, from its first token to its last
abbrev pub too_long : ℕ → ℕ → List Note
too_long from to = breach_if (not (nat_lt (to - from) max_tokens)) (from + max_tokens) 17

abbrev pub method_notes : Classes → ℕ → Method → List Note
method_notes classes this m =
    result_notes classes.numbers m.gives
    ++ (param_notes classes.numbers no_locals m.params
    ++ ((judged_body classes this m).notes
    ++ (ends m (result_type classes.numbers m.gives) (judged_body classes this m).completes
    ++ too_long m.from m.to)))

-- ---- entries

abbrev pub is_entry_param : Table ℕ → Param → Bool
is_entry_param numbers p = is_printable (param_type numbers p)

abbrev pub is_entry_result : Ty → Bool
is_entry_result t = is_void t || is_printable t

abbrev pub is_public : Access → Bool
is_public Public = true
is_public _ = false

-- rule 14: an entry's parameters and result are int, long, boolean or String, the result also void
abbrev pub entry_notes : Table ℕ → Method → List Note
entry_notes numbers m =
    breach_if (is_public m.access && not (list_all (is_entry_param numbers) m.params && is_entry_result (result_type numbers m.gives))) m.name.token 14
