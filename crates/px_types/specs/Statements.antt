-- The rules of statements (JLS 6.3, 14).
use Rattle.std.specs.Prelude.{ℕ, Bool, true, false, not, ◌||◌, List, [], ◌∷◌, ◌++◌, Option, Some, None, is_none}
use Rattle.px_tree.specs.declared.Name.{Name}
use Rattle.px_tree.specs.declared.Sign.{Sign}
use Rattle.px_tree.specs.declared.TypeName.{TypeName}
use Rattle.px_tree.specs.declared.Expr.{Expr}
use Rattle.px_tree.specs.declared.ExprForm.{ExprForm, ExprForm-F, out-ExprForm}
use Rattle.px_tree.specs.declared.ExprForm.TheOpen.{ExprForm-F as e}
use Rattle.px_tree.specs.declared.Stmt.{Stmt, Stmt-F, fold-Stmt}
use Rattle.px_tree.specs.declared.StmtForm.{StmtForm, StmtForm-F, fold-StmtForm}
use Rattle.px_tree.specs.declared.StmtForm.TheOpen.{StmtForm-F as st}
use Rattle.px_facts.specs.declared.types.Ty.{Ty}
use Rattle.px_facts.specs.declared.types.Ty.TheVariants.{Unknown, Boolean}
use Rattle.px_types.specs.declared.context.Context.{Context}
use Rattle.px_types.specs.declared.locals.Locals.{Locals}
use Rattle.px_type_rules.specs.Breaches.{Note, breach_if}
use Rattle.px_facts.specs.Types.{is_unknown, is_void, is_number, is_array, is_printable, fits}
use Rattle.px_type_rules.specs.Operators.{group_of, compound_fits}
use Rattle.px_types.specs.Members.{type_of, names_no_class}
use Rattle.px_types.specs.Scopes.{with_local, all_usable, left, local_notes, local_type, or_unknown}
use Rattle.px_types.specs.Database.{Other}
use Rattle.px_types.specs.Expressions.{Typed, misfit, field, typed}

-- what is found in a statement, the locals in scope behind it, and whether it can complete normally (JLS 14.21)
pub record Judged : Type 0 where
  pub notes : List Note
  pub locals : Locals
  pub completes : Bool

-- a statement is judged by whether the one before it can complete, and by the locals in scope
abbrev pub JudgesStmt : Type 0
JudgesStmt = Bool → Locals → Judged

-- and its form by its first token
abbrev pub JudgesStmtForm : Type 0
JudgesStmtForm = ℕ → Locals → Judged

-- a statement that declares nothing and completes
abbrev pub plain : Locals → List Note → Judged
plain locals notes = record { notes = notes; locals = locals; completes = true }

-- a value that has to fit a type, in the statement with this first token
abbrev pub value_notes : ℕ → Ty → Typed → List Note
value_notes token to x = x.notes ++ misfit (fits to x.ty) token

-- a statement behind these notes
abbrev pub behind : List Note → Judged → Judged
behind notes j = record j { notes = notes ++ j.notes }

-- what has been judged
abbrev pub ended : Locals → Bool → Judged
ended locals completes = record { notes = []; locals = locals; completes = completes }

-- ---- blocks

-- the statements of a block, or the rest of them, behind one that can complete or can't
abbrev pub block : Bool → Locals → List JudgesStmt → Judged
block completes locals [] = ended locals completes
block completes locals (j ∷ js) =
    let next = j completes locals in
    behind next.notes (block next.completes next.locals js)

-- the end of a scope
abbrev pub closed : Locals → Judged → Judged
closed outer inner = record inner { locals = left outer inner.locals }

-- ---- declarations and assignments

-- a local is declared before its initialiser is judged, and may be used behind it (JLS 6.3)
abbrev pub local : Context → ℕ → TypeName → Name → Expr → Locals → Judged
local context token ty name value locals =
    let t = type_of context.classes.numbers ty in
    record {
      notes = names_no_class context.classes.numbers ty.base ++ (local_notes name locals ++ value_notes token t (typed context value false (with_local name t locals)));
      locals = all_usable (with_local name t locals);
      completes = true;
    }

abbrev pub unknown_if : Bool → Ty → Ty
unknown_if true t = Unknown
unknown_if false t = t

-- rule 4: an array's `length` isn't assigned (JLS 10.7)
abbrev pub assigned_field : Context → Typed → Name → Typed
assigned_field context of name =
    let f = field context of name in
    record { ty = unknown_if (is_array of.ty) f.ty; notes = f.notes ++ breach_if (is_array of.ty) name.token 4; written = Other }

abbrev pub place_of_form : Context → ExprForm-F ExprForm Expr → Typed → Locals → Typed
place_of_form context (e.Field of name) x locals = assigned_field context (typed context of false locals) name
place_of_form context _ x locals = x

-- what is assigned to
abbrev pub assigned_place : Context → Expr → Locals → Typed
assigned_place context place locals = place_of_form context (out-ExprForm place.form) (typed context place false locals) locals

abbrev pub assign : Context → ℕ → Expr → Expr → Locals → List Note
assign context token place value locals =
    let to = assigned_place context place locals in
    to.notes ++ value_notes token to.ty (typed context value false locals)

-- rule 3: what is changed in place is a local or a parameter
abbrev pub no_local : Name → Option Ty → List Note
no_local name found = breach_if (is_none found) name.token 3

abbrev pub compound : Context → ℕ → Name → Sign → Expr → Locals → List Note
compound context token name sign value locals =
    let to = local_type name.bytes locals in
    let x = typed context value false locals in
    no_local name to ++ (x.notes ++ misfit (compound_fits (group_of sign) (or_unknown to) x.ty) token)

-- `++` and `--` (JLS 15.14)
abbrev pub step : ℕ → Name → Locals → List Note
step token name locals =
    let to = local_type name.bytes locals in
    no_local name to ++ misfit (is_unknown (or_unknown to) || is_number (or_unknown to)) token

-- ---- the rest

abbrev pub condition : Context → ℕ → Expr → Locals → List Note
condition context token test locals = value_notes token Boolean (typed context test false locals)

abbrev pub print : Context → ℕ → Expr → Locals → List Note
print context token value locals =
    let x = typed context value false locals in
    x.notes ++ misfit (is_printable x.ty) token

-- rule 10: `return` has a value exactly where the method isn't void (JLS 14.17)
abbrev pub return_notes : Context → ℕ → Option Expr → Locals → List Note
return_notes context token None locals = breach_if (not (is_void context.result)) token 10
return_notes context token (Some value) locals =
    let x = typed context value false locals in
    x.notes ++ (breach_if (is_void context.result) token 10 ++ misfit (is_void context.result || fits context.result x.ty) token)

abbrev pub returned : Locals → List Note → Judged
returned locals notes = record { notes = notes; locals = locals; completes = false }

-- an `else`, behind a branch that can complete or can't; without one the `if` can
abbrev pub otherwise : Bool → Locals → Option JudgesStmt → Judged
otherwise completes locals None = ended locals true
otherwise completes locals (Some j) =
    let other = j true locals in
    record { notes = other.notes; locals = other.locals; completes = completes || other.completes }

abbrev pub branches : JudgesStmt → Option JudgesStmt → Locals → Judged
branches j other locals =
    let first = j true locals in
    behind first.notes (otherwise first.completes first.locals other)

abbrev pub completing : Judged → Judged
completing j = record j { completes = true }

abbrev pub for_loop : Context → ℕ → JudgesStmt → Expr → JudgesStmt → JudgesStmt → Locals → Judged
for_loop context token first test last body locals =
    let f = first true locals in
    let l = last true f.locals in
    let b = body true l.locals in
    record { notes = f.notes ++ (condition context token test f.locals ++ (l.notes ++ b.notes)); locals = left locals b.locals; completes = true }

-- one level of a statement
abbrev pub judged_step : Context → StmtForm-F JudgesStmtForm JudgesStmt → JudgesStmtForm
judged_step context (st.Block items) token locals = closed locals (block true locals items)
judged_step context st.Empty token locals = plain locals []
judged_step context (st.Local ty name value) token locals = local context token ty name value locals
judged_step context (st.Assign place value) token locals = plain locals (assign context token place value locals)
judged_step context (st.Compound name sign value) token locals = plain locals (compound context token name sign value locals)
judged_step context (st.Up name) token locals = plain locals (step token name locals)
judged_step context (st.Down name) token locals = plain locals (step token name locals)
judged_step context (st.Call x) token locals = plain locals (typed context x false locals).notes
judged_step context (st.If test branch other) token locals = behind (condition context token test locals) (branches branch other locals)
judged_step context (st.While test body) token locals = behind (condition context token test locals) (completing (body true locals))
judged_step context (st.For first test last body) token locals = for_loop context token first test last body locals
judged_step context (st.Return value) token locals = returned locals (return_notes context token value locals)
judged_step context (st.Print value) token locals = plain locals (print context token value locals)

-- rule 8: no statement follows one that can't complete normally (JLS 14.21)
abbrev pub unreached : Bool → ℕ → List Note
unreached reached token = breach_if (not reached) token 8

abbrev pub whole : Stmt-F JudgesStmtForm JudgesStmt → JudgesStmt
whole x reached locals = behind (unreached reached x.token) (x.form x.token locals)

unfoldable pub judged_form : Context → StmtForm → JudgesStmtForm
judged_form context = fold-StmtForm JudgesStmtForm JudgesStmt (judged_step context) whole

unfoldable pub judged : Context → Stmt → JudgesStmt
judged context = fold-Stmt JudgesStmtForm JudgesStmt (judged_step context) whole
