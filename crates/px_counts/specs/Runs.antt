-- The meaning of a program with its marks: each part by the one meaning of px_mean, between its marks.
use Rattle.std.specs.Prelude.{ℕ, zero, suc, List, [], ◌∷◌, Option, Some, None}
use Rattle.px_value.specs.declared.value.Value.{Value}
use Rattle.px_value.specs.declared.value.Value.TheVariants.{Ref}
use Rattle.px_value.specs.declared.object.Object.{Object}
use Rattle.px_value.specs.declared.thrown.Thrown.TheVariants.{StackOverflowError}
unfoldable pub use Rattle.px_value.specs.Limits.{all_frames}
use Rattle.px_value.specs.Outcome.{Outcome, ◌>>=◌, pure, throw, Flow, Goes, Returns}
use Rattle.px_tree.specs.declared.Expr.{Expr, fold-Expr}
use Rattle.px_tree.specs.declared.Stmt.{Stmt, fold-Stmt}
use Rattle.px_tree.specs.declared.Method.{Method}
use Rattle.px_facts.specs.declared.types.Ty.{Ty}
use Rattle.px_facts.specs.declared.checked.MethodFact.{MethodFact}
use Rattle.px_effects.specs.Run.{Shared, There, Ask}
use Rattle.px_mean.specs.Facts.{by_number}
use Rattle.px_mean.specs.Expressions.{Around, Calls, Meant, expr_step, numbered}
use Rattle.px_mean.specs.Statements.{Does, stmt_step, numbered_statement}
use Rattle.px_mean.specs.Calls.{Source, first_slots, leaves_frame}
use Rattle.px_counts.specs.Marks.{Begun, Completed, Entered, ReachedEnd, Marked, marked_ask, mark, mark_here}

-- An expression is begun, and where it gives a value it completed. A place that is assigned to isn't evaluated.
abbrev pub marked_meant : {Q W : Type 0} → ℕ → Meant Q (Marked W) → Meant Q (Marked W)
marked_meant id m = record {
  ty = m.ty;
  run = mark_here (Begun id) >>= (λ u. m.run >>= (λ v. mark_here (Completed id) >>= (λ u. pure v)));
  put = m.put;
}

unfoldable pub meant_with_marks : {Q W : Type 0} → Around Q (Marked W) → Expr → Meant Q (Marked W)
meant_with_marks {Q} {W} P = fold-Expr (ℕ → Meant Q (Marked W)) (Meant Q (Marked W)) (λ form id. marked_meant id (expr_step P form id)) numbered

-- a statement that returns doesn't complete normally
abbrev pub completed : {Q W : Type 0} → ℕ → Flow Value → Does Q (Marked W)
completed id Goes = mark_here (Completed id) >>= (λ u. pure Goes)
completed id (Returns v) = pure (Returns v)

abbrev pub marked_does : {Q W : Type 0} → ℕ → Does Q (Marked W) → Does Q (Marked W)
marked_does id r = mark_here (Begun id) >>= (λ u. r >>= completed id)

unfoldable pub done_with_marks : {Q W : Type 0} → Around Q (Marked W) → Ty → Stmt → Does Q (Marked W)
done_with_marks {Q} {W} P result = fold-Stmt (ℕ → Does Q (Marked W)) (Does Q (Marked W)) (λ form id. marked_does id (stmt_step P.facts (meant_with_marks P) result form id)) numbered_statement

-- ---- methods

abbrev pub reached : {Q W : Type 0} → ℕ → Flow Value → Does Q (Marked W)
reached method Goes = mark_here (ReachedEnd method) >>= (λ u. pure Goes)
reached method (Returns v) = pure (Returns v)

abbrev pub enters_with_marks : {Q W : Type 0} → Around Q (Marked W) → ℕ → Option Method → Option MethodFact → List Value → There Q (Marked W) (Option Value)
enters_with_marks P number (Some method) (Some fact) values =
    mark (Entered number) >>= (λ u s. leaves_frame ((done_with_marks P fact.result method.body >>= reached number) (record { locals = first_slots fact.slots values; shared = s })))
enters_with_marks P number _ _ values = pure None

unfoldable pub calls_with_marks : {Q W : Type 0} → Ask Q W → Source → ℕ → Calls Q (Marked W)
calls_with_marks ask P zero method values = throw StackOverflowError
calls_with_marks ask P (suc n) method values =
    enters_with_marks (record { facts = P.facts; ask = marked_ask ask; calls = calls_with_marks ask P n }) method (by_number P.methods method) (by_number P.facts.methods method) values

-- the run of a method as an entry
abbrev pub exec_with_marks : {Q W : Type 0} → Ask Q W → Source → List Object → W → ℕ → List Value → Outcome Q (Shared (Marked W)) (Option Value)
exec_with_marks ask P heap world method args =
    calls_with_marks ask P all_frames method (Ref 0 ∷ args) (record { heap = heap; world = record { world = world; marks = [] }; prints = []; turns = 0; operations = 0 })
