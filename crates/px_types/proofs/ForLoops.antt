-- The parts of a `for`, one after the other.
use Rattle.std.proofs.Common.{◌≡◌, ℕ, ◌++◌, true, ap, ◌∙◌}
use Rattle.px_tree.specs.declared.Expr.{Expr}
use Rattle.px_types.specs.declared.context.Context.{Context}
use Rattle.px_types.specs.declared.locals.Locals.{Locals}
use Rattle.px_type_rules.specs.declared.report.Report.{Report}
use Rattle.px_type_rules.specs.Breaches.{after}
use Rattle.px_types.specs.Scopes.{left}
use Rattle.px_types.specs.Statements.{JudgesStmt, condition, for_loop}
use Rattle.px_types.proofs.Notes.{and_then}

-- first, last and body are judged in turn, each behind the locals of the one before it
pub for_notes : (c : Context) (t : ℕ) (first last body : JudgesStmt) (test : Expr) (l0 l1 l2 : Locals) (r0 r1 r2 r3 r4 : Report)
    → l1 ≡ (first true l0).locals → r1 ≡ after r0 (first true l0).notes → r2 ≡ after r1 (condition c t test l1)
    → l2 ≡ (last true l1).locals → r3 ≡ after r2 (last true l1).notes → r4 ≡ after r3 (body true l2).notes
    → r4 ≡ after r0 (for_loop c t first test last body l0).notes
for_notes c t first last body test l0 l1 l2 r0 r1 r2 r3 r4 e1 n1 n2 e2 n3 n4 =
    let f = first true l0 in
    let b = (body true l2).notes in
    and_then r0 r1 r4 f.notes (condition c t test l1 ++ ((last true l1).notes ++ b)) n1
    (and_then r1 r2 r4 (condition c t test l1) ((last true l1).notes ++ b) n2
    (and_then r2 r3 r4 (last true l1).notes b n3 n4))
    ∙ (λ i. after r0 (f.notes ++ (condition c t test l1 ++ ((last true l1).notes ++ (body true (e2 i)).notes))))
    ∙ (λ i. after r0 (f.notes ++ (condition c t test (e1 i) ++ ((last true (e1 i)).notes ++ (body true (last true (e1 i)).locals).notes))))

pub for_locals : (c : Context) (t : ℕ) (first last body : JudgesStmt) (test : Expr) (l0 l1 l2 l3 : Locals)
    → l1 ≡ (first true l0).locals → l2 ≡ (last true l1).locals → l3 ≡ (body true l2).locals
    → left l0 l3 ≡ (for_loop c t first test last body l0).locals
for_locals c t first last body test l0 l1 l2 l3 e1 e2 e3 =
    ap (left l0) e3
    ∙ (λ i. left l0 (body true (e2 i)).locals)
    ∙ (λ i. left l0 (body true (last true (e1 i)).locals).locals)
