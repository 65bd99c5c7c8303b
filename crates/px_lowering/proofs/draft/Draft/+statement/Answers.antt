use Rattle.std.proofs.Common.{ap}
use Rattle.px_lowering.specs.Statements.{Steps}
use Rattle.px_lowering.proofs.StmtForms.{low_if, low_while, low_for}
use Rattle.px_lowering.proofs.Handed.{handed_out}
use Rattle.px_lowering.proofs.draft.Draft.+statement.Goals as goal

pub statement-returns-in-If : goal.statement-returns-in-If
statement-returns-in-If t c = handed_out _ _ _ _ (ap (λ (l : Steps). l c.args.self.now) (low_if c.args.checked.now c.args.gives c.args.s.now _ _ _ _ c.in-If.is c.get.ensures)) c.if_statement.ensures

pub statement-returns-in-While : goal.statement-returns-in-While
statement-returns-in-While t c = handed_out _ _ _ _ (ap (λ (l : Steps). l c.args.self.now) (low_while c.args.checked.now c.args.gives c.args.s.now _ _ _ c.in-While.is c.get-in-While.ensures)) c.while_loop.ensures

pub statement-returns-in-For : goal.statement-returns-in-For
statement-returns-in-For t c = handed_out _ _ _ _ (ap (λ (l : Steps). l c.args.self.now) (low_for c.args.checked.now c.args.gives c.args.s.now _ _ _ _ _ _ _ c.in-For.is c.get-in-For.ensures c.get-in-For-2.ensures c.get-in-For-3.ensures)) c.for_loop.ensures
