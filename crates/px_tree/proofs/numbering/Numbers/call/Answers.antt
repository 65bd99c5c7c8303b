use Rattle.px_tree.specs.declared.StmtForm.TheVariants.{Call}
use Rattle.px_tree.specs.Numbering.{numbered_expression, numbered_statement_form}
use Rattle.px_tree.proofs.Numbers.{of_call_statement, one_part}
use Rattle.px_tree.proofs.numbering.Numbers.call.Goals as goal

pub returns : goal.returns
returns c =
    one_part (numbered_statement_form (Call c.args.call)) (numbered_expression c.args.call) (λ x. Call x) c.args.self.now.next _ _ (of_call_statement c.args.call) c.in_ok-call.ensures
