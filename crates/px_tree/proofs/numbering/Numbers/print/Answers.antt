use Rattle.px_tree.specs.declared.StmtForm.TheVariants.{Print}
use Rattle.px_tree.specs.Numbering.{numbered_expression, numbered_statement_form}
use Rattle.px_tree.proofs.Numbers.{of_print, one_part}
use Rattle.px_tree.proofs.numbering.Numbers.print.Goals as goal

pub returns : goal.returns
returns c =
    one_part (numbered_statement_form (Print c.args.value)) (numbered_expression c.args.value) (λ x. Print x) c.args.self.now.next _ _ (of_print c.args.value) c.in_ok-value.ensures
