use Rattle.px_tree.specs.declared.StmtForm.TheVariants.{Return}
use Rattle.px_tree.specs.Numbering.{number_returned, numbered_statement_form}
use Rattle.px_tree.proofs.Numbers.{of_return, one_part}
use Rattle.px_tree.proofs.numbering.Numbers.return_of.Goals as goal

pub returns : goal.returns
returns c =
    one_part (numbered_statement_form (Return c.args.value)) (number_returned c.args.value) (λ x. Return x) c.args.self.now.next _ _ (of_return c.args.value) c.in_ok-value.ensures
