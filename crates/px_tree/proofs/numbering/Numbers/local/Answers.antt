use Rattle.px_tree.specs.declared.StmtForm.TheVariants.{Local}
use Rattle.px_tree.specs.Numbering.{numbered_expression, numbered_statement_form}
use Rattle.px_tree.proofs.Numbers.{of_local, one_part}
use Rattle.px_tree.proofs.numbering.Numbers.local.Goals as goal

pub returns : goal.returns
returns c =
    one_part (numbered_statement_form (Local c.args.ty c.args.name c.args.value)) (numbered_expression c.args.value) (λ x. Local c.args.ty c.args.name x) c.args.self.now.next _ _ (of_local c.args.ty c.args.name c.args.value) c.in_ok-value.ensures
