use Rattle.px_tree.specs.declared.StmtForm.TheVariants.{Compound}
use Rattle.px_tree.specs.Numbering.{numbered_expression, numbered_statement_form}
use Rattle.px_tree.proofs.Numbers.{of_compound, one_part}
use Rattle.px_tree.proofs.numbering.Numbers.compound.Goals as goal

pub returns : goal.returns
returns c =
    one_part (numbered_statement_form (Compound c.args.name c.args.sign c.args.value)) (numbered_expression c.args.value) (λ x. Compound c.args.name c.args.sign x) c.args.self.now.next _ _ (of_compound c.args.name c.args.sign c.args.value) c.in_ok-value.ensures
