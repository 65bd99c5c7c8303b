use Rattle.px_tree.specs.declared.StmtForm.TheVariants.{Assign}
use Rattle.px_tree.specs.Numbering.{numbered_expression, numbered_statement_form}
use Rattle.px_tree.proofs.Numbers.{of_assign, two_parts}
use Rattle.px_tree.proofs.numbering.Numbers.assign.Goals as goal

pub returns : goal.returns
returns c =
    two_parts (numbered_statement_form (Assign c.args.place c.args.value)) (numbered_expression c.args.place) (numbered_expression c.args.value) (λ x y. Assign x y) c.args.self.now.next _ _ _ _ (of_assign c.args.place c.args.value) c.in_ok-place.ensures c.in_ok-value.ensures
