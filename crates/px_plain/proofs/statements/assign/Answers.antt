use Rattle.px_plain.proofs.Steps.{same_end}
use Rattle.px_plain.proofs.Runs.{put_name_is, put_field_is, put_index_is, put_other_is}
use Rattle.px_plain.proofs.statements.assign.Goals as goal

pub returns-in-Name-clause-ends : goal.returns-in-Name-clause-ends
returns-in-Name-clause-ends g c = same_end _ _ _ _ (put_name_is c.args.around.now c.args.place.now _ _ _ _ c.in-Name.is) c.put_name.ensures.ends

pub returns-in-Field-clause-ends : goal.returns-in-Field-clause-ends
returns-in-Field-clause-ends g c =
    same_end _ _ _ _ (put_field_is c.args.around.now c.args.place.now _ _ _ _ _ _ c.in-Field.is c.get.ensures) c.put_field.ensures.ends

pub returns-in-Index-clause-ends : goal.returns-in-Index-clause-ends
returns-in-Index-clause-ends g c =
    same_end _ _ _ _ (put_index_is c.args.around.now c.args.place.now _ _ _ _ _ _ _ c.in-Index.is c.get-in-Index.ensures c.get-in-Index-2.ensures) c.put_element.ensures.ends

pub returns-in_default-clause-ends : goal.returns-in_default-clause-ends
returns-in_default-clause-ends g c = put_other_is c.args.around.now c.args.place.now _ _ _ c.in_default.not-Name c.in_default.not-Field c.in_default.not-Index
