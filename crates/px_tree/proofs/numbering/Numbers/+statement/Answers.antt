use Rattle.std.proofs.Common.{map, ap, ◌∙◌, arith}
use Rattle.px_tree.specs.declared.StmtForm.TheVariants.{Block, Local, Assign, Compound, Call, If, While, For, Return, Print}
use Rattle.px_tree.specs.Numbering.{in_order, numbered_statement, numbered_statement_form}
use Rattle.px_tree.proofs.Sizes.{total, statement_size, statement_size_of_form, statement_size_of_its_form, block_size, if_size, while_size, for_size, total_reverse, total_last}
use Rattle.px_tree.proofs.Numbers.{of_block, of_empty, of_up, of_down, no_part, one_part, if_numbered, while_numbered, for_numbered, statement_numbered, same_form, joined_start, joined_turn}
use Rattle.px_tree.proofs.numbering.Numbers.+statement.Goals as goal

pub items-loop-item-init : goal.items-loop-item-init
items-loop-item-init t c =
    record {
      order = joined_start numbered_statement c.args.items c.in_ok-left.left c.new-numbered.result c.args.self.now.next c.in_ok-left.ensures c.new-numbered.ensures;
      small = let e = ap (λ xs. total (map statement_size xs)) c.in_ok-left.ensures ∙ total_reverse statement_size c.args.items in omega (arith, e);
    }

pub items-statement-requires : goal.items-statement-requires
items-statement-requires t c =
    let last = total_last statement_size c.loop-item.left c.pop.new.self c.in-Some.item c.in-Some.ensures in
    (omega (arith, last, c.loop-item.invariant.small, c.decreases), tt)

pub items-loop-item-preserved : goal.items-loop-item-preserved
items-loop-item-preserved t c =
    let last = total_last statement_size c.loop-item.left c.pop.new.self c.in-Some.item c.in-Some.ensures in
    record {
      order = c.loop-item.invariant.order
          ∙ joined_turn numbered_statement c.loop-item.left c.pop.new.self c.loop-item.numbered c.push.new.self c.in-Some.item c.in_ok-statement.field-0 c.loop-item.self.next c.statement.new.self.next c.in-Some.ensures c.in_ok-statement.ensures c.in_ok-push.ensures.ok;
      small = omega (arith, last, c.loop-item.invariant.small);
    }

pub statement-statement_form-form-requires : goal.statement-statement_form-form-requires
statement-statement_form-form-requires t c = let e = statement_size_of_its_form c.args.s in (omega (arith, e, c.decreases), tt)

pub statement-returns : goal.statement-returns
statement-returns t c =
    statement_numbered c.args.s c.args.self.now.next c.fresh-id.new.self.next c.statement_form-form.new.self.next c.fresh-id.result c.statement_form-form.result c.statement_of.result c.fresh-id.ensures.number c.fresh-id.ensures.next c.statement_form-form.ensures c.statement_of.ensures

pub statement_form-returns-in-Empty : goal.statement_form-returns-in-Empty
statement_form-returns-in-Empty t c = no_part (numbered_statement_form c.args.form) _ c.args.self.now.next (ap numbered_statement_form c.in-Empty.is ∙ of_empty)

pub statement_form-returns-in-Up : goal.statement_form-returns-in-Up
statement_form-returns-in-Up t c = no_part (numbered_statement_form c.args.form) _ c.args.self.now.next (ap numbered_statement_form c.in-Up.is ∙ of_up c.in-Up.name)

pub statement_form-returns-in-Down : goal.statement_form-returns-in-Down
statement_form-returns-in-Down t c = no_part (numbered_statement_form c.args.form) _ c.args.self.now.next (ap numbered_statement_form c.in-Down.is ∙ of_down c.in-Down.name)

pub statement_form-block-requires : goal.statement_form-block-requires
statement_form-block-requires t c = let e = ap statement_size_of_form c.in-Block.is ∙ block_size c.in-Block.items in (omega (arith, e, c.decreases), tt)

pub statement_form-returns-in-Block : goal.statement_form-returns-in-Block
statement_form-returns-in-Block t c = same_form c.args.form (Block c.in-Block.items) c.block.result c.args.self.now.next c.block.new.self.next c.in-Block.is c.block.ensures

pub statement_form-returns-in-Local : goal.statement_form-returns-in-Local
statement_form-returns-in-Local t c = same_form c.args.form (Local c.in-Local.ty c.in-Local.name c.in-Local.value) c.local.result c.args.self.now.next c.local.new.self.next c.in-Local.is c.local.ensures

pub statement_form-returns-in-Assign : goal.statement_form-returns-in-Assign
statement_form-returns-in-Assign t c = same_form c.args.form (Assign c.in-Assign.place c.in-Assign.value) c.assign.result c.args.self.now.next c.assign.new.self.next c.in-Assign.is c.assign.ensures

pub statement_form-returns-in-Compound : goal.statement_form-returns-in-Compound
statement_form-returns-in-Compound t c = same_form c.args.form (Compound c.in-Compound.name c.in-Compound.sign c.in-Compound.value) c.compound.result c.args.self.now.next c.compound.new.self.next c.in-Compound.is c.compound.ensures

pub statement_form-returns-in-Call : goal.statement_form-returns-in-Call
statement_form-returns-in-Call t c = same_form c.args.form (Call c.in-Call.call) c.call.result c.args.self.now.next c.call.new.self.next c.in-Call.is c.call.ensures

pub statement_form-while_loop-requires : goal.statement_form-while_loop-requires
statement_form-while_loop-requires t c = let e = ap statement_size_of_form c.in-While.is ∙ while_size c.in-While.test c.in-While.body in (omega (arith, e, c.decreases), tt)

pub statement_form-returns-in-While : goal.statement_form-returns-in-While
statement_form-returns-in-While t c = same_form c.args.form (While c.in-While.test c.in-While.body) c.while_loop.result c.args.self.now.next c.while_loop.new.self.next c.in-While.is c.while_loop.ensures

pub statement_form-returns-in-Return : goal.statement_form-returns-in-Return
statement_form-returns-in-Return t c = same_form c.args.form (Return c.in-Return.value) c.return_of.result c.args.self.now.next c.return_of.new.self.next c.in-Return.is c.return_of.ensures

pub statement_form-returns-in-Print : goal.statement_form-returns-in-Print
statement_form-returns-in-Print t c = same_form c.args.form (Print c.in-Print.value) c.print.result c.args.self.now.next c.print.new.self.next c.in-Print.is c.print.ensures

pub statement_form-conditional-requires : goal.statement_form-conditional-requires
statement_form-conditional-requires t c = let e = ap statement_size_of_form c.in-If.is ∙ if_size c.in-If.test c.in-If.yes c.in-If.no in (omega (arith, e, c.decreases), tt)

pub statement_form-returns-in-If : goal.statement_form-returns-in-If
statement_form-returns-in-If t c = same_form c.args.form (If c.in-If.test c.in-If.yes c.in-If.no) c.conditional.result c.args.self.now.next c.conditional.new.self.next c.in-If.is c.conditional.ensures

pub statement_form-for_loop-requires : goal.statement_form-for_loop-requires
statement_form-for_loop-requires t c = let e = ap statement_size_of_form c.in-For.is ∙ for_size c.in-For.first c.in-For.test c.in-For.last c.in-For.body in (omega (arith, e, c.decreases), tt)

pub statement_form-returns-in-For : goal.statement_form-returns-in-For
statement_form-returns-in-For t c = same_form c.args.form (For c.in-For.first c.in-For.test c.in-For.last c.in-For.body) c.for_loop.result c.args.self.now.next c.for_loop.new.self.next c.in-For.is c.for_loop.ensures

pub block-returns : goal.block-returns
block-returns t c =
    one_part (numbered_statement_form (Block c.args.items)) (in_order (map numbered_statement c.args.items)) (λ x. Block x) c.args.self.now.next _ _ (of_block c.args.items) c.in_ok-items.ensures

pub while_loop-returns : goal.while_loop-returns
while_loop-returns t c =
    while_numbered c.args.test c.args.body c.args.self.now.next c.expression-test.new.self.next c.boxed_statement-body.new.self.next c.expression-test.result c.boxed_statement-body.result c.while_of.result c.expression-test.ensures c.boxed_statement-body.ensures c.while_of.ensures

pub conditional-returns : goal.conditional-returns
conditional-returns t c =
    if_numbered c.args.test c.args.yes c.args.no c.args.self.now.next c.expression-test.new.self.next c.boxed_statement-yes.new.self.next c.else_part-no.new.self.next c.expression-test.result c.boxed_statement-yes.result c.else_part-no.result c.if_of.result
    c.expression-test.ensures c.boxed_statement-yes.ensures c.else_part-no.ensures c.if_of.ensures

pub for_loop-returns : goal.for_loop-returns
for_loop-returns t c =
    for_numbered c.args.first c.args.test c.args.last c.args.body c.args.self.now.next c.boxed_statement-first.new.self.next c.expression-test.new.self.next c.boxed_statement-last.new.self.next c.boxed_statement-body.new.self.next
    c.boxed_statement-first.result c.expression-test.result c.boxed_statement-last.result c.boxed_statement-body.result c.for_of.result c.boxed_statement-first.ensures c.expression-test.ensures c.boxed_statement-last.ensures c.boxed_statement-body.ensures c.for_of.ensures
