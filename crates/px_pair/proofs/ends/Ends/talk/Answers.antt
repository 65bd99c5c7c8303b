use Rattle.std.proofs.Common.{sym, ◌∙◌, arith}
use Rattle.px_pair.proofs.Running.{welcome}
use Rattle.px_pair.proofs.Going.{Over, goes, goes_over, fell, done, crossed, fewer_over}
use Rattle.px_pair.proofs.ends.Ends.talk.Goals as goal

pub loop-self-smaller-in-Next : goal.loop-self-smaller-in-Next
loop-self-smaller-in-Next c = (goes c.args.self.now c.loop-self.self c.run_block.new.self c.loop-self.invariant (record { is = c.in_ok-run_block.ensures.after; same = c.run_block.ensures.same }) (sym c.in_ok-run_block.ensures.answer ∙ c.in-Next.is)).less

pub loop-self-preserved-in-Next : goal.loop-self-preserved-in-Next
loop-self-preserved-in-Next c = (goes c.args.self.now c.loop-self.self c.run_block.new.self c.loop-self.invariant (record { is = c.in_ok-run_block.ensures.after; same = c.run_block.ensures.same }) (sym c.in_ok-run_block.ensures.answer ∙ c.in-Next.is)).going

pub cross-requires-clause-tellable : goal.cross-requires-clause-tellable
cross-requires-clause-tellable c =
    let o : Over c.args.self.now c.loop-self.self c.run_block.new.self = goes_over c.args.self.now c.loop-self.self c.run_block.new.self c.loop-self.invariant (record { is = c.in_ok-run_block.ensures.after; same = c.run_block.ensures.same }) (sym c.in_ok-run_block.ensures.answer ∙ c.in-Cross.is) in
    o.over.going.running.near_tellable

pub cross-requires-clause-welcome : goal.cross-requires-clause-welcome
cross-requires-clause-welcome c =
    let o : Over c.args.self.now c.loop-self.self c.run_block.new.self = goes_over c.args.self.now c.loop-self.self c.run_block.new.self c.loop-self.invariant (record { is = c.in_ok-run_block.ensures.after; same = c.run_block.ensures.same }) (sym c.in_ok-run_block.ensures.answer ∙ c.in-Cross.is) in
    welcome _ _ _ _ _ o.over.going.running o.over.elsewhere_is

pub loop-self-smaller : goal.loop-self-smaller
loop-self-smaller c =
    let o : Over c.args.self.now c.loop-self.self c.run_block.new.self = goes_over c.args.self.now c.loop-self.self c.run_block.new.self c.loop-self.invariant (record { is = c.in_ok-run_block.ensures.after; same = c.run_block.ensures.same }) (sym c.in_ok-run_block.ensures.answer ∙ c.in-Cross.is) in
    let less = fewer_over _ _ _ o.over c.in_ok-cross-in-Cross.ensures.crossed c.cross.ensures.same in
    let most = o.less in
    omega (arith, less, most)

pub loop-self-preserved : goal.loop-self-preserved
loop-self-preserved c =
    let o : Over c.args.self.now c.loop-self.self c.run_block.new.self = goes_over c.args.self.now c.loop-self.self c.run_block.new.self c.loop-self.invariant (record { is = c.in_ok-run_block.ensures.after; same = c.run_block.ensures.same }) (sym c.in_ok-run_block.ensures.answer ∙ c.in-Cross.is) in
    crossed _ _ _ o.over c.in_ok-cross-in-Cross.ensures.crossed c.cross.ensures.same

pub returns-in-Threw-clause-talked : goal.returns-in-Threw-clause-talked
returns-in-Threw-clause-talked c = fell c.args.self.now c.loop-self.self c.run_block.new.self c.loop-self.invariant (record { is = c.in_ok-run_block.ensures.after; same = c.run_block.ensures.same }) _ (sym c.in_ok-run_block.ensures.answer ∙ c.in-Threw.is)

pub returns-in-Done-clause-talked : goal.returns-in-Done-clause-talked
returns-in-Done-clause-talked c = (done c.args.self.now c.loop-self.self c.run_block.new.self c.loop-self.invariant (record { is = c.in_ok-run_block.ensures.after; same = c.run_block.ensures.same }) (sym c.in_ok-run_block.ensures.answer ∙ c.in-Done.is)).talked
