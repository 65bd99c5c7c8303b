use Rattle.std.proofs.Common.{ap, sym, ◌∙◌, List, Bool, option_map, if◌then◌else◌, map, refl, arith}
use Rattle.std.specs.Option.{option_copied}
use Rattle.px_tree.specs.declared.Stmt.{Stmt}
use Rattle.px_value.specs.Outcome.{then_run, goes_on, in_order}
use Rattle.px_mean.specs.Statements.{loop, all_turns, or_goes}
use Rattle.px_plain.specs.declared.stop.Next.{Next}
use Rattle.px_plain.specs.Parts.{round, then_last}
use Rattle.px_plain.proofs.Loops.{loop_is, has_more, again_false, again_true, chosen_is, round_is}
use Rattle.px_plain.specs.View.{Here, frame, says, does, flow_of}
use Rattle.px_plain.proofs.Steps.{exits_flow, gives_then, same_flow}
use Rattle.px_plain.proofs.Does.{does_block, does_empty, does_local, does_assign, does_compound, does_up, does_down, does_call, does_if, does_while, does_for, does_return, does_print}
use Rattle.px_plain.proofs.statements.+exec.Goals as goal

pub exec-returns-in-Empty-clause-ends : goal.exec-returns-in-Empty-clause-ends
exec-returns-in-Empty-clause-ends g t c = does_empty c.args.around.now c.args.s.now _ c.in-Empty.is

pub exec-returns-in-Block-clause-ends : goal.exec-returns-in-Block-clause-ends
exec-returns-in-Block-clause-ends g t c =
    same_flow _ _ _ _ (does_block c.args.around.now c.args.s.now _ _ c.in-Block.is ∙ ap (λ (xs : List Stmt). in_order (map (does c.args.around.now) xs) (frame c.args.slots.now c.args.m.now)) (sym c.as_slice.ensures)) c.exec_all.ensures.ends

pub exec-returns-in-Return-clause-ends : goal.exec-returns-in-Return-clause-ends
exec-returns-in-Return-clause-ends g t c = same_flow _ _ _ _ (does_return c.args.around.now c.args.s.now _ _ c.in-Return.is) c.returned.ensures.ends

pub exec-returns-in_err-declare-in-Local-clause-ends : goal.exec-returns-in_err-declare-in-Local-clause-ends
exec-returns-in_err-declare-in-Local-clause-ends g t c =
    exits_flow _ _ _ _ _ _ c.from_residual.ensures.1 c.in_err-declare-in-Local.ensures.ends (does_local c.args.around.now c.args.s.now _ _ _ _ c.in-Local.is)

pub exec-returns-in_ok-declare-in-Local-clause-ends : goal.exec-returns-in_ok-declare-in-Local-clause-ends
exec-returns-in_ok-declare-in-Local-clause-ends g t c =
    does_local c.args.around.now c.args.s.now _ _ _ _ c.in-Local.is ∙ gives_then _ _ _ _ c.in_ok-declare-in-Local.ensures.ends

pub exec-returns-in_err-assign-in-Assign-clause-ends : goal.exec-returns-in_err-assign-in-Assign-clause-ends
exec-returns-in_err-assign-in-Assign-clause-ends g t c =
    exits_flow _ _ _ _ _ _ c.from_residual-in_err-assign-in-Assign.ensures.1 c.in_err-assign-in-Assign.ensures.ends (does_assign c.args.around.now c.args.s.now _ _ _ c.in-Assign.is)

pub exec-returns-in_ok-assign-in-Assign-clause-ends : goal.exec-returns-in_ok-assign-in-Assign-clause-ends
exec-returns-in_ok-assign-in-Assign-clause-ends g t c =
    does_assign c.args.around.now c.args.s.now _ _ _ c.in-Assign.is ∙ gives_then _ _ _ _ c.in_ok-assign-in-Assign.ensures.ends

pub exec-returns-in_err-compound-in-Compound-clause-ends : goal.exec-returns-in_err-compound-in-Compound-clause-ends
exec-returns-in_err-compound-in-Compound-clause-ends g t c =
    exits_flow _ _ _ _ _ _ c.from_residual-in_err-compound-in-Compound.ensures.1 c.in_err-compound-in-Compound.ensures.ends (does_compound c.args.around.now c.args.s.now _ _ _ _ c.in-Compound.is)

pub exec-returns-in_ok-compound-in-Compound-clause-ends : goal.exec-returns-in_ok-compound-in-Compound-clause-ends
exec-returns-in_ok-compound-in-Compound-clause-ends g t c =
    does_compound c.args.around.now c.args.s.now _ _ _ _ c.in-Compound.is ∙ gives_then _ _ _ _ c.in_ok-compound-in-Compound.ensures.ends

pub exec-returns-in_err-step-in-Up-clause-ends : goal.exec-returns-in_err-step-in-Up-clause-ends
exec-returns-in_err-step-in-Up-clause-ends g t c =
    exits_flow _ _ _ _ _ _ c.from_residual-in_err-step-in-Up.ensures.1 c.in_err-step-in-Up.ensures (does_up c.args.around.now c.args.s.now _ _ c.in-Up.is)

pub exec-returns-in_ok-step-in-Up-clause-ends : goal.exec-returns-in_ok-step-in-Up-clause-ends
exec-returns-in_ok-step-in-Up-clause-ends g t c =
    does_up c.args.around.now c.args.s.now _ _ c.in-Up.is ∙ gives_then _ _ _ _ c.in_ok-step-in-Up.ensures

pub exec-returns-in_err-step-in-Down-clause-ends : goal.exec-returns-in_err-step-in-Down-clause-ends
exec-returns-in_err-step-in-Down-clause-ends g t c =
    exits_flow _ _ _ _ _ _ c.from_residual-in_err-step-in-Down.ensures.1 c.in_err-step-in-Down.ensures (does_down c.args.around.now c.args.s.now _ _ c.in-Down.is)

pub exec-returns-in_ok-step-in-Down-clause-ends : goal.exec-returns-in_ok-step-in-Down-clause-ends
exec-returns-in_ok-step-in-Down-clause-ends g t c =
    does_down c.args.around.now c.args.s.now _ _ c.in-Down.is ∙ gives_then _ _ _ _ c.in_ok-step-in-Down.ensures

pub exec-returns-in_err-print-in-Print-clause-ends : goal.exec-returns-in_err-print-in-Print-clause-ends
exec-returns-in_err-print-in-Print-clause-ends g t c =
    exits_flow _ _ _ _ _ _ c.from_residual-in_err-print-in-Print.ensures.1 c.in_err-print-in-Print.ensures.ends (does_print c.args.around.now c.args.s.now _ _ c.in-Print.is)

pub exec-returns-in_ok-print-in-Print-clause-ends : goal.exec-returns-in_ok-print-in-Print-clause-ends
exec-returns-in_ok-print-in-Print-clause-ends g t c =
    does_print c.args.around.now c.args.s.now _ _ c.in-Print.is ∙ gives_then _ _ _ _ c.in_ok-print-in-Print.ensures.ends

pub exec-returns-in-Call-clause-ends : goal.exec-returns-in-Call-clause-ends
exec-returns-in-Call-clause-ends g t c = same_flow _ _ _ _ (does_call c.args.around.now c.args.s.now _ _ c.in-Call.is) c.evaluated.ensures.ends

pub exec-returns-in-If-clause-ends : goal.exec-returns-in-If-clause-ends
exec-returns-in-If-clause-ends g t c = same_flow _ _ _ _ (does_if c.args.around.now c.args.s.now _ _ _ _ _ c.in-If.is c.get.ensures) c.exec_if.ensures.ends

pub exec_if-returns-in_err-holds-clause-ends : goal.exec_if-returns-in_err-holds-clause-ends
exec_if-returns-in_err-holds-clause-ends g t c =
    exits_flow _ _ _ _ _ _ c.from_residual.ensures.1 c.in_err-holds.ensures.ends (chosen_is c.args.around.now c.args.test.now c.args.yes.now c.args.no.now _)

pub exec_if-returns-then-branch-clause-ends : goal.exec_if-returns-then-branch-clause-ends
exec_if-returns-then-branch-clause-ends g t c =
    let far : Here = frame c.args.slots.now c.holds.new.m in
    same_flow _ _ _ _
    (chosen_is c.args.around.now c.args.test.now c.args.yes.now c.args.no.now _ ∙ gives_then _ _ _ _ c.in_ok-holds.ensures.ends
    ∙ ap (λ (b : Bool). (if b then does c.args.around.now c.args.yes.now else or_goes (option_map (does c.args.around.now) c.args.no.now)) far) c.if-branch.true)
    c.exec.ensures.ends

pub exec_if-returns-clause-ends : goal.exec_if-returns-clause-ends
exec_if-returns-clause-ends g t c =
    let far : Here = frame c.args.slots.now c.holds.new.m in
    same_flow _ _ _ _
    (chosen_is c.args.around.now c.args.test.now c.args.yes.now c.args.no.now _ ∙ gives_then _ _ _ _ c.in_ok-holds.ensures.ends
    ∙ ap (λ (b : Bool). (if b then does c.args.around.now c.args.yes.now else or_goes (option_map (does c.args.around.now) c.args.no.now)) far) c.if-branch.false)
    c.exec_else.ensures.ends

pub exec-returns-in-While-clause-ends : goal.exec-returns-in-While-clause-ends
exec-returns-in-While-clause-ends g t c = same_flow _ _ _ _ (does_while c.args.around.now c.args.s.now _ _ _ _ c.in-While.is c.get-in-While.ensures) c.exec_loop.ensures.ends

pub exec-returns-in-For-clause-ends : goal.exec-returns-in-For-clause-ends
exec-returns-in-For-clause-ends g t c =
    same_flow _ _ _ _ (does_for c.args.around.now c.args.s.now _ _ _ _ _ _ _ _ c.in-For.is c.get-in-For.ensures c.get-in-For-3.ensures c.get-in-For-2.ensures) c.exec_loop-in-For.ensures.ends

-- ---- loops

pub exec_loop-loop-value-init : goal.exec_loop-loop-value-init
unfolding all_turns
exec_loop-loop-value-init g t c = record { left = (all_turns, omega arith, refl); small = omega arith; kept = refl; turns = omega arith }

pub exec_loop-returns-in_err-exec_last-clause-ends : goal.exec_loop-returns-in_err-exec_last-clause-ends
exec_loop-returns-in_err-exec_last-clause-ends g t c =
    let a = c.args.around.now in
    let i = c.loop-value.invariant.left in
    exits_flow _ _ _ _ _ _ c.from_residual.ensures.1 c.in_err-exec_last.ensures.ends i.2

pub exec_loop-returns-in-Returns-clause-ends : goal.exec_loop-returns-in-Returns-clause-ends
exec_loop-returns-in-Returns-clause-ends g t c =
    let a = c.args.around.now in
    let i = c.loop-value.invariant.left in
    let test = (says a c.args.test.now).run in
    let body = round a c.args.body.now (option_copied c.args.last) in
    i.2 ∙ gives_then _ _ _ _ c.in_ok-exec_last.ensures.ends ∙ ap (λ (x : Next). goes_on (loop test body i.0) (flow_of x) (frame c.exec_last.new.slots c.exec_last.new.m)) c.in-Returns.is

pub exec_loop-returns-in_err-tested-clause-ends : goal.exec_loop-returns-in_err-tested-clause-ends
exec_loop-returns-in_err-tested-clause-ends g t c =
    let a = c.args.around.now in
    let i = c.loop-value.invariant.left in
    let test = (says a c.args.test.now).run in
    let body = round a c.args.body.now (option_copied c.args.last) in
    exits_flow _ _ _ _ _ _ c.from_residual-in_err-tested.ensures.1 c.in_err-tested.ensures.ends
    (i.2 ∙ gives_then _ _ _ _ c.in_ok-exec_last.ensures.ends ∙ ap (λ (x : Next). goes_on (loop test body i.0) (flow_of x) (frame c.exec_last.new.slots c.exec_last.new.m)) c.in-Goes.is ∙ loop_is test body i.0 _)

pub exec_loop-returns-then-not-branch-clause-ends : goal.exec_loop-returns-then-not-branch-clause-ends
exec_loop-returns-then-not-branch-clause-ends g t c =
    let a = c.args.around.now in
    let i = c.loop-value.invariant.left in
    let test = (says a c.args.test.now).run in
    let body = round a c.args.body.now (option_copied c.args.last) in
    let k = has_more i.0 c.exec_last.new.m.turns c.tested.new.m.turns (omega (arith, i.1, c.in_ok-exec_last.ensures.turns)) c.in_ok-tested.ensures.more c.in_ok-tested.ensures.most in
    i.2 ∙ gives_then _ _ _ _ c.in_ok-exec_last.ensures.ends ∙ ap (λ (x : Next). goes_on (loop test body i.0) (flow_of x) (frame c.exec_last.new.slots c.exec_last.new.m)) c.in-Goes.is ∙ loop_is test body i.0 _
    ∙ gives_then _ _ _ _ c.in_ok-tested.ensures.ends ∙ again_false test body i.0 k.0 _ _ k.1 c.if-not-branch.true

pub exec_loop-returns-in_err-exec-clause-ends : goal.exec_loop-returns-in_err-exec-clause-ends
exec_loop-returns-in_err-exec-clause-ends g t c =
    let a = c.args.around.now in
    let i = c.loop-value.invariant.left in
    let test = (says a c.args.test.now).run in
    let body = round a c.args.body.now (option_copied c.args.last) in
    let k = has_more i.0 c.exec_last.new.m.turns c.tested.new.m.turns (omega (arith, i.1, c.in_ok-exec_last.ensures.turns)) c.in_ok-tested.ensures.more c.in_ok-tested.ensures.most in
    exits_flow _ _ _ _ _ _ c.from_residual-in_err-exec.ensures.1 c.in_err-exec.ensures.ends
    (i.2 ∙ gives_then _ _ _ _ c.in_ok-exec_last.ensures.ends ∙ ap (λ (x : Next). goes_on (loop test body i.0) (flow_of x) (frame c.exec_last.new.slots c.exec_last.new.m)) c.in-Goes.is ∙ loop_is test body i.0 _
    ∙ gives_then _ _ _ _ c.in_ok-tested.ensures.ends ∙ again_true test body i.0 k.0 _ _ k.1 c.if-not-branch.false ∙ round_is a c.args.body.now (option_copied c.args.last) (loop test body k.0) _)

pub exec_loop-returns-in-Returns-2-clause-ends : goal.exec_loop-returns-in-Returns-2-clause-ends
exec_loop-returns-in-Returns-2-clause-ends g t c =
    let a = c.args.around.now in
    let i = c.loop-value.invariant.left in
    let test = (says a c.args.test.now).run in
    let body = round a c.args.body.now (option_copied c.args.last) in
    let k = has_more i.0 c.exec_last.new.m.turns c.tested.new.m.turns (omega (arith, i.1, c.in_ok-exec_last.ensures.turns)) c.in_ok-tested.ensures.more c.in_ok-tested.ensures.most in
    i.2 ∙ gives_then _ _ _ _ c.in_ok-exec_last.ensures.ends ∙ ap (λ (x : Next). goes_on (loop test body i.0) (flow_of x) (frame c.exec_last.new.slots c.exec_last.new.m)) c.in-Goes.is ∙ loop_is test body i.0 _
    ∙ gives_then _ _ _ _ c.in_ok-tested.ensures.ends ∙ again_true test body i.0 k.0 _ _ k.1 c.if-not-branch.false ∙ round_is a c.args.body.now (option_copied c.args.last) (loop test body k.0) _
    ∙ gives_then _ _ _ _ c.in_ok-exec.ensures.ends ∙ ap (λ (x : Next). goes_on (λ t. then_run (then_last a (option_copied c.args.last) t) (goes_on (loop test body k.0))) (flow_of x) (frame c.exec.new.slots c.exec.new.m)) c.in-Returns-2.is

pub exec_loop-loop-value-preserved : goal.exec_loop-loop-value-preserved
exec_loop-loop-value-preserved g t c =
    let a = c.args.around.now in
    let i = c.loop-value.invariant.left in
    let test = (says a c.args.test.now).run in
    let body = round a c.args.body.now (option_copied c.args.last) in
    let k = has_more i.0 c.exec_last.new.m.turns c.tested.new.m.turns (omega (arith, i.1, c.in_ok-exec_last.ensures.turns)) c.in_ok-tested.ensures.more c.in_ok-tested.ensures.most in
    record {
      left = (
        k.0,
        omega (arith, k.2, c.in_ok-exec.ensures.turns),
        i.2 ∙ gives_then _ _ _ _ c.in_ok-exec_last.ensures.ends ∙ ap (λ (x : Next). goes_on (loop test body i.0) (flow_of x) (frame c.exec_last.new.slots c.exec_last.new.m)) c.in-Goes.is ∙ loop_is test body i.0 _
            ∙ gives_then _ _ _ _ c.in_ok-tested.ensures.ends ∙ again_true test body i.0 k.0 _ _ k.1 c.if-not-branch.false ∙ round_is a c.args.body.now (option_copied c.args.last) (loop test body k.0) _
            ∙ gives_then _ _ _ _ c.in_ok-exec.ensures.ends ∙ ap (λ (x : Next). goes_on (λ t. then_run (then_last a (option_copied c.args.last) t) (goes_on (loop test body k.0))) (flow_of x) (frame c.exec.new.slots c.exec.new.m)) c.in-Goes-2.is,
      );
      small = omega arith;
      kept = c.in_ok-exec.ensures.kept ∙ c.in_ok-tested.ensures.kept ∙ c.in_ok-exec_last.ensures.kept ∙ c.loop-value.invariant.kept;
      turns = omega (arith, c.loop-value.invariant.turns, c.in_ok-exec_last.ensures.turns, c.in_ok-tested.ensures.turns, c.in_ok-exec.ensures.turns);
    }
