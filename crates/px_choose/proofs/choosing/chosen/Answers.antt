use Rattle.std.proofs.Common.{◌≡◌, Some, None, Bool, List, ◌∙◌, ap, sym, subst}
use Rattle.px_code.specs.declared.side.Side.{Side}
use Rattle.px_choose.specs.Choices.{first_better, begin_at, Comes, stays, goes}
use Rattle.px_choose.specs.Good.{IsGood}
use Rattle.px_choose.proofs.Bounds.{Holds, begin_holds, step_holds, step_less, end_good}
use Rattle.px_choose.proofs.Fitting.{small}
use Rattle.px_choose.specs.Told.{told}
use Rattle.px_choose.proofs.choosing.chosen.Goals as goal

pub first-requires : goal.first-requires
first-requires c = small c.args.graph.now c.args.pins.now c.requires

pub changes-init : goal.changes-init
changes-init c =
    let e : c.in_ok-state.state.sides.items ≡ begin_at c.args.graph.now c.args.budget c.args.pins.now = c.in_ok-state.ensures.sides ∙ c.in_ok-sides.ensures in
    record {
      kept = c.in_ok-state.ensures.kept;
      holds = subst (Holds c.args.graph.now c.args.budget c.args.pins.now) (sym e) (begin_holds c.args.graph.now c.args.budget c.args.pins.now);
      comes = λ q h. subst (λ (p : List Side). Comes c.args.graph.now c.args.budget c.args.pins.now p q) e h;
    }

pub changes-smaller : goal.changes-smaller
changes-smaller c =
    let e : first_better c.args.graph.now c.args.budget c.args.pins.now c.changes.state.sides.items ≡ Some c.better.new.state.sides.items = c.in_ok-better.ensures.first ∙ ap (λ (b : Bool). told b c.better.new.state.sides.items) c.if-branch.true in
    step_less c.args.graph.now c.args.budget c.args.pins.now c.changes.state.sides.items c.better.new.state.sides.items c.changes.invariant.holds e

pub changes-preserved : goal.changes-preserved
changes-preserved c =
    let e : first_better c.args.graph.now c.args.budget c.args.pins.now c.changes.state.sides.items ≡ Some c.better.new.state.sides.items = c.in_ok-better.ensures.first ∙ ap (λ (b : Bool). told b c.better.new.state.sides.items) c.if-branch.true in
    record {
      kept = c.in_ok-better.ensures.kept;
      holds = step_holds c.args.graph.now c.args.budget c.args.pins.now c.changes.state.sides.items c.better.new.state.sides.items c.changes.invariant.holds e;
      comes = λ q h. c.changes.invariant.comes q (goes c.better.new.state.sides.items e h);
    }

pub returns-clause-choice : goal.returns-clause-choice
returns-clause-choice c =
    let e : first_better c.args.graph.now c.args.budget c.args.pins.now c.changes.state.sides.items ≡ None = c.in_ok-better.ensures.first ∙ ap (λ (b : Bool). told b c.better.new.state.sides.items) c.if-branch.false in
    let s : c.better.new.state.sides.items ≡ c.changes.state.sides.items = c.in_ok-better.ensures.stays c.if-branch.false in
    subst (λ (q : List Side). Comes c.args.graph.now c.args.budget c.args.pins.now (begin_at c.args.graph.now c.args.budget c.args.pins.now) q) (sym s) (c.changes.invariant.comes c.changes.state.sides.items (stays e))

pub returns-clause-good : goal.returns-clause-good
returns-clause-good c =
    let e : first_better c.args.graph.now c.args.budget c.args.pins.now c.changes.state.sides.items ≡ None = c.in_ok-better.ensures.first ∙ ap (λ (b : Bool). told b c.better.new.state.sides.items) c.if-branch.false in
    let s : c.better.new.state.sides.items ≡ c.changes.state.sides.items = c.in_ok-better.ensures.stays c.if-branch.false in
    subst (IsGood c.args.graph.now c.args.budget c.args.pins.now) (sym s) (end_good c.args.graph.now c.args.budget c.args.pins.now c.changes.state.sides.items c.changes.invariant.holds e)
