use Rattle.std.proofs.Common.{subst, sym}
use Rattle.px_pair.specs.Ends.{AreSameEnds}
use Rattle.px_pair.specs.Pair.{State, HasEnded}
use Rattle.px_session.specs.Wanted.{wanted}
use Rattle.px_session.specs.Resting.{Serves}
use Rattle.px_session.proofs.Loops.{Went, can_commit, kept, undone, no_throws, throws}
use Rattle.px_session.proofs.calls.serve_one.Goals as goal

pub commit-requires : goal.commit-requires
commit-requires c =
    let w : Went (wanted c.args.call.now) c.args.pair.now c.advance.new.self c.take_done.new.self c.in_ok-done.done = record {
      ended = subst (λ (x : State). HasEnded x c.advance.new.self) c.in_ok-begin.ensures.ok c.in_ok-advance.ensures.ended;
      same = subst (λ (x : State). AreSameEnds x.ends c.advance.new.self.ends) c.in_ok-begin.ensures.ok c.advance.ensures.same;
      tells = c.in_ok-done.ensures.tells;
      same_taken = c.take_done.ensures.same;
    } in
    can_commit _ _ _ _ _ w (no_throws c.in_ok-done.done.reply c.in_default.not-Threw)

pub returns-in_default : goal.returns-in_default
returns-in_default c =
    let w : Went (wanted c.args.call.now) c.args.pair.now c.advance.new.self c.take_done.new.self c.in_ok-done.done = record {
      ended = subst (λ (x : State). HasEnded x c.advance.new.self) c.in_ok-begin.ensures.ok c.in_ok-advance.ensures.ended;
      same = subst (λ (x : State). AreSameEnds x.ends c.advance.new.self.ends) c.in_ok-begin.ensures.ok c.advance.ensures.same;
      tells = c.in_ok-done.ensures.tells;
      same_taken = c.take_done.ensures.same;
    } in
    subst (λ (x : State). Serves (wanted c.args.call.now) c.args.pair.now x c.in_ok-done.done) (sym c.commit.ensures) (kept _ _ _ _ _ w (no_throws c.in_ok-done.done.reply c.in_default.not-Threw))

pub returns-in-Threw : goal.returns-in-Threw
returns-in-Threw c =
    let w : Went (wanted c.args.call.now) c.args.pair.now c.advance.new.self c.take_done.new.self c.in_ok-done.done = record {
      ended = subst (λ (x : State). HasEnded x c.advance.new.self) c.in_ok-begin.ensures.ok c.in_ok-advance.ensures.ended;
      same = subst (λ (x : State). AreSameEnds x.ends c.advance.new.self.ends) c.in_ok-begin.ensures.ok c.advance.ensures.same;
      tells = c.in_ok-done.ensures.tells;
      same_taken = c.take_done.ensures.same;
    } in
    subst (λ (x : State). Serves (wanted c.args.call.now) c.args.pair.now x c.in_ok-done.done) (sym c.roll_back.ensures) (undone _ _ _ _ _ w (throws c.in_ok-done.done.reply _ c.in-Threw.is))
