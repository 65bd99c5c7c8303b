use Rattle.std.proofs.Common.{arith, length-append}
use Rattle.px_code.specs.declared.reply.Done.{Done}
use Rattle.px_main.proofs.History.{call_told}
use Rattle.px_main.proofs.solo.history.Goals as goal

pub loop-done-preserved : goal.loop-done-preserved
loop-done-preserved c = record {
  can_next = tt;
  is_finite = tt;
  events = call_told c.loop-done.events.items c.push.new.self.items c.push-in-loop-done.new.self.items c.loop-done.yielded c.in-Some.done c.loop-done.call c.loop-done.invariant.events c.loop-done.invariant.call c.in_ok-push.ensures.items c.in_ok-push-2.ensures.items;
  call = omega (arith, length-append {A = Done});
}
