use Rattle.std.proofs.Common.{length, refl, arith}
use Rattle.std.proofs.lemmas.Option.{slice_get_read}
use Rattle.px_plain.specs.Serial.{told_call}
use Rattle.px_main.specs.Run.{wanted}
use Rattle.px_main.proofs.Pushed.{mapped_more}
use Rattle.px_main.proofs.serial.wanted_calls.Goals as goal

pub loop-call-preserved : goal.loop-call-preserved
loop-call-preserved c =
    let at = slice_get_read c.args.calls.now (length c.args.calls.now) c.loop-call.call-index c.call-item.result refl (omega arith) c.call-item.is in
    mapped_more wanted told_call c.args.calls.now c.loop-call.call-index c.call-item.result c.loop-call.all.items c.push.new.self.items _ at c.loop-call.invariant c.in_ok-push.ensures.items c.wanted_call.ensures
