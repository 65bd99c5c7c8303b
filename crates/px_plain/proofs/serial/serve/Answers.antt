use Rattle.std.proofs.Common.{length, ◌∙◌, refl, arith}
use Rattle.std.proofs.lemmas.Option.{slice_get_read}
use Rattle.px_mean.specs.Program.{source_from}
use Rattle.px_plain.specs.Plain.{source_in, stands}
use Rattle.px_plain.proofs.Served.{call_served, all_served}
use Rattle.px_plain.proofs.serial.serve.Goals as goal

pub loop-call-preserved : goal.loop-call-preserved
loop-call-preserved c =
    let at = slice_get_read c.args.calls.now (length c.args.calls.now) c.loop-call.call-index c.call-item.result refl (omega arith) c.call-item.is in
    record {
      source = c.call.ensures.source ∙ c.loop-call.invariant.source;
      calls = call_served (source_from c.args.checked.now) (source_in c.loop-call.plain) c.args.calls.now c.loop-call.call-index c.call-item.result _ c.loop-call.shown.items c.push.new.self.items (stands c.loop-call.plain) (stands c.call.new.self) c.in_ok-call.field-0
          at c.loop-call.invariant.source c.in_ok-call.ensures.call c.in_ok-push.ensures.items c.loop-call.invariant.calls;
    }

pub returns : goal.returns
returns c = all_served (source_from c.args.checked.now) c.args.calls.now c.loop-call.call-index _ c.loop-call.shown.items (stands c.loop-call.plain) (omega arith) c.loop-call.invariant.calls
