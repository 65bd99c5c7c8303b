use Rattle.std.proofs.Common.{arith}
use Rattle.px_plain.specs.Plain.{source_in, stands}
use Rattle.px_plain.proofs.Serials.{no_session, past_session}
use Rattle.px_plain.proofs.plain.Plain.call.Goals as goal

pub returns-then-number-len-clause-call : goal.returns-then-number-len-clause-call
returns-then-number-len-clause-call c =
    no_session (source_in c.args.self.now) (stands c.args.self.now) c.args.session c.args.entry c.args.args.now c.shown_nothing-then-number-len.result (past_session _ c.args.session (omega (arith, c.from-number.ensures, c.len.ensures, c.args.self.now.heaps.ok.0))) c.shown_nothing-then-number-len.ensures
