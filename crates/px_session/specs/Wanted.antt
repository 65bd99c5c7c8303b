-- Calls as they come.
use Rattle.px_session.specs.declared.calls.Wanted.{Wanted}
use Rattle.px_session.specs.Serving.{Call}

abbrev pub wanted : Wanted → Call
wanted w = record { method = w.method; args = w.args.now }
