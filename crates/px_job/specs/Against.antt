-- What is known before the first line.
use Rattle.px_job.specs.Judging.{Against}
use Rattle.px_job.specs.declared.judge.Known.{Known}

abbrev pub against : Known → Against
against known = record { entries = known.entries.list.now; tables = known.tables.now; code = known.index.code.now; sessions = known.sessions; parts = known.parts }
