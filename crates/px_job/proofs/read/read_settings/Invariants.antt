use Rattle.std.proofs.Common.{◌≡◌, length}
use Rattle.px_job.specs.Lines.{lines_of}
use Rattle.px_job.specs.Settings.{nothing_stood}
use Rattle.px_job.specs.Jobs.{noted_from}
use Rattle.px_job.proofs.read.read_settings.Given as goal

abbrev pub invariant-loop-rest : goal.invariant-loop-rest
invariant-loop-rest l = noted_from l.stood (lines_of l.rest) ≡ noted_from nothing_stood (lines_of l.bytes)

abbrev pub decreases-loop-rest : goal.decreases-loop-rest
decreases-loop-rest l = length l.rest
