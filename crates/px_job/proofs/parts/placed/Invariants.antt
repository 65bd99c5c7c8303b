use Rattle.std.proofs.Common.{◌≡◌, drop}
use Rattle.px_job.specs.Parts.{with_sides}
use Rattle.px_job.proofs.parts.placed.Given as goal

abbrev pub invariant-loop-number : goal.invariant-loop-number
invariant-loop-number l = with_sides l.side (drop l.number-index l.numbers) l.sides ≡ with_sides l.side l.numbers l.initial.sides
