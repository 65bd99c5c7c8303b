use Rattle.std.proofs.Common.{◌≡◌, replicate}
use Rattle.px_value.specs.Defaults.{default_of}
use Rattle.px_half.proofs.news.defaults.Given as goal

abbrev pub invariant-loop : goal.invariant-loop
invariant-loop l = l.cells ≡ replicate l.counter (default_of l.ty)
