use Rattle.std.proofs.Common.{◌≡◌, drop}
use Rattle.px_types.specs.Database.{each_fits}
use Rattle.px_types.proofs.database.each_fits.Given as goal

abbrev pub invariant-loop-ty : goal.invariant-loop-ty
invariant-loop-ty l = record {
  place : l.place ≡ l.ty-index;
  rest : each_fits l.fn.params 0 l.fn.types ≡ each_fits l.fn.params l.place (drop l.ty-index l.fn.types);
}
