use Rattle.std.proofs.Common.{subst}
use Rattle.std.specs.List.Sorted.{IsPermutation}
use Rattle.std.proofs.lemmas.List.Filters.{dedup_is}
use Rattle.px_half.proofs.CarryOrder.{each_once-sorted}
use Rattle.px_half.proofs.carry.each_once.Goals as goal

pub returns : goal.returns
returns c =
    let moved = subst (λ marks. IsPermutation marks c.sort_unstable.new.self.items) c.in_ok-cells.ensures.items c.sort_unstable.ensures.permutation in
    each_once-sorted _ _ _ moved c.sort_unstable.ensures.sorted (dedup_is _ _ _ c.dedup.ensures.filtered)
