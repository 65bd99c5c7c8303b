use Rattle.std.proofs.Common.{◌∙◌, ap, List, ℕ, None}
use Rattle.std.proofs.lemmas.List.Sorted.{IsNonDecreasingBy-from_sort}
use Rattle.px_constraints.specs.Sets.{risen}
use Rattle.px_constraints.proofs.Rising.{is_set}
use Rattle.px_constraints.proofs.sorted.set_of.Goals as goal

pub returns : goal.returns
returns c = is_set c.args.sites.now c.in_ok-all.all.items c.sort.new.self.items c.in_ok-risen.field-0.items c.in_ok-all.ensures.items c.in_ok-sort.ensures.permutation (IsNonDecreasingBy-from_sort (λ x. x) c.sort.new.self.items c.in_ok-sort.ensures.sorted) (c.in_ok-risen.ensures ∙ ap (λ (z : List ℕ). risen None z) c.as_slice.ensures.value)
