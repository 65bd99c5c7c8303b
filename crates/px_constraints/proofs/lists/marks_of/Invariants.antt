use Rattle.std.proofs.Common.{◌≡◌, [], drop}
use Rattle.px_constraints.specs.Sites.{all_marked}
use Rattle.px_constraints.proofs.lists.marks_of.Given as goal

abbrev pub invariant-loop-site : goal.invariant-loop-site
invariant-loop-site l = all_marked l.marks.items (drop l.site-index l.sites) ≡ all_marked [] l.sites
