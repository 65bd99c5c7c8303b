use Rattle.std.proofs.Common.{◌≡◌, ℕ, ◌||◌, drop}
use Rattle.std.specs.Ordering.{nat_cmp}
use Rattle.std.specs.BTreeSet.{contains}
use Rattle.px_half.specs.Messages.{is_named}
use Rattle.px_half.proofs.carry.named_at.Given as goal

abbrev pub invariant-loop-naming : goal.invariant-loop-naming
invariant-loop-naming l = (object : ℕ) → (contains nat_cmp l.objects object || is_named (drop l.naming-index l.named) l.side object) ≡ is_named l.named l.side object
