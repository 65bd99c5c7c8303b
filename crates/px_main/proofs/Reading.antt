-- Files that are read one after the other.
use Rattle.std.proofs.Common.{ℕ, ◌+◌, arith}
use Rattle.px_outside.specs.Outside.{Handed}

pub one_after_other : (h p m j n : ℕ) → Handed h p m → Handed m j n → Handed h (p + j) n
one_after_other h p m j n a b = omega (arith, a, b)
