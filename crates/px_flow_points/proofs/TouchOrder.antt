-- The derived order of what is touched.
use Rattle.std.proofs.Common.{◌≡◌, ℕ, refl}
use Rattle.px_flow_points.specs.declared.part.Part.{Part}
use Rattle.px_flow_points.specs.declared.part.Part.TheVariants.{Field, Elements}
use Rattle.px_flow_points.specs.declared.pairs.Touch.{Touch}
use Rattle.px_flow_points.specs.contracts.pairs.TouchOrd.TheImpl.{cmp-value}
use Rattle.px_flow_points.specs.ByNode.{touch_cmp}

abbrev whole : ℕ → ℕ → Part → Touch
whole n s q = record { node = n; pair = record { site = s; part = q } }

by_part : (n s : ℕ) (p : Part) (m r : ℕ) (q : Part) → cmp-value.it (whole n s p) (whole m r q) ≡ touch_cmp (whole n s p) (whole m r q)
by_part n s (Field a) m r (Field b) = refl
by_part n s (Field a) m r Elements = refl
by_part n s Elements m r (Field b) = refl
by_part n s Elements m r Elements = refl

pub derived : (a b : Touch) → cmp-value.it a b ≡ touch_cmp a b
derived a b = by_part a.node a.pair.site a.pair.part b.node b.pair.site b.pair.part
