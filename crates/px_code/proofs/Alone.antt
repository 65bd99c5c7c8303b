-- Points-to of code that allocates nothing.
use Rattle.std.proofs.Common.{refl}
use Rattle.px_code.specs.Points.{this, copied, got, put}
use Rattle.px_code.specs.Sends.{at_home}
use Rattle.px_code.specs.Law.{PointsToMainAlone, KeepsItsHome}

pub alone : PointsToMainAlone
alone code _ _ (this is entry) = refl
alone code _ site (copied has from) = alone code _ site from
alone code _ site (got has of from) = alone code _ site from
alone code _ site (put has of value) = alone code _ site value

pub keeps_home : KeepsItsHome
keeps_home code sides site part = at_home refl
