-- What stops an act.
use Rattle.px_ops.specs.declared.error.OpError.{OpError}
use Rattle.px_ops.specs.declared.error.OpError.TheVariants as error
use Rattle.px_acts.specs.declared.stop.Stop.{Stop}
use Rattle.px_acts.specs.declared.stop.Stop.TheVariants.{Threw, NoMemory}

abbrev pub stop_of : OpError → Stop
stop_of (error.Thrown t) = Threw t
stop_of error.NoMemory = NoMemory
