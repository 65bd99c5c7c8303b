-- What ends a call where an operator gives no value.
use Rattle.px_ops.specs.declared.error.OpError.{OpError}
use Rattle.px_ops.specs.declared.error.OpError.TheVariants as error
use Rattle.px_plain.specs.declared.stop.Stop.{Stop}
use Rattle.px_plain.specs.declared.stop.Stop.TheVariants as stop

abbrev pub stop_of : OpError → Stop
stop_of (error.Thrown t) = stop.Threw t
stop_of error.NoMemory = stop.NoMemory
