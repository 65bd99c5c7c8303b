-- Where a result set stands, as the code has it.
use Rattle.px_effects.specs.Rows.{Standing as Mean}
use Rattle.px_acts.specs.declared.standing.Standing.{Standing}

abbrev pub told : Standing → Mean
told p = record { width = p.width; rows = p.rows; cursor = p.cursor }
