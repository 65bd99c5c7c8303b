-- The sides of a part's nodes, as blocks have them.
use Rattle.std.specs.Prelude.{List, map}
use Rattle.px_code.specs.declared.side.Side.{Side as JobSide}
use Rattle.px_code.specs.declared.side.Side.TheVariants as job
use Rattle.px_blocks.specs.declared.side.Side.{Side}
use Rattle.px_blocks.specs.declared.side.Side.TheVariants.{App, Db}
use Rattle.px_job.specs.declared.job.Part.{Part}
use Rattle.px_job.specs.Placing.{sides_of}

abbrev pub side_of : JobSide → Side
side_of job.App = App
side_of job.Db = Db

abbrev pub placement_of : Part → List Side
placement_of part = map side_of (sides_of part).sides
