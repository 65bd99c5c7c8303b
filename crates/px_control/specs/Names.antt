-- Names as the machine has them.
use Rattle.std.specs.Prelude.{ℕ}
use Rattle.px_blocks.specs.declared.block.SendKind.{SendKind}
use Rattle.px_blocks.specs.declared.block.SendKind.TheVariants as send
use Rattle.px_blocks.specs.declared.block.Naming.{Naming}
use Rattle.px_blocks.specs.declared.side.Side.{Side}
use Rattle.px_blocks.specs.declared.side.Side.TheVariants.{App, Db}
use Rattle.px_control.specs.declared.names.Name.{Name}
use Rattle.px_control.specs.declared.names.Name.TheVariants as name

abbrev pub name_of : SendKind → ℕ → Name
name_of send.App o = name.App o
name_of send.Db o = name.Db o
name_of send.Native o = name.Native o

abbrev pub naming_of : Name → Naming
naming_of (name.App o) = record { kind = send.App; object = o }
naming_of (name.Db o) = record { kind = send.Db; object = o }
naming_of (name.Native o) = record { kind = send.Native; object = o }

-- the sends that name what is at home at a side, beside those that name all
abbrev pub kind_at : Side → SendKind
kind_at App = send.App
kind_at Db = send.Db
