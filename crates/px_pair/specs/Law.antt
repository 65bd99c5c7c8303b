-- What two ends together do.
use Rattle.std.specs.Prelude.{◌≡◌, ℕ, Some}
use Rattle.std.specs.List.{AllByRecursion}
use Rattle.px_value.specs.declared.header.Kind.TheVariants as kind
use Rattle.px_code.specs.declared.side.Side.{Side}
use Rattle.px_code.specs.declared.word.Operand.TheVariants.{Slot}
use Rattle.px_code.specs.declared.word.Word.TheVariants as w
use Rattle.px_code.specs.declared.code.Code.{Code}
use Rattle.px_code.specs.declared.block.Block.{Block}
use Rattle.px_code.specs.declared.plan.Plan.{Plan}
use Rattle.px_code.specs.Places.{site_kind}
use Rattle.px_code.specs.Points.{HasStatement, PointsTo, InSlot}
use Rattle.px_code.specs.Cut.{IsPlaced}
use Rattle.px_code.specs.Law.{AreStatements, NoLiteralReference, MachineFits}
use Rattle.px_code.specs.Machine.{Machine, Stepped, steps}
use Rattle.px_pair.specs.Agree.{Agree}

-- a statement that writes a field names the class of the objects that its receiver may lead to
abbrev pub NamesClasses : Code → Type 0
NamesClasses code = (m node of class field site : ℕ) (value : _) → HasStatement code m node (w.Put (Slot of) class field value) → PointsTo code (InSlot m of) site → site_kind code site ≡ Some (kind.Object class)

-- the statements of a block do the same at the end with control as on the one heap
pub record RunsAlike (plan : Plan) (side : Side) (far : Machine) (here there : Stepped) : Type 0 where
  pub stop : here.stop ≡ there.stop
  pub ran : here.ran ≡ there.ran
  pub agree : Agree plan side here.machine far there.machine

abbrev pub BlocksRunAlike : Type 0
BlocksRunAlike = (plan : Plan) (b : Block) (near far one : Machine) → NamesClasses plan.code → AllByRecursion (IsPlaced plan.code plan.placement.sides b) b.statements → AreStatements plan.code b.method b.statements → NoLiteralReference b.statements → MachineFits plan.code b.method one → Agree plan b.side near far one → RunsAlike plan b.side far (steps b.statements near) (steps b.statements one)
