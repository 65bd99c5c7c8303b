-- Between two calls, and where a call begins and is kept.
use Rattle.std.specs.Prelude.{◌≡◌, ℕ, ◌+◌, ◌≤◌, List, [], length, Some, is_some}
use Rattle.std.specs.List.{AllByRecursion}
use Rattle.px_value.specs.declared.value.Value.{Value}
use Rattle.px_value.specs.declared.object.Object.{Object}
use Rattle.px_value.specs.Heap.{cell_at}
use Rattle.px_code.specs.declared.side.Side.TheVariants.{App, Db}
use Rattle.px_code.specs.declared.plan.Plan.{Plan}
use Rattle.px_code.specs.CodeRun.{method_at}
use Rattle.px_code.specs.Frames.{types_of}
use Rattle.px_code.specs.Fits.{Fits, header_at}
use Rattle.px_code.specs.Machine.{Machine}
use Rattle.px_code.specs.Sound.{IsNoReference, entered}
use Rattle.px_wire.specs.declared.updates.Updates.{Updates}
use Rattle.px_half.specs.Messages.{AreUpdates}
use Rattle.px_half.specs.Absorbed.{with_updates}
use Rattle.px_pair.specs.Agree.{KeepsCell, Agree}
use Rattle.px_pair.specs.Crossing.{CanTell}

-- One cell between two calls: each end has the newest value of what it keeps.
pub record RestingCopies (plan : Plan) (app db one : List Object) (place index : ℕ) : Type 0 where
  pub app_there : is_some (cell_at app place index) ≡ is_some (cell_at one place index)
  pub db_there : is_some (cell_at db place index) ≡ is_some (cell_at one place index)
  pub app_kept : KeepsCell plan App one place index → cell_at app place index ≡ cell_at one place index
  pub db_kept : KeepsCell plan Db one place index → cell_at db place index ≡ cell_at one place index

-- both ends together have the one heap
pub record Rest (plan : Plan) (app db one : List Object) : Type 0 where
  pub app_headers : (place : ℕ) → header_at app place ≡ header_at one place
  pub db_headers : (place : ℕ) → header_at db place ≡ header_at one place
  pub copies : (place index : ℕ) → RestingCopies plan app db one place index

-- ---- a new session

abbrev pub NewRests : Type 0
NewRests = (plan : Plan) (heap : List Object) → Rest plan heap heap heap

-- ---- the begin of a call

abbrev pub attending : List Object → Machine
attending heap = record { heap = heap; frames = []; base = 0; marks = []; named = [] }

-- A call begins at APP with the frame of its entry; DB attends it. Both agree with the one heap, where the call begins alike.
pub record CallBegins (plan : Plan) (app db one : List Object) (method : ℕ) (args : List Value) : Type 0 where
  pub agree : Agree plan App (entered plan.code app method args) (attending db) (entered plan.code one method args)
  pub can_tell : CanTell plan (entered plan.code app method args) (attending db)

abbrev pub CallsBegin : Type 0
CallsBegin = (plan : Plan) (app db one : List Object) (method : ℕ) (args : List Value) → Rest plan app db one → Fits plan.code one → method ≤ length plan.code.methods → length args + 1 ≤ length (types_of (method_at plan.code.methods method)) → AllByRecursion IsNoReference args → CallBegins plan app db one method args

-- ---- a commit

-- the updates of APP are taken in by DB, and then both ends have the one heap
pub record IsKept (plan : Plan) (near far one : Machine) (u : Updates) : Type 0 where
  pub machine : Machine
  pub taken : with_updates plan u far ≡ Some machine
  pub rest : Rest plan near.heap machine.heap one.heap

abbrev pub CommitsKeep : Type 0
CommitsKeep = (plan : Plan) (near far one : Machine) (u : Updates) → Agree plan App near far one → Fits plan.code one.heap → AreUpdates (Some plan) (length near.heap) near u → IsKept plan near far one u
