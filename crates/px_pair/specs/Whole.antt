-- A whole call at two ends, and what its code does on one heap.
use Rattle.std.specs.Prelude.{◌≡◌, ℕ, ◌+◌, ◌≤◌, List, length, Some, unwrap_or}
use Rattle.px_value.specs.declared.value.Value.{Value}
use Rattle.px_value.specs.declared.value.Value.TheVariants.{Null}
use Rattle.px_value.specs.declared.object.Object.{Object}
use Rattle.px_value.specs.Outcome.{Gives, Throws, Asks}
use Rattle.px_code.specs.declared.side.Side.{Side}
use Rattle.px_code.specs.declared.side.Side.TheVariants.{App}
use Rattle.px_code.specs.declared.plan.Plan.{Plan}
use Rattle.px_code.specs.CodeRun.{Ran}
use Rattle.px_code.specs.Machine.{Machine, slots_at, value_in}
use Rattle.px_code.specs.Cut.{AreBlocks}
use Rattle.px_code.specs.Sound.{Ending, Finished, Fell, CodeOutcome, run_of, IsInput, entered, first_block}
use Rattle.px_code.specs.Fits.{Fits}
use Rattle.px_wire.specs.declared.updates.Updates.{Updates}
use Rattle.px_half.specs.Messages.{AreUpdates}
use Rattle.px_half.specs.Absorbed.{with_updates}
use Rattle.px_pair.specs.Agree.{Agree}
use Rattle.px_pair.specs.Law.{NamesClasses}
use Rattle.px_pair.specs.Calls.{RunsAtBoth}
use Rattle.px_pair.specs.Sessions.{Rest, attending}
use Rattle.px_pair.specs.Good.{HasNoLiteral, AllReturn, WritesInside}

-- Code and its blocks, and a call of one of its entries, which has the slots that it writes, and room for `this` and the arguments.
pub record IsServed (plan : Plan) (heap : List Object) (method : ℕ) (args : List Value) : Type 0 where
  pub blocks : AreBlocks plan.code plan.placement.sides plan.blocks
  pub names : NamesClasses plan.code
  pub no_literal : HasNoLiteral plan.code
  pub return : AllReturn plan.code
  pub input : IsInput plan.code heap method args
  pub room : length args + 1 ≤ length input.method.slots
  pub inside : WritesInside (length input.method.slots) input.method.body

-- these statements run, the call ends so, and both ends have this heap and this reply
pub record CallIs (plan : Plan) (side : Side) (near far : Machine) (heap : List Object) (ran that_ran : List Ran) (ending that_ending : Ending) (reply : Value) : Type 0 where
  pub one : Machine
  pub agree : Agree plan side near far one
  pub heap_is : one.heap ≡ heap
  pub reply_is : value_in (slots_at one.frames 0) 0 ≡ reply
  pub ran_is : ran ≡ that_ran
  pub ending_is : ending ≡ that_ending

abbrev pub CallDoes : Plan → Side → Machine → Machine → List Ran → Ending → CodeOutcome → Type 0
CallDoes plan side near far ran ending (Gives v s) = CallIs plan side near far s.shared.heap ran s.ran ending Finished (unwrap_or v Null)
CallDoes plan side near far ran ending (Throws t s) = CallIs plan side near far s.shared.heap ran s.ran ending (Fell t) Null
CallDoes plan side near far ran ending (Asks q z) = absurd q

-- From two ends that have one heap, a call does what its code does on that heap, wherever its blocks run and however control goes over.
abbrev pub CallsDoAsCode : Type 0
CallsDoAsCode = (plan : Plan) (app db one : List Object) (method : ℕ) (args : List Value) → Rest plan app db one → IsServed plan one method args
    → (last : Side) (last_near last_far : Machine) (ran : List Ran) (ending : Ending) → RunsAtBoth plan App (entered plan.code app method args) (attending db) (first_block plan method) ran ending last last_near last_far
    → CallDoes plan last last_near last_far ran ending (run_of plan.code one method args)

-- What the code leaves is what both ends have after the commit: DB takes in the updates of APP, which has the reply, and the next call may begin.
pub record IsCommitted (plan : Plan) (near far : Machine) (u : Updates) (heap : List Object) (ran that_ran : List Ran) (reply : Value) : Type 0 where
  pub machine : Machine
  pub taken : with_updates plan u far ≡ Some machine
  pub rest : Rest plan near.heap machine.heap heap
  pub fits : Fits plan.code heap
  pub reply_is : value_in (slots_at near.frames 0) 0 ≡ reply
  pub ran_is : ran ≡ that_ran

abbrev pub CommitsAs : Plan → Machine → Machine → Updates → List Ran → CodeOutcome → Type 0
CommitsAs plan near far u ran (Gives v s) = IsCommitted plan near far u s.shared.heap ran s.ran (unwrap_or v Null)
CommitsAs plan near far u ran (Throws t s) = ⊥
CommitsAs plan near far u ran (Asks q z) = absurd q

-- a call that ends at APP, and its commit
abbrev pub CommitsAsCode : Type 0
CommitsAsCode = (plan : Plan) (app db one : List Object) (method : ℕ) (args : List Value) → Rest plan app db one → IsServed plan one method args
    → (near far : Machine) (ran : List Ran) → RunsAtBoth plan App (entered plan.code app method args) (attending db) (first_block plan method) ran Finished App near far
    → (u : Updates) → AreUpdates (Some plan) (length near.heap) near u → CommitsAs plan near far u ran (run_of plan.code one method args)
