-- A call with its messages told is a call at two ends.
use Rattle.std.proofs.Common.{◌≡◌, ℕ, Bool, true, false, ◌&&◌, List, ◌∷◌, ◌++◌, map, length, Some, None, nat_le, refl, sym, ap, append-nil, if◌then◌else◌}
use Rattle.std.proofs.lemmas.Bool.{and_parts}
use Rattle.std.specs.List.{list_all}
use Rattle.std.specs.Option.{option_and_then}
use Rattle.px_code.specs.declared.side.Side.{Side}
use Rattle.px_code.specs.declared.plan.Plan.{Plan}
use Rattle.px_code.specs.Places.{other}
use Rattle.px_code.specs.CodeRun.{Ran}
use Rattle.px_code.specs.Stale.{Event, Brought}
use Rattle.px_code.specs.Machine.{Machine, steps, next_block}
use Rattle.px_code.specs.Sound.{Ending}
use Rattle.px_wire.specs.declared.transfer.Transfer.{Transfer}
use Rattle.px_half.specs.Absorbed.{frame_fits, stack_fits, with_room, transferred, with_transfer}
use Rattle.px_pair.specs.Crossing.{Tells, quiet}
use Rattle.px_pair.specs.Calls.{RunsAtBoth}
use Rattle.px_pair.specs.Calls as calls
use Rattle.px_pair.specs.Fresh.{with_ran, place_of, events_of}
use Rattle.px_pair.specs.Story.{Happening, HandsOver, Talks, finished, runs, falls, crosses, ran_in, events_after}

-- a message that is taken in is one to a block that is there
block_there : (plan : Plan) (t : Transfer) (far new : Machine) → with_transfer plan t far ≡ Some new → nat_le t.block (length plan.blocks.blocks) ≡ true
block_there plan t far new taken = of_stack (stack_fits plan t far.frames) refl taken
  where
    of_stack : (b : Bool) → stack_fits plan t far.frames ≡ b → (if b then option_and_then (transferred plan t far) (with_room plan t.updates far.heap) else None) ≡ Some new → nat_le t.block (length plan.blocks.blocks) ≡ true
    of_stack true fits h = (and_parts (nat_le t.block (length plan.blocks.blocks)) (nat_le t.base (length far.frames)) (and_parts (nat_le t.block (length plan.blocks.blocks) && nat_le t.base (length far.frames)) (list_all (frame_fits plan) t.frames) fits).0).0
    of_stack false fits h = cc

pub tells : (plan : Plan) (near far new : Machine) (n : ℕ) (t : Transfer) → HandsOver plan near n t → with_transfer plan t far ≡ Some new → Tells plan near t
tells plan near far new n t hands taken = record { block = block_there plan t far new taken; base = hands.base; frames = hands.frames; slots = hands.slots; updates = hands.updates }

-- the same call at two ends, with the same events
pub record Forgotten (plan : Plan) (side : Side) (near far : Machine) (n : ℕ) (story : List Happening) (ending : Ending) (last : Side) (last_near last_far : Machine) : Type 0 where
  pub ran : List Ran
  pub ran_is : ran ≡ ran_in story
  pub runs : RunsAtBoth plan side near far n ran ending last last_near last_far
  pub events : (before : List Event) → events_of plan side near far n ran ending last last_near last_far runs before ≡ events_after story before

module _ (plan : Plan) where
  pub forget : (side last : Side) (near far last_near last_far : Machine) (n : ℕ) (story : List Happening) (ending : Ending) → Talks plan side near far n story ending last last_near last_far → Forgotten plan side near far n story ending last last_near last_far
  unfolding events_of
  forget _ _ near far _ _ _ _ _ finished = record { ran = _; ran_is = refl; runs = calls.finished; events = λ before. refl }
  forget side last near far last_near last_far n _ ending (runs {b = b} {story = story} is at going after) =
      let rest : Forgotten plan side (steps b.statements near).machine far (next_block b.exit (steps b.statements near).stop) story ending last last_near last_far =
      forget side last (steps b.statements near).machine far last_near last_far (next_block b.exit (steps b.statements near).stop) story ending after in
      record {
        ran = (steps b.statements near).ran ++ rest.ran;
        ran_is = ap (λ (rs : List Ran). (steps b.statements near).ran ++ rs) rest.ran_is;
        runs = calls.runs is at going rest.runs;
        events = λ before. rest.events (with_ran side (steps b.statements near).ran before);
      }
  forget side _ near far _ _ n _ _ (falls {b = b} {t = t} is at fell) = record {
    ran = (steps b.statements near).ran;
    ran_is = sym (append-nil (steps b.statements near).ran);
    runs = calls.falls is at fell;
    events = λ before. refl;
  }
  forget side last near far last_near last_far n _ ending (crosses {new = new} {t = t} {story = story} at hands taken after) =
      let rest : Forgotten plan (other side) new (quiet near) n story ending last last_near last_far = forget (other side) last new (quiet near) last_near last_far n story ending after in
      record {
        ran = rest.ran;
        ran_is = rest.ran_is;
        runs = calls.crosses (tells plan near far new n t hands taken) hands.block taken rest.runs;
        events = λ before. rest.events (Brought (other side) (map place_of t.updates.cells) ∷ before);
      }
