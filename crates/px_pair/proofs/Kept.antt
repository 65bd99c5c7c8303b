-- What is told of a call doesn't depend on what sides keep.
use Rattle.std.proofs.Common.{ℕ, List, length, Some}
use Rattle.px_code.specs.declared.side.Side.{Side}
use Rattle.px_code.specs.declared.cell.Keep.{Keep}
use Rattle.px_code.specs.declared.plan.Plan.{Plan}
use Rattle.px_code.specs.Places.{other}
use Rattle.px_code.specs.Machine.{Machine, steps, next_block}
use Rattle.px_code.specs.Sound.{Ending}
use Rattle.px_wire.specs.declared.transfer.Transfer.{Transfer as TransferTold}
use Rattle.px_wire.specs.declared.updates.Updates.{Updates}
use Rattle.px_half.specs.Messages.{AreUpdates}
use Rattle.px_pair.specs.Story.{Happening, HandsOver, Told, finished, runs, falls, crosses, handed}

-- the same plan, where sides keep this
abbrev pub keeping : Keep → Plan → Plan
keeping keep plan = record plan { keep = keep }

module _ (plan : Plan) (keep : Keep) where
  pub updates_kept : (known : ℕ) (m : Machine) (u : Updates) → AreUpdates (Some plan) known m u → AreUpdates (Some (keeping keep plan)) known m u
  updates_kept known m u are = record { headers = are.headers; cells = record { in_order = are.cells.in_order; travel = are.cells.travel; all = are.cells.all } }

  hands_kept : (m : Machine) (n : ℕ) (t : TransferTold) → HandsOver plan m n t → HandsOver (keeping keep plan) m n t
  hands_kept m n t hands = record {
    block = hands.block;
    turns = hands.turns;
    base = hands.base;
    frames = hands.frames;
    slots = hands.slots;
    updates = updates_kept (length m.heap) m t.updates hands.updates;
  }

  pub told_kept : (side : Side) (m last : Machine) (n : ℕ) (story : List Happening) (ending : Ending) → Told plan side m n story ending last → Told (keeping keep plan) side m n story ending last
  told_kept _ m _ _ _ _ finished = finished
  told_kept side m last n _ ending (runs {b = b} {story = rest} is here going after) =
      runs is here going (told_kept side (steps b.statements m).machine last (next_block b.exit (steps b.statements m).stop) rest ending after)
  told_kept side m _ n _ _ (falls is here fell) = falls is here fell
  told_kept side m last n _ ending (crosses {t = t} {story = rest} there hands after) = crosses there (hands_kept m n t hands) (told_kept (other side) (handed m) last n rest ending after)
