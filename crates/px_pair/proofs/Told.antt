-- What happens at two ends is what happens on the one heap.
use Rattle.std.proofs.Common.{◌≡◌, ℕ, List, [], ◌∷◌, Some, sym, subst, ◌∙◌}
use Rattle.px_code.specs.declared.side.Side.{Side}
use Rattle.px_code.specs.declared.block.Block.{Block}
use Rattle.px_code.specs.declared.plan.Plan.{Plan}
use Rattle.px_code.specs.Places.{other}
use Rattle.px_code.specs.Fits.{Fits}
use Rattle.px_code.specs.CodeRun.{Ran}
use Rattle.px_code.specs.Law.{MachineFits, StaysWithin}
use Rattle.px_code.specs.Machine.{Machine, Stop, steps, block_at, next_block}
use Rattle.px_code.specs.Sound.{Ending, Fell}
use Rattle.px_code.proofs.Staying.{stay}
use Rattle.px_half.specs.Absorbed.{in_control}
use Rattle.px_pair.specs.Agree.{Agree}
use Rattle.px_pair.specs.Law.{NamesClasses, RunsAlike}
use Rattle.px_pair.specs.Crossing.{FramesLike, bare, Tells, quiet}
use Rattle.px_pair.specs.Calls.{IsGoodBlock, AreGoodBlocks}
use Rattle.px_pair.specs.Story.{Happening, Did, Told, Talks, finished, runs, falls, crosses, handed}
use Rattle.px_pair.specs.Served.{SameButHeap, IsTold, TalksAreTold}
use Rattle.px_pair.proofs.Steps.{blocks_run_alike}
use Rattle.px_pair.proofs.StackKeeping as keeping
use Rattle.px_pair.proofs.ControlCrossing as control
use Rattle.px_pair.proofs.Calls.{next_fits}
use Rattle.px_pair.proofs.Forgetting.{tells}
use Rattle.px_pair.proofs.Likeness.{all_like}
use Rattle.px_pair.proofs.Handing.{same_message, handed_alike, handed_agrees, handed_fits}
use Rattle.px_pair.proofs.Servable.{names_classes, good_blocks}

module _ (plan : Plan) (names : NamesClasses plan.code) (good : AreGoodBlocks plan) where
  abbrev blocks : List Block
  blocks = plan.blocks.blocks

  told : (side last : Side) (near far last_near last_far : Machine) (n : ℕ) (story : List Happening) (ending : Ending) → Talks plan side near far n story ending last last_near last_far
      → (one : Machine) → Agree plan side near far one → SameButHeap near one → FramesLike near.frames (bare plan near far) → Fits plan.code one.heap → ((b : Block) → block_at blocks n ≡ Some b → MachineFits plan.code b.method one)
      → IsTold plan side one n story ending last last_near last_far
  told _ _ near far _ _ _ _ _ finished one agree same like fits machine = record { machine = one; told = Told.finished; agree = agree; alike = same }
  told side last near far last_near last_far n _ ending (runs {b = b} {story = rest} is at going after) one agree same like fits machine =
      let g : IsGoodBlock plan b = good n b is in
      let agree_here : Agree plan b.side near far one = subst (λ (y : Side). Agree plan y near far one) (sym at) agree in
      let alike : RunsAlike plan b.side far (steps b.statements near) (steps b.statements one) = blocks_run_alike plan b near far one names g.placed g.are g.plain (machine b is) agree_here in
      let stays : StaysWithin plan.code b.method one (steps b.statements one) = stay plan.code b.method b.statements one g.are g.plain (machine b is) in
      let fit_next : (c : Block) → block_at blocks (next_block b.exit (steps b.statements near).stop) ≡ Some c → MachineFits plan.code c.method (steps b.statements one).machine =
      subst (λ (x : Stop). (c : Block) → block_at blocks (next_block b.exit x) ≡ Some c → MachineFits plan.code c.method (steps b.statements one).machine) (sym alike.stop) (next_fits plan names good b g one (steps b.statements one).machine (steps b.statements one).stop stays.machine) in
      let later : IsTold plan side (steps b.statements one).machine (next_block b.exit (steps b.statements near).stop) rest ending last last_near last_far =
      told side last (steps b.statements near).machine far last_near last_far (next_block b.exit (steps b.statements near).stop) rest ending after (steps b.statements one).machine
      (subst (λ (y : Side). Agree plan y (steps b.statements near).machine far (steps b.statements one).machine) at alike.agree)
      (all_like plan b names b.statements near far one g.placed g.are g.plain (machine b is) agree_here same)
      (keeping.steps_keep_stacks plan b.statements near far like) stays.heap fit_next in
      record {
        machine = later.machine;
        told = subst (λ (rs : List Ran). Told plan side one n (Did side rs ∷ rest) ending later.machine) (sym alike.ran)
            (Told.runs is at (λ t h. going t (alike.stop ∙ h)) (subst (λ (x : Stop). Told plan side (steps b.statements one).machine (next_block b.exit x) rest ending later.machine) alike.stop later.told));
        agree = later.agree;
        alike = later.alike;
      }
  told side _ near far _ _ n _ _ (falls {b = b} {t = t} is at fell) one agree same like fits machine =
      let g : IsGoodBlock plan b = good n b is in
      let agree_here : Agree plan b.side near far one = subst (λ (y : Side). Agree plan y near far one) (sym at) agree in
      let alike : RunsAlike plan b.side far (steps b.statements near) (steps b.statements one) = blocks_run_alike plan b near far one names g.placed g.are g.plain (machine b is) agree_here in
      record {
        machine = (steps b.statements one).machine;
        told = subst (λ (rs : List Ran). Told plan side one n (Did side rs ∷ []) (Fell t) (steps b.statements one).machine) (sym alike.ran) (Told.falls is at (sym alike.stop ∙ fell));
        agree = subst (λ (y : Side). Agree plan y (steps b.statements near).machine far (steps b.statements one).machine) at alike.agree;
        alike = all_like plan b names b.statements near far one g.placed g.are g.plain (machine b is) agree_here same;
      }
  told side last near far last_near last_far n _ ending (crosses {new = new} {t = t} {story = rest} at hands taken after) one agree same like fits machine =
      let told_here : Tells plan near t = tells plan near far new n t hands taken in
      let is : new ≡ in_control plan t far far.heap = control.taken_is plan side near far one t agree fits like told_here new taken in
      let later : IsTold plan (other side) (handed one) n rest ending last last_near last_far =
      told (other side) last new (quiet near) last_near last_far n rest ending after (handed one)
      (subst (λ (x : Machine). Agree plan (other side) x (quiet near) (handed one)) (sym is) (handed_agrees plan side near far one t agree fits like told_here))
      (subst (λ (x : Machine). SameButHeap x (handed one)) (sym is) (handed_alike plan side near far one t agree fits like told_here same))
      (subst (λ (x : Machine). FramesLike x.frames (bare plan x (quiet near))) (sym is) (control.new_like plan side near far one t agree fits like told_here)) fits
      (λ b there. handed_fits plan b.method one (machine b there)) in
      record {
        machine = later.machine;
        told = Told.crosses at (same_message plan near one same agree.near_headers (λ o i. (agree.copies o i).written) n t hands) later.told;
        agree = later.agree;
        alike = later.alike;
      }

pub talks_are_told : TalksAreTold
talks_are_told plan servable side last near far last_near last_far n story ending talks one agree same like fits machine =
    told plan (names_classes plan.code servable.formed) (good_blocks plan servable) side last near far last_near last_far n story ending talks one agree same like fits machine
