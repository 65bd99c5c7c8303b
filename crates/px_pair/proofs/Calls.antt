-- A whole call at two ends is one on the one heap.
use Rattle.std.proofs.Common.{◌≡◌, ℕ, List, ◌++◌, Some, refl, sym, subst, ◌∙◌}
use Rattle.px_code.specs.declared.side.Side.{Side}
use Rattle.px_code.specs.declared.block.Block.{Block}
use Rattle.px_code.specs.declared.plan.Plan.{Plan}
use Rattle.px_code.specs.Places.{other}
use Rattle.px_code.specs.Fits.{Fits}
use Rattle.px_code.specs.CodeRun.{Ran}
use Rattle.px_code.specs.Law.{MachineFits, StaysWithin}
use Rattle.px_code.specs.Machine.{Machine, Stop, RunsOn, Returned, Threw, steps, block_at, next_block}
use Rattle.px_code.specs.Sound.{Ending, RunsFrom}
use Rattle.px_code.specs.Sound as sound
use Rattle.px_code.proofs.Staying.{stay}
use Rattle.px_half.specs.Absorbed.{in_control}
use Rattle.px_pair.specs.Agree.{Agree}
use Rattle.px_pair.specs.Law.{NamesClasses, RunsAlike}
use Rattle.px_pair.specs.Crossing.{FramesLike, bare, quiet}
use Rattle.px_pair.specs.Calls.{RunsAtBoth, finished, runs, falls, crosses, IsGoodBlock, AreGoodBlocks, CallAgrees, CallsAgree}
use Rattle.px_pair.proofs.Steps.{blocks_run_alike}
use Rattle.px_pair.proofs.StackKeeping as keeping
use Rattle.px_pair.proofs.ControlCrossing as control

module _ (plan : Plan) (names : NamesClasses plan.code) (good : AreGoodBlocks plan) where
  abbrev blocks : List Block
  blocks = plan.blocks.blocks

  -- the machine fits the block that comes next
  pub next_fits : (b : Block) (is_good : IsGoodBlock plan b) (one after : Machine) (stop : Stop) → (stop ≡ RunsOn → MachineFits plan.code b.method after) → (c : Block) → block_at blocks (next_block b.exit stop) ≡ Some c → MachineFits plan.code c.method after
  next_fits b is_good one after RunsOn fits c is = subst (λ m. MachineFits plan.code m after) (sym (is_good.next c is)) (fits refl)
  next_fits b is_good one after Returned fits c is = cc
  next_fits b is_good one after (Threw t) fits c is = cc

  pub call_agrees : (side last : Side) (near far last_near last_far : Machine) (n : ℕ) (ran : List Ran) (ending : Ending) → RunsAtBoth plan side near far n ran ending last last_near last_far
      → (one : Machine) → Agree plan side near far one → FramesLike near.frames (bare plan near far) → Fits plan.code one.heap → ((b : Block) → block_at blocks n ≡ Some b → MachineFits plan.code b.method one)
      → CallAgrees plan one n ran ending last last_near last_far
  call_agrees _ _ near far _ _ _ _ _ finished one agree like fits machine = record { last = one; runs = sound.finished; agree = agree }
  call_agrees side last near far last_near last_far n _ ending (runs {b = b} {ran = ran} is at going after) one agree like fits machine =
      let g : IsGoodBlock plan b = good n b is in
      let alike : RunsAlike plan b.side far (steps b.statements near) (steps b.statements one) = blocks_run_alike plan b near far one names g.placed g.are g.plain (machine b is) (subst (λ (y : Side). Agree plan y near far one) (sym at) agree) in
      let stays : StaysWithin plan.code b.method one (steps b.statements one) = stay plan.code b.method b.statements one g.are g.plain (machine b is) in
      let fit_next : (c : Block) → block_at blocks (next_block b.exit (steps b.statements near).stop) ≡ Some c → MachineFits plan.code c.method (steps b.statements one).machine =
      subst (λ (x : Stop). (c : Block) → block_at blocks (next_block b.exit x) ≡ Some c → MachineFits plan.code c.method (steps b.statements one).machine) (sym alike.stop) (next_fits b g one (steps b.statements one).machine (steps b.statements one).stop stays.machine) in
      let rest : CallAgrees plan (steps b.statements one).machine (next_block b.exit (steps b.statements near).stop) ran ending last last_near last_far =
      call_agrees side last (steps b.statements near).machine far last_near last_far (next_block b.exit (steps b.statements near).stop) ran ending after (steps b.statements one).machine
      (subst (λ (y : Side). Agree plan y (steps b.statements near).machine far (steps b.statements one).machine) at alike.agree)
      (keeping.steps_keep_stacks plan b.statements near far like) stays.heap fit_next in
      record {
        last = rest.last;
        runs = subst (λ (rs : List Ran). RunsFrom blocks n one (rs ++ ran) ending rest.last) (sym alike.ran)
            (sound.runs is (λ t h. going t (alike.stop ∙ h)) (subst (λ (x : Stop). RunsFrom blocks (next_block b.exit x) (steps b.statements one).machine ran ending rest.last) alike.stop rest.runs));
        agree = rest.agree;
      }
  call_agrees side _ near far _ _ n _ _ (falls {b = b} {t = t} is at fell) one agree like fits machine =
      let g : IsGoodBlock plan b = good n b is in
      let alike : RunsAlike plan b.side far (steps b.statements near) (steps b.statements one) = blocks_run_alike plan b near far one names g.placed g.are g.plain (machine b is) (subst (λ (y : Side). Agree plan y near far one) (sym at) agree) in
      record {
        last = (steps b.statements one).machine;
        runs = subst (λ (rs : List Ran). RunsFrom blocks n one rs (sound.Fell t) (steps b.statements one).machine) (sym alike.ran) (sound.falls is (sym alike.stop ∙ fell));
        agree = subst (λ (y : Side). Agree plan y (steps b.statements near).machine far (steps b.statements one).machine) at alike.agree;
      }
  call_agrees side last near far last_near last_far n ran ending (crosses {new = new} {t = t} tells at taken after) one agree like fits machine =
      let is : new ≡ in_control plan t far far.heap = control.taken_is plan side near far one t agree fits like tells new taken in
      call_agrees (other side) last new (quiet near) last_near last_far n ran ending after one
      (subst (λ (x : Machine). Agree plan (other side) x (quiet near) one) (sym is) (control.new_agree plan side near far one t agree fits like tells))
      (subst (λ (x : Machine). FramesLike x.frames (bare plan x (quiet near))) (sym is) (control.new_like plan side near far one t agree fits like tells)) fits machine

pub calls_agree : CallsAgree
calls_agree plan names good side last near far last_near last_far n ran ending both one agree like fits machine = call_agrees plan names good side last near far last_near last_far n ran ending both one agree like fits machine
