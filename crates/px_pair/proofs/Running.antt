-- A call that runs at two ends: blocks keep what both ends have together, and so does a message.
use Rattle.std.proofs.Common.{◌≡◌, ℕ, zero, suc, ◌+◌, ◌≤◌, Bool, true, false, List, [], ◌∷◌, length, Option, Some, None, slice_get, nat_le, refl, sym, ap, subst, ◌∙◌, inl, inr, arith, le-leb}
use Rattle.std.specs.Option.{option_map}
use Rattle.std.specs.List.{AllByRecursion}
use Rattle.px_code.specs.WellFormed.{HasFewSlots}
use Rattle.px_value.specs.declared.thrown.Thrown.{Thrown}
use Rattle.px_code.specs.declared.side.Side.{Side}
use Rattle.px_code.specs.declared.side.Side.TheVariants.{App, Db}
use Rattle.px_code.specs.declared.block.Block.{Block}
use Rattle.px_code.specs.declared.block.Exit.{Exit}
use Rattle.px_code.specs.declared.plan.Plan.{Plan}
use Rattle.px_code.specs.Places.{other, same_side}
use Rattle.px_code.specs.Law.{MachineFits, StaysWithin}
use Rattle.px_code.specs.Cut.{exit_if, ends_in_return as block_returns}
use Rattle.px_code.specs.Machine.{Machine, Stop, RunsOn, Returned, Threw, steps, block_at, next_block, exit_to}
use Rattle.px_code.proofs.Staying.{stay}
use Rattle.px_wire.specs.declared.transfer.Transfer.{Transfer as TransferTold}
use Rattle.px_wire.specs.declared.message.Message.{Message}
use Rattle.px_wire.specs.declared.message.Message.TheVariants.{Transfer, Commit}
use Rattle.px_wire.specs.Spelling.{spelling}
use Rattle.px_half.specs.End.{End, plan_at, blocks_in, methods_in, side_of_block, block_side, BlockRun, block_run, block_run_of, block_run_if, after_block, runs_nothing, without_block, crosses}
use Rattle.px_half.specs.declared.step.Step.TheVariants as step
use Rattle.px_half.specs.Messages.{IsTransfer, IsMessage, AreUpdates, told}
use Rattle.px_half.specs.Absorbed.{absorbed, absorbed_by, with_transfer, after_transfer}
use Rattle.px_half.proofs.Tellable.{steps_stay_tellable}
use Rattle.px_half.proofs.TellableEnds.{absorbed_is_tellable}
use Rattle.px_pair.specs.Agree.{Agree}
use Rattle.px_pair.specs.Law.{NamesClasses, RunsAlike}
use Rattle.px_pair.specs.Crossing.{Tells, ControlCrossed}
use Rattle.px_pair.specs.Calls.{IsGoodBlock}
use Rattle.px_pair.specs.Servable.{IsServable}
use Rattle.px_pair.specs.Story.{HandsOver}
use Rattle.px_pair.specs.Telling.{IsWelcome, IsHeard}
use Rattle.px_pair.specs.Ends.{IsThere, IsRunning}
use Rattle.px_pair.proofs.Calls.{next_fits}
use Rattle.px_pair.proofs.Steps.{blocks_run_alike}
use Rattle.px_pair.proofs.Telling.{steps_can_tell}
use Rattle.px_pair.proofs.ControlCrossing as control
use Rattle.px_pair.proofs.Good.{exit_at}
use Rattle.px_pair.proofs.Next.{lines_end, methods_end, next_there, runs_no_return}
use Rattle.px_pair.proofs.Servable.{names_classes, all_return, good_blocks, block_returns_none, block_is_short}

-- ---- what comes of a block

-- a call of `run_block` at the end with control
pub data Turned (plan : Plan) (side : Side) (e : End) (r : BlockRun) : Type 0 where
  ended : e.block ≡ 0 → side ≡ App → r.answer ≡ step.Done → r.after ≡ e → Turned plan side e r
  elsewhere : side_of_block plan.blocks.blocks e.block ≡ other side → r.answer ≡ step.Cross → r.after ≡ e → Turned plan side e r
  ran : (b : Block) → block_at plan.blocks.blocks e.block ≡ Some b → b.side ≡ side → ((t : Thrown) → (steps b.statements e.machine).stop ≡ Threw t → ⊥)
      → r.answer ≡ crosses (same_side side (side_of_block plan.blocks.blocks (next_block b.exit (steps b.statements e.machine).stop)))
      → r.after ≡ record e { machine = (steps b.statements e.machine).machine; block = next_block b.exit (steps b.statements e.machine).stop } → Turned plan side e r
  threw : (b : Block) (t : Thrown) → block_at plan.blocks.blocks e.block ≡ Some b → b.side ≡ side → (steps b.statements e.machine).stop ≡ Threw t
      → r.answer ≡ step.Threw t → r.after ≡ record e { machine = (steps b.statements e.machine).machine } → Turned plan side e r

same_is : (a b : Side) → same_side a b ≡ true → b ≡ a
same_is App App h = refl
same_is App Db h = cc
same_is Db App h = cc
same_is Db Db h = refl

apart_is : (a b : Side) → same_side a b ≡ false → b ≡ other a
apart_is App App h = cc
apart_is App Db h = refl
apart_is Db App h = refl
apart_is Db Db h = cc

module _ (plan : Plan) (side : Side) (e : End) (near_plan : plan_at e ≡ Some plan) (near_side : e.side ≡ side) where
  abbrev blocks : List Block
  blocks = plan.blocks.blocks

  stepped : (b : Block) (stop : Stop) → block_at blocks e.block ≡ Some b → b.side ≡ side → (steps b.statements e.machine).stop ≡ stop → Turned plan side e (after_block blocks b e (steps b.statements e.machine) stop)
  stepped b (Threw t) is at stop = threw b t is at stop refl refl
  stepped b RunsOn is at stop = ran b is at (λ t h. let never : RunsOn ≡ Threw t = sym stop ∙ h in cc)
      ((λ i. crosses (same_side (near_side i) (side_of_block blocks (next_block b.exit (sym stop i))))))
      (ap (λ (x : Stop). record e { machine = (steps b.statements e.machine).machine; block = next_block b.exit x }) (sym stop))
  stepped b Returned is at stop = ran b is at (λ t h. let never : Returned ≡ Threw t = sym stop ∙ h in cc)
      ((λ i. crosses (same_side (near_side i) (side_of_block blocks (next_block b.exit (sym stop i))))))
      (ap (λ (x : Stop). record e { machine = (steps b.statements e.machine).machine; block = next_block b.exit x }) (sym stop))

  with_block : (b : Block) (here : Bool) → block_at blocks e.block ≡ Some b → same_side e.side b.side ≡ here → Turned plan side e (block_run_if here blocks b e)
  with_block b true is at = stepped b (steps b.statements e.machine).stop is (same_is e.side b.side at ∙ near_side) refl
  with_block b false is at = elsewhere (ap block_side is ∙ apart_is e.side b.side at ∙ ap other near_side) refl refl

  none_left : (here : Side) (n : ℕ) → e.side ≡ here → e.block ≡ n → block_at blocks e.block ≡ None → IsThere plan e.block → Turned plan side e (runs_nothing (without_block here n) e)
  none_left App zero at is none there = ended is (sym near_side ∙ at) refl refl
  none_left App (suc n) at is none (inl zero_is) = let never : 0 ≡ suc n = sym zero_is ∙ is in cc
  none_left App (suc n) at is none (inr found) = let never : None ≡ Some found.0 = sym none ∙ found.1 in cc
  none_left Db n at is none there = elsewhere (ap block_side none ∙ ap other (sym at ∙ near_side)) refl refl

  found_or : (o : Option Block) → block_at blocks e.block ≡ o → IsThere plan e.block → Turned plan side e (block_run_of o blocks e)
  found_or None is there = none_left e.side e.block refl refl is there
  found_or (Some b) is there = with_block b (same_side e.side b.side) is refl

  pub turned : IsThere plan e.block → Turned plan side e (block_run e)
  turned there = subst (Turned plan side e) (ap (λ (p : Option Plan). block_run_of (block_at (blocks_in p) e.block) (blocks_in p) e) (sym near_plan)) (found_or (block_at blocks e.block) refl there)

-- ---- after a block

next_is_there : (plan : Plan) → IsServable plan → (n : ℕ) (b : Block) (stop : Stop) → block_at plan.blocks.blocks n ≡ Some b → (stop ≡ RunsOn → block_returns b.statements ≡ false) → IsThere plan (next_block b.exit stop)
next_is_there plan servable n b Returned is goes = inl refl
next_is_there plan servable n b (Threw t) is goes = inl refl
next_is_there plan servable zero b RunsOn is goes = cc
next_is_there plan servable (suc k) b RunsOn is goes =
    let found = next_there plan.code plan.placement.sides plan.blocks.blocks k b servable.blocks.each
    (ap (lines_end true) servable.blocks.whole ∙ methods_end 1 plan.code.methods (all_return plan.code servable.formed)) is (goes refl) in
    let exit : b.exit ≡ exit_if (block_returns b.statements) (suc (k + 1)) = exit_at 1 plan.blocks.blocks k b servable.blocks.in_row is in
    inr (found.0, ap (λ (x : Exit). block_at plan.blocks.blocks (exit_to x)) (exit ∙ ap (λ (r : Bool). exit_if r (suc (k + 1))) (goes refl)) ∙ ap (slice_get plan.blocks.blocks) shift ∙ found.1)
  where
    shift : k + 1 ≡ suc k
    shift = omega arith

-- the end with control after a block
abbrev pub after_run : Block → End → End
after_run b e = record e { machine = (steps b.statements e.machine).machine; block = next_block b.exit (steps b.statements e.machine).stop }

module _ (plan : Plan) (one : Machine) (side : Side) (e f : End) (r : IsRunning plan one side e f) where
  module _ (b : Block) (is : block_at plan.blocks.blocks e.block ≡ Some b) (here : b.side ≡ side) where
    good : IsGoodBlock plan b
    good = good_blocks plan r.servable e.block b is

    names : NamesClasses plan.code
    names = names_classes plan.code r.servable.formed

    agree_there : Agree plan b.side e.machine f.machine one
    agree_there = subst (λ (y : Side). Agree plan y e.machine f.machine one) (sym here) r.agree

    alike : RunsAlike plan b.side f.machine (steps b.statements e.machine) (steps b.statements one)
    alike = blocks_run_alike plan b e.machine f.machine one names good.placed good.are good.plain (r.block_fits b is) agree_there

    stays : StaysWithin plan.code b.method one (steps b.statements one)
    stays = stay plan.code b.method b.statements one good.are good.plain (r.block_fits b is)

    pub ran_on : IsRunning plan (steps b.statements one).machine side (after_run b e) f
    ran_on = record {
      servable = r.servable;
      near_plan = r.near_plan;
      far_plan = r.far_plan;
      near_side = r.near_side;
      far_side = r.far_side;
      near_open = r.near_open;
      far_open = r.far_open;
      near_knows = r.near_knows ∙ control.same_length e.machine.heap (steps b.statements e.machine).machine.heap (λ o. r.agree.near_headers o ∙ sym (stays.headers o) ∙ sym (alike.agree.near_headers o));
      turns = r.turns;
      agree = subst (λ (y : Side). Agree plan y (steps b.statements e.machine).machine f.machine (steps b.statements one).machine) here alike.agree;
      can_tell = steps_can_tell plan b e.machine f.machine one names good.placed good.are good.plain (block_returns_none plan r.servable e.block b is) (r.block_fits b is) agree_there r.can_tell;
      fits = stays.heap;
      there = next_is_there plan r.servable e.block b (steps b.statements e.machine).stop is (runs_no_return b.statements e.machine);
      block_fits = subst (λ (x : Stop). (c : Block) → block_at plan.blocks.blocks (next_block b.exit x) ≡ Some c → MachineFits plan.code c.method (steps b.statements one).machine) (sym alike.stop)
          (next_fits plan names (good_blocks plan r.servable) b good one (steps b.statements one).machine (steps b.statements one).stop stays.machine);
      near_tellable = steps_stay_tellable b.statements e.machine (block_is_short plan r.servable e.block b is) r.near_tellable;
      far_tellable = r.far_tellable;
    }

  -- ---- a message

  module _ (elsewhere_is : side_of_block plan.blocks.blocks e.block ≡ other side) where
    -- where the message is a Transfer
    no_commit : e.side ≡ App → e.block ≡ 0 → ⊥
    no_commit app zero_is =
        let home : App ≡ other side = ap (λ n. side_of_block plan.blocks.blocks n) (sym zero_is) ∙ elsewhere_is in
        let away : other side ≡ Db = ap other (sym r.near_side ∙ app) in
        let never : App ≡ Db = home ∙ away in
        cc

    as_transfer : (here : Side) (n : ℕ) (message : Message) → IsMessage here n e message → (here ≡ App → n ≡ 0 → ⊥) → (t : TransferTold) × (message ≡ Transfer t) × IsTransfer e t
    as_transfer App zero message h never = absurd (never refl refl)
    as_transfer App (suc n) (Transfer t) h never = (t, refl, h)
    as_transfer App (suc n) (Commit u) h never = absurd h
    as_transfer Db n (Transfer t) h never = (t, refl, h)
    as_transfer Db n (Commit u) h never = absurd h

    pub handed_over : (t : TransferTold) → IsTransfer e t → HandsOver plan e.machine e.block t
    handed_over t is = record {
      block = is.block;
      turns = is.turns ∙ r.turns;
      base = is.base;
      frames = is.frames;
      slots = is.slots;
      updates = subst (λ (k : ℕ). AreUpdates (Some plan) k e.machine t.updates) r.near_knows (subst (λ (p : Option Plan). AreUpdates p e.known e.machine t.updates) r.near_plan is.updates);
    }

    block_there : IsThere plan e.block → nat_le e.block (length plan.blocks.blocks) ≡ true
    block_there (inl zero_is) = ap (λ n. nat_le n (length plan.blocks.blocks)) zero_is ∙ le-leb 0 (length plan.blocks.blocks) (omega arith)
    block_there (inr found) = le-leb e.block (length plan.blocks.blocks) (within e.block found.0 found.1)
      where
        inside : (xs : List Block) (k : ℕ) (b : Block) → slice_get xs k ≡ Some b → suc k ≤ length xs
        inside [] k b h = cc
        inside (x ∷ xs) zero b h = omega arith
        inside (x ∷ xs) (suc k) b h = let below = inside xs k b h in omega (arith, below)

        within : (n : ℕ) (b : Block) → block_at plan.blocks.blocks n ≡ Some b → n ≤ length plan.blocks.blocks
        within zero b h = cc
        within (suc k) b h = inside plan.blocks.blocks k b h

    tells : (t : TransferTold) → IsTransfer e t → Tells plan e.machine t
    tells t is = let h : HandsOver plan e.machine e.block t = handed_over t is in record {
      block = ap (λ n. nat_le n (length plan.blocks.blocks)) h.block ∙ block_there r.there;
      base = h.base;
      frames = h.frames;
      slots = h.slots;
      updates = h.updates;
    }

    crossing : (t : TransferTold) → IsTransfer e t → ControlCrossed plan side e.machine f.machine one t
    crossing t is = control.control_crosses plan side e.machine f.machine one t r.agree r.fits r.can_tell (tells t is)

    absorbs : (t : TransferTold) (is_t : IsTransfer e t) → absorbed (Transfer t) f ≡ Some (after_transfer t f (crossing t is_t).machine)
    absorbs t is_t = ap (λ (p : Option Plan). absorbed_by p (Transfer t) f) r.far_plan ∙ ap (option_map (after_transfer t f)) (crossing t is_t).taken

    pub welcome : IsWelcome e f
    welcome message is =
        let found = as_transfer e.side e.block message is no_commit in
        (after_transfer found.0 f (crossing found.0 found.2).machine, ap (λ (m : Message). absorbed m f) found.1 ∙ absorbs found.0 found.2)

    -- what was told is a Transfer, and this end took it in
    pub record HasTaken (e' : End) (n : ℕ) : Type 0 where
      pub t : TransferTold
      pub hands : HandsOver plan e.machine e.block t
      pub machine : Machine
      pub taken : with_transfer plan t f.machine ≡ Some machine
      pub is : e' ≡ after_transfer t f machine
      pub long : n ≡ length (spelling (Transfer t))
      pub running : IsRunning plan one (other side) e' (told e)

    pub has_taken : (e' : End) (n : ℕ) → IsHeard e f e' n → HasTaken e' n
    has_taken e' n heard =
        let found = as_transfer e.side e.block heard.message heard.is no_commit in
        let c : ControlCrossed plan side e.machine f.machine one found.0 = crossing found.0 found.2 in
        let after : End = after_transfer found.0 f c.machine in
        let same : Some e' ≡ Some after = sym heard.taken ∙ ap (λ (m : Message). absorbed m f) found.1 ∙ absorbs found.0 found.2 in
        let e_is : e' ≡ after = cc in
        record {
          t = found.0;
          hands = handed_over found.0 found.2;
          machine = c.machine;
          taken = c.taken;
          is = e_is;
          long = heard.long ∙ ap (λ (m : Message). length (spelling m)) found.1;
          running = subst (λ (x : End). IsRunning plan one (other side) x (told e)) (sym e_is) (record {
            servable = r.servable;
            near_plan = r.far_plan;
            far_plan = r.near_plan;
            near_side = r.far_side;
            far_side = r.near_side ∙ twice side;
            near_open = r.far_open;
            far_open = r.near_open;
            near_knows = refl;
            turns = (handed_over found.0 found.2).turns;
            agree = c.agree;
            can_tell = c.can_tell;
            fits = r.fits;
            there = subst (IsThere plan) (sym (handed_over found.0 found.2).block) r.there;
            block_fits = subst (λ (k : ℕ). (b : Block) → block_at plan.blocks.blocks k ≡ Some b → MachineFits plan.code b.method one) (sym (handed_over found.0 found.2).block) r.block_fits;
            near_tellable = absorbed_is_tellable heard.message f after heard.has_spelling
                (subst (λ (p : Option Plan). AllByRecursion HasFewSlots (methods_in p)) (sym r.far_plan) r.servable.formed.few_slots) r.far_tellable
                (ap (λ (m : Message). absorbed m f) found.1 ∙ absorbs found.0 found.2)
                (let few = r.near_tellable.few in let e1 = control.seen_length c.machine.frames one.frames c.agree.frames in let e2 = control.seen_length e.machine.frames one.frames r.agree.frames in omega (arith, few, e1, e2));
            far_tellable = record { few = r.near_tellable.few; base = r.near_tellable.base; frames = r.near_tellable.frames; heap = r.near_tellable.heap };
          });
        }
      where
        twice : (a : Side) → a ≡ other (other a)
        twice App = refl
        twice Db = refl
