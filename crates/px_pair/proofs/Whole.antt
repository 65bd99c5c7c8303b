-- A whole call at two ends does what its code does on one heap.
use Rattle.std.proofs.Common.{◌≡◌, ℕ, zero, suc, ◌+◌, ◌≤◌, false, true, List, [], ◌∷◌, ◌++◌, map, length, Option, Some, None, unwrap_or, refl, sym, ap, subst, ◌∙◌, arith}
use Rattle.px_value.specs.declared.value.Value.{Value}
use Rattle.px_value.specs.declared.value.Value.TheVariants.{Null}
use Rattle.px_value.specs.declared.object.Object.{Object}
use Rattle.px_value.specs.Outcome.{Gives, Throws, Asks}
use Rattle.px_code.specs.declared.side.Side.{Side}
use Rattle.px_code.specs.declared.side.Side.TheVariants.{App}
use Rattle.px_code.specs.declared.method.Method.{Method}
use Rattle.px_code.specs.declared.block.Block.{Block}
use Rattle.px_code.specs.declared.plan.Plan.{Plan}
use Rattle.px_code.specs.CodeRun.{Ran, method_at}
use Rattle.px_code.specs.Machine.{Machine, slot_value, slots_at, value_in, Threw, steps, block_at, next_block}
use Rattle.px_code.specs.Sound.{Ending, Finished, Fell, RunsFrom, RunsAs, CodeOutcome, run_of, entered, first_block, BlocksRun}
use Rattle.px_code.specs.Sound as sound
use Rattle.std.specs.Option.{option_map}
use Rattle.px_code.specs.declared.frame.Frame.{Frame}
use Rattle.px_code.specs.declared.frame.Slot.{Slot}
use Rattle.px_code.specs.Fits.{Fits}
use Rattle.px_code.specs.Law.{MachineFits, StaysWithin}
use Rattle.px_code.proofs.Staying.{stay}
use Rattle.px_wire.specs.declared.updates.Updates.{Updates}
use Rattle.px_half.specs.Messages.{AreUpdates}
use Rattle.px_pair.specs.Agree.{Seen, seen, Agree}
use Rattle.px_pair.specs.Law.{NamesClasses}
use Rattle.px_pair.specs.Calls.{CallAgrees, IsGoodBlock, AreGoodBlocks}
use Rattle.px_pair.specs.Sessions.{Rest, attending, CallBegins, IsKept}
use Rattle.px_pair.specs.Whole.{CallIs, CallDoes, CallsDoAsCode, IsCommitted, CommitsAs, CommitsAsCode}
use Rattle.px_pair.proofs.Calls.{calls_agree, next_fits}
use Rattle.px_pair.proofs.Sessions.{calls_begin, commits_keep}
use Rattle.px_pair.proofs.Good.{cut_is_good}
use Rattle.px_pair.proofs.Entries.{entries_fit}
use Rattle.px_pair.proofs.Good.{each_at}
use Rattle.px_code.specs.WellFormed.{ends_in_return}
use Rattle.px_pair.proofs.BlocksRun.{blocks_run_as_code}
use Rattle.px_code.specs.Frames.{types_of}
use Rattle.px_value.specs.declared.ty.Ty.{Ty}
use Rattle.std.specs.List.{AllByRecursion}

-- ---- blocks run in one way

pub record SameRun (ran that_ran : List Ran) (ending that_ending : Ending) (last that_last : Machine) : Type 0 where
  pub ran_is : ran ≡ that_ran
  pub ending_is : ending ≡ that_ending
  pub last_is : last ≡ that_last

same_block : (blocks : List Block) (n : ℕ) (b c : Block) → block_at blocks n ≡ Some b → block_at blocks n ≡ Some c → b ≡ c
same_block blocks n b c is is' = let e : Some b ≡ Some c = sym is ∙ is' in cc

module _ (blocks : List Block) where
  pub one_run : (n : ℕ) (m : Machine) (ran that_ran : List Ran) (ending that_ending : Ending) (last that_last : Machine) → RunsFrom blocks n m ran ending last → RunsFrom blocks n m that_ran that_ending that_last → SameRun ran that_ran ending that_ending last that_last
  one_run _ m _ _ _ _ _ _ sound.finished sound.finished = record { ran_is = refl; ending_is = refl; last_is = refl }
  one_run _ m _ _ _ _ _ _ sound.finished (sound.runs is going after) = cc
  one_run _ m _ _ _ _ _ _ sound.finished (sound.falls is fell) = cc
  one_run _ m _ _ _ _ _ _ (sound.runs is going after) sound.finished = cc
  one_run n m _ _ ending that_ending last that_last (sound.runs {b = b} {ran = ran} is going after) (sound.runs {b = c} {ran = that_ran} is' going' after') =
      let same : b ≡ c = same_block blocks n b c is is' in
      let rest : SameRun ran that_ran ending that_ending last that_last = one_run (next_block b.exit (steps b.statements m).stop) (steps b.statements m).machine ran that_ran ending that_ending last that_last after
      (subst (λ (x : Block). RunsFrom blocks (next_block x.exit (steps x.statements m).stop) (steps x.statements m).machine that_ran that_ending that_last) (sym same) after') in
      record { ran_is = (λ i. (steps (same i).statements m).ran ++ rest.ran_is i); ending_is = rest.ending_is; last_is = rest.last_is }
  one_run n m _ _ _ _ _ _ (sound.runs {b = b} is going after) (sound.falls {b = c} {t = t} is' fell) =
      let same : b ≡ c = same_block blocks n b c is is' in
      absurd (going t (ap (λ (x : Block). (steps x.statements m).stop) same ∙ fell))
  one_run _ m _ _ _ _ _ _ (sound.falls is fell) sound.finished = cc
  one_run n m _ _ _ _ _ _ (sound.falls {b = b} {t = t} is fell) (sound.runs {b = c} is' going after) =
      let same : b ≡ c = same_block blocks n b c is is' in
      absurd (going t (ap (λ (x : Block). (steps x.statements m).stop) (sym same) ∙ fell))
  one_run n m _ _ _ _ _ _ (sound.falls {b = b} {t = t} is fell) (sound.falls {b = c} {t = u} is' fell') =
      let same : b ≡ c = same_block blocks n b c is is' in
      let threw : Threw t ≡ Threw u = sym fell ∙ ap (λ (x : Block). (steps x.statements m).stop) same ∙ fell' in
      record { ran_is = (λ i. (steps (same i).statements m).ran); ending_is = cc; last_is = (λ i. (steps (same i).statements m).machine) }

-- ---- what the code does

is_call : (plan : Plan) (begin : Machine) (method : ℕ) (side : Side) (near far : Machine) (heap : List Object) (ran that_ran : List Ran) (ending that_ending : Ending) (reply : Value) → CallAgrees plan begin (first_block plan method) ran ending side near far → RunsAs plan begin method heap that_ran that_ending reply → CallIs plan side near far heap ran that_ran ending that_ending reply
is_call plan begin method side near far heap ran that_ran ending that_ending reply agrees runs =
    let same : SameRun ran that_ran ending that_ending agrees.last runs.last = one_run plan.blocks.blocks (first_block plan method) begin ran that_ran ending that_ending agrees.last runs.last agrees.runs runs.runs in
    record { one = runs.last; agree = subst (λ (m : Machine). Agree plan side near far m) same.last_is agrees.agree; heap_is = runs.heap_is; reply_is = runs.reply_is; ran_is = same.ran_is; ending_is = same.ending_is }

does : (plan : Plan) (begin : Machine) (method : ℕ) (side : Side) (near far : Machine) (ran : List Ran) (ending : Ending) (o : CodeOutcome) → CallAgrees plan begin (first_block plan method) ran ending side near far → BlocksRun plan begin method o → CallDoes plan side near far ran ending o
does plan begin method side near far ran ending (Gives x s) agrees run = is_call plan begin method side near far s.shared.heap ran s.ran ending Finished (unwrap_or x Null) agrees run
does plan begin method side near far ran ending (Throws t s) agrees run = is_call plan begin method side near far s.shared.heap ran s.ran ending (Fell t) Null agrees run
does plan begin method side near far ran ending (Asks q z) agrees run = absurd q

pub method_there : (methods : List Method) (n : ℕ) (m : Method) → method_at methods n ≡ Some m → n ≤ length methods
method_there methods zero m e = cc
method_there [] (suc n) m e = cc
method_there (x ∷ methods) (suc zero) m e = omega arith
method_there (x ∷ methods) (suc (suc n)) m e = let below = method_there methods (suc n) m e in omega (arith, below)

pub returning : (methods : List Method) (n : ℕ) (m : Method) → AllByRecursion (λ (x : Method). ends_in_return false x.body ≡ true) methods → method_at methods n ≡ Some m → ends_in_return false m.body ≡ true
returning methods zero m all e = cc
returning methods (suc n) m all e = each_at (λ (x : Method). ends_in_return false x.body ≡ true) methods n m all e

pub calls_do_as_code : CallsDoAsCode
calls_do_as_code plan app db one method args rest served last last_near last_far ran ending both =
    let slots_are : types_of (method_at plan.code.methods method) ≡ served.input.method.slots = ap types_of served.input.is.is in
    let begins : CallBegins plan app db one method args = calls_begin plan app db one method args rest served.input.fits (method_there plan.code.methods method served.input.method served.input.is.is)
    (subst (λ (types : List Ty). length args + 1 ≤ length types) (sym slots_are) served.room) served.input.plain in
    does plan (entered plan.code one method args) method last last_near last_far ran ending (run_of plan.code one method args)
    (calls_agree plan served.names (cut_is_good plan served.blocks served.no_literal served.return) App last (entered plan.code app method args) (attending db) last_near last_far (first_block plan method) ran ending both (entered plan.code one method args) begins.agree begins.can_tell.like served.input.fits (entries_fit plan one method args served.blocks served.input))
    (blocks_run_as_code plan one method args served.input.method served.blocks served.input.is.is (returning plan.code.methods method served.input.method served.return served.input.is.is) served.inside served.room)

-- ---- a commit

module _ (plan : Plan) (names : NamesClasses plan.code) (good : AreGoodBlocks plan) where
  -- the heap fits its code where blocks have run
  pub run_fits : (n : ℕ) (m last : Machine) (ran : List Ran) (ending : Ending) → RunsFrom plan.blocks.blocks n m ran ending last → Fits plan.code m.heap → ((b : Block) → block_at plan.blocks.blocks n ≡ Some b → MachineFits plan.code b.method m) → Fits plan.code last.heap
  run_fits _ m _ _ _ sound.finished fits machine = fits
  run_fits n m last _ ending (sound.runs {b = b} {ran = ran} is going after) fits machine =
      let g : IsGoodBlock plan b = good n b is in
      let stays : StaysWithin plan.code b.method m (steps b.statements m) = stay plan.code b.method b.statements m g.are g.plain (machine b is) in
      run_fits (next_block b.exit (steps b.statements m).stop) (steps b.statements m).machine last ran ending after stays.heap (next_fits plan names good b g m (steps b.statements m).machine (steps b.statements m).stop stays.machine)
  run_fits n m _ _ _ (sound.falls {b = b} is fell) fits machine =
      let g : IsGoodBlock plan b = good n b is in
      (stay plan.code b.method b.statements m g.are g.plain (machine b is)).heap

-- frames that are seen alike have the same values
same_value : (x y : Option Slot) → option_map (λ (s : Slot). s.value) x ≡ option_map (λ (s : Slot). s.value) y → slot_value x ≡ slot_value y
same_value None None e = refl
same_value None (Some y) e = cc
same_value (Some x) None e = cc
same_value (Some x) (Some y) e = cc

pub low_value : (fs gs : List Frame) → map seen fs ≡ map seen gs → value_in (slots_at fs 0) 0 ≡ value_in (slots_at gs 0) 0
low_value [] [] e = refl
low_value [] (g ∷ gs) e = cc
low_value (f ∷ fs) [] e = cc
low_value (f ∷ fs) (g ∷ gs) e = let same : seen f ≡ seen g = cc in by_slots f.slots g.slots (ap (λ (s : Seen). s.values) same)
  where
    by_slots : (xs ys : List Slot) → map (λ (s : Slot). s.value) xs ≡ map (λ (s : Slot). s.value) ys → value_in xs 0 ≡ value_in ys 0
    by_slots [] [] e = refl
    by_slots [] (y ∷ ys) e = cc
    by_slots (x ∷ xs) [] e = cc
    by_slots (x ∷ xs) (y ∷ ys) e = cc

committed : (plan : Plan) (begin near far : Machine) (method : ℕ) (u : Updates) (heap : List Object) (ran that_ran : List Ran) (reply : Value) → CallIs plan App near far heap ran that_ran Finished Finished reply → Fits plan.code heap → AreUpdates (Some plan) (length near.heap) near u → IsCommitted plan near far u heap ran that_ran reply
committed plan begin near far method u heap ran that_ran reply call fits are =
    let kept : IsKept plan near far call.one u = commits_keep plan near far call.one u call.agree (subst (λ (h : List Object). Fits plan.code h) (sym call.heap_is) fits) are in
    record {
      machine = kept.machine;
      taken = kept.taken;
      rest = subst (λ (h : List Object). Rest plan near.heap kept.machine.heap h) call.heap_is kept.rest;
      fits = fits;
      reply_is = low_value near.frames call.one.frames call.agree.frames ∙ call.reply_is;
      ran_is = call.ran_is;
    }

commits : (plan : Plan) (begin near far : Machine) (method : ℕ) (u : Updates) (ran : List Ran) (o : CodeOutcome) → CallDoes plan App near far ran Finished o → BlocksRun plan begin method o → ((last : Machine) (rs : List Ran) (ending : Ending) → RunsFrom plan.blocks.blocks (first_block plan method) begin rs ending last → Fits plan.code last.heap) → AreUpdates (Some plan) (length near.heap) near u → CommitsAs plan near far u ran o
commits plan begin near far method u ran (Gives x s) call run fits are = committed plan begin near far method u s.shared.heap ran s.ran (unwrap_or x Null) call (subst (λ (h : List Object). Fits plan.code h) run.heap_is (fits run.last s.ran Finished run.runs)) are
commits plan begin near far method u ran (Throws t s) call run fits are = absurd (other_end call.ending_is)
  where
    other_end : Finished ≡ Fell t → ⊥
    other_end e = cc
commits plan begin near far method u ran (Asks q z) call run fits are = absurd q

pub commits_as_code : CommitsAsCode
commits_as_code plan app db one method args rest served near far ran both u are =
    commits plan (entered plan.code one method args) near far method u ran (run_of plan.code one method args)
    (calls_do_as_code plan app db one method args rest served App near far ran Finished both)
    (blocks_run_as_code plan one method args served.input.method served.blocks served.input.is.is (returning plan.code.methods method served.input.method served.return served.input.is.is) served.inside served.room)
    (λ last rs ending run. run_fits plan served.names (cut_is_good plan served.blocks served.no_literal served.return) (first_block plan method) (entered plan.code one method args) last rs ending run served.input.fits (entries_fit plan one method args served.blocks served.input)) are
