-- A call at two ends does what its code does, and a commit leaves both with what the code leaves.
use Rattle.std.proofs.Common.{◌≡◌, ℕ, ◌+◌, ◌≤◌, List, [], ◌∷◌, ◌++◌, map, length, Option, Some, is_some, refl, sym, ap, subst, ◌∙◌}
use Rattle.px_value.specs.declared.value.Value.{Value}
use Rattle.px_value.specs.declared.object.Object.{Object}
use Rattle.px_value.specs.declared.thrown.Thrown.{Thrown}
use Rattle.px_value.specs.declared.ty.Ty.{Ty}
use Rattle.px_value.specs.Outcome.{Gives, Throws, Asks}
use Rattle.px_code.specs.declared.side.Side.{Side}
use Rattle.px_code.specs.declared.side.Side.TheVariants.{App, Db}
use Rattle.px_code.specs.declared.block.Block.{Block}
use Rattle.px_code.specs.declared.plan.Plan.{Plan}
use Rattle.px_code.specs.Places.{other}
use Rattle.px_code.specs.Frames.{types_of}
use Rattle.px_code.specs.Fits.{Fits, header_at}
use Rattle.px_code.specs.CodeRun.{Ran, method_at}
use Rattle.px_code.specs.Stale.{Event}
use Rattle.px_code.specs.Law.{MachineFits, StaysWithin}
use Rattle.px_code.specs.Machine.{Machine, steps, block_at, next_block}
use Rattle.px_code.specs.Sound.{Ending, Finished, Fell, RunsFrom, CodeOutcome, run_of, IsInput, entered, first_block, BlocksRun}
use Rattle.px_code.specs.Sound as sound
use Rattle.px_code.proofs.Staying.{stay}
use Rattle.px_wire.specs.declared.updates.Updates.{Updates}
use Rattle.px_wire.specs.declared.message.Message.TheVariants.{Commit}
use Rattle.px_half.specs.Messages.{AreUpdates}
use Rattle.px_pair.specs.Agree.{seen, Agree}
use Rattle.px_pair.specs.Law.{NamesClasses}
use Rattle.px_pair.specs.Calls.{IsGoodBlock, AreGoodBlocks}
use Rattle.px_pair.specs.Fresh.{MarksThere, IsFresh}
use Rattle.px_pair.specs.Sessions.{Rest, attending, CallBegins, IsKept}
use Rattle.px_pair.specs.Crossing.{quiet}
use Rattle.px_pair.specs.Story.{Happening, Sent, Told, Talks, finished, runs, falls, crosses, with_happening, events_after}
use Rattle.px_pair.specs.Servable.{IsServable}
use Rattle.px_pair.specs.Served.{IsTold, IsFinishedCall, IsThrownCall, IsServedCall, CallsAreServed}
use Rattle.px_pair.proofs.Calls.{next_fits}
use Rattle.px_pair.proofs.Sessions.{calls_begin, commits_keep}
use Rattle.px_pair.proofs.Entries.{entries_fit}
use Rattle.px_pair.proofs.BlocksRun.{blocks_run_as_code}
use Rattle.px_pair.proofs.Whole.{SameRun, one_run, method_there, returning, run_fits, low_value}
use Rattle.px_pair.proofs.FreshCalls.{nothing_stale, commits_leave_fresh, fresh_on}
use Rattle.px_pair.proofs.Servable.{names_classes, good_blocks, all_return, writes_inside, entry_room}
use Rattle.px_pair.proofs.Forgetting.{Forgotten, forget}
use Rattle.px_pair.proofs.Marks.{AreMarksThere, marks_there}
use Rattle.px_pair.proofs.Handing.{same_updates}
use Rattle.px_pair.proofs.Told.{talks_are_told}
use Rattle.px_pair.proofs.ToldRuns.{ToldRun, told_runs}

-- ---- runs of blocks leave the headers

module _ (plan : Plan) (names : NamesClasses plan.code) (good : AreGoodBlocks plan) where
  pub run_headers : (n : ℕ) (m last : Machine) (ran : List Ran) (ending : Ending) → RunsFrom plan.blocks.blocks n m ran ending last → ((b : Block) → block_at plan.blocks.blocks n ≡ Some b → MachineFits plan.code b.method m) → (o : ℕ) → header_at last.heap o ≡ header_at m.heap o
  run_headers _ m _ _ _ sound.finished machine o = refl
  run_headers n m last _ ending (sound.runs {b = b} {ran = ran} is going after) machine o =
      let g : IsGoodBlock plan b = good n b is in
      let stays : StaysWithin plan.code b.method m (steps b.statements m) = stay plan.code b.method b.statements m g.are g.plain (machine b is) in
      run_headers (next_block b.exit (steps b.statements m).stop) (steps b.statements m).machine last ran ending after (next_fits plan names good b g m (steps b.statements m).machine (steps b.statements m).stop stays.machine) o ∙ stays.headers o
  run_headers n m _ _ _ (sound.falls {b = b} is fell) machine o =
      let g : IsGoodBlock plan b = good n b is in
      (stay plan.code b.method b.statements m g.are g.plain (machine b is)).headers o

-- ---- stories

events_more : (xs ys : List Happening) (events : List Event) → events_after (xs ++ ys) events ≡ events_after ys (events_after xs events)
events_more [] ys events = refl
events_more (h ∷ xs) ys events = events_more xs ys (with_happening h events)

-- a call that ends does so at APP
pub ends_at_app : (plan : Plan) (side last : Side) (near far last_near last_far : Machine) (n : ℕ) (story : List Happening) (ending : Ending) → Talks plan side near far n story ending last last_near last_far → ending ≡ Finished → last ≡ App
ends_at_app plan _ _ near far _ _ _ _ _ finished e = refl
ends_at_app plan side last near far last_near last_far n _ ending (runs {b = b} {story = rest} is at going after) e = ends_at_app plan side last (steps b.statements near).machine far last_near last_far (next_block b.exit (steps b.statements near).stop) rest ending after e
ends_at_app plan side _ near far _ _ n _ _ (falls is at fell) e = cc
ends_at_app plan side last near far last_near last_far n _ ending (crosses {new = new} {story = rest} at hands taken after) e = ends_at_app plan (other side) last new (quiet near) last_near last_far n rest ending after e

-- ---- a whole call

module _ (plan : Plan) (servable : IsServable plan) (app db one : List Object) (rest : Rest plan app db one) (method : ℕ) (args : List Value) (input : IsInput plan.code one method args) (story : List Happening) (ending : Ending) (last : Side) (near far : Machine) (talks : Talks plan App (entered plan.code app method args) (attending db) (first_block plan method) story ending last near far) where
  abbrev begin : Machine
  begin = entered plan.code one method args

  names : NamesClasses plan.code
  names = names_classes plan.code servable.formed

  good : AreGoodBlocks plan
  good = good_blocks plan servable

  room : length args + 1 ≤ length input.method.slots
  room = entry_room plan one method args servable input

  begins : CallBegins plan app db one method args
  begins =
      let slots_are : types_of (method_at plan.code.methods method) ≡ input.method.slots = ap types_of input.is.is in
      calls_begin plan app db one method args rest input.fits (method_there plan.code.methods method input.method input.is.is)
      (subst (λ (types : List Ty). length args + 1 ≤ length types) (sym slots_are) room) input.plain

  first_fits : (b : Block) → block_at plan.blocks.blocks (first_block plan method) ≡ Some b → MachineFits plan.code b.method begin
  first_fits = entries_fit plan one method args servable.blocks input

  forgotten : Forgotten plan App (entered plan.code app method args) (attending db) (first_block plan method) story ending last near far
  forgotten = forget plan App last (entered plan.code app method args) (attending db) near far (first_block plan method) story ending talks

  marks : MarksThere plan App (entered plan.code app method args) (attending db) (first_block plan method) forgotten.ran ending last near far forgotten.runs × AreMarksThere near
  marks = marks_there plan servable.formed names good App last (entered plan.code app method args) (attending db) near far (first_block plan method) forgotten.ran ending forgotten.runs begin begins.agree begins.can_tell.like input.fits first_fits (λ o i h. cc)

  told : IsTold plan App begin (first_block plan method) story ending last near far
  told = talks_are_told plan servable App last (entered plan.code app method args) (attending db) near far (first_block plan method) story ending talks begin begins.agree (record { frames = refl; base = refl; marks = refl; named = refl }) begins.can_tell.like input.fits first_fits

  told_run : ToldRun plan.blocks.blocks (first_block plan method) begin story ending told.machine
  told_run = told_runs plan App begin told.machine (first_block plan method) story ending told.told begin (record { heap = refl; frames = refl })

  as_code : BlocksRun plan begin method (run_of plan.code one method args)
  as_code = blocks_run_as_code plan one method args input.method servable.blocks input.is.is (returning plan.code.methods method input.method (all_return plan.code servable.formed) input.is.is) (writes_inside plan.code servable.formed method input.method input.is.is) room

  headers : (o : ℕ) → header_at told.machine.heap o ≡ header_at one o
  headers o = ap (λ (heap : List Object). header_at heap o) told_run.same.heap ∙ run_headers plan names good (first_block plan method) begin told_run.machine _ ending told_run.runs first_fits o

  fits : Fits plan.code told.machine.heap
  fits = subst (Fits plan.code) (sym told_run.same.heap) (run_fits plan names good (first_block plan method) begin told_run.machine _ ending told_run.runs input.fits first_fits)

  fresh : (events : List Event) → IsFresh plan App one [] events → IsFresh plan last one near.marks (events_after story events)
  fresh events before =
      subst (λ (es : List Event). IsFresh plan last one near.marks es) (forgotten.events events)
      (nothing_stale plan names good App last (entered plan.code app method args) (attending db) near far (first_block plan method) forgotten.ran ending forgotten.runs begin begins.agree begins.can_tell.like input.fits first_fits marks.0 events before)

  -- a call that threw
  thrown : (t : Thrown) → ending ≡ Fell t → IsThrownCall plan one method args story t
  thrown t fell = by_outcome (run_of plan.code one method args) refl as_code
    where
      by_outcome : (o : CodeOutcome) → run_of plan.code one method args ≡ o → BlocksRun plan begin method o → IsThrownCall plan one method args story t
      by_outcome (Gives x s) is run =
          let same : SameRun _ s.ran ending Finished told_run.machine run.last = one_run plan.blocks.blocks (first_block plan method) begin _ s.ran ending Finished told_run.machine run.last told_run.runs run.runs in
          let never : Fell t ≡ Finished = sym fell ∙ same.ending_is in
          cc
      by_outcome (Throws u s) is run =
          let same : SameRun _ s.ran ending (Fell u) told_run.machine run.last = one_run plan.blocks.blocks (first_block plan method) begin _ s.ran ending (Fell u) told_run.machine run.last told_run.runs run.runs in
          let both : Fell u ≡ Fell t = sym same.ending_is ∙ fell in
          let thrown_is : u ≡ t = cc in
          record {
            state = s;
            throws = is ∙ ap (λ (x : Thrown). Throws x s) thrown_is;
            ran_is = same.ran_is;
            machine = told.machine;
            told = subst (λ (e : Ending). Told plan App begin (first_block plan method) story e told.machine) fell told.told;
            heap_is = told_run.same.heap ∙ ap (λ (m : Machine). m.heap) same.last_is ∙ run.heap_is;
            none_stale = λ events before. (fresh events before).1;
          }
      by_outcome (Asks q z) is run = absurd q

  -- a call that ended, and its commit
  ended : ending ≡ Finished → (u : Updates) → AreUpdates (Some plan) (length near.heap) near u → IsFinishedCall plan one method args story last near far u
  ended finishes u are = by_outcome (run_of plan.code one method args) refl as_code
    where
      at_app : last ≡ App
      at_app = ends_at_app plan App last (entered plan.code app method args) (attending db) near far (first_block plan method) story ending talks finishes

      agree : Agree plan App near far told.machine
      agree = subst (λ (y : Side). Agree plan y near far told.machine) at_app told.agree

      kept : IsKept plan near far told.machine u
      kept = commits_keep plan near far told.machine u agree fits are

      fresh_after : (events : List Event) → IsFresh plan App one [] events → IsFresh plan App told.machine.heap [] (events_after (story ++ Sent Db (Commit u) ∷ []) events)
      fresh_after events before =
          subst (λ (es : List Event). IsFresh plan App told.machine.heap [] es) (sym (events_more story (Sent Db (Commit u) ∷ []) events))
          (commits_leave_fresh plan near far told.machine u agree are marks.1 (events_after story events)
          (fresh_on plan App one told.machine.heap near.marks (events_after story events) headers (subst (λ (y : Side). IsFresh plan y one near.marks (events_after story events)) at_app (fresh events before))))

      by_outcome : (o : CodeOutcome) → run_of plan.code one method args ≡ o → BlocksRun plan begin method o → IsFinishedCall plan one method args story last near far u
      by_outcome (Gives x s) is run =
          let same : SameRun _ s.ran ending Finished told_run.machine run.last = one_run plan.blocks.blocks (first_block plan method) begin _ s.ran ending Finished told_run.machine run.last told_run.runs run.runs in
          let heap_is : told.machine.heap ≡ s.shared.heap = told_run.same.heap ∙ ap (λ (m : Machine). m.heap) same.last_is ∙ run.heap_is in
          let seen_is : map seen near.frames ≡ map seen run.last.frames = ap (map seen) told.alike.frames ∙ told_run.same.frames ∙ ap (λ (m : Machine). map seen m.frames) same.last_is in
          record {
            last_is = at_app;
            value = x;
            state = s;
            gives = is;
            fits = subst (Fits plan.code) heap_is fits;
            ran_is = same.ran_is;
            reply_is = low_value near.frames run.last.frames seen_is ∙ run.reply_is;
            machine = told.machine;
            told = subst (λ (e : Ending). Told plan App begin (first_block plan method) story e told.machine) finishes told.told;
            heap_is = heap_is;
            updates = same_updates plan near told.machine told.alike told.agree.near_headers (λ o i. (told.agree.copies o i).written) u are;
            taken = ap (λ (x : Option Machine). is_some x) kept.taken;
            rest = λ new taken.
                let new_is : Some kept.machine ≡ Some new = sym kept.taken ∙ taken in
                let machine_is : kept.machine ≡ new = cc in
                subst (λ (heap : List Object). Rest plan near.heap new.heap heap) heap_is (subst (λ (m : Machine). Rest plan near.heap m.heap told.machine.heap) machine_is kept.rest);
            fresh = λ events before. subst (λ (heap : List Object). IsFresh plan App heap [] (events_after (story ++ Sent Db (Commit u) ∷ []) events)) heap_is (fresh_after events before);
          }
      by_outcome (Throws t s) is run =
          let same : SameRun _ s.ran ending (Fell t) told_run.machine run.last = one_run plan.blocks.blocks (first_block plan method) begin _ s.ran ending (Fell t) told_run.machine run.last told_run.runs run.runs in
          let never : Finished ≡ Fell t = sym finishes ∙ same.ending_is in
          cc
      by_outcome (Asks q z) is run = absurd q

by_ending : (plan : Plan) (servable : IsServable plan) (app db one : List Object) (rest : Rest plan app db one) (method : ℕ) (args : List Value) (input : IsInput plan.code one method args) (story : List Happening) (ending : Ending) (last : Side) (near far : Machine) → Talks plan App (entered plan.code app method args) (attending db) (first_block plan method) story ending last near far → IsServedCall plan one method args story ending last near far
by_ending plan servable app db one rest method args input story Finished last near far talks = ended plan servable app db one rest method args input story Finished last near far talks refl
by_ending plan servable app db one rest method args input story (Fell t) last near far talks = thrown plan servable app db one rest method args input story (Fell t) last near far talks t refl

pub calls_are_served : CallsAreServed
calls_are_served plan servable app db one rest method args input story ending last near far talks = by_ending plan servable app db one rest method args input story ending last near far talks
