-- One call of a session after the other: from what two ends did and counted, to what is told of the call.
use Rattle.std.proofs.Common.{◌≡◌, ℕ, ◌+◌, List, [], ◌∷◌, ◌++◌, length, Option, Some, None, refl, sym, ap, subst, ◌∙◌, arith, append_assoc, append-nil}
use Rattle.px_value.specs.declared.value.Value.{Value}
use Rattle.px_value.specs.declared.thrown.Thrown.{Thrown}
use Rattle.px_value.specs.declared.object.Object.{Object}
use Rattle.px_code.specs.declared.side.Side.{Side}
use Rattle.px_code.specs.declared.side.Side.TheVariants.{App, Db}
use Rattle.px_code.specs.declared.cell.Cell.{Cell}
use Rattle.px_code.specs.declared.method.Method.{Method}
use Rattle.px_code.specs.declared.plan.Plan.{Plan}
use Rattle.px_code.specs.declared.reply.Done.{Done}
use Rattle.px_code.specs.declared.reply.Reply.TheVariants as reply
use Rattle.px_code.specs.Places.{other}
use Rattle.px_code.specs.CodeRun.{method_at}
use Rattle.px_code.specs.Fits.{Fits}
use Rattle.px_code.specs.Machine.{Machine, slots_at, value_in}
use Rattle.px_code.specs.Sound.{Finished, Fell, IsInput, entered, first_block}
use Rattle.px_code.specs.Stale.{Event, Wrote, IsStale}
use Rattle.px_wire.specs.declared.updates.Updates.{Updates}
use Rattle.px_wire.specs.declared.message.Message.TheVariants.{Commit}
use Rattle.px_wire.specs.Spelling.{spelling}
use Rattle.px_half.specs.End.{gives_in, reply_of as end_reply, first_objects}
use Rattle.px_half.specs.Messages.{AreUpdates}
use Rattle.px_half.specs.Absorbed.{with_updates}
use Rattle.px_pair.specs.Ends.{moves_within, bytes_within}
use Rattle.px_pair.specs.Fresh.{IsFresh}
use Rattle.px_pair.specs.Sessions.{Rest, attending}
use Rattle.px_pair.specs.Story.{Happening, Did, Sent, Talks, transfers_in, moves_of, bytes_of, events_after}
use Rattle.px_pair.specs.Servable.{IsServable}
use Rattle.px_pair.specs.Served.{IsFinishedCall, IsThrownCall}
use Rattle.px_pair.specs.Callable.{IsCallable}
use Rattle.px_pair.proofs.Served.{calls_are_served}
use Rattle.px_pair.proofs.Sessions.{new_rests}
use Rattle.px_pair.proofs.Replies.{replied, replies_alike}
use Rattle.px_pair.proofs.FirstHeap.{first_heap_fits, is_input}
use Rattle.px_session.specs.Serving.{Call, Called, reply_of, called_as, by_code, commits, aborts, IsServed, Calling, AreServed, none, more}

-- ---- what an end tells of a call

-- of one that was committed with these updates; `near` is the machine of APP, where it ended
pub record IsCommitDone (plan : Plan) (c : Call) (story : List Happening) (near : Machine) (u : Updates) (done : Done) : Type 0 where
  pub reply_is : done.reply ≡ end_reply (gives_in (method_at plan.code.methods c.method)) (value_in (slots_at near.frames 0) 0)
  pub prints : done.prints ≡ []
  pub part : done.part ≡ 0
  pub avg : done.avg ≡ 0
  pub rehome : done.rehome ≡ 0
  pub moves : done.moves ≡ moves_within (moves_of story)
  pub bytes : done.bytes ≡ bytes_within (bytes_of story + length (spelling (Commit u)))

-- of one that threw
pub record IsAbortDone (story : List Happening) (t : Thrown) (done : Done) : Type 0 where
  pub reply_is : done.reply ≡ reply.Threw t
  pub prints : done.prints ≡ []
  pub part : done.part ≡ 0
  pub avg : done.avg ≡ 0
  pub rehome : done.rehome ≡ 0
  pub moves : done.moves ≡ moves_within (moves_of story)
  pub bytes : done.bytes ≡ bytes_within (bytes_of story + 2)

-- ---- one call

-- The call is served; then both ends have what the code leaves, and the next one may begin.
pub record IsStep (plan : Plan) (one : List Object) (c : Call) (done : Done) (app db : List Object) (before after : List Event) : Type 0 where
  pub served : IsServed plan one c (by_code plan.code one c).reply before done after
  pub rest : Rest plan app db (by_code plan.code one c).heap
  pub fits : Fits plan.code (by_code plan.code one c).heap
  pub fresh : IsFresh plan App (by_code plan.code one c).heap [] after

-- the commit is no turn, and its bytes are counted
moves_then : (story : List Happening) (u : Updates) → moves_of (story ++ Sent Db (Commit u) ∷ []) ≡ moves_of story
moves_then [] u = refl
moves_then (Did side ran ∷ story) u = moves_then story u
moves_then (Sent side message ∷ story) u = ap (λ (n : ℕ). transfers_in message + n) (moves_then story u)

bytes_then : (story : List Happening) (u : Updates) → bytes_of (story ++ Sent Db (Commit u) ∷ []) ≡ bytes_of story + length (spelling (Commit u))
bytes_then [] u = omega arith
bytes_then (Did side ran ∷ story) u = bytes_then story u
bytes_then (Sent side message ∷ story) u = let rest = bytes_then story u in omega (arith, rest)

same_reply : (v : Option Value) → replied v ≡ reply_of v
same_reply None = refl
same_reply (Some x) = refl

module _ (plan : Plan) (servable : IsServable plan) (app db one : List Object) (rest : Rest plan app db one) (fits : Fits plan.code one) (events : List Event) (fresh : IsFresh plan App one [] events) (c : Call) (callable : IsCallable plan.code c.method c.args) (story : List Happening) (last : Side) (near far : Machine) where
  input : IsInput plan.code one c.method c.args
  input = is_input plan.code one c.method c.args fits callable

  -- a call that ended at APP, after its commit
  pub commit_steps : Talks plan App (entered plan.code app c.method c.args) (attending db) (first_block plan c.method) story Finished last near far
      → (u : Updates) → AreUpdates (Some plan) (length near.heap) near u → (new : Machine) → with_updates plan u far ≡ Some new → (done : Done) → IsCommitDone plan c story near u done
      → IsStep plan one c done near.heap new.heap events (events_after (story ++ Sent Db (Commit u) ∷ []) events)
  commit_steps talks u are new taken done told = record {
    served = record {
      story = all;
      ending = Finished;
      is = commits call.told call.updates;
      none_stale = (call.fresh events fresh).1;
      after_is = refl;
      reply_is = told.reply_is ∙ ap (λ (m : Option Method). end_reply (gives_in m) (value_in (slots_at near.frames 0) 0)) callable.is.is ∙ ap (λ (x : Value). end_reply callable.method.gives x) call.reply_is
          ∙ replies_alike plan.code servable.formed one c.method c.args callable.method callable.is.is call.value call.state call.gives ∙ same_reply call.value ∙ sym (ap (λ (x : Called). x.reply) called_is);
      prints = told.prints;
      moves = told.moves ∙ ap (λ (n : ℕ). moves_within n) (sym (moves_then story u));
      bytes = told.bytes ∙ ap (λ (n : ℕ). bytes_within n) all_bytes;
      part = told.part;
      avg = told.avg;
      rehome = told.rehome;
    };
    rest = subst (λ (heap : List Object). Rest plan near.heap new.heap heap) (sym heap_is) (call.rest new taken);
    fits = subst (Fits plan.code) (sym heap_is) call.fits;
    fresh = subst (λ (heap : List Object). IsFresh plan App heap [] (events_after all events)) (sym heap_is) (call.fresh events fresh);
  }
    where
      all : List Happening
      all = story ++ Sent Db (Commit u) ∷ []

      call : IsFinishedCall plan one c.method c.args story last near far u
      call = calls_are_served plan servable app db one rest c.method c.args input story Finished last near far talks u are

      called_is : by_code plan.code one c ≡ record { reply = reply_of call.value; heap = call.state.shared.heap }
      called_is = ap (called_as one) call.gives

      heap_is : (by_code plan.code one c).heap ≡ call.state.shared.heap
      heap_is = ap (λ (x : Called). x.heap) called_is

      all_bytes : bytes_of story + length (spelling (Commit u)) ≡ bytes_of all + 0
      all_bytes = let counted = bytes_then story u in omega (arith, counted)

  -- a call that threw, and was undone at both ends
  pub throw_steps : (t : Thrown) → Talks plan App (entered plan.code app c.method c.args) (attending db) (first_block plan c.method) story (Fell t) last near far → (done : Done) → IsAbortDone story t done
      → IsStep plan one c done app db events events
  throw_steps t talks done told = record {
    served = record {
      story = story;
      ending = Fell t;
      is = aborts call.told;
      none_stale = call.none_stale events fresh;
      after_is = refl;
      reply_is = told.reply_is ∙ sym (ap (λ (x : Called). x.reply) called_is);
      prints = told.prints;
      moves = told.moves;
      bytes = told.bytes;
      part = told.part;
      avg = told.avg;
      rehome = told.rehome;
    };
    rest = subst (λ (heap : List Object). Rest plan app db heap) (sym heap_is) rest;
    fits = subst (Fits plan.code) (sym heap_is) fits;
    fresh = subst (λ (heap : List Object). IsFresh plan App heap [] events) (sym heap_is) fresh;
  }
    where
      call : IsThrownCall plan one c.method c.args story t
      call = calls_are_served plan servable app db one rest c.method c.args input story (Fell t) last near far talks

      called_is : by_code plan.code one c ≡ record { reply = reply.Threw t; heap = one }
      called_is = ap (called_as one) call.throws

      heap_is : (by_code plan.code one c).heap ≡ one
      heap_is = ap (λ (x : Called). x.heap) called_is

-- ---- a new session

not_stale : (side : Side) (c : Cell) → IsStale [] side c → ⊥
not_stale side c stale = by stale.later stale.split
  where
    by : (later : List Event) → [] ≡ later ++ Wrote (other side) c ∷ stale.earlier → ⊥
    by [] e = cc
    by (x ∷ later) e = cc

-- nothing was written yet
pub new_is_fresh : (plan : Plan) (heap : List Object) → IsFresh plan App heap [] []
new_is_fresh plan heap = (record { here = λ c kept. not_stale App c; there = λ c kept marked. not_stale Db c }, tt)

-- Both ends of a new session have the first heap, which fits; its first call may begin.
pub record IsNew (plan : Plan) (heap : List Object) : Type 0 where
  pub rest : Rest plan heap heap heap
  pub fits : Fits plan.code heap
  pub fresh : IsFresh plan App heap [] []

pub begins : (plan : Plan) → IsNew plan (first_objects (Some plan))
begins plan = record { rest = new_rests plan (first_objects (Some plan)); fits = (first_heap_fits plan).fits; fresh = new_is_fresh plan (first_objects (Some plan)) }

-- ---- all calls

-- These calls were served, and led from the first heap and events to those that are there now: what is served from here goes on them.
pub record AreServedSoFar (calling : Calling) (plan : Plan) (first : List Object) (before : List Event) (calls : List Call) (dones : List Done) (heap : List Object) (events : List Event) : Type 0 where
  pub go_on : (later : List Call) (then_dones : List Done) → AreServed calling plan heap events later then_dones → AreServed calling plan first before (calls ++ later) (dones ++ then_dones)

pub none_yet : (calling : Calling) (plan : Plan) (first : List Object) (before : List Event) → AreServedSoFar calling plan first before [] [] first before
none_yet calling plan first before = record { go_on = λ later then_dones served. served }

pub one_more : (calling : Calling) (plan : Plan) (first heap : List Object) (before events after : List Event) (calls : List Call) (dones : List Done) → AreServedSoFar calling plan first before calls dones heap events
    → (c : Call) (done : Done) → IsServed plan heap c (calling heap c).reply events done after → AreServedSoFar calling plan first before (calls ++ c ∷ []) (dones ++ done ∷ []) (calling heap c).heap after
one_more calling plan first heap before events after calls dones so_far c done served = record {
  go_on = λ later then_dones rest.
      rw (append_assoc calls (c ∷ []) later, append_assoc dones (done ∷ []) then_dones) (so_far.go_on (c ∷ later) (done ∷ then_dones) (more served rest));
}

pub all_served : (calling : Calling) (plan : Plan) (first heap : List Object) (before events : List Event) (calls : List Call) (dones : List Done) → AreServedSoFar calling plan first before calls dones heap events → AreServed calling plan first before calls dones
all_served calling plan first heap before events calls dones so_far = rw (append-nil calls, append-nil dones) at (so_far.go_on [] [] none)
