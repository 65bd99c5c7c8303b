-- A call of a session, from rest to rest.
use Rattle.std.proofs.Common.{◌≡◌, ℕ, ◌+◌, List, [], ◌∷◌, length, min, Option, Some, None, refl, sym, ap, subst, ◌∙◌, arith}
use Rattle.px_value.specs.declared.object.Object.{Object}
use Rattle.px_value.specs.declared.thrown.Thrown.{Thrown}
use Rattle.px_code.specs.declared.side.Side.{Side}
use Rattle.px_code.specs.declared.side.Side.TheVariants.{App}
use Rattle.px_code.specs.declared.plan.Plan.{Plan}
use Rattle.px_code.specs.declared.reply.Done.{Done}
use Rattle.px_code.specs.Places.{other}
use Rattle.px_code.specs.Stale.{Event}
use Rattle.px_code.specs.Frames.{root_frame, entry_frame}
use Rattle.px_code.specs.CodeRun.{method_at}
use Rattle.px_code.specs.Machine.{Machine, slots_at, value_in}
use Rattle.px_code.specs.Sound.{Ending, Finished, Fell, entered, first_block}
use Rattle.px_wire.specs.declared.message.Message.TheVariants.{Commit}
use Rattle.px_wire.specs.Spelling.{spelling}
use Rattle.px_half.specs.End.{End, plan_at, methods_in, gives_in, reply_of, first_block as first_block_of}
use Rattle.px_half.specs.Messages.{AreUpdates}
use Rattle.px_pair.specs.declared.ends.Ends.{Ends}
use Rattle.px_pair.specs.declared.stage.Stage.TheVariants.{Taken}
use Rattle.px_pair.specs.Sessions.{Rest, attending}
use Rattle.px_pair.specs.Story.{Talks, bytes_of}
use Rattle.px_pair.specs.Callable.{IsCallable}
use Rattle.px_pair.specs.Ends.{end_at, near, far, AreSameEnds, HaveTalked}
use Rattle.px_pair.specs.Pair.{State, begun_pair, HasCommitted, HasAborted, committed, taken_back}
use Rattle.px_pair.proofs.Pairs.{same_plan}
use Rattle.px_pair.proofs.Served.{ends_at_app}
use Rattle.px_session.specs.Serving.{Call, by_code}
use Rattle.px_session.specs.Resting.{IsResting, HasServed}
use Rattle.px_session.proofs.Served.{IsStep, commit_steps, throw_steps}

capped_more : (cap a b n : ℕ) → a ≡ min n cap → min (a + b) cap ≡ min (n + b) cap
capped_more cap a b n h = omega (arith, h)

module _ (plan : Plan) (one : List Object) (events : List Event) (p : State) (c : Call) (rest : IsResting plan one events p) (callable : IsCallable plan.code c.method c.args) (mid : State) (same : AreSameEnds (begun_pair c.method c.args p).ends mid.ends) where
  abbrev begin : State
  begin = begun_pair c.method c.args p

  app_machine : begin.ends.app.machine ≡ entered plan.code p.ends.app.closed c.method c.args
  app_machine = λ i. record (rest.app.machine i) { frames = root_frame ∷ entry_frame (methods_in (rest.app_plan i)) c.method c.args ∷ []; base = 0 }

  db_machine : begin.ends.db.machine ≡ attending p.ends.db.closed
  db_machine = λ i. record (rest.db.machine i) { frames = []; base = 0 }

  block_is : begin.ends.app.block ≡ first_block plan c.method
  block_is = ap (λ (x : Option Plan). first_block_of x c.method) rest.app_plan

  mid_plan : plan_at mid.ends.app ≡ Some plan
  mid_plan = same_plan begin.ends.app mid.ends.app plan same.app rest.app_plan

  mid_db_plan : plan_at mid.ends.db ≡ Some plan
  mid_db_plan = same_plan begin.ends.db mid.ends.db plan same.db rest.db_plan

  -- what the two ends told each other is of a call that begins where both rest
  talks_from : (ending : Ending) (talked : HaveTalked begin.ends mid.ends ending) → Talks plan App (entered plan.code p.ends.app.closed c.method c.args) (attending p.ends.db.closed) (first_block plan c.method) talked.story ending mid.ends.at (near mid.ends).machine (far mid.ends).machine
  talks_from ending talked =
      subst (λ (n : ℕ). Talks plan App (entered plan.code p.ends.app.closed c.method c.args) (attending p.ends.db.closed) n talked.story ending mid.ends.at (near mid.ends).machine (far mid.ends).machine) block_is
      (subst (λ (m : Machine). Talks plan App (entered plan.code p.ends.app.closed c.method c.args) m begin.ends.app.block talked.story ending mid.ends.at (near mid.ends).machine (far mid.ends).machine) db_machine
      (subst (λ (m : Machine). Talks plan App m begin.ends.db.machine begin.ends.app.block talked.story ending mid.ends.at (near mid.ends).machine (far mid.ends).machine) app_machine
      (talked.talks plan rest.app_plan)))

  -- ---- a call that ended

  pub commit_serves : (talked : HaveTalked begin.ends mid.ends Finished) (taken : Ends) (done : Done) → HasCommitted mid.ends taken done → AreSameEnds mid.ends taken → HasServed plan one events c done (committed (record { ends = taken; stage = Taken None }))
  commit_serves talked taken done told same_taken =
      let at : mid.ends.at ≡ App = ends_at_app plan App mid.ends.at _ _ _ _ _ talked.story Finished (talks_from Finished talked) refl in
      let talks : Talks plan App (entered plan.code p.ends.app.closed c.method c.args) (attending p.ends.db.closed) (first_block plan c.method) talked.story Finished App mid.ends.app.machine mid.ends.db.machine =
      subst (λ (y : Side). Talks plan App (entered plan.code p.ends.app.closed c.method c.args) (attending p.ends.db.closed) (first_block plan c.method) talked.story Finished y (end_at y mid.ends).machine (end_at (other y) mid.ends).machine) at (talks_from Finished talked) in
      let are : AreUpdates (Some plan) (length mid.ends.app.machine.heap) mid.ends.app.machine told.commit =
      subst (λ (k : ℕ). AreUpdates (Some plan) k mid.ends.app.machine told.commit) told.knows (subst (λ (q : Option Plan). AreUpdates q mid.ends.app.known mid.ends.app.machine told.commit) mid_plan told.are) in
      let step : IsStep plan one c done mid.ends.app.machine.heap taken.db.machine.heap events _ =
      commit_steps plan rest.servable p.ends.app.closed p.ends.db.closed one rest.rest rest.fits events rest.fresh c callable talked.story App mid.ends.app.machine mid.ends.db.machine talks told.commit are taken.db.machine (told.db plan mid_db_plan) done (record {
        reply_is = told.reply_is ∙ (λ i. reply_of (gives_in (method_at (methods_in (mid_plan i)) (same.app.entry i))) (value_in (slots_at mid.ends.app.machine.frames 0) 0));
        prints = told.prints;
        part = told.part;
        avg = told.avg;
        rehome = told.rehome;
        moves = told.moves ∙ talked.moves;
        bytes = told.bytes ∙ capped_more _ mid.ends.bytes (length (spelling (Commit told.commit))) (bytes_of talked.story) talked.bytes;
      }) in
      record {
        after = _;
        served = step.served;
        resting = record {
          servable = rest.servable;
          stage = refl;
          app_plan = same_plan mid.ends.app taken.app plan same_taken.app mid_plan;
          db_plan = same_plan mid.ends.db taken.db plan same_taken.db mid_db_plan;
          app = record { machine = refl; known = refl; closed = refl };
          db = record { machine = refl; known = refl; closed = refl };
          rest = subst (λ (e : End). Rest plan e.machine.heap taken.db.machine.heap (by_code plan.code one c).heap) (sym told.app) step.rest;
          fits = step.fits;
          fresh = step.fresh;
        };
      }

  -- ---- a call that threw

  pub throw_serves : (t : Thrown) (talked : HaveTalked begin.ends mid.ends (Fell t)) (done : Done) → HasAborted t mid.ends done → HasServed plan one events c done (taken_back (record { ends = mid.ends; stage = Taken (Some t) }))
  throw_serves t talked done told =
      let step : IsStep plan one c done p.ends.app.closed p.ends.db.closed events events =
      throw_steps plan rest.servable p.ends.app.closed p.ends.db.closed one rest.rest rest.fits events rest.fresh c callable talked.story mid.ends.at (near mid.ends).machine (far mid.ends).machine t (talks_from (Fell t) talked) done (record {
        reply_is = told.reply_is;
        prints = told.prints;
        part = told.part;
        avg = told.avg;
        rehome = told.rehome;
        moves = told.moves ∙ talked.moves;
        bytes = told.bytes ∙ capped_more _ mid.ends.bytes 2 (bytes_of talked.story) talked.bytes;
      }) in
      record {
        after = events;
        served = step.served;
        resting = record {
          servable = rest.servable;
          stage = refl;
          app_plan = mid_plan;
          db_plan = mid_db_plan;
          app = record { machine = refl; known = refl; closed = refl };
          db = record { machine = refl; known = refl; closed = refl };
          rest = subst (λ (h : List Object). Rest plan h mid.ends.db.closed (by_code plan.code one c).heap) (sym same.app_closed) (subst (λ (h : List Object). Rest plan p.ends.app.closed h (by_code plan.code one c).heap) (sym same.db_closed) step.rest);
          fits = step.fits;
          fresh = step.fresh;
        };
      }
