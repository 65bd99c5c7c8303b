-- A session that serves one call after the other.
use Rattle.std.proofs.Common.{◌≡◌, ℕ, zero, suc, ◌+◌, ◌≤◌, List, [], ◌∷◌, ◌++◌, map, drop, length, Option, Some, None, slice_get, refl, sym, ap, subst, ◌∙◌, arith, append_assoc, append-nil, add-one}
use Rattle.std.specs.List.{AllByRecursion}
use Rattle.px_value.specs.declared.object.Object.{Object}
use Rattle.px_value.specs.declared.thrown.Thrown.{Thrown}
use Rattle.px_code.specs.declared.plan.Plan.{Plan}
use Rattle.px_code.specs.declared.reply.Done.{Done}
use Rattle.px_code.specs.declared.reply.Reply.{Reply}
use Rattle.px_code.specs.declared.reply.Reply.TheVariants as reply
use Rattle.px_code.specs.Stale.{Event}
use Rattle.px_half.specs.End.{first_objects, reply_of}
use Rattle.px_value.specs.declared.value.Value.{Value}
use Rattle.px_value.specs.declared.ty.Ty.{Ty}
use Rattle.px_pair.specs.declared.ends.Ends.{Ends}
use Rattle.px_pair.specs.declared.stage.Stage.{Stage}
use Rattle.px_pair.specs.declared.stage.Stage.TheVariants.{Ended, Taken}
use Rattle.px_pair.specs.Sessions.{Rest}
use Rattle.px_pair.specs.Callable.{IsCallable}
use Rattle.px_pair.specs.Ends.{AreSameEnds, ending_of, HaveTalked}
use Rattle.px_pair.specs.Pair.{State, HasServable, new_pair, begun_pair, HasEnded, TellsOf, Tells, committed, taken_back}
use Rattle.px_session.specs.declared.calls.Wanted.{Wanted}
use Rattle.px_session.specs.Serving.{Call, AreServed, none, more, by_code}
use Rattle.px_session.specs.Wanted.{wanted}
use Rattle.px_session.specs.Resting.{IsResting, HasServed, Serves}
use Rattle.px_session.proofs.Served.{begins}
use Rattle.px_session.proofs.Steps.{commit_serves, throw_serves}

-- ---- how a call ended

-- what the calls of a pair left: where the call ended, and where it was told
pub record Went (c : Call) (p mid taken : State) (done : Done) : Type 0 where
  pub ended : HasEnded (begun_pair c.method c.args p) mid
  pub same : AreSameEnds (begun_pair c.method c.args p).ends mid.ends
  pub tells : Tells mid taken done
  pub same_taken : AreSameEnds mid.ends taken.ends

abbrev pub IsThrow : Reply → Type 0
IsThrow (reply.Threw t) = Unit {0}
IsThrow _ = ⊥

no_throw : (o : Option Ty) (x : Value) → IsThrow (reply_of o x) → ⊥
no_throw None x h = h
no_throw (Some t) x h = h

module _ (c : Call) (p mid taken : State) (done : Done) (e : Went c p mid taken done) where
  by_throw : (t : Option Thrown) → mid.stage ≡ Ended t → TellsOf t mid taken done → (IsThrow done.reply → ⊥) → taken.stage ≡ Taken None
  by_throw None stage told h = told.0
  by_throw (Some t) stage told h = absurd (h (subst IsThrow (sym told.2.reply_is) tt))

  -- where the reply is no throw, the pair can commit
  pub can_commit : (IsThrow done.reply → ⊥) → taken.stage ≡ Taken None
  can_commit h = by_throw e.ended.thrown e.ended.stage (e.tells e.ended.thrown e.ended.stage) h

  kept_by : (t : Option Thrown) (ended : HasEnded (begun_pair c.method c.args p) mid) → ended.thrown ≡ t → TellsOf t mid taken done → (IsThrow done.reply → ⊥) → Serves c p (committed taken) done
  kept_by None ended is told h plan one events rest callable =
      let stage : taken.stage ≡ Taken None = told.0 in
      subst (λ (x : Stage). HasServed plan one events c done (committed (record { ends = taken.ends; stage = x }))) (sym stage)
      (commit_serves plan one events p c rest callable mid e.same (subst (λ (x : Option Thrown). HaveTalked (begun_pair c.method c.args p).ends mid.ends (ending_of x)) is ended.talked) taken.ends done told.1 e.same_taken)
  kept_by (Some t) ended is told h plan one events rest callable = absurd (h (subst IsThrow (sym told.2.reply_is) tt))

  pub kept : (IsThrow done.reply → ⊥) → Serves c p (committed taken) done
  kept h = kept_by e.ended.thrown e.ended refl (e.tells e.ended.thrown e.ended.stage) h

  undone_by : (t : Option Thrown) (ended : HasEnded (begun_pair c.method c.args p) mid) → ended.thrown ≡ t → TellsOf t mid taken done → IsThrow done.reply → Serves c p (taken_back taken) done
  undone_by None ended is told h plan one events rest callable = absurd (no_throw _ _ (subst IsThrow told.1.reply_is h))
  undone_by (Some t) ended is told h plan one events rest callable =
      subst (λ (x : Ends). HasServed plan one events c done (taken_back (record { ends = x; stage = taken.stage }))) (sym told.1)
      (throw_serves plan one events p c rest callable mid e.same t (subst (λ (x : Option Thrown). HaveTalked (begun_pair c.method c.args p).ends mid.ends (ending_of x)) is ended.talked) done told.2)

  pub undone : IsThrow done.reply → Serves c p (taken_back taken) done
  undone h = undone_by e.ended.thrown e.ended refl (e.tells e.ended.thrown e.ended.stage) h

-- ---- all calls

pub record Goes (plans : List Plan) (all left : List Call) (dones : List Done) (p : State) : Type 0 where
  pub plan : Plan
  pub is : slice_get plans 0 ≡ Some plan
  pub one : List Object
  pub events : List Event
  pub resting : IsResting plan one events p
  pub so_far : (later : List Done) → AreServed (by_code plan.code) plan one events left later → AreServed (by_code plan.code) plan (first_objects (Some plan)) [] all (dones ++ later)

pub goes_first : (plans : List Plan) (all : List Call) → HasServable plans → Goes plans all all [] (new_pair plans)
goes_first plans all has = record {
  plan = has.0;
  is = has.1;
  one = first_objects (Some has.0);
  events = [];
  resting = record {
    servable = has.2;
    stage = refl;
    app_plan = has.1;
    db_plan = has.1;
    app = record { machine = refl; known = refl; closed = refl };
    db = record { machine = refl; known = refl; closed = refl };
    rest = subst (λ (x : Option Plan). Rest has.0 (first_objects x) (first_objects x) (first_objects (Some has.0))) (sym has.1) (begins has.0).rest;
    fits = (begins has.0).fits;
    fresh = (begins has.0).fresh;
  };
  so_far = λ later served. served;
}

pub goes_next : (plans : List Plan) (all left : List Call) (dones : List Done) (p next : State) (c : Call) (done : Done) → Goes plans all (c ∷ left) dones p → ((plan : Plan) → slice_get plans 0 ≡ Some plan → IsCallable plan.code c.method c.args) → Serves c p next done → Goes plans all left (dones ++ done ∷ []) next
goes_next plans all left dones p next c done g callable serves =
    let step : HasServed g.plan g.one g.events c done next = serves g.plan g.one g.events g.resting (callable g.plan g.is) in
    record {
      plan = g.plan;
      is = g.is;
      one = (by_code g.plan.code g.one c).heap;
      events = step.after;
      resting = step.resting;
      so_far = λ later served. subst (λ (ds : List Done). AreServed (by_code g.plan.code) g.plan (first_objects (Some g.plan)) [] all ds) (sym (append_assoc dones (done ∷ []) later)) (g.so_far (done ∷ later) (more step.served served));
    }

pub goes_last : (plans : List Plan) (all left : List Call) (dones : List Done) (p : State) → left ≡ [] → Goes plans all left dones p → (plan : Plan) → slice_get plans 0 ≡ Some plan → AreServed (by_code plan.code) plan (first_objects (Some plan)) [] all dones
goes_last plans all left dones p over g plan is =
    let same : g.plan ≡ plan = let e : Some g.plan ≡ Some plan = sym g.is ∙ is in cc in
    subst (λ (q : Plan). AreServed (by_code q.code) q (first_objects (Some q)) [] all dones) same
    (subst (λ (ds : List Done). AreServed (by_code g.plan.code) g.plan (first_objects (Some g.plan)) [] all ds) (append-nil dones)
    (g.so_far [] (subst (λ (cs : List Call). AreServed (by_code g.plan.code) g.plan g.one g.events cs []) (sym over) none)))

-- the calls from one on
pub left_at : (calls : List Wanted) (i : ℕ) (w : Wanted) → slice_get calls i ≡ Some w → map wanted (drop i calls) ≡ wanted w ∷ map wanted (drop (i + 1) calls)
left_at calls i w is = dropped calls i w is ∙ ap (λ (n : ℕ). wanted w ∷ map wanted (drop n calls)) (sym (add-one i))
  where
    dropped : (calls : List Wanted) (i : ℕ) (w : Wanted) → slice_get calls i ≡ Some w → map wanted (drop i calls) ≡ wanted w ∷ map wanted (drop (suc i) calls)
    dropped [] i w is = cc
    dropped (x ∷ calls) zero w is = let same : x ≡ w = cc in ap (λ (y : Wanted). wanted y ∷ map wanted calls) same
    dropped (x ∷ calls) (suc i) w is = dropped calls i w is

pub none_left : (calls : List Wanted) (i : ℕ) → length calls ≤ i → map wanted (drop i calls) ≡ []
none_left [] zero h = refl
none_left [] (suc i) h = refl
none_left (x ∷ calls) zero h = absurd (omega (arith, h))
none_left (x ∷ calls) (suc i) h = none_left calls i (omega (arith, h))

pub call_at : (P : Call → Type 0) (calls : List Wanted) (i : ℕ) (w : Wanted) → AllByRecursion P (map wanted calls) → slice_get calls i ≡ Some w → P (wanted w)
call_at P [] i w all is = cc
call_at P (x ∷ calls) zero w all is = let same : x ≡ w = cc in subst (λ (y : Wanted). P (wanted y)) same all.0
call_at P (x ∷ calls) (suc i) w all is = call_at P calls i w all.1 is

-- ---- replies

pub no_throws : (r : Reply) → ((t : Thrown) → r ≡ reply.Threw t → ⊥) → IsThrow r → ⊥
no_throws (reply.Threw t) never h = never t refl
no_throws reply.Void never h = h
no_throws (reply.Value v) never h = h

pub throws : (r : Reply) (t : Thrown) → r ≡ reply.Threw t → IsThrow r
throws r t h = subst IsThrow (sym h) tt
