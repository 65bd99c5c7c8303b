-- What the type of a pair keeps, call by call.
use Rattle.std.proofs.Common.{◌≡◌, ℕ, zero, suc, ◌+◌, ◌≤◌, ◌^◌, true, false, List, [], ◌∷◌, length, Option, Some, None, slice_get, refl, sym, ap, subst, ◌∙◌, inr, arith}
use Rattle.std.specs.List.{AllByRecursion}
use Rattle.std.specs.Option.{option_map}
use Rattle.px_value.specs.declared.value.Value.{Value}
use Rattle.px_value.specs.declared.object.Object.{Object}
use Rattle.px_value.specs.declared.ty.Ty.{Ty}
use Rattle.px_code.specs.declared.side.Side.{Side}
use Rattle.px_code.specs.declared.side.Side.TheVariants.{App, Db}
use Rattle.px_code.specs.declared.plan.Plan.{Plan}
use Rattle.px_code.specs.declared.method.Method.{Method}
use Rattle.px_code.specs.declared.reply.Done.{Done}
use Rattle.px_code.specs.Places.{other}
use Rattle.px_code.specs.declared.frame.Frame.{Frame}
use Rattle.px_code.specs.Frames.{types_of, root_frame, entry_frame}
use Rattle.px_code.specs.WellFormed.{ends_in_return, HasFewSlots}
use Rattle.px_code.specs.CodeRun.{method_at}
use Rattle.px_code.specs.Machine.{Machine, block_at}
use Rattle.px_code.specs.Sound.{IsInput, entered, first_block}
use Rattle.px_wire.specs.declared.updates.Updates.{Updates}
use Rattle.px_wire.specs.declared.message.Message.{Message}
use Rattle.px_wire.specs.declared.message.Message.TheVariants.{Transfer, Commit}
use Rattle.px_half.specs.End.{End, plan_at, first_objects, begun, attended, methods_in, first_block as first_block_of, IsSameEnd}
use Rattle.px_half.specs.Messages.{AreUpdates, IsMessage, IsTellable, IsTellableHeap}
use Rattle.px_half.specs.Absorbed.{absorbed, absorbed_by, with_updates, with_room, with_cells, after_commit}
use Rattle.px_half.proofs.TellableEnds.{begin_is_tellable, absorbed_is_tellable}
use Rattle.px_pair.specs.declared.ends.Ends.{Ends}
use Rattle.px_pair.specs.declared.stage.Stage.{Stage}
use Rattle.px_pair.specs.declared.stage.Stage.TheVariants.{Idle, Ended, Taken}
use Rattle.px_pair.specs.Agree.{Agree}
use Rattle.px_pair.specs.Crossing.{CanTell}
use Rattle.px_pair.specs.Sessions.{Rest, attending, CallBegins, IsKept}
use Rattle.px_pair.specs.Callable.{IsCallable}
use Rattle.px_pair.specs.Telling.{IsWelcome}
use Rattle.px_pair.specs.Ends.{end_at, AreSameEnds, IsRunning, HasFinished}
use Rattle.px_pair.specs.FirstHeap.{IsGoodStart}
use Rattle.px_pair.specs.Pair.{HasServable, new_pair, State, HasCommitted, IsAtStage, IsAtRest, HaveOneHeap, ArePlanned, IsPair, begun_pair, CanCall}
use Rattle.px_pair.proofs.Sessions.{new_rests, calls_begin, commits_keep}
use Rattle.px_pair.proofs.FirstHeap.{first_heap_fits}
use Rattle.px_pair.proofs.Entries.{entries_fit}
use Rattle.px_pair.proofs.MethodStart.{Start}
use Rattle.px_pair.proofs.BlocksRun.{start_of}
use Rattle.px_pair.proofs.Whole.{method_there}
use Rattle.px_pair.proofs.Servable.{each_method, all_return, has_room, few_slots}

-- ---- where a call has ended

-- it runs at APP, at its end
finished_at : (s : Ends) (h : HasFinished s) → IsRunning h.running.0 h.running.1 App s.app s.db
finished_at s h = subst (λ (y : Side). IsRunning h.running.0 h.running.1 y (end_at y s) (end_at (other y) s)) h.at h.running.2

pub finished_knows : (s : Ends) → HasFinished s → s.app.known ≡ length s.app.machine.heap
finished_knows s h = (finished_at s h).near_knows

module _ (s : Ends) (h : HasFinished s) where
  abbrev its_plan : Plan
  its_plan = h.running.0

  abbrev one : Machine
  one = h.running.1

  running : IsRunning its_plan one App s.app s.db
  running = finished_at s h

  known_is : (u : Updates) → AreUpdates (plan_at s.app) s.app.known s.app.machine u → AreUpdates (Some its_plan) (length s.app.machine.heap) s.app.machine u
  known_is u are = subst (λ (k : ℕ). AreUpdates (Some its_plan) k s.app.machine u) running.near_knows (subst (λ (p : Option Plan). AreUpdates p s.app.known s.app.machine u) running.near_plan are)

  kept : (u : Updates) → AreUpdates (plan_at s.app) s.app.known s.app.machine u → IsKept its_plan s.app.machine s.db.machine one u
  kept u are = commits_keep its_plan s.app.machine s.db.machine one u running.agree running.fits (known_is u are)

  taken_in : (u : Updates) (are : AreUpdates (plan_at s.app) s.app.known s.app.machine u) → absorbed (Commit u) s.db ≡ Some (after_commit s.db (kept u are).machine)
  taken_in u are = ap (λ (p : Option Plan). absorbed_by p (Commit u) s.db) running.far_plan ∙ ap (option_map (after_commit s.db)) (kept u are).taken

  by_message : (side : Side) (n : ℕ) (message : Message) → side ≡ App → n ≡ 0 → IsMessage side n s.app message → (after : End) × (absorbed message s.db ≡ Some after)
  by_message App zero (Commit u) at zero_is is = (after_commit s.db (kept u is).machine, taken_in u is)
  by_message App zero (Transfer t) at zero_is is = absurd is
  by_message App (suc n) message at zero_is is = cc
  by_message Db n message at zero_is is = cc

  pub commit_welcome : IsWelcome s.app s.db
  commit_welcome message is = by_message s.app.side s.app.block message running.near_side h.block is

-- ---- what stays

pub same_plan : (a b : End) (plan : Plan) → IsSameEnd a b → plan_at a ≡ Some plan → plan_at b ≡ Some plan
same_plan a b plan same is = (λ i. slice_get (same.plans i) (same.part i)) ∙ is

pub planned_on : (plan : Plan) (s new : Ends) → ArePlanned plan s → AreSameEnds s new → ArePlanned plan new
planned_on plan s new p same = record {
  servable = p.servable;
  app_plan = same_plan s.app new.app plan same.app p.app_plan;
  db_plan = same_plan s.db new.db plan same.db p.db_plan;
  app_side = same.app.side ∙ p.app_side;
  db_side = same.db.side ∙ p.db_side;
}

pub closed_on : (plan : Plan) (s new : Ends) → HaveOneHeap plan s.app.closed s.db.closed → AreSameEnds s new → HaveOneHeap plan new.app.closed new.db.closed
closed_on plan s new h same = subst (λ (x : List Object). HaveOneHeap plan x new.db.closed) (sym same.app_closed) (subst (λ (x : List Object). HaveOneHeap plan s.app.closed x) (sym same.db_closed) h)

-- ---- a commit is taken in

same_some : {A : Type 0} (x y : A) → Some x ≡ Some y → x ≡ y
same_some x y h = cc

pub taken_pair : (p : State) → IsPair p → p.stage ≡ Ended None → (new : Ends) (done : Done) → HasCommitted p.ends new done → AreSameEnds p.ends new → IsPair (record { ends = new; stage = Taken None })
taken_pair p pair at_end new done c same = record {
  plan = pair.plan;
  planned = planned_on pair.plan p.ends new pair.planned same;
  closed = closed_on pair.plan p.ends new pair.closed same;
  now = subst (λ (q : Plan). HaveOneHeap q new.app.machine.heap new.db.machine.heap) same_plans (record {
    one = h.running.1.heap;
    rest = subst (λ (x : List Object). Rest h.running.0 x new.db.machine.heap h.running.1.heap) (sym app_heap) (subst (λ (m : Machine). Rest h.running.0 p.ends.app.machine.heap m.heap h.running.1.heap) (sym db_is) keeps.rest);
    fits = run.fits;
    app_tellable = subst IsTellableHeap (sym app_heap) run.near_tellable.heap;
    db_tellable = subst (λ (m : Machine). IsTellableHeap m.heap) (sym db_is)
        (absorbed_is_tellable (Commit c.commit) p.ends.db (after_commit p.ends.db keeps.machine) c.has_spelling
        (subst (λ (q : Option Plan). AllByRecursion HasFewSlots (methods_in q)) (sym run.far_plan) run.servable.formed.few_slots) run.far_tellable
        (taken_in p.ends h c.commit c.are) (few_left (after_updates h.running.0 c.commit p.ends.db.machine keeps.machine keeps.taken) run.far_tellable.few)).heap;
  });
}
  where
    h : HasFinished p.ends
    h = subst (λ (x : Stage). IsAtStage pair.plan x p.ends) at_end pair.now

    run : IsRunning h.running.0 h.running.1 App p.ends.app p.ends.db
    run = finished_at p.ends h

    keeps : IsKept h.running.0 p.ends.app.machine p.ends.db.machine h.running.1 c.commit
    keeps = kept p.ends h c.commit c.are

    same_plans : h.running.0 ≡ pair.plan
    same_plans = same_some h.running.0 pair.plan (sym run.near_plan ∙ pair.planned.app_plan)

    app_heap : new.app.machine.heap ≡ p.ends.app.machine.heap
    app_heap = ap (λ (e : End). e.machine.heap) c.app

    db_is : new.db.machine ≡ keeps.machine
    db_is = same_some new.db.machine keeps.machine (sym (c.db h.running.0 run.far_plan) ∙ keeps.taken)

    after_updates : (plan : Plan) (u : Updates) (m n : Machine) → with_updates plan u m ≡ Some n → n.frames ≡ m.frames
    after_updates plan u m n is = by_room (with_room plan u m.heap) is
      where
        by_room : (o : Option (List Object)) → option_map (λ (heap : List Object). record m { heap = with_cells u.cells heap }) o ≡ Some n → n.frames ≡ m.frames
        by_room None e = cc
        by_room (Some heap) e = ap (λ (x : Machine). x.frames) (sym (same_some (record m { heap = with_cells u.cells heap }) n e))

    few_left : {xs ys : List Frame} → xs ≡ ys → length ys ≤ 255 → length xs ≤ 255
    few_left e few = subst (λ (fs : List Frame). length fs ≤ 255) (sym e) few

-- ---- a call begins

module _ (p : State) (pair : IsPair p) (idle : p.stage ≡ Idle) (method : ℕ) (args : List Value) (can : CanCall method args p) where
  abbrev q : Plan
  q = pair.plan

  abbrev heap : List Object
  heap = pair.closed.one

  rested : IsAtRest p.ends.app × IsAtRest p.ends.db
  rested = subst (λ (x : Stage). IsAtStage q x p.ends) idle pair.now

  callable : IsCallable q.code method args
  callable = can q pair.planned.app_plan

  input : IsInput q.code heap method args
  input = record { fits = pair.closed.fits; method = callable.method; is = callable.is; entry = callable.entry; counted = callable.counted; plain = callable.plain }

  slots_are : types_of (method_at q.code.methods method) ≡ callable.method.slots
  slots_are = ap types_of callable.is.is

  room : callable.method.params + 1 ≤ length callable.method.slots
  room = has_room q.code pair.planned.servable.formed method callable.method callable.is.is

  few : length callable.method.slots ≤ 2 ^ 16
  few = few_slots q.code pair.planned.servable.formed method callable.method callable.is.is

  begins : CallBegins q p.ends.app.closed p.ends.db.closed heap method args
  begins = calls_begin q p.ends.app.closed p.ends.db.closed heap method args pair.closed.rest pair.closed.fits (method_there q.code.methods method callable.method callable.is.is)
      (subst (λ (ts : List Ty). length args + 1 ≤ length ts) (sym slots_are) (let r = room in let k = callable.counted in omega (arith, r, k))) callable.plain

  abbrev e : End
  e = begun method args p.ends.app

  abbrev f : End
  f = attended p.ends.db

  e_machine : e.machine ≡ entered q.code p.ends.app.closed method args
  e_machine = λ i. record (rested.0.machine i) { frames = root_frame ∷ entry_frame (methods_in (pair.planned.app_plan i)) method args ∷ []; base = 0 }

  f_machine : f.machine ≡ attending p.ends.db.closed
  f_machine = λ i. record (rested.1.machine i) { frames = []; base = 0 }

  block_is : e.block ≡ first_block q method
  block_is = ap (λ (x : Option Plan). first_block_of x method) pair.planned.app_plan

  start : Start q.blocks.blocks (first_block q method) method callable.method.body
  start = start_of q method callable.method pair.planned.servable.blocks callable.is.is (each_method (λ (x : Method). ends_in_return false x.body ≡ true) q.code.methods method callable.method (all_return q.code pair.planned.servable.formed) callable.is.is)

  tellable_rest : (x : End) → IsAtRest x → IsTellableHeap x.closed → IsTellable x.machine
  tellable_rest x rest tell = subst IsTellable (sym rest.machine) (record { few = omega arith; base = omega arith; frames = tt; heap = tell })

  running_begun : IsRunning q (entered q.code heap method args) App e f
  running_begun = record {
    servable = pair.planned.servable;
    near_plan = pair.planned.app_plan;
    far_plan = pair.planned.db_plan;
    near_side = pair.planned.app_side;
    far_side = pair.planned.db_side;
    near_open = refl;
    far_open = refl;
    near_knows = rested.0.known ∙ ap (λ (m : Machine). length m.heap) (sym rested.0.machine);
    turns = refl;
    agree = subst (λ (m : Machine). Agree q App m f.machine (entered q.code heap method args)) (sym e_machine) (subst (λ (m : Machine). Agree q App (entered q.code p.ends.app.closed method args) m (entered q.code heap method args)) (sym f_machine) begins.agree);
    can_tell = subst (λ (m : Machine). CanTell q m f.machine) (sym e_machine) (subst (λ (m : Machine). CanTell q (entered q.code p.ends.app.closed method args) m) (sym f_machine) begins.can_tell);
    fits = pair.closed.fits;
    there = inr (start.b, ap (block_at q.blocks.blocks) (block_is ∙ start.first_is) ∙ start.is);
    block_fits = λ b is. entries_fit q heap method args pair.planned.servable.blocks input b (ap (block_at q.blocks.blocks) (sym block_is) ∙ is);
    near_tellable = begin_is_tellable method args p.ends.app (tellable_rest p.ends.app rested.0 pair.closed.app_tellable) callable.short
        (let r = room in let s = few in let k = callable.counted in omega (arith, r, s, k))
        (subst (λ (x : Option Plan). length (types_of (method_at (methods_in x) method)) ≤ 2 ^ 16) (sym pair.planned.app_plan) (subst (λ (ts : List Ty). length ts ≤ 2 ^ 16) (sym slots_are) few));
    far_tellable = record { few = omega arith; base = omega arith; frames = tt; heap = subst (λ (m : Machine). IsTellableHeap m.heap) (sym rested.1.machine) pair.closed.db_tellable };
  }

  pub begun_is_pair : IsPair (begun_pair method args p)
  begun_is_pair = record {
    plan = q;
    planned = record { servable = pair.planned.servable; app_plan = pair.planned.app_plan; db_plan = pair.planned.db_plan; app_side = pair.planned.app_side; db_side = pair.planned.db_side };
    closed = pair.closed;
    now = ((q, entered q.code heap method args, running_begun), record { moves = refl; bytes = refl });
  }

-- ---- a new session

pub new_is_pair : (plans : List Plan) → HasServable plans → IsPair (new_pair plans)
new_is_pair plans served =
    let start : IsGoodStart served.0 = first_heap_fits served.0 in
    record {
      plan = served.0;
      planned = record { servable = served.2; app_plan = served.1; db_plan = served.1; app_side = refl; db_side = refl };
      closed = subst (λ (x : Option Plan). HaveOneHeap served.0 (first_objects x) (first_objects x)) (sym served.1) (record {
        one = first_objects (Some served.0);
        rest = new_rests served.0 (first_objects (Some served.0));
        fits = start.fits;
        app_tellable = start.tellable;
        db_tellable = start.tellable;
      });
      now = (record { machine = refl; known = refl; closed = refl }, record { machine = refl; known = refl; closed = refl });
    }
