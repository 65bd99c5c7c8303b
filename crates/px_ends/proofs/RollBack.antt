-- A roll back leads to the heap of the last close, at both ends and wherever a run stops.
use Rattle.std.proofs.Common.{◌≡◌, ℕ, zero, suc, ◌≤◌, Bool, true, false, List, [], ◌∷◌, ◌++◌, map, take, length, Option, Some, None, slice_get, slice_set, Ok, Err, refl, sym, ap, ◌∙◌, subst, arith, append_assoc}
use Rattle.std.proofs.lemmas.List.{append-nil}
use Rattle.px_value.specs.declared.value.Value.{Value}
use Rattle.px_value.specs.declared.object.Object.{Object}
use Rattle.px_value.specs.Heap.{cell_at, written, with_cell}
use Rattle.px_value.specs.Operators.{Applied}
use Rattle.px_blocks.specs.declared.side.Side.{Side}
use Rattle.px_blocks.specs.declared.side.Side.TheVariants.{App, Db}
use Rattle.px_normal.specs.declared.word.Word.{Word}
use Rattle.px_blocks.specs.declared.block.Block.{Block}
use Rattle.px_blocks.specs.declared.block.Deed.{Deed}
use Rattle.px_blocks.specs.declared.block.Deed.TheVariants as deed
use Rattle.px_blocks.specs.declared.block.Exit.{Exit}
use Rattle.px_blocks.specs.declared.block.Send.{Send}
use Rattle.px_blocks.specs.declared.block.Statement.{Statement}
use Rattle.px_blocks.specs.Sides.{other, same_side}
use Rattle.px_effects.specs.Act as A
use Rattle.px_effects.specs.Act.{Act, Acted, acted, unless_full, has_no_room, header_at, value_at, new_object, Landed, landed}
use Rattle.px_effects.specs.Operations.{Acts, Operates, Said}
use Rattle.px_normal.specs.Words.{Does, Works, Invokes, does_of, is_return}
use Rattle.px_effects.specs.Operations.{with_said}
use Rattle.px_normal.specs.Words.{answer_of}
use Rattle.px_normal.specs.Run.{Ran}
use Rattle.px_value.specs.Outcome.{Outcome, Gives, Throws, Asks as LeavesOpen}
use Rattle.px_effects.specs.Run.{Shared, Ask}
use Rattle.px_effects.specs.Operations.{told}
use Rattle.px_blocks.specs.Plan.{Plan, firsts_of}
use Rattle.px_blocks.specs.Machine.{Machine, values_of, How, Next, Fell, Waits as Awaits, Stop, RunsOn, Stops, Stepped, ran_of, after_act, valued_if, valued, act_step, does_step, deed_step, step, told_step, then_steps, steps, Done, block_at, block_run, block_answered, end_left, is_last}
use Rattle.px_blocks.specs.Message.{CellAt, with_cells, with_updates, Updates, transfer}
use Rattle.px_blocks.specs.One.{Step, Goes, Ended, Falls, Waits, Asks, side_next, goes_on}
use Rattle.px_ends.specs.Agree.{at_app}
use Rattle.px_ends.specs.Runs.{Pair, crossed, crossed_if, come, pair_after, pair_end, pair_at, pair_step, pair_shared, pair_asked, pair_hears, pair_answers, pair_answer, pair_told, pair_asks, pair_moves, pair_run}
use Rattle.px_ends.specs.Undo.{Change, Writes, Adds, changed, Undo, note, Logged, logged, all_logged, undone, rolled_back, closed, RollsBack, Reached, heap_at, pair_of, RunsRollBack}
use Rattle.px_ends.proofs.Places.{written_suc, length_written}

-- ---- the first objects

abbrev firsts : ℕ → List Object → List Object
firsts n heap = take n heap

with_past : (m : Option Object) (i : ℕ) (v : Value) (x : Object) (xs : List Object) (n : ℕ) → with_cell m i v (x ∷ xs) (suc n) ≡ x ∷ with_cell m i v xs n
with_past None i v x xs n = refl
with_past (Some y) i v x xs n = refl

take_written : (n : ℕ) (heap : List Object) (o i : ℕ) (v : Value) → take n (written heap o i v) ≡ written (take n heap) o i v
take_written zero heap o i v = refl
take_written (suc n) [] o i v = refl
take_written (suc n) (x ∷ heap) zero i v = refl
take_written (suc n) (x ∷ heap) (suc o) i v = ap (take (suc n)) (written_suc x heap o i v) ∙ ap (λ (l : List Object). x ∷ l) (take_written n heap o i v) ∙ sym (written_suc x (take n heap) o i v)

take_undone : (n : ℕ) (us : List Undo) (heap : List Object) → take n (undone us heap) ≡ undone us (take n heap)
take_undone n [] heap = refl
take_undone n (u ∷ us) heap = take_undone n us (written heap u.object u.index u.value) ∙ ap (undone us) (take_written n heap u.object u.index u.value)

take_added : (n : ℕ) (heap : List Object) (x : Object) → n ≤ length heap → take n (heap ++ x ∷ []) ≡ take n heap
take_added zero heap x l = refl
take_added (suc n) [] x l = absurd (omega arith)
take_added (suc n) (y ∷ heap) x l = ap (λ (ys : List Object). y ∷ ys) (take_added n heap x (omega arith))

take_whole : (heap : List Object) → take (length heap) heap ≡ heap
take_whole [] = refl
take_whole (x ∷ heap) = ap (λ (l : List Object). x ∷ l) (take_whole heap)

-- ---- one cell back

cells_back : (xs : List Value) (i : ℕ) (v w : Value) → slice_get xs i ≡ Some w → slice_set (slice_set xs i v) i w ≡ xs
cells_back [] i v w e = cc
cells_back (x ∷ xs) zero v w e = λ k. sym (same x w e) k ∷ xs
  where
    same : (x w : Value) → Some x ≡ Some w → x ≡ w
    same x w e = cc
cells_back (x ∷ xs) (suc i) v w e = ap (λ (l : List Value). x ∷ l) (cells_back xs i v w e)

written_back : (heap : List Object) (o i : ℕ) (v w : Value) → cell_at heap o i ≡ Some w → written (written heap o i v) o i w ≡ heap
written_back [] o i v w e = cc
written_back (x ∷ heap) zero i v w e = λ k. record { header = x.header; cells = cells_back x.cells i v w e k } ∷ heap
written_back (x ∷ heap) (suc o) i v w e =
    ap (λ (l : List Object). written l (suc o) i w) (written_suc x heap o i v)
    ∙ written_suc x (written heap o i v) o i w
    ∙ ap (λ (l : List Object). x ∷ l) (written_back heap o i v w e)

set_past : (xs : List Value) (i : ℕ) (v : Value) → slice_get xs i ≡ None → slice_set xs i v ≡ xs
set_past [] i v e = refl
set_past (x ∷ xs) zero v e = cc
set_past (x ∷ xs) (suc i) v e = ap (λ (l : List Value). x ∷ l) (set_past xs i v e)

written_nowhere : (heap : List Object) (o i : ℕ) (v : Value) → cell_at heap o i ≡ None → written heap o i v ≡ heap
written_nowhere [] o i v e = refl
written_nowhere (x ∷ heap) zero i v e = λ k. record { header = x.header; cells = set_past x.cells i v e k } ∷ heap
written_nowhere (x ∷ heap) (suc o) i v e = written_suc x heap o i v ∙ ap (λ (l : List Object). x ∷ l) (written_nowhere heap o i v e)

note_back : (m : Option Value) (heap : List Object) (o i : ℕ) (v : Value) (us : List Undo) → cell_at heap o i ≡ m → undone (note m o i us) (written heap o i v) ≡ undone us heap
note_back None heap o i v us e = ap (undone us) (written_nowhere heap o i v e)
note_back (Some w) heap o i v us e = ap (undone us) (written_back heap o i v w e)

-- ---- all changes

logged_back : (n : ℕ) (c : Change) (l : Logged) → n ≤ length l.heap → rolled_back n (logged c l) ≡ rolled_back n l
logged_back n (Writes o i v) l h = ap (take n) (note_back (cell_at l.heap o i) l.heap o i v l.undo refl)
logged_back n (Adds x) l h = take_undone n l.undo (l.heap ++ x ∷ []) ∙ ap (undone l.undo) (take_added n l.heap x h) ∙ sym (take_undone n l.undo l.heap)

longer : (n : ℕ) (c : Change) (l : Logged) → n ≤ length l.heap → n ≤ length (changed c l.heap)
longer n (Writes o i v) l h = let e = length_written l.heap o i v in omega arith
longer n (Adds x) l h = let e = added l.heap in omega arith
  where
    added : (hs : List Object) → length (hs ++ x ∷ []) ≡ suc (length hs)
    added [] = refl
    added (y ∷ ys) = ap suc (added ys)

all_back : (n : ℕ) (cs : List Change) (l : Logged) → n ≤ length l.heap → rolled_back n (all_logged cs l) ≡ rolled_back n l
all_back n [] l h = refl
all_back n (c ∷ cs) l h = all_back n cs (logged c l) (longer n c l h) ∙ logged_back n c l h

pub rolls_back : RollsBack
rolls_back changes heap = all_back (length heap) changes (closed heap) (omega arith) ∙ take_whole heap

-- ---- what an end does are changes

abbrev heap_after : List Change → List Object → List Object
heap_after [] heap = heap
heap_after (c ∷ cs) heap = heap_after cs (changed c heap)

heap_logged : (cs : List Change) (l : Logged) → (all_logged cs l).heap ≡ heap_after cs l.heap
heap_logged [] l = refl
heap_logged (c ∷ cs) l = heap_logged cs (logged c l)

heap_join : (cs ds : List Change) (heap : List Object) → heap_after (cs ++ ds) heap ≡ heap_after ds (heap_after cs heap)
heap_join [] ds heap = refl
heap_join (c ∷ cs) ds heap = heap_join cs ds (changed c heap)

pub record By (from to : List Object) : Type 0 where
  pub changes : List Change
  pub is : heap_after changes from ≡ to

none : (heap : List Object) → By heap heap
none heap = record { changes = []; is = refl }

and : {a b c : List Object} → By a b → By b c → By a c
and {a = a} {b = b} {c = c} x y = record { changes = x.changes ++ y.changes; is = heap_join x.changes y.changes a ∙ ap (heap_after y.changes) x.is ∙ y.is }

wrote : (heap : List Object) (o i : ℕ) (v : Value) → By heap (written heap o i v)
wrote heap o i v = record { changes = Writes o i v ∷ []; is = refl }

added : (heap : List Object) (x : Object) → By heap (heap ++ x ∷ [])
added heap x = record { changes = Adds x ∷ []; is = refl }

if_made : (b : Bool) (after : Acted) (heap : List Object) → By heap after.heap → By heap (unless_full b after heap).heap
if_made false after heap y = y
if_made true after heap y = none heap

acts : (plan : Plan) (a : Act) (heap : List Object) → By heap (acted (firsts_of plan.code) a heap).heap
acts plan (A.Comes e) heap = none heap
acts plan (A.Prints line) heap = none heap
acts plan (A.Reads o i k) heap = acts plan (k (value_at heap o i)) heap
acts plan (A.Writes o i v k) heap = and (wrote heap o i v) (acts plan k (written heap o i v))
acts plan (A.Looks o k) heap = acts plan (k (header_at heap o)) heap
acts plan (A.Makes h k) heap = if_made (has_no_room h.kind h.length heap) (acted (firsts_of plan.code) (k (length heap)) (heap ++ new_object (firsts_of plan.code) h ∷ [])) heap (and (added heap (new_object (firsts_of plan.code) h)) (acts plan (k (length heap)) (heap ++ new_object (firsts_of plan.code) h ∷ [])))

carried_in : (us : List CellAt) (heap : List Object) → By heap (with_cells us heap)
carried_in [] heap = none heap
carried_in (u ∷ us) heap = and (wrote heap u.object u.index u.value) (carried_in us (written heap u.object u.index u.value))

all_added : (xs heap : List Object) → By heap (heap ++ xs)
all_added [] heap = record { changes = []; is = sym (append-nil heap) }
all_added (x ∷ xs) heap = subst (By heap) (append_assoc heap (x ∷ []) xs) (and (added heap x) (all_added xs (heap ++ x ∷ [])))

took : (plan : Plan) (u : Updates) (heap : List Object) → By heap (with_updates plan u heap)
took plan u heap = and (all_added (map (new_object (firsts_of plan.code)) u.headers) heap) (carried_in u.cells (heap ++ map (new_object (firsts_of plan.code)) u.headers))

-- ---- a block

module _ (plan : Plan) where
  valued_by : (heap : List Object) (send : Option Send) (word : Word) (ran : List Ran) (m : Machine) (a : Applied) → By heap m.heap → By heap (valued plan.blocks.blocks send word ran m a).machine.heap
  valued_by heap send word ran m (Err t) y = y
  valued_by heap send word ran m (Ok v) y = by_return (is_return word)
    where
      by_return : (over : Bool) → By heap (valued_if over plan.blocks.blocks send word ran v m).machine.heap
      by_return true = y
      by_return false = y

  act_by : (node : ℕ) (send : Option Send) (word : Word) (m : Machine) (act : Act) → By m.heap (act_step plan node send word m act).machine.heap
  act_by node send word m act = let a = acted (firsts_of plan.code) act m.heap in let l = landed m.prints a.ends in valued_by m.heap send word (ran_of node a.reads a.writes) (after_act a l m) l.value (acts plan act m.heap)

  does_by : (n : ℕ) (e : Exit) (node : ℕ) (send : Option Send) (word : Word) (m : Machine) (d : Does) → By m.heap (does_step plan n e node send word m d).machine.heap
  does_by n e node send word m (Works (Acts act)) = act_by node send word m act
  does_by n e node send word m (Works (Operates op)) = none m.heap
  does_by n e node send word m (Invokes method values) = none m.heap

  deed_by : (n : ℕ) (e : Exit) (node : ℕ) (send : Option Send) (m : Machine) (d : Deed) → By m.heap (deed_step plan n e node send m d).machine.heap
  deed_by n e node send m (deed.Does word) = does_by n e node send word m (does_of plan.code word (values_of m.control))
  deed_by n e node send m (deed.Chooses a) = none m.heap
  deed_by n e node send m (deed.Tests a) = none m.heap

  told_by : (node : ℕ) (send : Option Send) (said : Said) (m : Machine) (d : Deed) → By m.heap (told_step plan node send said m d).machine.heap
  told_by node send said m (deed.Does word) = act_by node send word m (with_said (answer_of word) said)
  told_by node send said m (deed.Chooses a) = none m.heap
  told_by node send said m (deed.Tests a) = none m.heap

  then_stepped : (heap : List Object) (st : Stepped) (rest : Machine → Stepped) (stop : Stop) → By heap st.machine.heap → By st.machine.heap (rest st.machine).machine.heap → By heap (then_steps st rest stop).machine.heap
  then_stepped heap st rest RunsOn x y = and x y
  then_stepped heap st rest (Stops how) x y = x

  all_stepped : (n : ℕ) (e : Exit) (statements : List Statement) (m : Machine) → By m.heap (steps plan n e statements m).machine.heap
  unfolding steps
  all_stepped n e [] m = none m.heap
  all_stepped n e (s ∷ rest) m = let st : Stepped = step plan n e s m in then_stepped m.heap st (steps plan n e rest) st.stop (deed_by n e s.node s.send m s.deed) (all_stepped n e rest st.machine)

  ran_block : (n : ℕ) (b : Block) (m : Machine) → By m.heap (block_run plan n b m).machine.heap
  ran_block n b m = all_stepped n b.exit b.statements m

  answered_block : (b : Block) (s : Statement) (said : Said) (m : Machine) → By m.heap (block_answered plan b s said m).machine.heap
  answered_block b s said m = told_by s.node s.send said m s.deed

-- ---- both ends

-- at the end with control
at_near : (side : Side) (near new far : List Object) → By near new → By (at_app side near far) (at_app side new far) × By (at_app side far near) (at_app side far new)
at_near App near new far y = (y, none far)
at_near Db near new far y = (none far, y)

-- at the other end, which then has control
at_far : (side : Side) (near far new : List Object) → By far new → By (at_app side near far) (at_app (other side) new near) × By (at_app side far near) (at_app (other side) near new)
at_far App near far new y = (none near, y)
at_far Db near far new y = (y, none near)

module _ (Q : Type 0) {W : Type 0} (plan : Plan) where
  pub record Both (p q : Pair W) : Type 0 where
    pub app : By (heap_at App p) (heap_at App q)
    pub db : By (heap_at Db p) (heap_at Db q)

  both : (p q r : Pair W) → Both p q → Both q r → Both p r
  both p q r x y = record { app = and x.app y.app; db = and x.db y.db }

  same : (p : Pair W) → Both p p
  same p = record { app = none (heap_at App p); db = none (heap_at Db p) }

  crosses : (p : Pair W) → Both p (crossed plan p)
  crosses p = let b = at_far p.side p.near.heap p.far.heap (crossed plan p).near.heap (took plan (transfer plan p.block p.near.control p.near.heap).updates p.far.heap) in record { app = b.0; db = b.1 }

  comes : (p : Pair W) → Both p (come plan p)
  comes p = pick (same_side p.side (side_next plan p.block p.near.control p.side))
    where
      pick : (b : Bool) → Both p (crossed_if b plan p)
      pick true = same p
      pick false = crosses p

  afterwards : (p : Pair W) (ran : List Ran) (near : Machine) (how : How) → By p.near.heap near.heap → Both p (pair_of {Q = Q} (pair_after p ran near how))
  afterwards p ran near (Next n) y = let b = at_near p.side p.near.heap near.heap p.far.heap y in record { app = b.0; db = b.1 }
  afterwards p ran near (Fell t) y = let b = at_near p.side p.near.heap near.heap p.far.heap y in record { app = b.0; db = b.1 }
  afterwards p ran near (Awaits op s) y = let b = at_near p.side p.near.heap near.heap p.far.heap y in record { app = b.0; db = b.1 }

  at_end : (b : Bool) (p : Pair W) → Both p (pair_of {Q = Q} (pair_end b plan p))
  at_end true p = same p
  at_end false p = let d : Done = end_left plan p.near in afterwards p d.ran d.machine d.how (none p.near.heap)

  at_block : (x : Option Block) (p : Pair W) → Both p (pair_of {Q = Q} (pair_at plan x p))
  at_block None p = at_end (is_last p.near.control) p
  at_block (Some b) p = let d : Done = block_run plan p.block b p.near in afterwards p d.ran d.machine d.how (ran_block plan p.block b p.near)

  a_step : (p : Pair W) → Both p (pair_of {Q = Q} (pair_step plan p))
  a_step p = both p (come plan p) (pair_of {Q = Q} (pair_step plan p)) (comes p) (at_block (block_at plan.blocks.blocks p.block) (come plan p))

  an_answer : (s : Statement) (said : Said) (p : Pair W) → Both p (pair_of {Q = Q} (pair_answer plan s said p))
  an_answer s said p = pick (block_at plan.blocks.blocks p.block)
    where
      pick : (x : Option Block) → Both p (pair_of {Q = Q} (pair_answers plan x s said (pair_hears said p)))
      pick None = record { app = none (heap_at App p); db = none (heap_at Db p) }
      pick (Some b) =
          let d : Done = block_answered plan b s said p.near in
          let r = afterwards (pair_hears said p) d.ran d.machine d.how (answered_block plan b s said p.near) in
          record { app = r.app; db = r.db }

  was_told : (s : Statement) (p : Pair W) (x : Outcome Q (Shared W) Said) → Both p (pair_of (pair_told plan s p x))
  was_told s p (Gives said g) = let r = an_answer s said (pair_asked g p) in record { app = r.app; db = r.db }
  was_told s p (Throws t g) = record { app = none (heap_at App p); db = none (heap_at Db p) }
  was_told s p (LeavesOpen q g) = record { app = none (heap_at App p); db = none (heap_at Db p) }

  asking : (ask : Ask Q W) (p : Pair W) (x : Step Q (Pair W)) → Both p (pair_of x) → Both p (pair_of (pair_asks plan ask x))
  asking ask p (Goes q) b = b
  asking ask p (Ended q) b = b
  asking ask p (Falls t q) b = b
  asking ask p (Waits op s q) b = both p q (pair_of (pair_told plan s q (told ask op (pair_shared q)))) b (was_told s q (told ask op (pair_shared q)))
  asking ask p (Asks r s q) b = b

  going : (ask : Ask Q W) (n : ℕ) → ((p : Pair W) → Both p (pair_of (pair_run plan ask n p))) → (p : Pair W) (x : Step Q (Pair W)) → Both p (pair_of x) → Both p (pair_of (goes_on (pair_run plan ask n) x))
  going ask n rest p (Goes q) b = both p q (pair_of (pair_run plan ask n q)) b (rest q)
  going ask n rest p (Ended q) b = b
  going ask n rest p (Falls t q) b = b
  going ask n rest p (Waits op s q) b = b
  going ask n rest p (Asks r s q) b = b

  pub run_of : (ask : Ask Q W) (n : ℕ) (p : Pair W) → Both p (pair_of (pair_run plan ask n p))
  unfolding pair_run
  run_of ask zero p = same p
  run_of ask (suc n) p = going ask n (run_of ask n) p (pair_moves plan ask p) (asking ask p (pair_step plan p) (a_step p))

reached : (from to : List Object) → By from to → Reached from to
reached from to y =
    let l : Logged = all_logged y.changes (closed from) in
    record { changes = y.changes; undo = l.undo; is = λ k. record { heap = (heap_logged y.changes (closed from) ∙ y.is) k; undo = l.undo } }

pub runs_roll_back : (Q W : Type 0) → RunsRollBack Q W
runs_roll_back Q W plan ask n p =
    let q : Pair W = pair_of (pair_run plan ask n p) in
    let b = run_of Q plan ask n p in
    record { app = reached (heap_at App p) (heap_at App q) b.app; db = reached (heap_at Db p) (heap_at Db q) b.db }
