-- No read of a call is stale.
use Rattle.std.proofs.Common.{◌≡◌, ℕ, Bool, true, false, ◌&&◌, ◌||◌, List, [], ◌∷◌, ◌++◌, map, length, Option, Some, None, is_some, Ok, Err, refl, sym, ap, subst, ◌∙◌, append-nil, append_assoc}
use Rattle.std.proofs.lemmas.Bool.{and_from}
use Rattle.std.specs.List.{AllByRecursion}
use Rattle.px_value.specs.declared.value.Value.{Value}
use Rattle.px_value.specs.declared.object.Object.{Object}
use Rattle.px_value.specs.declared.header.Header.{Header}
use Rattle.px_value.specs.Heap.{cell_at}
use Rattle.px_value.specs.Operators.{Applied}
use Rattle.px_code.specs.declared.side.Side.{Side}
use Rattle.px_code.specs.declared.side.Side.TheVariants.{App, Db}
use Rattle.px_code.specs.declared.cell.Cell.{Cell}
use Rattle.px_code.specs.declared.word.Word.{Word}
use Rattle.px_code.specs.declared.word.Word.TheVariants as w
use Rattle.px_code.specs.declared.block.Block.{Block}
use Rattle.px_code.specs.declared.block.Statement.{Statement}
use Rattle.px_code.specs.declared.plan.Plan.{Plan}
use Rattle.px_code.specs.Places.{other, same_side, side_of, home_in, part_by}
use Rattle.px_code.specs.Points.{ReadsPart}
use Rattle.px_code.specs.Sends.{read_there}
use Rattle.px_code.specs.Fits.{Fits, header_at}
use Rattle.px_code.specs.Act.{act_of, Acted, acted}
use Rattle.px_code.specs.CodeRun.{Ran}
use Rattle.px_code.specs.Cut.{IsPlaced}
use Rattle.px_code.specs.Stale.{Event, Brought, has_cell, same_cell, IsStale}
use Rattle.px_code.specs.Law.{MachineFits, StaysWithin, RanWithin}
use Rattle.px_code.specs.Machine.{Machine, top_values, after_act, with_value, Stop, RunsOn, Returned, Threw, Stepped, step, step_ends, steps, then_steps, block_at, next_block}
use Rattle.px_code.specs.Sound.{Ending}
use Rattle.px_code.proofs.Staying.{stay}
use Rattle.px_wire.specs.declared.cell.CellAt.{CellAt}
use Rattle.px_wire.specs.declared.updates.Updates.{Updates}
use Rattle.px_half.specs.Messages.{is_marked, is_named, travels, AreUpdates}
use Rattle.px_half.specs.Absorbed.{in_control}
use Rattle.px_pair.specs.Agree.{KeepsCell, Agree}
use Rattle.px_pair.specs.Law.{NamesClasses, RunsAlike}
use Rattle.px_pair.specs.Crossing.{FramesLike, bare, quiet}
use Rattle.px_pair.specs.Calls.{RunsAtBoth, finished, runs, falls, crosses, IsGoodBlock, AreGoodBlocks}
use Rattle.px_pair.specs.Fresh.{with_ran, place_of, events_of, MarksThere, IsCurrent, IsFresh, NothingStale, CommitsLeaveFresh}
use Rattle.px_pair.proofs.Steps.{blocks_run_alike}
use Rattle.px_pair.proofs.StackKeeping as keeping
use Rattle.px_pair.proofs.ControlCrossing as control
use Rattle.px_pair.proofs.Calls.{next_fits}
use Rattle.px_pair.proofs.HeapCrossing.{has_cell as has_told, has_found}
use Rattle.px_pair.proofs.Fresh.{all_writes, RanKept, ran_fresh, stale_brought}

-- ---- the marks are what was written

valued_marks : (word : Word) (y : Value) (m : Machine) → (with_value word y m).marks ≡ m.marks
valued_marks (w.Set to a) y m = refl
valued_marks (w.Op o to a b) y m = refl
valued_marks (w.Get to of class field) y m = refl
valued_marks (w.Put of class field a) y m = refl
valued_marks (w.Return a) y m = refl

step_marks : (s : Statement) (m : Machine) → (step s m).machine.marks ≡ m.marks ++ all_writes (step s m).ran
step_marks s m = by_ends a.ends
  where
    a : Acted
    a = acted (act_of s.word (top_values m.frames)) m.heap

    by_ends : (e : Applied) → (step_ends s a m e).machine.marks ≡ m.marks ++ all_writes (step_ends s a m e).ran
    by_ends (Err t) = ap (λ (ws : List Cell). m.marks ++ ws) (sym (append-nil a.writes))
    by_ends (Ok y) = valued_marks s.word y (after_act a m) ∙ ap (λ (ws : List Cell). m.marks ++ ws) (sym (append-nil a.writes))

pub writes_more : (xs ys : List Ran) → all_writes (xs ++ ys) ≡ all_writes xs ++ all_writes ys
writes_more [] ys = refl
writes_more (r ∷ xs) ys = ap (λ (ws : List Cell). r.writes ++ ws) (writes_more xs ys) ∙ sym (append_assoc r.writes (all_writes xs) (all_writes ys))

then_marks : (marks : List Cell) (one : Stepped) (rest : List Statement) (stop : Stop) → one.machine.marks ≡ marks ++ all_writes one.ran → (steps rest one.machine).machine.marks ≡ one.machine.marks ++ all_writes (steps rest one.machine).ran → (then_steps one (steps rest) stop).machine.marks ≡ marks ++ all_writes (then_steps one (steps rest) stop).ran
then_marks marks one rest RunsOn h k =
    k ∙ ap (λ (ms : List Cell). ms ++ all_writes (steps rest one.machine).ran) h ∙ append_assoc marks (all_writes one.ran) (all_writes (steps rest one.machine).ran)
    ∙ ap (λ (ws : List Cell). marks ++ ws) (sym (writes_more one.ran (steps rest one.machine).ran))
then_marks marks one rest Returned h k = h
then_marks marks one rest (Threw t) h k = h

pub steps_marks : (statements : List Statement) (m : Machine) → (steps statements m).machine.marks ≡ m.marks ++ all_writes (steps statements m).ran
steps_marks [] m = sym (append-nil m.marks)
steps_marks (s ∷ rest) m = then_marks m.marks (step s m) rest (step s m).stop (step_marks s m) (steps_marks rest (step s m).machine)

-- ---- what was read is kept

pub all_more : {A : Type 0} (P : A → Type 0) (xs ys : List A) → AllByRecursion P xs → AllByRecursion P ys → AllByRecursion P (xs ++ ys)
all_more P [] ys h k = k
all_more P (x ∷ xs) ys h k = (h.0, all_more P xs ys h.1 k)

module _ (plan : Plan) (b : Block) where
  abbrev AtSide : Ran → Type 0
  AtSide r = side_of plan.placement.sides r.node ≡ b.side

  step_placed : (s : Statement) (m : Machine) → side_of plan.placement.sides s.node ≡ b.side → AllByRecursion AtSide (step s m).ran
  step_placed s m h = by_ends (acted (act_of s.word (top_values m.frames)) m.heap).ends
    where
      by_ends : (e : Applied) → AllByRecursion AtSide (step_ends s (acted (act_of s.word (top_values m.frames)) m.heap) m e).ran
      by_ends (Err t) = (h, tt)
      by_ends (Ok y) = (h, tt)

  then_placed : (one : Stepped) (rest : List Statement) (stop : Stop) → AllByRecursion AtSide one.ran → AllByRecursion AtSide (steps rest one.machine).ran → AllByRecursion AtSide (then_steps one (steps rest) stop).ran
  then_placed one rest RunsOn h k = all_more AtSide one.ran (steps rest one.machine).ran h k
  then_placed one rest Returned h k = h
  then_placed one rest (Threw t) h k = h

  steps_placed : (statements : List Statement) (m : Machine) → AllByRecursion (IsPlaced plan.code plan.placement.sides b) statements → AllByRecursion AtSide (steps statements m).ran
  steps_placed [] m h = tt
  steps_placed (s ∷ rest) m h = then_placed (step s m) rest (step s m).stop (step_placed s m h.0.side) (steps_placed rest (step s m).machine h.1)

  cells_kept : (heap : List Object) (r : Ran) → AtSide r → (within : RanWithin plan.code b.method heap r) → (cells : List Cell) → AllByRecursion (λ (c : Cell). (h : Header) → header_at heap c.object ≡ Some h → ReadsPart plan.code b.method within.word h.site (part_by h.kind c.index)) cells → AllByRecursion (λ (c : Cell). KeepsCell plan b.side heap c.object c.index) cells
  cells_kept heap r at within [] h = tt
  cells_kept heap r at within (c ∷ cells) h = ((λ hd is. read_there within.is at (h.0 hd is)), cells_kept heap r at within cells h.1)

  ran_kept : (heap : List Object) (ran : List Ran) → AllByRecursion AtSide ran → AllByRecursion (RanWithin plan.code b.method heap) ran → RanKept plan b.side heap ran
  ran_kept heap [] h k = tt
  ran_kept heap (r ∷ ran) h k = (cells_kept heap r h.0 k.0 r.reads k.0.reads, ran_kept heap ran h.1 k.1)

-- ---- messages

-- headers alone say what is kept
current_on : (plan : Plan) (side : Side) (old new : List Object) (marks : List Cell) (events : List Event) → ((o : ℕ) → header_at new o ≡ header_at old o) → IsCurrent plan side old marks events → IsCurrent plan side new marks events
current_on plan side old new marks events e h = record {
  here = λ c kept s. h.here c (λ hd is. kept hd (e c.object ∙ is)) s;
  there = λ c kept m s. h.there c (λ hd is. kept hd (e c.object ∙ is)) m s;
}

pub fresh_on : (plan : Plan) (side : Side) (old new : List Object) (marks : List Cell) (events : List Event) → ((o : ℕ) → header_at new o ≡ header_at old o) → IsFresh plan side old marks events → IsFresh plan side new marks events
fresh_on plan side old new marks events e h = (current_on plan side old new marks events e h.0, h.1)

same_other : (side : Side) → other (other side) ≡ side
same_other App = refl
same_other Db = refl

self_side : (side : Side) → same_side side side ≡ true
self_side App = refl
self_side Db = refl

has_place : (c : Cell) (cells : List CellAt) → has_told cells c.object c.index ≡ has_cell (map place_of cells) c
has_place c [] = refl
has_place c (d ∷ cells) = ap (λ (b : Bool). same_cell (place_of d) c || b) (has_place c cells)

module _ (plan : Plan) (side : Side) (near far one : Machine) (u : Updates) (agree : Agree plan side near far one) (is : AreUpdates (Some plan) (length near.heap) near u) (there : (place index : ℕ) → is_marked near.marks place index ≡ true → is_some (cell_at near.heap place index) ≡ true) where
  -- what was written and the other side keeps is brought there
  brought : (c : Cell) → KeepsCell plan (other side) one.heap c.object c.index → is_marked near.marks c.object c.index ≡ true → has_cell (map place_of u.cells) c ≡ true
  brought c keeps marked = by_value (cell_at near.heap c.object c.index) refl
    where
      moves : travels (Some plan) near c.object c.index ≡ true
      moves =
          and_from (is_marked near.marks c.object c.index) (is_named near.named (home_in plan.code plan.placement.sides (header_at near.heap c.object) c.index) c.object) marked
          (ap (λ (h : Option Header). is_named near.named (home_in plan.code plan.placement.sides h c.index) c.object) (agree.near_headers c.object) ∙ agree.named c.object c.index marked keeps)

      by_value : (x : Option Value) → cell_at near.heap c.object c.index ≡ x → has_cell (map place_of u.cells) c ≡ true
      by_value None n = let never : false ≡ true = ap (λ (x : Option Value). is_some x) (sym n) ∙ there c.object c.index marked in cc
      by_value (Some x) n = sym (has_place c u.cells) ∙ has_found u.cells (record { object = c.object; index = c.index; value = x }) (is.cells.all c.object c.index x moves n)

  current_over : (events : List Event) → IsCurrent plan side one.heap near.marks events → IsCurrent plan (other side) one.heap [] (Brought (other side) (map place_of u.cells) ∷ events)
  current_over events h = record {
    here = here_over;
    there = λ c kept m s. h.here c (subst (λ (y : Side). KeepsCell plan y one.heap c.object c.index) (same_other side) kept) (subst (λ (y : Side). IsStale events y c) (same_other side) (stale_brought (other side) (map place_of u.cells) events (other (other side)) c s).0);
  }
    where
      here_over : (c : Cell) → KeepsCell plan (other side) one.heap c.object c.index → IsStale (Brought (other side) (map place_of u.cells) ∷ events) (other side) c → ⊥
      here_over c kept s = by_mark (is_marked near.marks c.object c.index) refl
        where
          old : IsStale events (other side) c × ((same_side (other side) (other side) && has_cell (map place_of u.cells) c) ≡ false)
          old = stale_brought (other side) (map place_of u.cells) events (other side) c s

          by_mark : (b : Bool) → is_marked near.marks c.object c.index ≡ b → ⊥
          by_mark false m = h.there c kept m old.0
          by_mark true m =
              let both : (same_side (other side) (other side) && has_cell (map place_of u.cells) c) ≡ true = and_from (same_side (other side) (other side)) (has_cell (map place_of u.cells) c) (self_side (other side)) (brought c kept m) in
              let never : true ≡ false = sym both ∙ old.1 in
              cc

-- ---- a whole call

module _ (plan : Plan) (names : NamesClasses plan.code) (good : AreGoodBlocks plan) where
  abbrev blocks : List Block
  blocks = plan.blocks.blocks

  -- What a block does to staleness. The heap before it says who keeps what.
  block_fresh : (b : Block) (near far one : Machine) → IsGoodBlock plan b → Agree plan b.side near far one → MachineFits plan.code b.method one
      → (events : List Event) → IsFresh plan b.side one.heap near.marks events → IsFresh plan b.side one.heap (steps b.statements near).machine.marks (with_ran b.side (steps b.statements near).ran events)
  block_fresh b near far one g agree machine events before =
      let alike : RunsAlike plan b.side far (steps b.statements near) (steps b.statements one) = blocks_run_alike plan b near far one names g.placed g.are g.plain machine agree in
      let stays : StaysWithin plan.code b.method one (steps b.statements one) = stay plan.code b.method b.statements one g.are g.plain machine in
      let kept : RanKept plan b.side one.heap (steps b.statements near).ran = subst (λ (rs : List Ran). RanKept plan b.side one.heap rs) (sym alike.ran) (ran_kept plan b one.heap (steps b.statements one).ran (steps_placed plan b b.statements one g.placed) stays.ran) in
      subst (λ (ms : List Cell). IsFresh plan b.side one.heap ms (with_ran b.side (steps b.statements near).ran events)) (sym (steps_marks b.statements near))
      (ran_fresh plan b.side one.heap (steps b.statements near).ran near.marks events kept before.0 before.1)

  -- the same, at the side that has control
  side_fresh : (b : Block) (side : Side) (near far one : Machine) → b.side ≡ side → IsGoodBlock plan b → Agree plan side near far one → MachineFits plan.code b.method one
      → (events : List Event) → IsFresh plan side one.heap near.marks events → IsFresh plan side one.heap (steps b.statements near).machine.marks (with_ran side (steps b.statements near).ran events)
  side_fresh b side near far one at g agree machine events before =
      subst (λ (y : Side). IsFresh plan y one.heap (steps b.statements near).machine.marks (with_ran y (steps b.statements near).ran events)) at
      (block_fresh b near far one g (subst (λ (y : Side). Agree plan y near far one) (sym at) agree) machine events (subst (λ (y : Side). IsFresh plan y one.heap near.marks events) (sym at) before))

  fresh : (side last : Side) (near far last_near last_far : Machine) (n : ℕ) (ran : List Ran) (ending : Ending) (d : RunsAtBoth plan side near far n ran ending last last_near last_far)
      → (one : Machine) → Agree plan side near far one → FramesLike near.frames (bare plan near far) → Fits plan.code one.heap → ((b : Block) → block_at blocks n ≡ Some b → MachineFits plan.code b.method one)
      → MarksThere plan side near far n ran ending last last_near last_far d
      → (events : List Event) → IsFresh plan side one.heap near.marks events → IsFresh plan last one.heap last_near.marks (events_of plan side near far n ran ending last last_near last_far d events)
  unfolding events_of MarksThere
  fresh _ _ near far _ _ _ _ _ finished one agree like fits machine marks events before = before
  fresh side last near far last_near last_far n _ ending (runs {b = b} {ran = ran} is at going after) one agree like fits machine marks events before =
      let g : IsGoodBlock plan b = good n b is in
      let alike : RunsAlike plan b.side far (steps b.statements near) (steps b.statements one) = blocks_run_alike plan b near far one names g.placed g.are g.plain (machine b is) (subst (λ (y : Side). Agree plan y near far one) (sym at) agree) in
      let stays : StaysWithin plan.code b.method one (steps b.statements one) = stay plan.code b.method b.statements one g.are g.plain (machine b is) in
      let fit_next : (c : Block) → block_at blocks (next_block b.exit (steps b.statements near).stop) ≡ Some c → MachineFits plan.code c.method (steps b.statements one).machine =
      subst (λ (x : Stop). (c : Block) → block_at blocks (next_block b.exit x) ≡ Some c → MachineFits plan.code c.method (steps b.statements one).machine) (sym alike.stop) (next_fits plan names good b g one (steps b.statements one).machine (steps b.statements one).stop stays.machine) in
      let now : List Event = with_ran side (steps b.statements near).ran events in
      let done : IsFresh plan side one.heap (steps b.statements near).machine.marks now = side_fresh b side near far one at g agree (machine b is) events before in
      fresh_on plan last (steps b.statements one).machine.heap one.heap last_near.marks (events_of plan side (steps b.statements near).machine far (next_block b.exit (steps b.statements near).stop) ran ending last last_near last_far after now) (λ o. sym (stays.headers o))
      (fresh side last (steps b.statements near).machine far last_near last_far (next_block b.exit (steps b.statements near).stop) ran ending after (steps b.statements one).machine
      (subst (λ (y : Side). Agree plan y (steps b.statements near).machine far (steps b.statements one).machine) at alike.agree)
      (keeping.steps_keep_stacks plan b.statements near far like) stays.heap fit_next marks now
      (fresh_on plan side one.heap (steps b.statements one).machine.heap (steps b.statements near).machine.marks now stays.headers done))
  fresh side _ near far _ _ n _ _ (falls {b = b} is at fell) one agree like fits machine marks events before = side_fresh b side near far one at (good n b is) agree (machine b is) events before
  fresh side last near far last_near last_far n ran ending (crosses {new = new} {t = t} tells at taken after) one agree like fits machine marks events before =
      let is : new ≡ in_control plan t far far.heap = control.taken_is plan side near far one t agree fits like tells new taken in
      let now : List Event = Brought (other side) (map place_of t.updates.cells) ∷ events in
      fresh (other side) last new (quiet near) last_near last_far n ran ending after one
      (subst (λ (x : Machine). Agree plan (other side) x (quiet near) one) (sym is) (control.new_agree plan side near far one t agree fits like tells))
      (subst (λ (x : Machine). FramesLike x.frames (bare plan x (quiet near))) (sym is) (control.new_like plan side near far one t agree fits like tells)) fits machine marks.1 now
      (subst (λ (x : Machine). IsFresh plan (other side) one.heap x.marks now) (sym is) (current_over plan side near far one t.updates agree tells.updates marks.0 events before.0, before.1))

pub nothing_stale : NothingStale
nothing_stale plan names good side last near far last_near last_far n ran ending d one agree like fits machine marks events before = fresh plan names good side last near far last_near last_far n ran ending d one agree like fits machine marks events before

-- ---- a commit

-- where nothing was written since control came, the sides are alike
turned : (plan : Plan) (side : Side) (heap : List Object) (events : List Event) → IsCurrent plan side heap [] events → IsCurrent plan (other side) heap [] events
turned plan side heap events h = record {
  here = λ c kept s. h.there c kept refl s;
  there = λ c kept m s. h.here c (subst (λ (y : Side). KeepsCell plan y heap c.object c.index) (same_other side) kept) (subst (λ (y : Side). IsStale events y c) (same_other side) s);
}

pub commits_leave_fresh : CommitsLeaveFresh
commits_leave_fresh plan near far one u agree is there events before = (turned plan Db one.heap (Brought Db (map place_of u.cells) ∷ events) (current_over plan App near far one u agree is there events before.0), before.1)
