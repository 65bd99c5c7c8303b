-- The cells that are marked as written are there.
use Rattle.std.proofs.Common.{◌≡◌, ℕ, zero, suc, ◌<◌, Bool, true, false, ◌||◌, List, [], ◌∷◌, length, Option, Some, None, is_some, slice_get, Ok, Err, refl, sym, ap, subst, ◌∙◌, arith}
use Rattle.std.proofs.lemmas.Option.{same_Some}
use Rattle.std.specs.List.{AllByRecursion}
use Rattle.px_value.specs.declared.value.Value.{Value}
use Rattle.px_value.specs.declared.value.Value.TheVariants as v
use Rattle.px_value.specs.declared.object.Object.{Object}
use Rattle.px_value.specs.declared.header.Header.{Header}
use Rattle.px_value.specs.declared.header.Kind.{Kind}
use Rattle.px_value.specs.declared.header.Kind.TheVariants as kind
use Rattle.px_value.specs.Heap.{cell_at, cell_of, written}
use Rattle.px_value.specs.Operators.{Applied}
use Rattle.px_code.specs.declared.side.Side.{Side}
use Rattle.px_code.specs.declared.cell.Cell.{Cell}
use Rattle.px_code.specs.declared.word.Operand.TheVariants.{Slot as InFrame, Literal}
use Rattle.px_code.specs.declared.word.Word.{Word}
use Rattle.px_code.specs.declared.word.Word.TheVariants as w
use Rattle.px_code.specs.declared.block.Block.{Block}
use Rattle.px_code.specs.declared.block.Statement.{Statement}
use Rattle.px_code.specs.declared.code.Code.{Code}
use Rattle.px_code.specs.declared.plan.Plan.{Plan}
use Rattle.px_code.specs.Places.{other, site_kind}
use Rattle.px_code.specs.Points.{InSlot}
use Rattle.px_code.specs.Fits.{HasFields, IsMade, Leads, Fits}
use Rattle.px_code.specs.Act.{Slots, Act, Comes, Reads, Writes, operand, at_object, comes, act_of, Acted, acted, value_at}
use Rattle.px_code.specs.CodeRun.{Ran}
use Rattle.px_code.specs.Law.{HasNoReference, AreStatements, NoLiteralReference, MachineFits, StaysWithin}
use Rattle.px_code.specs.Machine.{Machine, top_values, after_act, with_value, Stop, RunsOn, Returned, Threw, Stepped, step, step_ends, steps, then_steps, block_at, next_block}
use Rattle.px_code.specs.Sound.{Ending}
use Rattle.px_code.specs.WellFormed.{IsWordOf, IsWellFormed, main_fields}
use Rattle.px_code.proofs.Alone.{alone}
use Rattle.px_code.proofs.Written.{with_header}
use Rattle.px_code.proofs.Staying.{no_reference, SlotsFit, step_stays, stay}
use Rattle.px_half.specs.Messages.{is_marked}
use Rattle.px_half.specs.Absorbed.{in_control}
use Rattle.px_pair.specs.Agree.{Agree}
use Rattle.px_pair.specs.Law.{NamesClasses, RunsAlike}
use Rattle.px_pair.specs.Crossing.{FramesLike, bare, quiet}
use Rattle.px_pair.specs.Calls.{RunsAtBoth, finished, runs, falls, crosses, IsGoodBlock, AreGoodBlocks}
use Rattle.px_pair.specs.Fresh.{MarksThere}
use Rattle.px_pair.proofs.Heaps.{at_cell, cell_written, marked_more}
use Rattle.px_pair.proofs.HeapCrossing.{still_there, same_places}
use Rattle.px_pair.proofs.Steps.{blocks_run_alike}
use Rattle.px_pair.proofs.StackKeeping as keeping
use Rattle.px_pair.proofs.ControlCrossing as control
use Rattle.px_pair.proofs.Calls.{next_fits}
use Rattle.px_pair.proofs.Fresh.{all_writes}
use Rattle.px_pair.proofs.FreshCalls.{steps_marks, writes_more, all_more}
use Rattle.px_pair.proofs.Servable.{word_of}

-- ---- statements leave the same cells there

written_there : (heap : List Object) (o i : ℕ) (x : Value) (p j : ℕ) → is_some (cell_at (written heap o i x) p j) ≡ is_some (cell_at heap p j)
written_there heap o i x p j = ap (λ (y : Option Value). is_some y) (cell_written heap o i x p j) ∙ still_there (at_cell o i p j) x (cell_at heap p j)

acted_there : (a : Act) (heap : List Object) (p j : ℕ) → is_some (cell_at (acted a heap).heap p j) ≡ is_some (cell_at heap p j)
acted_there (Comes e) heap p j = refl
acted_there (Reads o i k) heap p j = acted_there (k (value_at heap o i)) heap p j
acted_there (Writes o i x k) heap p j = acted_there k (written heap o i x) p j ∙ written_there heap o i x p j

pub valued_heap : (word : Word) (y : Value) (m : Machine) → (with_value word y m).heap ≡ m.heap
valued_heap (w.Set to a) y m = refl
valued_heap (w.Op o to a b) y m = refl
valued_heap (w.Get to of class field) y m = refl
valued_heap (w.Put of class field a) y m = refl
valued_heap (w.Return a) y m = refl

step_there : (s : Statement) (m : Machine) (p j : ℕ) → is_some (cell_at (step s m).machine.heap p j) ≡ is_some (cell_at m.heap p j)
step_there s m p j = by_ends a.ends ∙ acted_there (act_of s.word (top_values m.frames)) m.heap p j
  where
    a : Acted
    a = acted (act_of s.word (top_values m.frames)) m.heap

    by_ends : (e : Applied) → is_some (cell_at (step_ends s a m e).machine.heap p j) ≡ is_some (cell_at a.heap p j)
    by_ends (Err t) = refl
    by_ends (Ok y) = ap (λ (heap : List Object). is_some (cell_at heap p j)) (valued_heap s.word y (after_act a m))

then_there : (one : Stepped) (rest : List Statement) (stop : Stop) (p j : ℕ) → is_some (cell_at (steps rest one.machine).machine.heap p j) ≡ is_some (cell_at one.machine.heap p j) → is_some (cell_at (then_steps one (steps rest) stop).machine.heap p j) ≡ is_some (cell_at one.machine.heap p j)
then_there one rest RunsOn p j h = h
then_there one rest Returned p j h = refl
then_there one rest (Threw t) p j h = refl

steps_there : (statements : List Statement) (m : Machine) (p j : ℕ) → is_some (cell_at (steps statements m).machine.heap p j) ≡ is_some (cell_at m.heap p j)
steps_there [] m p j = refl
steps_there (s ∷ rest) m p j = then_there (step s m) rest (step s m).stop p j (steps_there rest (step s m).machine p j) ∙ step_there s m p j

-- ---- what is written is there

abbrev AreThere : List Object → List Cell → Type 0
AreThere heap cells = AllByRecursion (λ (c : Cell). is_some (cell_at heap c.object c.index) ≡ true) cells

there_on : (old new : List Object) (cells : List Cell) → ((p j : ℕ) → is_some (cell_at new p j) ≡ is_some (cell_at old p j)) → AreThere old cells → AreThere new cells
there_on old new [] same h = tt
there_on old new (c ∷ cells) same h = (same c.object c.index ∙ h.0, there_on old new cells same h.1)

get_there : (xs : List Value) (i : ℕ) → i < length xs → is_some (slice_get xs i) ≡ true
get_there [] i h = absurd (omega (arith, h))
get_there (x ∷ xs) zero h = refl
get_there (x ∷ xs) (suc i) h = get_there xs i (omega (arith, h))

put_there : (heap : List Object) (field : ℕ) (x y : Value) → ((object : ℕ) → x ≡ v.Ref object → is_some (cell_at heap object field) ≡ true) → AreThere heap (acted (at_object x (λ o. Writes o field y (comes v.Null))) heap).writes
put_there heap field (v.Int n) y h = tt
put_there heap field (v.Long n) y h = tt
put_there heap field (v.Bool b) y h = tt
put_there heap field (v.Text t) y h = tt
put_there heap field v.Null y h = tt
put_there heap field (v.Ref o) y h = (h o refl, tt)

get_writes : (heap : List Object) (field : ℕ) (x : Value) → AreThere heap (acted (at_object x (λ o. Reads o field comes)) heap).writes
get_writes heap field (v.Int n) = tt
get_writes heap field (v.Long n) = tt
get_writes heap field (v.Bool b) = tt
get_writes heap field (v.Text t) = tt
get_writes heap field v.Null = tt
get_writes heap field (v.Ref o) = tt

module _ (code : Code) (formed : IsWellFormed code) (m : ℕ) where
  -- an object that a slot leads to has each field of Main
  field_there : (heap : List Object) (of field object : ℕ) → Fits code heap → Leads code heap (InSlot m of) object → field < length (main_fields code) → is_some (cell_at heap object field) ≡ true
  field_there heap of field object fits l below =
      let found = with_header (slice_get heap object) l.header l.there in
      let made : IsMade code found.0 = fits.shaped.made object found.0 found.1 in
      let site : l.header.site ≡ 0 = alone code (InSlot m of) l.header.site l.site in
      let is : Some (kind.Object code.main) ≡ Some l.header.kind =
      ap (λ s. site_kind code s) (sym (ap (λ (g : Header). g.site) found.2 ∙ site)) ∙ made.kind ∙ ap (λ (g : Header). Some g.kind) found.2 in
      let of_main : found.0.header.kind ≡ kind.Object code.main = ap (λ (g : Header). g.kind) found.2 ∙ sym (same_Some (kind.Object code.main) l.header.kind is) in
      let fields : length found.0.cells ≡ length (main_fields code) = subst (λ (k : Kind). HasFields code k (length found.0.cells)) of_main made.fields in
      ap (λ (x : Option Object). is_some (cell_of x field)) found.1 ∙ get_there found.0.cells field (omega (arith, fields, below))

  word_there : (n : ℕ) (word : Word) (heap : List Object) (slots : Slots) → IsWordOf code n word → HasNoReference word → Fits code heap → SlotsFit code m heap slots → AreThere heap (acted (act_of word slots) heap).writes
  word_there n (w.Set to a) heap slots is plain fits frame = tt
  word_there n (w.Op o to a b) heap slots is plain fits frame = tt
  word_there n (w.Get to of class field) heap slots is plain fits frame = get_writes heap field (operand slots of)
  word_there n (w.Put (InFrame of) class field a) heap slots is plain fits frame = put_there heap field (slots of) (operand slots a) (λ object e. field_there heap of field object fits (frame of object e) is.2.1)
  word_there n (w.Put (Literal x) class field a) heap slots is plain fits frame = put_there heap field x (operand slots a) (λ object e. absurd (no_reference x object plain.0 e))
  word_there n (w.Return None) heap slots is plain fits frame = tt
  word_there n (w.Return (Some a)) heap slots is plain fits frame = tt

  step_writes : (s : Statement) (one : Machine) → AreStatements code m (s ∷ []) → HasNoReference s.word → MachineFits code m one → AreThere one.heap (all_writes (step s one).ran)
  step_writes s one are plain fits = by_ends a.ends
    where
      a : Acted
      a = acted (act_of s.word (top_values one.frames)) one.heap

      there : AreThere one.heap a.writes
      there = word_there (length are.0.method.slots) s.word one.heap (top_values one.frames) (word_of code formed m s.node s.word are.0) plain fits.heap fits.frame

      by_ends : (e : Applied) → AreThere one.heap (all_writes (step_ends s a one e).ran)
      by_ends (Err t) = all_more (λ (c : Cell). is_some (cell_at one.heap c.object c.index) ≡ true) a.writes [] there tt
      by_ends (Ok y) = all_more (λ (c : Cell). is_some (cell_at one.heap c.object c.index) ≡ true) a.writes [] there tt

  then_writes : (heap : List Object) (one : Stepped) (rest : List Statement) (stop : Stop) → one.stop ≡ stop → AreThere heap (all_writes one.ran) → (one.stop ≡ RunsOn → AreThere heap (all_writes (steps rest one.machine).ran)) → AreThere heap (all_writes (then_steps one (steps rest) stop).ran)
  then_writes heap one rest RunsOn is h k = subst (AreThere heap) (sym (writes_more one.ran (steps rest one.machine).ran)) (all_more (λ (c : Cell). is_some (cell_at heap c.object c.index) ≡ true) (all_writes one.ran) (all_writes (steps rest one.machine).ran) h (k is))
  then_writes heap one rest Returned is h k = h
  then_writes heap one rest (Threw t) is h k = h

  pub writes_there : (statements : List Statement) (one : Machine) → AreStatements code m statements → NoLiteralReference statements → MachineFits code m one → AreThere one.heap (all_writes (steps statements one).ran)
  writes_there [] one are plain fits = tt
  writes_there (s ∷ rest) one are plain fits =
      then_writes one.heap (step s one) rest (step s one).stop refl (step_writes s one (are.0, tt) plain.0 fits)
      (λ on. there_on (step s one).machine.heap one.heap (all_writes (steps rest (step s one).machine).ran) (λ p j. sym (step_there s one p j)) (writes_there rest (step s one).machine are.1 plain.1 ((step_stays code m s one are.0 plain.0 fits).machine on)))

-- ---- marks

-- what is marked is there
abbrev pub AreMarksThere : Machine → Type 0
AreMarksThere m = (place index : ℕ) → is_marked m.marks place index ≡ true → is_some (cell_at m.heap place index) ≡ true

marked_there : (heap : List Object) (cells : List Cell) (o i : ℕ) → AreThere heap cells → is_marked cells o i ≡ true → is_some (cell_at heap o i) ≡ true
marked_there heap [] o i h marked = cc
marked_there heap (c ∷ cells) o i h marked = split (at_cell c.object c.index o i) refl (marked_there heap cells o i h.1)
  where
    split : (b : Bool) → at_cell c.object c.index o i ≡ b → (is_marked cells o i ≡ true → is_some (cell_at heap o i) ≡ true) → is_some (cell_at heap o i) ≡ true
    split true e later =
        let here = same_places c.object c.index o i e in
        (λ k. is_some (cell_at heap (sym here.0 k) (sym here.1 k))) ∙ h.0
    split false e later = later (ap (λ b. b || is_marked cells o i) (sym e) ∙ marked)

module _ (plan : Plan) (formed : IsWellFormed plan.code) (names : NamesClasses plan.code) (good : AreGoodBlocks plan) where
  abbrev blocks : List Block
  blocks = plan.blocks.blocks

  block_marks : (b : Block) (side : Side) (near far one : Machine) → IsGoodBlock plan b → RunsAlike plan side far (steps b.statements near) (steps b.statements one) → Agree plan side near far one → MachineFits plan.code b.method one → AreMarksThere near → AreMarksThere (steps b.statements near).machine
  block_marks b side near far one g alike agree machine before o i h = steps_there b.statements near o i ∙ split (is_marked near.marks o i) refl
    where
      ran : List Ran
      ran = (steps b.statements near).ran

      both : (is_marked near.marks o i || is_marked (all_writes ran) o i) ≡ true
      both = sym (marked_more near.marks (all_writes ran) o i) ∙ ap (λ (ms : List Cell). is_marked ms o i) (sym (steps_marks b.statements near)) ∙ h

      split : (x : Bool) → is_marked near.marks o i ≡ x → is_some (cell_at near.heap o i) ≡ true
      split true e = before o i e
      split false e =
          (agree.copies o i).near_there
          ∙ marked_there one.heap (all_writes (steps b.statements one).ran) o i (writes_there plan.code formed b.method b.statements one g.are g.plain machine)
          (ap (λ (rs : List Ran). is_marked (all_writes rs) o i) (sym alike.ran) ∙ ap (λ x. x || is_marked (all_writes ran) o i) (sym e) ∙ both)

  -- where a message tells them, and where the call ends
  pub marks_there : (side last : Side) (near far last_near last_far : Machine) (n : ℕ) (ran : List Ran) (ending : Ending) (d : RunsAtBoth plan side near far n ran ending last last_near last_far)
      → (one : Machine) → Agree plan side near far one → FramesLike near.frames (bare plan near far) → Fits plan.code one.heap → ((b : Block) → block_at blocks n ≡ Some b → MachineFits plan.code b.method one)
      → AreMarksThere near → MarksThere plan side near far n ran ending last last_near last_far d × AreMarksThere last_near
  unfolding MarksThere
  marks_there _ _ near far _ _ _ _ _ finished one agree like fits machine before = (tt, before)
  marks_there side last near far last_near last_far n _ ending (runs {b = b} {ran = ran} is at going after) one agree like fits machine before =
      let g : IsGoodBlock plan b = good n b is in
      let alike : RunsAlike plan b.side far (steps b.statements near) (steps b.statements one) = blocks_run_alike plan b near far one names g.placed g.are g.plain (machine b is) (subst (λ (y : Side). Agree plan y near far one) (sym at) agree) in
      let stays : StaysWithin plan.code b.method one (steps b.statements one) = stay plan.code b.method b.statements one g.are g.plain (machine b is) in
      let fit_next : (c : Block) → block_at blocks (next_block b.exit (steps b.statements near).stop) ≡ Some c → MachineFits plan.code c.method (steps b.statements one).machine =
      subst (λ (x : Stop). (c : Block) → block_at blocks (next_block b.exit x) ≡ Some c → MachineFits plan.code c.method (steps b.statements one).machine) (sym alike.stop) (next_fits plan names good b g one (steps b.statements one).machine (steps b.statements one).stop stays.machine) in
      marks_there side last (steps b.statements near).machine far last_near last_far (next_block b.exit (steps b.statements near).stop) ran ending after (steps b.statements one).machine
      (subst (λ (y : Side). Agree plan y (steps b.statements near).machine far (steps b.statements one).machine) at alike.agree)
      (keeping.steps_keep_stacks plan b.statements near far like) stays.heap fit_next
      (block_marks b b.side near far one g alike (subst (λ (y : Side). Agree plan y near far one) (sym at) agree) (machine b is) before)
  marks_there side _ near far _ _ n _ _ (falls {b = b} is at fell) one agree like fits machine before =
      let g : IsGoodBlock plan b = good n b is in
      let alike : RunsAlike plan b.side far (steps b.statements near) (steps b.statements one) = blocks_run_alike plan b near far one names g.placed g.are g.plain (machine b is) (subst (λ (y : Side). Agree plan y near far one) (sym at) agree) in
      (tt, block_marks b b.side near far one g alike (subst (λ (y : Side). Agree plan y near far one) (sym at) agree) (machine b is) before)
  marks_there side last near far last_near last_far n ran ending (crosses {new = new} {t = t} tells at taken after) one agree like fits machine before =
      let is : new ≡ in_control plan t far far.heap = control.taken_is plan side near far one t agree fits like tells new taken in
      let rest : MarksThere plan (other side) new (quiet near) n ran ending last last_near last_far after × AreMarksThere last_near =
      marks_there (other side) last new (quiet near) last_near last_far n ran ending after one
      (subst (λ (x : Machine). Agree plan (other side) x (quiet near) one) (sym is) (control.new_agree plan side near far one t agree fits like tells))
      (subst (λ (x : Machine). FramesLike x.frames (bare plan x (quiet near))) (sym is) (control.new_like plan side near far one t agree fits like tells)) fits machine
      (subst AreMarksThere (sym is) (λ o i h. cc)) in
      ((before, rest.0), rest.1)
