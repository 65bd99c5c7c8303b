-- A plan that two ends can serve is a sound one for its code.
use Rattle.std.proofs.Common.{◌≡◌, ℕ, List, [], ◌∷◌, length, Some, refl, sym, ap, subst, ◌∙◌}
use Rattle.std.specs.List.{AllByRecursion}
use Rattle.px_value.specs.declared.value.Value.{Value}
use Rattle.px_value.specs.declared.object.Object.{Object}
use Rattle.px_value.specs.declared.header.Header.{Header}
use Rattle.px_value.specs.Outcome.{Gives, Throws, Asks}
use Rattle.px_code.specs.declared.cell.Cell.{Cell}
use Rattle.px_code.specs.declared.cell.Part.{Part}
use Rattle.px_code.specs.declared.cell.Part.TheVariants.{Field as FieldPart}
use Rattle.px_code.specs.declared.word.Word.{Word}
use Rattle.px_code.specs.declared.block.Block.{Block}
use Rattle.px_code.specs.declared.code.Code.{Code}
use Rattle.px_code.specs.declared.plan.Plan.{Plan}
use Rattle.px_code.specs.Places.{side_of, site_kind, part_by}
use Rattle.px_code.specs.Points.{InSlot, ReadsPart, get}
use Rattle.px_code.specs.Sends.{read_there}
use Rattle.px_code.specs.Fits.{header_at}
use Rattle.px_code.specs.CodeRun.{Ran}
use Rattle.px_code.specs.Law.{MachineFits, RanWithin, StaysWithin}
use Rattle.px_code.specs.Machine.{Machine, steps, block_at, next_block}
use Rattle.px_code.specs.Sound.{Ending, RunsFrom, finished, runs, falls, CodeOutcome, run_of, SameEnd, IsInput, entered, first_block, BlocksRun, KindHasPart, IsKeep, IsKeptCell, ReadsKept, AllReadsKept}
use Rattle.px_code.specs.WellFormed.{IsWordOf}
use Rattle.px_code.proofs.Alone.{alone}
use Rattle.px_code.proofs.Staying.{stay}
use Rattle.px_pair.specs.Law.{NamesClasses}
use Rattle.px_pair.specs.Calls.{IsGoodBlock, AreGoodBlocks}
use Rattle.px_pair.specs.Servable.{IsServable, CompiledIsSound}
use Rattle.px_pair.proofs.Calls.{next_fits}
use Rattle.px_pair.proofs.Entries.{entries_fit}
use Rattle.px_pair.proofs.BlocksRun.{blocks_run_as_code}
use Rattle.px_pair.proofs.Whole.{returning}
use Rattle.px_pair.proofs.FreshCalls.{all_more}
use Rattle.px_pair.proofs.Served.{run_headers}
use Rattle.px_pair.proofs.Servable.{word_of, names_classes, good_blocks, all_return, writes_inside, entry_room}

same_end : (o : CodeOutcome) → SameEnd o o
same_end (Gives x s) = (refl, refl)
same_end (Throws t s) = refl
same_end (Asks q z) = absurd q

-- what is read is a part that the objects of its site have
has_part : (code : Code) (m n : ℕ) (word : Word) (site : ℕ) (part : Part) → IsWordOf code n word → ReadsPart code m word site part → KindHasPart code (site_kind code site) part
has_part code m n _ site _ is (get {of = of} {field = field} points) = subst (λ (s : ℕ). KindHasPart code (site_kind code s) (FieldPart field)) (sym (alone code (InSlot m of) site points)) is.2.1

module _ (plan : Plan) (servable : IsServable plan) (keep : IsKeep plan.code plan.placement.sides plan.keep) where
  names : NamesClasses plan.code
  names = names_classes plan.code servable.formed

  good : AreGoodBlocks plan
  good = good_blocks plan servable

  -- ---- what is read is kept

  module _ (m : ℕ) (old new : List Object) (headers : (o : ℕ) → header_at new o ≡ header_at old o) where
    cells_kept : (r : Ran) (within : RanWithin plan.code m old r) (cells : List Cell) → AllByRecursion (λ (c : Cell). (h : Header) → header_at old c.object ≡ Some h → ReadsPart plan.code m within.word h.site (part_by h.kind c.index)) cells → AllByRecursion (IsKeptCell plan new (side_of plan.placement.sides r.node)) cells
    cells_kept r within [] h = tt
    cells_kept r within (c ∷ cells) h = (kept, cells_kept r within cells h.1)
      where
        kept : IsKeptCell plan new (side_of plan.placement.sides r.node) c
        kept hd is =
            let reads : ReadsPart plan.code m within.word hd.site (part_by hd.kind c.index) = h.0 hd (sym (headers c.object) ∙ is) in
            (keep (side_of plan.placement.sides r.node) hd.site (part_by hd.kind c.index)).1
            (has_part plan.code m (length within.is.method.slots) within.word hd.site (part_by hd.kind c.index) (word_of plan.code servable.formed m r.node within.word within.is) reads, read_there within.is refl reads)

    ran_kept : (ran : List Ran) → AllByRecursion (RanWithin plan.code m old) ran → AllByRecursion (ReadsKept plan new) ran
    ran_kept [] h = tt
    ran_kept (r ∷ ran) h = (cells_kept r h.0 r.reads h.0.reads, ran_kept ran h.1)

  run_kept : (n : ℕ) (m last : Machine) (ran : List Ran) (ending : Ending) → RunsFrom plan.blocks.blocks n m ran ending last → ((b : Block) → block_at plan.blocks.blocks n ≡ Some b → MachineFits plan.code b.method m)
      → (heap : List Object) → ((o : ℕ) → header_at heap o ≡ header_at m.heap o) → AllByRecursion (ReadsKept plan heap) ran
  run_kept _ m _ _ _ finished machine heap headers = tt
  run_kept n m last _ ending (runs {b = b} {ran = ran} is going after) machine heap headers =
      let g : IsGoodBlock plan b = good n b is in
      let stays : StaysWithin plan.code b.method m (steps b.statements m) = stay plan.code b.method b.statements m g.are g.plain (machine b is) in
      all_more (ReadsKept plan heap) (steps b.statements m).ran ran (ran_kept b.method m.heap heap headers (steps b.statements m).ran stays.ran)
      (run_kept (next_block b.exit (steps b.statements m).stop) (steps b.statements m).machine last ran ending after (next_fits plan names good b g m (steps b.statements m).machine (steps b.statements m).stop stays.machine) heap (λ o. headers o ∙ sym (stays.headers o)))
  run_kept n m _ _ _ (falls {b = b} is fell) machine heap headers =
      let g : IsGoodBlock plan b = good n b is in
      ran_kept b.method m.heap heap headers (steps b.statements m).ran (stay plan.code b.method b.statements m g.are g.plain (machine b is)).ran

  -- ---- a call of an entry

  module _ (heap : List Object) (method : ℕ) (args : List Value) (input : IsInput plan.code heap method args) where
    as_code : BlocksRun plan (entered plan.code heap method args) method (run_of plan.code heap method args)
    as_code = blocks_run_as_code plan heap method args input.method servable.blocks input.is.is (returning plan.code.methods method input.method (all_return plan.code servable.formed) input.is.is) (writes_inside plan.code servable.formed method input.method input.is.is) (entry_room plan heap method args servable input)

    first_fits : (b : Block) → block_at plan.blocks.blocks (first_block plan method) ≡ Some b → MachineFits plan.code b.method (entered plan.code heap method args)
    first_fits = entries_fit plan heap method args servable.blocks input

    end_kept : (end : List Object) (last : Machine) (ran : List Ran) (ending : Ending) → RunsFrom plan.blocks.blocks (first_block plan method) (entered plan.code heap method args) ran ending last → last.heap ≡ end → AllByRecursion (ReadsKept plan end) ran
    end_kept end last ran ending run is =
        run_kept (first_block plan method) (entered plan.code heap method args) last ran ending run first_fits end
        (λ o. ap (λ (h : List Object). header_at h o) (sym is) ∙ run_headers plan names good (first_block plan method) (entered plan.code heap method args) last ran ending run first_fits o)

    reads_of : (o : CodeOutcome) → BlocksRun plan (entered plan.code heap method args) method o → AllReadsKept plan o
    reads_of (Gives x s) run = end_kept s.shared.heap run.last s.ran _ run.runs run.heap_is
    reads_of (Throws t s) run = end_kept s.shared.heap run.last s.ran _ run.runs run.heap_is
    reads_of (Asks q z) run = absurd q

    reads_kept : AllReadsKept plan (run_of plan.code heap method args)
    reads_kept = reads_of (run_of plan.code heap method args) as_code

pub compiled_is_sound : CompiledIsSound
compiled_is_sound plan servable keep = record {
  same = λ heap method args input. same_end (run_of plan.code heap method args);
  runs = as_code plan servable keep;
  reads = reads_kept plan servable keep;
  keep = keep;
  blocks = servable.blocks;
}
