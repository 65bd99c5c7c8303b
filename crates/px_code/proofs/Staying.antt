-- Statements stay within what points-to says.
use Rattle.std.proofs.Common.{◌≡◌, ℕ, List, [], ◌∷◌, ◌++◌, length, Option, Some, None, Ok, Err, IfOk, slice_get, unwrap_or, refl, sym, ap, ◌∙◌, subst, ⊎_elim}
use Rattle.std.specs.List.{AllByRecursion}
use Rattle.std.proofs.lemmas.Option.{same_Some}
use Rattle.px_value.specs.declared.value.Value.{Value}
use Rattle.px_value.specs.declared.value.Value.TheVariants.{Null, Ref}
use Rattle.px_value.specs.declared.thrown.Thrown.TheVariants.{NullPointerException}
use Rattle.px_value.specs.declared.object.Object.{Object}
use Rattle.px_value.specs.declared.header.Header.{Header}
use Rattle.px_value.specs.declared.header.Kind.{Kind}
use Rattle.px_value.specs.declared.header.Kind.TheVariants as kind
use Rattle.px_value.specs.declared.op.Op.{Op}
use Rattle.px_value.specs.Heap.{cell_at, header_of, written}
use Rattle.px_value.specs.Operators.{Applied, apply}
use Rattle.px_value.proofs.Given.{given}
use Rattle.px_code.specs.declared.cell.Cell.{Cell}
use Rattle.px_code.specs.declared.cell.Part.TheVariants.{Field as FieldPart}
use Rattle.px_code.specs.declared.word.Operand.{Operand}
use Rattle.px_code.specs.declared.word.Operand.TheVariants.{Slot as InFrame, Literal}
use Rattle.px_code.specs.declared.word.Word.{Word}
use Rattle.px_code.specs.declared.word.Word.TheVariants as w
use Rattle.px_code.specs.declared.frame.Frame.{Frame}
use Rattle.px_code.specs.declared.block.Statement.{Statement}
use Rattle.px_code.specs.declared.code.Code.{Code}
use Rattle.px_code.specs.Act.{Slots, Act, Comes, Reads, Writes, operand, operand_or, at_object, comes, act_of, slot_of, Acted, acted, value_at}
use Rattle.px_code.specs.CodeRun.{Ran}
use Rattle.px_code.specs.Places.{site_kind, part_by}
use Rattle.px_code.specs.Points.{Place, InSlot, InPart, PointsTo, copied, got, HasStatement, ReadsPart, WritesPart}
use Rattle.px_code.specs.Points as points
use Rattle.px_code.specs.Fits.{HasFields, IsMade, IsShaped, Leads, Fits, header_at}
use Rattle.px_code.specs.Machine.{Machine, Stop, RunsOn, Returned, Threw, Stepped, steps, step, step_ends, stop_of, then_steps, after_act, with_value, filled_if, top, top_values}
use Rattle.px_code.specs.Sound.{IsNoReference}
use Rattle.px_code.specs.Law.{MachineFits, IsNoLiteralReference, HasNoReference, RanWithin, StaysWithin, StepsStay}
use Rattle.px_code.proofs.Alone.{alone}
use Rattle.px_code.proofs.Written.{header_at-written, cell_at-written, slice_get-written, with_header, top_values-filled}

-- ---- lists

all_map : {A : Type 0} (P Q : A → Type 0) (xs : List A) → ((x : A) → P x → Q x) → AllByRecursion P xs → AllByRecursion Q xs
all_map P Q [] f all = tt
all_map P Q (x ∷ xs) f all = (f x all.0, all_map P Q xs f all.1)

all_append : {A : Type 0} (P : A → Type 0) (xs ys : List A) → AllByRecursion P xs → AllByRecursion P ys → AllByRecursion P (xs ++ ys)
all_append P [] ys all more = more
all_append P (x ∷ xs) ys all more = (all.0, all_append P xs ys all.1 more)

-- ---- what is no reference

abbrev pub GivesNoReference : Applied → Type 0
GivesNoReference applied = IfOk applied IsNoReference

-- no operator gives a reference
pub apply_plain : (o : Op) (a b : Value) → GivesNoReference (apply o a b)
apply_plain o a b = given IsNoReference (λ n. tt) (λ n. tt) (λ t. tt) tt o a b (λ h. tt)

pub no_reference : (v : Value) (target : ℕ) → IsNoReference v → v ≡ Ref target → ⊥
no_reference v target plain h = subst IsNoReference h plain

gives_none : (applied : Applied) (target : ℕ) → GivesNoReference applied → applied ≡ Ok (Ref target) → ⊥
gives_none applied target plain h = subst GivesNoReference h plain

-- ---- heaps

module _ (code : Code) where
  -- where headers stay, references lead where they did
  pub leads_on : (old new : List Object) (place : Place) (target : ℕ) → ((p : ℕ) → header_at new p ≡ header_at old p) → Leads code old place target → Leads code new place target
  leads_on old new place target same l = record { header = l.header; there = same target ∙ l.there; site = l.site }

  pub site_at : (heap : List Object) (place : Place) (target : ℕ) (h : Header) → Leads code heap place target → header_at heap target ≡ Some h → PointsTo code place h.site
  site_at heap place target h l there = subst (λ (g : Header). PointsTo code place g.site) (same_Some l.header h (sym l.there ∙ there)) l.site

  -- an object that a reference leads to has fields
  pub leads_to_object : (heap : List Object) (place : Place) (target : ℕ) (h : Header) (index : ℕ) → Fits code heap → Leads code heap place target → header_at heap target ≡ Some h → part_by h.kind index ≡ FieldPart index
  leads_to_object heap place target h index fits l there =
      let found = with_header (slice_get heap target) h there in
      let made : IsMade code found.0 = fits.shaped.made target found.0 found.1 in
      let site : h.site ≡ 0 = alone code place h.site (site_at heap place target h l there) in
      let is : Some (kind.Object code.main) ≡ Some h.kind =
      ap (λ s. site_kind code s) (sym (ap (λ (g : Header). g.site) found.2 ∙ site)) ∙ made.kind ∙ ap (λ (g : Header). Some g.kind) found.2 in
      ap (λ (k : Kind). part_by k index) (sym (same_Some (kind.Object code.main) h.kind is))

  made_on : (o old : Object) → o.header ≡ old.header → length o.cells ≡ length old.cells → IsMade code old → IsMade code o
  made_on o old header counted made = record {
    kind = ap (λ (h : Header). site_kind code h.site) header ∙ made.kind ∙ ap (λ (h : Header). Some h.kind) (sym header);
    counted = counted ∙ made.counted ∙ ap (λ (h : Header). h.length) (sym header);
    fields = subst (λ (h : Header). HasFields code h.kind (length o.cells)) (sym header) (subst (λ n. HasFields code old.header.kind n) (sym counted) made.fields);
  }

  pub shaped_on : (heap : List Object) (object index : ℕ) (v : Value) → IsShaped code heap → IsShaped code (written heap object index v)
  shaped_on heap object index v shaped =
      let first = with_header (slice_get (written heap object index v) 0) shaped.first.header (header_at-written heap object index v 0 ∙ ap header_of shaped.first_is) in
      record {
        first = first.0;
        first_is = first.1;
        of_main = ap (λ (h : Header). h.kind) first.2 ∙ shaped.of_main;
        at_site_0 = ap (λ (h : Header). h.site) first.2 ∙ shaped.at_site_0;
        made = λ place o is.
            let was = slice_get-written heap object index v place o is in
            made_on o was.before was.header was.counted (shaped.made place was.before was.was);
      }

  -- a write of what may stand there leaves a heap that fits
  pub fits_on : (heap : List Object) (object index : ℕ) (v : Value) → Fits code heap → ((target : ℕ) (h : Header) → v ≡ Ref target → header_at heap object ≡ Some h → Leads code heap (InPart h.site (part_by h.kind index)) target) → Fits code (written heap object index v)
  fits_on heap object index v fits may = record {
    shaped = shaped_on heap object index v fits.shaped;
    leads = λ place at target h cell header.
        let before : header_at heap place ≡ Some h = sym (header_at-written heap object index v place) ∙ header in
        leads_on heap (written heap object index v) (InPart h.site (part_by h.kind at)) target (header_at-written heap object index v) (⊎_elim
        (λ (t : (object ≡ place) × (index ≡ at) × (v ≡ Ref target)). subst (λ i. Leads code heap (InPart h.site (part_by h.kind i)) target) t.1 (may target h t.2 (ap (λ p. header_at heap p) t.0 ∙ before)))
        (λ (t : cell_at heap place at ≡ Some (Ref target)). fits.leads place at target h t before)
        (cell_at-written heap object index v place at (Ref target) cell));
  }

  -- ---- what a word does

  module _ (m : ℕ) where
    -- an act of a word, on a heap that fits
    pub record ActStays (word : Word) (heap : List Object) (a : Acted) : Type 0 where
      pub reads : AllByRecursion (λ (c : Cell). (h : Header) → header_at heap c.object ≡ Some h → ReadsPart code m word h.site (part_by h.kind c.index)) a.reads
      pub writes : AllByRecursion (λ (c : Cell). (h : Header) → header_at heap c.object ≡ Some h → WritesPart code m word h.site (part_by h.kind c.index)) a.writes
      pub fits : Fits code a.heap
      pub headers : (place : ℕ) → header_at a.heap place ≡ header_at heap place
      pub value : (n target : ℕ) → slot_of word ≡ Some n → a.ends ≡ Ok (Ref target) → Leads code heap (InSlot m n) target

    -- each reference in a slot leads where points-to says
    abbrev pub SlotsFit : List Object → Slots → Type 0
    SlotsFit heap slots = (n target : ℕ) → slots n ≡ Ref target → Leads code heap (InSlot m n) target

    -- nothing read, nothing written
    only_comes : (word : Word) (heap : List Object) (applied : Applied) → Fits code heap → ((n target : ℕ) → slot_of word ≡ Some n → applied ≡ Ok (Ref target) → Leads code heap (InSlot m n) target) → ActStays word heap (acted (Comes applied) heap)
    only_comes word heap applied fits value = record { reads = tt; writes = tt; fits = fits; headers = λ place. refl; value = value }

    -- a reference is followed, and anything else throws
    at_object_stays : (P : Act → Type 0) (v : Value) (f : ℕ → Act) → P (Comes (Err NullPointerException)) → ((object : ℕ) → v ≡ Ref object → P (f object)) → P (at_object v f)
    at_object_stays P (Ref object) f throws follows = follows object refl
    at_object_stays P v f throws follows = throws

    found_there : (o : Option Value) (target : ℕ) → unwrap_or o Null ≡ Ref target → o ≡ Some (Ref target)
    found_there None target h = cc
    found_there (Some v) target h = ap (λ (z : Value). Some z) h

    same_Ok : (v : Value) (target : ℕ) → ◌≡◌ {A = Applied} (Ok v) (Ok (Ref target)) → v ≡ Ref target
    same_Ok v target h = cc

    set_stays : (node to : ℕ) (a : Operand) (heap : List Object) (slots : Slots) → HasStatement code m node (w.Set to a) → IsNoLiteralReference a → Fits code heap → SlotsFit heap slots → ActStays (w.Set to a) heap (acted (act_of (w.Set to a) slots) heap)
    set_stays node to (InFrame from) heap slots has plain fits frame = only_comes (w.Set to (InFrame from)) heap (Ok (slots from)) fits (λ n target to_n ends.
        let l = frame from target (same_Ok (slots from) target ends) in
        record { header = l.header; there = l.there; site = subst (λ k. PointsTo code (InSlot m k) l.header.site) (same_Some to n to_n) (copied has l.site) })
    set_stays node to (Literal v) heap slots has plain fits frame = only_comes (w.Set to (Literal v)) heap (Ok v) fits (λ n target to_n ends. absurd (no_reference v target plain (same_Ok v target ends)))

    get_stays : (node to : ℕ) (of : Operand) (class field : ℕ) (heap : List Object) (slots : Slots) → HasStatement code m node (w.Get to of class field) → IsNoLiteralReference of → Fits code heap → SlotsFit heap slots → ActStays (w.Get to of class field) heap (acted (act_of (w.Get to of class field) slots) heap)
    get_stays node to (InFrame of) class field heap slots has plain fits frame =
        let word : Word = w.Get to (InFrame of) class field in
        at_object_stays (λ act. ActStays word heap (acted act heap)) (slots of) (λ object. Reads object field comes)
        (only_comes word heap (Err NullPointerException) fits (λ n target to_n ends. cc))
        (λ object is.
        let l = frame of object is in
        record {
          reads = (λ h there. subst (λ part. ReadsPart code m word h.site part) (sym (leads_to_object heap (InSlot m of) object h field fits l there)) (points.ReadsPart.get (site_at heap (InSlot m of) object h l there)), tt);
          writes = tt;
          fits = fits;
          headers = λ place. refl;
          value = λ n target to_n ends.
              let cell : cell_at heap object field ≡ Some (Ref target) = found_there (cell_at heap object field) target (same_Ok (value_at heap object field) target ends) in
              let k = fits.leads object field target l.header cell l.there in
              let part : PointsTo code (InPart l.header.site (FieldPart field)) k.header.site = subst (λ part. PointsTo code (InPart l.header.site part) k.header.site) (leads_to_object heap (InSlot m of) object l.header field fits l l.there) k.site in
              record { header = k.header; there = k.there; site = subst (λ i. PointsTo code (InSlot m i) k.header.site) (same_Some to n to_n) (got has l.site part) };
        })
    get_stays node to (Literal v) class field heap slots has plain fits frame =
        let word : Word = w.Get to (Literal v) class field in
        at_object_stays (λ act. ActStays word heap (acted act heap)) v (λ object. Reads object field comes)
        (only_comes word heap (Err NullPointerException) fits (λ n target to_n ends. cc))
        (λ object is. absurd (no_reference v object plain is))

    -- what a put writes may stand there
    may_put : (node of class field : ℕ) (a : Operand) (heap : List Object) (slots : Slots) (site target : ℕ) → HasStatement code m node (w.Put (InFrame of) class field a) → IsNoLiteralReference a → SlotsFit heap slots → PointsTo code (InSlot m of) site → operand slots a ≡ Ref target → Leads code heap (InPart site (FieldPart field)) target
    may_put node of class field (InFrame from) heap slots site target has plain frame place is =
        let l = frame from target is in
        record { header = l.header; there = l.there; site = points.PointsTo.put has place l.site }
    may_put node of class field (Literal v) heap slots site target has plain frame place is = absurd (no_reference v target plain is)

    put_stays : (node : ℕ) (of : Operand) (class field : ℕ) (a : Operand) (heap : List Object) (slots : Slots) → HasStatement code m node (w.Put of class field a) → IsNoLiteralReference of → IsNoLiteralReference a → Fits code heap → SlotsFit heap slots → ActStays (w.Put of class field a) heap (acted (act_of (w.Put of class field a) slots) heap)
    put_stays node (InFrame of) class field a heap slots has plain plain_a fits frame =
        let word : Word = w.Put (InFrame of) class field a in
        let v : Value = operand slots a in
        at_object_stays (λ act. ActStays word heap (acted act heap)) (slots of) (λ object. Writes object field v (comes Null))
        (only_comes word heap (Err NullPointerException) fits (λ n target to_n ends. cc))
        (λ object is.
        let l = frame of object is in
        let site : (h : Header) → header_at heap object ≡ Some h → PointsTo code (InSlot m of) h.site = λ h there. site_at heap (InSlot m of) object h l there in
        let part : (h : Header) → header_at heap object ≡ Some h → part_by h.kind field ≡ FieldPart field = λ h there. leads_to_object heap (InSlot m of) object h field fits l there in
        record {
          reads = tt;
          writes = (λ h there. subst (λ part. WritesPart code m word h.site part) (sym (part h there)) (points.WritesPart.put (site h there)), tt);
          fits = fits_on heap object field v fits (λ target h is_target there. subst (λ part. Leads code heap (InPart h.site part) target) (sym (part h there)) (may_put node of class field a heap slots h.site target has plain_a frame (site h there) is_target));
          headers = header_at-written heap object field v;
          value = λ n target to_n ends. cc;
        })
    put_stays node (Literal u) class field a heap slots has plain plain_a fits frame =
        let word : Word = w.Put (Literal u) class field a in
        at_object_stays (λ act. ActStays word heap (acted act heap)) u (λ object. Writes object field (operand slots a) (comes Null))
        (only_comes word heap (Err NullPointerException) fits (λ n target to_n ends. cc))
        (λ object is. absurd (no_reference u object plain is))

    pub word_stays : (node : ℕ) (word : Word) (heap : List Object) (slots : Slots) → HasStatement code m node word → HasNoReference word → Fits code heap → SlotsFit heap slots → ActStays word heap (acted (act_of word slots) heap)
    word_stays node (w.Set to a) heap slots has plain fits frame = set_stays node to a heap slots has plain fits frame
    word_stays node (w.Op o to a b) heap slots has plain fits frame = only_comes (w.Op o to a b) heap (apply o (operand slots a) (operand_or slots (operand slots a) b)) fits (λ n target to_n ends. absurd (gives_none (apply o (operand slots a) (operand_or slots (operand slots a) b)) target (apply_plain o (operand slots a) (operand_or slots (operand slots a) b)) ends))
    word_stays node (w.Get to of class field) heap slots has plain fits frame = get_stays node to of class field heap slots has plain fits frame
    word_stays node (w.Put of class field a) heap slots has plain fits frame = put_stays node of class field a heap slots has plain.0 plain.1 fits frame
    word_stays node (w.Return None) heap slots has plain fits frame = only_comes (w.Return None) heap (Ok Null) fits (λ n target to_n ends. cc)
    word_stays node (w.Return (Some a)) heap slots has plain fits frame = only_comes (w.Return (Some a)) heap (Ok (operand slots a)) fits (λ n target to_n ends. cc)

    -- ---- one statement

    -- the frame after a value was written to a slot of it
    frame_on : (to : Option ℕ) (v : Value) (heap : List Object) (frames : List Frame) → SlotsFit heap (top_values frames) → ((n target : ℕ) → to ≡ Some n → v ≡ Ref target → Leads code heap (InSlot m n) target) → SlotsFit heap (top_values (filled_if frames (top frames) to v))
    frame_on None v heap frames frame value = frame
    frame_on (Some n) v heap frames frame value = λ at target is. ⊎_elim
        (λ (t : (n ≡ at) × (v ≡ Ref target)). value at target (ap (λ k. Some k) t.0) t.1)
        (λ (t : top_values frames at ≡ Ref target). frame at target t)
        (top_values-filled frames n v at target is)

    heap_kept : (word : Word) (v : Value) (machine : Machine) → (with_value word v machine).heap ≡ machine.heap
    heap_kept (w.Return a) v machine = refl
    heap_kept (w.Set to a) v machine = refl
    heap_kept (w.Op o to a b) v machine = refl
    heap_kept (w.Get to of class field) v machine = refl
    heap_kept (w.Put of class field a) v machine = refl

    machine_on : (word : Word) (v : Value) (machine : Machine) → MachineFits code m machine → ((n target : ℕ) → slot_of word ≡ Some n → v ≡ Ref target → Leads code machine.heap (InSlot m n) target) → stop_of word ≡ RunsOn → MachineFits code m (with_value word v machine)
    machine_on (w.Return a) v machine fits value goes = cc
    machine_on (w.Set to a) v machine fits value goes = record { heap = fits.heap; frame = frame_on (Some to) v machine.heap machine.frames fits.frame value }
    machine_on (w.Op o to a b) v machine fits value goes = record { heap = fits.heap; frame = frame_on (Some to) v machine.heap machine.frames fits.frame value }
    machine_on (w.Get to of class field) v machine fits value goes = record { heap = fits.heap; frame = frame_on (Some to) v machine.heap machine.frames fits.frame value }
    machine_on (w.Put of class field a) v machine fits value goes = record { heap = fits.heap; frame = frame_on None v machine.heap machine.frames fits.frame value }

    ends_stay : (s : Statement) (a : Acted) (machine : Machine) (ends : Applied) → a.ends ≡ ends → HasStatement code m s.node s.word → MachineFits code m machine → ActStays s.word machine.heap a → StaysWithin code m machine (step_ends s a machine ends)
    ends_stay s a machine (Ok v) is has fits act =
        let then : Machine = with_value s.word v (after_act a machine) in
        let same : then.heap ≡ a.heap = heap_kept s.word v (after_act a machine) in
        let after : MachineFits code m (after_act a machine) = record { heap = act.fits; frame = λ n target h. leads_on machine.heap a.heap (InSlot m n) target act.headers (fits.frame n target h) } in
        let value : (n target : ℕ) → slot_of s.word ≡ Some n → v ≡ Ref target → Leads code a.heap (InSlot m n) target = λ n target to_n h. leads_on machine.heap a.heap (InSlot m n) target act.headers (act.value n target to_n (is ∙ ap (λ (z : Value). Ok z) h)) in
        record {
          ran = (record { word = s.word; is = has; reads = act.reads; writes = act.writes }, tt);
          heap = subst (Fits code) (sym same) act.fits;
          headers = λ place. ap (λ (heap : List Object). header_at heap place) same ∙ act.headers place;
          machine = λ goes. let on = machine_on s.word v (after_act a machine) after value goes in record { heap = on.heap; frame = on.frame };
        }
    ends_stay s a machine (Err t) is has fits act = record {
      ran = (record { word = s.word; is = has; reads = act.reads; writes = act.writes }, tt);
      heap = act.fits;
      headers = act.headers;
      machine = λ goes. cc;
    }

    pub step_stays : (s : Statement) (machine : Machine) → HasStatement code m s.node s.word → HasNoReference s.word → MachineFits code m machine → StaysWithin code m machine (step s machine)
    step_stays s machine has plain fits =
        let a : Acted = acted (act_of s.word (top_values machine.frames)) machine.heap in
        ends_stay s a machine a.ends refl has fits (word_stays s.node s.word machine.heap (top_values machine.frames) has plain fits.heap fits.frame)

    -- ---- one after the other

    ran_on : (old new : List Object) → ((place : ℕ) → header_at new place ≡ header_at old place) → (r : Ran) → RanWithin code m new r → RanWithin code m old r
    ran_on old new same r within = record {
      word = within.word;
      is = within.is;
      reads = all_map _ _ r.reads (λ c k h there. k h (same c.object ∙ there)) within.reads;
      writes = all_map _ _ r.writes (λ c k h there. k h (same c.object ∙ there)) within.writes;
    }

    then_stay : (machine : Machine) (one : Stepped) (rest : Machine → Stepped) (stop : Stop) → one.stop ≡ stop → StaysWithin code m machine one → (MachineFits code m one.machine → StaysWithin code m one.machine (rest one.machine)) → StaysWithin code m machine (then_steps one rest stop)
    then_stay machine one rest RunsOn is first others =
        let more = others (first.machine is) in
        record {
          ran = all_append (RanWithin code m machine.heap) one.ran (rest one.machine).ran first.ran (all_map (RanWithin code m one.machine.heap) (RanWithin code m machine.heap) (rest one.machine).ran (ran_on machine.heap one.machine.heap first.headers) more.ran);
          heap = more.heap;
          headers = λ place. more.headers place ∙ first.headers place;
          machine = λ goes. let on = more.machine goes in record { heap = on.heap; frame = on.frame };
        }
    then_stay machine one rest Returned is first others = first
    then_stay machine one rest (Threw t) is first others = first

pub stay : StepsStay
stay code m [] machine are plain fits = record { ran = tt; heap = fits.heap; headers = λ place. refl; machine = λ goes. fits }
stay code m (s ∷ statements) machine are plain fits = then_stay code m machine (step s machine) (steps statements) (step s machine).stop refl (step_stays code m s machine are.0 plain.0 fits) (λ on. stay code m statements (step s machine).machine are.1 plain.1 on)
