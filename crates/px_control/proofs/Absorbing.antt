-- Slots that were placed in settled frames are slots that were filled, and then settled.
use Rattle.std.proofs.Common.{◌≡◌, ℕ, ◌≤◌, Bool, true, ◌&&◌, Err, List, [], ◌∷◌, ◌++◌, map, take, drop, length, Option, Some, None, option_map, slice_get, slice_set, le-leb, refl, sym, ap, ◌∙◌}
use Rattle.std.proofs.lemmas.List.{map-set, map-append, take-map, drop_all, append-nil}
use Rattle.std.proofs.lemmas.Option.{slice_get-map}
use Rattle.px_value.specs.declared.value.Value.{Value}
use Rattle.px_blocks.specs.Machine.{Slot, Frame, Control, Machine, blank_values, unwritten, just_written, filled, with_slot_in}
use Rattle.px_normal.specs.declared.code.Code.{Code}
use Rattle.px_value.specs.declared.object.Object.{Object}
use Rattle.px_effects.specs.Act.{Place as Cell}
use Rattle.px_blocks.specs.declared.block.Naming.{Naming}
use Rattle.px_blocks.specs.declared.side.Side.TheVariants.{App}
use Rattle.px_blocks.specs.Plan.{Plan}
use Rattle.px_blocks.specs.Message.{FrameTold, SlotAt, Transfer, settled, settled_frame, all_settled, with_slots, blank_frame, standing, taken_frames, with_updates, absorbed}
use Rattle.px_control.specs.declared.absorb.AbsorbError.{AbsorbError}
use Rattle.px_control.specs.declared.absorb.AbsorbError.TheVariants.{BadMessage, NoMemory}
use Rattle.std.specs.List.{list_all}
use Rattle.px_control.specs.Refused.{IfBad, machine}
use Rattle.px_control.specs.Taken.{placed_in, with_placed, with_news, updates_fit, slot_fits, is_taken}

abbrev of_slots : Frame → List Slot → Frame
of_slots x slots = record x { slots = slots }

settle_one : (o : Option Frame) (n : ℕ) (v : Value) (frames : List Frame) (f : ℕ) → all_settled (with_slot_in o n v frames f) ≡ placed_in (option_map settled_frame o) n v (all_settled frames) f
settle_one None n v frames f = refl
settle_one (Some x) n v frames f =
    map-set settled_frame frames f (of_slots x (slice_set x.slots n (just_written v)))
    ∙ ap (λ (slots : List Slot). slice_set (all_settled frames) f (of_slots x slots)) (map-set settled x.slots n (just_written v))

settle_filled : (frames : List Frame) (f n : ℕ) (v : Value) → all_settled (filled frames f n v) ≡ placed_in (slice_get (all_settled frames) f) n v (all_settled frames) f
settle_filled frames f n v =
    settle_one (slice_get frames f) n v frames f
    ∙ sym (ap (λ (o : Option Frame). placed_in o n v (all_settled frames) f) (slice_get-map settled_frame frames f))

pub placed_is : (slots : List SlotAt) (frames : List Frame) → with_placed slots (all_settled frames) ≡ all_settled (with_slots slots frames)
placed_is [] frames = refl
placed_is (s ∷ slots) frames =
    sym (ap (with_placed slots) (settle_filled frames s.frame s.slot s.value))
    ∙ placed_is slots (filled frames s.frame s.slot s.value)

-- ---- settled frames

slots_twice : (slots : List Slot) → map settled (map settled slots) ≡ map settled slots
slots_twice [] = refl
slots_twice (s ∷ slots) = ap (λ (xs : List Slot). settled s ∷ xs) (slots_twice slots)

settled_twice : (frames : List Frame) → all_settled (all_settled frames) ≡ all_settled frames
settled_twice [] = refl
settled_twice (x ∷ frames) =
    ap (λ (slots : List Slot). of_slots x slots ∷ all_settled (all_settled frames)) (slots_twice x.slots)
    ∙ ap (λ (xs : List Frame). settled_frame x ∷ xs) (settled_twice frames)

pub quiet_settled : (n : ℕ) (frames all : List Frame) → all ≡ all_settled frames → all_settled (take n all) ≡ take n all
quiet_settled n frames all e =
    ap (λ (xs : List Frame). all_settled (take n xs)) e
    ∙ sym (take-map settled_frame n (all_settled frames))
    ∙ ap (take n) (settled_twice frames ∙ sym e)

blank_values_settled : (values : List Value) → map settled (map unwritten values) ≡ map unwritten values
blank_values_settled [] = refl
blank_values_settled (v ∷ values) = ap (λ (xs : List Slot). unwritten v ∷ xs) (blank_values_settled values)

-- the frames that stay and those that come, settled before the others were left
pub settled_stack : (base : ℕ) (frames more : List Frame) → all_settled more ≡ more → take base (all_settled frames) ++ more ≡ all_settled (take base frames ++ more)
settled_stack base frames more e =
    ap (λ (xs : List Frame). xs ++ more) (take-map settled_frame base frames)
    ∙ ap (λ (xs : List Frame). all_settled (take base frames) ++ xs) (sym e)
    ∙ sym (map-append settled_frame (take base frames) more)

-- ---- blank frames

-- a plan of code alone
abbrev pub bare : Code → Plan
bare code = record { code = code; blocks = record { blocks = []; firsts = [] }; home = λ s p. App; keep = λ side s p. true }

blanks_settled : (plan : Plan) (told : List FrameTold) → all_settled (map (blank_frame plan) told) ≡ map (blank_frame plan) told
blanks_settled plan [] = refl
blanks_settled plan (f ∷ told) =
    ap (λ (slots : List Slot). of_slots (blank_frame plan f) slots ∷ all_settled (map (blank_frame plan) told)) (blank_values_settled (blank_values plan.code f.method))
    ∙ ap (λ (xs : List Frame). blank_frame plan f ∷ xs) (blanks_settled plan told)

pub settled_blanks : (plan : Plan) (told : List FrameTold) (frames : List Frame) (i : ℕ) → length told ≤ i → frames ++ map (blank_frame plan) (drop i told) ≡ map (blank_frame plan) told → all_settled frames ≡ frames
settled_blanks plan told frames i h is =
    let all : frames ≡ map (blank_frame plan) told = sym (append-nil frames) ∙ sym (ap (λ (fs : List FrameTold). frames ++ map (blank_frame plan) fs) (drop_all i told h)) ∙ is in
    ap all_settled all ∙ blanks_settled plan told ∙ sym all

-- ---- refusals

pub refused_as : (A B P Q : Type 0) (e : AbsorbError) → (P → Q) → IfBad {A = A} (Err e) P → IfBad {A = B} (Err e) Q
refused_as A B P Q BadMessage f h = f h
refused_as A B P Q NoMemory f h = tt

-- what is tested is whether the message is taken
pub taken_by : (plan : Plan) (code : Code) (t : Transfer) (frames lower news : List Frame) (heap : List Object) → plan.code ≡ code → lower ≡ take t.base frames → news ≡ map (blank_frame plan) t.frames → t.base ≤ length frames → is_taken plan t frames heap ≡ (updates_fit code t.updates heap && list_all (slot_fits (lower ++ news) (length (with_news code t.updates.headers heap))) t.slots)
taken_by plan code t frames lower news heap e el en h =
    ap (λ (b : Bool). b && (updates_fit plan.code t.updates heap && list_all (slot_fits (standing plan t.base t.frames frames) (length (with_news plan.code t.updates.headers heap))) t.slots)) (le-leb t.base (length frames) h)
    ∙ ap (λ (k : Code). updates_fit k t.updates heap && list_all (slot_fits (standing plan t.base t.frames frames) (length (with_news k t.updates.headers heap))) t.slots) e
    ∙ ap (λ (xs : List Frame). updates_fit code t.updates heap && list_all (slot_fits (xs ++ map (blank_frame plan) t.frames) (length (with_news code t.updates.headers heap))) t.slots) (sym el)
    ∙ ap (λ (xs : List Frame). updates_fit code t.updates heap && list_all (slot_fits (lower ++ xs) (length (with_news code t.updates.headers heap))) t.slots) (sym en)

abbrev pub tested : Code → Transfer → List Frame → List Object → Bool
tested code t frames heap = updates_fit code t.updates heap && list_all (slot_fits frames (length (with_news code t.updates.headers heap))) t.slots

pub taken_here : (plan : Plan) (code : Code) (t u : Transfer) (c d : Control) (lower news : List Frame) (heap : List Object) → plan.code ≡ code → t ≡ u → c ≡ d → lower ≡ take t.base c.frames → news ≡ map (blank_frame plan) t.frames → t.base ≤ length c.frames → is_taken plan u d.frames heap ≡ tested code u (lower ++ news) heap
taken_here plan code t u c d lower news heap e et ec el en h =
    sym (ap (λ (x : Transfer). is_taken plan x d.frames heap) et)
    ∙ sym (ap (λ (x : Control). is_taken plan t x.frames heap) ec)
    ∙ taken_by plan code t c.frames lower news heap e el en h
    ∙ ap (λ (x : Transfer). tested code x (lower ++ news) heap) et

-- ---- what is there then

abbrev made : List Object → List Frame → ℕ → List Cell → List Naming → ℕ → ℕ → Machine
made heap frames base marks names known turns = machine heap (record { frames = frames; base = base; marks = marks; named = names; known = known; turns = turns })

pub absorbed_is : (plan : Plan) (t : Transfer) (old : Control) (heap new : List Object) (frames : List Frame) (base : ℕ) (marks : List Cell) (names : List Naming) (known : ℕ) → new ≡ with_updates plan t.updates heap → frames ≡ taken_frames plan t old.frames → base ≡ length frames → marks ≡ [] → names ≡ [] → known ≡ length new → absorbed plan t (machine heap old) ≡ machine new (record { frames = frames; base = base; marks = marks; named = names; known = known; turns = t.turns })
absorbed_is plan t old heap new frames base marks names known en ef eb em es ek =
    ap (λ (w : List Object). made w (taken_frames plan t old.frames) (length (taken_frames plan t old.frames)) [] [] (length w) t.turns) (sym en)
    ∙ ap (λ (fs : List Frame). made new fs (length fs) [] [] (length new) t.turns) (sym ef)
    ∙ ap (λ (b : ℕ). made new frames b [] [] (length new) t.turns) (sym eb)
    ∙ ap (λ (ms : List Cell). made new frames base ms [] (length new) t.turns) (sym em)
    ∙ ap (λ (ns : List Naming). made new frames base marks ns (length new) t.turns) (sym es)
    ∙ ap (λ (k : ℕ). made new frames base marks names k t.turns) (sym ek)
