-- What can be told at the begin of a call, and after a message.
use Rattle.std.proofs.Common.{◌≡◌, ℕ, zero, suc, ◌^◌, ◌≤◌, Bool, true, false, List, [], ◌∷◌, ◌++◌, map, take, drop, length, replicate, Option, Some, None, slice_get, refl, sym, subst, arith, if◌then◌else◌}
use Rattle.std.specs.List.{AllByRecursion}
use Rattle.std.specs.Option.{option_map, option_and_then}
use Rattle.std.proofs.lemmas.List.{length-append, length-map, length-drop}
use Rattle.px_value.specs.declared.value.Value.{Value}
use Rattle.px_value.specs.declared.value.Value.TheVariants as v
use Rattle.px_value.specs.declared.object.Object.{Object}
use Rattle.px_value.specs.declared.header.Header.{Header}
use Rattle.px_value.specs.declared.header.Kind.{Kind}
use Rattle.px_value.specs.declared.header.Kind.TheVariants as kind
use Rattle.px_value.specs.declared.ty.Ty.{Ty}
use Rattle.px_value.specs.declared.ty.Ty.TheVariants as ty
use Rattle.px_value.specs.Defaults.{default_of}
use Rattle.px_value.specs.Heap.{written}
use Rattle.px_code.specs.declared.code.Code.{Code}
use Rattle.px_code.specs.declared.method.Method.{Method}
use Rattle.px_code.specs.declared.frame.Frame.{Frame}
use Rattle.px_code.specs.declared.frame.Slot.{Slot}
use Rattle.px_code.specs.declared.plan.Plan.{Plan}
use Rattle.px_code.specs.CodeRun.{method_at}
use Rattle.px_code.specs.Slots.{settled, all_settled}
use Rattle.px_code.specs.Frames.{blank, types_of, entry_frame}
use Rattle.px_code.specs.Machine.{just_written, filled}
use Rattle.px_wire.specs.declared.frame.Frame.{Frame as FrameTold}
use Rattle.px_wire.specs.declared.slot.SlotAt.{SlotAt}
use Rattle.px_wire.specs.declared.cell.CellAt.{CellAt}
use Rattle.px_wire.specs.declared.updates.Updates.{Updates}
use Rattle.px_wire.specs.declared.transfer.Transfer.{Transfer as TransferTold}
use Rattle.px_wire.specs.declared.message.Message.{Message}
use Rattle.px_wire.specs.declared.message.Message.TheVariants.{Transfer, Commit}
use Rattle.px_wire.specs.Fitting.{HasShortText, HasSpelling, UpdatesHaveSpelling}
use Rattle.px_half.specs.End.{End, plan_at, methods_in, fields_of}
use Rattle.px_half.specs.Messages.{IsTellableFrame, IsTellable}
use Rattle.px_half.specs.Absorbed.{new_cells, new_object, element_type, header_fits, with_news, cells_fit, if_cells_fit, with_room, with_cells, with_updates, blank_slots, blank_frame, with_slots, settled_frame, with_frames, stack_fits, slots_fit, in_control, transferred, with_transfer, after_commit, after_transfer, absorbed_by}
use Rattle.px_half.specs.Law.{HasFewSlots, BeginIsTellable, AbsorbedIsTellable}
use Rattle.px_half.proofs.Telling.{AllShort}
use Rattle.px_half.proofs.Tellable.{all_at, all_take, AllFrames, written_short, filled_tellable}

-- ---- defaults

default_short : (t : Ty) → HasShortText (default_of t)
default_short ty.Int = tt
default_short ty.Long = tt
default_short ty.Bool = tt
default_short ty.Text = tt
default_short ty.Ref = tt

defaults_short : (types : List Ty) → AllByRecursion HasShortText (map default_of types)
defaults_short [] = tt
defaults_short (t ∷ types) = (default_short t, defaults_short types)

copies_short : (n : ℕ) (x : Value) → HasShortText x → AllByRecursion HasShortText (replicate n x)
copies_short zero x h = tt
copies_short (suc n) x h = (h, copies_short n x h)

cells_of_kind : (code : Code) (k : Kind) (n : ℕ) → AllByRecursion HasShortText (new_cells code k n)
cells_of_kind code (kind.Object class) n = defaults_short (fields_of (slice_get code.classes class))
cells_of_kind code (kind.Array element) n = copies_short n (default_of (element_type element)) (default_short (element_type element))
cells_of_kind code (kind.Rows statement) n = tt

abbrev ShortSlots : List Slot → Type 0
ShortSlots slots = AllByRecursion (λ (s : Slot). HasShortText s.value) slots

blanks_short : (types : List Ty) → ShortSlots (map (λ t. blank (default_of t)) types)
blanks_short [] = tt
blanks_short (t ∷ types) = (default_short t, blanks_short types)

written_slots_short : (args : List Value) (rest : List Slot) → AllByRecursion HasShortText args → ShortSlots rest → ShortSlots (map just_written args ++ rest)
written_slots_short [] rest h k = k
written_slots_short (x ∷ args) rest h k = (h.0, written_slots_short args rest h.1 k)

-- ---- the begin of a call

pub begin_is_tellable : BeginIsTellable
begin_is_tellable method args e h short few slots =
    let types : List Ty = types_of (method_at (methods_in (plan_at e)) method) in
    let all : List Value = v.Ref 0 ∷ args in
    let entry : IsTellableFrame (entry_frame (methods_in (plan_at e)) method args) = record {
      slots = let a = length-append (map just_written all) (map (λ t. blank (default_of t)) (drop (length all) types)) in
          let b = length-map all just_written in
          let c = length-map (drop (length all) types) (λ t. blank (default_of t)) in
          let d = length-drop (length all) types in
          omega (arith, a, b, c, d, few, slots);
      texts = written_slots_short all (map (λ t. blank (default_of t)) (drop (length all) types)) (tt, short) (blanks_short (drop (length all) types));
    } in
    record {
      few = omega arith;
      base = omega arith;
      frames = (record { slots = omega arith; texts = (tt, tt) }, (entry, tt));
      heap = h.heap;
    }

-- ---- a message: the heap

all_more : {A : Type 0} (P : A → Type 0) (xs ys : List A) → AllByRecursion P xs → AllByRecursion P ys → AllByRecursion P (xs ++ ys)
all_more P [] ys h k = k
all_more P (x ∷ xs) ys h k = (h.0, all_more P xs ys h.1 k)

if_added : (b : Bool) (added : Option (List Object)) (new : List Object) → (if b then added else None) ≡ Some new → (added ≡ Some new → AllShort new) → AllShort new
if_added true added new h k = k h
if_added false added new h k = cc

news_short : (code : Code) (hs : List Header) (heap new : List Object) → AllShort heap → with_news code hs heap ≡ Some new → AllShort new
news_short code [] heap new h e = let f : heap ≡ new = cc in subst AllShort f h
news_short code (x ∷ hs) heap new h e =
    if_added (header_fits code heap x) (with_news code hs (heap ++ new_object code x ∷ [])) new e
    (λ k. news_short code hs (heap ++ new_object code x ∷ []) new (all_more (λ (o : Object). AllByRecursion HasShortText o.cells) heap (new_object code x ∷ []) h (cells_of_kind code x.kind x.length, tt)) k)

same_if_fits : (b : Bool) (heap new : List Object) → (if b then Some heap else None) ≡ Some new → AllShort heap → AllShort new
same_if_fits true heap new e h = let f : heap ≡ new = cc in subst AllShort f h
same_if_fits false heap new e h = cc

room_short : (plan : Plan) (u : Updates) (heap new : List Object) → AllShort heap → with_room plan u heap ≡ Some new → AllShort new
room_short plan u heap new h e = of_news (with_news plan.code u.headers heap) refl e
  where
    of_news : (x : Option (List Object)) → with_news plan.code u.headers heap ≡ x → option_and_then (if_cells_fit u.cells) x ≡ Some new → AllShort new
    of_news None is k = cc
    of_news (Some made) is k = same_if_fits (cells_fit u.cells made) made new k (news_short plan.code u.headers heap made h is)

cells_short : (cells : List CellAt) (heap : List Object) → AllShort heap → AllByRecursion (λ (c : CellAt). HasShortText c.value) cells → AllShort (with_cells cells heap)
cells_short [] heap h k = h
cells_short (c ∷ cells) heap h k = cells_short cells (written heap c.object c.index c.value) (written_short heap c.object c.index c.value h k.0) k.1

-- ---- a message: the stack

blank_tellable : (plan : Plan) (f : FrameTold) → AllByRecursion HasFewSlots plan.code.methods → IsTellableFrame (blank_frame plan f)
blank_tellable plan f few = record { slots = counted f.method; texts = short f.method }
  where
    of_method : (m : Option Method) (n : ℕ) → slice_get plan.code.methods n ≡ m → length (map (λ t. blank (default_of t)) (types_of m)) ≤ 2 ^ 16
    of_method None n is = omega arith
    of_method (Some m) n is = let e = length-map m.slots (λ t. blank (default_of t)) in let k : length m.slots ≤ 2 ^ 16 = all_at HasFewSlots plan.code.methods n m few is in omega (arith, e, k)

    counted : (n : ℕ) → length (blank_slots plan n) ≤ 2 ^ 16
    counted zero = omega arith
    counted (suc n) = of_method (slice_get plan.code.methods n) n refl

    short : (n : ℕ) → ShortSlots (blank_slots plan n)
    short zero = (tt, tt)
    short (suc n) = blanks_short (types_of (slice_get plan.code.methods n))

blanks_tellable : (plan : Plan) (fs : List FrameTold) → AllByRecursion HasFewSlots plan.code.methods → AllFrames (map (blank_frame plan) fs)
blanks_tellable plan [] few = tt
blanks_tellable plan (f ∷ fs) few = (blank_tellable plan f few, blanks_tellable plan fs few)

slots_tellable : (slots : List SlotAt) (frames : List Frame) → AllFrames frames → AllByRecursion (λ (s : SlotAt). HasShortText s.value) slots → AllFrames (with_slots slots frames)
slots_tellable [] frames h k = h
slots_tellable (s ∷ slots) frames h k = slots_tellable slots (filled frames s.frame s.slot s.value) (filled_tellable frames s.frame s.slot s.value h k.0) k.1

settled_short : (slots : List Slot) → ShortSlots slots → ShortSlots (all_settled slots)
settled_short [] h = tt
settled_short (s ∷ slots) h = (h.0, settled_short slots h.1)

settled_tellable : (frames : List Frame) → AllFrames frames → AllFrames (map settled_frame frames)
settled_tellable [] h = tt
settled_tellable (x ∷ frames) h = (record { slots = let e = length-map x.slots settled in let k = h.0.slots in omega (arith, e, k); texts = settled_short x.slots h.0.texts }, settled_tellable frames h.1)

frames_tellable : (plan : Plan) (t : TransferTold) (frames : List Frame) → AllByRecursion HasFewSlots plan.code.methods → AllFrames frames → AllByRecursion (λ (s : SlotAt). HasShortText s.value) t.slots → AllFrames (with_frames plan t frames)
frames_tellable plan t frames few h k =
    settled_tellable (with_slots t.slots (take t.base frames ++ map (blank_frame plan) t.frames))
    (slots_tellable t.slots (take t.base frames ++ map (blank_frame plan) t.frames) (all_more IsTellableFrame (take t.base frames) (map (blank_frame plan) t.frames) (all_take IsTellableFrame t.base frames h) (blanks_tellable plan t.frames few)) k)

-- ---- a message

module _ (plan : Plan) (few : AllByRecursion HasFewSlots plan.code.methods) where
  committed : (u : Updates) (old new : End) → UpdatesHaveSpelling u → IsTellable old.machine → option_map (after_commit old) (with_updates plan u old.machine) ≡ Some new → length new.machine.frames ≤ 255 → IsTellable new.machine
  committed u old new has h e bound = of_room (with_room plan u old.machine.heap) refl e
    where
      of_room : (x : Option (List Object)) → with_room plan u old.machine.heap ≡ x → option_map (after_commit old) (option_map (λ heap. record old.machine { heap = with_cells u.cells heap }) x) ≡ Some new → IsTellable new.machine
      of_room None is k = cc
      of_room (Some heap) is k =
          let same : after_commit old (record old.machine { heap = with_cells u.cells heap }) ≡ new = cc in
          subst (λ (z : End). IsTellable z.machine) same (record { few = h.few; base = h.base; frames = h.frames; heap = record { texts = cells_short u.cells heap (room_short plan u old.machine.heap heap h.heap.texts is) has.texts } })

  told : (t : TransferTold) (old new : End) → HasSpelling (Transfer t) → IsTellable old.machine → option_map (after_transfer t old) (with_transfer plan t old.machine) ≡ Some new → length new.machine.frames ≤ 255 → IsTellable new.machine
  told t old new has h e bound = of_stack (stack_fits plan t old.machine.frames) e
    where
      done : (heap : List Object) → with_room plan t.updates old.machine.heap ≡ Some heap → after_transfer t old (in_control plan t old.machine heap) ≡ new → IsTellable new.machine
      done heap is same =
          let bound_here : length (with_frames plan t old.machine.frames) ≤ 255 = subst (λ (z : End). length z.machine.frames ≤ 255) (sym same) bound in
          subst (λ (z : End). IsTellable z.machine) same (record {
            few = bound_here;
            base = omega arith;
            frames = frames_tellable plan t old.machine.frames few h.frames has.texts;
            heap = record { texts = cells_short t.updates.cells heap (room_short plan t.updates old.machine.heap heap h.heap.texts is) has.updates.texts };
          })

      of_slots : (b : Bool) (heap : List Object) → with_room plan t.updates old.machine.heap ≡ Some heap → option_map (after_transfer t old) (if b then Some (in_control plan t old.machine heap) else None) ≡ Some new → IsTellable new.machine
      of_slots true heap is k = let same : after_transfer t old (in_control plan t old.machine heap) ≡ new = cc in done heap is same
      of_slots false heap is k = cc

      of_room : (x : Option (List Object)) → with_room plan t.updates old.machine.heap ≡ x → option_map (after_transfer t old) (option_and_then (transferred plan t old.machine) x) ≡ Some new → IsTellable new.machine
      of_room None is k = cc
      of_room (Some heap) is k = of_slots (slots_fit plan t old.machine.frames heap) heap is k

      of_stack : (b : Bool) → option_map (after_transfer t old) (if b then option_and_then (transferred plan t old.machine) (with_room plan t.updates old.machine.heap) else None) ≡ Some new → IsTellable new.machine
      of_stack true k = of_room (with_room plan t.updates old.machine.heap) refl k
      of_stack false k = cc

of_plan : (plan : Option Plan) (message : Message) (old new : End) → HasSpelling message → AllByRecursion HasFewSlots (methods_in plan) → IsTellable old.machine → absorbed_by plan message old ≡ Some new → length new.machine.frames ≤ 255 → IsTellable new.machine
of_plan None message old new has few h e bound = cc
of_plan (Some plan) (Transfer t) old new has few h e bound = told plan few t old new has h e bound
of_plan (Some plan) (Commit u) old new has few h e bound = committed plan few u old new has h e bound

pub absorbed_is_tellable : AbsorbedIsTellable
absorbed_is_tellable message old new has few h e bound = of_plan (plan_at old) message old new has few h e bound
