-- What can be told stays so.
use Rattle.std.proofs.Common.{◌≡◌, ℕ, ℤ, zero, suc, ◌-◌, ◌≤◌, min, Bool, true, false, List, [], ◌∷◌, take, length, Option, Some, None, unwrap_or, Ok, Err, IfOk, slice_get, slice_set, refl, ap, subst, arith}
use Rattle.std.specs.List.{AllByRecursion}
use Rattle.px_value.specs.declared.value.Value.{Value}
use Rattle.px_value.specs.declared.value.Value.TheVariants as v
use Rattle.px_value.specs.declared.object.Object.{Object}
use Rattle.px_value.specs.declared.op.Op.{Op}
use Rattle.px_value.specs.Heap.{cell_at, written, with_cell}
use Rattle.px_value.specs.Operators.{Applied, apply}
use Rattle.px_value.proofs.Given.{given as op_given}
use Rattle.px_code.specs.declared.word.Operand.{Operand}
use Rattle.px_code.specs.declared.word.Operand.TheVariants.{Slot as InFrame, Literal}
use Rattle.px_code.specs.declared.word.Word.{Word}
use Rattle.px_code.specs.declared.word.Word.TheVariants as w
use Rattle.px_code.specs.declared.frame.Frame.{Frame}
use Rattle.px_code.specs.declared.frame.Slot.{Slot}
use Rattle.px_code.specs.declared.block.Statement.{Statement}
use Rattle.px_code.specs.Act.{Slots, operand, operand_or, act_of, at_object, Reads, Writes, comes, Acted, acted, value_at}
use Rattle.px_code.specs.CodeRun.{given}
use Rattle.px_code.specs.Machine.{Machine, slots_at, value_in, top, top_values, just_written, with_slot_in, filled, filled_if, answered, with_value, after_act, Stop, RunsOn, Returned, Threw, Stepped, step, step_ends, steps, then_steps}
use Rattle.px_wire.specs.Fitting.{HasShortText}
use Rattle.px_half.specs.Messages.{IsTellableFrame, IsTellableHeap, IsTellable}
use Rattle.px_half.specs.Law.{IsShortOperand, IsShortOption, IsShortWord, StepsStayTellable}
use Rattle.px_half.proofs.Texts.{joined_short}
use Rattle.px_half.proofs.Telling.{AllShort, cell_short}

-- ---- lists

all_set : {A : Type 0} (P : A → Type 0) (xs : List A) (n : ℕ) (y : A) → AllByRecursion P xs → P y → AllByRecursion P (slice_set xs n y)
all_set P [] n y h k = tt
all_set P (x ∷ xs) zero y h k = (k, h.1)
all_set P (x ∷ xs) (suc n) y h k = (h.0, all_set P xs n y h.1 k)

pub all_at : {A : Type 0} (P : A → Type 0) (xs : List A) (n : ℕ) (y : A) → AllByRecursion P xs → slice_get xs n ≡ Some y → P y
all_at P [] n y h e = cc
all_at P (x ∷ xs) zero y h e = let f : x ≡ y = cc in subst P f h.0
all_at P (x ∷ xs) (suc n) y h e = all_at P xs n y h.1 e

pub all_take : {A : Type 0} (P : A → Type 0) (n : ℕ) (xs : List A) → AllByRecursion P xs → AllByRecursion P (take n xs)
all_take P zero xs h = tt
all_take P (suc n) [] h = tt
all_take P (suc n) (x ∷ xs) h = (h.0, all_take P n xs h.1)

pub set_length : {A : Type 0} (xs : List A) (n : ℕ) (y : A) → length (slice_set xs n y) ≡ length xs
set_length [] n y = refl
set_length (x ∷ xs) zero y = refl
set_length (x ∷ xs) (suc n) y = ap suc (set_length xs n y)

take_length : {A : Type 0} (n : ℕ) (xs : List A) → n ≤ length xs → length (take n xs) ≡ n
take_length zero xs h = refl
take_length (suc n) [] h = absurd (omega (arith, h))
take_length (suc n) (x ∷ xs) h = ap suc (take_length n xs (omega (arith, h)))

-- ---- values

abbrev AreShortSlots : List Slot → Type 0
AreShortSlots slots = AllByRecursion (λ (s : Slot). HasShortText s.value) slots

abbrev Short : Applied → Type 0
Short applied = IfOk applied HasShortText

apply_short : (o : Op) (a b : Value) → HasShortText a → HasShortText b → Short (apply o a b)
apply_short o a b h k = op_given HasShortText (λ n. tt) (λ n. tt) (λ t. tt) tt o a b (joined_short a b h k)

slot_short : (slots : List Slot) (n : ℕ) → AreShortSlots slots → HasShortText (value_in slots n)
slot_short [] n h = tt
slot_short (s ∷ slots) zero h = h.0
slot_short (s ∷ slots) (suc n) h = slot_short slots n h.1

frame_slots : (frames : List Frame) (f : ℕ) → AllByRecursion IsTellableFrame frames → AreShortSlots (slots_at frames f)
frame_slots [] f h = tt
frame_slots (x ∷ frames) zero h = h.0.texts
frame_slots (x ∷ frames) (suc f) h = frame_slots frames f h.1

abbrev SlotsShort : Slots → Type 0
SlotsShort slots = (n : ℕ) → HasShortText (slots n)

operand_short : (slots : Slots) (a : Operand) → SlotsShort slots → IsShortOperand a → HasShortText (operand slots a)
operand_short slots (InFrame n) h k = h n
operand_short slots (Literal x) h k = k

or_short : (slots : Slots) (x : Value) (b : Option Operand) → SlotsShort slots → HasShortText x → IsShortOption b → HasShortText (operand_or slots x b)
or_short slots x None h k s = k
or_short slots x (Some a) h k s = operand_short slots a h s

found_short : (heap : List Object) (o i : ℕ) → AllShort heap → HasShortText (value_at heap o i)
found_short heap o i h = of_cell (cell_at heap o i) refl
  where
    of_cell : (x : Option Value) → cell_at heap o i ≡ x → HasShortText (unwrap_or x v.Null)
    of_cell None e = tt
    of_cell (Some x) e = cell_short heap o i x h e

-- ---- the heap

pub written_short : (heap : List Object) (o i : ℕ) (x : Value) → AllShort heap → HasShortText x → AllShort (written heap o i x)
written_short heap o i x h k = of_object (slice_get heap o) refl
  where
    of_object : (y : Option Object) → slice_get heap o ≡ y → AllShort (with_cell y i x heap o)
    of_object None e = h
    of_object (Some y) e = all_set (λ (z : Object). AllByRecursion HasShortText z.cells) heap o (record y { cells = slice_set y.cells i x }) h (all_set HasShortText y.cells i x (all_at (λ (z : Object). AllByRecursion HasShortText z.cells) heap o y h e) k)

-- ---- an act

pub record ActIsShort (a : Acted) : Type 0 where
  pub ends : Short a.ends
  pub heap : AllShort a.heap

get_short : (heap : List Object) (field : ℕ) (x : Value) → AllShort heap → ActIsShort (acted (at_object x (λ o. Reads o field comes)) heap)
get_short heap field (v.Int n) h = record { ends = tt; heap = h }
get_short heap field (v.Long n) h = record { ends = tt; heap = h }
get_short heap field (v.Bool b) h = record { ends = tt; heap = h }
get_short heap field (v.Text t) h = record { ends = tt; heap = h }
get_short heap field v.Null h = record { ends = tt; heap = h }
get_short heap field (v.Ref o) h = record { ends = found_short heap o field h; heap = h }

put_short : (heap : List Object) (field : ℕ) (x y : Value) → AllShort heap → HasShortText y → ActIsShort (acted (at_object x (λ o. Writes o field y (comes v.Null))) heap)
put_short heap field (v.Int n) y h k = record { ends = tt; heap = h }
put_short heap field (v.Long n) y h k = record { ends = tt; heap = h }
put_short heap field (v.Bool b) y h k = record { ends = tt; heap = h }
put_short heap field (v.Text t) y h k = record { ends = tt; heap = h }
put_short heap field v.Null y h k = record { ends = tt; heap = h }
put_short heap field (v.Ref o) y h k = record { ends = tt; heap = written_short heap o field y h k }

act_short : (word : Word) (slots : Slots) (heap : List Object) → IsShortWord word → SlotsShort slots → AllShort heap → ActIsShort (acted (act_of word slots) heap)
act_short (w.Set to a) slots heap s h k = record { ends = operand_short slots a h s; heap = k }
act_short (w.Op o to a b) slots heap s h k =
    let left = operand_short slots a h s.0 in
    record { ends = apply_short o (operand slots a) (operand_or slots (operand slots a) b) left (or_short slots (operand slots a) b h left s.1); heap = k }
act_short (w.Get to of class field) slots heap s h k = get_short heap field (operand slots of) k
act_short (w.Put of class field a) slots heap s h k = put_short heap field (operand slots of) (operand slots a) k (operand_short slots a h s.1)
act_short (w.Return None) slots heap s h k = record { ends = tt; heap = k }
act_short (w.Return (Some a)) slots heap s h k = record { ends = operand_short slots a h s; heap = k }

-- ---- the stack

abbrev pub AllFrames : List Frame → Type 0
AllFrames frames = AllByRecursion IsTellableFrame frames

frame_filled : (x : Frame) (n : ℕ) (y : Value) → IsTellableFrame x → HasShortText y → IsTellableFrame (record x { slots = slice_set x.slots n (just_written y) })
frame_filled x n y h k = record {
  slots = let e = set_length x.slots n (just_written y) in omega (arith, e, h.slots);
  texts = all_set (λ (s : Slot). HasShortText s.value) x.slots n (just_written y) h.texts k;
}

pub filled_tellable : (frames : List Frame) (f n : ℕ) (y : Value) → AllFrames frames → HasShortText y → AllFrames (filled frames f n y)
filled_tellable frames f n y h k = of_frame (slice_get frames f) refl
  where
    of_frame : (x : Option Frame) → slice_get frames f ≡ x → AllFrames (with_slot_in x n y frames f)
    of_frame None e = h
    of_frame (Some x) e = all_set IsTellableFrame frames f (record x { slots = slice_set x.slots n (just_written y) }) h (frame_filled x n y (all_at IsTellableFrame frames f x h e) k)

filled_length : (frames : List Frame) (f n : ℕ) (y : Value) → length (filled frames f n y) ≡ length frames
filled_length frames f n y = of_frame (slice_get frames f)
  where
    of_frame : (x : Option Frame) → length (with_slot_in x n y frames f) ≡ length frames
    of_frame None = refl
    of_frame (Some x) = set_length frames f (record x { slots = slice_set x.slots n (just_written y) })

pub record StackIsTellable (frames : List Frame) (base : ℕ) : Type 0 where
  pub few : length frames ≤ 255
  pub base_within : base ≤ length frames
  pub all : AllFrames frames

filled_stack : (frames : List Frame) (base f n : ℕ) (y : Value) → StackIsTellable frames base → HasShortText y → StackIsTellable (filled frames f n y) base
filled_stack frames base f n y h k =
    let e = filled_length frames f n y in
    record { few = omega (arith, e, h.few); base_within = omega (arith, e, h.base_within); all = filled_tellable frames f n y h.all k }

filled_if_stack : (frames : List Frame) (base f : ℕ) (n : Option ℕ) (y : Value) → StackIsTellable frames base → HasShortText y → StackIsTellable (filled_if frames f n y) base
filled_if_stack frames base f None y h k = h
filled_if_stack frames base f (Some n) y h k = filled_stack frames base f n y h k

answered_stack : (r : Option Value) (frames : List Frame) (base : ℕ) → StackIsTellable frames base → ((y : Value) → r ≡ Some y → HasShortText y) → StackIsTellable (answered r frames) base
answered_stack None frames base h k = h
answered_stack (Some y) frames base h k = filled_stack frames base (top frames - 1) 0 y h (k y refl)

popped_stack : (frames : List Frame) (base : ℕ) → StackIsTellable frames base → StackIsTellable (take (top frames) frames) (min base (top frames))
popped_stack frames base h =
    let within : top frames ≤ length frames = omega arith in
    let e : length (take (top frames) frames) ≡ top frames = take_length (top frames) frames within in
    record {
      few = omega (arith, e, h.few);
      base_within = omega (arith, e);
      all = all_take IsTellableFrame (top frames) frames h.all;
    }

-- ---- a statement

abbrev OfParts : Machine → Type 0
OfParts m = StackIsTellable m.frames m.base × IsTellableHeap m.heap

together : (m : Machine) → StackIsTellable m.frames m.base → AllShort m.heap → IsTellable m
together m s h = record { few = s.few; base = s.base_within; frames = s.all; heap = record { texts = h } }

value_stack : (word : Word) (y : Value) (m : Machine) → IsTellable m → HasShortText y → IsTellable (with_value word y m)
value_stack (w.Set to a) y m h k = together (with_value (w.Set to a) y m) (filled_if_stack m.frames m.base (top m.frames) (Some to) y (record { few = h.few; base_within = h.base; all = h.frames }) k) h.heap.texts
value_stack (w.Op o to a b) y m h k = together (with_value (w.Op o to a b) y m) (filled_if_stack m.frames m.base (top m.frames) (Some to) y (record { few = h.few; base_within = h.base; all = h.frames }) k) h.heap.texts
value_stack (w.Get to of class field) y m h k = together (with_value (w.Get to of class field) y m) (filled_if_stack m.frames m.base (top m.frames) (Some to) y (record { few = h.few; base_within = h.base; all = h.frames }) k) h.heap.texts
value_stack (w.Put of class field a) y m h k = together (with_value (w.Put of class field a) y m) (record { few = h.few; base_within = h.base; all = h.frames }) h.heap.texts
value_stack (w.Return a) y m h k = together (with_value (w.Return a) y m) (popped_stack (answered (given a y) m.frames) m.base (answered_stack (given a y) m.frames m.base (record { few = h.few; base_within = h.base; all = h.frames }) (given_short a))) h.heap.texts
  where
    given_short : (b : Option Operand) → (z : Value) → given b y ≡ Some z → HasShortText z
    given_short None z e = cc
    given_short (Some b) z e = let f : y ≡ z = cc in subst HasShortText f k

step_tellable : (s : Statement) (m : Machine) → IsShortWord s.word → IsTellable m → IsTellable (step s m).machine
step_tellable s m short h = by_ends a.ends refl
  where
    a : Acted
    a = acted (act_of s.word (top_values m.frames)) m.heap

    act : ActIsShort a
    act = act_short s.word (top_values m.frames) m.heap short (λ n. slot_short (slots_at m.frames (top m.frames)) n (frame_slots m.frames (top m.frames) h.frames)) h.heap.texts

    after : IsTellable (after_act a m)
    after = record { few = h.few; base = h.base; frames = h.frames; heap = record { texts = act.heap } }

    by_ends : (e : Applied) → a.ends ≡ e → IsTellable (step_ends s a m e).machine
    by_ends (Err t) is = after
    by_ends (Ok y) is = let v = value_stack s.word y (after_act a m) after (subst Short is act.ends) in record { few = v.few; base = v.base; frames = v.frames; heap = v.heap }

then_tellable : (one : Stepped) (rest : List Statement) (stop : Stop) → IsTellable one.machine → IsTellable (steps rest one.machine).machine → IsTellable (then_steps one (steps rest) stop).machine
then_tellable one rest RunsOn h k = k
then_tellable one rest Returned h k = h
then_tellable one rest (Threw t) h k = h

pub steps_stay_tellable : StepsStayTellable
steps_stay_tellable [] m short h = h
steps_stay_tellable (s ∷ rest) m short h =
    let one : IsTellable (step s m).machine = step_tellable s m short.0 h in
    then_tellable (step s m) rest (step s m).stop one (steps_stay_tellable rest (step s m).machine short.1 one)
