-- Every reference in a slot leads to an object, after each statement.
use Rattle.std.proofs.Common.{◌≡◌, ℕ, zero, suc, ◌-◌, ◌<◌, ◌≤◌, true, List, [], ◌∷◌, take, length, Option, Some, None, unwrap_or, Ok, Err, nat_lt, slice_get, slice_set, refl, sym, ap, subst, ◌∙◌, arith, lt-ltb}
use Rattle.std.specs.List.{AllByRecursion}
use Rattle.px_value.specs.declared.value.Value.{Value}
use Rattle.px_value.specs.declared.value.Value.TheVariants as v
use Rattle.px_value.specs.declared.object.Object.{Object}
use Rattle.px_value.specs.declared.header.Header.{Header}
use Rattle.px_value.specs.Heap.{cell_of, header_of}
use Rattle.px_value.specs.Operators.{Applied, apply}
use Rattle.px_code.specs.declared.word.Operand.{Operand}
use Rattle.px_code.specs.declared.word.Operand.TheVariants.{Slot as InFrame, Literal}
use Rattle.px_code.specs.declared.word.Word.{Word}
use Rattle.px_code.specs.declared.word.Word.TheVariants as w
use Rattle.px_code.specs.declared.frame.Frame.{Frame}
use Rattle.px_code.specs.declared.frame.Slot.{Slot}
use Rattle.px_code.specs.declared.block.Statement.{Statement}
use Rattle.px_code.specs.declared.code.Code.{Code}
use Rattle.px_code.specs.Fits.{Fits, header_at}
use Rattle.px_code.specs.Act.{Slots, operand, operand_or, act_of, at_object, Reads, Writes, comes, Acted, acted, value_at}
use Rattle.px_code.specs.CodeRun.{given}
use Rattle.px_code.specs.Sound.{IsNoReference}
use Rattle.px_code.specs.Law.{IsNoLiteralReference, HasNoReference, NoLiteralReference, AreStatements, MachineFits}
use Rattle.px_code.specs.Machine.{Machine, slots_at, value_in, top, top_values, just_written, with_slot_in, filled, answered, after_act, with_value, Stop, RunsOn, Returned, Threw, Stepped, step, step_ends, steps, then_steps}
use Rattle.px_code.proofs.Staying.{apply_plain, GivesNoReference, step_stays}
use Rattle.px_half.specs.Absorbed.{leads}
use Rattle.px_code.specs.Points.{HasStatement}
use Rattle.px_pair.specs.Crossing.{SlotsLead, ReturnsNoLiteral, ReturnNoLiterals}
use Rattle.px_pair.proofs.ControlCrossing.{same_length, lead_seen}

-- ---- values

plain_leads : (heap : List Object) (x : Value) → IsNoReference x → leads heap x ≡ true
plain_leads heap (v.Int n) h = refl
plain_leads heap (v.Long n) h = refl
plain_leads heap (v.Bool b) h = refl
plain_leads heap (v.Text t) h = refl
plain_leads heap v.Null h = refl
plain_leads heap (v.Ref o) h = absurd h

-- an object that has a header is there
within : (heap : List Object) (o : ℕ) (h : Header) → header_at heap o ≡ Some h → o < length heap
within [] o h e = cc
within (x ∷ heap) zero h e = omega arith
within (x ∷ heap) (suc o) h e = let k : o < length heap = within heap o h e in omega (arith, k)

there_leads : (heap : List Object) (o : ℕ) (h : Header) → header_at heap o ≡ Some h → nat_lt o (length heap) ≡ true
there_leads heap o h e = lt-ltb o (length heap) (within heap o h e)

module _ (code : Code) where
  found_leads : (heap : List Object) (o i : ℕ) → Fits code heap → leads heap (value_at heap o i) ≡ true
  found_leads heap o i fits = of_object (slice_get heap o) refl
    where
      of_value : (y : Object) → slice_get heap o ≡ Some y → (x : Option Value) → slice_get y.cells i ≡ x → leads heap (unwrap_or x v.Null) ≡ true
      of_value y is None e = refl
      of_value y is (Some (v.Int n)) e = refl
      of_value y is (Some (v.Long n)) e = refl
      of_value y is (Some (v.Bool b)) e = refl
      of_value y is (Some (v.Text t)) e = refl
      of_value y is (Some v.Null) e = refl
      of_value y is (Some (v.Ref target)) e =
          let l = fits.leads o i target y.header (ap (λ (z : Option Object). cell_of z i) is ∙ e) (ap header_of is) in
          there_leads heap target l.header l.there

      of_object : (x : Option Object) → slice_get heap o ≡ x → leads heap (unwrap_or (cell_of x i) v.Null) ≡ true
      of_object None is = refl
      of_object (Some y) is = of_value y is (slice_get y.cells i) refl

abbrev AllLead : List Object → List Slot → Type 0
AllLead heap slots = AllByRecursion (λ (s : Slot). leads heap s.value ≡ true) slots

slot_leads : (heap : List Object) (slots : List Slot) (n : ℕ) → AllLead heap slots → leads heap (value_in slots n) ≡ true
slot_leads heap [] n h = refl
slot_leads heap (s ∷ slots) zero h = h.0
slot_leads heap (s ∷ slots) (suc n) h = slot_leads heap slots n h.1

frame_leads : (heap : List Object) (frames : List Frame) (f : ℕ) → SlotsLead heap frames → AllLead heap (slots_at frames f)
frame_leads heap [] f h = tt
frame_leads heap (x ∷ frames) zero h = h.0
frame_leads heap (x ∷ frames) (suc f) h = frame_leads heap frames f h.1

operand_leads : (heap : List Object) (slots : Slots) (a : Operand) → ((n : ℕ) → leads heap (slots n) ≡ true) → IsNoLiteralReference a → leads heap (operand slots a) ≡ true
operand_leads heap slots (InFrame n) h k = h n
operand_leads heap slots (Literal x) h k = plain_leads heap x k

-- ---- what a statement comes to

abbrev EndLeads : List Object → Applied → Type 0
EndLeads heap (Ok x) = leads heap x ≡ true
EndLeads heap (Err t) = Unit {0}

applied_leads : (heap : List Object) (e : Applied) → GivesNoReference e → EndLeads heap e
applied_leads heap (Ok x) h = plain_leads heap x h
applied_leads heap (Err t) h = tt

module _ (code : Code) (heap : List Object) (fits : Fits code heap) (slots : Slots) (lead : (n : ℕ) → leads heap (slots n) ≡ true) where
  get_leads : (field : ℕ) (x : Value) → EndLeads heap (acted (at_object x (λ o. Reads o field comes)) heap).ends
  get_leads field (v.Int n) = tt
  get_leads field (v.Long n) = tt
  get_leads field (v.Bool b) = tt
  get_leads field (v.Text t) = tt
  get_leads field v.Null = tt
  get_leads field (v.Ref o) = found_leads code heap o field fits

  put_leads : (field : ℕ) (x y : Value) → EndLeads heap (acted (at_object x (λ o. Writes o field y (comes v.Null))) heap).ends
  put_leads field (v.Int n) y = tt
  put_leads field (v.Long n) y = tt
  put_leads field (v.Bool b) y = tt
  put_leads field (v.Text t) y = tt
  put_leads field v.Null y = tt
  put_leads field (v.Ref o) y = refl

  pub act_leads : (word : Word) → HasNoReference word → ReturnsNoLiteral word → EndLeads heap (acted (act_of word slots) heap).ends
  act_leads (w.Set to a) h k = operand_leads heap slots a lead h
  act_leads (w.Op o to a b) h k = applied_leads heap (apply o (operand slots a) (operand_or slots (operand slots a) b)) (apply_plain o (operand slots a) (operand_or slots (operand slots a) b))
  act_leads (w.Get to of class field) h k = get_leads field (operand slots of)
  act_leads (w.Put of class field a) h k = put_leads field (operand slots of) (operand slots a)
  act_leads (w.Return None) h k = refl
  act_leads (w.Return (Some a)) h k = operand_leads heap slots a lead k

-- ---- the stack

all_set : {A : Type 0} (P : A → Type 0) (xs : List A) (n : ℕ) (y : A) → AllByRecursion P xs → ((x : A) → slice_get xs n ≡ Some x → P x → P y) → AllByRecursion P (slice_set xs n y)
all_set P [] n y h k = tt
all_set P (x ∷ xs) zero y h k = (k x refl h.0, h.1)
all_set P (x ∷ xs) (suc n) y h k = (h.0, all_set P xs n y h.1 k)

all_take : {A : Type 0} (P : A → Type 0) (n : ℕ) (xs : List A) → AllByRecursion P xs → AllByRecursion P (take n xs)
all_take P zero xs h = tt
all_take P (suc n) [] h = tt
all_take P (suc n) (x ∷ xs) h = (h.0, all_take P n xs h.1)

-- what holds of each frame and goes on to a frame with one slot written, holds after a write
pub all_filled : (P : Frame → Type 0) (frames : List Frame) (f n : ℕ) (y : Value) → AllByRecursion P frames → ((x : Frame) → P x → P (record x { slots = slice_set x.slots n (just_written y) })) → AllByRecursion P (filled frames f n y)
all_filled P frames f n y h k = of_frame (slice_get frames f) refl
  where
    of_frame : (x : Option Frame) → slice_get frames f ≡ x → AllByRecursion P (with_slot_in x n y frames f)
    of_frame None e = h
    of_frame (Some x) e = all_set P frames f (record x { slots = slice_set x.slots n (just_written y) }) h (λ z is p. let same : z ≡ x = (let q : Some z ≡ Some x = sym is ∙ e in cc) in k x (subst P same p))

-- and after a statement's value
pub all_valued : (P : Frame → Type 0) (word : Word) (y : Value) (m : Machine) → AllByRecursion P m.frames → ((x : Frame) (n : ℕ) → P x → P (record x { slots = slice_set x.slots n (just_written y) })) → AllByRecursion P (with_value word y m).frames
all_valued P (w.Set to a) y m h k = all_filled P m.frames (top m.frames) to y h (λ x. k x to)
all_valued P (w.Op o to a b) y m h k = all_filled P m.frames (top m.frames) to y h (λ x. k x to)
all_valued P (w.Get to of class field) y m h k = all_filled P m.frames (top m.frames) to y h (λ x. k x to)
all_valued P (w.Put of class field a) y m h k = h
all_valued P (w.Return a) y m h k = all_take P (top (answered (given a y) m.frames)) (answered (given a y) m.frames) (of_given a)
  where
    of_given : (b : Option Operand) → AllByRecursion P (answered (given b y) m.frames)
    of_given None = h
    of_given (Some b) = all_filled P m.frames (top m.frames - 1) 0 y h (λ x. k x 0)

base_down : (word : Word) (y : Value) (m : Machine) → (with_value word y m).base ≤ m.base
base_down (w.Set to a) y m = omega arith
base_down (w.Op o to a b) y m = omega arith
base_down (w.Get to of class field) y m = omega arith
base_down (w.Put of class field a) y m = omega arith
base_down (w.Return a) y m = omega arith

-- ---- one statement, and all of them: what holds of each frame, whatever is written

module _ (P : Frame → Type 0) (any : (x : Frame) (n : ℕ) (y : Value) → P x → P (record x { slots = slice_set x.slots n (just_written y) })) where
  step_all : (s : Statement) (m : Machine) → AllByRecursion P m.frames → AllByRecursion P (step s m).machine.frames
  step_all s m h = by_ends (acted (act_of s.word (top_values m.frames)) m.heap).ends
    where
      by_ends : (e : Applied) → AllByRecursion P (step_ends s (acted (act_of s.word (top_values m.frames)) m.heap) m e).machine.frames
      by_ends (Err t) = h
      by_ends (Ok y) = all_valued P s.word y (after_act (acted (act_of s.word (top_values m.frames)) m.heap) m) h (λ x n. any x n y)

  then_all : (one : Stepped) (rest : List Statement) (stop : Stop) → AllByRecursion P one.machine.frames → AllByRecursion P (steps rest one.machine).machine.frames → AllByRecursion P (then_steps one (steps rest) stop).machine.frames
  then_all one rest RunsOn h k = k
  then_all one rest Returned h k = h
  then_all one rest (Threw t) h k = h

  pub steps_all : (statements : List Statement) (m : Machine) → AllByRecursion P m.frames → AllByRecursion P (steps statements m).machine.frames
  steps_all [] m h = h
  steps_all (s ∷ rest) m h = let one = step_all s m h in then_all (step s m) rest (step s m).stop one (steps_all rest (step s m).machine one)

step_down : (s : Statement) (m : Machine) → (step s m).machine.base ≤ m.base
step_down s m = by_ends (acted (act_of s.word (top_values m.frames)) m.heap).ends
  where
    by_ends : (e : Applied) → (step_ends s (acted (act_of s.word (top_values m.frames)) m.heap) m e).machine.base ≤ m.base
    by_ends (Err t) = omega arith
    by_ends (Ok y) = base_down s.word y (after_act (acted (act_of s.word (top_values m.frames)) m.heap) m)

then_down : (n : ℕ) (one : Stepped) (rest : List Statement) (stop : Stop) → one.machine.base ≤ n → (steps rest one.machine).machine.base ≤ one.machine.base → (then_steps one (steps rest) stop).machine.base ≤ n
then_down n one rest RunsOn h k = omega (arith, h, k)
then_down n one rest Returned h k = h
then_down n one rest (Threw t) h k = h

pub steps_down : (statements : List Statement) (m : Machine) → (steps statements m).machine.base ≤ m.base
steps_down [] m = omega arith
steps_down (s ∷ rest) m = then_down m.base (step s m) rest (step s m).stop (step_down s m) (steps_down rest (step s m).machine)

-- ---- references lead on the one heap

module _ (code : Code) (m : ℕ) where
  slot_written : (heap : List Object) (slots : List Slot) (n : ℕ) (y : Value) → AllLead heap slots → leads heap y ≡ true → AllLead heap (slice_set slots n (just_written y))
  slot_written heap slots n y h k = all_set (λ (s : Slot). leads heap s.value ≡ true) slots n (just_written y) h (λ _ _ _. k)

  leads_on : (old new : List Object) (frames : List Frame) → length new ≡ length old → SlotsLead old frames → SlotsLead new frames
  leads_on old new frames n h = lead_seen old new frames frames n refl h

  step_leads : (s : Statement) (one : Machine) → HasStatement code m s.node s.word → HasNoReference s.word → ReturnsNoLiteral s.word → MachineFits code m one → SlotsLead one.heap one.frames → SlotsLead (step s one).machine.heap (step s one).machine.frames
  step_leads s one has plain returns fits h = leads_on one.heap (step s one).machine.heap (step s one).machine.frames long (by_ends a.ends refl)
    where
      a : Acted
      a = acted (act_of s.word (top_values one.frames)) one.heap

      long : length (step s one).machine.heap ≡ length one.heap
      long = same_length (step s one).machine.heap one.heap (step_stays code m s one has plain fits).headers

      ends : EndLeads one.heap a.ends
      ends = act_leads code one.heap fits.heap (top_values one.frames) (λ n. slot_leads one.heap (slots_at one.frames (top one.frames)) n (frame_leads one.heap one.frames (top one.frames) h)) s.word plain returns

      by_ends : (e : Applied) → a.ends ≡ e → SlotsLead one.heap (step_ends s a one e).machine.frames
      by_ends (Err t) is = h
      by_ends (Ok y) is = all_valued (λ (f : Frame). AllLead one.heap f.slots) s.word y (after_act a one) h (λ x n p. slot_written one.heap x.slots n y p (subst (EndLeads one.heap) is ends))

  then_leads : (one : Stepped) (rest : List Statement) (stop : Stop) → one.stop ≡ stop → SlotsLead one.machine.heap one.machine.frames → (one.stop ≡ RunsOn → SlotsLead (steps rest one.machine).machine.heap (steps rest one.machine).machine.frames) → SlotsLead (then_steps one (steps rest) stop).machine.heap (then_steps one (steps rest) stop).machine.frames
  then_leads one rest RunsOn is h k = k is
  then_leads one rest Returned is h k = h
  then_leads one rest (Threw t) is h k = h

  pub steps_lead : (statements : List Statement) (one : Machine) → AreStatements code m statements → NoLiteralReference statements → ReturnNoLiterals statements → MachineFits code m one → SlotsLead one.heap one.frames → SlotsLead (steps statements one).machine.heap (steps statements one).machine.frames
  steps_lead [] one are plain returns fits h = h
  steps_lead (s ∷ rest) one are plain returns fits h =
      then_leads (step s one) rest (step s one).stop refl (step_leads s one are.0 plain.0 returns.0 fits h)
      (λ on. steps_lead rest (step s one).machine are.1 plain.1 returns.1 ((step_stays code m s one are.0 plain.0 fits).machine on) (step_leads s one are.0 plain.0 returns.0 fits h))
