-- Fills, calls and returns keep two stacks that are one.
use Rattle.std.proofs.Common.{◌≡◌, ℕ, zero, suc, ◌+◌, ◌-◌, ◌≤◌, nat_lt, Bool, true, false, List, [], ◌∷◌, ◌++◌, map, take, drop, length, Option, Some, None, unwrap_or, slice_get, slice_set, refl, sym, ap, subst, ◌∙◌, arith}
use Rattle.px_value.specs.declared.value.Value.{Value}
use Rattle.px_value.specs.declared.value.Value.TheVariants.{Null}
use Rattle.px_effects.specs.Act.{Place as Cell}
use Rattle.px_blocks.specs.declared.block.Block.{Block}
use Rattle.px_blocks.specs.declared.block.Naming.{Naming}
use Rattle.px_effects.specs.Run.{max_turns}
use Rattle.px_blocks.specs.Plan.{Plan}
use Rattle.px_blocks.specs.Machine.{Slot, Frame, just_written, top, with_slot_in, filled, blank_slots, given, entered, Control, with_frames, put_in_slot, least, one_less, Left, goes, turned_if, turned, max_stack, pushed, pushed_if, called, Back, back_from, cut, popped, left_with}
use Rattle.px_blocks.specs.Message.{FrameTold, frame_told, blank_frame, standing}
use Rattle.px_ends.specs.Agree.{SlotsLike, FrameLike, FramesLike, bare, Stacks}

-- ---- a slot is filled

slots_stay : (slots others : List Slot) (n : ℕ) (v : Value) → SlotsLike slots others → SlotsLike (slice_set slots n (just_written v)) others
slots_stay [] others n v like = like
slots_stay (s ∷ slots) [] n v like = absurd like
slots_stay (s ∷ slots) (t ∷ others) zero v like = (λ h. absurd (written h), like.1)
  where
    written : true ≡ false → ⊥
    written h = cc
slots_stay (s ∷ slots) (t ∷ others) (suc n) v like = (like.0, slots_stay slots others n v like.1)

pub filled_above : (o : Option Frame) (n : ℕ) (v : Value) (x : Frame) (frames : List Frame) (f : ℕ) → with_slot_in o n v (x ∷ frames) (suc f) ≡ x ∷ with_slot_in o n v frames f
filled_above None n v x frames f = refl
filled_above (Some y) n v x frames f = refl

filled_stays : (frames others : List Frame) (f n : ℕ) (v : Value) → FramesLike frames others → FramesLike (filled frames f n v) others
filled_stays [] others f n v like = like
filled_stays (x ∷ frames) [] f n v like = absurd like
filled_stays (x ∷ frames) (y ∷ others) zero n v like = (record { method = like.0.method; back = like.0.back; slots = slots_stay x.slots y.slots n v like.0.slots }, like.1)
filled_stays (x ∷ frames) (y ∷ others) (suc f) n v like = subst (λ (fs : List Frame). FramesLike fs (y ∷ others)) (sym (filled_above (slice_get frames f) n v x frames f)) (like.0, filled_stays frames others f n v like.1)

pub heads_stay : (frames : List Frame) (f n : ℕ) (v : Value) → map frame_told (filled frames f n v) ≡ map frame_told frames
heads_stay [] f n v = refl
heads_stay (x ∷ frames) zero n v = refl
heads_stay (x ∷ frames) (suc f) n v = ap (map frame_told) (filled_above (slice_get frames f) n v x frames f) ∙ ap (λ (hs : List FrameTold). frame_told x ∷ hs) (heads_stay frames f n v)

pub length_filled : (frames : List Frame) (f n : ℕ) (v : Value) → length (filled frames f n v) ≡ length frames
length_filled [] f n v = refl
length_filled (x ∷ frames) zero n v = refl
length_filled (x ∷ frames) (suc f) n v = ap length (filled_above (slice_get frames f) n v x frames f) ∙ ap suc (length_filled frames f n v)

pub fill_stacks : (plan : Plan) (c : Control) (lower : List Frame) (f n : ℕ) (v : Value) → Stacks plan c lower → Stacks plan (with_frames (filled c.frames f n v) c) lower
fill_stacks plan c lower f n v h = record {
  within = let l = length_filled c.frames f n v in let w = h.within in omega arith;
  reached = h.reached;
  like = subst (λ (hs : List FrameTold). FramesLike (filled c.frames f n v) (standing plan c.base (drop c.base hs) lower)) (sym (heads_stay c.frames f n v)) (filled_stays c.frames (bare plan c lower) f n v h.like);
}

-- ---- frames are left

cut_like : (plan : Plan) (n base : ℕ) (frames lower : List Frame) → base ≤ length lower → FramesLike frames (standing plan base (drop base (map frame_told frames)) lower) → FramesLike (take n frames) (standing plan (least base n) (drop (least base n) (map frame_told (take n frames))) lower)
cut_like plan zero zero frames lower r like = tt
cut_like plan zero (suc base) frames lower r like = tt
cut_like plan (suc n) zero [] lower r like = tt
cut_like plan (suc n) zero (x ∷ frames) lower r like = (like.0, cut_like plan n zero frames lower (omega arith) like.1)
cut_like plan (suc n) (suc base) [] [] r like = tt
cut_like plan (suc n) (suc base) [] (y ∷ lower) r like = absurd like
cut_like plan (suc n) (suc base) (x ∷ frames) [] r like = absurd (omega arith)
cut_like plan (suc n) (suc base) (x ∷ frames) (y ∷ lower) r like = (like.0, cut_like plan n base frames lower (omega arith) like.1)

length_taken : (n : ℕ) (fs : List Frame) → n ≤ length fs → length (take n fs) ≡ n
length_taken zero fs h = refl
length_taken (suc n) [] h = absurd (omega arith)
length_taken (suc n) (x ∷ xs) h = ap suc (length_taken n xs (omega arith))

least_le : (m n : ℕ) → (least m n ≤ m) × (least m n ≤ n)
least_le zero n = (omega arith, omega arith)
least_le (suc m) zero = (omega arith, omega arith)
least_le (suc m) (suc n) = let r = least_le m n in (omega (arith, r.0), omega (arith, r.1))

one_less_le : (n : ℕ) → one_less n ≤ n
one_less_le zero = omega arith
one_less_le (suc n) = omega arith

pub cut_stacks : (plan : Plan) (c : Control) (lower : List Frame) (n : ℕ) → n ≤ length c.frames → Stacks plan c lower → Stacks plan (cut n c) lower
cut_stacks plan c lower n w h = let r = least_le c.base n in record {
  within = let l = length_taken n c.frames w in omega (arith, r.1);
  reached = let k = h.reached in omega (arith, r.0);
  like = cut_like plan n c.base c.frames lower h.reached h.like;
}

pub pop_stacks : (plan : Plan) (c : Control) (lower : List Frame) → Stacks plan c lower → Stacks plan (popped c) lower
pop_stacks plan c lower h = cut_stacks plan c lower (one_less (length c.frames)) (one_less_le (length c.frames)) h

-- ---- a frame is pushed

slots_same : (slots : List Slot) → SlotsLike slots slots
slots_same [] = tt
slots_same (s ∷ slots) = (λ h. refl, slots_same slots)

given_like : (vs : List Value) (slots : List Slot) → SlotsLike (given vs slots) slots
given_like [] slots = slots_same slots
given_like (v ∷ vs) [] = tt
given_like (v ∷ vs) (s ∷ slots) = (λ h. absurd (written h), given_like vs slots)
  where
    written : true ≡ false → ⊥
    written h = cc

pub entered_like : (plan : Plan) (method back : ℕ) (args : List Value) → FrameLike (entered plan.code method back args) (blank_frame plan (frame_told (entered plan.code method back args)))
entered_like plan method back args = record { method = refl; back = refl; slots = given_like args (blank_slots plan.code method) }

push_like : (plan : Plan) (base : ℕ) (frames lower : List Frame) (x : Frame) → base ≤ length frames → base ≤ length lower → FrameLike x (blank_frame plan (frame_told x)) → FramesLike frames (standing plan base (drop base (map frame_told frames)) lower) → FramesLike (frames ++ x ∷ []) (standing plan base (drop base (map frame_told (frames ++ x ∷ []))) lower)
push_like plan zero [] lower x w r f like = (f, tt)
push_like plan zero (y ∷ frames) lower x w r f like = (like.0, push_like plan zero frames lower x (omega arith) (omega arith) f like.1)
push_like plan (suc base) [] lower x w r f like = absurd (omega arith)
push_like plan (suc base) (y ∷ frames) [] x w r f like = absurd (omega arith)
push_like plan (suc base) (y ∷ frames) (z ∷ lower) x w r f like = (like.0, push_like plan base frames lower x (omega arith) (omega arith) f like.1)

length_pushed : (fs : List Frame) (x : Frame) → length (fs ++ x ∷ []) ≡ suc (length fs)
length_pushed [] x = refl
length_pushed (y ∷ ys) x = ap suc (length_pushed ys x)

pub push_stacks : (plan : Plan) (c : Control) (lower : List Frame) (method back : ℕ) (args : List Value) → Stacks plan c lower → Stacks plan (pushed plan.code method back args c) lower
push_stacks plan c lower method back args h =
    let x : Frame = entered plan.code method back args in
    record {
      within = let l = length_pushed c.frames x in let w = h.within in omega arith;
      reached = h.reached;
      like = push_like plan c.base c.frames lower x h.within h.reached (entered_like plan method back args) h.like;
    }

-- ---- how a block is left

-- what each part of that keeps, all of it keeps
pub record KeptByLeaving (plan : Plan) (P : Control → Type 0) : Type 0 where
  pub turn : (c : Control) → P c → P (record c { turns = c.turns + 1 })
  pub push : (c : Control) (method back : ℕ) (args : List Value) → P c → P (pushed plan.code method back args c)
  pub fill : (c : Control) (f n : ℕ) (v : Value) → P c → P (with_frames (filled c.frames f n v) c)
  pub pop : (c : Control) → P c → P (popped c)

module _ (plan : Plan) (P : Control → Type 0) (k : KeptByLeaving plan P) where
  turn_keeps : (c : Control) (b : Bool) (f : Control → Left) → ((d : Control) → P d → P (f d).control) → P c → P (turned_if b f c).control
  turn_keeps c true f g h = g (record c { turns = c.turns + 1 }) (k.turn c h)
  turn_keeps c false f g h = h

  pub turned_keeps : (n : ℕ) (c : Control) → P c → P (turned (goes n) c).control
  turned_keeps n c h = turn_keeps c (nat_lt c.turns max_turns) (goes n) (λ d g. g) h

  push_if : (b : Bool) (entry method back : ℕ) (args : List Value) (c : Control) → P c → P (pushed_if b plan.code entry method back args c).control
  push_if true entry method back args c h = k.push c method back args h
  push_if false entry method back args c h = h

  pub called_keeps : (entry method back : ℕ) (args : List Value) (c : Control) → P c → P (called plan.code entry method back args c).control
  called_keeps entry method back args c h = turn_keeps c (nat_lt c.turns max_turns) (λ d. pushed_if (nat_lt (length d.frames) max_stack) plan.code entry method back args d) (λ d g. push_if (nat_lt (length d.frames) max_stack) entry method back args d g) h

  pub put_keeps : (f : ℕ) (to : Option ℕ) (v : Value) (c : Control) → P c → P (put_in_slot f to v c)
  put_keeps f None v c h = h
  put_keeps f (Some n) v c h = k.fill c f n v h

  pub left_keeps : (blocks : List Block) (v : Option Value) (c : Control) → P c → P (left_with blocks v c).control
  left_keeps blocks v c h =
      let back : Back = back_from blocks c.frames in
      k.pop (put_in_slot (top c.frames - 1) back.to (unwrap_or v Null) c) (put_keeps (top c.frames - 1) back.to (unwrap_or v Null) c h)

-- frames and turns alone are changed
pub record SameMarks (known : ℕ) (marks : List Cell) (names : List Naming) (c : Control) : Type 0 where
  pub known_is : c.known ≡ known
  pub marks_are : c.marks ≡ marks
  pub names_are : c.named ≡ names

pub marks_kept : (plan : Plan) (c : Control) → KeptByLeaving plan (SameMarks c.known c.marks c.named)
marks_kept plan c = record {
  turn = λ d h. record { known_is = h.known_is; marks_are = h.marks_are; names_are = h.names_are };
  push = λ d method back args h. record { known_is = h.known_is; marks_are = h.marks_are; names_are = h.names_are };
  fill = λ d f m v h. record { known_is = h.known_is; marks_are = h.marks_are; names_are = h.names_are };
  pop = λ d h. record { known_is = h.known_is; marks_are = h.marks_are; names_are = h.names_are };
}

pub stacks_kept : (plan : Plan) (lower : List Frame) → KeptByLeaving plan (λ d. Stacks plan d lower)
stacks_kept plan lower = record {
  turn = λ d s. record { within = s.within; reached = s.reached; like = s.like };
  push = λ d method back args s. push_stacks plan d lower method back args s;
  fill = λ d f m v s. fill_stacks plan d lower f m v s;
  pop = λ d s. pop_stacks plan d lower s;
}

-- where both hold, marks and stacks are those of before
pub record Leaves (plan : Plan) (c d : Control) : Type 0 where
  pub marks : SameMarks c.known c.marks c.named d
  pub stacks : (lower : List Frame) → Stacks plan c lower → Stacks plan d lower

same_marks : (c : Control) → SameMarks c.known c.marks c.named c
same_marks c = record { known_is = refl; marks_are = refl; names_are = refl }

pub goes_leaves : (plan : Plan) (c : Control) → Leaves plan c c
goes_leaves plan c = record { marks = same_marks c; stacks = λ lower s. s }

pub turned_leaves : (plan : Plan) (n : ℕ) (c : Control) → Leaves plan c (turned (goes n) c).control
turned_leaves plan n c = record { marks = turned_keeps plan (SameMarks c.known c.marks c.named) (marks_kept plan c) n c (same_marks c); stacks = λ lower s. turned_keeps plan (λ d. Stacks plan d lower) (stacks_kept plan lower) n c s }

pub called_leaves : (plan : Plan) (entry method back : ℕ) (args : List Value) (c : Control) → Leaves plan c (called plan.code entry method back args c).control
called_leaves plan entry method back args c = record { marks = called_keeps plan (SameMarks c.known c.marks c.named) (marks_kept plan c) entry method back args c (same_marks c); stacks = λ lower s. called_keeps plan (λ d. Stacks plan d lower) (stacks_kept plan lower) entry method back args c s }

pub left_leaves : (plan : Plan) (v : Option Value) (c : Control) → Leaves plan c (left_with plan.blocks.blocks v c).control
left_leaves plan v c = record { marks = left_keeps plan (SameMarks c.known c.marks c.named) (marks_kept plan c) plan.blocks.blocks v c (same_marks c); stacks = λ lower s. left_keeps plan (λ d. Stacks plan d lower) (stacks_kept plan lower) plan.blocks.blocks v c s }

pub put_leaves : (plan : Plan) (f : ℕ) (to : Option ℕ) (v : Value) (c : Control) → Leaves plan c (put_in_slot f to v c)
put_leaves plan f to v c = record { marks = put_keeps plan (SameMarks c.known c.marks c.named) (marks_kept plan c) f to v c (same_marks c); stacks = λ lower s. put_keeps plan (λ d. Stacks plan d lower) (stacks_kept plan lower) f to v c s }
