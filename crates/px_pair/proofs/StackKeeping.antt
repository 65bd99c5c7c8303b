-- What statements do to a stack that both ends have alike.
use Rattle.std.proofs.Common.{◌≡◌, ℕ, zero, suc, ◌-◌, min, true, false, List, [], ◌∷◌, ◌++◌, map, take, drop, length, Option, Some, None, Ok, Err, slice_get, slice_set, refl, sym, ap, subst, ◌∙◌, arith}
use Rattle.std.proofs.Math.Nat.{suc-min-suc, zero-min, min-zero}
use Rattle.std.proofs.lemmas.List.{length-map, length-drop, drop-map}
use Rattle.px_value.specs.declared.value.Value.{Value}
use Rattle.px_value.specs.Operators.{Applied}
use Rattle.px_code.specs.declared.word.Word.{Word}
use Rattle.px_code.specs.declared.word.Word.TheVariants as w
use Rattle.px_code.specs.declared.frame.Frame.{Frame}
use Rattle.px_code.specs.declared.frame.Slot.{Slot}
use Rattle.px_code.specs.declared.block.Statement.{Statement}
use Rattle.px_code.specs.declared.plan.Plan.{Plan}
use Rattle.px_code.specs.Act.{act_of, Acted, acted}
use Rattle.px_code.specs.CodeRun.{given}
use Rattle.px_code.specs.Machine.{Machine, top, top_values, with_slot_in, filled, just_written, answered, popped, with_value, after_act, Stop, RunsOn, Returned, Threw, Stepped, step, step_ends, steps, then_steps}
use Rattle.px_wire.specs.declared.frame.Frame.{Frame as FrameTold}
use Rattle.px_half.specs.Messages.{frame_told}
use Rattle.px_half.specs.Absorbed.{blank_frame}
use Rattle.px_pair.specs.Crossing.{SlotsLike, FramesLike, bare, StepsKeepStacks}

-- ---- a slot is written

slots_stay : (slots others : List Slot) (n : ℕ) (v : Value) → SlotsLike slots others → SlotsLike (slice_set slots n (just_written v)) others
slots_stay [] others n v like = like
slots_stay (s ∷ slots) [] n v like = absurd like
slots_stay (s ∷ slots) (t ∷ others) zero v like = (λ h. absurd (written h), like.1)
  where
    written : true ≡ false → ⊥
    written h = cc
slots_stay (s ∷ slots) (t ∷ others) (suc n) v like = (like.0, slots_stay slots others n v like.1)

filled_above : (o : Option Frame) (n : ℕ) (v : Value) (x : Frame) (frames : List Frame) (f : ℕ) → with_slot_in o n v (x ∷ frames) (suc f) ≡ x ∷ with_slot_in o n v frames f
filled_above None n v x frames f = refl
filled_above (Some y) n v x frames f = refl

filled_stays : (frames others : List Frame) (f n : ℕ) (v : Value) → FramesLike frames others → FramesLike (filled frames f n v) others
filled_stays [] others f n v like = like
filled_stays (x ∷ frames) [] f n v like = absurd like
filled_stays (x ∷ frames) (y ∷ others) zero n v like = (record { method = like.0.method; back = like.0.back; slots = slots_stay x.slots y.slots n v like.0.slots }, like.1)
filled_stays (x ∷ frames) (y ∷ others) (suc f) n v like = subst (λ (fs : List Frame). FramesLike fs (y ∷ others)) (sym (filled_above (slice_get frames f) n v x frames f)) (like.0, filled_stays frames others f n v like.1)

heads_stay : (frames : List Frame) (f n : ℕ) (v : Value) → map frame_told (filled frames f n v) ≡ map frame_told frames
heads_stay [] f n v = refl
heads_stay (x ∷ frames) zero n v = refl
heads_stay (x ∷ frames) (suc f) n v = ap (map frame_told) (filled_above (slice_get frames f) n v x frames f) ∙ ap (λ (hs : List FrameTold). frame_told x ∷ hs) (heads_stay frames f n v)

same_length : (frames others : List Frame) → FramesLike frames others → length frames ≡ length others
same_length [] [] like = refl
same_length [] (y ∷ others) like = absurd like
same_length (x ∷ frames) [] like = absurd like
same_length (x ∷ frames) (y ∷ others) like = ap suc (same_length frames others like.1)

module _ (plan : Plan) where
  -- a stack on the lowest frames of another one, by the heads of its frames
  abbrev pub standing : ℕ → List FrameTold → List Frame → List Frame
  standing base heads lower = take base lower ++ map (blank_frame plan) (drop base heads)

  pub bare_stands : (near far : Machine) → bare plan near far ≡ standing near.base (map frame_told near.frames) far.frames
  bare_stands near far = ap (λ (hs : List FrameTold). take near.base far.frames ++ map (blank_frame plan) hs) (sym (drop-map frame_told near.base near.frames))

  -- lower frames that are missing leave the stack too short
  pub none_missing : (base : ℕ) (x : Frame) (frames : List Frame) → FramesLike (x ∷ frames) (map (blank_frame plan) (drop base (map frame_told frames))) → ⊥
  none_missing base x frames like = too_long (length frames) base counts
    where
      counts : suc (length frames) ≡ length frames - base
      counts =
          same_length (x ∷ frames) (map (blank_frame plan) (drop base (map frame_told frames))) like
          ∙ length-map (drop base (map frame_told frames)) (blank_frame plan)
          ∙ length-drop base (map frame_told frames)
          ∙ ap (λ n. n - base) (length-map frames frame_told)

      too_long : (n k : ℕ) → suc n ≡ n - k → ⊥
      too_long n k e = omega arith

  -- ---- a frame is left

  abbrev least : ℕ → ℕ → ℕ
  least zero n = zero
  least (suc m) zero = zero
  least (suc m) (suc n) = suc (least m n)

  least_is : (m n : ℕ) → least m n ≡ min m n
  least_is zero n = sym (zero-min n)
  least_is (suc m) zero = sym (min-zero (suc m))
  least_is (suc m) (suc n) = ap suc (least_is m n) ∙ sym (suc-min-suc m n)

  cut : (n base : ℕ) (frames lower : List Frame) → FramesLike frames (standing base (map frame_told frames) lower) → FramesLike (take n frames) (standing (least base n) (map frame_told (take n frames)) lower)
  cut zero zero frames lower like = tt
  cut zero (suc base) frames lower like = tt
  cut (suc n) zero [] lower like = tt
  cut (suc n) zero (x ∷ frames) lower like = (like.0, cut n zero frames lower like.1)
  cut (suc n) (suc base) [] [] like = tt
  cut (suc n) (suc base) [] (y ∷ lower) like = absurd like
  cut (suc n) (suc base) (x ∷ frames) [] like = absurd (none_missing base x frames like)
  cut (suc n) (suc base) (x ∷ frames) (y ∷ lower) like = (like.0, cut n base frames lower like.1)

  -- ---- statements

  abbrev Stands : Machine → Machine → Type 0
  Stands far m = FramesLike m.frames (standing m.base (map frame_told m.frames) far.frames)

  fills : (far m : Machine) (f n : ℕ) (v : Value) → Stands far m → Stands far (record m { frames = filled m.frames f n v })
  fills far m f n v like =
      let new : List Frame = filled m.frames f n v in
      subst (λ (hs : List FrameTold). FramesLike new (standing m.base hs far.frames)) (sym (heads_stay m.frames f n v)) (filled_stays m.frames (standing m.base (map frame_told m.frames) far.frames) f n v like)

  answers : (far m : Machine) (result : Option Value) → Stands far m → Stands far (record m { frames = answered result m.frames })
  answers far m None like = like
  answers far m (Some v) like = fills far m (top m.frames - 1) 0 v like

  leaves : (far m : Machine) → Stands far m → Stands far (popped m)
  leaves far m like =
      let left : List Frame = take (top m.frames) m.frames in
      subst (λ n. FramesLike left (standing n (map frame_told left) far.frames)) (least_is m.base (top m.frames)) (cut (top m.frames) m.base m.frames far.frames like)

  valued : (word : Word) (far m : Machine) (v : Value) → Stands far m → Stands far (with_value word v m)
  valued (w.Set to a) far m v like = fills far m (top m.frames) to v like
  valued (w.Op op to a b) far m v like = fills far m (top m.frames) to v like
  valued (w.Get to of class field) far m v like = fills far m (top m.frames) to v like
  valued (w.Put of class field a) far m v like = like
  valued (w.Return a) far m v like = leaves far (record m { frames = answered (given a v) m.frames }) (answers far m (given a v) like)

  ended : (s : Statement) (a : Acted) (far m : Machine) (e : Applied) → Stands far m → Stands far (step_ends s a m e).machine
  ended s a far m (Ok v) like = valued s.word far (after_act a m) v like
  ended s a far m (Err t) like = like

  stepped : (s : Statement) (far m : Machine) → Stands far m → Stands far (step s m).machine
  stepped s far m like = let a : Acted = acted (act_of s.word (top_values m.frames)) m.heap in ended s a far m a.ends like

  then_stepped : (far : Machine) (one : Stepped) (rest : Machine → Stepped) (stop : Stop) → Stands far one.machine → Stands far (rest one.machine).machine → Stands far (then_steps one rest stop).machine
  then_stepped far one rest RunsOn first after = after
  then_stepped far one rest Returned first after = first
  then_stepped far one rest (Threw t) first after = first

  all_stepped : (statements : List Statement) (far m : Machine) → Stands far m → Stands far (steps statements m).machine
  all_stepped [] far m like = like
  all_stepped (s ∷ rest) far m like =
      let first : Stands far (step s m).machine = stepped s far m like in
      then_stepped far (step s m) (steps rest) (step s m).stop first (all_stepped rest far (step s m).machine first)

pub steps_keep_stacks : StepsKeepStacks
steps_keep_stacks plan statements near far like =
    let after : Machine = (steps statements near).machine in
    subst (FramesLike after.frames) (sym (bare_stands plan after far)) (all_stepped plan statements far near (subst (FramesLike near.frames) (bare_stands plan near far) like))
