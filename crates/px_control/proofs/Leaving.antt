-- A frame is left.
use Rattle.std.proofs.Common.{◌≡◌, ℕ, zero, suc, ◌-◌, ◌≤◌, List, take, length, min, Option, Some, None, unwrap_or, refl, sym, ap, ◌∙◌, arith}
use Rattle.std.proofs.lemmas.List.{length-take-le}
use Rattle.px_value.specs.declared.value.Value.{Value}
use Rattle.px_value.specs.declared.value.Value.TheVariants.{Null}
use Rattle.px_blocks.specs.declared.block.Block.{Block}
use Rattle.px_blocks.specs.Machine.{Frame, Control, Back, top, with_frames, put_in_slot, least, one_less, cut, popped, returns, back_from, left_with, goes}
use Rattle.px_blocks.specs.Message.{all_settled}
use Rattle.px_control.specs.declared.back.Back.{Back as BackData}
use Rattle.px_control.specs.Stack.{filled_if, IsQuietBelow, machine_back}
use Rattle.px_control.proofs.Quiet.{take_less, quiet_less, take_filled, length_filled}

least_is : (m n : ℕ) → least m n ≡ min m n
least_is zero n = omega arith
least_is (suc m) zero = omega arith
least_is (suc m) (suc n) = let e : least m n ≡ min m n = least_is m n in omega arith

one_less_is : (n : ℕ) → one_less n ≡ n - 1
one_less_is zero = omega arith
one_less_is (suc n) = omega arith

put_is : (f : ℕ) (to : Option ℕ) (v : Value) (c : Control) → put_in_slot f to v c ≡ with_frames (filled_if c.frames f to v) c
put_is f None v c = refl
put_is f (Some n) v c = refl

abbrev shorter : Control → List Frame → ℕ → Control
shorter c frames base = record c { frames = frames; base = base }

popped_is : (c : Control) (fs : List Frame) (n : ℕ) → n ≡ length fs - 1 → popped (with_frames fs c) ≡ shorter c (take n fs) (min c.base n)
popped_is c fs n h =
    let e : one_less (length fs) ≡ n = one_less_is (length fs) ∙ sym h in
    ap (λ (k : ℕ). cut k (with_frames fs c)) e ∙ ap (shorter c (take n fs)) (least_is c.base n)

pub left_is : (blocks : List Block) (v : Option Value) (c : Control) (back : BackData) (fs rest : List Frame) (b : ℕ) → machine_back back ≡ back_from blocks c.frames → fs ≡ filled_if c.frames (top c.frames - 1) back.to (unwrap_or v Null) → rest ≡ take (top c.frames) fs → b ≡ min c.base (top c.frames) → left_with blocks v c ≡ goes back.next (record c { frames = rest; base = b })
left_is blocks v c back fs rest b eb ef er ee =
    let long : length fs ≡ length c.frames = ap length ef ∙ length_filled c.frames (top c.frames - 1) back.to (unwrap_or v Null) in
    let n : top c.frames ≡ length fs - 1 = ap (λ (k : ℕ). k - 1) (sym long) in
    let put : put_in_slot (top c.frames - 1) back.to (unwrap_or v Null) c ≡ with_frames fs c = put_is (top c.frames - 1) back.to (unwrap_or v Null) c ∙ ap (λ (xs : List Frame). with_frames xs c) (sym ef) in
    sym (ap (λ (k : Back). returns k v c) eb)
    ∙ ap (λ (d : Control). goes back.next (popped d)) put
    ∙ ap (goes back.next) (popped_is c fs (top c.frames) n)
    ∙ ap (λ (xs : List Frame). goes back.next (shorter c xs (min c.base (top c.frames)))) (sym er)
    ∙ ap (λ (k : ℕ). goes back.next (shorter c rest k)) (sym ee)

pub quiet_left : (base : ℕ) (frames fs rest : List Frame) (to : Option ℕ) (v : Value) (b : ℕ) → IsQuietBelow base frames → fs ≡ filled_if frames (top frames - 1) to v → rest ≡ take (top frames) fs → b ≡ min base (top frames) → IsQuietBelow b rest
quiet_left base frames fs rest to v b q ef er eb =
    let long : length fs ≡ length frames = ap length ef ∙ length_filled frames (top frames - 1) to v in
    let top_in : top frames ≤ length fs = omega arith in
    let cut : length rest ≡ top frames = ap length er ∙ length-take-le (top frames) fs top_in in
    let low : b ≤ top frames = omega arith in
    let less : b - 1 ≤ top frames = omega arith in
    let below : b - 1 ≤ top frames - 1 = omega arith in
    let before : b - 1 ≤ base - 1 = omega arith in
    let same : take (b - 1) rest ≡ take (b - 1) frames = ap (take (b - 1)) er ∙ take_less (b - 1) (top frames) fs less ∙ ap (take (b - 1)) ef ∙ take_filled frames (top frames - 1) to v (b - 1) below in
    record {
      within = omega arith;
      quiet = ap all_settled same ∙ quiet_less (b - 1) (base - 1) frames before q.quiet ∙ sym same;
    }
