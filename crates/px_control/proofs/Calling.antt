-- A method is called.
use Rattle.std.proofs.Common.{◌≡◌, ℕ, suc, ◌+◌, ◌<◌, ◌≤◌, nat_lt, Bool, true, false, List, [], ◌∷◌, ◌++◌, length, sym, ap, ◌∙◌, arith}
use Rattle.std.proofs.lemmas.Bool.{lt-ltb, le-ltb}
use Rattle.px_value.specs.Limits.{all_frames}
use Rattle.px_value.specs.declared.value.Value.{Value}
use Rattle.px_value.specs.declared.thrown.Thrown.TheVariants.{StackOverflowError}
use Rattle.px_normal.specs.declared.code.Code.{Code}
use Rattle.px_blocks.specs.Machine.{Control, entered, turned_if, called, pushed_if, max_stack, goes, fails}

abbrev turns_on : Control → Control
turns_on c = record c { turns = c.turns + 1 }

full_at : (n : ℕ) → 200 < n → nat_lt n max_stack ≡ false
unfolding all_frames
full_at n h = le-ltb n (suc all_frames) (omega arith)

room_at : (n : ℕ) → n ≤ 200 → nat_lt n max_stack ≡ true
unfolding all_frames
room_at n h = lt-ltb n (suc all_frames) (omega arith)

turn_left : (c : Control) → c.turns < 100000 → nat_lt c.turns 100000 ≡ true
turn_left c h = lt-ltb c.turns 100000 h

pub overflows : (code : Code) (entry method back : ℕ) (args : List Value) (c d : Control) → c ≡ d → c.turns < 100000 → 200 < length c.frames → called code entry method back args d ≡ fails StackOverflowError (record c { turns = c.turns + 1 })
overflows code entry method back args c d e h f =
    sym (ap (called code entry method back args) e)
    ∙ ap (λ (b : Bool). turned_if b (λ (x : Control). pushed_if (nat_lt (length x.frames) max_stack) code entry method back args x) c) (turn_left c h)
    ∙ ap (λ (b : Bool). pushed_if b code entry method back args (turns_on c)) (full_at (length c.frames) f)

pub enters : (code : Code) (entry method back : ℕ) (args : List Value) (c d : Control) → c ≡ d → c.turns < 100000 → length c.frames ≤ 200 → called code entry method back args d ≡ goes entry (record c { frames = c.frames ++ entered code method back args ∷ []; turns = c.turns + 1 })
enters code entry method back args c d e h f =
    sym (ap (called code entry method back args) e)
    ∙ ap (λ (b : Bool). turned_if b (λ (x : Control). pushed_if (nat_lt (length x.frames) max_stack) code entry method back args x) c) (turn_left c h)
    ∙ ap (λ (b : Bool). pushed_if b code entry method back args (turns_on c)) (room_at (length c.frames) f)
