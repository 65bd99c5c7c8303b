-- Moves of whole methods, and turning back.
use Rattle.std.proofs.Common.{◌≡◌, ◌≤◌, ◌<◌, ℕ, zero, suc, ◌-◌, Bool, true, false, not, List, [], ◌∷◌, ◌++◌, length, take, unwrap_or, slice_get, slice_set, slice_index_or, if◌then◌else◌, refl, sym, ap, ◌∙◌, arith}
use Rattle.std.proofs.Math.Seq.{take-suc}
use Rattle.px_code.specs.declared.side.Side.{Side}
use Rattle.px_code.specs.declared.side.Side.TheVariants.{App, Db}
use Rattle.px_code.specs.Places.{other, side_of, same_side}
use Rattle.px_choose.specs.Placements.{is_free, set_number, with_side, flipped, Pins}
use Rattle.px_choose.specs.Gains.{turned, back}
use Rattle.px_choose.proofs.Turning.{free_above, free_below, turned_flip, flipped_free, flipped_fixed}

set_same : (xs : List Side) (i : ℕ) → slice_set xs i (unwrap_or (slice_get xs i) App) ≡ xs
set_same [] i = refl
set_same (x ∷ xs) zero = refl
set_same (x ∷ xs) (suc i) = ap (λ ys. x ∷ ys) (set_same xs i)

number_same : (xs : List Side) (n : ℕ) → set_number xs n (side_of xs n) ≡ xs
number_same xs zero = refl
number_same xs (suc n) = set_same xs n

set_twice : (xs : List Side) (i : ℕ) (x y : Side) → slice_set (slice_set xs i x) i y ≡ slice_set xs i y
set_twice [] i x y = refl
set_twice (z ∷ xs) zero x y = refl
set_twice (z ∷ xs) (suc i) x y = ap (λ ys. z ∷ ys) (set_twice xs i x y)

number_twice : (xs : List Side) (n : ℕ) (x y : Side) → set_number (set_number xs n x) n y ≡ set_number xs n y
number_twice xs zero x y = refl
number_twice xs (suc n) x y = set_twice xs n x y

other_other : (s : Side) → other (other s) ≡ s
other_other App = refl
other_other Db = refl

pub same_is : (a b : Side) → same_side a b ≡ true → b ≡ a
same_is App App h = refl
same_is Db Db h = refl
same_is App Db h = cc
same_is Db App h = cc

pub same_not : (a b : Side) → same_side a b ≡ false → b ≡ other a
same_not App App h = cc
same_not Db Db h = cc
same_not App Db h = refl
same_not Db App h = refl

-- a free node that is put at a side is flipped exactly where it was at the other
pub goes_law : (pins : Pins) (n : ℕ) (side : Side) (p : List Side) (r : Bool) → is_free pins n ≡ true → same_side (side_of p n) side ≡ r → with_side pins n side p ≡ (if not r then flipped pins n p else p)
goes_law pins n side p true f h = ap (λ (b : Bool). if b then set_number p n side else p) f ∙ ap (λ (s : Side). set_number p n s) (same_is (side_of p n) side h) ∙ number_same p n
goes_law pins n side p false f h = ap (λ (s : Side). with_side pins n s p) (same_not (side_of p n) side h)

twice_by : (pins : Pins) (n : ℕ) (p : List Side) (b : Bool) → is_free pins n ≡ b → length p ≡ length pins → flipped pins n (flipped pins n p) ≡ p
twice_by pins n p false f size = ap (λ (r : List Side). flipped pins n r) (flipped_fixed pins n p f) ∙ flipped_fixed pins n p f
twice_by pins n p true f size =
    let low = free_below pins n f in
    let F = turned_flip n p (free_above pins n f) (omega (arith, low, size)) in
    let x : other (side_of (turned n p) n) ≡ side_of p n = ap other F.here ∙ other_other (side_of p n) in
    ap (λ (r : List Side). flipped pins n r) (flipped_free pins n p f) ∙ flipped_free pins n (turned n p) f ∙ number_twice p n (other (side_of p n)) (other (side_of (turned n p) n)) ∙ ap (λ (s : Side). set_number p n s) x ∙ number_same p n

pub flip_twice : (pins : Pins) (n : ℕ) (p : List Side) → length p ≡ length pins → flipped pins n (flipped pins n p) ≡ p
flip_twice pins n p size = twice_by pins n p (is_free pins n) refl size

back_push : (pins : Pins) (ns : List ℕ) (n : ℕ) (p : List Side) → back pins (ns ++ n ∷ []) p ≡ back pins ns (flipped pins n p)
back_push pins [] n p = refl
back_push pins (m ∷ ns) n p = ap (λ (r : List Side). flipped pins m r) (back_push pins ns n p)

pub put_back : (pins : Pins) (ns ms : List ℕ) (n : ℕ) (p q : List Side) → length p ≡ length pins → ms ≡ ns ++ n ∷ [] → q ≡ flipped pins n p → back pins ms q ≡ back pins ns p
put_back pins ns ms n p q size e f = ap (λ (r : List ℕ). back pins r q) e ∙ back_push pins ns n q ∙ ap (λ (r : List Side). back pins ns (flipped pins n r)) f ∙ ap (λ (r : List Side). back pins ns r) (flip_twice pins n p size)

pub unturn : (pins : Pins) (ts : List ℕ) (k : ℕ) (p : List Side) → 0 < k → k ≤ length ts → back pins (take (k - 1) ts) (flipped pins (slice_index_or ts (k - 1) 0) p) ≡ back pins (take k ts) p
unturn pins ts zero p up low = absurd (omega arith)
unturn pins ts (suc j) p up low =
    let e : suc j - 1 ≡ j = omega arith in
    ap (λ i. back pins (take i ts) (flipped pins (slice_index_or ts i 0) p)) e ∙ sym (back_push pins (take j ts) (slice_index_or ts j 0) p) ∙ ap (λ (r : List ℕ). back pins r p) (sym (take-suc ts j 0 (omega (arith, low))))
