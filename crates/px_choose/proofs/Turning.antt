-- A flip of a free node is a flip in range.
use Rattle.std.proofs.Common.{◌≡◌, ◌≤◌, ◌<◌, ℕ, zero, suc, Bool, true, false, List, length, Option, Some, None, unwrap_or, slice_get, if◌then◌else◌, refl, ap, ⊎_elim, arith}
use Rattle.std.proofs.lemmas.Bool.{eqb-false}
use Rattle.px_code.specs.declared.side.Side.{Side}
use Rattle.px_code.specs.declared.side.Side.TheVariants.{App}
use Rattle.px_code.specs.Places.{other, numbered, side_of}
use Rattle.px_choose.specs.Placements.{is_pin_free, is_free, set_number, flipped, Pins}
use Rattle.px_choose.specs.Gains.{turned}
use Rattle.px_choose.proofs.Numbered.{number_other, number_here, in_get, number_in}
use Rattle.px_choose.proofs.Laws.{IsFlip}

free_some : (o : Option (Option Side)) → is_pin_free o ≡ true → o ≡ Some None
free_some None h = cc
free_some (Some None) h = refl
free_some (Some (Some side)) h = cc

pub free_above : (pins : Pins) (n : ℕ) → is_free pins n ≡ true → 0 < n
free_above pins zero h = cc
free_above pins (suc n) h = omega arith

pub free_below : (pins : Pins) (n : ℕ) → is_free pins n ≡ true → n ≤ length pins
free_below pins zero h = omega arith
free_below pins (suc n) h = let a = in_get pins n None (free_some (slice_get pins n) h) in omega (arith, a)

pub turned_flip : (n : ℕ) (p : List Side) → 0 < n → n ≤ length p → IsFlip n p (turned n p)
turned_flip n p h k = record {
  above = h;
  here = let t = number_in p n h k in ap (λ (o : Option Side). unwrap_or o App) (number_here p n (other (side_of p n)) t.0 t.1);
  off = λ j d. ⊎_elim
      (λ (t : j ≡ n). absurd (eqb-false j n d t))
      (λ (t : numbered (set_number p n (other (side_of p n))) j ≡ numbered p j). ap (λ (o : Option Side). unwrap_or o App) t)
      (number_other p n j (other (side_of p n)));
}

pub flipped_free : (pins : Pins) (n : ℕ) (p : List Side) → is_free pins n ≡ true → flipped pins n p ≡ turned n p
flipped_free pins n p h = ap (λ (b : Bool). if b then turned n p else p) h

pub flipped_fixed : (pins : Pins) (n : ℕ) (p : List Side) → is_free pins n ≡ false → flipped pins n p ≡ p
flipped_fixed pins n p h = ap (λ (b : Bool). if b then turned n p else p) h
