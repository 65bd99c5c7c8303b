-- Placements that keep the pins, and the one that has all free nodes at APP.
use Rattle.std.proofs.Common.{◌≡◌, ℕ, zero, suc, ◌+◌, Bool, true, false, ◌&&◌, List, [], ◌∷◌, length, Option, Some, None, unwrap_or, slice_get, if◌then◌else◌, refl, sym, ap, ◌∙◌, ⊎_elim, arith}
use Rattle.px_code.specs.declared.side.Side.{Side}
use Rattle.px_code.specs.declared.side.Side.TheVariants.{App}
use Rattle.px_code.specs.Places.{numbered, side_of}
use Rattle.px_graph.specs.Loads.{is_db}
use Rattle.px_choose.specs.Placements.{is_pin_free, is_free, set_number, with_side, moved, all_at, Pins}
use Rattle.px_choose.specs.Sums.{free_load_at, free_load_from}
use Rattle.px_choose.proofs.Numbered.{number_length, number_other}

pub record Keeps (pins : Pins) (p : List Side) : Type 0 where
  pub size : length p ≡ length pins
  pub pinned : (n : ℕ) (side : Side) → numbered pins n ≡ Some (Some side) → numbered p n ≡ Some side

keeps_if : (pins : Pins) (n : ℕ) (side : Side) (p : List Side) (b : Bool) → is_free pins n ≡ b → Keeps pins p → Keeps pins (if b then set_number p n side else p)
keeps_if pins n side p false e k = k
keeps_if pins n side p true e k = record {
  size = number_length p n side ∙ k.size;
  pinned = λ m at h. ⊎_elim
      (λ (t : m ≡ n). let x : is_free pins n ≡ false = ap is_pin_free (ap (λ j. numbered pins j) (sym t) ∙ h) in let y : true ≡ false = sym e ∙ x in cc)
      (λ (t : numbered (set_number p n side) m ≡ numbered p m). t ∙ k.pinned m at h)
      (number_other p n m side);
}

pub keeps_side : (pins : Pins) (n : ℕ) (side : Side) (p : List Side) → Keeps pins p → Keeps pins (with_side pins n side p)
keeps_side pins n side p k = keeps_if pins n side p (is_free pins n) refl k

pub keeps_moved : (pins : Pins) (ns : List ℕ) (side : Side) (p : List Side) → Keeps pins p → Keeps pins (moved pins ns side p)
keeps_moved pins [] side p k = k
keeps_moved pins (n ∷ ns) side p k = keeps_moved pins ns side (with_side pins n side p) (keeps_side pins n side p k)

all_length : (side : Side) (pins : Pins) → length (all_at side pins) ≡ length pins
all_length side [] = refl
all_length side (x ∷ pins) = ap suc (all_length side pins)

all_get : (side : Side) (pins : Pins) (n : ℕ) (at : Side) → slice_get pins n ≡ Some (Some at) → slice_get (all_at side pins) n ≡ Some at
all_get side [] n at h = cc
all_get side (x ∷ pins) zero at h = ap (λ (o : Option (Option Side)). Some (unwrap_or (unwrap_or o None) side)) h
all_get side (x ∷ pins) (suc n) at h = all_get side pins n at h

all_numbered : (side : Side) (pins : Pins) (n : ℕ) (at : Side) → numbered pins n ≡ Some (Some at) → numbered (all_at side pins) n ≡ Some at
all_numbered side pins zero at h = cc
all_numbered side pins (suc n) at h = all_get side pins n at h

pub keeps_all : (side : Side) (pins : Pins) → Keeps pins (all_at side pins)
keeps_all side pins = record { size = all_length side pins; pinned = all_numbered side pins }

-- ---- all at APP has no load

app_free : (pins : Pins) (n : ℕ) → slice_get pins n ≡ Some None → slice_get (all_at App pins) n ≡ Some App
app_free [] n h = cc
app_free (x ∷ pins) zero h = ap (λ (o : Option (Option Side)). Some (unwrap_or (unwrap_or o None) App)) h
app_free (x ∷ pins) (suc n) h = app_free pins n h

free_pin : (o : Option (Option Side)) → is_pin_free o ≡ true → o ≡ Some None
free_pin None h = cc
free_pin (Some None) h = refl
free_pin (Some (Some side)) h = cc

no_load : (pins : Pins) (n c : ℕ) (b : Bool) → is_free pins n ≡ b → (if b && is_db (side_of (all_at App pins) n) then c else 0) ≡ 0
no_load pins n c false e = refl
no_load pins zero c true e = refl
no_load pins (suc n) c true e =
    let at : slice_get (all_at App pins) n ≡ Some App = app_free pins n (free_pin (slice_get pins n) e) in
    ap (λ (o : Option Side). if is_db (unwrap_or o App) then c else 0) at

pub no_loads : (n : ℕ) (cs : List ℕ) (pins : Pins) → free_load_from n cs pins (all_at App pins) ≡ 0
no_loads n [] pins = refl
no_loads n (c ∷ cs) pins = let a : free_load_at pins (all_at App pins) n c ≡ 0 = no_load pins n c (is_free pins n) refl in let b = no_loads (n + 1) cs pins in omega (arith, a, b)
