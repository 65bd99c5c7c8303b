-- The keys of rows, for look-up.
use Rattle.std.specs.Prelude.{◌≡◌, ℕ, ◌==◌, ℤ, Bool, false, ◌&&◌, ◌||◌, List, Vec}
use Rattle.std.specs.Ordering.{int_eq}
use Rattle.std.specs.Str.{bytes_eq}
use Rattle.std.specs.HashSet.{HashSet, contains_by}
use Rattle.std.specs.declared.alloc.Global.{Global}
use Rattle.px_value.specs.declared.value.Value.{Value}
use Rattle.px_job.specs.Rows.{is_number, is_text, number_stands, text_stands}
use Rattle.px_job.specs.declared.job.Row.{Row}

-- tables with numbers
abbrev pub has_number : {S : Type 0} → HashSet (ℕ × ℤ) S → ℕ → ℤ → Bool
has_number numbers table number = contains_by (λ key. (table == key.0) && int_eq number key.1) numbers

-- tables with texts
abbrev pub has_text : {S : Type 0} → HashSet (ℕ × Vec ℕ Global) S → ℕ → Vec ℕ Global → Bool
has_text texts table text = contains_by (λ key. (table == key.0) && bytes_eq text.items key.1.items) texts

module _ {S T : Type 0} where
  -- no table has a key
  abbrev pub AreNone : HashSet (ℕ × ℤ) S → HashSet (ℕ × Vec ℕ Global) T → Type 0
  AreNone numbers texts =
      ((table : ℕ) (number : ℤ) → has_number numbers table number ≡ false)
      × ((table : ℕ) (text : Vec ℕ Global) → has_text texts table text ≡ false)

  -- the new sets have what the old ones have, and the table with the key of the values
  abbrev pub Adds : HashSet (ℕ × ℤ) S → HashSet (ℕ × Vec ℕ Global) T → HashSet (ℕ × ℤ) S → HashSet (ℕ × Vec ℕ Global) T → ℕ → List Value → Type 0
  Adds old_numbers old_texts numbers texts table values =
      ((t : ℕ) (number : ℤ) → has_number numbers t number ≡ (has_number old_numbers t number || ((table == t) && is_number values number)))
      × ((t : ℕ) (text : Vec ℕ Global) → has_text texts t text ≡ (has_text old_texts t text || ((table == t) && is_text values text.items)))

  -- the sets have each table with each key of its rows, and nothing else
  abbrev pub AreKeys : HashSet (ℕ × ℤ) S → HashSet (ℕ × Vec ℕ Global) T → List Row → Type 0
  AreKeys numbers texts rows =
      ((table : ℕ) (number : ℤ) → has_number numbers table number ≡ number_stands rows table number)
      × ((table : ℕ) (text : Vec ℕ Global) → has_text texts table text ≡ text_stands rows table text.items)
