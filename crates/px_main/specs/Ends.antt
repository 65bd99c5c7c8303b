-- How a command ends.
use Rattle.std.specs.Prelude.{◌≡◌, ◌⊎◌, ℕ, ◌≤◌, List, ◌++◌, length, take, Option, Some, None}
use Rattle.px_outside.specs.Causes.{Rose}
use Rattle.px_main.specs.Answers.{Answer}

-- what a sink took, where it tells: nothing, a front of the text, or all of it
abbrev pub TookNothing : Option (List ℕ) → Option (List ℕ) → Type 0
TookNothing None now = Unit {0}
TookNothing (Some old) now = now ≡ Some old

abbrev pub TookFront : Option (List ℕ) → Option (List ℕ) → List ℕ → Type 0
TookFront None now text = Unit {0}
TookFront (Some old) now text = (k : ℕ) × (k ≤ length text) × (now ≡ Some (old ++ take k text))

abbrev pub TookAll : Option (List ℕ) → Option (List ℕ) → List ℕ → Type 0
TookAll None now text = Unit {0}
TookAll (Some old) now text = now ≡ Some (old ++ text)

-- `Allows` says of an answer that the files allow it, `Fixes` that they fix it, and `FixesStatus` that they fix a status, as far as they are told.
-- s and k are the counts of faults of shelf and sink, before and after; `old` and `now` are what the sink took.
pub record Ends (Allows Fixes : Answer → Type 0) (FixesStatus : ℕ → Type 0) (status s s' k k' : ℕ) (old now : Option (List ℕ)) : Type 0 where
  -- the whole text was taken
  pub done : status ≡ 0 → (text : List ℕ) × Allows (0, text) × TookAll old now text
  -- a file couldn't be read
  pub read : status ≡ 2 → Rose s s' × TookNothing old now
  -- the text couldn't be written
  pub write : status ≡ 3 → Rose k k' × ((text : List ℕ) × Allows (0, text) × TookFront old now text)
  -- there was too little memory
  pub memory : status ≡ 4 → TookNothing old now
  -- the program or the job is refused; where its line couldn't be written the status stays
  pub refused : 5 ≤ status → (text : List ℕ) × Allows (status, text) × (TookAll old now text ⊎ (Rose k k' × TookFront old now text))
  -- where nothing failed the status is the one that the files fix, want of memory aside; a refusal doesn't wait for the sink
  pub complete : ¬ (Rose s s') → (n : ℕ) → FixesStatus n → (¬ (Rose k k') ⊎ (5 ≤ n)) → (status ≡ n) ⊎ (status ≡ 4)
  -- the files fix one answer at most
  pub one : (a b : Answer) → Fixes a → Fixes b → a ≡ b
  pub few : status ≤ 6
