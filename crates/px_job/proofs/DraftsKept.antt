-- What each line keeps, all lines keep.
use Rattle.std.proofs.Common.{◌≡◌, ℕ, ◌+◌, Bool, true, false, ◌||◌, List, [], ◌∷◌, Option, Some, None, Result, Ok, Err, IfOk, if◌then◌else◌, refl}
use Rattle.px_job.specs.Words.{words_of}
use Rattle.px_job.specs.Rules.{unless}
use Rattle.px_job.specs.Judging.{Against, judged}
use Rattle.px_job.specs.Beyond.{is_beyond, begins_part, beyond_from}
use Rattle.px_job.specs.Jobs.{joined, drafted_from}
use Rattle.px_job.specs.declared.draft.Draft.{Draft}
use Rattle.px_job.specs.declared.job.JobCode.{JobCode}
use Rattle.px_job.specs.declared.job.JobFault.{JobFault}

-- what is made where no rule is broken
pub unless_keeps : {A : Type 0} (P : A → Type 0) (code : Option JobCode) (made : A) → P made → IfOk (unless code made) P
unless_keeps P (Some code) made p = tt
unless_keeps P None made p = p

joined_keeps : (P Q : Draft → Type 0) (number : ℕ) (meaning : Result Draft JobCode) (on : Draft → Result Draft JobFault) → IfOk meaning P → ((next : Draft) → P next → IfOk (on next) Q) → IfOk (joined number meaning on) Q
joined_keeps P Q number (Err code) on p go = tt
joined_keeps P Q number (Ok next) on p go = go next p

pub lines_keep : (by : Against) (P : Draft → Type 0) → ((draft : Draft) (line : List ℕ) → P draft → IfOk (judged by draft line) P) → (number : ℕ) (draft : Draft) (lines : List (List ℕ)) → P draft → IfOk (drafted_from by number draft lines) P
lines_keep by P each number draft [] p = p
lines_keep by P each number draft (line ∷ lines) p = joined_keeps P P number (judged by draft line) (λ so_far. drafted_from by (number + 1) so_far lines) (each draft line p) (λ next q. lines_keep by P each (number + 1) next lines q)

-- ---- lines that two ends take

-- no such line from here on: neither this, nor a later one
pub record NoneBeyond (number : ℕ) (parted : Bool) (line : List ℕ) (lines : List (List ℕ)) : Type 0 where
  pub here : is_beyond parted (words_of line) ≡ false
  pub later : beyond_from (number + 1) (parted || begins_part (words_of line)) lines ≡ None

none_by : (number : ℕ) (rest : Option ℕ) (is : Bool) → (if is then Some number else rest) ≡ None → (is ≡ false) × (rest ≡ None)
none_by number rest true e = absurd (cc e)
none_by number rest false e = (refl, e)

pub none_beyond : (number : ℕ) (parted : Bool) (line : List ℕ) (lines : List (List ℕ)) → beyond_from number parted (line ∷ lines) ≡ None → NoneBeyond number parted line lines
none_beyond number parted line lines e =
    let both = none_by number (beyond_from (number + 1) (parted || begins_part (words_of line)) lines) (is_beyond parted (words_of line)) e in
    record { here = both.0; later = both.1 }

pub taken_keep : (by : Against) (P : Bool → Draft → Type 0) (Q : Draft → Type 0) → ((parted : Bool) (draft : Draft) (line : List ℕ) → P parted draft → is_beyond parted (words_of line) ≡ false → IfOk (judged by draft line) (P (parted || begins_part (words_of line)))) → ((parted : Bool) (draft : Draft) → P parted draft → Q draft) → (number : ℕ) (parted : Bool) (draft : Draft) (lines : List (List ℕ)) → beyond_from number parted lines ≡ None → P parted draft → IfOk (drafted_from by number draft lines) Q
taken_keep by P Q each ends number parted draft [] e p = ends parted draft p
taken_keep by P Q each ends number parted draft (line ∷ lines) e p =
    let none = none_beyond number parted line lines e in
    let after : Bool = parted || begins_part (words_of line) in
    joined_keeps (P after) Q number (judged by draft line) (λ so_far. drafted_from by (number + 1) so_far lines) (each parted draft line p none.here) (λ next q. taken_keep by P Q each ends (number + 1) after next lines none.later q)
