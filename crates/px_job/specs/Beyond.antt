-- Lines of a job that two ends don't take yet.
use Rattle.std.specs.Prelude.{ℕ, ◌+◌, ◌==◌, Bool, true, false, not, ◌||◌, List, [], ◌∷◌, Option, Some, None, if◌then◌else◌}
use Rattle.px_job.specs.Words.{words_of}
use Rattle.px_job.specs.Numbers.{number}
use Rattle.px_job.specs.Verbs.{verb_of}
use Rattle.px_job.specs.Parts.{has_budget}
use Rattle.px_job.specs.declared.settings.Setting.TheVariants.{Sessions}
use Rattle.px_job.specs.declared.verbs.Verb.{Verb}
use Rattle.px_job.specs.declared.verbs.Verb.TheVariants as verbs

-- more sessions than one
abbrev pub sets_more : List (List ℕ) → Bool
sets_more [] = false
sets_more (word ∷ words) = not (number word == 1)

-- the words behind the first, behind the line of a part or not
abbrev pub beyond_by : Bool → Option Verb → List (List ℕ) → Bool
beyond_by parted (Some (verbs.Set Sessions)) words = sets_more words
beyond_by parted (Some verbs.Load) words = true
beyond_by parted (Some verbs.Order) words = true
beyond_by parted (Some verbs.Part) words = parted || has_budget words
beyond_by parted _ words = false

abbrev pub is_beyond : Bool → List (List ℕ) → Bool
is_beyond parted [] = false
is_beyond parted (verb ∷ words) = beyond_by parted (verb_of verb) words

abbrev pub is_part_verb : Option Verb → Bool
is_part_verb (Some verbs.Part) = true
is_part_verb _ = false

abbrev pub begins_part : List (List ℕ) → Bool
begins_part [] = false
begins_part (verb ∷ words) = is_part_verb (verb_of verb)

-- the first such line, from a number on, behind the line of a part or not
abbrev pub beyond_from : ℕ → Bool → List (List ℕ) → Option ℕ
beyond_from number parted [] = None
beyond_from number parted (line ∷ lines) = if is_beyond parted (words_of line) then Some number else beyond_from (number + 1) (parted || begins_part (words_of line)) lines

-- ---- parts with a budget

abbrev pub budgets_by : Option Verb → List (List ℕ) → Bool
budgets_by (Some verbs.Part) words = has_budget words
budgets_by _ words = false

abbrev pub sets_budget : List (List ℕ) → Bool
sets_budget [] = false
sets_budget (verb ∷ words) = budgets_by (verb_of verb) words

-- the first such line, from a number on
abbrev pub budget_from : ℕ → List (List ℕ) → Option ℕ
budget_from number [] = None
budget_from number (line ∷ lines) = if sets_budget (words_of line) then Some number else budget_from (number + 1) lines
