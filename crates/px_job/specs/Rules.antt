-- The rules of a line, and the code that it has.
use Rattle.std.specs.Prelude.{Bool, not, List, [], ◌∷◌, Option, Some, None, Result, Ok, Err, if◌then◌else◌}
use Rattle.std.specs.Option.{is_some}
use Rattle.px_job.specs.declared.job.JobCode.{JobCode}

-- whether a rule is broken, and its code
abbrev pub Rule : Type 0
Rule = Bool × JobCode

-- the code of the first rule that is broken; rules stand in the order of their codes, so it is the least
abbrev pub least_code : List Rule → Option JobCode
least_code [] = None
least_code (rule ∷ rules) = if rule.0 then Some rule.1 else least_code rules

-- what a rule asks for isn't there
abbrev pub is_absent : {A : Type 0} → Option A → Bool
is_absent found = not (is_some found)

-- what is made where no rule is broken
abbrev pub unless : {A : Type 0} → Option JobCode → A → Result A JobCode
unless (Some code) made = Err code
unless None made = Ok made
