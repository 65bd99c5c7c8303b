-- What the rules find in a program, and which of it is the answer.
use Rattle.std.specs.Prelude.{ℕ, ◌+◌, Bool, true, false, ◌&&◌, ◌||◌, List, [], ◌∷◌, Option, Some, None, fold, nat_eq, nat_lt, if◌then◌else◌}
use Rattle.px_type_rules.specs.declared.breach.Breach.{Breach}
use Rattle.px_type_rules.specs.declared.report.Report.{Report}

-- What is found in a part of a program, in the order of the walk: a breach of a rule, by its token and its code, and what is counted
-- over the whole program, by its token.
pub data Note : Type 0 where
  Fault : (token code : ℕ) → Note
  New : (token : ℕ) → Note
  OneMethod : (token : ℕ) → Note

abbrev pub breach_if : Bool → ℕ → ℕ → List Note
breach_if true token code = Fault token code ∷ []
breach_if false token code = []

-- the `new` expressions with the calls of `Db`, and the methods that a program may have
abbrev pub max_news : ℕ
max_news = 10000

abbrev pub max_methods : ℕ
max_methods = 2000

abbrev pub at : ℕ → ℕ → Breach
at token code = record { token = token; code = code }

-- The breaches, behind as many `new` expressions and calls of `Db`, and methods. One that stands behind as many as there may be breaks rule 17.
abbrev pub breaches : ℕ → ℕ → List Note → List Breach
breaches news methods [] = []
breaches news methods (Fault token code ∷ notes) = at token code ∷ breaches news methods notes
breaches news methods (New token ∷ notes) = if nat_lt news max_news then breaches (news + 1) methods notes else at token 17 ∷ breaches news methods notes
breaches news methods (OneMethod token ∷ notes) = if nat_lt methods max_methods then breaches news (methods + 1) notes else at token 17 ∷ breaches news methods notes

-- the first token wins, then the smallest code
abbrev pub is_before : Breach → Breach → Bool
is_before a b = nat_lt a.token b.token || (nat_eq a.token b.token && nat_lt a.code b.code)

abbrev pub lesser : Option Breach → Breach → Option Breach
lesser None b = Some b
lesser (Some a) b = if is_before b a then Some b else Some a

-- the least of these breaches and one more, if there is any
abbrev pub least : Option Breach → List Breach → Option Breach
least first bs = fold lesser first bs

-- ---- the same as the walk goes

abbrev pub with_breach : Report → ℕ → ℕ → Report
with_breach r token code = record r { first = lesser r.first (at token code) }

unfoldable pub noted : Report → Note → Report
noted r (Fault token code) = with_breach r token code
noted r (New token) = if nat_lt r.news max_news then record r { news = r.news + 1 } else with_breach r token 17
noted r (OneMethod token) = if nat_lt r.methods max_methods then record r { methods = r.methods + 1 } else with_breach r token 17

-- a report, behind these notes
abbrev pub after : Report → List Note → Report
after r notes = fold noted r notes
