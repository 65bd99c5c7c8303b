-- Where a program text is refused.
use Rattle.std.specs.Prelude.{◌≡◌, ℕ, ◌+◌, ◌<◌, ◌≤◌, ◌⊎◌, List, [], ◌∷◌, ◌++◌, length, take, Option, Some, None}
use Rattle.px_accept.specs.declared.role.Role.{Role}
use Rattle.px_accept.specs.declared.role.Role.TheVariants.{End}
use Rattle.px_accept.specs.declared.symbol.Symbol.{Symbol}
use Rattle.px_accept.specs.Machine.{run, start, nesting, max_nesting}
use Rattle.px_accept.specs.Grammar.{Spelled, Program, BeginsProgram}

-- The nesting at the last of the tokens is above the limit: the machine's sum of the blocks, statements, expressions and
-- prefixes that it stands in, and of the operators, dots and indexes that each of these statements and expressions has had.
pub record IsDeep (ts : List Role) : Type 0 where
  pub stack : List Symbol
  pub runs : run start ts ≡ Some stack
  pub above : max_nesting < nesting stack

-- A program and its end.
pub record IsProgram (ts : List Role) : Type 0 where
  pub program : List Role
  pub same : program ++ End ∷ [] ≡ ts
  pub spelled : Spelled Program program

-- The first k tokens begin a program, and with the next token (place k, counted from 0) none goes on, or it stands too deep.
-- Place `length ts` is that of the end that is missing.
pub record Refused (ts : List Role) (k : ℕ) : Type 0 where
  pub within : k ≤ length ts
  pub front : BeginsProgram (take k ts)
  pub shallow : (j : ℕ) → j ≤ k → IsDeep (take j ts) → ⊥
  pub here : k < length ts → (BeginsProgram (take (k + 1) ts) → ⊥) ⊎ IsDeep (take (k + 1) ts)
  pub unended : k ≡ length ts → IsProgram ts → ⊥

-- A program and its end, in which no token stands too deep.
pub record Accepted (ts : List Role) : Type 0 where
  pub whole : IsProgram ts
  pub shallow : (j : ℕ) → IsDeep (take j ts) → ⊥

-- The place of the first syntax error, or none.
abbrev pub IsPlace : List Role → Option ℕ → Type 0
IsPlace ts None = Accepted ts
IsPlace ts (Some k) = Refused ts k
