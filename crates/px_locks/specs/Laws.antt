-- What holds of the modes and of what a session is told.
use Rattle.std.specs.Prelude.{◌≡◌, ℕ, List}
use Rattle.px_locks.specs.declared.mode.Mode.{Mode}
use Rattle.px_locks.specs.declared.want.Want.{Want}
use Rattle.px_locks.specs.declared.want.Grant.{Grant}
use Rattle.px_locks.specs.declared.book.Asked.{Asked}
use Rattle.px_locks.specs.Locks.{goes_with, IsIn, IsTold}

abbrev pub ModesGoBothWays : Type 0
ModesGoBothWays = (held wanted : Mode) → goes_with held wanted ≡ goes_with wanted held

-- sessions that hold have stamps of their own
abbrev pub HaveOwnStamps : List Grant → Type 0
HaveOwnStamps grants = (g x : Grant) → IsIn g grants → IsIn x grants → g.stamp ≡ x.stamp → g.session ≡ x.session

abbrev pub AnswersAreOne : Type 0
AnswersAreOne = (grants : List Grant) (session stamp : ℕ) (wants : List Want) (one other : Asked) → HaveOwnStamps grants → IsTold grants session stamp wants one → IsTold grants session stamp wants other → one ≡ other
