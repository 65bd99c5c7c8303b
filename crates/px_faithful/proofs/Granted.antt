-- Each legal history has a lock book.
use Rattle.std.proofs.Common.{List, [], ◌∷◌, ◌++◌, refl, inl, inr}
use Rattle.px_locks.specs.declared.want.Grant.{Grant}
use Rattle.px_locks.specs.Locks.{IsIn, IsJoined, granted, without}
use Rattle.px_locks.proofs.In.{in_append}
use Rattle.px_history.specs.declared.event.Event.{Event}
use Rattle.px_history.specs.declared.event.Event.TheVariants.{Begin, Op, Die, End, Drop}
use Rattle.px_history.specs.Attempts.{stamp_of}
use Rattle.px_history.specs.Booked.{IsBooked}
use Rattle.px_history.specs.Legal.{Calls, IsLegal}
use Rattle.px_history.specs.Locking.{LockForm}
use Rattle.px_history.proofs.Apart.{idle_ops}
use Rattle.px_history.proofs.Book.{book_start, book_begin, book_op, book_release}

front : (g : Grant) (xs ys : List Grant) → IsIn g xs → IsIn g (xs ++ ys)
front g [] ys i = absurd i
front g (x ∷ xs) ys i = elim i [ inl q ↦ inl q | inr j ↦ inr (front g xs ys j) ]

back : (g : Grant) (xs ys : List Grant) → IsIn g ys → IsIn g (xs ++ ys)
back g [] ys i = i
back g (x ∷ xs) ys i = inr (back g xs ys i)

joined : (gs more : List Grant) → IsJoined gs more (gs ++ more)
joined gs more = record { either = λ g i. in_append g gs more i; kept = λ g i. front g gs more i; added = λ g i. back g gs more i }

pub grants_of : (job : Calls) (form : LockForm) (h : List Event) → IsLegal job form h → (gs : List Grant) × IsBooked form gs h
grants_of job form [] l = ([], book_start form)
grants_of job form (Begin s c a ∷ h) l = let g = grants_of job form h l.1 in (g.0, book_begin form g.0 h g.1 s c a l.0.idle (idle_ops job form h l.1 s l.0.idle))
grants_of job form (Op s o ∷ h) l =
    let g = grants_of job form h l.1 in
    let more = granted s (stamp_of s h) (form.wants o) in
    (g.0 ++ more, book_op form g.0 (g.0 ++ more) h g.1 s o l.0.active (joined g.0 more))
grants_of job form (Die s o x ∷ h) l = let g = grants_of job form h l.1 in (without s g.0, book_release form g.0 h g.1 (Die s o x) refl)
grants_of job form (End s d ∷ h) l = let g = grants_of job form h l.1 in (without s g.0, book_release form g.0 h g.1 (End s d) refl)
grants_of job form (Drop s ∷ h) l = let g = grants_of job form h l.1 in (without s g.0, book_release form g.0 h g.1 (Drop s) refl)
