-- Locks: which modes go together, and what a session that asks is told.
use Rattle.std.specs.Prelude.{◌≡◌, ◌⊎◌, ◌≤◌, ◌<◌, ℕ, ℤ, Bool, true, false, not, ◌==◌, ◌&&◌, ◌||◌, nat_lt, List, [], ◌∷◌, map, filter, Option, Some, None, if◌then◌else◌}
use Rattle.std.specs.Ordering.{int_eq}
use Rattle.px_locks.specs.declared.mode.Mode.{Mode}
use Rattle.px_locks.specs.declared.mode.Mode.TheVariants.{IntentShared, IntentExclusive, Shared, Exclusive}
use Rattle.px_locks.specs.declared.want.Item.{Item}
use Rattle.px_locks.specs.declared.want.Want.{Want}
use Rattle.px_locks.specs.declared.want.Grant.{Grant}
use Rattle.px_locks.specs.declared.book.Asked.{Asked}
use Rattle.px_locks.specs.declared.book.Asked.TheVariants.{Granted, Waits, Dies}

-- the granted wants, and how many more take no memory
pub record Book : Type 0 where
  pub grants : List Grant
  pub spare : ℕ

-- ---- modes and items

-- two sessions may hold an item in these modes
abbrev pub goes_with : Mode → Mode → Bool
goes_with IntentShared Exclusive = false
goes_with IntentShared _ = true
goes_with IntentExclusive IntentShared = true
goes_with IntentExclusive IntentExclusive = true
goes_with Shared IntentShared = true
goes_with Shared Shared = true
goes_with _ _ = false

abbrev pub same_mode : Mode → Mode → Bool
same_mode IntentShared IntentShared = true
same_mode IntentExclusive IntentExclusive = true
same_mode Shared Shared = true
same_mode Exclusive Exclusive = true
same_mode _ _ = false

abbrev pub same_key : Option ℤ → Option ℤ → Bool
same_key (Some x) (Some y) = int_eq x y
same_key (Some x) None = false
same_key None (Some y) = false
same_key None None = true

abbrev pub same_item : Item → Item → Bool
same_item a b = (a.table == b.table) && same_key a.key b.key

abbrev pub same_grant : Grant → Grant → Bool
same_grant a b = (a.session == b.session) && (a.stamp == b.stamp) && same_item a.want.item b.want.item && same_mode a.want.mode b.want.mode

-- ---- conflicts

-- another session holds the item in a mode that doesn't go with the wanted one
abbrev pub is_against : ℕ → Want → Grant → Bool
is_against session want g = not (g.session == session) && same_item g.want.item want.item && not (goes_with g.want.mode want.mode)

-- it is so for one of the wants
abbrev pub is_against_any : ℕ → List Want → Grant → Bool
is_against_any session [] g = false
is_against_any session (w ∷ ws) g = is_against session w g || is_against_any session ws g

-- it stands in the list
abbrev pub IsIn : Grant → List Grant → Type 0
IsIn g [] = ⊥
IsIn g (x ∷ xs) = (x ≡ g) ⊎ IsIn g xs

-- no grant keeps the session from its wants
abbrev pub IsFree : List Grant → ℕ → List Want → Type 0
IsFree grants session wants = (g : Grant) → IsIn g grants → is_against_any session wants g ≡ false

-- a grant of this holder keeps the session from its wants, and of all that do it has the least stamp
pub record IsOldest (grants : List Grant) (session : ℕ) (wants : List Want) (holder : ℕ) (g : Grant) : Type 0 where
  pub stands : IsIn g grants
  pub of_holder : g.session ≡ holder
  pub against : is_against_any session wants g ≡ true
  pub least : (x : Grant) → IsIn x grants → is_against_any session wants x ≡ true → g.stamp ≤ x.stamp

-- what a session is told: it waits for a younger holder and dies of an older one, and is named the oldest
abbrev pub IsTold : List Grant → ℕ → ℕ → List Want → Asked → Type 0
IsTold grants session stamp wants Granted = IsFree grants session wants
IsTold grants session stamp wants (Waits holder) = (g : Grant) × IsOldest grants session wants holder g × (stamp ≤ g.stamp)
IsTold grants session stamp wants (Dies holder) = (g : Grant) × IsOldest grants session wants holder g × (g.stamp < stamp)

-- ---- grants

-- the wants as grants of a session
abbrev pub granted : ℕ → ℕ → List Want → List Grant
granted session stamp wants = map (λ w. record { session = session; stamp = stamp; want = w }) wants

-- the grants of the other sessions
abbrev pub without : ℕ → List Grant → List Grant
without session grants = filter (λ g. not (g.session == session)) grants

-- the grants after are those before and some more, each as often as may be
pub record IsJoined (before more after : List Grant) : Type 0 where
  pub either : (g : Grant) → IsIn g after → IsIn g before ⊎ IsIn g more
  pub kept : (g : Grant) → IsIn g before → IsIn g after
  pub added : (g : Grant) → IsIn g more → IsIn g after

-- ---- a search over all grants

-- the one with the lesser stamp, the earlier one where they are equal
abbrev pub older : Option Grant → Grant → Option Grant
older None g = Some g
older (Some best) g = if nat_lt g.stamp best.stamp then Some g else Some best

-- the oldest of these and of the one before that stands against the want
abbrev pub oldest_at : ℕ → Want → Option Grant → List Grant → Option Grant
oldest_at session want best [] = best
oldest_at session want best (g ∷ gs) = oldest_at session want (if is_against session want g then older best g else best) gs

-- want after want
abbrev pub oldest_from : ℕ → List Want → Option Grant → List Grant → Option Grant
oldest_from session [] best grants = best
oldest_from session (w ∷ ws) best grants = oldest_from session ws (oldest_at session w best grants) grants

abbrev pub stands_in : Grant → List Grant → Bool
stands_in g [] = false
stands_in g (x ∷ xs) = same_grant x g || stands_in g xs
