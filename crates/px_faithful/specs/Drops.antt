-- Calls that were given up.
use Rattle.std.specs.Prelude.{ℕ, Bool, true, false, ◌&&◌, ◌||◌, List, [], ◌∷◌}
use Rattle.px_history.specs.declared.event.Event.{Event}
use Rattle.px_history.specs.declared.event.Event.TheVariants.{Begin, Op, Die, End, Drop}
use Rattle.px_history.specs.Attempts.{is_of}

abbrev pub is_drop : Event → Bool
is_drop (Drop s) = true
is_drop (Begin s c a) = false
is_drop (Op s o) = false
is_drop (Die s o x) = false
is_drop (End s done) = false

-- the session gave a call up
unfoldable pub dropped : ℕ → List Event → Bool
dropped s [] = false
dropped s (e ∷ h) = (is_of s e && is_drop e) || dropped s h
