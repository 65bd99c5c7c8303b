-- The active sessions of a history, whose latest event stands first.
use Rattle.std.specs.Prelude.{ℕ, ◌==◌, List, [], ◌∷◌, if◌then◌else◌}
use Rattle.px_history.specs.declared.event.Event.{Event}
use Rattle.px_history.specs.declared.event.Event.TheVariants.{Begin, Op, Die, End, Drop}

abbrev pub without : ℕ → List ℕ → List ℕ
without s [] = []
without s (x ∷ xs) = if x == s then without s xs else x ∷ without s xs

abbrev pub active_after : Event → List ℕ → List ℕ
active_after (Begin s c a) xs = s ∷ xs
active_after (Op s o) xs = xs
active_after (Die s o x) xs = without s xs
active_after (End s d) xs = without s xs
active_after (Drop s) xs = without s xs

-- the sessions that are active, the last that began first
abbrev pub active_in : List Event → List ℕ
active_in [] = []
active_in (e ∷ h) = active_after e (active_in h)
