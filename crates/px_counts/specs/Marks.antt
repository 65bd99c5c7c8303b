-- What is noted of a run: the parts of the program that were begun and completed, in order.
use Rattle.std.specs.Prelude.{ℕ, ◌+◌, nat_eq, Bool, false, List, [], ◌∷◌, ◌++◌, if◌then◌else◌}
use Rattle.px_value.specs.Outcome.{Outcome, Gives, Throws, Asks, on_shared}
use Rattle.px_effects.specs.Run.{Shared, There, Ask}
use Rattle.px_mean.specs.Run.{Here}

pub data Mark : Type 0 where
  -- the statement or expression of this number
  Begun : (id : ℕ) → Mark
  -- it completed normally (JLS 14.1, 15.6)
  Completed : (id : ℕ) → Mark
  -- the method of this number was entered
  Entered : (method : ℕ) → Mark
  -- its body reached its end
  ReachedEnd : (method : ℕ) → Mark

-- Marks stand beside the world, which the meaning leaves as they are: so they survive a throw.
pub record Marked (W : Type 0) : Type 0 where
  pub world : W
  pub marks : List Mark

abbrev pub marked_ask : {Q W : Type 0} → Ask Q W → Ask Q (Marked W)
marked_ask ask o = λ m. with_marks m.marks (ask o m.world)
  where
    with_marks : {Q W A : Type 0} → List Mark → Outcome Q W A → Outcome Q (Marked W) A
    with_marks marks (Gives a w) = Gives a (record { world = w; marks = marks })
    with_marks marks (Throws t w) = Throws t (record { world = w; marks = marks })
    with_marks marks (Asks q w) = Asks q (record { world = w; marks = marks })

-- one more mark
abbrev pub mark : {Q W : Type 0} → Mark → There Q (Marked W) (Unit {0})
mark m = λ s. Gives tt (record s { world = record s.world { marks = s.world.marks ++ m ∷ [] } })

abbrev pub mark_here : {Q W : Type 0} → Mark → Here Q (Marked W) (Unit {0})
mark_here m = on_shared (mark m)

-- ---- without the marks

abbrev pub unmarked_state : {W : Type 0} → Shared (Marked W) → Shared W
unmarked_state s = record { heap = s.heap; world = s.world.world; prints = s.prints; turns = s.turns; operations = s.operations }

abbrev pub unmarked : {Q W A : Type 0} → Outcome Q (Shared (Marked W)) A → Outcome Q (Shared W) A
unmarked (Gives a s) = Gives a (unmarked_state s)
unmarked (Throws t s) = Throws t (unmarked_state s)
unmarked (Asks q s) = Asks q (unmarked_state s)

-- ---- how often

abbrev pub same_mark : Mark → Mark → Bool
same_mark (Begun a) (Begun b) = nat_eq a b
same_mark (Completed a) (Completed b) = nat_eq a b
same_mark (Entered a) (Entered b) = nat_eq a b
same_mark (ReachedEnd a) (ReachedEnd b) = nat_eq a b
same_mark _ _ = false

abbrev pub times : Mark → List Mark → ℕ
times m [] = 0
times m (x ∷ xs) = if same_mark m x then 1 + times m xs else times m xs
