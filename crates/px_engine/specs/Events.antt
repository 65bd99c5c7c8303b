-- Events with room for more.
use Rattle.std.specs.Prelude.{ℕ, List}
use Rattle.px_history.specs.declared.event.Event.{Event}

-- the events in their order, and how many more take no memory
pub record Events : Type 0 where
  pub events : List Event
  pub spare : ℕ
