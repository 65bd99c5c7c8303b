-- Paths on which nothing writes the slot.
use Rattle.std.specs.Prelude.{ℕ, Bool, true, false}
use Rattle.px_depend.specs.Flow.{Flow, Empty, Step, Then, Either, Round}

-- a path from the beginning to the end
pub data Passes : Flow → Type 0 where
  empty : Passes Empty
  step : {n : ℕ} {r : Bool} → Passes (Step n r false)
  both : {a b : Flow} → Passes a → Passes b → Passes (Then a b)
  left : {a b : Flow} → Passes a → Passes (Either a b)
  right : {a b : Flow} → Passes b → Passes (Either a b)
  once : {a b : Flow} → Passes a → Passes (Round a b)
  again : {a b : Flow} → Passes a → Passes b → Passes (Round a b) → Passes (Round a b)

-- a path from the beginning to a statement that reads the slot
pub data Arrives (u : ℕ) : Flow → Type 0 where
  here : {w : Bool} → Arrives u (Step u true w)
  first : {a b : Flow} → Arrives u a → Arrives u (Then a b)
  second : {a b : Flow} → Passes a → Arrives u b → Arrives u (Then a b)
  left : {a b : Flow} → Arrives u a → Arrives u (Either a b)
  right : {a b : Flow} → Arrives u b → Arrives u (Either a b)
  begin_of : {a b : Flow} → Arrives u a → Arrives u (Round a b)
  body : {a b : Flow} → Passes a → Arrives u b → Arrives u (Round a b)
  again : {a b : Flow} → Passes a → Passes b → Arrives u (Round a b) → Arrives u (Round a b)

-- a path from a statement that writes the slot to the end
pub data Leaves (d : ℕ) : Flow → Type 0 where
  here : {r : Bool} → Leaves d (Step d r true)
  first : {a b : Flow} → Leaves d a → Passes b → Leaves d (Then a b)
  second : {a b : Flow} → Leaves d b → Leaves d (Then a b)
  left : {a b : Flow} → Leaves d a → Leaves d (Either a b)
  right : {a b : Flow} → Leaves d b → Leaves d (Either a b)
  at_end : {a b : Flow} → Leaves d a → Leaves d (Round a b)
  round : {a b : Flow} → Leaves d a → Passes b → Passes (Round a b) → Leaves d (Round a b)
  body : {a b : Flow} → Leaves d b → Passes (Round a b) → Leaves d (Round a b)

-- a path from a statement that writes the slot to a statement that reads it
pub data Meets (d u : ℕ) : Flow → Type 0 where
  in_first : {a b : Flow} → Meets d u a → Meets d u (Then a b)
  in_second : {a b : Flow} → Meets d u b → Meets d u (Then a b)
  over : {a b : Flow} → Leaves d a → Arrives u b → Meets d u (Then a b)
  in_left : {a b : Flow} → Meets d u a → Meets d u (Either a b)
  in_right : {a b : Flow} → Meets d u b → Meets d u (Either a b)
  in_begin : {a b : Flow} → Meets d u a → Meets d u (Round a b)
  in_body : {a b : Flow} → Meets d u b → Meets d u (Round a b)
  into_body : {a b : Flow} → Leaves d a → Arrives u b → Meets d u (Round a b)
  through_body : {a b : Flow} → Leaves d a → Passes b → Arrives u (Round a b) → Meets d u (Round a b)
  from_body : {a b : Flow} → Leaves d b → Arrives u (Round a b) → Meets d u (Round a b)
