-- What the top symbol does with a token.
use Rattle.std.specs.Prelude.{List, ◌++◌}
use Rattle.px_accept.specs.declared.symbol.Symbol.{Symbol}

-- It refuses it, is passed and leaves it to the symbol below, or takes it and leaves symbols in its own place.
pub data Move : Type 0 where
  Refuse Pass : Move
  Push : List Symbol → Move

-- the same, with more symbols behind those that it leaves
abbrev pub before : Move → List Symbol → Move
before (Push xs) more = Push (xs ++ more)
before m more = m
