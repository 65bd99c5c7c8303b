-- Parts of a text.
use Rattle.std.specs.Prelude.{ℕ, ◌-◌, List, take, drop}

-- the bytes of a text between two places
abbrev pub spelled : List ℕ → ℕ → ℕ → List ℕ
spelled bytes from to = take (to - from) (drop from bytes)
