-- Identifiers with a dot between them.
use Rattle.std.specs.Prelude.{ℕ, ◌+◌, ◌==◌, Bool, false, ◌&&◌, List, take, drop, position, Option, Some, None}
use Rattle.px_lex.specs.Names.{is_identifier}

-- where the first dot stands
unfoldable pub dot_in : List ℕ → Option ℕ
dot_in word = position (λ byte. byte == 46) word

-- a name, a dot at a place, and a name
abbrev pub parted_at : List ℕ → Option ℕ → Bool
parted_at word None = false
parted_at word (Some dot) = is_identifier (take dot word) && is_identifier (drop (dot + 1) word)

-- two names with a dot between them
abbrev pub is_dotted : List ℕ → Bool
is_dotted word = parted_at word (dot_in word)
