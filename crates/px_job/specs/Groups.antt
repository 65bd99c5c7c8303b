-- Nodes by what they have in common.
use Rattle.std.specs.Prelude.{◌≡◌, ℕ, ◌+◌, ◌==◌, nat_eq, unwrap_or, Bool, false, List, [], ◌∷◌, Option, Some, None, if◌then◌else◌}
use Rattle.std.specs.HashMap.{HashMap, get}
use Rattle.px_normal.specs.declared.node.Node.{Node}
use Rattle.px_normal.specs.declared.node.NodeKind.{NodeKind}
use Rattle.px_normal.specs.declared.node.NodeKind.TheVariants as kinds
use Rattle.px_job.specs.Prints.{is_print}
use Rattle.px_job.specs.declared.groups.Key.{Key}
use Rattle.px_job.specs.declared.groups.Key.TheVariants as keys

-- what a node is found by is this
abbrev pub is_key : ℕ → Option ℕ → Bool
is_key key None = false
is_key key (Some found) = found == key

-- the numbers, from one on, of the nodes that are found by this
abbrev pub numbers_at : ℕ → ℕ → List (Option ℕ) → List ℕ
numbers_at key number [] = []
numbers_at key number (found ∷ keys) = if is_key key found then number ∷ numbers_at key (number + 1) keys else numbers_at key (number + 1) keys

-- the line of a statement or a site
abbrev pub line_by : NodeKind → ℕ → Option ℕ
line_by kinds.Normal line = Some line
line_by kinds.Site line = Some line
line_by _ line = None

-- by what a node is found
abbrev pub key_of : Key → Node → Option ℕ
key_of keys.Line node = line_by node.kind node.line
key_of keys.Method node = node.method
key_of keys.All node = Some 0

-- the same of each node from a number on; prints are found by nothing
abbrev pub keys_but_prints : Key → List ℕ → ℕ → List Node → List (Option ℕ)
keys_but_prints key prints number [] = []
keys_but_prints key prints number (node ∷ nodes) = (if is_print prints number then None else key_of key node) ∷ keys_but_prints key prints (number + 1) nodes

-- the map has the nodes of each key
abbrev pub AreGroups : {S : Type 0} → HashMap ℕ (List ℕ) S → List (Option ℕ) → Type 0
AreGroups {S} groups keys = (key : ℕ) → unwrap_or (get nat_eq groups key) [] ≡ numbers_at key 1 keys
