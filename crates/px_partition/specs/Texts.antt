-- The texts of a profile and of a plan, line by line.
use Rattle.std.specs.Prelude.{ℕ, ◌+◌, List, [], ◌∷◌, ◌++◌, Option, Some, codes, decimal}
use Rattle.px_code.specs.declared.side.Side.{Side}
use Rattle.px_code.specs.declared.side.Side.TheVariants.{App, Db}
use Rattle.px_code.specs.declared.counts.Counts.{Counts}
use Rattle.px_code.specs.Places.{side_of}
use Rattle.px_normal.specs.declared.node.Node.{Node}
use Rattle.px_normal.specs.declared.node.NodeKind.{NodeKind}
use Rattle.px_normal.specs.declared.node.NodeKind.TheVariants as kind
use Rattle.px_normal.specs.declared.code.Code.{Code}
use Rattle.px_normal.specs.First.{numbered}
use Rattle.px_partition.specs.declared.words.NodeWord.{NodeWord}
use Rattle.px_partition.specs.declared.plan.Plan.{Plan}
use Rattle.px_partition.specs.Runs.{told_by}
use Rattle.px_partition.specs.Words.{Words, name, words_of}

-- words with a space before each
abbrev pub spaced : List (List ℕ) → List ℕ
spaced [] = []
spaced (word ∷ words) = 32 ∷ (word ++ spaced words)

-- words with one space between each two, and a line feed
abbrev pub line : List ℕ → List (List ℕ) → List ℕ
line first rest = first ++ spaced rest ++ 10 ∷ []

abbrev pub side_name : Side → List ℕ
side_name App = codes "APP"
side_name Db = codes "DB"

abbrev pub name_or : Option (Option NodeWord) → List ℕ
name_or (Some (Some word)) = name word
name_or _ = []

abbrev pub name_at : Words → ℕ → List ℕ
name_at words node = name_or (numbered words node)

-- ---- profiles: how often each method was entered and each statement ran

abbrev pub count_line : Counts → Words → ℕ → Node → List ℕ
count_line counts words number node = line (decimal number) (decimal (told_by counts node.counter) ∷ decimal node.line ∷ name_at words number ∷ [])

abbrev pub count_by : NodeKind → List ℕ → List ℕ
count_by kind.Method text = text
count_by kind.Normal text = text
count_by _ text = []

-- of the nodes from a number on; fields and sites aren't counted
abbrev pub count_lines : Counts → Words → ℕ → List Node → List ℕ
count_lines counts words number [] = []
count_lines counts words number (node ∷ nodes) = count_by node.kind (count_line counts words number node) ++ count_lines counts words (number + 1) nodes

abbrev pub profile_text : Code → Counts → List ℕ
profile_text code counts = count_lines counts (words_of code) 1 code.nodes

-- ---- plans: what a part costs and loads, and where each node is

abbrev pub sums : Plan → List (List ℕ)
sums plan = codes "cost" ∷ decimal plan.cost ∷ codes "load" ∷ decimal plan.load ∷ codes "app" ∷ decimal plan.app ∷ codes "db" ∷ decimal plan.db ∷ []

abbrev pub part_line : List ℕ → Plan → List ℕ
part_line name plan = line (codes "part") (name ∷ sums plan)

abbrev pub side_line : List Side → Words → ℕ → Node → List ℕ
side_line sides words number node = line (decimal number) (side_name (side_of sides number) ∷ decimal node.line ∷ name_at words number ∷ [])

-- of the nodes from a number on
abbrev pub side_lines : List Side → Words → ℕ → List Node → List ℕ
side_lines sides words number [] = []
side_lines sides words number (node ∷ nodes) = side_line sides words number node ++ side_lines sides words (number + 1) nodes

abbrev pub plan_text : Code → List ℕ → Plan → List ℕ
plan_text code name plan = part_line name plan ++ side_lines plan.placement.sides (words_of code) 1 code.nodes
