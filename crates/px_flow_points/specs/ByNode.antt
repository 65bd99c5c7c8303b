-- What statements read and write, by their nodes.
use Rattle.std.specs.Prelude.{◌≡◌, ℕ, ◌+◌, nat_eq, unwrap_or, List, [], ◌∷◌, ◌++◌, map, if◌then◌else◌}
use Rattle.std.specs.HashMap.{HashMap, get}
use Rattle.std.specs.declared.cmp.Ordering.{Ordering}
use Rattle.std.specs.Ordering.{nat_cmp, ordering_then}
use Rattle.std.specs.declared.cmp.Ordering.TheVariants.{Less, Equal, Greater}
use Rattle.std.specs.List.Sorted.{IsStrictlySortedBy}
use Rattle.px_constraints.specs.System.{At}
use Rattle.px_normal.specs.declared.word.Word.{Word}
use Rattle.px_normal.specs.declared.method.Tree.{Tree, Tree-F, fold-Tree}
use Rattle.px_normal.specs.declared.method.Tree.TheOpen.{Tree-F as t}
use Rattle.px_normal.specs.declared.method.Method.{Method}
use Rattle.px_normal.specs.declared.code.Code.{Code}
use Rattle.px_flow_points.specs.declared.part.Part.{Part}
use Rattle.px_flow_points.specs.declared.part.Part.TheVariants.{Field, Elements}
use Rattle.px_flow_points.specs.declared.part.Pair.{Pair}
use Rattle.px_flow_points.specs.declared.pairs.Touch.{Touch}
use Rattle.px_flow_points.specs.declared.touched.Access.{Access}
use Rattle.px_flow_points.specs.declared.touched.Access.TheVariants.{Reads, Writes}
use Rattle.px_flow_points.specs.Statements.{HasStatement}
use Rattle.px_flow_points.specs.Points.{ReadsPart, WritesPart}
use Rattle.px_flow_points.specs.Laws.{Both}
use Rattle.px_flow_points.specs.Exact.{PointsOf}
use Rattle.px_flow_points.specs.Touched.{reads_of, writes_of, part_of_word}

-- a statement of the node reads the part
pub record ReadsAt (code : Code) (node s : ℕ) (part : Part) : Type 0 where
  pub method : ℕ
  pub word : Word
  pub has : HasStatement code method node word
  pub reads : ReadsPart code method word s part

-- a statement of the node writes the part
pub record WritesAt (code : Code) (node s : ℕ) (part : Part) : Type 0 where
  pub method : ℕ
  pub word : Word
  pub has : HasStatement code method node word
  pub writes : WritesPart code method word s part

-- ---- lists

abbrev pub pair : ℕ → Part → Pair
pair s part = record { site = s; part = part }

abbrev pub touch : ℕ → Part → ℕ → Touch
touch node part s = record { node = node; pair = pair s part }

-- the pairs of a node
abbrev pub pairs_at : ℕ → List Touch → List Pair
pairs_at node [] = []
pairs_at node (t ∷ ts) = if nat_eq node t.node then t.pair ∷ pairs_at node ts else pairs_at node ts

-- the map has the pairs of each node
abbrev pub AreGroups : {S : Type 0} → HashMap ℕ (List Pair) S → List Touch → Type 0
AreGroups {S} groups touches = (node : ℕ) → unwrap_or (get nat_eq groups node) [] ≡ pairs_at node touches

abbrev pub sites_of : PointsOf → Access → ℕ → Word → List ℕ
sites_of P Reads m word = reads_of P m word
sites_of P Writes m word = writes_of P m word

abbrev pub touches_of : ℕ → Part → List ℕ → List Touch
touches_of node part sites = map (touch node part) sites

abbrev pub word_touches : PointsOf → Access → ℕ → ℕ → Word → List Touch
word_touches P access m node word = touches_of node (part_of_word word) (sites_of P access m word)

abbrev pub flat : List (List Touch) → List Touch
flat [] = []
flat (ts ∷ rest) = ts ++ flat rest

abbrev pub touches_step : PointsOf → Access → ℕ → Tree-F (List Touch) → List Touch
touches_step P access m (t.Do node x) = word_touches P access m node x
touches_step P access m (t.If node a yes' no') = flat yes' ++ flat no'
touches_step P access m (t.Loop before node a body) = flat before ++ flat body

unfoldable pub tree_touches : PointsOf → Access → ℕ → Tree → List Touch
tree_touches P access m = fold-Tree (List Touch) (touches_step P access m)

abbrev pub trees_touches : PointsOf → Access → ℕ → List Tree → List Touch
trees_touches P access m ts = flat (map (tree_touches P access m) ts)

abbrev pub methods_touches : PointsOf → Access → ℕ → List Method → List Touch
methods_touches P access m [] = []
methods_touches P access m (x ∷ xs) = trees_touches P access m x.body ++ methods_touches P access (m + 1) xs

-- ---- order

-- fields by their places, and elements behind them
abbrev pub part_cmp : Part → Part → Ordering
part_cmp (Field a) (Field b) = nat_cmp a b
part_cmp (Field a) Elements = Less
part_cmp Elements (Field b) = Greater
part_cmp Elements Elements = Equal

-- by sites, then by parts
abbrev pub pair_cmp : Pair → Pair → Ordering
pair_cmp a b = ordering_then (nat_cmp a.site b.site) (part_cmp a.part b.part)

abbrev pub touch_cmp : Touch → Touch → Ordering
touch_cmp a b = ordering_then (nat_cmp a.node b.node) (pair_cmp a.pair b.pair)

abbrev pub AreSame : List Touch → List Touch → Type 0
AreSame touches all = (t : Touch) → Both (At all t) (At touches t)

-- the same, in rising order
pub record AreAll (touches all : List Touch) : Type 0 where
  pub same : AreSame touches all
  pub rise : IsStrictlySortedBy touch_cmp all

-- ---- what is kept

pub record Found : Type 0 where
  pub sets : PointsOf
  pub reads : List Touch
  pub writes : List Touch

-- exactly the pairs of each node, in rising order
pub record AreTouched (code : Code) (P : Found) : Type 0 where
  pub reads : (node s : ℕ) (part : Part) → Both (At (pairs_at node P.reads) (pair s part)) (ReadsAt code node s part)
  pub writes : (node s : ℕ) (part : Part) → Both (At (pairs_at node P.writes) (pair s part)) (WritesAt code node s part)
  pub reads_rise : (node : ℕ) → IsStrictlySortedBy pair_cmp (pairs_at node P.reads)
  pub writes_rise : (node : ℕ) → IsStrictlySortedBy pair_cmp (pairs_at node P.writes)
