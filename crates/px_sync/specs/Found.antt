-- What a side keeps and which sends are asked for, by what points-to found.
use Rattle.std.specs.Prelude.{◌≡◌, ℕ, ◌-◌, nat_eq, Bool, true, false, ◌&&◌, ◌||◌, List, [], ◌∷◌, ◌++◌, map, Option, Some, None, slice_set, if◌then◌else◌}
use Rattle.std.specs.List.{list_any}
use Rattle.std.specs.HashSet.{HashSet, contains_by}
use Rattle.px_normal.specs.declared.word.Operand.{Operand}
use Rattle.px_normal.specs.declared.word.Operand.TheVariants.{Slot, Literal}
use Rattle.px_normal.specs.declared.word.Word.{Word}
use Rattle.px_normal.specs.declared.word.Word.TheVariants as w
use Rattle.px_normal.specs.declared.method.Tree.{Tree, Tree-F, fold-Tree}
use Rattle.px_normal.specs.declared.method.Tree.TheOpen.{Tree-F as t}
use Rattle.px_normal.specs.declared.method.Method.{Method}
use Rattle.px_normal.specs.declared.code.Code.{Code}
use Rattle.px_flow_points.specs.declared.part.Part.{Part}
use Rattle.px_flow_points.specs.declared.part.Part.TheVariants.{Field, Elements}
use Rattle.px_flow_points.specs.declared.part.Pair.{Pair}
use Rattle.px_flow_points.specs.declared.pairs.Touch.{Touch}
use Rattle.px_flow_points.specs.ByNode.{Found, pairs_at}
use Rattle.px_blocks.specs.declared.side.Side.{Side}
use Rattle.px_blocks.specs.declared.side.Side.TheVariants.{App, Db}
use Rattle.px_blocks.specs.declared.block.Send.{Send}
use Rattle.px_blocks.specs.declared.block.SendKind.{SendKind}
use Rattle.px_blocks.specs.declared.block.SendKind.TheVariants as kind
use Rattle.px_blocks.specs.Sides.{other, same_side}
use Rattle.px_blocks.specs.Rules.{side_of}
use Rattle.px_sync.specs.Homes.{home, field_home}
use Rattle.px_sync.specs.Sends.{kind_at}
use Rattle.px_sync.specs.declared.sent.Sent.{Sent}

-- ---- what a side keeps

abbrev pub same_part : Part → Part → Bool
same_part (Field a) (Field b) = nat_eq a b
same_part Elements Elements = true
same_part _ _ = false

abbrev pub same_pair : Pair → Pair → Bool
same_pair p q = nat_eq p.site q.site && same_part p.part q.part

abbrev pub has : Pair → List Pair → Bool
has p pairs = list_any (λ q. same_pair q p) pairs

-- the set has these pairs
abbrev pub ArePairs : {S : Type 0} → HashSet Pair S → List Pair → Type 0
ArePairs set pairs = (p : Pair) → contains_by (same_pair p) set ≡ has p pairs

-- the pairs that statements at a side read
abbrev pub read_at : List Side → Side → List Touch → List Pair
read_at sides side [] = []
read_at sides side (t ∷ ts) = if same_side (side_of sides t.node) side then t.pair ∷ read_at sides side ts else read_at sides side ts

-- the pairs that are read at each side
pub record Reads : Type 0 where
  pub app : List Pair
  pub db : List Pair

abbrev pub reads_at : List Side → List Touch → Reads
reads_at sides touches = record { app = read_at sides App touches; db = read_at sides Db touches }

abbrev pub of_side : Reads → Side → List Pair
of_side reads App = reads.app
of_side reads Db = reads.db

abbrev pub keeps : Code → List Side → Reads → Side → Pair → Bool
keeps code sides reads side p = same_side (home code sides p.site p.part) side || has p (of_side reads side)

abbrev pub any_kept : Code → List Side → Reads → Side → List Pair → Bool
any_kept code sides reads side pairs = list_any (keeps code sides reads side) pairs

abbrev pub needs : Code → List Side → Reads → List Touch → ℕ → Bool
needs code sides reads writes node = any_kept code sides reads (other (side_of sides node)) (pairs_at node writes)

-- ---- which sends are asked for

-- a literal leads to no object
abbrev pub sent_of : ℕ → SendKind → Operand → Option Sent
sent_of node k (Slot n) = Some (record { node = node; kind = k; slot = n })
sent_of node k (Literal v) = None

abbrev pub sent_by : Code → List Side → ℕ → Word → Option Sent
sent_by code sides node (w.Put of class field a) = sent_of node (kind_at (field_home code sides class field)) of
sent_by code sides node (w.Store of index a) = sent_of node kind.Native of
sent_by code sides node (w.Next to of) = sent_of node kind.Native of
sent_by code sides node (w.Query to statement site params) = sent_of node kind.Native (Slot to)
sent_by code sides node _ = None

abbrev pub one_if : {A : Type 0} → Option A → List A
one_if None = []
one_if (Some x) = x ∷ []

-- what the sends of statements go by
pub record Placing : Type 0 where
  pub code : Code
  pub sides : List Side
  pub reads : Reads
  pub writes : List Touch

abbrev pub placing : Code → List Side → Reads → Found → Placing
placing code sides reads found = record { code = code; sides = sides; reads = reads; writes = found.writes }

abbrev pub word_sent : Placing → ℕ → Word → List Sent
word_sent P node word = if needs P.code P.sides P.reads P.writes node then one_if (sent_by P.code P.sides node word) else []

abbrev pub flat : List (List Sent) → List Sent
flat [] = []
flat (xs ∷ rest) = xs ++ flat rest

abbrev pub sent_step : Placing → Tree-F (List Sent) → List Sent
sent_step P (t.Do node x) = word_sent P node x
sent_step P (t.If node a yes' no') = flat yes' ++ flat no'
sent_step P (t.Loop before node a body) = flat before ++ flat body

unfoldable pub tree_sent : Placing → Tree → List Sent
tree_sent P = fold-Tree (List Sent) (sent_step P)

abbrev pub trees_sent : Placing → List Tree → List Sent
trees_sent P ts = flat (map (tree_sent P) ts)

abbrev pub methods_sent : Placing → List Method → List Sent
methods_sent P [] = []
methods_sent P (m ∷ ms) = trees_sent P m.body ++ methods_sent P ms

abbrev pub sending : Sent → Send
sending s = record { kind = s.kind; object = Slot s.slot }

-- one send stands after the statement of its node, numbered from 1
abbrev pub with_sent : Sent → List (Option Send) → List (Option Send)
with_sent s sends = if nat_eq s.node 0 then sends else slice_set sends (s.node - 1) (Some (sending s))

abbrev pub with_all : List Sent → List (Option Send) → List (Option Send)
with_all [] sends = sends
with_all (s ∷ rest) sends = with_all rest (with_sent s sends)
