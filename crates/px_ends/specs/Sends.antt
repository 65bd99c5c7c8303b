-- What a side keeps and which sends a plan has, by where operands may lead; and that the run then meets what it must.
use Rattle.std.specs.Prelude.{◌≡◌, ℕ, Bool, true, false, List, Option, Some, None, is_some, slice_get}
use Rattle.std.specs.List.{AllByRecursion}
use Rattle.px_value.specs.declared.value.Value.{Value}
use Rattle.px_value.specs.declared.value.Value.TheVariants.{Ref}
use Rattle.px_value.specs.declared.header.Header.{Header}
use Rattle.px_value.specs.declared.header.Kind.{Kind}
use Rattle.px_value.specs.declared.header.Kind.TheVariants as kind
use Rattle.px_value.specs.declared.object.Object.{Object}
use Rattle.px_blocks.specs.declared.side.Side.{Side}
use Rattle.px_blocks.specs.declared.side.Side.TheVariants.{App, Db}
use Rattle.px_normal.specs.declared.word.Operand.{Operand}
use Rattle.px_normal.specs.declared.word.Operand.TheVariants.{Slot}
use Rattle.px_normal.specs.declared.word.Word.{Word}
use Rattle.px_normal.specs.declared.word.Word.TheVariants as w
use Rattle.px_blocks.specs.declared.block.Deed.{Deed}
use Rattle.px_blocks.specs.declared.block.Deed.TheVariants as deed
use Rattle.px_blocks.specs.declared.block.Send.{Send}
use Rattle.px_blocks.specs.declared.block.SendKind.{SendKind}
use Rattle.px_blocks.specs.declared.block.SendKind.TheVariants as send
use Rattle.px_blocks.specs.declared.block.Statement.{Statement}
use Rattle.px_blocks.specs.declared.block.Block.{Block}
use Rattle.px_blocks.specs.Sides.{other}
use Rattle.px_effects.specs.Act.{header_at}
use Rattle.px_effects.specs.Operations.{Said}
use Rattle.px_normal.specs.Words.{operand, does_of, answer_of}
use Rattle.px_effects.specs.Operations.{with_said}
use Rattle.px_effects.specs.Run.{Ask}
use Rattle.px_blocks.specs.Plan.{Part, Field, Elements, Plan}
use Rattle.px_blocks.specs.Machine.{Control, Machine, values_of}
use Rattle.px_blocks.specs.One.{One}
use Rattle.px_blocks.specs.Rules.{side_of, send_of as send_at, IsCut}
use Rattle.px_blocks.specs.declared.placed.Placed.{Placed}
use Rattle.px_blocks.specs.Has.{HasStatement}
use Rattle.px_ends.specs.Runs.{IsGood, GoodDoes, MeetsRun, GoodRun}

-- the object that a word reads or writes, and the part of it
pub record Reach : Type 0 where
  pub of : Operand
  pub part : Part

abbrev pub read_of : Word → Option Reach
read_of (w.Get to of class field) = Some (record { of = of; part = Field field })
read_of (w.Load to of index) = Some (record { of = of; part = Elements })
read_of (w.Next to of) = Some (record { of = of; part = Elements })
read_of (w.Long to of column) = Some (record { of = of; part = Elements })
read_of (w.Text to of column) = Some (record { of = of; part = Elements })
read_of _ = None

-- a query writes the elements of the object that its own slot then leads to
abbrev pub wrote_of : Word → Option Reach
wrote_of (w.Put of class field a) = Some (record { of = of; part = Field field })
wrote_of (w.Store of index a) = Some (record { of = of; part = Elements })
wrote_of (w.Next to of) = Some (record { of = of; part = Elements })
wrote_of (w.Query to number site params) = Some (record { of = Slot to; part = Elements })
wrote_of _ = None

-- and what it writes before any answer
abbrev pub writes_now : Word → Option Reach
writes_now (w.Query to number site params) = None
writes_now word = wrote_of word

abbrev pub kind_at : Side → SendKind
kind_at App = send.App
kind_at Db = send.Db

-- the send after a write of a field names what is at home where the field is; after another write it names all cells
abbrev pub kind_named : Plan → Word → Reach → ℕ → SendKind
kind_named plan (w.Put of class field a) r site = kind_at (plan.home site r.part)
kind_named plan _ r site = send.Native

abbrev pub send_of : Plan → Word → Reach → ℕ → Send
send_of plan word r site = record { kind = kind_named plan word r site; object = r.of }

abbrev pub is_print : Word → Bool
is_print (w.Print a) = true
is_print _ = false

-- to which sites an operand of the statement may lead
abbrev pub Leads : Type 0
Leads = Operand → ℕ → Bool

-- the word may write objects of the site: those to which the operand may lead; a query writes the one that it makes
abbrev pub MayWrite : Leads → Word → Reach → ℕ → Type 0
MayWrite leads (w.Query to number site params) r s = s ≡ site
MayWrite leads _ r s = leads r.of s ≡ true

-- A word with its send where a plan puts it: its side keeps what it may read; the send names what it may write and the other side keeps; it prints at APP alone.
pub record IsPlaced (plan : Plan) (leads : Leads) (side : Side) (send : Option Send) (word : Word) : Type 0 where
  pub reads : (r : Reach) → read_of word ≡ Some r → (site : ℕ) → leads r.of site ≡ true → plan.keep side site r.part ≡ true
  pub sends : (r : Reach) → wrote_of word ≡ Some r → (site : ℕ) → MayWrite leads word r site → plan.keep (other side) site r.part ≡ true → send ≡ Some (send_of plan word r site)
  pub prints : is_print word ≡ true → side ≡ App

-- ---- in a run

-- an object has fields, or elements
abbrev pub HasPart : Kind → Part → Type 0
HasPart (kind.Object class) (Field f) = Unit {0}
HasPart (kind.Object class) Elements = ⊥
HasPart (kind.Array element) (Field f) = ⊥
HasPart (kind.Array element) Elements = Unit {0}
HasPart (kind.Rows statement) (Field f) = ⊥
HasPart (kind.Rows statement) Elements = Unit {0}

-- a reference leads to an object of a site to which its operand may lead, and that has such a part
abbrev pub LeadsThere : Leads → List Object → Reach → Value → Type 0
LeadsThere leads heap r (Ref o) = (h : Header) → header_at heap o ≡ Some h → (leads r.of h.site ≡ true) × HasPart h.kind r.part
LeadsThere leads heap r v = Unit {0}

abbrev pub IsKeptReceiver : Word → Type 0
IsKeptReceiver (w.Next to of) = of ≡ Slot to → ⊥
IsKeptReceiver word = Unit {0}

-- what is so as a word begins: its receiver leads where points-to says, and the result doesn't overwrite it
pub record IsPointed (leads : Leads) (word : Word) (m : Machine) : Type 0 where
  pub reads : (r : Reach) → read_of word ≡ Some r → LeadsThere leads m.heap r (operand (values_of m.control) r.of)
  pub wrote : (r : Reach) → writes_now word ≡ Some r → LeadsThere leads m.heap r (operand (values_of m.control) r.of)
  pub kept_receiver : IsKeptReceiver word

-- and as it gets its answer: a query's slot is there, and may lead to the site of the query
abbrev pub IsPointedQuery : Leads → Word → Control → Type 0
IsPointedQuery leads (w.Query to number site params) c = (leads (Slot to) site ≡ true) × (is_some (slice_get (values_of c) to) ≡ true)
IsPointedQuery leads word c = Unit {0}

-- so the run meets what it must
abbrev pub PlacedIsGood : Type 0
PlacedIsGood = (plan : Plan) (leads : Leads) (side : Side) (send : Option Send) (word : Word) (m : Machine) → IsPlaced plan leads side send word → IsPointed leads word m → GoodDoes plan side send word m (does_of plan.code word (values_of m.control))

abbrev pub AnsweredIsGood : Type 0
AnsweredIsGood = (plan : Plan) (leads : Leads) (side : Side) (send : Option Send) (word : Word) (said : Said) (m : Machine) → IsPlaced plan leads side send word → IsPointedQuery leads word m.control → IsGood plan side send word (with_said (answer_of word) said) m

-- ---- plans

abbrev pub PlacedDeed : Plan → Leads → Side → Option Send → Deed → Type 0
PlacedDeed plan leads side send (deed.Does word) = IsPlaced plan leads side send word
PlacedDeed plan leads side send _ = Unit {0}

-- each statement of a block is where the plan puts it; by node, where its operands may lead
abbrev pub IsPlacedBlock : Plan → (ℕ → Leads) → Block → Type 0
IsPlacedBlock plan leads b = AllByRecursion (λ (s : Statement). PlacedDeed plan (leads s.node) b.side s.send s.deed) b.statements

abbrev pub IsPlacedPlan : Plan → (ℕ → Leads) → Type 0
IsPlacedPlan plan leads = AllByRecursion (IsPlacedBlock plan leads) plan.blocks.blocks

abbrev pub PointedDeed : Leads → Machine → Deed → Type 0
PointedDeed leads m (deed.Does word) = IsPointed leads word m
PointedDeed leads m _ = Unit {0}

abbrev pub PointedAnswer : Leads → Control → Deed → Type 0
PointedAnswer leads c (deed.Does word) = IsPointedQuery leads word c
PointedAnswer leads c _ = Unit {0}

-- in a run each receiver leads where it may
abbrev pub PointedRun : {Q W : Type 0} → Plan → (ℕ → Leads) → Ask Q W → ℕ → One W → Type 0
PointedRun plan leads = MeetsRun (λ side s m. PointedDeed (leads s.node) m s.deed) (λ side s said m. PointedAnswer (leads s.node) m.control s.deed) plan

-- then it meets what it must, at both ends
abbrev pub PlansAreGood : Type 0 → Type 0 → Type 0
PlansAreGood Q W = (plan : Plan) (leads : ℕ → Leads) (ask : Ask Q W) (n : ℕ) (o : One W) → IsPlacedPlan plan leads → PointedRun plan leads ask n o → GoodRun plan ask n o

-- ---- placed code

-- each statement of the code, at the side of its node and with the send of its node
abbrev pub IsPlacedCode : Plan → Placed → (ℕ → Leads) → Type 0
IsPlacedCode plan placed leads = (m node : ℕ) (d : Deed) → HasStatement plan.code m node d → PlacedDeed plan (leads node) (side_of placed.sides node) (send_at placed.sends node) d

-- the blocks into which placed code is cut are placed
abbrev pub CutIsPlaced : Type 0
CutIsPlaced = (plan : Plan) (placed : Placed) (leads : ℕ → Leads) → IsCut plan.code placed plan.blocks → IsPlacedCode plan placed leads → IsPlacedPlan plan leads

-- ---- by method

-- the same, by where the slots of each method may lead
abbrev pub IsPlacedByMethod : Plan → Placed → (ℕ → Leads) → Type 0
IsPlacedByMethod plan placed leads = (m node : ℕ) (d : Deed) → HasStatement plan.code m node d → PlacedDeed plan (leads m) (side_of placed.sides node) (send_at placed.sends node) d

abbrev pub IsBlockByMethod : Plan → (ℕ → Leads) → Block → Type 0
IsBlockByMethod plan leads b = AllByRecursion (λ (s : Statement). PlacedDeed plan (leads b.method) b.side s.send s.deed) b.statements

abbrev pub CutIsPlacedByMethod : Type 0
CutIsPlacedByMethod = (plan : Plan) (placed : Placed) (leads : ℕ → Leads) → IsCut plan.code placed plan.blocks → IsPlacedByMethod plan placed leads → AllByRecursion (IsBlockByMethod plan leads) plan.blocks.blocks
