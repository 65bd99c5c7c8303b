-- Statements as they come, and how a value is had in the end.
use Rattle.std.specs.Prelude.{ℕ, ◌+◌, List, [], ◌∷◌, ◌++◌, length, Option, Some, None, slice_get}
use Rattle.px_value.specs.declared.value.Value.TheVariants as value
use Rattle.px_value.specs.declared.op.Op.TheVariants as op
use Rattle.px_lex.specs.declared.token.Token.{Token}
use Rattle.px_facts.specs.declared.types.Ty.{Ty as Static}
use Rattle.px_facts.specs.declared.types.Ty.TheVariants as static
use Rattle.px_facts.specs.declared.checked.Checked.{Checked}
use Rattle.px_normal.specs.declared.ty.Ty.{Ty}
use Rattle.px_normal.specs.declared.ty.Ty.TheVariants as ty
use Rattle.px_normal.specs.declared.word.Operand.{Operand}
use Rattle.px_normal.specs.declared.word.Operand.TheVariants.{Slot, Literal}
use Rattle.px_normal.specs.declared.word.Word.{Word}
use Rattle.px_normal.specs.declared.word.Word.TheVariants as w
use Rattle.px_normal.specs.declared.method.Tree.{Tree}
use Rattle.px_normal.specs.declared.method.Tree.TheVariants.{Do}
use Rattle.px_normal.specs.declared.node.Node.{Node}
use Rattle.px_normal.specs.declared.node.NodeKind.TheVariants as kind
use Rattle.px_normal.specs.declared.node.Counter.{Counter}
use Rattle.px_normal.specs.declared.node.Counter.TheVariants.{Completed}
use Rattle.px_lowering.specs.declared.draft.Draft.{Draft}
use Rattle.px_lowering.specs.declared.valued.Step.{Step}
use Rattle.px_lowering.specs.declared.valued.Step.TheVariants as step
use Rattle.px_lowering.specs.declared.valued.Had.{Had}
use Rattle.px_lowering.specs.declared.valued.Had.TheVariants.{Held, Chosen, Made}
use Rattle.px_lowering.specs.declared.valued.Valued.{Valued}

-- ---- nodes

abbrev pub line_in : Option Token → ℕ
line_in None = 0
line_in (Some token) = token.line

-- the line of a token
abbrev pub line_of : Checked → ℕ → ℕ
line_of P token = line_in (slice_get P.program.tokens token)

-- the node of a normal statement
abbrev pub node_at : Checked → ℕ → ℕ → Counter → Node
node_at P method token counter = record { kind = kind.Normal; line = line_of P token; method = Some method; counter = Some counter }

-- one more node of a statement
abbrev pub noded : Checked → ℕ → Counter → Draft → Draft
noded P token counter o = record o { nodes = o.nodes ++ node_at P o.method token counter ∷ [] }

abbrev pub with_trees : List Tree → Draft → Draft
with_trees trees o = record o { trees = trees }

-- one more statement, and its node
abbrev pub emitted : Checked → Word → ℕ → Counter → Draft → Draft
emitted P word token counter o = record o { trees = o.trees ++ Do (length o.nodes + 1) word ∷ []; nodes = o.nodes ++ node_at P o.method token counter ∷ [] }

-- ---- values

-- an expression that is lowered: its value, and what is lowered so far
pub record Lasted : Type 0 where
  pub out : Draft
  pub value : Valued

pub record Operated : Type 0 where
  pub out : Draft
  pub operand : Operand

pub record Temped : Type 0 where
  pub out : Draft
  pub temp : ℕ

-- the statement that writes this slot
abbrev pub writes : Step → ℕ → Word
writes (step.Op o a b) to = w.Op o to a b
writes (step.Get a class field) to = w.Get to a class field
writes (step.Load a i) to = w.Load to a i
writes (step.Len a) to = w.Len to a
writes (step.New class site) to = w.New to class site
writes (step.Array element n site) to = w.Array to element n site
writes (step.Call a method args) to = w.Call (Some to) a method args
writes (step.Query statement site params) to = w.Query to statement site params
writes (step.Update statement params) to = w.Update to statement params
writes (step.Next a) to = w.Next to a
writes (step.Long a i) to = w.Long to a i
writes (step.Text a i) to = w.Text to a i

-- one more temporary
abbrev pub with_temp : Ty → Draft → Draft
with_temp t o = record o { slots = o.slots ++ t ∷ [] }

-- the value as an operand: a statement writes it into a new temporary
abbrev pub operated : Checked → ℕ → Had → Draft → Operated
operated P token (Held a) o = record { out = o; operand = a }
operated P token (Chosen slot) o = record { out = o; operand = Slot slot }
operated P token (Made s t counter) o = record { out = emitted P (writes s (length o.slots)) token counter (with_temp t o); operand = Slot (length o.slots) }

abbrev pub operand_of : Checked → Lasted → Operated
operand_of P x = operated P x.value.token x.value.had x.out

-- The value in a temporary that may be written again: one that stands elsewhere is copied, for the choice that has this first token.
abbrev pub temped : Checked → ℕ → (id token : ℕ) → Had → Draft → Temped
temped P for id token (Held a) o = record { out = emitted P (w.Set (length o.slots) a) for (Completed id) (with_temp ty.Bool o); temp = length o.slots }
temped P for id token (Chosen slot) o = record { out = o; temp = slot }
temped P for id token (Made s t counter) o = record { out = emitted P (writes s (length o.slots)) token counter (with_temp t o); temp = length o.slots }

abbrev pub temp_of : Checked → ℕ → Lasted → Temped
temp_of P for x = temped P for x.value.id x.value.token x.value.had x.out

-- The value in this slot: its last statement writes it, or it is copied, for what has this first token.
abbrev pub slotted : Checked → ℕ → ℕ → (id token : ℕ) → Had → Draft → Draft
slotted P slot for id token (Held a) o = emitted P (w.Set slot a) for (Completed id) o
slotted P slot for id token (Chosen from) o = emitted P (w.Set slot (Slot from)) for (Completed id) o
slotted P slot for id token (Made s t counter) o = emitted P (writes s slot) token counter o

abbrev pub slot_of : Checked → ℕ → ℕ → Lasted → Draft
slot_of P slot for x = slotted P slot for x.value.id x.value.token x.value.had x.out

-- ---- an int where a long is wanted

abbrev pub widened_operand : (id token : ℕ) → Operated → Lasted
widened_operand id token a = record { out = a.out; value = record { id = id; token = token; had = Made (step.Op op.Widen a.operand None) ty.Long (Completed id) } }

-- a literal is widened here, and any other value by a statement
abbrev pub widened : Checked → (id token : ℕ) → Had → Draft → Lasted
widened P id token (Held (Literal (value.Int n))) o = record { out = o; value = record { id = id; token = token; had = Held (Literal (value.Long n)) } }
widened P id token had o = widened_operand id token (operated P token had o)

abbrev pub fitted : Checked → Static → Static → (id token : ℕ) → Had → Draft → Lasted
fitted P static.Int static.Long id token had o = widened P id token had o
fitted P from to id token had o = record { out = o; value = record { id = id; token = token; had = had } }
