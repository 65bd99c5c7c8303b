-- A machine: a heap, the lines printed, and what goes with control. What its blocks do.
use Rattle.std.specs.Prelude.{ℕ, zero, suc, ◌+◌, ◌-◌, nat_lt, Bool, true, false, ◌&&◌, ◌||◌, List, [], ◌∷◌, ◌++◌, length, map, take, Option, Some, None, unwrap_or, slice_get, slice_set, Ok, Err, if◌then◌else◌}
use Rattle.px_value.specs.declared.value.Value.{Value}
use Rattle.px_value.specs.declared.value.Value.TheVariants.{Null, Ref}
use Rattle.px_value.specs.declared.statement.TableOp.{TableOp}
use Rattle.px_value.specs.declared.thrown.Thrown.{Thrown}
use Rattle.px_value.specs.declared.thrown.Thrown.TheVariants.{TurnsOut, StackOverflowError}
use Rattle.px_value.specs.declared.header.Header.{Header}
use Rattle.px_value.specs.declared.object.Object.{Object}
use Rattle.px_value.specs.Limits.{all_frames}
use Rattle.px_value.specs.Operators.{Applied}
use Rattle.px_blocks.specs.declared.side.Side.{Side}
use Rattle.px_normal.specs.declared.word.Word.{Word}
use Rattle.px_normal.specs.declared.ty.Ty.{Ty}
use Rattle.px_normal.specs.declared.method.Method.{Method}
use Rattle.px_normal.specs.declared.code.Code.{Code}
use Rattle.px_effects.specs.Act.{Place as Cell}
use Rattle.px_blocks.specs.declared.block.Deed.{Deed}
use Rattle.px_blocks.specs.declared.block.Deed.TheVariants as deed
use Rattle.px_blocks.specs.declared.block.Send.{Send}
use Rattle.px_blocks.specs.declared.block.SendKind.{SendKind}
use Rattle.px_blocks.specs.declared.block.SendKind.TheVariants as send
use Rattle.px_blocks.specs.declared.block.Naming.{Naming}
use Rattle.px_blocks.specs.declared.block.Statement.{Statement}
use Rattle.px_blocks.specs.declared.block.Block.{Block}
use Rattle.px_blocks.specs.declared.block.Exit.{Exit}
use Rattle.px_blocks.specs.declared.block.Exit.TheVariants as exit
use Rattle.px_blocks.specs.Sides.{is_app, same, same_cell}
use Rattle.px_normal.specs.First.{Slots, numbered, blank, with_first}
use Rattle.px_effects.specs.Act.{Act, Acted, acted, Landed, landed}
use Rattle.px_effects.specs.Operations.{Acts, Operates, Said, with_said}
use Rattle.px_normal.specs.Words.{Does, Works, Invokes, operand, does_of, answer_of, to_of, is_return, result_of, is_true}
use Rattle.px_effects.specs.Run.{max_turns}
use Rattle.px_normal.specs.Run.{Ran}
use Rattle.px_blocks.specs.Plan.{Plan, firsts_of, home_at}

-- ---- frames, the lowest first

-- a slot knows whether it was written since control came
pub record Slot : Type 0 where
  pub value : Value
  pub written : Bool

-- `back` is the block that ends in the call, or 0 for the frame of the entry and for the lowest one
pub record Frame : Type 0 where
  pub method : ℕ
  pub back : ℕ
  pub slots : List Slot

abbrev pub just_written : Value → Slot
just_written v = record { value = v; written = true }

abbrev pub unwritten : Value → Slot
unwritten v = record { value = v; written = false }

abbrev pub values_in : List Slot → Slots
values_in slots = map (λ (s : Slot). s.value) slots

abbrev pub slots_in : Option Frame → List Slot
slots_in None = []
slots_in (Some frame) = frame.slots

abbrev pub slots_at : List Frame → ℕ → List Slot
slots_at frames f = slots_in (slice_get frames f)

-- the frame that runs
abbrev pub top : List Frame → ℕ
top frames = length frames - 1

abbrev pub with_slot_in : Option Frame → ℕ → Value → List Frame → ℕ → List Frame
with_slot_in None n v frames f = frames
with_slot_in (Some frame) n v frames f = slice_set frames f (record frame { slots = slice_set frame.slots n (just_written v) })

abbrev pub filled : List Frame → ℕ → ℕ → Value → List Frame
filled frames f n v = with_slot_in (slice_get frames f) n v frames f

abbrev pub types_of : Option Method → List Ty
types_of None = []
types_of (Some m) = m.slots

-- The default slots of a method's frame, by its number. Method 0 is that of the lowest frame, with the slot of the reply.
abbrev pub blank_values : Code → ℕ → Slots
blank_values code zero = Null ∷ []
blank_values code (suc n) = blank (types_of (slice_get code.methods n))

-- the first slots of a method's frame, by its number
abbrev pub slots_from : Code → ℕ → List Value → Slots
slots_from code method values = with_first values (blank_values code method)

abbrev pub blank_slots : Code → ℕ → List Slot
blank_slots code method = map unwritten (blank_values code method)

-- the first slots get values
abbrev pub given : List Value → List Slot → List Slot
given [] slots = slots
given (v ∷ vs) [] = []
given (v ∷ vs) (s ∷ slots) = just_written v ∷ given vs slots

abbrev pub entered : Code → ℕ → ℕ → List Value → Frame
entered code method back args = record { method = method; back = back; slots = given args (blank_slots code method) }

-- ---- marks and names

-- a list of cells has the cell
abbrev pub marked : List Cell → ℕ → ℕ → Bool
marked [] o i = false
marked (c ∷ cs) o i = same_cell c.object c.index o i || marked cs o i

-- a send names the cells that are at home at its side, or all
abbrev pub at_home : SendKind → Side → Bool
at_home send.App side = is_app side
at_home send.Db side = if is_app side then false else true
at_home send.Native side = true

abbrev pub names : Plan → Option Header → Naming → ℕ → ℕ → Bool
names plan h n o i = same o n.object && at_home n.kind (home_at plan h i)

abbrev pub named : Plan → Option Header → List Naming → ℕ → ℕ → Bool
named plan h [] o i = false
named plan h (n ∷ ns) o i = names plan h n o i || named plan h ns o i

-- ---- machines

-- What goes with control. `base` is how many of the lowest frames stood when control came and weren't left since; `marks` are the cells written since then, `named` the sends, `known` how many objects the other end has.
pub record Control : Type 0 where
  pub frames : List Frame
  pub base : ℕ
  pub marks : List Cell
  pub named : List Naming
  pub known : ℕ
  pub turns : ℕ

pub record Machine : Type 0 where
  pub heap : List Object
  pub prints : List (List ℕ)
  pub control : Control

abbrev pub values_of : Control → Slots
values_of c = values_in (slots_at c.frames (top c.frames))

abbrev pub with_frames : List Frame → Control → Control
with_frames frames c = record c { frames = frames }

-- a value goes to a slot of a frame, where one gets it
abbrev pub put_in_slot : ℕ → Option ℕ → Value → Control → Control
put_in_slot f (Some n) v c = with_frames (filled c.frames f n v) c
put_in_slot f None v c = c

-- a cell is marked once
abbrev pub with_mark_if : Bool → Cell → List Cell → List Cell
with_mark_if true c marks = marks
with_mark_if false c marks = marks ++ c ∷ []

abbrev pub with_marks : List Cell → List Cell → List Cell
with_marks [] marks = marks
with_marks (c ∷ cs) marks = with_marks cs (with_mark_if (marked marks c.object c.index) c marks)

abbrev pub also_marked : List Cell → Control → Control
also_marked writes c = record c { marks = with_marks writes c.marks }

-- the send behind a statement is done with it
abbrev pub naming : SendKind → Value → List Naming
naming kind (Ref object) = record { kind = kind; object = object } ∷ []
naming kind _ = []

abbrev pub namings : Option Send → Slots → List Naming
namings None slots = []
namings (Some send) slots = naming send.kind (operand slots send.object)

abbrev pub same_kind : SendKind → SendKind → Bool
same_kind send.App send.App = true
same_kind send.Db send.Db = true
same_kind send.Native send.Native = true
same_kind _ _ = false

abbrev pub has_naming : List Naming → SendKind → ℕ → Bool
has_naming [] kind o = false
has_naming (n ∷ ns) kind o = (same_kind kind n.kind && same o n.object) || has_naming ns kind o

-- an object is named once in each way
abbrev pub with_name_if : Bool → Naming → List Naming → List Naming
with_name_if true n ns = ns
with_name_if false n ns = ns ++ n ∷ []

abbrev pub with_names : List Naming → List Naming → List Naming
with_names [] ns = ns
with_names (n ∷ more) ns = with_names more (with_name_if (has_naming ns n.kind n.object) n ns)

abbrev pub sent : Option Send → Control → Control
sent send c = record c { named = with_names (namings send (values_of c)) c.named }

-- ---- numbers by recursion, so that they compute

abbrev pub least : ℕ → ℕ → ℕ
least zero n = zero
least (suc m) zero = zero
least (suc m) (suc n) = suc (least m n)

abbrev pub one_less : ℕ → ℕ
one_less zero = zero
one_less (suc n) = n

-- ---- blocks

abbrev pub block_at : List Block → ℕ → Option Block
block_at blocks n = numbered blocks n

-- the block that comes next: after a call the one behind it
abbrev pub onward : Exit → ℕ
onward exit.Return = 0
onward (exit.Next n) = n
onward (exit.Branch yes' no') = no'
onward (exit.Call entry back) = back

abbrev pub chosen : Exit → Bool → ℕ
chosen (exit.Branch yes' no') b = if b then yes' else no'
chosen e b = onward e

abbrev pub entry_of : Exit → ℕ
entry_of (exit.Call entry back) = entry
entry_of e = 0

-- the last statement, or another where there is none
abbrev pub last_or : Option Statement → List Statement → Option Statement
last_or other [] = other
last_or other (s ∷ rest) = last_or (Some s) rest

-- ---- how a block is left: functions of what goes with control, alone

-- control goes to a block, a throw ends the call, or a statement waits for what is said to its question
pub data How : Type 0 where
  Next : ℕ → How
  Fell : Thrown → How
  Waits : TableOp → Statement → How

pub record Left : Type 0 where
  pub control : Control
  pub how : How

abbrev pub fails : Thrown → Control → Left
fails t c = record { control = c; how = Fell t }

abbrev pub goes : ℕ → Control → Left
goes n c = record { control = c; how = Next n }

abbrev pub turned_if : Bool → (Control → Left) → Control → Left
turned_if true f c = f (record c { turns = c.turns + 1 })
turned_if false f c = fails TurnsOut c

-- a turn is counted, where one is left
abbrev pub turned : (Control → Left) → Control → Left
turned f c = turned_if (nat_lt c.turns max_turns) f c

-- the lowest frame counts as one
abbrev pub max_stack : ℕ
max_stack = suc all_frames

abbrev pub pushed : Code → ℕ → ℕ → List Value → Control → Control
pushed code method back args c = with_frames (c.frames ++ entered code method back args ∷ []) c

abbrev pub pushed_if : Bool → Code → (entry method back : ℕ) → List Value → Control → Left
pushed_if true code entry method back args c = goes entry (pushed code method back args c)
pushed_if false code entry method back args c = fails StackOverflowError c

-- a method is called by block `back`, at its first block
abbrev pub called : Code → (entry method back : ℕ) → List Value → Control → Left
called code entry method back args c = turned (λ d. pushed_if (nat_lt (length d.frames) max_stack) code entry method back args d) c

-- where a frame goes back to: the caller's slot, and the block that comes then; the entry's frame to slot 0 of the lowest frame, and block 0
pub record Back : Type 0 where
  pub to : Option ℕ
  pub next : ℕ

abbrev pub to_of_deed : Deed → Option ℕ
to_of_deed (deed.Does word) = to_of word
to_of_deed _ = None

abbrev pub to_of_last : Option Statement → Option ℕ
to_of_last None = None
to_of_last (Some s) = to_of_deed s.deed

-- the block that ended in the call has both
abbrev pub back_of : Option Block → Back
back_of None = record { to = Some 0; next = 0 }
back_of (Some b) = record { to = to_of_last (last_or None b.statements); next = onward b.exit }

abbrev pub back_in : Option Frame → ℕ
back_in None = 0
back_in (Some frame) = frame.back

-- where the frame that runs goes back to
abbrev pub back_from : List Block → List Frame → Back
back_from blocks frames = back_of (block_at blocks (back_in (slice_get frames (top frames))))

-- the first n frames stay
abbrev pub cut : ℕ → Control → Control
cut n c = record c { frames = take n c.frames; base = least c.base n }

abbrev pub popped : Control → Control
popped c = cut (one_less (length c.frames)) c

-- the slot gets the result, or null where there is none
abbrev pub returns : Back → Option Value → Control → Left
returns back v c = goes back.next (popped (put_in_slot (top c.frames - 1) back.to (unwrap_or v Null) c))

-- the frame that runs is left with a result
abbrev pub left_with : List Block → Option Value → Control → Left
left_with blocks v c = returns (back_from blocks c.frames) v c

-- ---- statements

-- the next statement comes, or the block is left
pub data Stop : Type 0 where
  RunsOn : Stop
  Stops : How → Stop

pub record Stepped : Type 0 where
  pub machine : Machine
  pub ran : List Ran
  pub stop : Stop

abbrev pub ran_of : ℕ → List Cell → List Cell → List Ran
ran_of node reads writes = record { node = node; reads = reads; writes = writes } ∷ []

-- a statement that leaves the block, and has no cells
abbrev pub leaves : ℕ → Machine → Left → Stepped
leaves node m l = record { machine = record m { control = l.control }; ran = ran_of node [] []; stop = Stops l.how }

abbrev pub after_act : Acted → Landed → Machine → Machine
after_act a l m = record { heap = a.heap; prints = l.prints; control = also_marked a.writes m.control }

abbrev pub valued_if : Bool → List Block → Option Send → Word → List Ran → Value → Machine → Stepped
valued_if true blocks send word ran v m = let l = left_with blocks (result_of word v) m.control in record { machine = record m { control = l.control }; ran = ran; stop = Stops l.how }
valued_if false blocks send word ran v m = record { machine = record m { control = sent send (put_in_slot (top m.control.frames) (to_of word) v m.control) }; ran = ran; stop = RunsOn }

-- a statement came to a value, which leaves the frame or goes to a slot, or to a throw
abbrev pub valued : List Block → Option Send → Word → List Ran → Machine → Applied → Stepped
valued blocks send word ran m (Ok v) = valued_if (is_return word) blocks send word ran v m
valued blocks send word ran m (Err t) = record { machine = m; ran = ran; stop = Stops (Fell t) }

abbrev pub step_ends : List Block → ℕ → Option Send → Word → Machine → Acted → Landed → Stepped
step_ends blocks node send word m a l = valued blocks send word (ran_of node a.reads a.writes) (after_act a l m) l.value

abbrev pub step_by : List Block → ℕ → Option Send → Word → Machine → Acted → Stepped
step_by blocks node send word m a = step_ends blocks node send word m a (landed m.prints a.ends)

-- an act of a word, with its send
abbrev pub act_step : Plan → ℕ → Option Send → Word → Machine → Act → Stepped
act_step plan node send word m act = step_by plan.blocks.blocks node send word m (acted (firsts_of plan.code) act m.heap)

-- A statement that waits has done nothing yet.
abbrev pub does_step : Plan → (block : ℕ) → Exit → ℕ → Option Send → Word → Machine → Does → Stepped
does_step plan n e node send word m (Works (Acts act)) = act_step plan node send word m act
does_step plan n e node send word m (Works (Operates op)) = record { machine = m; ran = []; stop = Stops (Waits op (record { node = node; deed = deed.Does word; send = send })) }
does_step plan n e node send word m (Invokes method values) = leaves node m (called plan.code (entry_of e) method n values m.control)

abbrev pub deed_step : Plan → (block : ℕ) → Exit → ℕ → Option Send → Machine → Deed → Stepped
deed_step plan n e node send m (deed.Does word) = does_step plan n e node send word m (does_of plan.code word (values_of m.control))
deed_step plan n e node send m (deed.Chooses a) = leaves node m (goes (chosen e (is_true (operand (values_of m.control) a))) m.control)
deed_step plan n e node send m (deed.Tests a) = leaves node m (turned (goes (chosen e (is_true (operand (values_of m.control) a)))) m.control)

-- a statement of block n, which has this exit
abbrev pub step : Plan → (block : ℕ) → Exit → Statement → Machine → Stepped
step plan n e s m = deed_step plan n e s.node s.send m s.deed

-- the statement that waited goes on with what is said; no other waits
abbrev pub told_step : Plan → ℕ → Option Send → Said → Machine → Deed → Stepped
told_step plan node send said m (deed.Does word) = act_step plan node send word m (with_said (answer_of word) said)
told_step plan node send said m _ = record { machine = m; ran = []; stop = RunsOn }

abbrev pub answered : Plan → Statement → Said → Machine → Stepped
answered plan s said m = told_step plan s.node s.send said m s.deed

abbrev pub also_ran : List Ran → Stepped → Stepped
also_ran ran after = record after { ran = ran ++ after.ran }

abbrev pub then_steps : Stepped → (Machine → Stepped) → Stop → Stepped
then_steps one rest RunsOn = also_ran one.ran (rest one.machine)
then_steps one rest stop = one

-- one after the other, up to one that leaves the block
unfoldable pub steps : Plan → (block : ℕ) → Exit → List Statement → Machine → Stepped
steps plan n e [] m = record { machine = m; ran = []; stop = RunsOn }
steps plan n e (s ∷ rest) m = then_steps (step plan n e s m) (steps plan n e rest) (step plan n e s m).stop

-- ---- a block

pub record Done : Type 0 where
  pub machine : Machine
  pub ran : List Ran
  pub how : How

abbrev pub how_of : Exit → Stop → How
how_of e RunsOn = Next (onward e)
how_of e (Stops how) = how

abbrev pub done : Exit → Stepped → Done
done e s = record { machine = s.machine; ran = s.ran; how = how_of e s.stop }

-- block n on a machine
abbrev pub block_run : Plan → ℕ → Block → Machine → Done
block_run plan n b m = done b.exit (steps plan n b.exit b.statements m)

-- The statement of a block that waited goes on with what is said. It stands last, so the block is left.
abbrev pub block_answered : Plan → Block → Statement → Said → Machine → Done
block_answered plan b s said m = done b.exit (answered plan s said m)

-- ---- where no block is

-- the method ends there, without a statement
abbrev pub end_left : Plan → Machine → Done
end_left plan m = let l = left_with plan.blocks.blocks None m.control in record { machine = record m { control = l.control }; ran = []; how = l.how }

-- the lowest frame alone is left: the call is at its end
abbrev pub is_last : Control → Bool
is_last c = nat_lt (length c.frames) 2
