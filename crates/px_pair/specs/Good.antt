-- When the blocks of a plan are good ones.
use Rattle.std.specs.Prelude.{◌≡◌, ℕ, true, false, List, [], ◌∷◌, length, ◌+◌, ◌<◌, ◌≤◌, Option, Some, None}
use Rattle.std.specs.List.{AllByRecursion}
use Rattle.px_value.specs.declared.value.Value.{Value}
use Rattle.px_value.specs.declared.object.Object.{Object}
use Rattle.px_code.specs.declared.word.Word.{Word}
use Rattle.px_code.specs.declared.method.Method.{Method}
use Rattle.px_code.specs.declared.method.Tree.{Tree}
use Rattle.px_code.specs.declared.method.Tree.TheVariants.{Do}
use Rattle.px_code.specs.declared.code.Code.{Code}
use Rattle.px_code.specs.declared.block.Block.{Block}
use Rattle.px_code.specs.declared.plan.Plan.{Plan}
use Rattle.px_code.specs.Points.{HasStatement}
use Rattle.px_code.specs.Machine.{block_at}
use Rattle.px_code.specs.WellFormed.{ends_in_return}
use Rattle.px_code.specs.Cut.{AreBlocks}
use Rattle.px_code.specs.Law.{HasNoReference, MachineFits}
use Rattle.px_code.specs.Sound.{IsInput, entered, first_block, BlocksRun, run_of}
use Rattle.px_code.specs.CodeRun.{method_at}
use Rattle.px_code.specs.Act.{slot_of}
use Rattle.px_pair.specs.Calls.{AreGoodBlocks}

-- no literal of the code is a reference
abbrev pub HasNoLiteral : Code → Type 0
HasNoLiteral code = (m node : ℕ) (word : Word) → HasStatement code m node word → HasNoReference word

abbrev pub AllReturn : Code → Type 0
AllReturn code = AllByRecursion (λ (m : Method). ends_in_return false m.body ≡ true) code.methods

-- each statement that writes a slot writes one of the first `size`
abbrev pub IsBelowIf : ℕ → Option ℕ → Type 0
IsBelowIf size None = Unit {0}
IsBelowIf size (Some n) = n < size

abbrev pub WritesInside : ℕ → List Tree → Type 0
WritesInside size [] = Unit {0}
WritesInside size (Do node word ∷ trees) = IsBelowIf size (slot_of word) × WritesInside size trees

-- Blocks cut from code without literal references, each method of which ends in a return.
abbrev pub CutIsGood : Type 0
CutIsGood = (plan : Plan) → AreBlocks plan.code plan.placement.sides plan.blocks → HasNoLiteral plan.code → AllReturn plan.code → AreGoodBlocks plan

-- The machine with which a call begins fits its first block.
abbrev pub EntriesFit : Type 0
EntriesFit = (plan : Plan) (heap : List Object) (method : ℕ) (args : List Value) → AreBlocks plan.code plan.placement.sides plan.blocks → IsInput plan.code heap method args → (b : Block) → block_at plan.blocks.blocks (first_block plan method) ≡ Some b → MachineFits plan.code b.method (entered plan.code heap method args)

-- Blocks that are cut from code, one after the other, do what a call of a method does, if it has room for `this` and the arguments.
abbrev pub BlocksRunAsCode : Type 0
BlocksRunAsCode = (plan : Plan) (heap : List Object) (number : ℕ) (args : List Value) (m : Method) → AreBlocks plan.code plan.placement.sides plan.blocks → method_at plan.code.methods number ≡ Some m → ends_in_return false m.body ≡ true → WritesInside (length m.slots) m.body → length args + 1 ≤ length m.slots → BlocksRun plan (entered plan.code heap number args) number (run_of plan.code heap number args)
