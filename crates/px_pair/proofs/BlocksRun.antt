-- Blocks that are cut from code run as their code does.
use Rattle.std.proofs.Common.{◌≡◌, ℕ, zero, suc, ◌+◌, ◌≤◌, Bool, true, false, List, [], ◌∷◌, ◌++◌, map, length, drop, Option, Some, slice_get, unwrap_or, refl, sym, ap, subst, ◌∙◌, arith}
use Rattle.std.proofs.lemmas.List.{length-map}
use Rattle.std.specs.List.{AllByRecursion}
use Rattle.px_value.specs.declared.value.Value.{Value}
use Rattle.px_value.specs.declared.value.Value.TheVariants.{Null, Ref}
use Rattle.px_value.specs.declared.ty.Ty.{Ty}
use Rattle.px_value.specs.Defaults.{default_of}
use Rattle.px_value.specs.declared.object.Object.{Object}
use Rattle.px_value.specs.Outcome.{Gives, Throws, Asks}
use Rattle.px_code.specs.declared.side.Side.{Side}
use Rattle.px_code.specs.declared.method.Method.{Method}
use Rattle.px_code.specs.declared.method.Tree.{Tree}
use Rattle.px_code.specs.declared.method.Tree.TheVariants.{Do}
use Rattle.px_code.specs.declared.frame.Slot.{Slot}
use Rattle.px_code.specs.declared.code.Code.{Code}
use Rattle.px_code.specs.declared.block.Block.{Block}
use Rattle.px_code.specs.Act.{Slots}
use Rattle.px_code.specs.CodeRun.{Ran, body_run, leaves_frame, enters, first_slots, method_at, code_run}
use Rattle.px_code.specs.Machine.{Machine, slot_value, value_in, just_written, steps, block_at}
use Rattle.px_code.specs.declared.plan.Plan.{Plan}
use Rattle.px_code.specs.Frames.{blank, entry_slots, types_of}
use Rattle.px_code.specs.Sound.{Finished, Fell, RunsFrom, BlocksRun, entered, first_block}
use Rattle.px_code.specs.Cut.{ends_in_return as block_returns, exit_if, first_of, firsts_from, IsBlock, AreBlocks}
use Rattle.px_code.specs.WellFormed.{ends_in_return}
use Rattle.px_pair.specs.Good.{WritesInside, BlocksRunAsCode}
use Rattle.px_pair.proofs.Good.{exit_at}
use Rattle.px_pair.proofs.BlockRest.{whole, Body, Does, two, begun}
use Rattle.px_pair.proofs.MethodRun.{AreFilled, enter, follow}
use Rattle.px_pair.proofs.MethodStart.{Start, find}

-- ---- a whole call

rest_values : (rest : List Ty) (k : ℕ) → unwrap_or (slice_get (map default_of rest) k) Null ≡ slot_value (slice_get (map (λ t. blank (default_of t)) rest) k)
rest_values [] k = refl
rest_values (t ∷ rest) zero = refl
rest_values (t ∷ rest) (suc k) = rest_values rest k

first_values_are : (args : List Value) (rest : List Ty) (k : ℕ) → unwrap_or (slice_get (args ++ map default_of rest) k) Null ≡ slot_value (slice_get (map just_written args ++ map (λ t. blank (default_of t)) rest) k)
first_values_are [] rest k = rest_values rest k
first_values_are (x ∷ args) rest zero = refl
first_values_are (x ∷ args) rest (suc k) = first_values_are args rest k

entry_length : (args : List Value) (types : List Ty) → length args ≤ length types → length (entry_slots types args) ≡ length types
entry_length [] types h = length-map types (λ t. blank (default_of t))
entry_length (x ∷ args) [] h = absurd (omega (arith, h))
entry_length (x ∷ args) (t ∷ types) h = ap suc (entry_length args types (omega (arith, h)))

all_filled : (code : Code) (sides : List Side) (blocks : List Block) → AllByRecursion (IsBlock code sides) blocks → AreFilled blocks
all_filled code sides [] h = tt
all_filled code sides (b ∷ blocks) h = (h.0.filled, all_filled code sides blocks h.1)

listed : (blocks : List Block) (j : ℕ) (methods : List Method) (k : ℕ) (m : Method) → slice_get methods k ≡ Some m → slice_get (firsts_from j methods blocks) k ≡ Some (first_of (k + j) 1 blocks)
listed blocks j [] k m e = cc
listed blocks j (x ∷ methods) zero m e = ap (λ (i : ℕ). Some (first_of i 1 blocks)) start
  where
    start : j ≡ 0 + j
    start = omega arith
listed blocks j (x ∷ methods) (suc k) m e = listed blocks (j + 1) methods k m e ∙ ap (λ (i : ℕ). Some (first_of i 1 blocks)) shift
  where
    shift : k + (j + 1) ≡ suc k + j
    shift = omega arith

module _ (plan : Plan) (heap : List Object) (number : ℕ) (args : List Value) where
  abbrev all_blocks : List Block
  all_blocks = plan.blocks.blocks

  abbrev begin : Machine
  begin = entered plan.code heap number args

  finish : (n : ℕ) (b : Block) (o : Body) → first_block plan number ≡ n → block_at all_blocks n ≡ Some b → Does all_blocks b (steps b.statements begin) [] o → BlocksRun plan begin number (leaves_frame o)
  finish n b (Gives f s) at is d = record {
    last = d.last;
    runs = subst (λ (rs : List Ran). RunsFrom all_blocks (first_block plan number) begin rs Finished d.last) (sym d.all_is)
        (subst (λ (k : ℕ). RunsFrom all_blocks k begin d.ran Finished d.last) (sym at) (whole all_blocks n b begin d.ran Finished d.last is d.mid));
    heap_is = d.heap_is;
    reply_is = d.reply_is;
  }
  finish n b (Throws t s) at is d = record {
    last = d.last;
    runs = subst (λ (rs : List Ran). RunsFrom all_blocks (first_block plan number) begin rs (Fell t) d.last) (sym d.all_is)
        (subst (λ (k : ℕ). RunsFrom all_blocks k begin d.ran (Fell t) d.last) (sym at) (whole all_blocks n b begin d.ran (Fell t) d.last is d.mid));
    heap_is = d.heap_is;
    reply_is = d.reply_is;
  }
  finish n b (Asks q z) at is d = absurd q

  module _ (are : AreBlocks plan.code plan.placement.sides plan.blocks) where
    exits : (n : ℕ) (b : Block) → block_at all_blocks n ≡ Some b → b.exit ≡ exit_if (block_returns b.statements) (suc n)
    exits zero b is = cc
    exits (suc k) b is = exit_at 1 all_blocks k b are.in_row is ∙ ap (λ (i : ℕ). exit_if (block_returns b.statements) (suc i)) next
      where
        next : k + 1 ≡ suc k
        next = omega arith

    -- what the first block of a method comes to
    record Began (first : ℕ) (body : List Tree) (slots : List Slot) : Type 0 where
      b : Block
      n : ℕ
      first_is : first ≡ n
      is : block_at all_blocks n ≡ Some b
      does : Does all_blocks b (steps b.statements (two number heap slots 0 [] [])) [] (body_run body (begun heap slots []))

    from_start : (first size : ℕ) (body : List Tree) → Start all_blocks first number body → ends_in_return false body ≡ true → WritesInside size body → (slots : List Slot) → length slots ≡ size → Began first body slots
    from_start first size [] s returns inside slots counted = cc
    from_start first size (Do node word ∷ trees) s returns inside slots counted = record {
      b = s.b;
      n = suc s.n;
      first_is = s.first_is;
      is = s.is;
      does = enter all_blocks number size s.tail exits node word trees inside.0 (λ plain. follow all_blocks number size s.tail exits trees (ap (λ (r : Bool). ends_in_return r trees) (sym plain) ∙ returns) inside.1) s.b s.n s.later s.b.statements refl s.full s.is s.lines s.later_is s.filled heap slots 0 [] [] [] counted;
    }

pub start_of : (plan : Plan) (number : ℕ) (m : Method) → AreBlocks plan.code plan.placement.sides plan.blocks → method_at plan.code.methods number ≡ Some m → ends_in_return false m.body ≡ true → Start plan.blocks.blocks (first_block plan number) number m.body
start_of plan zero m are there ends = cc
start_of plan (suc d) m are there ends =
    subst (λ (f : ℕ). Start plan.blocks.blocks f (suc d) m.body) (sym first)
    (find plan.blocks.blocks plan.code.methods plan.blocks.blocks 0 [] (suc d) d 0 m (omega arith) (all_filled plan.code plan.placement.sides plan.blocks.blocks are.each) (λ k. ap (block_at plan.blocks.blocks) (base k)) are.whole there ends)
  where
    base : (k : ℕ) → suc k ≡ suc (k + 0)
    base k = omega arith

    next : d + 1 ≡ suc d
    next = omega arith

    first : first_block plan (suc d) ≡ first_of (suc d) 1 plan.blocks.blocks
    first = ap (λ (firsts : List ℕ). unwrap_or (slice_get firsts d) 0) are.firsts ∙ ap (λ (x : Option ℕ). unwrap_or x 0) (listed plan.blocks.blocks 1 plan.code.methods d m there) ∙ ap (λ (i : ℕ). first_of i 1 plan.blocks.blocks) next

pub blocks_run_as_code : BlocksRunAsCode
unfolding code_run
blocks_run_as_code plan heap number args m are there returns inside room =
    subst (λ (x : Option Method). BlocksRun plan (entered plan.code heap number args) number (enters x (Ref 0 ∷ args) (record { shared = record { heap = heap; world = tt }; ran = [] }))) (sym there)
    (finish plan heap number args began.n began.b (body_run m.body (record { locals = first_slots m.slots (Ref 0 ∷ args); shared = record { shared = record { heap = heap; world = tt }; ran = [] } })) began.first_is began.is
    (subst (λ (ls : Slots). Does plan.blocks.blocks began.b (steps began.b.statements (entered plan.code heap number args)) [] (body_run m.body (record { locals = ls; shared = record { shared = record { heap = heap; world = tt }; ran = [] } }))) (sym locals) began.does))
  where
    slots : List Slot
    slots = entry_slots (types_of (method_at plan.code.methods number)) (Ref 0 ∷ args)

    counted : length slots ≡ length m.slots
    counted = subst (λ (x : Option Method). length (entry_slots (types_of x) (Ref 0 ∷ args)) ≡ length m.slots) (sym there) (entry_length (Ref 0 ∷ args) m.slots (omega (arith, room)))

    locals : first_slots m.slots (Ref 0 ∷ args) ≡ value_in slots
    locals = (λ i k. first_values_are (Ref 0 ∷ args) (drop (length (Ref 0 ∷ args)) m.slots) k i) ∙ ap (λ (x : Option Method). value_in (entry_slots (types_of x) (Ref 0 ∷ args))) (sym there)

    began : Began plan heap number args are (first_block plan number) m.body slots
    began = from_start plan heap number args are (first_block plan number) (length m.slots) m.body (start_of plan number m are there returns) returns inside slots counted
