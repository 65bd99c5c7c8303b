-- The meaning of normal statements, by structure, with what each statement read and wrote.
use Rattle.std.specs.Prelude.{ℕ, zero, suc, Bool, true, false, List, [], ◌∷◌, map, Option, Some, None, unwrap_or, Ok, Err, if◌then◌else◌}
use Rattle.px_value.specs.declared.value.Value.{Value}
use Rattle.px_value.specs.declared.value.Value.TheVariants.{Null, Ref}
use Rattle.px_value.specs.declared.object.Object.{Object}
use Rattle.px_value.specs.declared.thrown.Thrown.TheVariants.{TurnsOut, StackOverflowError}
unfoldable pub use Rattle.px_value.specs.Limits.{all_turns, all_frames}
use Rattle.px_value.specs.Operators.{Applied}
use Rattle.px_value.specs.Outcome.{Outcome, Gives, Throws, Asks, then_run, ◌>>=◌, pure, throw, beside, on_shared, Flow, Goes, Returns, goes_on, in_order}
use Rattle.px_effects.specs.Run.{Ask, turn}
use Rattle.px_effects.specs.Act.{Act, Acted, acted, Landed, landed, left}
use Rattle.px_effects.specs.Cells.{first_cells}
use Rattle.px_effects.specs.Operations.{Work, Acts, Operates, told, with_said}
use Rattle.px_normal.specs.declared.word.Operand.{Operand}
use Rattle.px_normal.specs.declared.word.Word.{Word}
use Rattle.px_normal.specs.declared.method.Method.{Method}
use Rattle.px_normal.specs.declared.method.Tree.{Tree, Tree-F, fold-Tree}
use Rattle.px_normal.specs.declared.method.Tree.TheOpen.{Tree-F as t}
use Rattle.px_normal.specs.declared.code.Code.{Code}
use Rattle.px_normal.specs.First.{Slots, numbered, fresh_of, first_slots}
use Rattle.px_normal.specs.Run.{Traced, Frame, Here, There, on_traced, noted}
use Rattle.px_normal.specs.Words.{Does, Works, Invokes, operand, does_of, answer_of, to_of, with_slot, is_return, result_of, is_true}

-- ---- work of a statement's own

abbrev pub flow_if : Bool → Option Value → Flow Value
flow_if true v = Returns v
flow_if false v = Goes

-- a statement came to a value or a throw
abbrev pub ended : {Q W : Type 0} → Word → Slots → Traced W → Applied → Outcome Q (Frame W) (Flow Value)
ended word slots g (Ok v) = Gives (flow_if (is_return word) (result_of word v)) (record { locals = with_slot (to_of word) v slots; shared = g })
ended word slots g (Err t) = Throws t (record { locals = slots; shared = g })

abbrev pub after_act : {W : Type 0} → ℕ → Acted → Landed → Traced W → Traced W
after_act node a l g = noted node a.reads a.writes (record g { shared = left g.shared a l })

abbrev pub act_ends : {Q W : Type 0} → ℕ → Word → Slots → Traced W → Acted → Landed → Outcome Q (Frame W) (Flow Value)
act_ends node word slots g a l = ended word slots (after_act node a l g) l.value

abbrev pub acted_run : {Q W : Type 0} → ℕ → Word → Slots → Traced W → Acted → Outcome Q (Frame W) (Flow Value)
acted_run node word slots g a = act_ends node word slots g a (landed g.shared.prints a.ends)

-- a statement is noted with all that it did
abbrev pub act_run : {Q W : Type 0} → Code → ℕ → Word → Act → Here Q W (Flow Value)
act_run code node word act = λ s. acted_run node word s.locals s.shared (acted (first_cells (fresh_of code)) act s.shared.shared.heap)

-- A statement that asks is noted when the answer is there.
abbrev pub work_run : {Q W : Type 0} → Code → Ask Q W → ℕ → Word → Work → Here Q W (Flow Value)
work_run code ask node word (Acts act) = act_run code node word act
work_run code ask node word (Operates o) = on_shared (on_traced (told ask o)) >>= (λ said. act_run code node word (with_said (answer_of word) said))

-- ---- calls

-- what a call of a method does, of `this` and the arguments
abbrev pub Calls : Type 0 → Type 0 → Type 0
Calls Q W = ℕ → List Value → There Q W (Option Value)

-- the caller goes on; its slot has the result, or null where there is none
abbrev pub comes_back : {Q W : Type 0} → Option ℕ → Slots → Outcome Q (Traced W) (Option Value) → Outcome Q (Frame W) (Flow Value)
comes_back to slots (Gives v g) = Gives Goes (record { locals = with_slot to (unwrap_or v Null) slots; shared = g })
comes_back to slots (Throws t g) = Throws t (record { locals = slots; shared = g })
comes_back to slots (Asks q g) = Asks q (record { locals = slots; shared = g })

-- a call is noted and counted, and then the method runs
abbrev pub call_run : {Q W : Type 0} → Calls Q W → ℕ → Word → ℕ → List Value → Here Q W (Flow Value)
call_run calls node word method values = λ s. comes_back (to_of word) s.locals (then_run (on_traced turn (noted node [] [] s.shared)) (λ _. calls method values))

-- ---- statements

abbrev pub does_run : {Q W : Type 0} → Code → Ask Q W → Calls Q W → ℕ → Word → Does → Here Q W (Flow Value)
does_run code ask calls node word (Works work) = work_run code ask node word work
does_run code ask calls node word (Invokes method values) = call_run calls node word method values

abbrev pub word_run : {Q W : Type 0} → Code → Ask Q W → Calls Q W → ℕ → Word → Here Q W (Flow Value)
word_run code ask calls node word = λ s. does_run code ask calls node word (does_of code word s.locals) s

-- a test is noted, and has no cells
abbrev pub tested : {Q W : Type 0} → ℕ → Operand → Here Q W Value
tested node a = λ s. Gives (operand s.locals a) (record s { shared = noted node [] [] s.shared })

-- A loop of at most so many turns: what stands before the test, the test, the turn, and then the body.
unfoldable pub loop : {Q W : Type 0} → Here Q W (Flow Value) → Here Q W Value → Here Q W (Flow Value) → ℕ → Here Q W (Flow Value)
loop first test body zero = first >>= goes_on (test >>= (λ v. on_shared (on_traced turn) >>= (λ _. throw TurnsOut)))
loop first test body (suc n) = first >>= goes_on (test >>= (λ v. on_shared (on_traced turn) >>= (λ _. if is_true v then body >>= goes_on (loop first test body n) else pure Goes)))

-- one level of a tree of statements, of the runs of its parts
abbrev pub tree_step : {Q W : Type 0} → Code → Ask Q W → Calls Q W → Tree-F (Here Q W (Flow Value)) → Here Q W (Flow Value)
tree_step code ask calls (t.Do node word) = word_run code ask calls node word
tree_step code ask calls (t.If node a yes' no') = tested node a >>= (λ v. if is_true v then in_order yes' else in_order no')
tree_step code ask calls (t.Loop first node a body) = loop (in_order first) (tested node a) (in_order body) all_turns

unfoldable pub tree_run : {Q W : Type 0} → Code → Ask Q W → Calls Q W → Tree → Here Q W (Flow Value)
tree_run {Q} {W} code ask calls = fold-Tree (Here Q W (Flow Value)) (tree_step code ask calls)

abbrev pub body_run : {Q W : Type 0} → Code → Ask Q W → Calls Q W → List Tree → Here Q W (Flow Value)
body_run code ask calls trees = in_order (map (tree_run code ask calls) trees)

-- ---- frames

abbrev pub flow_result : Flow Value → Option Value
flow_result Goes = None
flow_result (Returns v) = v

-- a method's frame is gone at its end, however it ends
abbrev pub leaves_frame : {Q W : Type 0} → Outcome Q (Frame W) (Flow Value) → Outcome Q (Traced W) (Option Value)
leaves_frame (Gives f s) = Gives (flow_result f) s.shared
leaves_frame (Throws t s) = Throws t s.shared
leaves_frame (Asks q s) = Asks q s.shared

-- a method that isn't there does nothing
abbrev pub enters : {Q W : Type 0} → Code → Ask Q W → Calls Q W → Option Method → List Value → There Q W (Option Value)
enters code ask calls None values = pure None
enters code ask calls (Some m) values = λ g. leaves_frame (body_run code ask calls m.body (record { locals = first_slots m values; shared = g }))

-- calls with at most so many frames
unfoldable pub calls_in : {Q W : Type 0} → Code → Ask Q W → ℕ → Calls Q W
calls_in code ask zero method values = throw StackOverflowError
calls_in code ask (suc n) method values = enters code ask (calls_in code ask n) (numbered code.methods method) values

abbrev pub starts : {W : Type 0} → List Object → W → Traced W
starts heap world = record { shared = record { heap = heap; world = world; prints = []; turns = 0; operations = 0 }; ran = [] }

-- the run of a method as an entry: object 0 of the heap is `this`
abbrev pub code_run : {Q W : Type 0} → Code → Ask Q W → List Object → W → ℕ → List Value → Outcome Q (Traced W) (Option Value)
code_run code ask heap world method args = calls_in code ask all_frames method (Ref 0 ∷ args) (starts heap world)
