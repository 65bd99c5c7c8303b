-- What words do on their own.
use Rattle.std.proofs.Common.{◌≡◌, ℕ, nat_lt, Bool, true, false, if◌then◌else◌, List, Option, Some, None, Ok, Err, refl, sym, true≢false}
use Rattle.px_value.specs.declared.value.Value.{Value}
use Rattle.px_value.specs.declared.value.Value.TheVariants.{Ref}
use Rattle.px_value.specs.declared.statement.TableOp.{TableOp}
use Rattle.px_value.specs.Operators.{Applied}
use Rattle.px_value.specs.Outcome.{Outcome, Gives, Throws, Asks, Flow, Goes}
use Rattle.px_normal.specs.declared.word.Word.{Word}
use Rattle.px_normal.specs.declared.word.Word.TheVariants as w
use Rattle.px_normal.specs.declared.code.Code.{Code}
use Rattle.px_normal.specs.First.{Slots}
use Rattle.px_value.specs.declared.answer.Answer.{Answer}
use Rattle.px_value.specs.Outcome.{◌>>=◌, then_run, pure, beside}
use Rattle.px_effects.specs.Run.{Shared, Ask, asked, in_world}
use Rattle.px_effects.specs.Operations.{Work, Acts, Operates, Said, Answers, Out, counted, with_said, max_operations}
use Rattle.px_effects.specs.Act.{Act}
use Rattle.px_normal.specs.Run.{Ran, Traced, Frame as Within, with_ran}
use Rattle.px_normal.specs.Words.{Works, does_of, invokes_on, operand, operands, is_return, result_of, answer_of}
use Rattle.px_normal.specs.CodeRun.{flow_if, ended, act_run, work_run}
use Rattle.px_blocks.specs.Rules.{is_call, is_operation}

-- ---- the work of a statement's own

-- only a return returns, and no turn is made
abbrev pub Settles : {Q W : Type 0} → Word → ℕ → Outcome Q (Within W) (Flow Value) → Type 0
Settles word n (Gives f s) = ((v : Option Value) × (f ≡ flow_if (is_return word) v)) × (s.shared.shared.turns ≡ n)
Settles word n (Throws t s) = Unit {0}
Settles word n (Asks q s) = Unit {0}

ended_settles : (Q : Type 0) {W : Type 0} (word : Word) (slots : Slots) (g : Traced W) (a : Applied) → Settles {Q = Q} word g.shared.turns (ended word slots g a)
ended_settles Q word slots g (Ok v) = ((result_of word v, refl), refl)
ended_settles Q word slots g (Err t) = tt

act_settles : (Q : Type 0) {W : Type 0} (code : Code) (node : ℕ) (word : Word) (act : Act) (s : Within W) → Settles {Q = Q} word s.shared.shared.turns (act_run code node word act s)
act_settles Q code node word act s = ended_settles Q word s.locals _ _

module _ {Q W : Type 0} (code : Code) (ask : Ask Q W) (node : ℕ) (word : Word) (slots : Slots) (ran : List Ran) where
  -- what comes of what is said
  abbrev heard : Outcome Q (Shared W) Said → Outcome Q (Within W) (Flow Value)
  heard o = then_run (beside slots (with_ran ran o)) (λ said. act_run code node word (with_said (answer_of word) said))

  world_settles : (g : Shared W) (o : Outcome Q W Answer) → Settles word g.turns (heard (then_run (in_world g o) (λ answer. pure (Answers answer))))
  world_settles g (Gives answer world) = act_settles Q code node word (answer_of word answer) _
  world_settles g (Throws t world) = tt
  world_settles g (Asks q world) = tt

  told_settles : (op : TableOp) (g : Shared W) (may : Bool) → Settles word g.turns (heard (if may then (asked ask op >>= (λ answer. pure (Answers answer))) (counted g) else Gives Out g))
  told_settles op g true = world_settles (counted g) (ask op g.world)
  told_settles op g false = act_settles Q {W = W} code node word (with_said (answer_of word) Out) (record { locals = slots; shared = record { shared = g; ran = ran } })

pub work_settles : {Q W : Type 0} (code : Code) (ask : Ask Q W) (node : ℕ) (word : Word) (s : Within W) (work : Work) → Settles word s.shared.shared.turns (work_run code ask node word work s)
work_settles {Q = Q} code ask node word s (Acts act) = act_settles Q code node word act s
work_settles code ask node word s (Operates op) = told_settles code ask node word s.locals s.shared.ran op s.shared.shared (nat_lt s.shared.shared.operations max_operations)

pub goes_is : (b : Bool) (v : Option Value) → Goes ≡ flow_if b v → b ≡ false
goes_is true v e = cc
goes_is false v e = refl

-- ---- words that call nothing

pub work_of : (code : Code) (word : Word) (slots : Slots) → is_call word ≡ false → (work : Work) × (does_of code word slots ≡ Works work)
work_of code (w.Set to a) slots e = (_, refl)
work_of code (w.Op op to a b) slots e = (_, refl)
work_of code (w.Get to of class field) slots e = (_, refl)
work_of code (w.Put of class field a) slots e = (_, refl)
work_of code (w.Load to of index) slots e = (_, refl)
work_of code (w.Store of index a) slots e = (_, refl)
work_of code (w.Len to of) slots e = (_, refl)
work_of code (w.New to class site) slots e = (_, refl)
work_of code (w.Array to element size site) slots e = (_, refl)
work_of code (w.Call to of method args) slots e = absurd (true≢false e)
work_of code (w.Query to number site params) slots e = (_, refl)
work_of code (w.Update to number params) slots e = (_, refl)
work_of code (w.Next to of) slots e = (_, refl)
work_of code (w.Long to of index) slots e = (_, refl)
work_of code (w.Text to of index) slots e = (_, refl)
work_of code (w.Print a) slots e = (_, refl)
work_of code (w.Return None) slots e = (_, refl)
work_of code (w.Return (Some a)) slots e = (_, refl)

pub no_call_asks : (word : Word) → is_operation word ≡ true → is_call word ≡ false
no_call_asks (w.Call to of method args) e = absurd (true≢false (sym e))
no_call_asks _ e = refl

-- only an operation asks
invokes_asks : (v : Value) (method : ℕ) (values : List Value) (op : TableOp) → invokes_on v method values ≡ Works (Operates op) → ⊥
invokes_asks (Ref object) method values op e = cc
invokes_asks _ method values op e = cc

pub only_asks : (code : Code) (word : Word) (slots : Slots) (op : TableOp) → does_of code word slots ≡ Works (Operates op) → is_operation word ≡ true
only_asks code (w.Query to number site params) slots op d = refl
only_asks code (w.Update to number params) slots op d = refl
only_asks code (w.Call to of method args) slots op d = absurd (invokes_asks (operand slots of) method (operands slots args) op d)
only_asks code (w.Return None) slots op d = absurd (let x : ⊥ = cc in x)
only_asks code (w.Return (Some a)) slots op d = absurd (let x : ⊥ = cc in x)
only_asks code _ slots op d = absurd (let x : ⊥ = cc in x)
