-- What the parts of statements and expressions do.
use Rattle.std.specs.Prelude.{ℕ, Bool, List, Option, Some, None, option_map, slice_set, if◌then◌else◌}
use Rattle.px_value.specs.declared.value.Value.{Value}
use Rattle.px_value.specs.Outcome.{Flow, Goes, ◌>>=◌, pure, on_shared, goes_on}
use Rattle.px_tree.specs.declared.Sign.{Sign}
use Rattle.px_tree.specs.declared.Expr.{Expr}
use Rattle.px_tree.specs.declared.Stmt.{Stmt}
use Rattle.px_facts.specs.declared.checked.Named.{Named}
use Rattle.px_facts.specs.declared.checked.Named.TheVariants as named
use Rattle.px_mean.specs.Run.{turn, came_to}
use Rattle.px_mean.specs.Facts.{type_at, named_at}
use Rattle.px_mean.specs.Effects.{load, store, print_line}
use Rattle.px_mean.specs.Expressions.{fit, put_member, is_true, decides, combined}
use Rattle.px_mean.specs.Statements.{write_local, loop, all_turns, or_goes}
use Rattle.px_plain.specs.declared.around.Around.{Around}
use Rattle.px_plain.specs.View.{Here, Ending, says, does}

abbrev pub Part : Type 0 → Type 0
Part A = Here → Ending Here A

-- ---- expressions

abbrev pub element_value : Around → Expr → Expr → Part Value
element_value a of index = (says a of).run >>= (λ v. (says a index).run >>= (λ k. on_shared (load v k)))

-- what the right operand comes to, behind the value of the left one, whose number is known
abbrev pub operand_value : Around → Sign → ℕ → Expr → Value → Part Value
operand_value a sign left right v = (says a right).run >>= (λ w. came_to (combined sign (type_at a.facts.now left) (says a right).ty v w))

abbrev pub after_left : Around → Sign → ℕ → Expr → Value → Part Value
after_left a sign left right v = if decides sign v then pure v else operand_value a sign left right v

-- the value of an expression, where a value of the type that is known of a number is wanted
abbrev pub value_for : Around → ℕ → Expr → Part Value
value_for a id value = (says a value).run >>= fit (says a value).ty (type_at a.facts.now id)

abbrev pub field_put : Around → Expr → Expr → ℕ → Part (Unit {0})
field_put a of value id = (says a of).run >>= (λ o. (says a value).run >>= fit (says a value).ty (type_at a.facts.now id) >>= put_member (named_at a.facts.now id) o)

abbrev pub element_put : Around → Expr → Expr → Expr → ℕ → Part (Unit {0})
element_put a of index value id = (says a of).run >>= (λ v. (says a index).run >>= (λ k. (says a value).run >>= fit (says a value).ty (type_at a.facts.now id) >>= (λ w. on_shared (store v k w))))

-- ---- statements

-- a local is written
abbrev pub local_written : Named → Value → List Value → List Value
local_written (named.Local slot) v slots = slice_set slots slot v
local_written _ v slots = slots

abbrev pub declared : Around → Expr → ℕ → Part (Unit {0})
declared a value id = (says a value).run >>= fit (says a value).ty (type_at a.facts.now id) >>= write_local (named_at a.facts.now id)

abbrev pub printed : Around → Expr → Part (Unit {0})
printed a value = (says a value).run >>= (λ v. on_shared (print_line v))

abbrev pub evaluated : Around → Expr → Part (Flow Value)
evaluated a e = (says a e).run >>= (λ _. pure Goes)

-- the test of a loop, counted
abbrev pub tested : Around → Expr → Part Bool
tested a test = (says a test).run >>= (λ v. on_shared turn >>= (λ _. pure (is_true v)))

abbrev pub holds : Around → Expr → Part Bool
holds a test = (says a test).run >>= (λ v. pure (is_true v))

abbrev pub chosen : Around → Expr → Stmt → Option Stmt → Part (Flow Value)
chosen a test branch other = (says a test).run >>= (λ v. if is_true v then does a branch else or_goes (option_map (does a) other))

-- the body of a loop, and the last part of a `for`
abbrev pub round : Around → Stmt → Option Stmt → Part (Flow Value)
round a body None = does a body
round a body (Some last) = does a body >>= goes_on (does a last)

abbrev pub then_last : Around → Option Stmt → Part (Flow Value)
then_last a last = or_goes (option_map (does a) last)

abbrev pub loops : Around → Expr → Stmt → Option Stmt → ℕ → Part (Flow Value)
loops a test body last n = loop (says a test).run (round a body last) n

-- what stands before the loop, and then the loop
abbrev pub loops_behind : Around → Option Stmt → Expr → Option Stmt → Stmt → ℕ → Part (Flow Value)
loops_behind a begin test last body n = then_last a begin >>= goes_on (loops a test body last n)

abbrev pub looped : Around → Option Stmt → Expr → Option Stmt → Stmt → Part (Flow Value)
looped a begin test last body = loops_behind a begin test last body all_turns
