-- The meaning of statements, by structure (JLS 14).
use Rattle.std.specs.Prelude.{ℕ, zero, suc, Option, Some, None, option_map, pos, if◌then◌else◌}
use Rattle.px_value.specs.declared.value.Value.{Value}
use Rattle.px_value.specs.declared.value.Value.TheVariants.{Int, Long}
use Rattle.px_value.specs.declared.op.Op.{Op}
use Rattle.px_value.specs.declared.op.Op.TheVariants as op
use Rattle.px_value.specs.declared.thrown.Thrown.TheVariants.{TurnsOut}
unfoldable pub use Rattle.px_value.specs.Limits.{all_turns}
use Rattle.px_value.specs.Operators.{apply}
use Rattle.px_value.specs.Outcome.{Run, ◌>>=◌, pure, throw, on_shared, Flow, Goes, Returns, goes_on, in_order}
use Rattle.px_tree.specs.declared.Expr.{Expr}
use Rattle.px_tree.specs.declared.Stmt.{Stmt, Stmt-F, fold-Stmt}
use Rattle.px_tree.specs.declared.StmtForm.{StmtForm-F}
use Rattle.px_tree.specs.declared.StmtForm.TheOpen.{StmtForm-F as st}
use Rattle.px_facts.specs.declared.types.Ty.{Ty}
use Rattle.px_facts.specs.declared.types.Ty.TheVariants as ty
use Rattle.px_facts.specs.declared.checked.Named.{Named}
use Rattle.px_facts.specs.declared.checked.Named.TheVariants as named
use Rattle.px_facts.specs.declared.checked.Facts.{Facts}
use Rattle.px_mean.specs.Run.{Here, came_to, turn}
use Rattle.px_mean.specs.Facts.{type_at, named_at, op_of}
use Rattle.px_mean.specs.Effects.{print_line}
use Rattle.px_mean.specs.Expressions.{Around, Meant, meant, fit, slot_value, assign_slot, is_true}

-- what a statement does
abbrev pub Does : Type 0 → Type 0 → Type 0
Does Q W = Here Q W (Flow Value)

abbrev pub goes : {Q S A : Type 0} → Run Q S A → Run Q S (Flow Value)
goes r = r >>= (λ _. pure Goes)

-- ---- locals

-- a local has the value of its initialiser (JLS 14.4)
abbrev pub write_local : {Q W : Type 0} → Named → Value → Here Q W (Unit {0})
write_local (named.Local slot) v = assign_slot slot v
write_local _ v = pure tt

-- the value that a local has, then the other operand, then the local has what the operator gives (JLS 15.26.2, 15.14.2)
abbrev pub change_local : {Q W : Type 0} → Named → Op → Here Q W Value → Here Q W (Unit {0})
change_local (named.Local slot) o r = slot_value slot >>= (λ a. r >>= (λ b. came_to (apply o a b) >>= assign_slot slot))
change_local _ o r = pure tt

abbrev pub one : Ty → Value
one ty.Long = Long (pos 1)
one _ = Int (pos 1)

-- ---- loops

-- A loop of at most so many turns. Each test is counted after it was evaluated (JLS 14.12, 14.14.1).
unfoldable pub loop : {Q W : Type 0} → Here Q W Value → Does Q W → ℕ → Does Q W
loop test body zero = test >>= (λ v. on_shared turn >>= (λ _. throw TurnsOut))
loop test body (suc n) = test >>= (λ v. on_shared turn >>= (λ _. if is_true v then body >>= goes_on (loop test body n) else pure Goes))

-- ---- statements

abbrev pub or_goes : {Q W : Type 0} → Option (Does Q W) → Does Q W
or_goes None = pure Goes
or_goes (Some r) = r

-- a value is fitted to the type of the method (JLS 14.17)
abbrev pub returned : {Q W : Type 0} → Ty → Option (Meant Q W) → Does Q W
returned result None = pure (Returns None)
returned result (Some m) = m.run >>= fit m.ty result >>= (λ v. pure (Returns (Some v)))

-- One level of a statement, of what its parts do, by its number. `m` is what an expression means, `result` the type of the method.
abbrev pub stmt_step : {Q W : Type 0} → Facts → (Expr → Meant Q W) → Ty → StmtForm-F (ℕ → Does Q W) (Does Q W) → ℕ → Does Q W
stmt_step F m result (st.Block items) id = in_order items
stmt_step F m result st.Empty id = pure Goes
stmt_step F m result (st.Local t n x) id = goes ((m x).run >>= fit (m x).ty (type_at F id) >>= write_local (named_at F id))
stmt_step F m result (st.Assign place x) id = goes ((m place).put (m x).ty (m x).run)
stmt_step F m result (st.Compound n s x) id = goes (change_local (named_at F id) (op_of s (type_at F id) (m x).ty) (m x).run)
stmt_step F m result (st.Up n) id = goes (change_local (named_at F id) op.Add (pure (one (type_at F id))))
stmt_step F m result (st.Down n) id = goes (change_local (named_at F id) op.Sub (pure (one (type_at F id))))
stmt_step F m result (st.Call x) id = goes (m x).run
-- JLS 14.9
stmt_step F m result (st.If test branch other) id = (m test).run >>= (λ v. if is_true v then branch else or_goes other)
stmt_step F m result (st.While test body) id = loop (m test).run body all_turns
-- JLS 14.14.1
stmt_step F m result (st.For begin test last body) id = begin >>= goes_on (loop (m test).run (body >>= goes_on last) all_turns)
stmt_step F m result (st.Return x) id = returned result (option_map m x)
stmt_step F m result (st.Print x) id = goes ((m x).run >>= (λ v. on_shared (print_line v)))

abbrev pub numbered_statement : {A : Type 0} → Stmt-F (ℕ → A) A → A
numbered_statement x = x.form x.id

unfoldable pub done_by : {Q W : Type 0} → Around Q W → Ty → Stmt → Does Q W
done_by {Q} {W} P result = fold-Stmt (ℕ → Does Q W) (Does Q W) (stmt_step P.facts (meant P) result) numbered_statement
