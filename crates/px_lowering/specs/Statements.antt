-- Statements.
use Rattle.std.specs.Prelude.{ℕ, ◌+◌, Bool, true, false, ◌||◌, List, [], ◌∷◌, ◌++◌, length, Option, Some, None, option_map}
use Rattle.px_value.specs.declared.op.Op.{Op}
use Rattle.px_value.specs.declared.op.Op.TheVariants as op
use Rattle.px_tree.specs.declared.Stmt.{Stmt, Stmt-F, fold-Stmt}
use Rattle.px_tree.specs.declared.StmtForm.{StmtForm-F}
use Rattle.px_tree.specs.declared.StmtForm.TheOpen.{StmtForm-F as st}
use Rattle.px_facts.specs.declared.types.Ty.{Ty as Static}
use Rattle.px_facts.specs.Types.{is_void}
use Rattle.px_facts.specs.declared.checked.Checked.{Checked}
use Rattle.px_facts.specs.declared.checked.Named.{Named}
use Rattle.px_facts.specs.declared.checked.Named.TheVariants as named
use Rattle.px_mean.specs.Facts.{type_at, named_at, op_of}
use Rattle.px_mean.specs.Statements.{one}
use Rattle.px_normal.specs.declared.word.Operand.{Operand}
use Rattle.px_normal.specs.declared.word.Operand.TheVariants.{Slot, Literal}
use Rattle.px_normal.specs.declared.word.Word.TheVariants as w
use Rattle.px_normal.specs.declared.method.Tree.TheVariants.{If, Loop}
use Rattle.px_normal.specs.declared.node.Counter.{Counter}
use Rattle.px_normal.specs.declared.node.Counter.TheVariants.{Begun, Completed}
use Rattle.px_lowering.specs.declared.draft.Draft.{Draft}
use Rattle.px_lowering.specs.declared.valued.Step.TheVariants as step
use Rattle.px_lowering.specs.declared.valued.Had.{Had}
use Rattle.px_lowering.specs.declared.valued.Had.TheVariants.{Made}
use Rattle.px_lowering.specs.declared.statement.Tested.{Tested}
use Rattle.px_lowering.specs.Emit.{Lasted, Operated, emitted, noded, with_trees, operated, operand_of, slot_of}
use Rattle.px_lowering.specs.Expressions.{Part, part_of, put_low, operand_at, fit_to, fitted_operand}

-- ---- the end of a body

abbrev pub whole : {A : Type 0} → Stmt-F A A → A
whole x = x.form

-- the last one decides
abbrev pub last_completes : Bool → List Bool → Bool
last_completes before [] = before
last_completes before (b ∷ bs) = last_completes b bs

-- an `if` without an `else` can
abbrev pub either_completes : Bool → Option Bool → Bool
either_completes branch None = true
either_completes branch (Some other) = branch || other

-- Whether a statement can complete normally (JLS 14.21). Nothing follows a statement that can't.
abbrev pub completes_step : StmtForm-F Bool Bool → Bool
completes_step (st.Block items) = last_completes true items
completes_step (st.Return x) = false
completes_step (st.If test branch other) = either_completes branch other
completes_step _ = true

unfoldable pub completes : Stmt → Bool
completes = fold-Stmt Bool Bool completes_step whole

-- ---- parts of statements

pub record Testing : Type 0 where
  pub out : Draft
  pub value : Tested

abbrev pub Steps : Type 0
Steps = Draft → Draft

-- one after the other
abbrev pub lower_all : List Steps → Steps
lower_all [] o = o
lower_all (l ∷ ls) o = lower_all ls (l o)

abbrev pub lower_if : Option Steps → Steps
lower_if None o = o
lower_if (Some l) o = l o

abbrev pub store : Checked → Named → ℕ → Lasted → Draft
store P (named.Local slot) token x = slot_of P slot token x
store P _ token x = (operand_of P x).out

abbrev pub local_low : Checked → Part → (id token : ℕ) → Steps
local_low P x id token o = store P (named_at P.facts id) token (fit_to P (type_at P.facts id) x o)

-- a local gets what an operator gives of it and of an operand
abbrev pub change : Checked → Op → ℕ → Counter → (token : ℕ) → Operand → Draft → Draft
change P f slot counter token a o = emitted P (w.Op f slot (Slot slot) (Some a)) token counter o

abbrev pub compound_low : Checked → Named → Op → Part → (token : ℕ) → Steps
compound_low P (named.Local slot) f x token o = let a = operand_at P x o in change P f slot (Completed x.id) token a.operand a.out
compound_low P _ f x token o = o

abbrev pub by_one_low : Checked → Named → Op → (id token : ℕ) → Steps
by_one_low P (named.Local slot) f id token o = change P f slot (Begun id) token (Literal (one (type_at P.facts id))) o
by_one_low P _ f id token o = o

-- a call of a method without a result
abbrev pub without_result : Checked → ℕ → Had → Draft → Draft
without_result P token (Made (step.Call of method args) t counter) o = emitted P (w.Call None of method args) token counter o
without_result P token had o = (operated P token had o).out

abbrev pub unused : Checked → Bool → Lasted → Draft
unused P true x = without_result P x.value.token x.value.had x.out
unused P false x = (operand_of P x).out

abbrev pub call_low : Checked → Part → Steps
call_low P x o = unused P (is_void (type_at P.facts x.id)) (x.lower o)

-- behind the test: the statements of either branch, each in a list of its own
abbrev pub branched : Checked → ℕ → Steps → Steps → (token : ℕ) → Operated → Draft
branched P test yes' no' token a =
    let y = yes' (with_trees [] (noded P token (Completed test) a.out)) in
    let n = no' (with_trees [] y) in
    with_trees (a.out.trees ++ If (length a.out.nodes + 1) a.operand y.trees n.trees ∷ []) n

abbrev pub if_low : Checked → Part → Steps → Option Steps → (token : ℕ) → Steps
if_low P test yes' no' token o = branched P test.id yes' (lower_if no') token (operand_at P test o)

-- a test and its node, in a list of statements of its own, and the list before
abbrev pub tested : Checked → Part → (token : ℕ) → Draft → Testing
tested P test token o =
    let a = operand_at P test (with_trees [] o) in
    record {
      out = with_trees [] (noded P token (Completed test.id) a.out);
      value = record { before = o.trees; first = a.out.trees; node = length a.out.nodes + 1; operand = a.operand };
    }

-- a loop, behind what runs after each test
abbrev pub looped : Tested → Draft → Draft
looped t b = with_trees (t.before ++ Loop t.first t.node t.operand b.trees ∷ []) b

abbrev pub loop_low : Checked → Part → Steps → (token : ℕ) → Steps
loop_low P test body token o = let t = tested P test token o in looped t.value (body t.out)

abbrev pub for_low : Checked → Steps → Part → Steps → Steps → (token : ℕ) → Steps
for_low P begin test last body token o = loop_low P test (λ o. last (body o)) token (begin o)

abbrev pub return_low : Checked → Static → Option Part → (id token : ℕ) → Steps
return_low P gives None id token o = emitted P (w.Return None) token (Begun id) o
return_low P gives (Some x) id token o = let a = fitted_operand P gives x o in emitted P (w.Return (Some a.operand)) token (Completed x.id) a.out

abbrev pub print_low : Checked → Part → (token : ℕ) → Steps
print_low P x token o = let a = operand_at P x o in emitted P (w.Print a.operand) token (Completed x.id) a.out

-- ---- one level of a statement, by its number and its first token, in a method of this type

abbrev pub stmt_low : Checked → Static → StmtForm-F (ℕ → ℕ → Steps) Steps → ℕ → ℕ → Steps
stmt_low P gives (st.Block items) id token = lower_all items
stmt_low P gives st.Empty id token = λ o. o
stmt_low P gives (st.Local t n x) id token = local_low P (part_of P x) id token
stmt_low P gives (st.Assign p x) id token = put_low P p (part_of P x) token
stmt_low P gives (st.Compound n s x) id token = compound_low P (named_at P.facts id) (op_of s (type_at P.facts id) (type_at P.facts x.id)) (part_of P x) token
stmt_low P gives (st.Up n) id token = by_one_low P (named_at P.facts id) op.Add id token
stmt_low P gives (st.Down n) id token = by_one_low P (named_at P.facts id) op.Sub id token
stmt_low P gives (st.Call x) id token = call_low P (part_of P x)
stmt_low P gives (st.If test yes' no') id token = if_low P (part_of P test) yes' no' token
stmt_low P gives (st.While test body) id token = loop_low P (part_of P test) body token
stmt_low P gives (st.For begin test last body) id token = for_low P begin (part_of P test) last body token
stmt_low P gives (st.Return x) id token = return_low P gives (option_map (part_of P) x) id token
stmt_low P gives (st.Print x) id token = print_low P (part_of P x) token

abbrev pub placed : Stmt-F (ℕ → ℕ → Steps) Steps → Steps
placed x = x.form x.id x.token

unfoldable pub low_stmt : Checked → Static → Stmt → Steps
low_stmt P gives = fold-Stmt (ℕ → ℕ → Steps) Steps (stmt_low P gives) placed
