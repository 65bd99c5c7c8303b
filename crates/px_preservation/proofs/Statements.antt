-- Each statement of a typed method is lowered to code that does what it does.
use Rattle.std.proofs.Common.{◌≡◌, ℕ, ◌+◌, ◌<◌, ◌≤◌, Bool, List, [], ◌∷◌, ◌++◌, map, length, Some, None, refl, sym, ap, ◌∙◌, subst, append-nil, le_trans}
use Rattle.std.proofs.lemmas.Option.{slice_get_within}
use Rattle.px_value.specs.declared.value.Value.{Value}
use Rattle.px_value.specs.declared.op.Op.{Op}
use Rattle.px_value.specs.declared.op.Op.TheVariants as op
use Rattle.px_value.specs.Outcome.{◌>>=◌, pure, Goes, Returns, goes_on, in_order}
use Rattle.px_tree.specs.declared.Expr.{Expr}
use Rattle.px_tree.specs.declared.Stmt.{Stmt}
use Rattle.px_facts.specs.declared.types.Ty.{Ty as Static}
use Rattle.px_facts.specs.Types.{is_void}
use Rattle.px_facts.specs.declared.checked.Checked.{Checked}
use Rattle.px_facts.specs.declared.checked.Named.{Named}
use Rattle.px_facts.specs.declared.checked.Named.TheVariants as named
use Rattle.px_effects.specs.Run.{Ask}
use Rattle.px_effects.specs.Cells.{comes}
use Rattle.px_mean.specs.Run.{Here as SourceHere}
use Rattle.px_mean.specs.Facts.{type_at, named_at, op_of}
use Rattle.px_mean.specs.Expressions.{Around, Meant, Calls as SourceCalls, fit}
use Rattle.px_mean.specs.Statements.{Does, done_by, goes, write_local, change_local, one}
use Rattle.px_mean.specs.Statements as source
use Rattle.px_mean.specs.Typing as typing
use Rattle.px_mean.specs.Typing.{IsTypedExpr, IsTypedStmt, AreTypedStmts}
use Rattle.px_normal.specs.declared.word.Word.TheVariants as w
use Rattle.px_normal.specs.declared.node.Counter.{Counter}
use Rattle.px_normal.specs.declared.node.Counter.TheVariants.{Begun, Completed}
use Rattle.px_normal.specs.declared.method.Tree.TheVariants.{Do}
use Rattle.px_normal.specs.declared.code.Code.{Code}
use Rattle.px_normal.specs.CodeRun.{Calls, all_turns, act_run}
use Rattle.px_lowering.specs.declared.draft.Draft.{Draft}
use Rattle.px_lowering.specs.Emit.{Operated, emitted}
use Rattle.px_lowering.specs.Expressions.{low, part_of, operand_at, fit_to, fitted_operand}
use Rattle.px_lowering.specs.Statements.{Steps, lower_all, low_stmt, store, compound_low, by_one_low}
use Rattle.px_lowering.proofs.StmtForms.{low_block, low_empty, low_local, low_assign, low_compound, low_up, low_down, low_call, low_if, low_while, low_for, low_return, low_print}
use Rattle.px_preservation.proofs.Meets.{meets_at}
use Rattle.px_preservation.proofs.Agree.{Shares, CallsMeet, Lowers, IsDone, LowersStatement}
use Rattle.px_mean.proofs.Forms.{meant_type, done_block, done_empty, done_local, done_assign, done_compound, done_up, done_down, done_call, done_if, done_while, done_for, done_return, done_print}
use Rattle.px_preservation.proofs.Operands.{IsOperand, unused_is}
use Rattle.px_preservation.proofs.Runs.{run_do, run_one}
use Rattle.px_preservation.proofs.Afters.{behind, grown}
use Rattle.px_preservation.proofs.Sequences.{Done, then_operand, empty_done, seq_done, unused_done}
use Rattle.px_preservation.proofs.Assignments.{IsPut, goes_done, print_put}
use Rattle.px_preservation.proofs.Locals.{slotted_put, change_put, change_by}
use Rattle.px_preservation.proofs.Loops.{if_done, loop_done}
use Rattle.px_preservation.proofs.Parts.{says, operand_low, fitted_low, slot_low}
use Rattle.px_preservation.proofs.Places.{assigned}

-- ---- returns

module _ (Q W : Type 0) (ask : Ask Q W) (P : Checked) (code : Code) (source_calls : SourceCalls Q W) (calls : Calls Q W) (n : ℕ) where
  pub leave_done : (o : Draft) (token : ℕ) (counter : Counter) → IsDone Q W ask P code source_calls calls n (pure (Returns None)) o (emitted P (w.Return None) token counter o)
  leave_done o token counter = record {
    trees = Do (length o.nodes + 1) (w.Return None) ∷ [];
    temps = [];
    trees_are = refl;
    slots_are = sym (append-nil o.slots);
    method_is = refl;
    meets = λ s c g size. meets_at _ _ _ (Done Q W ask P code source_calls calls n c) (Shares W) (run_one Q W code ask calls (Do (length o.nodes + 1) (w.Return None)) c ∙ ap (λ r. r c) (run_do Q W code ask calls (length o.nodes + 1) (w.Return None)))
        (Returns None, s, refl, (refl, record { locals = g.locals; shared = g.shared }, refl));
  }

  pub give_done : (r : SourceHere Q W Value) (o : Draft) (x : Operated) (token : ℕ) (counter : Counter) → n ≤ length o.slots → IsOperand Q W ask P code source_calls calls n r o x → IsDone Q W ask P code source_calls calls n (r >>= (λ v. pure (Returns (Some v)))) o (emitted P (w.Return (Some x.operand)) token counter x.out)
  give_done r o x token counter le i =
      let node = length x.out.nodes + 1 in
      let word = w.Return (Some x.operand) in
      record {
        trees = i.trees ++ Do node word ∷ [];
        temps = i.temps;
        trees_are = behind o.trees x.out.trees (emitted P word token counter x.out).trees i.trees (Do node word ∷ []) i.trees_are refl;
        slots_are = i.slots_are;
        method_is = i.method_is;
        meets = λ s c g size. then_operand Q W ask P code source_calls calls n r o x i le (Do node word ∷ []) (λ v. pure (Returns (Some v))) (Done Q W ask P code source_calls calls n c) s c g size
            (λ v s1 c1 g1 a1 e1. meets_at _ _ (act_run code node word (comes v) c1) (Done Q W ask P code source_calls calls n c) (Shares W)
            (run_one Q W code ask calls (Do node word) c1 ∙ ap (λ r. r c1) (run_do Q W code ask calls node word) ∙ ap (λ z. act_run code node word (comes z) c1) e1)
            (Returns (Some v), s1, refl, (refl, record { locals = g1.locals; shared = g1.shared }, a1.size)));
      }

-- ---- all forms

module _ (Q W : Type 0) (ask : Ask Q W) (P : Checked) (code : Code) (source_calls : SourceCalls Q W) (calls : Calls Q W) (static : List Static) (result : Static) (met : CallsMeet Q W ask P code source_calls calls (length static)) where
  abbrev N : ℕ
  N = length static

  abbrev Here : Around Q W
  Here = record { facts = P.facts; ask = ask; calls = source_calls }

  abbrev Says : Expr → Meant Q W
  Says = says Q W ask P code source_calls calls N met

  abbrev Low : Expr → Type 0
  Low = Lowers Q W ask P code source_calls calls N

  abbrev Writes : SourceHere Q W (Unit {0}) → Draft → Draft → Type 0
  Writes = IsPut Q W ask P code source_calls calls N

  abbrev Is : Does Q W → Draft → Draft → Type 0
  Is = IsDone Q W ask P code source_calls calls N

  abbrev does : Stmt → Does Q W
  does x = done_by Here result x

  abbrev steps : Stmt → Steps
  steps x = low_stmt P result x

  abbrev Lowered : Stmt → Type 0
  Lowered x = LowersStatement Q W ask P code source_calls calls N result x

  by_form : (x : Stmt) (r : Does Q W) (l : Steps) → does x ≡ r → steps x ≡ l → ((o : Draft) → N ≤ length o.slots → Is r o (l o)) → Lowered x
  by_form x r l a b h o le = subst (λ (q : Does Q W). Is q o (steps x o)) (sym a) (subst (λ (k : Steps). Is r o (k o)) (sym b) (h o le))

  -- ---- locals

  local_done : (nm : Named) (slot : ℕ) (to : Static) (x : Expr) (token : ℕ) → nm ≡ named.Local slot → slot < N → Low x → (o : Draft) → N ≤ length o.slots → Is (goes ((Says x).run >>= fit (Says x).ty to >>= write_local nm)) o (store P nm token (fit_to P to (part_of P x) o))
  local_done nm slot to x token e h l o le = subst (λ (k : Named). Is (goes ((Says x).run >>= fit (Says x).ty to >>= write_local k)) o (store P k token (fit_to P to (part_of P x) o))) (sym e)
      (goes_done Q W ask P code source_calls calls N _ o _ (slotted_put Q W ask P code source_calls calls N ((Says x).run >>= fit (Says x).ty to) slot o _ h le (slot_low Q W ask P code source_calls calls N met x l to slot token o le)))

  compound_done : (nm : Named) (slot : ℕ) (f : Static → Op) (x : Expr) (token : ℕ) → nm ≡ named.Local slot → slot < N → Low x → (o : Draft) → N ≤ length o.slots → Is (goes (change_local nm (f (Says x).ty) (Says x).run)) o (compound_low P nm (f (type_at P.facts x.id)) (part_of P x) token o)
  compound_done nm slot f x token e h l o le =
      subst (λ (t : Static). Is (goes (change_local nm (f t) (Says x).run)) o (compound_low P nm (f (type_at P.facts x.id)) (part_of P x) token o)) (sym (meant_type Q W Here x))
      (subst (λ (k : Named). Is (goes (change_local k (f (type_at P.facts x.id)) (Says x).run)) o (compound_low P k (f (type_at P.facts x.id)) (part_of P x) token o)) (sym e)
      (goes_done Q W ask P code source_calls calls N _ o _ (change_put Q W ask P code source_calls calls N (Says x).run (f (type_at P.facts x.id)) slot o (operand_at P (part_of P x) o) token (Completed x.id) h le (operand_low Q W ask P code source_calls calls N met x l o le))))

  by_one_done : (nm : Named) (slot : ℕ) (f : Op) (id token : ℕ) → nm ≡ named.Local slot → slot < N → (o : Draft) → N ≤ length o.slots → Is (goes (change_local nm f (pure (one (type_at P.facts id))))) o (by_one_low P nm f id token o)
  by_one_done nm slot f id token e h o le = subst (λ (k : Named). Is (goes (change_local k f (pure (one (type_at P.facts id))))) o (by_one_low P k f id token o)) (sym e)
      (goes_done Q W ask P code source_calls calls N _ o _ (change_by Q W ask P code source_calls calls N (one (type_at P.facts id)) f slot o token (Begun id) h le))

  -- ---- all forms

  module _ (lows : (x : Expr) → IsTypedExpr P.facts static x → Low x) where
    operand_of : (x : Expr) → IsTypedExpr P.facts static x → (o : Draft) → N ≤ length o.slots → IsOperand Q W ask P code source_calls calls N (Says x).run o (operand_at P (part_of P x) o)
    operand_of x t o le = operand_low Q W ask P code source_calls calls N met x (lows x t) o le

    mutual
      pub lowers_statement : (b : Bool) (x : Stmt) → IsTypedStmt P.facts static result b x → Lowered x
      lowers_statement _ _ (typing.IsTypedStmt.block x items b h a) = by_form x _ _ (done_block Q W Here result x items h) (low_block P result x items h) (lowers_all b items a)
      lowers_statement _ _ (typing.IsTypedStmt.empty x h) = by_form x _ _ (done_empty Q W Here result x h) (low_empty P result x h) (λ o le. empty_done Q W ask P code source_calls calls N o)
      lowers_statement _ _ (typing.IsTypedStmt.local x t name value h k f v) = by_form x _ _ (done_local Q W Here result x t name value h) (low_local P result x t name value h)
          (local_done (named_at P.facts x.id) k.0 (type_at P.facts x.id) value x.token k.1 (slice_get_within static k.0 _ k.2) (lows value v))
      lowers_statement _ _ (typing.IsTypedStmt.assign x place value h f p v) = by_form x _ _ (done_assign Q W Here result x place value h) (low_assign P result x place value h)
          (λ o le. goes_done Q W ask P code source_calls calls N _ o _ (assigned Q W ask P code source_calls calls static met lows place value x.token p (lows value v) o le))
      lowers_statement _ _ (typing.IsTypedStmt.compound x name sign value h k f v) = by_form x _ _ (done_compound Q W Here result x name sign value h) (low_compound P result x name sign value h)
          (compound_done (named_at P.facts x.id) k.0 (op_of sign (type_at P.facts x.id)) value x.token k.1 (slice_get_within static k.0 _ k.2) (lows value v))
      lowers_statement _ _ (typing.IsTypedStmt.up x name h k p) = by_form x _ _ (done_up Q W Here result x name h) (low_up P result x name h) (by_one_done (named_at P.facts x.id) k.0 op.Add x.id x.token k.1 (slice_get_within static k.0 _ k.2))
      lowers_statement _ _ (typing.IsTypedStmt.down x name h k p) = by_form x _ _ (done_down Q W Here result x name h) (low_down P result x name h) (by_one_done (named_at P.facts x.id) k.0 op.Sub x.id x.token k.1 (slice_get_within static k.0 _ k.2))
      lowers_statement _ _ (typing.IsTypedStmt.call x value h v) = by_form x _ _ (done_call Q W Here result x value h) (low_call P result x value h)
          (λ o le. unused_done Q W ask P code source_calls calls N (Says value).run o _ le (unused_is Q W ask P code source_calls calls N (Says value).run o ((low P value).part.lower o) (is_void (type_at P.facts value.id)) (lows value v o le)))
      lowers_statement _ _ (typing.IsTypedStmt.if_else x test a b c d h t i j) = by_form x _ _ (done_if Q W Here result x test a a (Some b) h refl) (low_if P result x test a a (Some b) h refl)
          (λ o le. if_done Q W ask P code source_calls calls N (Says test).run (does a) (does b) o (operand_at P (part_of P test) o) (steps a) (steps b) test.id x.token le (operand_of test t o le) (lowers_statement c a i) (lowers_statement d b j))
      lowers_statement _ _ (typing.IsTypedStmt.if_only x test a c h t i) = by_form x _ _ (done_if Q W Here result x test a a None h refl) (low_if P result x test a a None h refl)
          (λ o le. if_done Q W ask P code source_calls calls N (Says test).run (does a) (pure Goes) o (operand_at P (part_of P test) o) (steps a) (λ o. o) test.id x.token le (operand_of test t o le) (lowers_statement c a i) (λ o le. empty_done Q W ask P code source_calls calls N o))
      lowers_statement _ _ (typing.IsTypedStmt.while x test body c h t i) = by_form x _ _ (done_while Q W Here result x test body body h refl) (low_while P result x test body body h refl)
          (λ o le. loop_done Q W ask P code source_calls calls N (Says test).run (does body) (part_of P test) (steps body) x.token o le (operand_of test t _ le) (lowers_statement c body i))
      lowers_statement _ _ (typing.IsTypedStmt.for_loop x begin test last body b c d h i t j k) = by_form x _ _ (done_for Q W Here result x begin begin test last last body body h refl refl refl) (low_for P result x begin begin test last last body body h refl refl refl)
          (λ o le.
          let first = lowers_statement b begin i o le in
          let o1 : Draft = steps begin o in
          let le1 : N ≤ length o1.slots = le_trans le (grown o.slots o1.slots first.temps first.slots_are) in
          seq_done Q W ask P code source_calls calls N (does begin) (source.loop (Says test).run (does body >>= goes_on (does last)) all_turns) o o1 _ first
          (loop_done Q W ask P code source_calls calls N (Says test).run (does body >>= goes_on (does last)) (part_of P test) (λ o. steps last (steps body o)) x.token o1 le1 (operand_of test t _ le1)
          (λ o le.
          let once = lowers_statement d body k o le in
          seq_done Q W ask P code source_calls calls N (does body) (does last) o (steps body o) _ once (lowers_statement c last j (steps body o) (le_trans le (grown o.slots (steps body o).slots once.temps once.slots_are))))))
      lowers_statement _ _ (typing.IsTypedStmt.leave x h e) = by_form x _ _ (done_return Q W Here result x None h) (low_return P result x None h) (λ o le. leave_done Q W ask P code source_calls calls N o x.token (Begun x.id))
      lowers_statement _ _ (typing.IsTypedStmt.give x value h f v) = by_form x _ _ (done_return Q W Here result x (Some value) h) (low_return P result x (Some value) h)
          (λ o le. give_done Q W ask P code source_calls calls N ((Says value).run >>= fit (Says value).ty result) o (fitted_operand P result (part_of P value) o) x.token (Completed value.id) le (fitted_low Q W ask P code source_calls calls N met value (lows value v) result o le))
      lowers_statement _ _ (typing.IsTypedStmt.print x value h v) = by_form x _ _ (done_print Q W Here result x value h) (low_print P result x value h)
          (λ o le. goes_done Q W ask P code source_calls calls N _ o _ (print_put Q W ask P code source_calls calls N (Says value).run o (operand_at P (part_of P value) o) x.token (Completed value.id) le (operand_of value v o le)))

      lowers_all : (b : Bool) (xs : List Stmt) → AreTypedStmts P.facts static result b xs → (o : Draft) → N ≤ length o.slots → Is (in_order (map does xs)) o (lower_all (map steps xs) o)
      lowers_all _ _ typing.AreTypedStmts.none o le = empty_done Q W ask P code source_calls calls N o
      lowers_all _ _ (typing.AreTypedStmts.last x c t) o le = seq_done Q W ask P code source_calls calls N (does x) (pure Goes) o (steps x o) (steps x o) (lowers_statement c x t o le) (empty_done Q W ask P code source_calls calls N (steps x o))
      lowers_all _ _ (typing.AreTypedStmts.more x xs c d t a) o le =
          let once = lowers_statement c x t o le in
          seq_done Q W ask P code source_calls calls N (does x) (in_order (map does xs)) o (steps x o) _ once (lowers_all d xs a (steps x o) (le_trans le (grown o.slots (steps x o).slots once.temps once.slots_are)))
