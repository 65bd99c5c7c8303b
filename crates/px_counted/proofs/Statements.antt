-- Each statement of a typed method leaves nothing behind.
use Rattle.std.proofs.Common.{◌≡◌, ℕ, ◌+◌, ◌≤◌, Bool, List, [], map, length, append-nil, Option, Some, None, refl, sym, ◌∙◌, subst, le_trans, le_of_eq, arith}
use Rattle.px_value.specs.declared.value.Value.{Value}
use Rattle.px_value.specs.declared.op.Op.{Op}
use Rattle.px_value.specs.declared.op.Op.TheVariants as op
use Rattle.px_value.specs.Operators.{apply}
use Rattle.px_value.specs.Outcome.{◌>>=◌, pure, on_shared, Flow, Goes, Returns, goes_on, in_order}
use Rattle.px_tree.specs.declared.Expr.{Expr}
use Rattle.px_tree.specs.declared.Stmt.{Stmt}
use Rattle.px_facts.specs.declared.types.Ty.{Ty as Static}
use Rattle.px_facts.specs.Types.{is_void}
use Rattle.px_facts.specs.declared.checked.Named.{Named}
use Rattle.px_facts.specs.declared.checked.Named.TheVariants as named
use Rattle.px_facts.specs.declared.checked.Checked.{Checked}
use Rattle.px_effects.specs.Cells as cells
use Rattle.px_effects.specs.Run.{Ask, came_to}
use Rattle.px_mean.specs.Run.{Here as SourceHere}
use Rattle.px_mean.specs.Facts.{type_at, named_at, op_of}
use Rattle.px_mean.specs.Effects.{print_line}
use Rattle.px_mean.specs.Expressions.{Around, Calls as SourceCalls, Meant, fit, slot_value, assign_slot}
use Rattle.px_mean.specs.Statements.{Does, done_by, goes, write_local, change_local, one}
use Rattle.px_mean.specs.Statements as source
use Rattle.px_mean.specs.Typing as typing
use Rattle.px_mean.specs.Typing.{IsTypedExpr, IsTypedStmt, AreTypedStmts}
use Rattle.px_normal.specs.declared.node.Counter.{Counter}
use Rattle.px_normal.specs.declared.node.Counter.TheVariants.{Begun, Completed}
use Rattle.px_normal.specs.declared.word.Operand.TheVariants.{Slot, Literal}
use Rattle.px_normal.specs.declared.word.Word.TheVariants as w
use Rattle.px_normal.specs.declared.code.Code.{Code}
use Rattle.px_normal.specs.CodeRun.{Calls, all_turns}
use Rattle.px_lowering.specs.declared.draft.Draft.{Draft}
use Rattle.px_lowering.specs.Emit.{emitted, with_trees}
use Rattle.px_lowering.specs.Expressions.{low, part_of, operand_at, fit_to, fitted_operand}
use Rattle.px_lowering.specs.Statements.{Steps, lower_all, low_stmt, store, compound_low, by_one_low, loop_low, unused as unused_low}
use Rattle.px_lowering.proofs.StmtForms.{low_block, low_empty, low_local, low_assign, low_compound, low_up, low_down, low_call, low_if, low_while, low_for, low_return, low_print}
use Rattle.px_counts.specs.Marks.{Marked, marked_ask}
use Rattle.px_counts.specs.Runs.{marked_does, done_with_marks}
use Rattle.px_counts.proofs.Unmarked.{SameHere, SameThere, same_then_here, done_alike}
use Rattle.px_counts.proofs.Beside.{came_here, only_act_here}
use Rattle.px_preservation.proofs.Agree.{CallsMeet, Lowers, IsDone, LowersStatement}
use Rattle.px_preservation.proofs.Afters.{grown}
use Rattle.px_preservation.proofs.Operands.{IsOperand, unused_is}
use Rattle.px_preservation.proofs.Program.{SameProgram}
use Rattle.px_preservation.proofs.Sequences.{empty_done, seq_done}
use Rattle.px_preservation.proofs.Loops.{loop_done as plain_loop}
use Rattle.px_preservation.proofs.Parts.{operand_low}
use Rattle.px_preservation.proofs.Statements.{lowers_statement}
use Rattle.px_counted.specs.Laws.{NeverThrows}
use Rattle.px_counted.proofs.Keeps.{KeepsHere, keeps_then_here, keeping}
use Rattle.px_counted.proofs.Steps.{CallsCount}
use Rattle.px_counted.proofs.Operands.{own}
use Rattle.px_counted.proofs.Values.{M}
use Rattle.px_counted.proofs.Slots.{counts_unused}
use Rattle.px_counted.proofs.Given.{gives, own_by, own_is}
use Rattle.px_counted.proofs.GivenStatements.{does_give, all_give, gives_block, gives_empty, gives_local, gives_assign, gives_compound, gives_up, gives_down, gives_call_statement, gives_if_only, gives_if_else, gives_while, gives_for, gives_leave, gives_return, gives_print}
use Rattle.px_counted.proofs.MarkedForms.{done_block, done_empty, done_local, done_assign, done_compound, done_up, done_down, done_call, done_if, done_while, done_for, done_return, done_print}
use Rattle.px_counted.proofs.Expressions.{A, AM, B, D, means, marked_means, marked_type, Counts, operand_expr}
use Rattle.px_counted.proofs.Invoked.{fitted_counts}
use Rattle.px_counted.proofs.Dones.{CountsDone, more_done, pure_done, goes_counts, part_done, word_done, seq_counts, own_done, begun_done}
use Rattle.px_counted.proofs.Loops.{if_counts, loop_done}
use Rattle.px_counted.proofs.Puts.{slot_first, local_counts, assigned_counts}

module _ (Q W : Type 0) (ask : Ask Q W) (never : NeverThrows Q W ask) (P : Checked) (code : Code) (source_calls : SourceCalls Q W) (calls : Calls Q W) (static : List Static) (result : Static) (k : ℕ) (counter : Counter) (met : CallsMeet Q W ask P code source_calls calls (length static)) (same : SameProgram P code) (marked_calls : SourceCalls Q (Marked W)) (alike : (method : ℕ) (values : List Value) → SameThere Q W (Option Value) (marked_calls method values) (source_calls method values)) (count : CallsCount Q W ask code calls k counter never marked_calls) where
  abbrev N : ℕ
  N = length static

  abbrev HereM : Type 0 → Type 0
  HereM A = M Q W ask never P code source_calls calls N k counter A

  abbrev DoesM : Type 0
  DoesM = HereM (Flow Value)

  abbrev U : Type 0
  U = Unit {0}

  abbrev Put : ℕ → HereM U → Draft → Draft → Type 0
  Put g r o o' = CountsDone Q W ask never P code source_calls calls N k counter U g r o o'

  abbrev Is : ℕ → DoesM → Draft → Draft → Type 0
  Is g r o o' = CountsDone Q W ask never P code source_calls calls N k counter (Flow Value) g r o o'

  abbrev Plain : SourceHere Q W (Flow Value) → Draft → Draft → Type 0
  Plain = IsDone Q W ask P code source_calls calls N

  abbrev pub C : Expr → Type 0
  C = Counts Q W ask never P code source_calls calls N k counter met same marked_calls alike

  abbrev MM : Expr → Meant Q (Marked W)
  MM = marked_means Q W ask never P code source_calls calls N k counter met same marked_calls alike

  abbrev SM : Expr → Meant Q W
  SM = means Q W ask never P code source_calls calls N k counter met same marked_calls alike

  abbrev Around' : Around Q (Marked W)
  Around' = AM Q W ask never P code source_calls calls N k counter met same marked_calls alike

  abbrev Plainly : Around Q W
  Plainly = A Q W ask never P code source_calls calls N k counter met same marked_calls alike

  abbrev Bn : ℕ → ℕ
  Bn = B Q W ask never P code source_calls calls N k counter met same marked_calls alike

  abbrev Dn : ℕ → ℕ
  Dn = D Q W ask never P code source_calls calls N k counter met same marked_calls alike

  abbrev G : Expr → ℕ
  G x = gives counter x

  abbrev S : Stmt → ℕ
  S x = does_give counter x

  abbrev does : Stmt → DoesM
  does x = done_with_marks Around' result x

  abbrev done : Stmt → SourceHere Q W (Flow Value)
  done x = done_by Plainly result x

  abbrev steps : Stmt → Steps
  steps x = low_stmt P result x

  abbrev Low : Expr → Type 0
  Low = Lowers Q W ask P code source_calls calls N

  abbrev pub CountsStatement : Stmt → Type 0
  CountsStatement x = (o : Draft) → N ≤ length o.slots → S x ≤ 1 → Is (S x) (does x) o (steps x o)

  -- what stands apart from the statement's own marks
  abbrev OfForm : DoesM → Steps → ℕ → Type 0
  OfForm r l g = (o : Draft) → N ≤ length o.slots → g ≤ 1 → Is g r o (l o)

  own_given : (x : Stmt) (g : ℕ) → S x ≡ own_by counter x.id + g → S x ≡ (Bn x.id + Dn x.id) + g
  own_given x g h = let z = own_is Q W k counter x.id in omega (arith, h, z)

  with_marks : (x : Stmt) (r : DoesM) (l : Steps) (g : ℕ) → does x ≡ marked_does x.id r → steps x ≡ l → S x ≡ g → ((o : Draft) → N ≤ length o.slots → g ≤ 1 → Is g (marked_does x.id r) o (l o)) → CountsStatement x
  with_marks x r l g a b c h o le few =
      subst (λ (q : DoesM). Is (S x) q o (steps x o)) (sym a)
      (subst (λ (z : Steps). Is (S x) (marked_does x.id r) o (z o)) (sym b)
      (subst (λ (y : ℕ). Is y (marked_does x.id r) o (l o)) (sym c) (h o le (subst (λ (y : ℕ). y ≤ 1) c few))))

  by_form : (x : Stmt) (r : DoesM) (l : Steps) (g : ℕ) → does x ≡ marked_does x.id r → steps x ≡ l → S x ≡ own_by counter x.id + g → OfForm r l g → CountsStatement x
  by_form x r l g a b c h = with_marks x r l ((Bn x.id + Dn x.id) + g) a b (own_given x g c) (λ o le few. own_done Q W ask never P code source_calls calls N k counter x.id g r o (l o) (h o le (omega (arith, few))))

  -- ---- locals

  local_form : (nm : Named) (slot : ℕ) (to : Static) (x : Expr) (token : ℕ) → nm ≡ named.Local slot → C x → OfForm (goes ((MM x).run >>= fit (MM x).ty to >>= write_local nm)) (λ o. store P nm token (fit_to P to (part_of P x) o)) (G x)
  local_form nm slot to x token e h o le few = subst (λ (z : Named). Is (G x) (goes ((MM x).run >>= fit (MM x).ty to >>= write_local z)) o (store P z token (fit_to P to (part_of P x) o))) (sym e)
      (goes_counts Q W ask never P code source_calls calls N k counter U (G x) ((MM x).run >>= fit (MM x).ty to >>= assign_slot slot) o _ (local_counts Q W ask never P code source_calls calls N k counter met same marked_calls alike count x h to slot token o le few))

  keeps_change : (f : Op) (slot : ℕ) (a b : Value) → KeepsHere Q W U (came_to (apply f a b) >>= assign_slot slot)
  keeps_change f slot a b = keeps_then_here Q W Value U (came_to (apply f a b)) (assign_slot slot) (came_here Q (Marked W) Q (Marked W) (marked_ask ask) (marked_ask ask) (keeping Q W ask) (apply f a b)) (λ v. record { at = λ s. refl })

  compound_form : (nm : Named) (slot : ℕ) (f : Static → Op) (x : Expr) (token : ℕ) → nm ≡ named.Local slot → C x → OfForm (goes (change_local nm (f (MM x).ty) (MM x).run)) (compound_low P nm (f (type_at P.facts x.id)) (part_of P x) token) (G x)
  compound_form nm slot f x token e h o le few =
      let o' = f (type_at P.facts x.id) in
      let a = operand_at P (part_of P x) o in
      let word = w.Op o' slot (Slot slot) (Some a.operand) in
      let i = operand_expr Q W ask never P code source_calls calls N k counter met same marked_calls alike x h o le few in
      subst (λ (t : Static). Is (G x) (goes (change_local nm (f t) (MM x).run)) o (compound_low P nm o' (part_of P x) token o)) (sym (marked_type Q W ask never P code source_calls calls N k counter met same marked_calls alike x))
      (subst (λ (z : Named). Is (G x) (goes (change_local z o' (MM x).run)) o (compound_low P z o' (part_of P x) token o)) (sym e)
      (goes_counts Q W ask never P code source_calls calls N k counter U (G x) (change_local (named.Local slot) o' (MM x).run) o _
      (slot_first Q W ask never P code source_calls calls N k counter met same marked_calls alike count (G x) slot (λ v. (MM x).run >>= (λ u. came_to (apply o' v u) >>= assign_slot slot)) o _
      (λ v. word_done Q W ask never P code source_calls calls N k counter U (G x) x.id ((low P x).part.lower o).value.id (MM x).run (SM x).run o a i le (λ u. came_to (apply o' v u) >>= assign_slot slot) (λ u. keeps_change o' slot v u) word (λ slots. tt) token (Completed x.id) (λ e. own e)))))

  by_one_form : (nm : Named) (slot : ℕ) (f : Op) (id token : ℕ) → nm ≡ named.Local slot → (o : Draft) → Bn id + Dn id ≤ 1 → Is (Bn id + Dn id) (marked_does id (goes (change_local nm f (pure (one (type_at P.facts id)))))) o (by_one_low P nm f id token o)
  by_one_form nm slot f id token e o few =
      let v = one (type_at P.facts id) in
      let change : Value → HereM U = λ a. pure v >>= (λ b. came_to (apply f a b) >>= assign_slot slot) in
      subst (λ (z : Named). Is (Bn id + Dn id) (marked_does id (goes (change_local z f (pure v)))) o (by_one_low P z f id token o)) (sym e)
      (begun_done Q W ask never P code source_calls calls N k counter id (goes (change_local (named.Local slot) f (pure v))) o
      (keeps_then_here Q W U (Flow Value) (slot_value slot >>= change) (λ u. pure Goes) (keeps_then_here Q W Value U (slot_value slot) change (record { at = λ s. refl }) (λ a. keeps_then_here Q W Value U (pure v) (λ b. came_to (apply f a b) >>= assign_slot slot) (record { at = λ s. refl }) (λ b. keeps_change f slot a b))) (λ u. record { at = λ s. refl }))
      (w.Op f slot (Slot slot) (Some (Literal v))) (λ slots. tt) token few)

  by_one : (x : Stmt) (nm : Named) (slot : ℕ) (f : Op) → nm ≡ named.Local slot → nm ≡ named_at P.facts x.id → does x ≡ marked_does x.id (goes (change_local (named_at P.facts x.id) f (pure (one (type_at P.facts x.id))))) → steps x ≡ by_one_low P (named_at P.facts x.id) f x.id x.token → S x ≡ own_by counter x.id + 0 → CountsStatement x
  by_one x nm slot f e q a b c = with_marks x (goes (change_local (named_at P.facts x.id) f (pure (one (type_at P.facts x.id))))) (by_one_low P (named_at P.facts x.id) f x.id x.token) (Bn x.id + Dn x.id) a b (let z = own_given x 0 c in omega (arith, z)) (λ o le few. by_one_form (named_at P.facts x.id) slot f x.id x.token (sym q ∙ e) o few)

  -- ---- values that aren't used, returned or printed

  call_form : (x : Expr) → C x → OfForm (goes (MM x).run) (λ o. unused_low P (is_void (type_at P.facts x.id)) ((low P x).part.lower o)) (G x)
  call_form x h o le few =
      let b = is_void (type_at P.facts x.id) in
      let l = (low P x).part.lower o in
      let f = h o le few in
      let u = unused_is Q W ask P code source_calls calls N (SM x).run o l b f.plain in
      goes_counts Q W ask never P code source_calls calls N k counter Value (G x) (MM x).run o (unused_low P b l)
      (part_done Q W ask never P code source_calls calls N k counter (G x) x.id l.value.id (MM x).run o (unused_low P b l) u.trees u.trees_are
      (λ ts e. counts_unused Q W ask never P code source_calls calls N k counter (G x) x.id (MM x).run (SM x).run o l b f ts e))

  give_form : (x : Expr) (token : ℕ) → C x → OfForm ((MM x).run >>= fit (MM x).ty result >>= (λ v. pure (Returns (Some v)))) (λ o. let a = fitted_operand P result (part_of P x) o in emitted P (w.Return (Some a.operand)) token (Completed x.id) a.out) (G x)
  give_form x token h o le few =
      let a = fitted_operand P result (part_of P x) o in
      let i = fitted_counts Q W ask never P code source_calls calls N k counter met same marked_calls alike count x h result o le few in
      word_done Q W ask never P code source_calls calls N k counter (Flow Value) (G x) x.id (fit_to P result (part_of P x) o).value.id ((MM x).run >>= fit (MM x).ty result) ((SM x).run >>= fit (SM x).ty result) o a i le (λ v. pure (Returns (Some v))) (λ v. record { at = λ s. refl }) (w.Return (Some a.operand)) (λ slots. tt) token (Completed x.id) (λ e. own e)

  print_form : (x : Expr) (token : ℕ) → C x → OfForm (goes ((MM x).run >>= (λ v. on_shared (print_line v)))) (λ o. let a = operand_at P (part_of P x) o in emitted P (w.Print a.operand) token (Completed x.id) a.out) (G x)
  print_form x token h o le few =
      let a = operand_at P (part_of P x) o in
      let i = operand_expr Q W ask never P code source_calls calls N k counter met same marked_calls alike x h o le few in
      goes_counts Q W ask never P code source_calls calls N k counter U (G x) ((MM x).run >>= (λ v. on_shared (print_line v))) o _
      (word_done Q W ask never P code source_calls calls N k counter U (G x) x.id ((low P x).part.lower o).value.id (MM x).run (SM x).run o a i le (λ v. on_shared (print_line v)) (λ v. only_act_here Q (Marked W) Q (Marked W) (marked_ask ask) (marked_ask ask) (keeping Q W ask) (cells.print_line v)) (w.Print a.operand) (λ slots. tt) token (Completed x.id) (λ e. own e))

  -- ---- all forms

  module _ (lows : (x : Expr) → IsTypedExpr P.facts static x → Low x) (counts_expr : (x : Expr) → IsTypedExpr P.facts static x → C x) where
    plain : (b : Bool) (x : Stmt) → IsTypedStmt P.facts static result b x → LowersStatement Q W ask P code source_calls calls N result x
    plain = lowers_statement Q W ask P code source_calls calls static result met lows

    alike_does : (x : Stmt) → SameHere Q W (Flow Value) (does x) (done x)
    alike_does x = done_alike Q W ask P.facts marked_calls source_calls alike result x

    up : (r : SourceHere Q W (Flow Value)) (o o' : Draft) → Plain r o o' → length o.slots ≤ length o'.slots
    up r o o' d = grown o.slots o'.slots d.temps d.slots_are

    plain_all : (b : Bool) (xs : List Stmt) → AreTypedStmts P.facts static result b xs → (o : Draft) → N ≤ length o.slots → Plain (in_order (map done xs)) o (lower_all (map steps xs) o)
    plain_all _ _ typing.AreTypedStmts.none o le = empty_done Q W ask P code source_calls calls N o
    plain_all _ _ (typing.AreTypedStmts.last x c t) o le = seq_done Q W ask P code source_calls calls N (done x) (pure Goes) o (steps x o) (steps x o) (plain c x t o le) (empty_done Q W ask P code source_calls calls N (steps x o))
    plain_all _ _ (typing.AreTypedStmts.more x xs c d t a) o le =
        let once = plain c x t o le in
        seq_done Q W ask P code source_calls calls N (done x) (in_order (map done xs)) o (steps x o) _ once (plain_all d xs a (steps x o) (le_trans le (up (done x) o (steps x o) once)))

    same_on : (q : DoesM) (q1 : SourceHere Q W (Flow Value)) → SameHere Q W (Flow Value) q q1 → (f : Flow Value) → SameHere Q W (Flow Value) (goes_on q f) (goes_on q1 f)
    same_on q q1 h Goes = h
    same_on q q1 h (Returns v) = record { at = λ s. refl }

    same_seq : (r q : DoesM) (r1 q1 : SourceHere Q W (Flow Value)) → SameHere Q W (Flow Value) r r1 → SameHere Q W (Flow Value) q q1 → SameHere Q W (Flow Value) (r >>= goes_on q) (r1 >>= goes_on q1)
    same_seq r q r1 q1 h h' = same_then_here Q W (Flow Value) (Flow Value) r r1 (goes_on q) (goes_on q1) h (same_on q q1 h')

    plain_test : (test : Expr) → IsTypedExpr P.facts static test → (o : Draft) → N ≤ length o.slots → IsOperand Q W ask P code source_calls calls N (SM test).run o (operand_at P (part_of P test) o)
    plain_test test t o le = operand_low Q W ask P code source_calls calls N met test (lows test t) o le

    mutual
      pub counts_statement : (b : Bool) (x : Stmt) → IsTypedStmt P.facts static result b x → CountsStatement x
      counts_statement _ _ (typing.IsTypedStmt.block x items b h a) = by_form x _ _ (all_give counter items) (done_block Q W Around' result x items h) (low_block P result x items h) (gives_block counter x items h) (counts_all b items a)
      counts_statement _ _ (typing.IsTypedStmt.empty x h) = by_form x _ _ 0 (done_empty Q W Around' result x h) (low_empty P result x h) (gives_empty counter x h) (λ o le few. pure_done Q W ask never P code source_calls calls N k counter (Flow Value) Goes o)
      counts_statement _ _ (typing.IsTypedStmt.local x t name value h l f v) = by_form x _ _ (G value) (done_local Q W Around' result x t name value h) (low_local P result x t name value h) (gives_local counter x t name value h)
          (local_form (named_at P.facts x.id) l.0 (type_at P.facts x.id) value x.token l.1 (counts_expr value v))
      counts_statement _ _ (typing.IsTypedStmt.assign x place value h f p v) = by_form x _ _ (G place + G value) (done_assign Q W Around' result x place value h) (low_assign P result x place value h) (gives_assign counter x place value h)
          (λ o le few. goes_counts Q W ask never P code source_calls calls N k counter U (G place + G value) ((MM place).put (MM value).ty (MM value).run) o _ (assigned_counts Q W ask never P code source_calls calls N k counter met same marked_calls alike count static counts_expr place value x.token p (counts_expr value v) o le few))
      counts_statement _ _ (typing.IsTypedStmt.compound x name sign value h l f v) = by_form x _ _ (G value) (done_compound Q W Around' result x name sign value h) (low_compound P result x name sign value h) (gives_compound counter x name sign value h)
          (compound_form (named_at P.facts x.id) l.0 (op_of sign (type_at P.facts x.id)) value x.token l.1 (counts_expr value v))
      counts_statement _ _ (typing.IsTypedStmt.up x name h l p) = by_one x (named_at P.facts x.id) l.0 op.Add l.1 refl (done_up Q W Around' result x name h) (low_up P result x name h) (gives_up counter x name h)
      counts_statement _ _ (typing.IsTypedStmt.down x name h l p) = by_one x (named_at P.facts x.id) l.0 op.Sub l.1 refl (done_down Q W Around' result x name h) (low_down P result x name h) (gives_down counter x name h)
      counts_statement _ _ (typing.IsTypedStmt.call x value h v) = by_form x _ _ (G value) (done_call Q W Around' result x value h) (low_call P result x value h) (gives_call_statement counter x value h) (call_form value (counts_expr value v))
      counts_statement _ _ (typing.IsTypedStmt.if_else x test a b c d h t i j) = by_form x _ _ (G test + (S a + S b)) (done_if Q W Around' result x test a a (Some b) h refl) (low_if P result x test a a (Some b) h refl) (gives_if_else counter x test a b h)
          (λ o le few. if_counts Q W ask never P code source_calls calls N k counter (G test) (S a) (S b) test.id _ test.id x.token (MM test).run (SM test).run (does a) (does b) (done a) (done b) o (operand_at P (part_of P test) o) (steps a) (steps b) (operand_expr Q W ask never P code source_calls calls N k counter met same marked_calls alike test (counts_expr test t) o le (omega (arith, few))) (λ e. own e) le
          (plain c a i) (plain d b j) (λ o le. counts_statement c a i o le (omega (arith, few))) (λ o le. counts_statement d b j o le (omega (arith, few))))
      counts_statement _ _ (typing.IsTypedStmt.if_only x test a c h t i) = by_form x _ _ (G test + (S a + 0)) (done_if Q W Around' result x test a a None h refl) (low_if P result x test a a None h refl) (gives_if_only counter x test a h)
          (λ o le few. if_counts Q W ask never P code source_calls calls N k counter (G test) (S a) 0 test.id _ test.id x.token (MM test).run (SM test).run (does a) (pure Goes) (done a) (pure Goes) o (operand_at P (part_of P test) o) (steps a) (λ o. o) (operand_expr Q W ask never P code source_calls calls N k counter met same marked_calls alike test (counts_expr test t) o le (omega (arith, few))) (λ e. own e) le
          (plain c a i) (λ o le. empty_done Q W ask P code source_calls calls N o) (λ o le. counts_statement c a i o le (omega (arith, few))) (λ o le. pure_done Q W ask never P code source_calls calls N k counter (Flow Value) Goes o))
      counts_statement _ _ (typing.IsTypedStmt.while x test body c h t i) = by_form x _ _ (G test + S body) (done_while Q W Around' result x test body body h refl) (low_while P result x test body body h refl) (gives_while counter x test body h)
          (λ o le few. loop_done Q W ask never P code source_calls calls N k counter (G test) (S body) test.id _ x.token (MM test).run (SM test).run (does body) (done body) (part_of P test) (steps body) o (operand_expr Q W ask never P code source_calls calls N k counter met same marked_calls alike test (counts_expr test t) (with_trees [] o) le (omega (arith, few))) (λ e. own e) le
          (alike_does body) (plain c body i) (λ o le. counts_statement c body i o le (omega (arith, few))))
      counts_statement _ _ (typing.IsTypedStmt.for_loop x begin test last body b c d h i t j l) = by_form x _ _ (S begin + (G test + (S last + S body))) (done_for Q W Around' result x begin begin test last last body body h refl refl refl) (low_for P result x begin begin test last last body body h refl refl refl) (gives_for counter x begin test last body h)
          (λ o le few.
          let first = plain b begin i o le in
          let o1 : Draft = steps begin o in
          let le1 : N ≤ length o1.slots = le_trans le (up (done begin) o o1 first) in
          let turn : (o : Draft) → N ≤ length o.slots → Plain (done body >>= goes_on (done last)) o (steps last (steps body o)) = λ o le.
          let once = plain d body l o le in
          seq_done Q W ask P code source_calls calls N (done body) (done last) o (steps body o) _ once (plain c last j (steps body o) (le_trans le (up (done body) o (steps body o) once))) in
          let o2 : Draft = loop_low P (part_of P test) (λ o. steps last (steps body o)) x.token o1 in
          let whole = plain_loop Q W ask P code source_calls calls N (SM test).run (done body >>= goes_on (done last)) (part_of P test) (λ o. steps last (steps body o)) x.token o1 le1 (plain_test test t (with_trees [] o1) le1) turn in
          let looped = loop_done Q W ask never P code source_calls calls N k counter (G test) (S body + S last) test.id _ x.token (MM test).run (SM test).run (does body >>= goes_on (does last)) (done body >>= goes_on (done last)) (part_of P test) (λ o. steps last (steps body o)) o1 (operand_expr Q W ask never P code source_calls calls N k counter met same marked_calls alike test (counts_expr test t) (with_trees [] o1) le1 (omega (arith, few))) (λ e. own e) le1
          (same_seq (does body) (does last) (done body) (done last) (alike_does body) (alike_does last)) turn
          (λ o le.
          let once = plain d body l o le in
          let le3 : N ≤ length (steps body o).slots = le_trans le (up (done body) o (steps body o) once) in
          let after = plain c last j (steps body o) le3 in
          seq_counts Q W ask never P code source_calls calls N k counter (S body) (S last) (does body) (does last) (done body) o (steps body o) (steps last (steps body o)) (alike_does body) once (up (done last) (steps body o) (steps last (steps body o)) after) after.trees after.trees_are
          (counts_statement d body l o le (omega (arith, few))) (counts_statement c last j (steps body o) le3 (omega (arith, few)))) in
          seq_counts Q W ask never P code source_calls calls N k counter (S begin) (G test + (S last + S body)) (does begin) (source.loop (MM test).run (does body >>= goes_on (does last)) all_turns) (done begin) o o1 o2 (alike_does begin) first (up (source.loop (SM test).run (done body >>= goes_on (done last)) all_turns) o1 o2 whole) whole.trees whole.trees_are
          (counts_statement b begin i o le (omega (arith, few)))
          (more_done Q W ask never P code source_calls calls N k counter (Flow Value) (G test + (S body + S last)) (G test + (S last + S body)) (source.loop (MM test).run (does body >>= goes_on (does last)) all_turns) o1 o2 (omega (arith)) looped))
      counts_statement _ _ (typing.IsTypedStmt.leave x h e) = with_marks x (pure (Returns None)) (emitted P (w.Return None) x.token (Begun x.id)) (Bn x.id + Dn x.id) (done_return Q W Around' result x None h) (low_return P result x None h) (let z = own_given x 0 (gives_leave counter x h) in omega (arith, z))
          (λ o le few. begun_done Q W ask never P code source_calls calls N k counter x.id (pure (Returns None)) o (record { at = λ s. refl }) (w.Return None) (λ slots. tt) x.token few)
      counts_statement _ _ (typing.IsTypedStmt.give x value h f v) = by_form x _ _ (G value) (done_return Q W Around' result x (Some value) h) (low_return P result x (Some value) h) (gives_return counter x value h) (give_form value x.token (counts_expr value v))
      counts_statement _ _ (typing.IsTypedStmt.print x value h v) = by_form x _ _ (G value) (done_print Q W Around' result x value h) (low_print P result x value h) (gives_print counter x value h) (print_form value x.token (counts_expr value v))

      counts_all : (b : Bool) (xs : List Stmt) → AreTypedStmts P.facts static result b xs → OfForm (in_order (map does xs)) (lower_all (map steps xs)) (all_give counter xs)
      counts_all _ _ typing.AreTypedStmts.none o le few = pure_done Q W ask never P code source_calls calls N k counter (Flow Value) Goes o
      counts_all _ _ (typing.AreTypedStmts.last x c t) o le few = seq_counts Q W ask never P code source_calls calls N k counter (S x) 0 (does x) (pure Goes) (done x) o (steps x o) (steps x o) (alike_does x) (plain c x t o le) (le_of_eq refl) [] (sym (append-nil (steps x o).trees)) (counts_statement c x t o le (omega (arith, few))) (pure_done Q W ask never P code source_calls calls N k counter (Flow Value) Goes (steps x o))
      counts_all _ _ (typing.AreTypedStmts.more x xs c d t a) o le few =
          let once = plain c x t o le in
          let le1 : N ≤ length (steps x o).slots = le_trans le (up (done x) o (steps x o) once) in
          let rest = plain_all d xs a (steps x o) le1 in
          seq_counts Q W ask never P code source_calls calls N k counter (S x) (all_give counter xs) (does x) (in_order (map does xs)) (done x) o (steps x o) (lower_all (map steps xs) (steps x o)) (alike_does x) once (up (in_order (map done xs)) (steps x o) (lower_all (map steps xs) (steps x o)) rest) rest.trees rest.trees_are
          (counts_statement c x t o le (omega (arith, few))) (counts_all d xs a (steps x o) le1 (omega (arith, few)))
