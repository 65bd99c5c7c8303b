-- What is known of each form of a statement.
use Rattle.std.proofs.Common.{◌≡◌, ℕ, Bool, true, false, List, [], map, Some, None, Option, sym, ap, ◌∙◌}
use Rattle.std.specs.Option.{option_map}
use Rattle.px_tree.specs.declared.Sign.{Sign}
use Rattle.px_tree.specs.declared.Name.{Name}
use Rattle.px_tree.specs.declared.TypeName.{TypeName}
use Rattle.px_tree.specs.declared.Expr.{Expr}
use Rattle.px_tree.specs.declared.Stmt.{Stmt, fold_out-Stmt}
use Rattle.px_tree.specs.declared.StmtForm.{StmtForm, StmtForm-F, fold-StmtForm, fold-roll-StmtForm, roll-StmtForm, map-StmtForm}
use Rattle.px_tree.specs.declared.StmtForm.TheVariants.{Block, rolls-Block, Empty, rolls-Empty, Local, rolls-Local, Assign, rolls-Assign, Compound, rolls-Compound, Up, rolls-Up, Down, rolls-Down, Call, rolls-Call, If, rolls-If, While, rolls-While, For, rolls-For, Return, rolls-Return, Print, rolls-Print}
use Rattle.px_tree.specs.declared.StmtForm.TheOpen.{StmtForm-F as f}
use Rattle.px_types.specs.declared.context.Context.{Context}
use Rattle.px_types.specs.declared.locals.Locals.{Locals}
use Rattle.px_types.specs.Expressions.{typed}
use Rattle.px_types.specs.Statements.{JudgesStmt, JudgesStmtForm, judged, judged_form, judged_step, whole, behind, unreached, closed, block, plain, local, assign, compound, step, condition, branches, completing, for_loop, returned, return_notes, print}

pub judged_by_form : (c : Context) (s : Stmt) (r : Bool) (l : Locals) → judged c s r l ≡ behind (unreached r s.token) (judged_form c s.form s.token l)
unfolding judged judged_form
judged_by_form c s r l = ap (λ (j : JudgesStmt). j r l) (fold_out-Stmt JudgesStmtForm JudgesStmt (judged_step c) whole s)

judged_at : (c : Context) (x : StmtForm) (y : StmtForm-F StmtForm Stmt) (t : ℕ) (l : Locals) → x ≡ roll-StmtForm y → judged_form c x t l ≡ judged_step c (map-StmtForm StmtForm Stmt JudgesStmtForm JudgesStmt (judged_form c) (judged c) y) t l
unfolding judged judged_form
judged_at c x y t l h =
    ap (λ (j : JudgesStmtForm). j t l) (ap (fold-StmtForm JudgesStmtForm JudgesStmt (judged_step c) whole) h ∙ fold-roll-StmtForm JudgesStmtForm JudgesStmt (judged_step c) whole y)

pub judged_block : (c : Context) (x : StmtForm) (t : ℕ) (l : Locals) (items : List Stmt) → x ≡ Block items → judged_form c x t l ≡ closed l (block true l (map (judged c) items))
judged_block c x t l items h = judged_at c x (f.Block items) t l (h ∙ sym (rolls-Block items))

pub judged_empty : (c : Context) (x : StmtForm) (t : ℕ) (l : Locals) → x ≡ Empty → judged_form c x t l ≡ plain l []
judged_empty c x t l h = judged_at c x f.Empty t l (h ∙ sym rolls-Empty)

pub judged_local : (c : Context) (x : StmtForm) (t : ℕ) (l : Locals) (ty : TypeName) (name : Name) (value : Expr) → x ≡ Local ty name value → judged_form c x t l ≡ local c t ty name value l
judged_local c x t l ty name value h = judged_at c x (f.Local ty name value) t l (h ∙ sym (rolls-Local ty name value))

pub judged_assign : (c : Context) (x : StmtForm) (t : ℕ) (l : Locals) (place : Expr) (value : Expr) → x ≡ Assign place value → judged_form c x t l ≡ plain l (assign c t place value l)
judged_assign c x t l place value h = judged_at c x (f.Assign place value) t l (h ∙ sym (rolls-Assign place value))

pub judged_compound : (c : Context) (x : StmtForm) (t : ℕ) (l : Locals) (name : Name) (sign : Sign) (value : Expr) → x ≡ Compound name sign value → judged_form c x t l ≡ plain l (compound c t name sign value l)
judged_compound c x t l name sign value h = judged_at c x (f.Compound name sign value) t l (h ∙ sym (rolls-Compound name sign value))

pub judged_up : (c : Context) (x : StmtForm) (t : ℕ) (l : Locals) (name : Name) → x ≡ Up name → judged_form c x t l ≡ plain l (step t name l)
judged_up c x t l name h = judged_at c x (f.Up name) t l (h ∙ sym (rolls-Up name))

pub judged_down : (c : Context) (x : StmtForm) (t : ℕ) (l : Locals) (name : Name) → x ≡ Down name → judged_form c x t l ≡ plain l (step t name l)
judged_down c x t l name h = judged_at c x (f.Down name) t l (h ∙ sym (rolls-Down name))

pub judged_call : (c : Context) (x : StmtForm) (t : ℕ) (l : Locals) (e : Expr) → x ≡ Call e → judged_form c x t l ≡ plain l (typed c e false l).notes
judged_call c x t l e h = judged_at c x (f.Call e) t l (h ∙ sym (rolls-Call e))

pub judged_if : (c : Context) (x : StmtForm) (t : ℕ) (l : Locals) (test : Expr) (other : Option Stmt) (s s' : Stmt) → x ≡ If test s other → s' ≡ s → judged_form c x t l ≡ behind (condition c t test l) (branches (judged c s') (option_map (judged c) other) l)
judged_if c x t l test None s s' h u = judged_at c x (f.If test s' None) t l (h ∙ (λ i. If test (sym u i) None) ∙ sym (rolls-If test s' None))
judged_if c x t l test (Some o) s s' h u = judged_at c x (f.If test s' (Some o)) t l (h ∙ (λ i. If test (sym u i) (Some o)) ∙ sym (rolls-If test s' (Some o)))

pub judged_while : (c : Context) (x : StmtForm) (t : ℕ) (l : Locals) (test : Expr) (s s' : Stmt) → x ≡ While test s → s' ≡ s → judged_form c x t l ≡ behind (condition c t test l) (completing (judged c s' true l))
judged_while c x t l test s s' h u0 = judged_at c x (f.While test s') t l (h ∙ (λ i. While test (sym u0 i)) ∙ sym (rolls-While test s'))

pub judged_for : (c : Context) (x : StmtForm) (t : ℕ) (l : Locals) (test : Expr) (s s' : Stmt) (u u' : Stmt) (v v' : Stmt) → x ≡ For s test u v → s' ≡ s → u' ≡ u → v' ≡ v → judged_form c x t l ≡ for_loop c t (judged c s') test (judged c u') (judged c v') l
judged_for c x t l test s s' u u' v v' h h0 h1 h2 = judged_at c x (f.For s' test u' v') t l (h ∙ (λ i. For (sym h0 i) test (sym h1 i) (sym h2 i)) ∙ sym (rolls-For s' test u' v'))

pub judged_return : (c : Context) (x : StmtForm) (t : ℕ) (l : Locals) (value : Option Expr) → x ≡ Return value → judged_form c x t l ≡ returned l (return_notes c t value l)
judged_return c x t l value h = judged_at c x (f.Return value) t l (h ∙ sym (rolls-Return value))

pub judged_print : (c : Context) (x : StmtForm) (t : ℕ) (l : Locals) (value : Expr) → x ≡ Print value → judged_form c x t l ≡ plain l (print c t value l)
judged_print c x t l value h = judged_at c x (f.Print value) t l (h ∙ sym (rolls-Print value))

pub ruleset forms = (judged_by_form, judged_block, judged_empty, judged_local, judged_assign, judged_compound, judged_up, judged_down, judged_call, judged_if, judged_while, judged_for, judged_return, judged_print)
