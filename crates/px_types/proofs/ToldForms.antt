-- What is known of each form of a statement.
use Rattle.std.proofs.Common.{◌≡◌, List, [], ◌∷◌, ◌++◌, map, Some, None, Option, Result, Ok, Err, OnOk, sym, ap, ◌∙◌}
use Rattle.std.specs.Option.{option_map}
use Rattle.px_tree.specs.declared.Sign.{Sign}
use Rattle.px_tree.specs.declared.Name.{Name}
use Rattle.px_tree.specs.declared.TypeName.{TypeName}
use Rattle.px_tree.specs.declared.Expr.{Expr}
use Rattle.px_tree.specs.declared.Stmt.{Stmt, fold_out-Stmt}
use Rattle.px_tree.specs.declared.StmtForm.{StmtForm, StmtForm-F, fold-StmtForm, fold-roll-StmtForm, roll-StmtForm, map-StmtForm}
use Rattle.px_tree.specs.declared.StmtForm.TheVariants.{Block, rolls-Block, Empty, rolls-Empty, Local, rolls-Local, Assign, rolls-Assign, Compound, rolls-Compound, Up, rolls-Up, Down, rolls-Down, Call, rolls-Call, If, rolls-If, While, rolls-While, For, rolls-For, Return, rolls-Return, Print, rolls-Print}
use Rattle.px_tree.specs.declared.StmtForm.TheOpen.{StmtForm-F as f}
use Rattle.px_types.specs.declared.node.Node.{Node}
use Rattle.px_types.specs.declared.home.Home.{Home}
use Rattle.px_types.specs.declared.scope.Scope.{Scope}
use Rattle.px_types.specs.Known.{known, fact_only, all_nodes}
use Rattle.px_types.specs.Facts.{no_fact}
use Rattle.px_types.proofs.KnownForms.{both_added}
use Rattle.px_types.specs.Told.{Tells, told, told_step, whole, plain, block_told, local_told, assign_told, change_told, value_told, return_told, if_told, while_told, for_told}

told_at : (c : Home) (s : Stmt) (y : StmtForm-F StmtForm Stmt) (l : Scope) → s.form ≡ roll-StmtForm y → told c s l ≡ told_step c (map-StmtForm StmtForm Stmt Tells Tells (fold-StmtForm Tells Tells (told_step c) whole) (told c) y) l
unfolding told
told_at c s y l h =
    ap (λ (j : Tells). j l)
    (fold_out-Stmt Tells Tells (told_step c) whole s ∙ ap (fold-StmtForm Tells Tells (told_step c) whole) h
    ∙ fold-roll-StmtForm Tells Tells (told_step c) whole y)

pub told_block : (c : Home) (s : Stmt) (l : Scope) (items : List Stmt) → s.form ≡ Block items → told c s l ≡ block_told (map (told c) items) l
told_block c s l items h = told_at c s (f.Block items) l (h ∙ sym (rolls-Block items))

pub told_empty : (c : Home) (s : Stmt) (l : Scope) → s.form ≡ Empty → told c s l ≡ plain [] l
told_empty c s l h = told_at c s f.Empty l (h ∙ sym rolls-Empty)

pub told_local : (c : Home) (s : Stmt) (l : Scope) (of : TypeName) (name : Name) (value : Expr) → s.form ≡ Local of name value → told c s l ≡ local_told c of name value l
told_local c s l of name value h = told_at c s (f.Local of name value) l (h ∙ sym (rolls-Local of name value))

pub told_assign : (c : Home) (s : Stmt) (l : Scope) (place value : Expr) → s.form ≡ Assign place value → told c s l ≡ assign_told c place value l
told_assign c s l place value h = told_at c s (f.Assign place value) l (h ∙ sym (rolls-Assign place value))

pub told_compound : (c : Home) (s : Stmt) (l : Scope) (name : Name) (sign : Sign) (value : Expr) → s.form ≡ Compound name sign value → told c s l ≡ change_told name (all_nodes (known c value l)) l
told_compound c s l name sign value h = told_at c s (f.Compound name sign value) l (h ∙ sym (rolls-Compound name sign value))

pub told_up : (c : Home) (s : Stmt) (l : Scope) (name : Name) → s.form ≡ Up name → told c s l ≡ change_told name [] l
told_up c s l name h = told_at c s (f.Up name) l (h ∙ sym (rolls-Up name))

pub told_down : (c : Home) (s : Stmt) (l : Scope) (name : Name) → s.form ≡ Down name → told c s l ≡ change_told name [] l
told_down c s l name h = told_at c s (f.Down name) l (h ∙ sym (rolls-Down name))

pub told_call : (c : Home) (s : Stmt) (l : Scope) (value : Expr) → s.form ≡ Call value → told c s l ≡ value_told c value l
told_call c s l value h = told_at c s (f.Call value) l (h ∙ sym (rolls-Call value))

pub told_if : (c : Home) (s : Stmt) (l : Scope) (test : Expr) (other : Option Stmt) (s1 s1' : Stmt) → s.form ≡ If test s1 other → s1' ≡ s1 → told c s l ≡ if_told c test (told c s1') (option_map (told c) other) l
told_if c s l test None s1 s1' h u = told_at c s (f.If test s1' None) l (h ∙ (λ i. If test (sym u i) None) ∙ sym (rolls-If test s1' None))
told_if c s l test (Some o) s1 s1' h u = told_at c s (f.If test s1' (Some o)) l (h ∙ (λ i. If test (sym u i) (Some o)) ∙ sym (rolls-If test s1' (Some o)))

pub told_while : (c : Home) (s : Stmt) (l : Scope) (test : Expr) (body body' : Stmt) → s.form ≡ While test body → body' ≡ body → told c s l ≡ while_told c test (told c body') l
told_while c s l test body body' h u = told_at c s (f.While test body') l (h ∙ (λ i. While test (sym u i)) ∙ sym (rolls-While test body'))

pub told_for : (c : Home) (s : Stmt) (l : Scope) (test : Expr) (x x' y y' z z' : Stmt) → s.form ≡ For x test y z → x' ≡ x → y' ≡ y → z' ≡ z → told c s l ≡ for_told c (told c x') test (told c y') (told c z') l
told_for c s l test x x' y y' z z' h u v w = told_at c s (f.For x' test y' z') l (h ∙ (λ i. For (sym u i) test (sym v i) (sym w i)) ∙ sym (rolls-For x' test y' z'))

pub told_return : (c : Home) (s : Stmt) (l : Scope) (value : Option Expr) → s.form ≡ Return value → told c s l ≡ return_told c value l
told_return c s l value h = told_at c s (f.Return value) l (h ∙ sym (rolls-Return value))

pub told_print : (c : Home) (s : Stmt) (l : Scope) (value : Expr) → s.form ≡ Print value → told c s l ≡ value_told c value l
told_print c s l value h = told_at c s (f.Print value) l (h ∙ sym (rolls-Print value))

pub ruleset forms = (told_block, told_empty, told_local, told_assign, told_compound, told_up, told_down, told_call, told_if, told_while, told_for, told_return, told_print)

-- ---- one part after another

pub then_added : {A E : Type 0} (r : Result A E) (f0 f1 f2 xs ys : List Node) → f1 ≡ f0 ++ xs → OnOk r (f2 ≡ f1 ++ ys) → OnOk r (f2 ≡ f0 ++ (xs ++ ys))
then_added (Ok a) f0 f1 f2 xs ys h k = both_added f0 f1 f2 xs ys h k
then_added (Err e) f0 f1 f2 xs ys h k = tt

pub same_on : {A E X : Type 0} (r : Result A E) (a b c : X) → OnOk r (a ≡ b) → b ≡ c → OnOk r (a ≡ c)
same_on (Ok x) a b c h k = h ∙ k
same_on (Err e) a b c h k = tt

-- the parts of a `for`, each behind the locals of the one before it
pub for_scopes : (first last body : Tells) (l0 l1 l2 l3 : Scope) → l1 ≡ (first l0).scope → l2 ≡ (last l1).scope → l3 ≡ (body l2).scope → l3 ≡ (body (last (first l0).scope).scope).scope
for_scopes first last body l0 l1 l2 l3 e1 e2 e3 = e3 ∙ (λ i. (body (e2 i)).scope) ∙ (λ i. (body (last (e1 i)).scope).scope)

pub for_nodes : (c : Home) (first last body : Tells) (test : Expr) (l0 l1 l2 : Scope) (f0 f1 f2 f3 f4 f5 : List Node)
    → f1 ≡ f0 ++ fact_only no_fact ∷ [] → l1 ≡ (first l0).scope → f2 ≡ f1 ++ (first l0).nodes → f3 ≡ f2 ++ all_nodes (known c test l1)
    → l2 ≡ (last l1).scope → f4 ≡ f3 ++ (last l1).nodes → f5 ≡ f4 ++ (body l2).nodes
    → f5 ≡ f0 ++ (for_told c first test last body l0).nodes
for_nodes c first last body test l0 l1 l2 f0 f1 f2 f3 f4 f5 n0 e1 n1 n2 e2 n3 n4 =
    let f = (first l0).nodes in
    let t = all_nodes (known c test l1) in
    let l = (last l1).nodes in
    let b = (body l2).nodes in
    both_added f0 f1 f5 (fact_only no_fact ∷ []) (f ++ (t ++ (l ++ b))) n0
    (both_added f1 f2 f5 f (t ++ (l ++ b)) n1
    (both_added f2 f3 f5 t (l ++ b) n2
    (both_added f3 f4 f5 l b n3 n4)))
    ∙ (λ i. f0 ++ fact_only no_fact ∷ (f ++ (t ++ (l ++ (body (e2 i)).nodes))))
    ∙ (λ i. f0 ++ fact_only no_fact ∷ (f ++ (all_nodes (known c test (e1 i)) ++ ((last (e1 i)).nodes ++ (body (last (e1 i)).scope).nodes))))
