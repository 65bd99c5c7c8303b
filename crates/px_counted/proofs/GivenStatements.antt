-- How often a counter's number is given in each form of a statement, as an equation.
use Rattle.std.proofs.Common.{◌≡◌, ℕ, ◌+◌, List, [], ◌∷◌, map, Some, None, refl, ap, ◌∙◌, arith}
use Rattle.px_tree.specs.declared.Sign.{Sign}
use Rattle.px_tree.specs.declared.Name.{Name as NameData}
use Rattle.px_tree.specs.declared.TypeName.{TypeName}
use Rattle.px_tree.specs.declared.Expr.{Expr}
use Rattle.px_tree.specs.declared.Stmt.{Stmt}
use Rattle.px_tree.specs.declared.StmtForm.TheVariants.{Block, Empty, Local, Assign, Compound, Up, Down, Call, If, While, For, Return, Print}
use Rattle.px_normal.specs.declared.node.Counter.{Counter}
use Rattle.px_normal.specs.declared.node.Counter.TheVariants.{Begun, Completed, Entered, ReachedEnd}
use Rattle.px_counted.specs.Numbers.{all_of, given_statement}
use Rattle.px_counted.proofs.GivenNumbers.{given_block, given_empty, given_local, given_assign, given_compound, given_up, given_down, given_call_statement, given_if_only, given_if_else, given_while, given_for, given_leave, given_return, given_print}
use Rattle.px_counted.proofs.Given.{gives, own_by}

unfoldable pub does_give : Counter → Stmt → ℕ
does_give (Begun i) x = given_statement i x
does_give (Completed i) x = given_statement i x
does_give (Entered m) x = 0
does_give (ReachedEnd m) x = 0

abbrev pub all_give : Counter → List Stmt → ℕ
all_give c [] = 0
all_give c (x ∷ xs) = does_give c x + all_give c xs

all_begun : (i : ℕ) (xs : List Stmt) → all_of (map (given_statement i) xs) ≡ all_give (Begun i) xs
unfolding does_give
all_begun i [] = refl
all_begun i (x ∷ xs) = ap (λ (q : ℕ). given_statement i x + q) (all_begun i xs)

all_completed : (i : ℕ) (xs : List Stmt) → all_of (map (given_statement i) xs) ≡ all_give (Completed i) xs
unfolding does_give
all_completed i [] = refl
all_completed i (x ∷ xs) = ap (λ (q : ℕ). given_statement i x + q) (all_completed i xs)

all_entered : (m : ℕ) (xs : List Stmt) → 0 ≡ all_give (Entered m) xs
unfolding does_give
all_entered m [] = refl
all_entered m (x ∷ xs) = all_entered m xs ∙ omega (arith)

all_reached : (m : ℕ) (xs : List Stmt) → 0 ≡ all_give (ReachedEnd m) xs
unfolding does_give
all_reached m [] = refl
all_reached m (x ∷ xs) = all_reached m xs ∙ omega (arith)

pub gives_block : (c : Counter) (x : Stmt) (items : List Stmt) → x.form ≡ Block items → does_give c x ≡ own_by c x.id + all_give c items
unfolding does_give
gives_block (Begun i) x items h = given_block i x items h ∙ ap (λ (q : ℕ). own_by (Begun i) x.id + q) (all_begun i items)
gives_block (Completed i) x items h = given_block i x items h ∙ ap (λ (q : ℕ). own_by (Completed i) x.id + q) (all_completed i items)
gives_block (Entered m) x items h = all_entered m items ∙ omega (arith)
gives_block (ReachedEnd m) x items h = all_reached m items ∙ omega (arith)

pub gives_empty : (c : Counter) (x : Stmt) → x.form ≡ Empty → does_give c x ≡ own_by c x.id + 0
unfolding gives does_give
gives_empty (Begun i) x h = given_empty i x h
gives_empty (Completed i) x h = given_empty i x h
gives_empty (Entered m) x h = refl
gives_empty (ReachedEnd m) x h = refl

pub gives_local : (c : Counter) (x : Stmt) (t : TypeName) (n : NameData) (e : Expr) → x.form ≡ Local t n e → does_give c x ≡ own_by c x.id + gives c e
unfolding gives does_give
gives_local (Begun i) x t n e h = given_local i x t n e h
gives_local (Completed i) x t n e h = given_local i x t n e h
gives_local (Entered m) x t n e h = refl
gives_local (ReachedEnd m) x t n e h = refl

pub gives_assign : (c : Counter) (x : Stmt) (place e : Expr) → x.form ≡ Assign place e → does_give c x ≡ own_by c x.id + (gives c place + gives c e)
unfolding gives does_give
gives_assign (Begun i) x place e h = given_assign i x place e h
gives_assign (Completed i) x place e h = given_assign i x place e h
gives_assign (Entered m) x place e h = refl
gives_assign (ReachedEnd m) x place e h = refl

pub gives_compound : (c : Counter) (x : Stmt) (n : NameData) (s : Sign) (e : Expr) → x.form ≡ Compound n s e → does_give c x ≡ own_by c x.id + gives c e
unfolding gives does_give
gives_compound (Begun i) x n s e h = given_compound i x n s e h
gives_compound (Completed i) x n s e h = given_compound i x n s e h
gives_compound (Entered m) x n s e h = refl
gives_compound (ReachedEnd m) x n s e h = refl

pub gives_up : (c : Counter) (x : Stmt) (n : NameData) → x.form ≡ Up n → does_give c x ≡ own_by c x.id + 0
unfolding gives does_give
gives_up (Begun i) x n h = given_up i x n h
gives_up (Completed i) x n h = given_up i x n h
gives_up (Entered m) x n h = refl
gives_up (ReachedEnd m) x n h = refl

pub gives_down : (c : Counter) (x : Stmt) (n : NameData) → x.form ≡ Down n → does_give c x ≡ own_by c x.id + 0
unfolding gives does_give
gives_down (Begun i) x n h = given_down i x n h
gives_down (Completed i) x n h = given_down i x n h
gives_down (Entered m) x n h = refl
gives_down (ReachedEnd m) x n h = refl

pub gives_call_statement : (c : Counter) (x : Stmt) (e : Expr) → x.form ≡ Call e → does_give c x ≡ own_by c x.id + gives c e
unfolding gives does_give
gives_call_statement (Begun i) x e h = given_call_statement i x e h
gives_call_statement (Completed i) x e h = given_call_statement i x e h
gives_call_statement (Entered m) x e h = refl
gives_call_statement (ReachedEnd m) x e h = refl

pub gives_if_only : (c : Counter) (x : Stmt) (test : Expr) (a : Stmt) → x.form ≡ If test a None → does_give c x ≡ own_by c x.id + (gives c test + (does_give c a + 0))
unfolding gives does_give
gives_if_only (Begun i) x test a h = given_if_only i x test a h
gives_if_only (Completed i) x test a h = given_if_only i x test a h
gives_if_only (Entered m) x test a h = refl
gives_if_only (ReachedEnd m) x test a h = refl

pub gives_if_else : (c : Counter) (x : Stmt) (test : Expr) (a b : Stmt) → x.form ≡ If test a (Some b) → does_give c x ≡ own_by c x.id + (gives c test + (does_give c a + does_give c b))
unfolding gives does_give
gives_if_else (Begun i) x test a b h = given_if_else i x test a b h
gives_if_else (Completed i) x test a b h = given_if_else i x test a b h
gives_if_else (Entered m) x test a b h = refl
gives_if_else (ReachedEnd m) x test a b h = refl

pub gives_while : (c : Counter) (x : Stmt) (test : Expr) (body : Stmt) → x.form ≡ While test body → does_give c x ≡ own_by c x.id + (gives c test + does_give c body)
unfolding gives does_give
gives_while (Begun i) x test body h = given_while i x test body h
gives_while (Completed i) x test body h = given_while i x test body h
gives_while (Entered m) x test body h = refl
gives_while (ReachedEnd m) x test body h = refl

pub gives_for : (c : Counter) (x : Stmt) (first : Stmt) (test : Expr) (last body : Stmt) → x.form ≡ For first test last body → does_give c x ≡ own_by c x.id + (does_give c first + (gives c test + (does_give c last + does_give c body)))
unfolding gives does_give
gives_for (Begun i) x first test last body h = given_for i x first test last body h
gives_for (Completed i) x first test last body h = given_for i x first test last body h
gives_for (Entered m) x first test last body h = refl
gives_for (ReachedEnd m) x first test last body h = refl

pub gives_leave : (c : Counter) (x : Stmt) → x.form ≡ Return None → does_give c x ≡ own_by c x.id + 0
unfolding gives does_give
gives_leave (Begun i) x h = given_leave i x h
gives_leave (Completed i) x h = given_leave i x h
gives_leave (Entered m) x h = refl
gives_leave (ReachedEnd m) x h = refl

pub gives_return : (c : Counter) (x : Stmt) (e : Expr) → x.form ≡ Return (Some e) → does_give c x ≡ own_by c x.id + gives c e
unfolding gives does_give
gives_return (Begun i) x e h = given_return i x e h
gives_return (Completed i) x e h = given_return i x e h
gives_return (Entered m) x e h = refl
gives_return (ReachedEnd m) x e h = refl

pub gives_print : (c : Counter) (x : Stmt) (e : Expr) → x.form ≡ Print e → does_give c x ≡ own_by c x.id + gives c e
unfolding gives does_give
gives_print (Begun i) x e h = given_print i x e h
gives_print (Completed i) x e h = given_print i x e h
gives_print (Entered m) x e h = refl
gives_print (ReachedEnd m) x e h = refl
