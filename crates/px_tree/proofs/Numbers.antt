-- The numbering of each form.
use Rattle.std.proofs.Common.{◌≡◌, ℕ, ◌+◌, Bool, List, [], ◌∷◌, ◌++◌, map, reverse, Option, Some, None, option_map, Result, Ok, Err, IfOk, OnOk, refl, sym, ap, subst, ◌∙◌, append_assoc}
use Rattle.std.proofs.lemmas.List.{append-nil, reverse-append, reverse-reverse}
use Rattle.std.specs.declared.alloc.AllocError.{AllocError}
use Rattle.px_tree.specs.declared.Sign.{Sign}
use Rattle.px_tree.specs.declared.Base.{Base}
use Rattle.px_tree.specs.declared.Name.{Name as NameData}
use Rattle.px_tree.specs.declared.TypeName.{TypeName}
use Rattle.px_tree.specs.declared.Expr.{Expr, fold_out-Expr}
use Rattle.px_tree.specs.declared.ExprForm.{ExprForm, ExprForm-F, fold-roll-ExprForm, roll-ExprForm, map-ExprForm}
use Rattle.px_tree.specs.declared.ExprForm.TheVariants.{Number, Str, True, False, Null, This, Name, Group, Field, Index, Call, NewObject, NewArray, Prefix, Binary, rolls-Number, rolls-Str, rolls-True, rolls-False, rolls-Null, rolls-This, rolls-Name, rolls-Group, rolls-Field, rolls-Index, rolls-Call, rolls-NewObject, rolls-NewArray, rolls-Prefix, rolls-Binary}
use Rattle.px_tree.specs.declared.ExprForm.TheOpen.{ExprForm-F as e}
use Rattle.px_tree.specs.declared.Stmt.{Stmt, fold_out-Stmt}
use Rattle.px_tree.specs.declared.StmtForm.{StmtForm, StmtForm-F, fold-roll-StmtForm, roll-StmtForm, map-StmtForm}
use Rattle.px_tree.specs.declared.StmtForm.TheVariants.{Block, Empty, Local, Assign, Compound, Up, Down, Call as CallStmt, If, While, For, Return, Print, rolls-Block, rolls-Empty, rolls-Local, rolls-Assign, rolls-Compound, rolls-Up, rolls-Down, rolls-Call as rolls-CallStmt, rolls-If, rolls-While, rolls-For, rolls-Return, rolls-Print}
use Rattle.px_tree.specs.declared.StmtForm.TheOpen.{StmtForm-F as s}
use Rattle.px_tree.specs.Parts.{Made, with_part, both, if_of, while_of, for_of, statement_of}
use Rattle.px_tree.specs.Numbering.{Numbering, ◌>>=◌, pure, fresh, in_order, number_if, number_expression_form, number_expression, numbered_expression, numbered_expression_form, number_returned, number_statement_form, number_statement, numbered_statement, numbered_statement_form}

-- ---- expressions

pub numbered_expression_is : (x : Expr) → numbered_expression x ≡ (fresh >>= (λ n. numbered_expression_form x.form >>= (λ form. pure (record { id = n; token = x.token; form = form }))))
unfolding numbered_expression numbered_expression_form
numbered_expression_is x = fold_out-Expr (Numbering ExprForm) (Numbering Expr) number_expression_form number_expression x

at_form : (x : ExprForm-F ExprForm Expr) (form : ExprForm) → form ≡ roll-ExprForm x → numbered_expression_form form ≡ number_expression_form (map-ExprForm ExprForm Expr (Numbering ExprForm) (Numbering Expr) numbered_expression_form numbered_expression x)
unfolding numbered_expression numbered_expression_form
at_form x form h = ap numbered_expression_form h ∙ fold-roll-ExprForm (Numbering ExprForm) (Numbering Expr) number_expression_form number_expression x

pub of_number : (digits : List ℕ) (long : Bool) → numbered_expression_form (Number digits long) ≡ pure (Number digits long)
of_number digits long = at_form (e.Number digits long) _ (sym (rolls-Number digits long))

pub of_text : (bytes : List ℕ) → numbered_expression_form (Str bytes) ≡ pure (Str bytes)
of_text bytes = at_form (e.Str bytes) _ (sym (rolls-Str bytes))

pub of_true : numbered_expression_form True ≡ pure True
of_true = at_form e.True _ (sym rolls-True)

pub of_false : numbered_expression_form False ≡ pure False
of_false = at_form e.False _ (sym rolls-False)

pub of_null : numbered_expression_form Null ≡ pure Null
of_null = at_form e.Null _ (sym rolls-Null)

pub of_this : numbered_expression_form This ≡ pure This
of_this = at_form e.This _ (sym rolls-This)

pub of_name : (name : NameData) → numbered_expression_form (Name name) ≡ pure (Name name)
of_name name = at_form (e.Name name) _ (sym (rolls-Name name))

pub of_group : (inner : Expr) → numbered_expression_form (Group inner) ≡ (numbered_expression inner >>= (λ x. pure (Group x)))
of_group inner = at_form (e.Group inner) _ (sym (rolls-Group inner))

pub of_field : (of : Expr) (name : NameData) → numbered_expression_form (Field of name) ≡ (numbered_expression of >>= (λ x. pure (Field x name)))
of_field of name = at_form (e.Field of name) _ (sym (rolls-Field of name))

pub of_index : (of index : Expr) → numbered_expression_form (Index of index) ≡ (numbered_expression of >>= (λ x. numbered_expression index >>= (λ y. pure (Index x y))))
of_index of index = at_form (e.Index of index) _ (sym (rolls-Index of index))

pub of_call : (of : Option Expr) (name : NameData) (args : List Expr) → numbered_expression_form (Call of name args) ≡ (number_if (option_map numbered_expression of) >>= (λ x. in_order (map numbered_expression args) >>= (λ ys. pure (Call x name ys))))
of_call None name args = at_form (e.Call None name args) _ (sym (rolls-Call None name args))
of_call (Some of) name args = at_form (e.Call (Some of) name args) _ (sym (rolls-Call (Some of) name args))

pub of_object : (name : NameData) → numbered_expression_form (NewObject name) ≡ pure (NewObject name)
of_object name = at_form (e.NewObject name) _ (sym (rolls-NewObject name))

pub of_array : (base : Base) (size : Expr) → numbered_expression_form (NewArray base size) ≡ (numbered_expression size >>= (λ x. pure (NewArray base x)))
of_array base size = at_form (e.NewArray base size) _ (sym (rolls-NewArray base size))

pub of_prefix : (sign : Sign) (operand : Expr) → numbered_expression_form (Prefix sign operand) ≡ (numbered_expression operand >>= (λ x. pure (Prefix sign x)))
of_prefix sign operand = at_form (e.Prefix sign operand) _ (sym (rolls-Prefix sign operand))

pub of_binary : (sign : Sign) (at : ℕ) (l r : Expr) → numbered_expression_form (Binary sign at l r) ≡ (numbered_expression l >>= (λ x. numbered_expression r >>= (λ y. pure (Binary sign at x y))))
of_binary sign at l r = at_form (e.Binary sign at l r) _ (sym (rolls-Binary sign at l r))

-- ---- statements

pub numbered_statement_is : (x : Stmt) → numbered_statement x ≡ (fresh >>= (λ n. numbered_statement_form x.form >>= (λ form. pure (record { id = n; token = x.token; form = form }))))
unfolding numbered_statement numbered_statement_form
numbered_statement_is x = fold_out-Stmt (Numbering StmtForm) (Numbering Stmt) number_statement_form number_statement x

at_statement : (x : StmtForm-F StmtForm Stmt) (form : StmtForm) → form ≡ roll-StmtForm x → numbered_statement_form form ≡ number_statement_form (map-StmtForm StmtForm Stmt (Numbering StmtForm) (Numbering Stmt) numbered_statement_form numbered_statement x)
unfolding numbered_statement numbered_statement_form
at_statement x form h = ap numbered_statement_form h ∙ fold-roll-StmtForm (Numbering StmtForm) (Numbering Stmt) number_statement_form number_statement x

pub of_block : (items : List Stmt) → numbered_statement_form (Block items) ≡ (in_order (map numbered_statement items) >>= (λ xs. pure (Block xs)))
of_block items = at_statement (s.Block items) _ (sym (rolls-Block items))

pub of_empty : numbered_statement_form Empty ≡ pure Empty
of_empty = at_statement s.Empty _ (sym rolls-Empty)

pub of_local : (ty : TypeName) (name : NameData) (value : Expr) → numbered_statement_form (Local ty name value) ≡ (numbered_expression value >>= (λ x. pure (Local ty name x)))
of_local ty name value = at_statement (s.Local ty name value) _ (sym (rolls-Local ty name value))

pub of_assign : (place value : Expr) → numbered_statement_form (Assign place value) ≡ (numbered_expression place >>= (λ p. numbered_expression value >>= (λ x. pure (Assign p x))))
of_assign place value = at_statement (s.Assign place value) _ (sym (rolls-Assign place value))

pub of_compound : (name : NameData) (sign : Sign) (value : Expr) → numbered_statement_form (Compound name sign value) ≡ (numbered_expression value >>= (λ x. pure (Compound name sign x)))
of_compound name sign value = at_statement (s.Compound name sign value) _ (sym (rolls-Compound name sign value))

pub of_up : (name : NameData) → numbered_statement_form (Up name) ≡ pure (Up name)
of_up name = at_statement (s.Up name) _ (sym (rolls-Up name))

pub of_down : (name : NameData) → numbered_statement_form (Down name) ≡ pure (Down name)
of_down name = at_statement (s.Down name) _ (sym (rolls-Down name))

pub of_call_statement : (call : Expr) → numbered_statement_form (CallStmt call) ≡ (numbered_expression call >>= (λ x. pure (CallStmt x)))
of_call_statement call = at_statement (s.Call call) _ (sym (rolls-CallStmt call))

pub of_if : (test : Expr) (then_part : Stmt) (else_part : Option Stmt) → numbered_statement_form (If test then_part else_part) ≡ (numbered_expression test >>= (λ t. numbered_statement then_part >>= (λ x. number_if (option_map numbered_statement else_part) >>= (λ y. pure (If t x y)))))
of_if test then_part None = at_statement (s.If test then_part None) _ (sym (rolls-If test then_part None))
of_if test then_part (Some else_part) = at_statement (s.If test then_part (Some else_part)) _ (sym (rolls-If test then_part (Some else_part)))

pub of_while : (test : Expr) (body : Stmt) → numbered_statement_form (While test body) ≡ (numbered_expression test >>= (λ t. numbered_statement body >>= (λ b. pure (While t b))))
of_while test body = at_statement (s.While test body) _ (sym (rolls-While test body))

pub of_for : (first : Stmt) (test : Expr) (last body : Stmt) → numbered_statement_form (For first test last body) ≡ (numbered_statement first >>= (λ f. numbered_expression test >>= (λ t. numbered_statement last >>= (λ l. numbered_statement body >>= (λ b. pure (For f t l b))))))
of_for first test last body = at_statement (s.For first test last body) _ (sym (rolls-For first test last body))

pub of_return : (value : Option Expr) → numbered_statement_form (Return value) ≡ (number_returned value >>= (λ x. pure (Return x)))
of_return value = at_statement (s.Return value) _ (sym (rolls-Return value))

pub of_print : (value : Expr) → numbered_statement_form (Print value) ≡ (numbered_expression value >>= (λ x. pure (Print x)))
of_print value = at_statement (s.Print value) _ (sym (rolls-Print value))

-- ---- a form by its parts

pub no_part : {B : Type 0} (whole : Numbering B) (x : B) (n : ℕ) → whole ≡ pure x → whole n ≡ (x, n)
no_part whole x n h = ap (λ (k : Numbering _). k n) h

pub one_part : {A B : Type 0} (whole : Numbering B) (part : Numbering A) (wrap : A → B) (n m : ℕ) (x : A) → whole ≡ (part >>= (λ y. pure (wrap y))) → part n ≡ (x, m) → whole n ≡ (wrap x, m)
one_part {A} {B} whole part wrap n m x h p = ap (λ (k : Numbering B). k n) h ∙ ap (λ (q : A × ℕ). let r : B × ℕ = (wrap q.0, q.1) in r) p

pub two_parts : {A B C : Type 0} (whole : Numbering C) (first : Numbering A) (second : Numbering B) (wrap : A → B → C) (n m k : ℕ) (x : A) (y : B) → whole ≡ (first >>= (λ a. second >>= (λ b. pure (wrap a b)))) → first n ≡ (x, m) → second m ≡ (y, k) → whole n ≡ (wrap x y, k)
two_parts {A} {B} {C} whole first second wrap n m k x y h p q =
    ap (λ (f : Numbering C). f n) h ∙ ap (λ (z : A × ℕ). let r : C × ℕ = (wrap z.0 (second z.1).0, (second z.1).1) in r) p
    ∙ ap (λ (z : B × ℕ). let r : C × ℕ = (wrap x z.0, z.1) in r) q

pub three_parts : {A B C D : Type 0} (whole : Numbering D) (first : Numbering A) (second : Numbering B) (third : Numbering C) (wrap : A → B → C → D) (n m k j : ℕ) (x : A) (y : B) (z : C) → whole ≡ (first >>= (λ a. second >>= (λ b. third >>= (λ c. pure (wrap a b c))))) → first n ≡ (x, m) → second m ≡ (y, k) → third k ≡ (z, j) → whole n ≡ (wrap x y z, j)
three_parts {A} {B} {C} {D} whole first second third wrap n m k j x y z h p q r =
    ap (λ (f : Numbering D). f n) h ∙ ap (λ (v : A × ℕ). (second >>= (λ b. third >>= (λ c. pure (wrap v.0 b c)))) v.1) p
    ∙ two_parts (second >>= (λ b. third >>= (λ c. pure (wrap x b c)))) second third (wrap x) m k j y z refl q r

pub four_parts : {A B C D E : Type 0} (whole : Numbering E) (first : Numbering A) (second : Numbering B) (third : Numbering C) (fourth : Numbering D) (wrap : A → B → C → D → E) (n m k j i : ℕ) (x : A) (y : B) (z : C) (w : D)
    → whole ≡ (first >>= (λ a. second >>= (λ b. third >>= (λ c. fourth >>= (λ d. pure (wrap a b c d)))))) → first n ≡ (x, m) → second m ≡ (y, k) → third k ≡ (z, j) → fourth j ≡ (w, i) → whole n ≡ (wrap x y z w, i)
four_parts {A} {B} {C} {D} {E} whole first second third fourth wrap n m k j i x y z w h p q r t =
    ap (λ (f : Numbering E). f n) h ∙ ap (λ (v : A × ℕ). (second >>= (λ b. third >>= (λ c. fourth >>= (λ d. pure (wrap v.0 b c d))))) v.1) p
    ∙ three_parts (second >>= (λ b. third >>= (λ c. fourth >>= (λ d. pure (wrap x b c d))))) second third fourth (wrap x) m k j i y z w refl q r t

-- what numbers a form that is told
pub same_form : (form told : StmtForm) (result : Result StmtForm AllocError) (n m : ℕ) → form ≡ told → IfOk result (λ x. numbered_statement_form told n ≡ (x, m)) → IfOk result (λ x. numbered_statement_form form n ≡ (x, m))
same_form form told (Ok x) n m e h = ap (λ (f : StmtForm). numbered_statement_form f n) e ∙ h
same_form form told (Err x) n m e h = tt

pub an_expression : (x : Expr) (n id next m : ℕ) (form : ExprForm) → id ≡ n → next ≡ n + 1 → numbered_expression_form x.form next ≡ (form, m) → numbered_expression x n ≡ (record { id = id; token = x.token; form = form }, m)
an_expression x n id next m form h k p =
    ap (λ (f : Numbering Expr). f n) (numbered_expression_is x)
    ∙ ap (λ i. let r : Expr × ℕ = (record { id = n; token = x.token; form = (numbered_expression_form x.form i).0 }, (numbered_expression_form x.form i).1) in r) (sym k)
    ∙ ap (λ (q : ExprForm × ℕ). let r : Expr × ℕ = (record { id = n; token = x.token; form = q.0 }, q.1) in r) p
    ∙ ap (λ i. let r : Expr × ℕ = (record { id = i; token = x.token; form = form }, m) in r) (sym h)

pub a_statement : (x : Stmt) (n id next m : ℕ) (form : StmtForm) → id ≡ n → next ≡ n + 1 → numbered_statement_form x.form next ≡ (form, m) → numbered_statement x n ≡ (record { id = id; token = x.token; form = form }, m)
a_statement x n id next m form h k p =
    ap (λ (f : Numbering Stmt). f n) (numbered_statement_is x)
    ∙ ap (λ i. let r : Stmt × ℕ = (record { id = n; token = x.token; form = (numbered_statement_form x.form i).0 }, (numbered_statement_form x.form i).1) in r) (sym k)
    ∙ ap (λ (q : StmtForm × ℕ). let r : Stmt × ℕ = (record { id = n; token = x.token; form = q.0 }, q.1) in r) p
    ∙ ap (λ i. let r : Stmt × ℕ = (record { id = i; token = x.token; form = form }, m) in r) (sym h)

-- ---- lists

-- those that were numbered, and the rest
abbrev pub joined : {A : Type 0} → List A → List A × ℕ → List A × ℕ
joined xs p = (xs ++ p.0, p.1)

pub joined_first : {A : Type 0} (f : A → Numbering A) (x : A) (xs done more : List A) (y : A) (n m : ℕ) → f x n ≡ (y, m) → more ≡ done ++ y ∷ [] → joined done (in_order (map f (x ∷ xs)) n) ≡ joined more (in_order (map f xs) m)
joined_first {A} f x xs done more y n m p q =
    ap (λ (z : A × ℕ). let r : List A × ℕ = (done ++ (z.0 ∷ (in_order (map f xs) z.1).0), (in_order (map f xs) z.1).1) in r) p
    ∙ ap (λ (ys : List A). let r : List A × ℕ = (ys, (in_order (map f xs) m).1) in r) (sym (append_assoc done (y ∷ []) (in_order (map f xs) m).0))
    ∙ ap (λ (ys : List A). joined ys (in_order (map f xs) m)) (sym q)

pub joined_last : {A : Type 0} (f : A → Numbering A) (left done : List A) (n : ℕ) → left ≡ [] → joined done (in_order (map f (reverse left)) n) ≡ (done, n)
joined_last {A} f left done n h = ap (λ (xs : List A). joined done (in_order (map f (reverse xs)) n)) h ∙ ap (λ (ys : List A). let r : List A × ℕ = (ys, n) in r) (append-nil done)

pub reverse_last : {A : Type 0} (all front : List A) (x : A) → all ≡ front ++ x ∷ [] → reverse all ≡ x ∷ reverse front
reverse_last all front x h = ap reverse h ∙ reverse-append front (x ∷ [])

pub moved : {A : Type 0} (all front done more : List A) (x : A) → all ≡ front ++ x ∷ [] → more ≡ done ++ x ∷ [] → more ++ reverse front ≡ done ++ reverse all
moved all front done more x h k = ap (λ (xs : List _). xs ++ reverse front) k ∙ append_assoc done (x ∷ []) (reverse front) ∙ ap (λ (xs : List _). done ++ xs) (sym (reverse_last all front x h))

-- a turn of the loop: the last of those left in reverse is numbered
pub joined_turn : {A : Type 0} (f : A → Numbering A) (all front done more : List A) (x y : A) (n m : ℕ) → all ≡ front ++ x ∷ [] → f x n ≡ (y, m) → more ≡ done ++ y ∷ [] → joined done (in_order (map f (reverse all)) n) ≡ joined more (in_order (map f (reverse front)) m)
joined_turn f all front done more x y n m h p q =
    ap (λ (xs : List _). joined done (in_order (map f xs) n)) (reverse_last all front x h) ∙ joined_first f x (reverse front) done more y n m p q

pub joined_start : {A : Type 0} (f : A → Numbering A) (items left done : List A) (n : ℕ) → left ≡ reverse items → done ≡ [] → in_order (map f items) n ≡ joined done (in_order (map f (reverse left)) n)
joined_start f items left done n h k = ap (λ (xs : List _). joined [] (in_order (map f xs) n)) (sym (ap reverse h ∙ reverse-reverse items)) ∙ ap (λ (xs : List _). joined xs (in_order (map f (reverse left)) n)) (sym k)

-- ---- forms of parts that may have failed

with_kept : {A B : Type 0} (P : A → Type 0) (Q : B → Type 0) (r : Made A) (f : A → Made B) → IfOk r P → ((a : A) → P a → IfOk (f a) Q) → IfOk (with_part r f) Q
with_kept P Q (Ok a) f p k = k a p
with_kept P Q (Err e) f p k = tt

both_kept : {A B : Type 0} (P : A → Type 0) (Q : B → Type 0) (a : Made A) (b : Made B) → IfOk a P → IfOk b Q → IfOk (both a b) (λ p. P p.0 × Q p.1)
both_kept P Q (Ok x) (Ok y) p q = (p, q)
both_kept P Q (Ok x) (Err e) p q = tt
both_kept P Q (Err e) b p q = tt

pub if_numbered : (test : Expr) (then_part : Stmt) (else_part : Option Stmt) (n m k j : ℕ) (t : Made Expr) (y : Made Stmt) (z : Made (Option Stmt)) (result : Made StmtForm)
    → IfOk t (λ x. numbered_expression test n ≡ (x, m)) → IfOk y (λ x. numbered_statement then_part m ≡ (x, k)) → IfOk z (λ x. number_if (option_map numbered_statement else_part) k ≡ (x, j)) → result ≡ if_of t y z
    → IfOk result (λ x. numbered_statement_form (If test then_part else_part) n ≡ (x, j))
if_numbered test then_part else_part n m k j t y z result p q r h =
    let T : Expr → Type 0 = λ x. numbered_expression test n ≡ (x, m) in
    let Y : Stmt → Type 0 = λ x. numbered_statement then_part m ≡ (x, k) in
    let Z : Option Stmt → Type 0 = λ x. number_if (option_map numbered_statement else_part) k ≡ (x, j) in
    let W : StmtForm → Type 0 = λ x. numbered_statement_form (If test then_part else_part) n ≡ (x, j) in
    subst (λ (o : Made StmtForm). IfOk o W) (sym h)
    (with_kept (λ (x : Expr × (Stmt × Option Stmt)). T x.0 × (Y x.1.0 × Z x.1.1)) W (both t (both y z)) (λ x. Ok (If x.0 x.1.0 x.1.1))
    (both_kept T (λ (x : Stmt × Option Stmt). Y x.0 × Z x.1) t (both y z) p (both_kept Y Z y z q r)) (λ x px.
    three_parts (numbered_statement_form (If test then_part else_part)) (numbered_expression test) (numbered_statement then_part) (number_if (option_map numbered_statement else_part)) (λ u v w. If u v w) n m k j x.0 x.1.0 x.1.1 (of_if test then_part else_part) px.0 px.1.0 px.1.1))

pub while_numbered : (test : Expr) (body : Stmt) (n m k : ℕ) (t : Made Expr) (y : Made Stmt) (result : Made StmtForm)
    → IfOk t (λ x. numbered_expression test n ≡ (x, m)) → IfOk y (λ x. numbered_statement body m ≡ (x, k)) → result ≡ while_of t y
    → IfOk result (λ x. numbered_statement_form (While test body) n ≡ (x, k))
while_numbered test body n m k t y result p q h =
    let T : Expr → Type 0 = λ x. numbered_expression test n ≡ (x, m) in
    let Y : Stmt → Type 0 = λ x. numbered_statement body m ≡ (x, k) in
    let W : StmtForm → Type 0 = λ x. numbered_statement_form (While test body) n ≡ (x, k) in
    subst (λ (o : Made StmtForm). IfOk o W) (sym h)
    (with_kept (λ (x : Expr × Stmt). T x.0 × Y x.1) W (both t y) (λ x. Ok (While x.0 x.1)) (both_kept T Y t y p q) (λ x px.
    two_parts (numbered_statement_form (While test body)) (numbered_expression test) (numbered_statement body) (λ u v. While u v) n m k x.0 x.1 (of_while test body) px.0 px.1))

pub for_numbered : (first : Stmt) (test : Expr) (last body : Stmt) (n m k j i : ℕ) (f : Made Stmt) (t : Made Expr) (l b : Made Stmt) (result : Made StmtForm)
    → IfOk f (λ x. numbered_statement first n ≡ (x, m)) → IfOk t (λ x. numbered_expression test m ≡ (x, k)) → IfOk l (λ x. numbered_statement last k ≡ (x, j)) → IfOk b (λ x. numbered_statement body j ≡ (x, i)) → result ≡ for_of f t l b
    → IfOk result (λ x. numbered_statement_form (For first test last body) n ≡ (x, i))
for_numbered first test last body n m k j i f t l b result p q r s h =
    let F : Stmt → Type 0 = λ x. numbered_statement first n ≡ (x, m) in
    let T : Expr → Type 0 = λ x. numbered_expression test m ≡ (x, k) in
    let L : Stmt → Type 0 = λ x. numbered_statement last k ≡ (x, j) in
    let B : Stmt → Type 0 = λ x. numbered_statement body j ≡ (x, i) in
    let W : StmtForm → Type 0 = λ x. numbered_statement_form (For first test last body) n ≡ (x, i) in
    subst (λ (o : Made StmtForm). IfOk o W) (sym h)
    (with_kept (λ (x : (Stmt × Expr) × (Stmt × Stmt)). (F x.0.0 × T x.0.1) × (L x.1.0 × B x.1.1)) W (both (both f t) (both l b)) (λ x. Ok (For x.0.0 x.0.1 x.1.0 x.1.1))
    (both_kept (λ (x : Stmt × Expr). F x.0 × T x.1) (λ (x : Stmt × Stmt). L x.0 × B x.1) (both f t) (both l b) (both_kept F T f t p q) (both_kept L B l b r s)) (λ x px.
    four_parts (numbered_statement_form (For first test last body)) (numbered_statement first) (numbered_expression test) (numbered_statement last) (numbered_statement body) (λ u v w z. For u v w z) n m k j i x.0.0 x.0.1 x.1.0 x.1.1 (of_for first test last body) px.0.0 px.0.1 px.1.0 px.1.1))

pub statement_numbered : (s : Stmt) (n next m : ℕ) (id : Made ℕ) (form : Made StmtForm) (result : Made Stmt)
    → IfOk id (λ x. x ≡ n) → OnOk id (next ≡ n + 1) → IfOk form (λ x. numbered_statement_form s.form next ≡ (x, m)) → result ≡ statement_of id s.token form
    → IfOk result (λ x. numbered_statement s n ≡ (x, m))
statement_numbered s n next m (Err e) form result p q r h = subst (λ (o : Made Stmt). IfOk o (λ x. numbered_statement s n ≡ (x, m))) (sym h) tt
statement_numbered s n next m (Ok id) (Err e) result p q r h = subst (λ (o : Made Stmt). IfOk o (λ x. numbered_statement s n ≡ (x, m))) (sym h) tt
statement_numbered s n next m (Ok id) (Ok form) result p q r h =
    subst (λ (o : Made Stmt). IfOk o (λ x. numbered_statement s n ≡ (x, m))) (sym h) (a_statement s n id next m form p q r)
