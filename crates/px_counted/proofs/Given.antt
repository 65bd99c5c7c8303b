-- How often a counter's number is given in each form, as an equation.
use Rattle.std.proofs.Common.{◌≡◌, ℕ, ◌+◌, Bool, List, [], ◌∷◌, map, Some, None, refl, ap, ◌∙◌, arith}
use Rattle.px_tree.specs.declared.Sign.{Sign}
use Rattle.px_tree.specs.declared.Base.{Base}
use Rattle.px_tree.specs.declared.Name.{Name as NameData}
use Rattle.px_tree.specs.declared.Expr.{Expr}
use Rattle.px_tree.specs.declared.ExprForm.TheVariants.{Number, Str, True, False, Null as NullForm, This, Name, Group, Field, Index, Call, NewObject, NewArray, Prefix, Binary}
use Rattle.px_normal.specs.declared.node.Counter.{Counter}
use Rattle.px_normal.specs.declared.node.Counter.TheVariants.{Begun, Completed, Entered, ReachedEnd}
use Rattle.px_counts.specs.Marks as mark
use Rattle.px_counted.specs.Numbers.{all_of, one_if, given}
use Rattle.px_counted.proofs.GivenNumbers.{given_number, given_text, given_true, given_false, given_null, given_this, given_name, given_group, given_field, given_index, given_own_call, given_call, given_new_object, given_new_array, given_prefix, given_binary}
use Rattle.px_counted.proofs.Counts.{marks}

unfoldable pub gives : Counter → Expr → ℕ
gives (Begun i) e = given i e
gives (Completed i) e = given i e
gives (Entered m) e = 0
gives (ReachedEnd m) e = 0

abbrev pub gives_all : Counter → List Expr → ℕ
gives_all c [] = 0
gives_all c (x ∷ xs) = gives c x + gives_all c xs

abbrev pub own_by : Counter → ℕ → ℕ
own_by (Begun i) id = one_if i id
own_by (Completed i) id = one_if i id
own_by (Entered m) id = 0
own_by (ReachedEnd m) id = 0

-- the marks of an expression or a statement itself
pub own_is : (Q W : Type 0) (k : ℕ) (c : Counter) (id : ℕ) → own_by c id ≡ marks Q W k c (mark.Begun id) + marks Q W k c (mark.Completed id)
own_is Q W k (Begun i) id = omega (arith)
own_is Q W k (Completed i) id = omega (arith)
own_is Q W k (Entered m) id = refl
own_is Q W k (ReachedEnd m) id = refl

all_given : (i : ℕ) (xs : List Expr) → all_of (map (given i) xs) ≡ gives_all (Begun i) xs
unfolding gives
all_given i [] = refl
all_given i (x ∷ xs) = ap (λ (q : ℕ). given i x + q) (all_given i xs)

all_completed : (i : ℕ) (xs : List Expr) → all_of (map (given i) xs) ≡ gives_all (Completed i) xs
unfolding gives
all_completed i [] = refl
all_completed i (x ∷ xs) = ap (λ (q : ℕ). given i x + q) (all_completed i xs)

all_none : (m : ℕ) (xs : List Expr) → 0 ≡ gives_all (Entered m) xs
unfolding gives
all_none m [] = refl
all_none m (x ∷ xs) = all_none m xs ∙ omega (arith)

all_none_end : (m : ℕ) (xs : List Expr) → 0 ≡ gives_all (ReachedEnd m) xs
unfolding gives
all_none_end m [] = refl
all_none_end m (x ∷ xs) = all_none_end m xs ∙ omega (arith)

pub gives_number : (c : Counter) (e : Expr) (digits : List ℕ) (long : Bool) → e.form ≡ Number digits long → gives c e ≡ own_by c e.id + 0
unfolding gives
gives_number (Begun i) e digits long h = given_number i e digits long h
gives_number (Completed i) e digits long h = given_number i e digits long h
gives_number (Entered m) e digits long h = refl
gives_number (ReachedEnd m) e digits long h = refl

pub gives_text : (c : Counter) (e : Expr) (bytes : List ℕ) → e.form ≡ Str bytes → gives c e ≡ own_by c e.id + 0
unfolding gives
gives_text (Begun i) e bytes h = given_text i e bytes h
gives_text (Completed i) e bytes h = given_text i e bytes h
gives_text (Entered m) e bytes h = refl
gives_text (ReachedEnd m) e bytes h = refl

pub gives_true : (c : Counter) (e : Expr) → e.form ≡ True → gives c e ≡ own_by c e.id + 0
unfolding gives
gives_true (Begun i) e h = given_true i e h
gives_true (Completed i) e h = given_true i e h
gives_true (Entered m) e h = refl
gives_true (ReachedEnd m) e h = refl

pub gives_false : (c : Counter) (e : Expr) → e.form ≡ False → gives c e ≡ own_by c e.id + 0
unfolding gives
gives_false (Begun i) e h = given_false i e h
gives_false (Completed i) e h = given_false i e h
gives_false (Entered m) e h = refl
gives_false (ReachedEnd m) e h = refl

pub gives_null : (c : Counter) (e : Expr) → e.form ≡ NullForm → gives c e ≡ own_by c e.id + 0
unfolding gives
gives_null (Begun i) e h = given_null i e h
gives_null (Completed i) e h = given_null i e h
gives_null (Entered m) e h = refl
gives_null (ReachedEnd m) e h = refl

pub gives_this : (c : Counter) (e : Expr) → e.form ≡ This → gives c e ≡ own_by c e.id + 0
unfolding gives
gives_this (Begun i) e h = given_this i e h
gives_this (Completed i) e h = given_this i e h
gives_this (Entered m) e h = refl
gives_this (ReachedEnd m) e h = refl

pub gives_name : (c : Counter) (e : Expr) (n : NameData) → e.form ≡ Name n → gives c e ≡ own_by c e.id + 0
unfolding gives
gives_name (Begun i) e n h = given_name i e n h
gives_name (Completed i) e n h = given_name i e n h
gives_name (Entered m) e n h = refl
gives_name (ReachedEnd m) e n h = refl

pub gives_group : (c : Counter) (e : Expr) (x : Expr) → e.form ≡ Group x → gives c e ≡ own_by c e.id + gives c x
unfolding gives
gives_group (Begun i) e x h = given_group i e x h
gives_group (Completed i) e x h = given_group i e x h
gives_group (Entered m) e x h = refl
gives_group (ReachedEnd m) e x h = refl

pub gives_field : (c : Counter) (e : Expr) (x : Expr) (n : NameData) → e.form ≡ Field x n → gives c e ≡ own_by c e.id + gives c x
unfolding gives
gives_field (Begun i) e x n h = given_field i e x n h
gives_field (Completed i) e x n h = given_field i e x n h
gives_field (Entered m) e x n h = refl
gives_field (ReachedEnd m) e x n h = refl

pub gives_index : (c : Counter) (e : Expr) (x j : Expr) → e.form ≡ Index x j → gives c e ≡ own_by c e.id + (gives c x + gives c j)
unfolding gives
gives_index (Begun i) e x j h = given_index i e x j h
gives_index (Completed i) e x j h = given_index i e x j h
gives_index (Entered m) e x j h = refl
gives_index (ReachedEnd m) e x j h = refl

pub gives_call_own : (c : Counter) (e : Expr) (n : NameData) (args : List Expr) → e.form ≡ Call None n args → gives c e ≡ own_by c e.id + (0 + gives_all c args)
unfolding gives
gives_call_own (Begun i) e n args h = given_own_call i e n args h ∙ ap (λ (q : ℕ). one_if i e.id + (0 + q)) (all_given i args)
gives_call_own (Completed i) e n args h = given_own_call i e n args h ∙ ap (λ (q : ℕ). one_if i e.id + (0 + q)) (all_completed i args)
gives_call_own (Entered m) e n args h = all_none m args ∙ omega (arith)
gives_call_own (ReachedEnd m) e n args h = all_none_end m args ∙ omega (arith)

pub gives_call : (c : Counter) (e : Expr) (of : Expr) (n : NameData) (args : List Expr) → e.form ≡ Call (Some of) n args → gives c e ≡ own_by c e.id + (gives c of + gives_all c args)
unfolding gives
gives_call (Begun i) e of n args h = given_call i e of n args h ∙ ap (λ (q : ℕ). one_if i e.id + (given i of + q)) (all_given i args)
gives_call (Completed i) e of n args h = given_call i e of n args h ∙ ap (λ (q : ℕ). one_if i e.id + (given i of + q)) (all_completed i args)
gives_call (Entered m) e of n args h = all_none m args ∙ omega (arith)
gives_call (ReachedEnd m) e of n args h = all_none_end m args ∙ omega (arith)

pub gives_new_object : (c : Counter) (e : Expr) (n : NameData) → e.form ≡ NewObject n → gives c e ≡ own_by c e.id + 0
unfolding gives
gives_new_object (Begun i) e n h = given_new_object i e n h
gives_new_object (Completed i) e n h = given_new_object i e n h
gives_new_object (Entered m) e n h = refl
gives_new_object (ReachedEnd m) e n h = refl

pub gives_new_array : (c : Counter) (e : Expr) (b : Base) (x : Expr) → e.form ≡ NewArray b x → gives c e ≡ own_by c e.id + gives c x
unfolding gives
gives_new_array (Begun i) e b x h = given_new_array i e x b h
gives_new_array (Completed i) e b x h = given_new_array i e x b h
gives_new_array (Entered m) e b x h = refl
gives_new_array (ReachedEnd m) e b x h = refl

pub gives_prefix : (c : Counter) (e : Expr) (s : Sign) (x : Expr) → e.form ≡ Prefix s x → gives c e ≡ own_by c e.id + gives c x
unfolding gives
gives_prefix (Begun i) e s x h = given_prefix i e x s h
gives_prefix (Completed i) e s x h = given_prefix i e x s h
gives_prefix (Entered m) e s x h = refl
gives_prefix (ReachedEnd m) e s x h = refl

pub gives_binary : (c : Counter) (e : Expr) (s : Sign) (at : ℕ) (l r : Expr) → e.form ≡ Binary s at l r → gives c e ≡ own_by c e.id + (gives c l + gives c r)
unfolding gives
gives_binary (Begun i) e s at l r h = given_binary i e l r s at h
gives_binary (Completed i) e s at l r h = given_binary i e l r s at h
gives_binary (Entered m) e s at l r h = refl
gives_binary (ReachedEnd m) e s at l r h = refl
