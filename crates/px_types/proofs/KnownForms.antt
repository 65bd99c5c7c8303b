-- What is known of each form of an expression, and of one behind another.
use Rattle.std.proofs.Common.{◌≡◌, ℕ, Bool, List, [], ◌∷◌, ◌++◌, length, map, Option, Some, None, refl, sym, ap, ◌∙◌, append-nil, append_assoc, slice_set, Result, Ok, Err, IfOk, OnOk}
use Rattle.std.proofs.Math.Seq.{set-append_seam}
use Rattle.px_tree.specs.declared.Sign.{Sign}
use Rattle.px_tree.specs.declared.Base.{Base}
use Rattle.px_tree.specs.declared.Name.{Name as NameOf}
use Rattle.px_tree.specs.declared.Expr.{Expr, fold_out-Expr}
use Rattle.px_tree.specs.declared.ExprForm.{ExprForm, ExprForm-F, out-ExprForm, fold-ExprForm, fold_out-ExprForm, fold-roll-ExprForm, roll-ExprForm, map-ExprForm}
use Rattle.px_tree.specs.declared.ExprForm.TheVariants.{Number, rolls-Number, Str, rolls-Str, True, rolls-True, False, rolls-False, Null, rolls-Null, This, rolls-This, Name, rolls-Name, Group, rolls-Group, Field, rolls-Field, Index, rolls-Index, Call, rolls-Call, NewObject, rolls-NewObject, NewArray, rolls-NewArray, Prefix, rolls-Prefix, Binary, rolls-Binary}
use Rattle.px_tree.specs.declared.ExprForm.TheOpen.{ExprForm-F as f}
use Rattle.px_facts.specs.declared.types.Ty.TheVariants as ty
use Rattle.px_value.specs.declared.schema.Schema.{Schema}
use Rattle.px_types.specs.declared.node.Node.{Node}
use Rattle.px_types.specs.declared.database.Verb.{Verb}
use Rattle.px_types.specs.declared.home.Home.{Home}
use Rattle.px_types.specs.declared.scope.Scope.{Scope}
use Rattle.px_type_rules.specs.Literals.{literal_type}
use Rattle.px_type_rules.specs.Operators.{prefix_type, group_of, group_type}
use Rattle.px_types.specs.Members.{base_type}
use Rattle.px_types.specs.Facts.{typed_only, variable_fact, new_fact, database_fact, verb_fact}
use Rattle.px_types.specs.Database.{Other, written_form, written, asked, first_written as text_written}
use Rattle.px_types.specs.Known.{Known, Knows, known, known_form, known_step, whole, fact_only, leaf, all_nodes, argument_nodes, text_known, name_known, group_known, field_known, index_known, own_call, call_known, operation_in, first_written, database_node, call_or, call_on, array_known, operator_known}

pub known_by_form : (c : Home) (e : Expr) (s : Scope) → known c e s ≡ known_form c e.form s
unfolding known known_form
known_by_form c e s = ap (λ (j : Knows). j s) (fold_out-Expr Knows Knows (known_step c) whole e)

known_at : (c : Home) (x : ExprForm) (y : ExprForm-F ExprForm Expr) (s : Scope) → x ≡ roll-ExprForm y → known_form c x s ≡ known_step c (map-ExprForm ExprForm Expr Knows Knows (known_form c) (known c) y) s
unfolding known known_form
known_at c x y s h =
    ap (λ (j : Knows). j s) (ap (fold-ExprForm Knows Knows (known_step c) whole) h ∙ fold-roll-ExprForm Knows Knows (known_step c) whole y)

-- ---- how an expression is written

step_asked : (c : Home) (y : ExprForm-F ExprForm Expr) (t : ℕ) (s : Scope) (name : List ℕ) → asked (known_step c (map-ExprForm ExprForm Expr Knows Knows (known_form c) (known c) y) s).written name ≡ asked (written_form t y) name
step_asked c (f.Number digits long) t s name = refl
step_asked c (f.Str bytes) t s name = refl
step_asked c f.True t s name = refl
step_asked c f.False t s name = refl
step_asked c f.Null t s name = refl
step_asked c f.This t s name = refl
step_asked c (f.Name of) t s name = refl
step_asked c (f.Group x) t s name = refl
step_asked c (f.Field of of_name) t s name = refl
step_asked c (f.Index of at) t s name = refl
step_asked c (f.Call None of_name args) t s name = refl
step_asked c (f.Call (Some of) of_name args) t s name = refl
step_asked c (f.NewObject of) t s name = refl
step_asked c (f.NewArray base length) t s name = refl
step_asked c (f.Prefix sign x) t s name = refl
step_asked c (f.Binary sign at l r) t s name = refl

step_operation : (c : Home) (y : ExprForm-F ExprForm Expr) (t : ℕ) (s : Scope) (schema : Schema) (verb : Verb) → operation_in schema verb (known_step c (map-ExprForm ExprForm Expr Knows Knows (known_form c) (known c) y) s).written ≡ operation_in schema verb (written_form t y)
step_operation c (f.Number digits long) t s schema verb = refl
step_operation c (f.Str bytes) t s schema verb = refl
step_operation c f.True t s schema verb = refl
step_operation c f.False t s schema verb = refl
step_operation c f.Null t s schema verb = refl
step_operation c f.This t s schema verb = refl
step_operation c (f.Name of) t s schema verb = refl
step_operation c (f.Group x) t s schema verb = refl
step_operation c (f.Field of name) t s schema verb = refl
step_operation c (f.Index of at) t s schema verb = refl
step_operation c (f.Call None name args) t s schema verb = refl
step_operation c (f.Call (Some of) name args) t s schema verb = refl
step_operation c (f.NewObject of) t s schema verb = refl
step_operation c (f.NewArray base length) t s schema verb = refl
step_operation c (f.Prefix sign x) t s schema verb = refl
step_operation c (f.Binary sign at l r) t s schema verb = refl

known_out : (c : Home) (e : Expr) (s : Scope) → known c e s ≡ known_step c (map-ExprForm ExprForm Expr Knows Knows (known_form c) (known c) (out-ExprForm e.form)) s
unfolding known known_form
known_out c e s = known_by_form c e s ∙ ap (λ (j : Knows). j s) (fold_out-ExprForm Knows Knows (known_step c) whole e.form)

known_asked : (c : Home) (e : Expr) (s : Scope) (name : List ℕ) → asked (known c e s).written name ≡ asked (written e) name
known_asked c e s name = ap (λ (k : Known). asked k.written name) (known_out c e s) ∙ step_asked c (out-ExprForm e.form) e.token s name

first_operation : (c : Home) (args : List Expr) (s : Scope) (verb : Verb) → operation_in c.classes.library.schema verb (first_written s (map (known c) args)) ≡ operation_in c.classes.library.schema verb (text_written args)
first_operation c [] s verb = refl
first_operation c (e ∷ es) s verb =
    ap (λ (k : Known). operation_in c.classes.library.schema verb k.written) (known_out c e s)
    ∙ step_operation c (out-ExprForm e.form) e.token s c.classes.library.schema verb

-- ---- each form

pub known_number : (c : Home) (x : ExprForm) (s : Scope) (digits : List ℕ) (long : Bool) → x ≡ Number digits long → known_form c x s ≡ leaf (typed_only (literal_type long))
known_number c x s digits long h = known_at c x (f.Number digits long) s (h ∙ sym (rolls-Number digits long))

pub known_text : (c : Home) (x : ExprForm) (s : Scope) (bytes : List ℕ) → x ≡ Str bytes → known_form c x s ≡ text_known bytes
known_text c x s bytes h = known_at c x (f.Str bytes) s (h ∙ sym (rolls-Str bytes))

pub known_true : (c : Home) (x : ExprForm) (s : Scope) → x ≡ True → known_form c x s ≡ leaf (typed_only ty.Boolean)
known_true c x s h = known_at c x f.True s (h ∙ sym rolls-True)

pub known_false : (c : Home) (x : ExprForm) (s : Scope) → x ≡ False → known_form c x s ≡ leaf (typed_only ty.Boolean)
known_false c x s h = known_at c x f.False s (h ∙ sym rolls-False)

pub known_null : (c : Home) (x : ExprForm) (s : Scope) → x ≡ Null → known_form c x s ≡ leaf (typed_only ty.Null)
known_null c x s h = known_at c x f.Null s (h ∙ sym rolls-Null)

pub known_this : (c : Home) (x : ExprForm) (s : Scope) → x ≡ This → known_form c x s ≡ leaf (typed_only (ty.Object c.this))
known_this c x s h = known_at c x f.This s (h ∙ sym rolls-This)

pub known_name : (c : Home) (x : ExprForm) (s : Scope) (name : NameOf) → x ≡ Name name → known_form c x s ≡ name_known (variable_fact c s name.bytes) name.bytes
known_name c x s name h = known_at c x (f.Name name) s (h ∙ sym (rolls-Name name))

pub known_group : (c : Home) (x : ExprForm) (s : Scope) (e e' : Expr) → x ≡ Group e → e' ≡ e → known_form c x s ≡ group_known (known c e' s)
known_group c x s e e' h u0 = known_at c x (f.Group e') s (h ∙ (λ i. Group (sym u0 i)) ∙ sym (rolls-Group e'))

pub known_field : (c : Home) (x : ExprForm) (s : Scope) (name : NameOf) (e e' : Expr) → x ≡ Field e name → e' ≡ e → known_form c x s ≡ field_known c (known c e' s) name.bytes
known_field c x s name e e' h u0 = known_at c x (f.Field e' name) s (h ∙ (λ i. Field (sym u0 i) name) ∙ sym (rolls-Field e' name))

pub known_index : (c : Home) (x : ExprForm) (s : Scope) (e e' : Expr) (a a' : Expr) → x ≡ Index e a → e' ≡ e → a' ≡ a → known_form c x s ≡ index_known (known c e' s) (known c a' s)
known_index c x s e e' a a' h u0 u1 = known_at c x (f.Index e' a') s (h ∙ (λ i. Index (sym u0 i) (sym u1 i)) ∙ sym (rolls-Index e' a'))

pub known_own_call : (c : Home) (x : ExprForm) (s : Scope) (name : NameOf) (args : List Expr) → x ≡ Call None name args → known_form c x s ≡ own_call c name.bytes (argument_nodes s (map (known c) args))
known_own_call c x s name args h = known_at c x (f.Call None name args) s (h ∙ sym (rolls-Call None name args))

known_call_on : (c : Home) (x : ExprForm) (s : Scope) (e e' : Expr) (name : NameOf) (args : List Expr) → x ≡ Call (Some e) name args → e' ≡ e → known_form c x s ≡ call_on c (known c e' s) name.bytes s (map (known c) args)
known_call_on c x s e e' name args h u = known_at c x (f.Call (Some e') name args) s (h ∙ (λ i. Call (Some (sym u i)) name args) ∙ sym (rolls-Call (Some e') name args))

abbrev with_verb : Option Verb → Home → Known → List ℕ → Scope → List Knows → Known
with_verb verb c of name s args = record (call_or verb c of name s args) { written = Other }

pub known_call : (c : Home) (x : ExprForm) (s : Scope) (e e' : Expr) (name : NameOf) (args : List Expr) → x ≡ Call (Some e) name args → e' ≡ e → asked (written e') name.bytes ≡ None → known_form c x s ≡ call_known c (known c e' s) name.bytes (argument_nodes s (map (known c) args))
known_call c x s e e' name args h u k =
    known_call_on c x s e e' name args h u
    ∙ (λ i. with_verb (known_asked c e' s name.bytes i) c (known c e' s) name.bytes s (map (known c) args))
    ∙ (λ i. with_verb (k i) c (known c e' s) name.bytes s (map (known c) args))

-- what is known of a call of `Db`
abbrev pub database_call : Home → Verb → List Expr → Scope → Known
database_call c verb args s = record { own = database_node c verb (text_written args); inner = fact_only database_fact ∷ argument_nodes s (map (known c) args); written = Other }

pub known_database_call : (c : Home) (x : ExprForm) (s : Scope) (e e' : Expr) (name : NameOf) (args : List Expr) (verb : Verb) → x ≡ Call (Some e) name args → e' ≡ e → asked (written e') name.bytes ≡ Some verb → known_form c x s ≡ database_call c verb args s
known_database_call c x s e e' name args verb h u k =
    known_call_on c x s e e' name args h u
    ∙ (λ i. with_verb (known_asked c e' s name.bytes i) c (known c e' s) name.bytes s (map (known c) args))
    ∙ (λ i. with_verb (k i) c (known c e' s) name.bytes s (map (known c) args))
    ∙ (λ i. record { own = record { fact = verb_fact verb; operation = first_operation c args s verb i }; inner = fact_only database_fact ∷ argument_nodes s (map (known c) args); written = Other })

pub known_new : (c : Home) (x : ExprForm) (s : Scope) (name : NameOf) → x ≡ NewObject name → known_form c x s ≡ leaf (new_fact c name.bytes)
known_new c x s name h = known_at c x (f.NewObject name) s (h ∙ sym (rolls-NewObject name))

pub known_new_array : (c : Home) (x : ExprForm) (s : Scope) (base : Base) (e e' : Expr) → x ≡ NewArray base e → e' ≡ e → known_form c x s ≡ array_known (base_type c.classes.numbers base) (known c e' s)
known_new_array c x s base e e' h u0 = known_at c x (f.NewArray base e') s (h ∙ (λ i. NewArray base (sym u0 i)) ∙ sym (rolls-NewArray base e'))

pub known_prefix : (c : Home) (x : ExprForm) (s : Scope) (sign : Sign) (e e' : Expr) → x ≡ Prefix sign e → e' ≡ e → known_form c x s ≡ operator_known (prefix_type sign (known c e' s).own.fact.ty) (all_nodes (known c e' s))
known_prefix c x s sign e e' h u0 = known_at c x (f.Prefix sign e') s (h ∙ (λ i. Prefix sign (sym u0 i)) ∙ sym (rolls-Prefix sign e'))

pub known_binary : (c : Home) (x : ExprForm) (s : Scope) (sign : Sign) (at : ℕ) (e e' : Expr) (a a' : Expr) → x ≡ Binary sign at e a → e' ≡ e → a' ≡ a
    → known_form c x s ≡ operator_known (group_type (group_of sign) (known c e' s).own.fact.ty (known c a' s).own.fact.ty) (all_nodes (known c e' s) ++ all_nodes (known c a' s))
known_binary c x s sign at e e' a a' h u0 u1 = known_at c x (f.Binary sign at e' a') s (h ∙ (λ i. Binary sign at (sym u0 i) (sym u1 i)) ∙ sym (rolls-Binary sign at e' a'))

-- nothing is in a leaf
pub no_more : (nodes : List Node) (k same : Known) → k ≡ same → same.inner ≡ [] → nodes ≡ nodes ++ k.inner
no_more nodes k same h e = sym (append-nil nodes) ∙ ap (λ (ns : List Node). nodes ++ ns) (sym e) ∙ ap (λ (k : Known). nodes ++ k.inner) (sym h)

pub no_more_true : (c : Home) (x : ExprForm) (s : Scope) (nodes : List Node) → x ≡ True → nodes ≡ nodes ++ (known_form c x s).inner
no_more_true c x s nodes h = no_more nodes _ _ (known_true c x s h) refl

pub no_more_false : (c : Home) (x : ExprForm) (s : Scope) (nodes : List Node) → x ≡ False → nodes ≡ nodes ++ (known_form c x s).inner
no_more_false c x s nodes h = no_more nodes _ _ (known_false c x s h) refl

pub ruleset forms = (no_more_true, no_more_false, known_by_form, known_number, known_text, known_true, known_false, known_null, known_this, known_name, known_group, known_field, known_index, known_own_call, known_call, known_database_call, known_new, known_new_array, known_prefix, known_binary)

-- what stood for a fact is replaced, behind those that came before and before those that came since
pub filled : (old inner : List Node) (before own : Node) (place : ℕ) → place ≡ length old → slice_set ((old ++ before ∷ []) ++ inner) place own ≡ old ++ own ∷ inner
filled old inner before own place h =
    (λ i. slice_set (append_assoc old (before ∷ []) inner i) (h i) own) ∙ set-append_seam old before inner own

-- one part is added, and then the next
pub both_added : (f0 f1 f2 xs ys : List Node) → f1 ≡ f0 ++ xs → f2 ≡ f1 ++ ys → f2 ≡ f0 ++ (xs ++ ys)
both_added f0 f1 f2 xs ys h k = k ∙ ap (λ (fs : List Node). fs ++ ys) h ∙ append_assoc f0 xs ys

pub on_ok : {A E : Type 0} {P : Type 0} (r : Result A E) → P → OnOk r P
on_ok (Ok a) p = p
on_ok (Err e) p = tt

pub same_ok : {A E : Type 0} (r : Result A E) (a b : A) → IfOk r (λ x. x ≡ a) → a ≡ b → IfOk r (λ x. x ≡ b)
same_ok (Ok x) a b h k = h ∙ k
same_ok (Err e) a b h k = tt
