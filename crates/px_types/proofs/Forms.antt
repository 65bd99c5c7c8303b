-- What is known of each form of an expression.
use Rattle.std.proofs.Common.{◌≡◌, ℕ, Bool, true, false, List, [], ◌∷◌, ◌++◌, map, Some, None, refl, sym, ap, ◌∙◌}
use Rattle.px_tree.specs.declared.Sign.{Sign}
use Rattle.px_tree.specs.declared.Base.{Base}
use Rattle.px_tree.specs.declared.Name.{Name as NameOf}
use Rattle.px_tree.specs.declared.Expr.{Expr, fold_out-Expr}
use Rattle.px_tree.specs.declared.ExprForm.{ExprForm, ExprForm-F, out-ExprForm, fold-ExprForm, fold_out-ExprForm, fold-roll-ExprForm, roll-ExprForm, map-ExprForm}
use Rattle.px_tree.specs.declared.ExprForm.TheVariants.{Number, rolls-Number, Str, rolls-Str, True, rolls-True, False, rolls-False, Null, rolls-Null, This, rolls-This, Name, rolls-Name, Group, rolls-Group, Field, rolls-Field, Index, rolls-Index, Call, rolls-Call, NewObject, rolls-NewObject, NewArray, rolls-NewArray, Prefix, rolls-Prefix, Binary, rolls-Binary}
use Rattle.px_tree.specs.declared.ExprForm.TheOpen.{ExprForm-F as f}
use Rattle.px_facts.specs.declared.types.Ty.TheVariants as ty
use Rattle.px_value.specs.declared.schema.Schema.{Schema}
use Rattle.px_types.specs.declared.database.Verb.{Verb}
use Rattle.px_types.specs.declared.context.Context.{Context}
use Rattle.px_types.specs.declared.locals.Locals.{Locals}
use Rattle.px_type_rules.specs.Operators.{is_minus}
use Rattle.px_types.specs.Scopes.{variable_type}
use Rattle.px_type_rules.specs.Breaches.{breach_if}
use Rattle.px_types.specs.Database.{Written, Bare, Literal, Other, written_form, written, asked, literal_in, asked_operation, text_notes}
use Rattle.px_types.specs.Expressions.{Typed, Judges, JudgesForm, typed, typed_form, typed_step, whole, of_type, number, text, variable, bracketed, field, index, arguments, call, types_of, asked_notes, database_notes, database_call, call_or, call_on, new_object, new_array, prefixed, binary}

pub typed_by_form : (c : Context) (e : Expr) (n : Bool) (l : Locals) → typed c e n l ≡ typed_form c e.form e.token n l
unfolding typed typed_form
typed_by_form c e n l = ap (λ (j : Judges). j n l) (fold_out-Expr JudgesForm Judges (typed_step c) whole e)

typed_at : (c : Context) (x : ExprForm) (y : ExprForm-F ExprForm Expr) (t : ℕ) (n : Bool) (l : Locals) → x ≡ roll-ExprForm y → typed_form c x t n l ≡ typed_step c (map-ExprForm ExprForm Expr JudgesForm Judges (typed_form c) (typed c) y) t n l
unfolding typed typed_form
typed_at c x y t n l h =
    ap (λ (j : JudgesForm). j t n l) (ap (fold-ExprForm JudgesForm Judges (typed_step c) whole) h ∙ fold-roll-ExprForm JudgesForm Judges (typed_step c) whole y)

-- ---- how an expression is written

step_written : (c : Context) (y : ExprForm-F ExprForm Expr) (t : ℕ) (n : Bool) (l : Locals) → (typed_step c (map-ExprForm ExprForm Expr JudgesForm Judges (typed_form c) (typed c) y) t n l).written ≡ written_form t y
step_written c (f.Number digits long) t n l = refl
step_written c (f.Str bytes) t n l = refl
step_written c f.True t n l = refl
step_written c f.False t n l = refl
step_written c f.Null t n l = refl
step_written c f.This t n l = refl
step_written c (f.Name name) t n l = refl
step_written c (f.Group x) t n l = refl
step_written c (f.Field of name) t n l = refl
step_written c (f.Index of at) t n l = refl
step_written c (f.Call None name args) t n l = refl
step_written c (f.Call (Some of) name args) t n l = refl
step_written c (f.NewObject name) t n l = refl
step_written c (f.NewArray base length) t n l = refl
step_written c (f.Prefix sign x) t n l = refl
step_written c (f.Binary sign at l r) t n k = refl

form_written : (c : Context) (x : ExprForm) (t : ℕ) (n : Bool) (l : Locals) → (typed_form c x t n l).written ≡ written_form t (out-ExprForm x)
unfolding typed typed_form
form_written c x t n l = ap (λ (j : JudgesForm). (j t n l).written) (fold_out-ExprForm JudgesForm Judges (typed_step c) whole x) ∙ step_written c (out-ExprForm x) t n l

pub typed_written : (c : Context) (e : Expr) (n : Bool) (l : Locals) → (typed c e n l).written ≡ written e
typed_written c e n l = ap (λ (x : Typed). x.written) (typed_by_form c e n l) ∙ form_written c e.form e.token n l

-- ---- each form

pub typed_number : (c : Context) (x : ExprForm) (t : ℕ) (n : Bool) (l : Locals) (digits : List ℕ) (long : Bool) → x ≡ Number digits long → typed_form c x t n l ≡ number digits long t n
typed_number c x t n l digits long h = typed_at c x (f.Number digits long) t n l (h ∙ sym (rolls-Number digits long))

pub typed_text : (c : Context) (x : ExprForm) (t : ℕ) (n : Bool) (l : Locals) (bytes : List ℕ) → x ≡ Str bytes → typed_form c x t n l ≡ text bytes t
typed_text c x t n l bytes h = typed_at c x (f.Str bytes) t n l (h ∙ sym (rolls-Str bytes))

pub typed_true : (c : Context) (x : ExprForm) (t : ℕ) (n : Bool) (l : Locals) → x ≡ True → typed_form c x t n l ≡ of_type ty.Boolean
typed_true c x t n l h = typed_at c x f.True t n l (h ∙ sym rolls-True)

pub typed_false : (c : Context) (x : ExprForm) (t : ℕ) (n : Bool) (l : Locals) → x ≡ False → typed_form c x t n l ≡ of_type ty.Boolean
typed_false c x t n l h = typed_at c x f.False t n l (h ∙ sym rolls-False)

pub typed_null : (c : Context) (x : ExprForm) (t : ℕ) (n : Bool) (l : Locals) → x ≡ Null → typed_form c x t n l ≡ of_type ty.Null
typed_null c x t n l h = typed_at c x f.Null t n l (h ∙ sym rolls-Null)

pub typed_this : (c : Context) (x : ExprForm) (t : ℕ) (n : Bool) (l : Locals) → x ≡ This → typed_form c x t n l ≡ of_type (ty.Object c.this)
typed_this c x t n l h = typed_at c x f.This t n l (h ∙ sym rolls-This)

pub typed_name : (c : Context) (x : ExprForm) (t : ℕ) (n : Bool) (l : Locals) (name : NameOf) → x ≡ Name name → typed_form c x t n l ≡ variable name (variable_type c l name.bytes)
typed_name c x t n l name h = typed_at c x (f.Name name) t n l (h ∙ sym (rolls-Name name))

pub typed_group : (c : Context) (x : ExprForm) (t : ℕ) (n : Bool) (l : Locals) (e e' : Expr) → x ≡ Group e → e' ≡ e → typed_form c x t n l ≡ bracketed (typed c e' false l)
typed_group c x t n l e e' h u0 = typed_at c x (f.Group e') t n l (h ∙ (λ i. Group (sym u0 i)) ∙ sym (rolls-Group e'))

pub typed_field : (c : Context) (x : ExprForm) (t : ℕ) (n : Bool) (l : Locals) (name : NameOf) (e e' : Expr) → x ≡ Field e name → e' ≡ e → typed_form c x t n l ≡ field c (typed c e' n l) name
typed_field c x t n l name e e' h u0 = typed_at c x (f.Field e' name) t n l (h ∙ (λ i. Field (sym u0 i) name) ∙ sym (rolls-Field e' name))

pub typed_index : (c : Context) (x : ExprForm) (t : ℕ) (n : Bool) (l : Locals) (e e' : Expr) (a a' : Expr) → x ≡ Index e a → e' ≡ e → a' ≡ a → typed_form c x t n l ≡ index t (typed c e' n l) (typed c a' false l)
typed_index c x t n l e e' a a' h u0 u1 = typed_at c x (f.Index e' a') t n l (h ∙ (λ i. Index (sym u0 i) (sym u1 i)) ∙ sym (rolls-Index e' a'))

pub typed_own_call : (c : Context) (x : ExprForm) (t : ℕ) (n : Bool) (l : Locals) (name : NameOf) (args : List Expr) → x ≡ Call None name args → typed_form c x t n l ≡ call c t (of_type (ty.Object c.this)) name (map (typed c) args) l
typed_own_call c x t n l name args h = typed_at c x (f.Call None name args) t n l (h ∙ sym (rolls-Call None name args))

typed_call_on : (c : Context) (x : ExprForm) (t : ℕ) (n : Bool) (l : Locals) (e e' : Expr) (name : NameOf) (args : List Expr) → x ≡ Call (Some e) name args → e' ≡ e → typed_form c x t n l ≡ call_on c t (typed c e' n l) name (map (typed c) args) l
typed_call_on c x t n l e e' name args h u = typed_at c x (f.Call (Some e') name args) t n l (h ∙ (λ i. Call (Some (sym u i)) name args) ∙ sym (rolls-Call (Some e') name args))

pub typed_call : (c : Context) (x : ExprForm) (t : ℕ) (n : Bool) (l : Locals) (e e' : Expr) (name : NameOf) (args : List Expr) → x ≡ Call (Some e) name args → e' ≡ e → asked (written e') name.bytes ≡ None → typed_form c x t n l ≡ call c t (typed c e' n l) name (map (typed c) args) l
typed_call c x t n l e e' name args h u k =
    typed_call_on c x t n l e e' name args h u
    ∙ (λ i. bracketed (call_or (asked (typed_written c e' n l i) name.bytes) c t (typed c e' n l) name (map (typed c) args) l))
    ∙ (λ i. bracketed (call_or (k i) c t (typed c e' n l) name (map (typed c) args) l))

pub typed_database_call : (c : Context) (x : ExprForm) (t : ℕ) (n : Bool) (l : Locals) (e e' : Expr) (name : NameOf) (args : List Expr) (verb : Verb) → x ≡ Call (Some e) name args → e' ≡ e → asked (written e') name.bytes ≡ Some verb → typed_form c x t n l ≡ database_call c t verb (map (typed c) args) l
typed_database_call c x t n l e e' name args verb h u k =
    typed_call_on c x t n l e e' name args h u
    ∙ (λ i. bracketed (call_or (asked (typed_written c e' n l i) name.bytes) c t (typed c e' n l) name (map (typed c) args) l))
    ∙ (λ i. bracketed (call_or (k i) c t (typed c e' n l) name (map (typed c) args) l))

pub typed_new : (c : Context) (x : ExprForm) (t : ℕ) (n : Bool) (l : Locals) (name : NameOf) → x ≡ NewObject name → typed_form c x t n l ≡ new_object c t name
typed_new c x t n l name h = typed_at c x (f.NewObject name) t n l (h ∙ sym (rolls-NewObject name))

pub typed_new_array : (c : Context) (x : ExprForm) (t : ℕ) (n : Bool) (l : Locals) (base : Base) (e e' : Expr) → x ≡ NewArray base e → e' ≡ e → typed_form c x t n l ≡ new_array c t base (typed c e' false l)
typed_new_array c x t n l base e e' h u0 = typed_at c x (f.NewArray base e') t n l (h ∙ (λ i. NewArray base (sym u0 i)) ∙ sym (rolls-NewArray base e'))

pub typed_prefix : (c : Context) (x : ExprForm) (t : ℕ) (n : Bool) (l : Locals) (sign : Sign) (e e' : Expr) → x ≡ Prefix sign e → e' ≡ e → typed_form c x t n l ≡ prefixed t sign (typed c e' (is_minus sign) l)
typed_prefix c x t n l sign e e' h u0 = typed_at c x (f.Prefix sign e') t n l (h ∙ (λ i. Prefix sign (sym u0 i)) ∙ sym (rolls-Prefix sign e'))

pub typed_binary : (c : Context) (x : ExprForm) (t : ℕ) (n : Bool) (l : Locals) (sign : Sign) (at : ℕ) (e e' : Expr) (a a' : Expr) → x ≡ Binary sign at e a → e' ≡ e → a' ≡ a → typed_form c x t n l ≡ binary t sign at (typed c e' false l) (typed c a' false l)
typed_binary c x t n l sign at e e' a a' h u0 u1 = typed_at c x (f.Binary sign at e' a') t n l (h ∙ (λ i. Binary sign at (sym u0 i) (sym u1 i)) ∙ sym (rolls-Binary sign at e' a'))

-- ---- the arguments of a call of `Db`

literal_form : (t : ℕ) (y : ExprForm-F ExprForm Expr) (bytes : List ℕ) → literal_in (written_form t y) ≡ Some bytes → written_form t y ≡ Literal bytes t
literal_form t (f.Number digits long) bytes h = absurd (cc h)
literal_form t (f.Str text) bytes h = cc h
literal_form t f.True bytes h = absurd (cc h)
literal_form t f.False bytes h = absurd (cc h)
literal_form t f.Null bytes h = absurd (cc h)
literal_form t f.This bytes h = absurd (cc h)
literal_form t (f.Name name) bytes h = absurd (cc h)
literal_form t (f.Group x) bytes h = absurd (cc h)
literal_form t (f.Field of name) bytes h = absurd (cc h)
literal_form t (f.Index of at) bytes h = absurd (cc h)
literal_form t (f.Call of name args) bytes h = absurd (cc h)
literal_form t (f.NewObject name) bytes h = absurd (cc h)
literal_form t (f.NewArray base length) bytes h = absurd (cc h)
literal_form t (f.Prefix sign x) bytes h = absurd (cc h)
literal_form t (f.Binary sign at l r) bytes h = absurd (cc h)

pub text_is_read : (c : Context) (s : Schema) (d : ℕ) (verb : Verb) (e : Expr) (js : List Judges) (l : Locals) (bytes : List ℕ) → literal_in (written e) ≡ Some bytes
    → database_notes s d verb (typed c e ∷ js) l ≡ arguments d [] 0 l js ++ text_notes d e.token (asked_operation s verb bytes) (types_of l js)
text_is_read c s d verb e js l bytes h =
    (λ i. asked_notes s d verb (typed_written c e false l i) (typed c e) js l)
    ∙ (λ i. asked_notes s d verb (literal_form e.token (out-ExprForm e.form) bytes h i) (typed c e) js l)

no_literal : (s : Schema) (d : ℕ) (verb : Verb) (w : Written) (j : Judges) (js : List Judges) (l : Locals) → literal_in w ≡ None
    → asked_notes s d verb w j js l ≡ arguments d [] 0 l (j ∷ js) ++ breach_if true d 12
no_literal s d verb (Bare name) j js l h = refl
no_literal s d verb (Literal bytes t) j js l h = absurd (cc h)
no_literal s d verb Other j js l h = refl

pub no_text : (c : Context) (s : Schema) (d : ℕ) (verb : Verb) (e : Expr) (js : List Judges) (l : Locals) → literal_in (written e) ≡ None
    → database_notes s d verb (typed c e ∷ js) l ≡ arguments d [] 0 l (typed c e ∷ js) ++ breach_if true d 12
no_text c s d verb e js l h =
    (λ i. asked_notes s d verb (typed_written c e false l i) (typed c e) js l)
    ∙ no_literal s d verb (written e) (typed c e) js l h

pub ruleset forms = (typed_by_form, typed_number, typed_text, typed_true, typed_false, typed_null, typed_this, typed_name, typed_group, typed_field, typed_index, typed_own_call, typed_call, typed_database_call, typed_new, typed_new_array, typed_prefix, typed_binary)
