-- What each form of an expression is lowered to, as an equation. A part is given twice, as the tree has it and as the code reads it.
use Rattle.std.proofs.Common.{◌≡◌, ℕ, Bool, List, [], ◌∷◌, map, Option, Some, None, option_map, refl, sym, ap, ◌∙◌}
use Rattle.px_value.specs.declared.value.Value.TheVariants.{Null, Bool as Truth, Text}
use Rattle.px_tree.specs.declared.Sign.{Sign}
use Rattle.px_tree.specs.declared.Base.{Base}
use Rattle.px_tree.specs.declared.Name.{Name as NameData}
use Rattle.px_tree.specs.declared.Expr.{Expr, fold_out-Expr}
use Rattle.px_tree.specs.declared.ExprForm.{ExprForm, ExprForm-F, out-ExprForm, fold-ExprForm, fold_out-ExprForm, fold-roll-ExprForm, roll-ExprForm, map-ExprForm}
use Rattle.px_tree.specs.declared.ExprForm.TheVariants.{Number, rolls-Number, Str, rolls-Str, True, rolls-True, False, rolls-False, Null as NullForm, rolls-Null, This, rolls-This, Name, rolls-Name, Group, rolls-Group, Field, rolls-Field, Index, rolls-Index, Call, rolls-Call, NewObject, rolls-NewObject, NewArray, rolls-NewArray, Prefix, rolls-Prefix, Binary, rolls-Binary}
use Rattle.px_tree.specs.declared.ExprForm.TheOpen.{ExprForm-F as f}
use Rattle.px_facts.specs.declared.checked.Checked.{Checked}
use Rattle.px_mean.specs.Facts.{type_at, named_at, prefix_of}
use Rattle.px_mean.specs.Expressions.{literal}
use Rattle.px_normal.specs.declared.word.Operand.TheVariants.{Slot}
use Rattle.px_lowering.specs.declared.valued.Had.TheVariants.{Held}
use Rattle.px_lowering.specs.Expressions.{Part, Low, low_value, part_in, valued, stands, name_had, member_low, index_low, object_had, array_low, number_in, number_of, literal_behind, prefix_low, binary_low, call_low, expr_low, placed, low, part_of}

abbrev L : Type 0
L = ℕ → ℕ → Low

abbrev low_form : Checked → ExprForm → L
low_form P = fold-ExprForm L Low (expr_low P) placed

-- one level of an expression, of what its parts are lowered to
abbrev of_parts : Checked → ExprForm-F ExprForm Expr → L
of_parts P x = expr_low P (map-ExprForm ExprForm Expr L Low (low_form P) (low P) x)

at_form : (P : Checked) (e : Expr) (x : ExprForm-F ExprForm Expr) → e.form ≡ roll-ExprForm x → low P e ≡ of_parts P x e.id e.token
unfolding low
at_form P e x h =
    fold_out-Expr L Low (expr_low P) placed e ∙ ap (λ (k : ExprForm). low_form P k e.id e.token) h
    ∙ ap (λ (k : L). k e.id e.token) (fold-roll-ExprForm L Low (expr_low P) placed x)

at_out : (P : Checked) (e : Expr) → low P e ≡ of_parts P (out-ExprForm e.form) e.id e.token
unfolding low
at_out P e =
    fold_out-Expr L Low (expr_low P) placed e ∙ ap (λ (k : L). k e.id e.token) (fold_out-ExprForm L Low (expr_low P) placed e.form)

-- ---- every expression tells its own number, and whether it is a bare one

id_of : (P : Checked) (x : ExprForm-F L Low) (i t : ℕ) → (expr_low P x i t).part.id ≡ i
id_of P (f.Number digits long) i t = refl
id_of P (f.Str bytes) i t = refl
id_of P f.True i t = refl
id_of P f.False i t = refl
id_of P f.Null i t = refl
id_of P f.This i t = refl
id_of P (f.Name n) i t = refl
id_of P (f.Group e) i t = refl
id_of P (f.Field e n) i t = refl
id_of P (f.Index e j) i t = refl
id_of P (f.Call of n args) i t = refl
id_of P (f.NewObject n) i t = refl
id_of P (f.NewArray b e) i t = refl
id_of P (f.Prefix s e) i t = refl
id_of P (f.Binary s at l r) i t = refl

pub part_is : (P : Checked) (e : Expr) → (low P e).part ≡ part_of P e
part_is P e =
    let same : (low P e).part.id ≡ e.id = ap (λ (l : Low). l.part.id) (at_out P e) ∙ id_of P (map-ExprForm ExprForm Expr L Low (low_form P) (low P) (out-ExprForm e.form)) e.id e.token in
    (λ i. record { id = same i; lower = (low P e).part.lower })

parts_are : (P : Checked) (es : List Expr) → map part_in (map (low P) es) ≡ map (part_of P) es
parts_are P [] = refl
parts_are P (e ∷ es) = (λ i. part_is P e i ∷ parts_are P es i)

number_is_in : (P : Checked) (x : ExprForm-F ExprForm Expr) (i t : ℕ) → (of_parts P x i t).number ≡ number_in x
number_is_in P (f.Number digits long) i t = refl
number_is_in P (f.Str bytes) i t = refl
number_is_in P f.True i t = refl
number_is_in P f.False i t = refl
number_is_in P f.Null i t = refl
number_is_in P f.This i t = refl
number_is_in P (f.Name n) i t = refl
number_is_in P (f.Group e) i t = refl
number_is_in P (f.Field e n) i t = refl
number_is_in P (f.Index e j) i t = refl
number_is_in P (f.Call of n args) i t = refl
number_is_in P (f.NewObject n) i t = refl
number_is_in P (f.NewArray b e) i t = refl
number_is_in P (f.Prefix s e) i t = refl
number_is_in P (f.Binary s at l r) i t = refl

number_is : (P : Checked) (e : Expr) → (low P e).number ≡ number_of e
number_is P e = ap (λ (l : Low). l.number) (at_out P e) ∙ number_is_in P (out-ExprForm e.form) e.id e.token

-- ---- forms

pub low_number : (P : Checked) (e : Expr) (digits : List ℕ) (long : Bool) → e.form ≡ Number digits long → low P e ≡ record { part = record { id = e.id; lower = valued (stands (literal digits long)) e.id e.token }; number = Some (literal digits long) }
low_number P e digits long h = at_form P e (f.Number digits long) (h ∙ sym (rolls-Number digits long))

pub low_text : (P : Checked) (e : Expr) (bytes : List ℕ) → e.form ≡ Str bytes → low P e ≡ low_value e.id (valued (stands (Text bytes)) e.id e.token)
low_text P e bytes h = at_form P e (f.Str bytes) (h ∙ sym (rolls-Str bytes))

pub low_true : (P : Checked) (e : Expr) → e.form ≡ True → low P e ≡ low_value e.id (valued (stands (Truth Bool.true)) e.id e.token)
low_true P e h = at_form P e f.True (h ∙ sym rolls-True)

pub low_false : (P : Checked) (e : Expr) → e.form ≡ False → low P e ≡ low_value e.id (valued (stands (Truth Bool.false)) e.id e.token)
low_false P e h = at_form P e f.False (h ∙ sym rolls-False)

pub low_null : (P : Checked) (e : Expr) → e.form ≡ NullForm → low P e ≡ low_value e.id (valued (stands Null) e.id e.token)
low_null P e h = at_form P e f.Null (h ∙ sym rolls-Null)

pub low_this : (P : Checked) (e : Expr) → e.form ≡ This → low P e ≡ low_value e.id (valued (Held (Slot 0)) e.id e.token)
low_this P e h = at_form P e f.This (h ∙ sym rolls-This)

pub low_name : (P : Checked) (e : Expr) (n : NameData) → e.form ≡ Name n → low P e ≡ low_value e.id (valued (name_had P (named_at P.facts e.id) e.id) e.id e.token)
low_name P e n h = at_form P e (f.Name n) (h ∙ sym (rolls-Name n))

pub low_group : (P : Checked) (e x y : Expr) → e.form ≡ Group x → y ≡ x → low P e ≡ low_value e.id (low P y).part.lower
low_group P e x y h u = at_form P e (f.Group y) (h ∙ ap Group (sym u) ∙ sym (rolls-Group y))

pub low_field : (P : Checked) (e x y : Expr) (n : NameData) → e.form ≡ Field x n → y ≡ x → low P e ≡ low_value e.id (member_low P (part_of P y) e.id e.token)
low_field P e x y n h u =
    at_form P e (f.Field y n) (h ∙ ap (λ (z : Expr). Field z n) (sym u) ∙ sym (rolls-Field y n)) ∙ ap (λ (p : Part). low_value e.id (member_low P p e.id e.token)) (part_is P y)

pub low_index : (P : Checked) (e x y k j : Expr) → e.form ≡ Index x k → y ≡ x → j ≡ k → low P e ≡ low_value e.id (index_low P (part_of P y) (part_of P j) e.id e.token)
low_index P e x y k j h u v =
    at_form P e (f.Index y j) (h ∙ (λ i. Index (sym u i) (sym v i)) ∙ sym (rolls-Index y j)) ∙ (λ i. low_value e.id (index_low P (part_is P y i) (part_is P j i) e.id e.token))

pub low_call : (P : Checked) (e : Expr) (of : Option Expr) (n : NameData) (args : List Expr) → e.form ≡ Call of n args → low P e ≡ low_value e.id (call_low P (named_at P.facts e.id) (option_map (part_of P) of) (map (part_of P) args) e.id e.token)
low_call P e None n args h =
    at_form P e (f.Call None n args) (h ∙ sym (rolls-Call None n args)) ∙ (λ i. low_value e.id (call_low P (named_at P.facts e.id) None (parts_are P args i) e.id e.token))
low_call P e (Some of) n args h =
    at_form P e (f.Call (Some of) n args) (h ∙ sym (rolls-Call (Some of) n args)) ∙ (λ i. low_value e.id (call_low P (named_at P.facts e.id) (Some (part_is P of i)) (parts_are P args i) e.id e.token))

pub low_new_object : (P : Checked) (e : Expr) (n : NameData) → e.form ≡ NewObject n → low P e ≡ low_value e.id (valued (object_had P (named_at P.facts e.id) e.id) e.id e.token)
low_new_object P e n h = at_form P e (f.NewObject n) (h ∙ sym (rolls-NewObject n))

pub low_new_array : (P : Checked) (e x y : Expr) (b : Base) → e.form ≡ NewArray b x → y ≡ x → low P e ≡ low_value e.id (array_low P (part_of P y) e.id e.token)
low_new_array P e x y b h u =
    at_form P e (f.NewArray b y) (h ∙ ap (NewArray b) (sym u) ∙ sym (rolls-NewArray b y)) ∙ ap (λ (p : Part). low_value e.id (array_low P p e.id e.token)) (part_is P y)

pub low_prefix : (P : Checked) (e x y : Expr) (s : Sign) → e.form ≡ Prefix s x → y ≡ x → low P e ≡ low_value e.id (prefix_low P (literal_behind s (number_of y)) (prefix_of s (type_at P.facts y.id)) (part_of P y) e.id e.token)
low_prefix P e x y s h u =
    at_form P e (f.Prefix s y) (h ∙ ap (Prefix s) (sym u) ∙ sym (rolls-Prefix s y))
    ∙ (λ i. low_value e.id (prefix_low P (literal_behind s (number_is P y i)) (prefix_of s (type_at P.facts (part_is P y i).id)) (part_is P y i) e.id e.token))

pub low_binary : (P : Checked) (e l r l' r' : Expr) (s : Sign) (at : ℕ) → e.form ≡ Binary s at l r → l' ≡ l → r' ≡ r → low P e ≡ low_value e.id (binary_low P s (part_of P l') (part_of P r') e.id e.token)
low_binary P e l r l' r' s at h u v =
    at_form P e (f.Binary s at l' r') (h ∙ (λ i. Binary s at (sym u i) (sym v i)) ∙ sym (rolls-Binary s at l' r')) ∙ (λ i. low_value e.id (binary_low P s (part_is P l' i) (part_is P r' i) e.id e.token))

pub ruleset lowers = (low_number, low_text, low_true, low_false, low_null, low_this, low_name, low_group, low_field, low_index, low_call, low_new_object, low_new_array, low_prefix, low_binary)
