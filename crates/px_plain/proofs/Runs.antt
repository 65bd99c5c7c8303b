-- What each form does when it is run.
use Rattle.std.proofs.Common.{◌≡◌, ℕ, Bool, List, map, Option, option_map, ap}
use Rattle.px_value.specs.declared.value.Value.{Value}
use Rattle.px_value.specs.declared.value.Value.TheVariants.{Null, Bool as Truth, Text}
use Rattle.px_tree.specs.declared.Sign.{Sign}
use Rattle.px_tree.specs.declared.Base.{Base}
use Rattle.px_tree.specs.declared.Name.{Name as NameData}
use Rattle.px_tree.specs.declared.Expr.{Expr}
use Rattle.px_tree.specs.declared.ExprForm.TheVariants.{Number, Str, True, False, Null as NullForm, This, Name, Group, Field, Index, Call, NewObject, NewArray, Prefix, Binary}
use Rattle.px_value.specs.Outcome.{Gives, then_run, ◌>>=◌, on_shared}
use Rattle.px_facts.specs.declared.types.Ty.{Ty}
use Rattle.px_mean.specs.Run.{came_to}
use Rattle.px_mean.specs.Facts.{type_at, named_at, prefix_of}
use Rattle.px_mean.specs.Effects.{load, store}
use Rattle.px_mean.specs.Expressions.{Meant, literal, this_value, name_value, put_name, member_value, put_member, called, made_object, made_array, fit, prefixed, binary}
use Rattle.px_rows.specs.Tables.{Tables}
use Rattle.px_mean.proofs.Forms as forms
use Rattle.px_plain.specs.declared.around.Around.{Around}
use Rattle.px_plain.specs.View.{Here, Ending, around_of, says}

module _ (a : Around) where
  abbrev M : Type 0
  M = Meant ⊥ Tables

  abbrev run_at : Here → M → Ending Here Value
  run_at s m = m.run s

  pub type_says : (e : Expr) → (says a e).ty ≡ type_at a.facts.now e.id
  type_says e = forms.meant_type ⊥ Tables (around_of a) e

  pub run_number : (e : Expr) (s : Here) (digits : List ℕ) (long : Bool) → e.form ≡ Number digits long → (says a e).run s ≡ Gives (literal digits long) s
  run_number e s digits long h = ap (run_at s) (forms.meant_number ⊥ Tables (around_of a) e digits long h)

  pub run_text : (e : Expr) (s : Here) (bytes : List ℕ) → e.form ≡ Str bytes → (says a e).run s ≡ Gives (Text bytes) s
  run_text e s bytes h = ap (run_at s) (forms.meant_text ⊥ Tables (around_of a) e bytes h)

  pub run_true : (e : Expr) (s : Here) → e.form ≡ True → (says a e).run s ≡ Gives (Truth Bool.true) s
  run_true e s h = ap (run_at s) (forms.meant_true ⊥ Tables (around_of a) e h)

  pub run_false : (e : Expr) (s : Here) → e.form ≡ False → (says a e).run s ≡ Gives (Truth Bool.false) s
  run_false e s h = ap (run_at s) (forms.meant_false ⊥ Tables (around_of a) e h)

  pub run_null : (e : Expr) (s : Here) → e.form ≡ NullForm → (says a e).run s ≡ Gives Null s
  run_null e s h = ap (run_at s) (forms.meant_null ⊥ Tables (around_of a) e h)

  pub run_this : (e : Expr) (s : Here) → e.form ≡ This → (says a e).run s ≡ this_value s
  run_this e s h = ap (run_at s) (forms.meant_this ⊥ Tables (around_of a) e h)

  pub run_name : (e : Expr) (s : Here) (n : NameData) → e.form ≡ Name n → (says a e).run s ≡ name_value (named_at a.facts.now e.id) s
  run_name e s n h = ap (run_at s) (forms.meant_name ⊥ Tables (around_of a) e n h)

  pub run_group : (e x y : Expr) (s : Here) → e.form ≡ Group x → y ≡ x → (says a e).run s ≡ (says a y).run s
  run_group e x y s h u = ap (run_at s) (forms.meant_group ⊥ Tables (around_of a) e x y h u)

  pub run_field : (e x y : Expr) (s : Here) (n : NameData) → e.form ≡ Field x n → y ≡ x → (says a e).run s ≡ then_run ((says a y).run s) (member_value (named_at a.facts.now e.id))
  run_field e x y s n h u = ap (run_at s) (forms.meant_field ⊥ Tables (around_of a) e x y n h u)

  pub run_index : (e x y i j : Expr) (s : Here) → e.form ≡ Index x i → y ≡ x → j ≡ i → (says a e).run s ≡ then_run ((says a y).run s) (λ v. (says a j).run >>= (λ k. on_shared (load v k)))
  run_index e x y i j s h u v = ap (run_at s) (forms.meant_index ⊥ Tables (around_of a) e x y i j h u v)

  pub run_call : (e : Expr) (s : Here) (of : Option Expr) (n : NameData) (args : List Expr) → e.form ≡ Call of n args → (says a e).run s ≡ called (around_of a) (named_at a.facts.now e.id) (option_map (says a) of) (map (says a) args) s
  run_call e s of n args h = ap (run_at s) (forms.meant_call ⊥ Tables (around_of a) e of n args h)

  pub run_new_object : (e : Expr) (s : Here) (n : NameData) → e.form ≡ NewObject n → (says a e).run s ≡ made_object a.facts.now (named_at a.facts.now e.id) s
  run_new_object e s n h = ap (run_at s) (forms.meant_new_object ⊥ Tables (around_of a) e n h)

  pub run_new_array : (e x y : Expr) (s : Here) (b : Base) → e.form ≡ NewArray b x → y ≡ x → (says a e).run s ≡ then_run ((says a y).run s) (made_array (named_at a.facts.now e.id) (type_at a.facts.now e.id))
  run_new_array e x y s b h u = ap (run_at s) (forms.meant_new_array ⊥ Tables (around_of a) e x y b h u)

  pub run_prefix : (e x y : Expr) (s : Here) (sign : Sign) → e.form ≡ Prefix sign x → y ≡ x → (says a e).run s ≡ then_run ((says a y).run s) (λ v. came_to (prefixed (prefix_of sign (says a y).ty) v))
  run_prefix e x y s sign h u = ap (run_at s) (forms.meant_prefix ⊥ Tables (around_of a) e x y sign h u)

  pub run_binary : (e l r l' r' : Expr) (s : Here) (sign : Sign) (at : ℕ) → e.form ≡ Binary sign at l r → l' ≡ l → r' ≡ r → (says a e).run s ≡ binary sign (says a l').ty (says a r').ty (says a l').run (says a r').run s
  run_binary e l r l' r' s sign at h u v = ap (run_at s) (forms.meant_binary ⊥ Tables (around_of a) e l r l' r' sign at h u v)

  abbrev put_at : Ty → (Here → Ending Here Value) → Here → M → Ending Here (Unit {0})
  put_at from r s m = m.put from r s

  pub put_name_is : (e : Expr) (from : Ty) (r : (Here → Ending Here Value)) (s : Here) (n : NameData) → e.form ≡ Name n → (says a e).put from r s ≡ put_name (named_at a.facts.now e.id) (type_at a.facts.now e.id) from r s
  put_name_is e from r s n h = ap (put_at from r s) (forms.meant_name ⊥ Tables (around_of a) e n h)

  pub put_field_is : (e x y : Expr) (from : Ty) (r : (Here → Ending Here Value)) (s : Here) (n : NameData) → e.form ≡ Field x n → y ≡ x → (says a e).put from r s ≡ then_run ((says a y).run s) (λ o. r >>= fit from (type_at a.facts.now e.id) >>= put_member (named_at a.facts.now e.id) o)
  put_field_is e x y from r s n h u = ap (put_at from r s) (forms.meant_field ⊥ Tables (around_of a) e x y n h u)

  pub put_index_is : (e x y i j : Expr) (from : Ty) (r : (Here → Ending Here Value)) (s : Here) → e.form ≡ Index x i → y ≡ x → j ≡ i → (says a e).put from r s ≡ then_run ((says a y).run s) (λ v. (says a j).run >>= (λ k. r >>= fit from (type_at a.facts.now e.id) >>= (λ w. on_shared (store v k w))))
  put_index_is e x y i j from r s h u v = ap (put_at from r s) (forms.meant_index ⊥ Tables (around_of a) e x y i j h u v)

  pub put_other_is : (e : Expr) (from : Ty) (r : (Here → Ending Here Value)) (s : Here) → ((n : NameData) → e.form ≡ Name n → ⊥) → ((x : Expr) (n : NameData) → e.form ≡ Field x n → ⊥) → ((x j : Expr) → e.form ≡ Index x j → ⊥) → (says a e).put from r s ≡ Gives tt s
  put_other_is e from r s no_name no_field no_index = forms.put_other ⊥ Tables (around_of a) e no_name no_field no_index from r s
