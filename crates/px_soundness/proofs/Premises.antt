-- What is known of a method's surroundings: its variables, and the members of all types.
use Rattle.std.proofs.Common.{◌≡◌, ℕ, zero, suc, ◌+◌, true, false, List, [], ◌∷◌, Option, Some, None, slice_get, refl, sym, ap, ◌∙◌, subst}
use Rattle.std.proofs.lemmas.Bool.{true≢false}
use Rattle.px_tree.specs.declared.Name.{Name}
use Rattle.px_facts.specs.declared.types.Ty.{Ty}
use Rattle.px_facts.specs.declared.types.Ty.TheVariants as ty
use Rattle.px_facts.specs.declared.types.Element.{Element}
use Rattle.px_facts.specs.declared.checked.Named.{Named}
use Rattle.px_facts.specs.declared.checked.Named.TheVariants as named
use Rattle.px_facts.specs.declared.checked.MethodFact.{MethodFact}
use Rattle.px_facts.specs.declared.checked.Facts.{Facts}
use Rattle.px_facts.specs.Types.{is_unknown}
use Rattle.px_types.specs.declared.classes.FieldType.{FieldType}
use Rattle.px_types.specs.declared.classes.MethodType.{MethodType}
use Rattle.px_types.specs.declared.classes.Members.{Members}
use Rattle.px_types.specs.declared.classes.Classes.{Classes}
use Rattle.px_types.specs.declared.context.Context.{Context}
use Rattle.px_types.specs.declared.home.Home.{Home}
use Rattle.px_types.specs.declared.locals.Locals.{Locals}
use Rattle.px_types.specs.declared.scope.Scope.{Scope}
use Rattle.px_types.specs.Names.{place_of, value_at, find}
use Rattle.px_types.specs.Members.{field_of, method_of, hidden, text_members, array_members, rows_members, length_method, equals_method, next_method, column_method, length_field}
use Rattle.px_types.specs.Scopes.{variable_type}
use Rattle.px_types.specs.Expressions.{found_type, has_count, no_member, field_notes, method_notes}
use Rattle.px_types.specs.Facts.{field_place, field_at, field_fact, variable_fact, method_place, method_at, method_in, numbered_method, rows_method, text_method, local_or}
use Rattle.px_types.specs.declared.scope.Slot.{Slot}
use Rattle.px_facts.specs.declared.checked.Fact.{Fact}
use Rattle.px_types.specs.Slots.{slot_of}
use Rattle.px_mean.specs.Facts.{by_number, fields_of}
use Rattle.px_mean.specs.Typing.{IsVariable, IsMember, IsLibrary}
use Rattle.px_soundness.proofs.Clean.{Clean, clean_right, kept}
use Rattle.px_soundness.proofs.Standing.{IsFixed}

abbrev pub AllKnown : List Ty → Type 0
AllKnown [] = Unit {0}
AllKnown (t ∷ ts) = (is_unknown t ≡ false) × AllKnown ts

-- ---- members of a class

pub record FieldStands (F : Facts) (classes : Classes) (class : ℕ) (name : List ℕ) (f : FieldType) : Type 0 where
  pub place : ℕ
  pub place_is : field_place (ty.Object class) name classes ≡ Some place
  pub type_is : slice_get (fields_of F class) place ≡ Some f.ty
  pub known : is_unknown f.ty ≡ false

pub record MethodStands (F : Facts) (classes : Classes) (firsts : List ℕ) (class : ℕ) (name : List ℕ) (m : MethodType) : Type 0 where
  pub place : ℕ
  pub place_is : method_place (ty.Object class) name classes ≡ Some place
  pub first : ℕ
  pub first_is : slice_get firsts class ≡ Some first
  pub fact : MethodFact
  pub fact_is : by_number F.methods (first + place) ≡ Some fact
  pub class_is : fact.class ≡ class
  pub params_are : fact.params ≡ m.params
  pub result_is : fact.result ≡ m.result
  pub known : AllKnown m.params
  pub result_known : is_unknown m.result ≡ false

-- the members of all classes stand in the facts, and the others are those of the library
pub record MembersStand (F : Facts) (classes : Classes) (firsts : List ℕ) : Type 0 where
  pub fields : (class : ℕ) (name : List ℕ) (f : FieldType) → field_of (ty.Object class) name classes ≡ Some f → FieldStands F classes class name f
  pub methods : (class : ℕ) (name : List ℕ) (m : MethodType) → method_of (ty.Object class) name classes ≡ Some m → MethodStands F classes firsts class name m
  pub text : classes.library.text ≡ text_members
  pub array : classes.library.array ≡ array_members
  pub rows : classes.library.rows ≡ rows_members

module _ (F : Facts) (slots : List Ty) (classes : Classes) (firsts : List ℕ) (this : ℕ) (result : Ty) (members : MembersStand F classes firsts) where
  abbrev pub home : Home
  home = record { classes = classes; firsts = firsts; this = this }

  abbrev pub context : Context
  context = record { classes = classes; this = this; result = result }

  -- ---- variables

  pub record VariableStands (s : Scope) (name : List ℕ) (t : Ty) : Type 0 where
    pub type_is : (variable_fact home s name).ty ≡ t
    pub variable : IsVariable F slots (variable_fact home s name).named t
    pub known : is_unknown t ≡ false

  -- the variables by name that may be used are known
  pub record Sees (l : Locals) (s : Scope) : Type 0 where
    pub this_is : slice_get slots 0 ≡ Some (ty.Object this)
    pub variables : (name : List ℕ) (t : Ty) → variable_type context l name ≡ Some t → VariableStands s name t

  -- these names have no numbers of their own
  pub field_fixed : (of : Ty) (place : Option ℕ) → IsFixed (field_at of place)
  field_fixed of None = λ call site. (refl, refl)
  field_fixed (ty.Object class) (Some place) = λ call site. (refl, refl)
  field_fixed (ty.Array of) (Some place) = λ call site. (refl, refl)
  field_fixed ty.Unknown (Some place) = λ call site. (refl, refl)
  field_fixed ty.Void (Some place) = λ call site. (refl, refl)
  field_fixed ty.Null (Some place) = λ call site. (refl, refl)
  field_fixed ty.Int (Some place) = λ call site. (refl, refl)
  field_fixed ty.Long (Some place) = λ call site. (refl, refl)
  field_fixed ty.Boolean (Some place) = λ call site. (refl, refl)
  field_fixed ty.Text (Some place) = λ call site. (refl, refl)
  field_fixed ty.ResultSet (Some place) = λ call site. (refl, refl)

  numbered_fixed : (first : Option ℕ) (place : ℕ) → IsFixed (numbered_method first place)
  numbered_fixed None place = λ call site. (refl, refl)
  numbered_fixed (Some first) place = λ call site. (refl, refl)

  rows_fixed : (place : ℕ) → IsFixed (rows_method place)
  rows_fixed zero = λ call site. (refl, refl)
  rows_fixed (suc zero) = λ call site. (refl, refl)
  rows_fixed (suc (suc n)) = λ call site. (refl, refl)

  text_fixed : (place : ℕ) → IsFixed (text_method place)
  text_fixed zero = λ call site. (refl, refl)
  text_fixed (suc n) = λ call site. (refl, refl)

  pub method_fixed : (of : Ty) (place : Option ℕ) → IsFixed (method_at home of place)
  method_fixed of None = λ call site. (refl, refl)
  method_fixed (ty.Object class) (Some place) = numbered_fixed (slice_get firsts class) place
  method_fixed ty.Text (Some place) = text_fixed place
  method_fixed ty.ResultSet (Some place) = rows_fixed place
  method_fixed (ty.Array of) (Some place) = λ call site. (refl, refl)
  method_fixed ty.Unknown (Some place) = λ call site. (refl, refl)
  method_fixed ty.Void (Some place) = λ call site. (refl, refl)
  method_fixed ty.Null (Some place) = λ call site. (refl, refl)
  method_fixed ty.Int (Some place) = λ call site. (refl, refl)
  method_fixed ty.Long (Some place) = λ call site. (refl, refl)
  method_fixed ty.Boolean (Some place) = λ call site. (refl, refl)

  local_fixed : (slot : Option Slot) (fact : Fact) → IsFixed fact.named → IsFixed (local_or slot fact).named
  local_fixed None fact h = h
  local_fixed (Some slot) fact h = λ call site. (refl, refl)

  pub variable_fixed : (s : Scope) (name : List ℕ) → IsFixed (variable_fact home s name).named
  variable_fixed s name = local_fixed (slot_of name s) (field_fact home (ty.Object this) name) (field_fixed (ty.Object this) (field_place (ty.Object this) name classes))

  -- ---- fields

  pub record Selected (of : Ty) (name : List ℕ) : Type 0 where
    pub t : Ty
    pub found_is : found_type (field_of of name classes) ≡ t
    pub named : IsMember F (field_at of (field_place of name classes)) of t
    pub known : is_unknown t ≡ false

  -- no such member
  missing : {M : Type 0} (of : Ty) (name : Name) → is_unknown of ≡ false → Clean (no_member of name) → M
  missing of name k h = absurd (true≢false (sym (kept (is_unknown of) name.token 4 h) ∙ k))

  nothing_at : {V M : Type 0} (k : Option ℕ) (v : V) → value_at k [] ≡ Some v → M
  nothing_at None v h = absurd (cc h)
  nothing_at (Some place) v h = absurd (cc h)

  selected_array : (of : Element) (name : List ℕ) (f : FieldType) (k : Option ℕ) → found_type (field_of (ty.Array of) name classes) ≡ f.ty → field_place (ty.Array of) name classes ≡ k → value_at k (length_field ∷ []) ≡ Some f → Selected (ty.Array of) name
  selected_array of name f None e p h = absurd (cc h)
  selected_array of name f (Some zero) e p h =
      let g : length_field ≡ f = cc h in
      record { t = ty.Int; found_is = e ∙ ap (λ (x : FieldType). x.ty) (sym g); named = subst (λ (q : Option ℕ). IsMember F (field_at (ty.Array of) q) (ty.Array of) ty.Int) (sym p) (IsMember.array_length of); known = refl }
  selected_array of name f (Some (suc n)) e p h = absurd (cc h)

  selected_some : (of : Ty) (name : List ℕ) (f : FieldType) → field_of of name classes ≡ Some f → Selected of name
  selected_some (ty.Object class) name f e =
      let s = members.fields class name f e in
      record { t = f.ty; found_is = ap found_type e; named = subst (λ (q : Option ℕ). IsMember F (field_at (ty.Object class) q) (ty.Object class) f.ty) (sym s.place_is) (IsMember.field class s.place f.ty s.type_is); known = s.known }
  selected_some (ty.Array of) name f e = selected_array of name f (place_of name array_members.fields.names) (ap found_type e) (ap (λ (ms : Members). place_of name ms.fields.names) members.array) (sym (ap (λ (ms : Members). find name ms.fields) members.array) ∙ e)
  selected_some ty.Text name f e = nothing_at (place_of name text_members.fields.names) f (sym (ap (λ (ms : Members). find name ms.fields) members.text) ∙ e)
  selected_some ty.ResultSet name f e = nothing_at (place_of name rows_members.fields.names) f (sym (ap (λ (ms : Members). find name ms.fields) members.rows) ∙ e)
  selected_some ty.Unknown name f e = absurd (cc e)
  selected_some ty.Void name f e = absurd (cc e)
  selected_some ty.Null name f e = absurd (cc e)
  selected_some ty.Int name f e = absurd (cc e)
  selected_some ty.Long name f e = absurd (cc e)
  selected_some ty.Boolean name f e = absurd (cc e)

  pub selected : (of : Ty) (name : Name) (found : Option FieldType) → field_of of name.bytes classes ≡ found → is_unknown of ≡ false → Clean (field_notes context of name found) → Selected of name.bytes
  selected of name None e k h = missing of name k h
  selected of name (Some f) e k h = selected_some of name.bytes f e

  -- ---- methods

  pub data Callee (of : Ty) (name : List ℕ) (m : MethodType) : Type 0 where
    method : (class : ℕ) → of ≡ ty.Object class → MethodStands F classes firsts class name m → Callee of name m
    library : IsLibrary (method_at home of (method_place of name classes)) of m.params m.result → AllKnown m.params → is_unknown m.result ≡ false → Callee of name m

  library_at : (of : Ty) (name : List ℕ) (place : ℕ) (n : Named) (m found : MethodType) → method_place of name classes ≡ Some place → method_in home of place ≡ n → m ≡ found → IsLibrary n of m.params m.result → AllKnown m.params → is_unknown m.result ≡ false → Callee of name found
  library_at of name place n m found p q e l k r =
      subst (λ (x : MethodType). Callee of name x) e (Callee.library (subst (λ (x : Named). IsLibrary x of m.params m.result) (sym (ap (method_at home of) p ∙ q)) l) k r)

  text_callee : (name : List ℕ) (m : MethodType) (k : Option ℕ) → method_place ty.Text name classes ≡ k → value_at k (length_method ∷ equals_method ∷ []) ≡ Some m → Callee ty.Text name m
  text_callee name m None p h = absurd (cc h)
  text_callee name m (Some zero) p h = library_at ty.Text name 0 named.TextLength length_method m p refl (cc h) IsLibrary.text_length tt refl
  text_callee name m (Some (suc zero)) p h = library_at ty.Text name 1 named.TextEquals equals_method m p refl (cc h) IsLibrary.text_equals (refl, tt) refl
  text_callee name m (Some (suc (suc n))) p h = absurd (cc h)

  rows_callee : (name : List ℕ) (m : MethodType) (k : Option ℕ) → method_place ty.ResultSet name classes ≡ k → value_at k (next_method ∷ column_method ty.Long ∷ column_method ty.Text ∷ []) ≡ Some m → Callee ty.ResultSet name m
  rows_callee name m None p h = absurd (cc h)
  rows_callee name m (Some zero) p h = library_at ty.ResultSet name 0 named.Next next_method m p refl (cc h) IsLibrary.next tt refl
  rows_callee name m (Some (suc zero)) p h = library_at ty.ResultSet name 1 named.GetLong (column_method ty.Long) m p refl (cc h) IsLibrary.get_long (refl, tt) refl
  rows_callee name m (Some (suc (suc zero))) p h = library_at ty.ResultSet name 2 named.GetString (column_method ty.Text) m p refl (cc h) IsLibrary.get_string (refl, tt) refl
  rows_callee name m (Some (suc (suc (suc n)))) p h = absurd (cc h)

  pub callee : (of : Ty) (name : List ℕ) (m : MethodType) → method_of of name classes ≡ Some m → Callee of name m
  callee (ty.Object class) name m e = Callee.method class refl (members.methods class name m e)
  callee (ty.Array of) name m e = nothing_at (place_of name array_members.methods.names) m (sym (ap (λ (ms : Members). find name ms.methods) members.array) ∙ e)
  callee ty.Text name m e = text_callee name m (place_of name text_members.methods.names) (ap (λ (ms : Members). place_of name ms.methods.names) members.text) (sym (ap (λ (ms : Members). find name ms.methods) members.text) ∙ e)
  callee ty.ResultSet name m e = rows_callee name m (place_of name rows_members.methods.names) (ap (λ (ms : Members). place_of name ms.methods.names) members.rows) (sym (ap (λ (ms : Members). find name ms.methods) members.rows) ∙ e)
  callee ty.Unknown name m e = absurd (cc e)
  callee ty.Void name m e = absurd (cc e)
  callee ty.Null name m e = absurd (cc e)
  callee ty.Int name m e = absurd (cc e)
  callee ty.Long name m e = absurd (cc e)
  callee ty.Boolean name m e = absurd (cc e)

  pub record Invoked (of : Ty) (name : List ℕ) (count : ℕ) : Type 0 where
    pub m : MethodType
    pub found_is : method_of of name classes ≡ Some m
    pub counted : has_count m count ≡ true

  pub invoked : (of : Ty) (name : Name) (count : ℕ) (found : Option MethodType) → method_of of name.bytes classes ≡ found → is_unknown of ≡ false → Clean (method_notes context of name count found) → Invoked of name.bytes count
  invoked of name count None e k h = missing of name k h
  invoked of name count (Some m) e k h = record { m = m; found_is = e; counted = kept (has_count m count) name.token 5 (clean_right (hidden of this m.access name) _ h) }
