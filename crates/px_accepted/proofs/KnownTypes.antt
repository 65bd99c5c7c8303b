-- Declared types of an accepted program are types of values, and its classes are known.
use Rattle.std.proofs.Common.{◌≡◌, ℕ, zero, suc, ◌+◌, Bool, true, false, not, ◌||◌, List, [], ◌∷◌, ◌++◌, map, fold, Option, Some, None, slice_get, if◌then◌else◌, refl, sym, ap, ◌∙◌, subst}
use Rattle.std.specs.Prelude.{nat_lt}
use Rattle.px_tree.specs.declared.Base.{Base}
use Rattle.px_tree.specs.declared.Base.TheVariants as base
use Rattle.px_tree.specs.declared.TypeName.{TypeName}
use Rattle.px_tree.specs.declared.Param.{Param}
use Rattle.px_tree.specs.declared.Member.{Member}
use Rattle.px_tree.specs.declared.Member.TheVariants as member
use Rattle.px_tree.specs.declared.Class.{Class}
use Rattle.px_facts.specs.declared.types.Ty.{Ty}
use Rattle.px_facts.specs.declared.checked.ClassFact.{ClassFact}
use Rattle.px_facts.specs.Types.{is_void, array_of}
use Rattle.px_types.specs.declared.table.Table.{Table}
use Rattle.px_types.specs.declared.classes.FieldType.{FieldType}
use Rattle.px_types.specs.declared.classes.Members.{Members}
use Rattle.px_types.specs.declared.locals.Locals.{Locals}
use Rattle.px_types.specs.declared.scope.Scope.{Scope}
use Rattle.px_type_rules.specs.Breaches.{breach_if}
use Rattle.px_types.specs.Names.{find, has_name, reserves}
use Rattle.px_types.specs.Members.{class_type, base_type, type_of, result_type, param_type, names_no_class, no_members, field_type, with_member, class_members}
use Rattle.px_types.specs.Scopes.{with_local, local_notes}
use Rattle.px_types.specs.Slots.{with_slot}
use Rattle.px_types.specs.Methods.{result_notes, param_notes}
use Rattle.px_types.specs.Bodies.{with_params}
use Rattle.px_types.specs.Programs.{field_names, method_names, members_notes, all_members, max_fields}
use Rattle.px_types.specs.Checked.{type_in, class_known}
use Rattle.px_mean.specs.Facts.{fields_in}
use Rattle.px_typed_code.specs.Values.{is_value, is_result}
use Rattle.px_soundness.specs.Numbered.{IsTypeName, AreParams, IsResult, AreMembers, AreClasses}
use Rattle.px_soundness.proofs.Clean.{Clean, clean_left, clean_right, not_broken, some_is}
use Rattle.px_soundness.proofs.Expressions.{element_of, found_class}
use Rattle.px_soundness.proofs.Scopes.{declare_fresh}

-- ---- types

abbrev pub AllValues : List Ty → Type 0
AllValues [] = Unit {0}
AllValues (t ∷ ts) = (is_value t ≡ true) × AllValues ts

pub value_at : (ts : List Ty) (place : ℕ) (t : Ty) → AllValues ts → slice_get ts place ≡ Some t → is_value t ≡ true
value_at [] place t h e = absurd (cc e)
value_at (u ∷ ts) zero t h e = subst (λ (x : Ty). is_value x ≡ true) (some_is e) h.0
value_at (u ∷ ts) (suc place) t h e = value_at ts place t h.1 e

pub values_push : (ts : List Ty) (t : Ty) → AllValues ts → is_value t ≡ true → AllValues (ts ++ t ∷ [])
values_push [] t h k = (k, tt)
values_push (u ∷ ts) t h k = (h.0, values_push ts t h.1 k)

abbrev pub AllClassValues : List ClassFact → Type 0
AllClassValues [] = Unit {0}
AllClassValues (c ∷ cs) = AllValues c.fields × AllClassValues cs

pub field_value : (cs : List ClassFact) (class place : ℕ) (t : Ty) → AllClassValues cs → slice_get (fields_in (slice_get cs class)) place ≡ Some t → is_value t ≡ true
field_value [] class place t h e = absurd (cc e)
field_value (c ∷ cs) zero place t h e = value_at c.fields place t h.0 e
field_value (c ∷ cs) (suc class) place t h e = field_value cs class place t h.1 e

or_true : (b : Bool) → (b || true) ≡ true
or_true true = refl
or_true false = refl

value_result : (t : Ty) → is_value t ≡ true → is_result t ≡ true
value_result t h = ap (λ (b : Bool). is_void t || b) h ∙ or_true (is_void t)

module _ (numbers : Table ℕ) where
  base_value : (b : Base) → Clean (names_no_class numbers b) → is_value (base_type numbers b) ≡ true
  base_value base.Int h = refl
  base_value base.Long h = refl
  base_value base.Boolean h = refl
  base_value base.Str h = refl
  base_value base.ResultSet h = refl
  base_value (base.Class name) h =
      let c = found_class numbers name (find name.bytes numbers) refl h in
      ap (λ (o : Option ℕ). is_value (class_type o)) c.is

  by_array : (t : TypeName) (b : Bool) → t.array ≡ b → is_value (if b then array_of (base_type numbers t.base) else base_type numbers t.base) ≡ true → is_value (type_of numbers t) ≡ true
  by_array t b e h = subst (λ (x : Bool). is_value (if x then array_of (base_type numbers t.base) else base_type numbers t.base) ≡ true) (sym e) h

  pub type_value : (t : TypeName) → IsTypeName t → Clean (names_no_class numbers t.base) → is_value (type_of numbers t) ≡ true
  type_value _ (IsTypeName.single t e) h = by_array t false e (base_value t.base h)
  type_value _ (IsTypeName.array t e i) h = by_array t true e (ap is_value (element_of numbers t.base i h).is)

  -- ---- results and parameters

  pub result_value : (gives : Option TypeName) → IsResult gives → Clean (result_notes numbers gives) → is_result (result_type numbers gives) ≡ true
  result_value None i c = refl
  result_value (Some t) i c = value_result (type_of numbers t) (type_value t i c)

  pub param_values : (l : Locals) (s : Scope) (ps : List Param) → AreParams ps → Clean (param_notes numbers l ps) → AllValues s.slots → AllValues (with_params numbers s ps).slots
  param_values l s [] i c h = h
  param_values l s (p ∷ ps) i c h =
      let ns = names_no_class numbers p.ty.base in
      let t = param_type numbers p in
      param_values (with_local p.name t l) (with_slot p.name.bytes t s) ps i.1 (clean_right (local_notes p.name l) _ (clean_right ns _ c)) (values_push s.slots t h (type_value p.ty i.0 (clean_left ns _ c)))

  -- ---- fields

  abbrev AllFields : List FieldType → Type 0
  AllFields [] = Unit {0}
  AllFields (f ∷ fs) = (is_value f.ty ≡ true) × AllFields fs

  fields_push : (fs : List FieldType) (f : FieldType) → AllFields fs → is_value f.ty ≡ true → AllFields (fs ++ f ∷ [])
  fields_push [] f h k = (k, tt)
  fields_push (g ∷ fs) f h k = (h.0, fields_push fs f h.1 k)

  field_values : (fs : List FieldType) → AllFields fs → AllValues (map type_in fs)
  field_values [] h = tt
  field_values (f ∷ fs) h = (h.0, field_values fs h.1)

  members_values : (n m : ℕ) (ms : List Member) → AreMembers n ms m → (count : ℕ) (before : Members) → AllFields before.fields.values → Clean (members_notes numbers count before ms) → AllFields (fold (with_member numbers) before ms).fields.values
  members_values _ _ _ (AreMembers.none n) count before h c = h
  members_values _ _ _ (AreMembers.field n m f ms i d) count before h c =
      let again = has_name f.name.bytes before.fields.names in
      let own = clean_left (field_names numbers count before f) _ c in
      let fresh = not_broken again f.name.token 1 (clean_left (breach_if again f.name.token 1) _ own) in
      let limit = clean_right (reserves f.name) _ (clean_right (breach_if again f.name.token 1) _ own) in
      let value = type_value f.ty i (clean_right (breach_if (not (nat_lt count max_fields)) f.name.token 17) _ limit) in
      let all : AllFields (with_member numbers before (member.Field f)).fields.values = subst (λ (t : Table FieldType). AllFields t.values) (sym (declare_fresh f.name.bytes (field_type numbers f) before.fields fresh)) (fields_push before.fields.values (field_type numbers f) h value) in
      members_values n m ms d (count + 1) (with_member numbers before (member.Field f)) all (clean_right (field_names numbers count before f) _ c)
  members_values _ _ _ (AreMembers.method n k m x ms ir ip b d) count before h c =
      members_values k m ms d count (with_member numbers before (member.Method x)) h (clean_right (method_names before x) _ c)

  pub classes_values : (n m : ℕ) (cs : List Class) → AreClasses n cs m → Clean (all_members numbers cs) → AllClassValues (map class_known (map (class_members numbers) cs))
  classes_values _ _ _ (AreClasses.none n) c = tt
  classes_values _ _ _ (AreClasses.more n k m x cs d ds) c =
      let notes = members_notes numbers 0 no_members x.members in (
        field_values (class_members numbers x).fields.values (members_values n k x.members d 0 no_members tt (clean_left notes _ c)),
        classes_values k m cs ds (clean_right notes _ c),
      )
