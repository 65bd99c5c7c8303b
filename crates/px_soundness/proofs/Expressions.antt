-- An expression in which no breach is noted is typed by its facts.
use Rattle.std.proofs.Common.{◌≡◌, ℕ, zero, suc, ◌+◌, Bool, true, false, ◌&&◌, ◌||◌, List, [], ◌∷◌, ◌++◌, map, length, drop, get_or, Option, Some, None, if◌then◌else◌, refl, sym, ap, ◌∙◌, subst}
use Rattle.std.specs.Option.{option_map}
use Rattle.std.specs.Prelude.{nat_eq, is_none}
use Rattle.std.proofs.lemmas.Bool.{true≢false, eqb-true}
use Rattle.std.proofs.lemmas.List.{length-map}
use Rattle.px_value.specs.declared.op.Op.TheVariants as op
use Rattle.px_value.specs.declared.statement.Statement.{Statement}
use Rattle.px_value.specs.declared.statement.Statement.TheVariants as statement
use Rattle.px_value.specs.declared.schema.Schema.{Schema}
use Rattle.px_value.specs.declared.schema.ColumnType.{ColumnType}
use Rattle.px_value.specs.declared.schema.ColumnType.TheVariants as column
use Rattle.px_tree.specs.declared.Name.{Name}
use Rattle.px_tree.specs.declared.Base.{Base}
use Rattle.px_tree.specs.declared.Sign.{Sign}
use Rattle.px_tree.specs.declared.Expr.{Expr}
use Rattle.px_tree.specs.declared.ExprForm.TheVariants as e
use Rattle.px_facts.specs.declared.types.Ty.{Ty}
use Rattle.px_facts.specs.declared.types.Ty.TheVariants as ty
use Rattle.px_facts.specs.declared.types.Element.{Element}
use Rattle.px_facts.specs.declared.types.Element.TheVariants as element
use Rattle.px_facts.specs.declared.checked.Named.{Named}
use Rattle.px_facts.specs.declared.checked.Named.TheVariants as named
use Rattle.px_facts.specs.declared.checked.Facts.{Facts}
use Rattle.px_facts.specs.declared.operation.Operation.{Operation}
use Rattle.px_facts.specs.Types.{is_unknown, is_array, fits, element_type, array_of, indexed}
use Rattle.px_types.specs.declared.table.Table.{Table}
use Rattle.px_types.specs.declared.node.Node.{Node}
use Rattle.px_types.specs.declared.classes.MethodType.{MethodType}
use Rattle.px_types.specs.declared.classes.Classes.{Classes}
use Rattle.px_types.specs.declared.locals.Locals.{Locals}
use Rattle.px_types.specs.declared.scope.Scope.{Scope}
use Rattle.px_types.specs.declared.database.Verb.{Verb}
use Rattle.px_types.specs.declared.database.Verb.TheVariants as verb
use Rattle.px_type_rules.specs.Breaches.{breach_if, New}
use Rattle.px_types.specs.Names.{find}
use Rattle.px_type_rules.specs.Literals.{literal_type}
use Rattle.px_type_rules.specs.Operators.{is_minus, prefix_fits, prefix_type, group_of, operands_fit, group_type, compares_texts}
use Rattle.px_types.specs.Members.{base_type, class_type, no_class, names_no_class, field_of, method_of}
use Rattle.px_types.specs.Scopes.{no_locals, variable_type}
use Rattle.px_types.specs.Facts.{typed_only, variable_fact, field_fact, method_fact, new_of, new_fact, database_fact, verb_fact, field_at, field_place, method_at, method_place, numbered_method}
use Rattle.px_types.specs.Database.{Written, Bare, Literal, Other, written, asked, literal_in, operation_of, asked_operation, each_fits, all_fit, text_notes, fits_verb, if_fitting, column_type, verb_type}
use Rattle.px_types.specs.Expressions.{Typed, typed, of_type, number, text, misfit, variable, bracketed, field, index, argument_fits, arguments, wanted, has_count, call, types_of, database_notes, database_call, new_object, new_array, prefixed, binary, method_notes, result_of, found_type}
use Rattle.px_types.specs.Known.{Known, known, fact_only, leaf, all_nodes, argument_nodes, text_known, name_known, group_known, field_known, index_known, own_call, call_known, operation_in, array_known, operator_known}
use Rattle.px_types.proofs.Forms.{typed_by_form, typed_written, typed_number, typed_text, typed_true, typed_false, typed_null, typed_this, typed_name, typed_group, typed_field, typed_index, typed_own_call, typed_call, typed_database_call, typed_new, typed_new_array, typed_prefix, typed_binary, text_is_read, no_text}
use Rattle.px_types.proofs.KnownForms.{known_by_form, known_number, known_text, known_true, known_false, known_null, known_this, known_name, known_group, known_field, known_index, known_own_call, known_call, database_call as database_known, known_database_call, known_new, known_new_array, known_prefix, known_binary}
use Rattle.px_types.specs.declared.home.Home.{Home}
use Rattle.px_types.specs.declared.context.Context.{Context}
use Rattle.px_sql.specs.Parameters as sql
use Rattle.px_sql.specs.Reading.{statement_of}
use Rattle.px_mean.specs.Facts.{type_at, named_at, op_of, prefix_of}
use Rattle.px_mean.specs.Typing as t
use Rattle.px_mean.specs.Typing.{Fits, IsVariable, IsMember, IsLibrary, IsSendable, AreSendable, IsTypedExpr, IsReceiver, AreArguments}
use Rattle.px_uses.specs.Uses.{joins, AsksRows, IsUsed}
use Rattle.px_uses.proofs.Made.{method_asks, update_asks, library_asks, query_asks, AllUsed, used_number, used_text, used_truth, used_falsehood, used_null, used_this, used_name, used_group, used_field, used_index, used_call, used_new_object, used_new_array, used_prefix, used_binary}
use Rattle.px_soundness.specs.Numbered.{IsExpr, AreExprs, IsElement, IsBinary, IsPrefix}
use Rattle.px_soundness.proofs.Clean.{Clean, clean_left, clean_right, kept, not_broken, and_left, and_right, or_right, not_true, some_is}
use Rattle.px_soundness.proofs.Operators.{fitting, int_of, prefix_stands, binary_stands, choice_type, joined_well}
use Rattle.px_soundness.proofs.Standing.{Rest, IsFixed, add_one, rest_in_drop, fixed_at, object_at, array_at, query_at, update_at, regroup}
use Rattle.px_soundness.proofs.Premises.{AllKnown, MethodStands, MembersStand, home as home_in, context as context_in, Sees, variable_fixed, field_fixed, method_fixed, selected, Callee, callee, invoked}

-- ---- small facts

literal_known : (long : Bool) → (literal_type long ≡ t.literal_type long) × (is_unknown (literal_type long) ≡ false)
literal_known true = (refl, refl)
literal_known false = (refl, refl)

nothing_fixed : IsFixed named.Nothing
nothing_fixed = λ call site. (refl, refl)

at_place : {A : Type 0} (xs ys : List A) (n : ℕ) (y d : A) → drop n xs ≡ y ∷ ys → get_or xs n d ≡ y
at_place [] ys zero y d h = absurd (cc h)
at_place [] ys (suc n) y d h = absurd (cc h)
at_place (x ∷ xs) ys zero y d h = cc h
at_place (x ∷ xs) ys (suc n) y d h = at_place xs ys n y d h

next_place : {A : Type 0} (xs ys : List A) (n : ℕ) (y : A) → drop n xs ≡ y ∷ ys → drop (n + 1) xs ≡ ys
next_place xs ys n y h = ap (λ (k : ℕ). drop k xs) (sym (add_one n)) ∙ rest_in_drop xs ys n y h

-- ---- arrays

pub record IsArray (u : Ty) : Type 0 where
  pub of : Element
  pub is : u ≡ ty.Array of

array_at_type : (u : Ty) → is_array u ≡ true → IsArray u
array_at_type (ty.Array of) h = record { of = of; is = refl }
array_at_type ty.Unknown h = absurd (true≢false (sym h))
array_at_type ty.Void h = absurd (true≢false (sym h))
array_at_type ty.Null h = absurd (true≢false (sym h))
array_at_type ty.Int h = absurd (true≢false (sym h))
array_at_type ty.Long h = absurd (true≢false (sym h))
array_at_type ty.Boolean h = absurd (true≢false (sym h))
array_at_type ty.Text h = absurd (true≢false (sym h))
array_at_type (ty.Object c) h = absurd (true≢false (sym h))
array_at_type ty.ResultSet h = absurd (true≢false (sym h))

element_known : (of : Element) → is_unknown (element_type of) ≡ false
element_known element.Int = refl
element_known element.Long = refl
element_known element.Boolean = refl
element_known element.Text = refl
element_known (element.Object class) = refl

-- a class that is found by its name
pub record IsFound (numbers : Table ℕ) (name : List ℕ) : Type 0 where
  pub class : ℕ
  pub is : find name numbers ≡ Some class

pub found_class : (numbers : Table ℕ) (name : Name) (found : Option ℕ) → find name.bytes numbers ≡ found → Clean (no_class numbers name) → IsFound numbers name.bytes
found_class numbers name (Some class) e h = record { class = class; is = e }
found_class numbers name None e h = absurd (subst (λ (o : Option ℕ). Clean (breach_if (is_none o) name.token 2)) e h)

pub element_of : (numbers : Table ℕ) (b : Base) → IsElement b → Clean (names_no_class numbers b) → IsArray (array_of (base_type numbers b))
element_of numbers _ IsElement.int h = record { of = element.Int; is = refl }
element_of numbers _ IsElement.long h = record { of = element.Long; is = refl }
element_of numbers _ IsElement.boolean h = record { of = element.Boolean; is = refl }
element_of numbers _ IsElement.text h = record { of = element.Text; is = refl }
element_of numbers _ (IsElement.class name) h =
    let f = found_class numbers name (find name.bytes numbers) refl h in
    record { of = element.Object f.class; is = ap (λ (o : Option ℕ). array_of (class_type o)) f.is }

-- ---- operations

pub sendable : (cs : List ColumnType) → AreSendable (map column_type cs)
sendable [] = tt
sendable (column.Long ∷ cs) = (IsSendable.long, sendable cs)
sendable (column.Text ∷ cs) = (IsSendable.text, sendable cs)

sendable_known : (ts : List Ty) → AreSendable ts → AllKnown ts
sendable_known [] h = tt
sendable_known (u ∷ ts) h = (one u h.0, sendable_known ts h.1)
  where
    one : (u : Ty) → IsSendable u → is_unknown u ≡ false
    one _ IsSendable.long = refl
    one _ IsSendable.text = refl

same_select : (s : Statement) → sql.is_select s ≡ t.is_select s
same_select (statement.ByKey table columns) = refl
same_select (statement.ByColumn table columns column) = refl
same_select (statement.All table columns) = refl
same_select (statement.Update table columns) = refl
same_select (statement.Insert table) = refl
same_select (statement.Delete table) = refl

-- what an operation of a verb is
pub record IsOperationOf (v : Verb) (o : Operation) : Type 0 where
  pub sendable : AreSendable o.params
  pub fits : fits_verb v o.statement ≡ true

if_fits : (schema : Schema) (v : Verb) (s : Statement) (b : Bool) (o : Operation) → fits_verb v s ≡ b → option_map (operation_of schema) (if b then Some s else None) ≡ Some o → IsOperationOf v o
if_fits schema v s true o k h = subst (λ (x : Operation). IsOperationOf v x) (some_is h) (record { sendable = sendable (sql.parameters schema s); fits = k })
if_fits schema v s false o k h = absurd (cc h)

operation_from : (schema : Schema) (v : Verb) (found : Option Statement) (o : Operation) → option_map (operation_of schema) (if_fitting v found) ≡ Some o → IsOperationOf v o
operation_from schema v None o h = absurd (cc h)
operation_from schema v (Some s) o h = if_fits schema v s (fits_verb v s) o refl h

pub operation_stands : (schema : Schema) (v : Verb) (bytes : List ℕ) (o : Operation) → asked_operation schema v bytes ≡ Some o → IsOperationOf v o
operation_stands schema v bytes o h = operation_from schema v (statement_of schema bytes) o h

no_select : (s : Statement) → fits_verb verb.Update s ≡ true → t.is_select s ≡ false
no_select s h = sym (same_select s) ∙ not_true (sql.is_select s) h

-- ---- forms

same_member : (F : Facts) (n n' : Named) (u u' v v' : Ty) → n ≡ n' → u ≡ u' → v ≡ v' → IsMember F n' u' v' → IsMember F n u v
same_member F n n' u u' v v' e f g h =
    subst (λ (x : Named). IsMember F x u v) (sym e) (subst (λ (x : Ty). IsMember F n' x v) (sym f) (subst (λ (x : Ty). IsMember F n' u' x) (sym g) h))

same_library : (n n' : Named) (u u' v v' : Ty) (ts : List Ty) → n ≡ n' → u ≡ u' → v ≡ v' → IsLibrary n' u' ts v' → IsLibrary n u ts v
same_library n n' u u' v v' ts e f g h =
    subst (λ (x : Named). IsLibrary x u ts v) (sym e) (subst (λ (x : Ty). IsLibrary n' x ts v) (sym f) (subst (λ (x : Ty). IsLibrary n' u' ts x) (sym g) h))

module _ (F : Facts) (slots : List Ty) (classes : Classes) (firsts : List ℕ) (this : ℕ) (result : Ty) (members : MembersStand F classes firsts) where
  abbrev H : Home
  H = home_in F slots classes firsts this result members

  abbrev C : Context
  C = context_in F slots classes firsts this result members

  abbrev pub Sight : Locals → Scope → Type 0
  Sight l s = Sees F slots classes firsts this result members l s

  -- what holds of an expression, by what its two walks give
  pub record Good (m : ℕ) (x : Expr) (more : List Node) (u : Typed) (k : Known) : Type 0 where
    pub type_is : type_at F x.id ≡ u.ty
    pub same : k.own.fact.ty ≡ u.ty
    pub known : is_unknown u.ty ≡ false
    pub typed : IsTypedExpr F slots x
    pub used : IsUsed F x
    pub rest : Rest F m more

  abbrev pub Holds : ℕ → Expr → ℕ → Type 0
  Holds n x m = (neg : Bool) (l : Locals) (s : Scope) → Sight l s → (more : List Node) → Clean (typed C x neg l).notes → Rest F n (all_nodes (known H x s) ++ more) → Good m x more (typed C x neg l) (known H x s)

  by_form : (m : ℕ) (x : Expr) (more : List Node) (a b : Typed) (p q : Known) → a ≡ b → p ≡ q → (Clean b.notes → Rest F x.id (all_nodes q ++ more) → Good m x more b q) → Clean a.notes → Rest F x.id (all_nodes p ++ more) → Good m x more a p
  by_form m x more a b p q e f k c r =
      subst (λ (z : Typed). Good m x more z p) (sym e) (subst (λ (z : Known). Good m x more b z) (sym f) (k (subst (λ (z : Typed). Clean z.notes) e c) (subst (λ (z : Known). Rest F x.id (all_nodes z ++ more)) f r)))

  -- ---- literals and names

  number_holds : (x : Expr) (digits : List ℕ) (long : Bool) → x.form ≡ e.Number digits long → Holds x.id x (x.id + 1)
  number_holds x digits long h neg l s sees more =
      by_form (x.id + 1) x more _ (number digits long x.token neg) _ (leaf (typed_only (literal_type long))) (typed_by_form C x neg l ∙ typed_number C x.form x.token neg l digits long h) (known_by_form H x s ∙ known_number H x.form s digits long h) (λ c r.
      let a = fixed_at F x.id (typed_only (literal_type long)) more nothing_fixed r in
      record { type_is = a.type_is; same = refl; known = (literal_known long).1; typed = IsTypedExpr.number x digits long h (a.type_is ∙ (literal_known long).0); used = used_number F x digits long h; rest = a.next })

  text_holds : (x : Expr) (bytes : List ℕ) → x.form ≡ e.Str bytes → Holds x.id x (x.id + 1)
  text_holds x bytes h neg l s sees more =
      by_form (x.id + 1) x more _ (text bytes x.token) _ (text_known bytes) (typed_by_form C x neg l ∙ typed_text C x.form x.token neg l bytes h) (known_by_form H x s ∙ known_text H x.form s bytes h) (λ c r.
      let a = fixed_at F x.id (typed_only ty.Text) more nothing_fixed r in
      record { type_is = a.type_is; same = refl; known = refl; typed = IsTypedExpr.text x bytes h a.type_is; used = used_text F x bytes h; rest = a.next })

  truth_holds : (x : Expr) → x.form ≡ e.True → Holds x.id x (x.id + 1)
  truth_holds x h neg l s sees more =
      by_form (x.id + 1) x more _ (of_type ty.Boolean) _ (leaf (typed_only ty.Boolean)) (typed_by_form C x neg l ∙ typed_true C x.form x.token neg l h) (known_by_form H x s ∙ known_true H x.form s h) (λ c r.
      let a = fixed_at F x.id (typed_only ty.Boolean) more nothing_fixed r in
      record { type_is = a.type_is; same = refl; known = refl; typed = IsTypedExpr.truth x h a.type_is; used = used_truth F x h; rest = a.next })

  falsehood_holds : (x : Expr) → x.form ≡ e.False → Holds x.id x (x.id + 1)
  falsehood_holds x h neg l s sees more =
      by_form (x.id + 1) x more _ (of_type ty.Boolean) _ (leaf (typed_only ty.Boolean)) (typed_by_form C x neg l ∙ typed_false C x.form x.token neg l h) (known_by_form H x s ∙ known_false H x.form s h) (λ c r.
      let a = fixed_at F x.id (typed_only ty.Boolean) more nothing_fixed r in
      record { type_is = a.type_is; same = refl; known = refl; typed = IsTypedExpr.falsehood x h a.type_is; used = used_falsehood F x h; rest = a.next })

  null_holds : (x : Expr) → x.form ≡ e.Null → Holds x.id x (x.id + 1)
  null_holds x h neg l s sees more =
      by_form (x.id + 1) x more _ (of_type ty.Null) _ (leaf (typed_only ty.Null)) (typed_by_form C x neg l ∙ typed_null C x.form x.token neg l h) (known_by_form H x s ∙ known_null H x.form s h) (λ c r.
      let a = fixed_at F x.id (typed_only ty.Null) more nothing_fixed r in
      record { type_is = a.type_is; same = refl; known = refl; typed = IsTypedExpr.null x h a.type_is; used = used_null F x h; rest = a.next })

  this_holds : (x : Expr) → x.form ≡ e.This → Holds x.id x (x.id + 1)
  this_holds x h neg l s sees more =
      by_form (x.id + 1) x more _ (of_type (ty.Object this)) _ (leaf (typed_only (ty.Object this))) (typed_by_form C x neg l ∙ typed_this C x.form x.token neg l h) (known_by_form H x s ∙ known_this H x.form s h) (λ c r.
      let a = fixed_at F x.id (typed_only (ty.Object this)) more nothing_fixed r in
      record { type_is = a.type_is; same = refl; known = refl; typed = IsTypedExpr.this x h (sees.this_is ∙ ap Some (sym a.type_is)); used = used_this F x h; rest = a.next })

  variable_found : (x : Expr) (name : Name) (found : Option Ty) (l : Locals) (s : Scope) (more : List Node) → x.form ≡ e.Name name → Sight l s → variable_type C l name.bytes ≡ found → Clean (variable name found).notes → Rest F x.id (fact_only (variable_fact H s name.bytes) ∷ more) → Good (x.id + 1) x more (variable name found) (name_known (variable_fact H s name.bytes) name.bytes)
  variable_found x name None l s more h sees f c r = absurd c
  variable_found x name (Some u) l s more h sees f c r =
      let v = sees.variables name.bytes u f in
      let a = fixed_at F x.id (variable_fact H s name.bytes) more (variable_fixed F slots classes firsts this result members s name.bytes) r in
      record {
        type_is = a.type_is ∙ v.type_is;
        same = v.type_is;
        known = v.known;
        typed = IsTypedExpr.variable x name h (subst (λ (n : Named). IsVariable F slots n (type_at F x.id)) (sym a.named_is) (subst (λ (w : Ty). IsVariable F slots (variable_fact H s name.bytes).named w) (sym (a.type_is ∙ v.type_is)) v.variable));
        used = used_name F x name h;
        rest = a.next;
      }

  variable_holds : (x : Expr) (name : Name) → x.form ≡ e.Name name → Holds x.id x (x.id + 1)
  variable_holds x name h neg l s sees more =
      by_form (x.id + 1) x more _ (variable name (variable_type C l name.bytes)) _ (name_known (variable_fact H s name.bytes) name.bytes) (typed_by_form C x neg l ∙ typed_name C x.form x.token neg l name h) (known_by_form H x s ∙ known_name H x.form s name h)
      (variable_found x name (variable_type C l name.bytes) l s more h sees refl)

  group_holds : (m : ℕ) (x inner : Expr) → x.form ≡ e.Group inner → Holds (x.id + 1) inner m → Holds x.id x m
  group_holds m x inner h hold neg l s sees more =
      let K = known H inner s in
      by_form m x more _ (bracketed (typed C inner false l)) _ (group_known K) (typed_by_form C x neg l ∙ typed_group C x.form x.token neg l inner inner h refl) (known_by_form H x s ∙ known_group H x.form s inner inner h refl) (λ c r.
      let a = fixed_at F x.id (typed_only K.own.fact.ty) (all_nodes K ++ more) nothing_fixed r in
      let g = hold false l s sees more c a.next in
      record { type_is = a.type_is ∙ g.same; same = g.same; known = g.known; typed = IsTypedExpr.group x inner h (g.type_is ∙ sym (a.type_is ∙ g.same)) g.typed; used = used_group F x inner h g.used; rest = g.rest })

  -- ---- fields and elements

  field_holds : (m : ℕ) (x of : Expr) (name : Name) → x.form ≡ e.Field of name → Holds (x.id + 1) of m → Holds x.id x m
  field_holds m x of name h hold neg l s sees more =
      let K = known H of s in
      let T = typed C of neg l in
      by_form m x more _ (field C T name) _ (field_known H K name.bytes) (typed_by_form C x neg l ∙ typed_field C x.form x.token neg l name of of h refl) (known_by_form H x s ∙ known_field H x.form s name of of h refl) (λ c r.
      let a = fixed_at F x.id (field_fact H K.own.fact.ty name.bytes) (all_nodes K ++ more) (field_fixed F slots classes firsts this result members K.own.fact.ty (field_place K.own.fact.ty name.bytes classes)) r in
      let g = hold neg l s sees more (clean_left T.notes _ c) a.next in
      let v = selected F slots classes firsts this result members T.ty name (field_of T.ty name.bytes classes) refl g.known (clean_right T.notes _ c) in
      let same : found_type (field_of K.own.fact.ty name.bytes classes) ≡ found_type (field_of T.ty name.bytes classes) = ap (λ (z : Ty). found_type (field_of z name.bytes classes)) g.same in
      record {
        type_is = a.type_is ∙ same;
        same = same;
        known = subst (λ (z : Ty). is_unknown z ≡ false) (sym v.found_is) v.known;
        typed = IsTypedExpr.field x of name h (same_member F _ _ _ _ _ _ (a.named_is ∙ ap (λ (z : Ty). field_at z (field_place z name.bytes classes)) g.same) g.type_is (a.type_is ∙ same ∙ v.found_is) v.named) g.typed;
        used = used_field F x of name h g.used;
        rest = g.rest;
      })

  index_holds : (k m : ℕ) (x of at : Expr) → x.form ≡ e.Index of at → Holds (x.id + 1) of k → Holds k at m → Holds x.id x m
  index_holds k m x of at h hold hold' neg l s sees more =
      let K = known H of s in
      let J = known H at s in
      let T = typed C of neg l in
      let U = typed C at false l in
      by_form m x more _ (index x.token T U) _ (index_known K J) (typed_by_form C x neg l ∙ typed_index C x.form x.token neg l of of at at h refl refl) (known_by_form H x s ∙ known_index H x.form s of of at at h refl refl) (λ c r.
      let a = fixed_at F x.id (typed_only (indexed K.own.fact.ty)) ((all_nodes K ++ all_nodes J) ++ more) nothing_fixed r in
      let g = hold neg l s sees (all_nodes J ++ more) (clean_left T.notes _ c) (regroup F (x.id + 1) (all_nodes K) (all_nodes J) more a.next) in
      let i = hold' false l s sees more (clean_left U.notes _ (clean_right T.notes _ c)) g.rest in
      let fit = kept ((is_unknown T.ty || is_array T.ty) && fits ty.Int U.ty) x.token 6 (clean_right U.notes _ (clean_right T.notes _ c)) in
      let arr = array_at_type T.ty (or_right (is_unknown T.ty) (is_array T.ty) g.known (and_left (is_unknown T.ty || is_array T.ty) (fits ty.Int U.ty) fit)) in
      let is : indexed T.ty ≡ element_type arr.of = ap indexed arr.is in
      record {
        type_is = a.type_is ∙ ap indexed g.same;
        same = ap indexed g.same;
        known = subst (λ (z : Ty). is_unknown z ≡ false) (sym is) (element_known arr.of);
        typed = IsTypedExpr.indexed x of at arr.of h (g.type_is ∙ arr.is) (sym (a.type_is ∙ ap indexed g.same ∙ is)) g.typed i.typed;
        used = used_index F x of at h (i.type_is ∙ int_of U.ty i.known (and_right (is_unknown T.ty || is_array T.ty) (fits ty.Int U.ty) fit)) g.used i.used;
        rest = i.rest;
      })

  -- ---- `new`

  object_found : (x : Expr) (name : Name) (found : Option ℕ) (more : List Node) → x.form ≡ e.NewObject name → Clean (breach_if (is_none found) name.token 2) → Rest F x.id (fact_only (new_of found) ∷ more) → Good (x.id + 1) x more (record { ty = class_type found; notes = New x.token ∷ breach_if (is_none found) name.token 2; written = Other }) (leaf (new_of found))
  object_found x name None more h c r = absurd c
  object_found x name (Some class) more h c r =
      let a = object_at F x.id class 0 (ty.Object class) more r in
      record { type_is = a.type_is; same = refl; known = refl; typed = IsTypedExpr.new_object x name class a.site h a.named_is a.type_is; used = used_new_object F x name h; rest = a.next }

  object_holds : (x : Expr) (name : Name) → x.form ≡ e.NewObject name → Holds x.id x (x.id + 1)
  object_holds x name h neg l s sees more =
      by_form (x.id + 1) x more _ (new_object C x.token name) _ (leaf (new_fact H name.bytes)) (typed_by_form C x neg l ∙ typed_new C x.form x.token neg l name h) (known_by_form H x s ∙ known_new H x.form s name h) (λ c r.
      object_found x name (find name.bytes classes.numbers) more h c r)

  array_holds : (m : ℕ) (x : Expr) (b : Base) (size : Expr) → x.form ≡ e.NewArray b size → IsElement b → Holds (x.id + 1) size m → Holds x.id x m
  array_holds m x b size h i hold neg l s sees more =
      let K = known H size s in
      let T = typed C size false l in
      let u = array_of (base_type classes.numbers b) in
      by_form m x more _ (new_array C x.token b T) _ (array_known (base_type classes.numbers b) K) (typed_by_form C x neg l ∙ typed_new_array C x.form x.token neg l b size size h refl) (known_by_form H x s ∙ known_new_array H x.form s b size size h refl) (λ c r.
      let a = array_at F x.id 0 u (all_nodes K ++ more) r in
      let g = hold false l s sees more (clean_left T.notes _ (clean_right (names_no_class classes.numbers b) _ c)) a.next in
      let arr = element_of classes.numbers b i (clean_left (names_no_class classes.numbers b) _ c) in
      record {
        type_is = a.type_is;
        same = refl;
        known = ap is_unknown arr.is;
        typed = IsTypedExpr.new_array x size b a.site arr.of h a.named_is (a.type_is ∙ arr.is) g.typed;
        used = used_new_array F x b size h (g.type_is ∙ int_of T.ty g.known (kept (fits ty.Int T.ty) x.token 6 (clean_right T.notes _ (clean_right (names_no_class classes.numbers b) _ c)))) g.used;
        rest = g.rest;
      })

  -- ---- operators

  prefix_holds : (m : ℕ) (x : Expr) (sign : Sign) (y : Expr) → x.form ≡ e.Prefix sign y → IsPrefix sign → Holds (x.id + 1) y m → Holds x.id x m
  prefix_holds m x sign y h i hold neg l s sees more =
      let K = known H y s in
      let T = typed C y (is_minus sign) l in
      by_form m x more _ (prefixed x.token sign T) _ (operator_known (prefix_type sign K.own.fact.ty) (all_nodes K)) (typed_by_form C x neg l ∙ typed_prefix C x.form x.token neg l sign y y h refl) (known_by_form H x s ∙ known_prefix H x.form s sign y y h refl) (λ c r.
      let a = fixed_at F x.id (typed_only (prefix_type sign K.own.fact.ty)) (all_nodes K ++ more) nothing_fixed r in
      let g = hold (is_minus sign) l s sees more (clean_left T.notes _ c) a.next in
      let p = prefix_stands sign T.ty i g.known (kept (prefix_fits sign T.ty) x.token 6 (clean_right T.notes _ c)) in
      let same = ap (prefix_type sign) g.same in
      record {
        type_is = a.type_is ∙ same;
        same = same;
        known = p.1;
        typed = IsTypedExpr.prefix x y sign h (subst (λ (z : Ty). t.PrefixGives (prefix_of sign z) z (type_at F x.id)) (sym g.type_is) (subst (λ (z : Ty). t.PrefixGives (prefix_of sign T.ty) T.ty z) (sym (a.type_is ∙ same)) p.0)) g.typed;
        used = used_prefix F x sign y h g.used;
        rest = g.rest;
      })

  binary_holds : (k m : ℕ) (x : Expr) (sign : Sign) (at : ℕ) (y z : Expr) → x.form ≡ e.Binary sign at y z → IsBinary sign → Holds (x.id + 1) y k → Holds k z m → Holds x.id x m
  binary_holds k m x sign at y z h i hold hold' neg l s sees more =
      let K = known H y s in
      let J = known H z s in
      let T = typed C y false l in
      let U = typed C z false l in
      let g = group_of sign in
      by_form m x more _ (binary x.token sign at T U) _ (operator_known (group_type g K.own.fact.ty J.own.fact.ty) (all_nodes K ++ all_nodes J)) (typed_by_form C x neg l ∙ typed_binary C x.form x.token neg l sign at y y z z h refl refl) (known_by_form H x s ∙ known_binary H x.form s sign at y y z z h refl refl) (λ c r.
      let a = fixed_at F x.id (typed_only (group_type g K.own.fact.ty J.own.fact.ty)) ((all_nodes K ++ all_nodes J) ++ more) nothing_fixed r in
      let one = hold false l s sees (all_nodes J ++ more) (clean_left T.notes _ c) (regroup F (x.id + 1) (all_nodes K) (all_nodes J) more a.next) in
      let c' = clean_right T.notes _ c in
      let two = hold' false l s sees more (clean_left U.notes _ c') one.rest in
      let c'' = clean_right U.notes _ c' in
      let fit = kept (operands_fit g T.ty U.ty) x.token 6 (clean_left (misfit (operands_fit g T.ty U.ty) x.token) _ c'') in
      let p = binary_stands sign T.ty U.ty i one.known two.known fit (not_broken (compares_texts g T.ty U.ty) at 7 (clean_right (misfit (operands_fit g T.ty U.ty) x.token) _ c'')) in
      let same : group_type g K.own.fact.ty J.own.fact.ty ≡ group_type g T.ty U.ty = ap (λ (w : Ty). group_type g w J.own.fact.ty) one.same ∙ ap (λ (w : Ty). group_type g T.ty w) two.same in
      record {
        type_is = a.type_is ∙ same;
        same = same;
        known = p.1;
        typed = IsTypedExpr.binary x y z sign at h
            (subst (λ (w : Ty). t.BinaryGives sign w (type_at F z.id) (type_at F x.id)) (sym one.type_is) (subst (λ (w : Ty). t.BinaryGives sign T.ty w (type_at F x.id)) (sym two.type_is) (subst (λ (w : Ty). t.BinaryGives sign T.ty U.ty w) (sym (a.type_is ∙ same)) p.0)))
            one.typed two.typed;
        used = used_binary F x sign at y z h (λ e. a.type_is ∙ same ∙ choice_type sign T.ty U.ty e)
            (subst (λ (w : Ty). op_of sign w (type_at F z.id) ≡ op.Concat → joins w (type_at F z.id) ≡ true) (sym one.type_is) (subst (λ (w : Ty). op_of sign T.ty w ≡ op.Concat → joins T.ty w ≡ true) (sym two.type_is) (joined_well sign T.ty U.ty one.known two.known fit)))
            one.used two.used;
        rest = two.rest;
      })

  -- ---- arguments

  abbrev AllClean : Locals → List Expr → Type 0
  AllClean l [] = Unit {0}
  AllClean l (x ∷ xs) = Clean (typed C x false l).notes × AllClean l xs

  abbrev AllFit : Locals → List Ty → List Expr → Type 0
  AllFit l [] [] = Unit {0}
  AllFit l (u ∷ us) (x ∷ xs) = (fits u (typed C x false l).ty ≡ true) × AllFit l us xs
  AllFit l _ _ = ⊥

  record GoodAll (m : ℕ) (us : List Ty) (xs : List Expr) (more : List Node) : Type 0 where
    typed : AreArguments F slots us xs
    used : AllUsed F xs
    rest : Rest F m more

  abbrev HoldAll : ℕ → List Expr → ℕ → Type 0
  HoldAll n xs m = (l : Locals) (s : Scope) → Sight l s → (us : List Ty) → AllKnown us → AllClean l xs → AllFit l us xs → (more : List Node) → Rest F n (argument_nodes s (map (known H) xs) ++ more) → GoodAll m us xs more

  none_hold : (n : ℕ) → HoldAll n [] n
  none_hold n l s sees [] k c f more r = record { typed = AreArguments.none; used = tt; rest = r }
  none_hold n l s sees (u ∷ us) k c f more r = absurd f

  more_hold : (n k m : ℕ) (x : Expr) (xs : List Expr) → Holds n x k → HoldAll k xs m → HoldAll n (x ∷ xs) m
  more_hold n k m x xs hold all l s sees [] w c f more r = absurd f
  more_hold n k m x xs hold all l s sees (u ∷ us) w c f more r =
      let g = hold false l s sees (argument_nodes s (map (known H) xs) ++ more) c.0 (regroup F n (all_nodes (known H x s)) (argument_nodes s (map (known H) xs)) more r) in
      let rest = all l s sees us w.1 c.1 f.1 more g.rest in
      record { typed = AreArguments.more u us x xs (subst (λ (z : Ty). Fits z u) (sym g.type_is) (fitting u (typed C x false l).ty w.0 g.known f.0)) g.typed rest.typed; used = (g.used, rest.used); rest = rest.rest }

  clean_arguments : (token : ℕ) (wants : List Ty) (place : ℕ) (l : Locals) (xs : List Expr) → Clean (arguments token wants place l (map (typed C) xs)) → AllClean l xs
  clean_arguments token wants place l [] c = tt
  clean_arguments token wants place l (x ∷ xs) c =
      (clean_left (typed C x false l).notes _ c, clean_arguments token wants (place + 1) l xs (clean_right (misfit (argument_fits (get_or wants place ty.Unknown) (typed C x false l).ty) token) _ (clean_right (typed C x false l).notes _ c)))

  fit_arguments : (token : ℕ) (wants us : List Ty) (place : ℕ) (l : Locals) (xs : List Expr) → drop place wants ≡ us → length xs ≡ length us → AllKnown us → Clean (arguments token wants place l (map (typed C) xs)) → AllFit l us xs
  fit_arguments token wants [] place l [] d n w c = tt
  fit_arguments token wants (u ∷ us) place l [] d n w c = absurd (cc n)
  fit_arguments token wants [] place l (x ∷ xs) d n w c = absurd (cc n)
  fit_arguments token wants (u ∷ us) place l (x ∷ xs) d n w c =
      let T = typed C x false l in
      let fitting = argument_fits (get_or wants place ty.Unknown) T.ty in
      let c' = clean_right T.notes _ c in (
        or_right (is_unknown u) (fits u T.ty) w.0 (subst (λ (z : Ty). argument_fits z T.ty ≡ true) (at_place wants us place u ty.Unknown d) (kept fitting token 6 (clean_left (misfit fitting token) _ c'))),
        fit_arguments token wants us (place + 1) l xs (next_place wants us place u d) (cc n) w.1 (clean_right (misfit fitting token) _ c'),
      )

  fit_parameters : (wants us : List Ty) (place : ℕ) (l : Locals) (xs : List Expr) → drop place wants ≡ us → length us ≡ length (types_of l (map (typed C) xs)) → each_fits wants place (types_of l (map (typed C) xs)) ≡ true → AllFit l us xs
  fit_parameters wants [] place l [] d n c = tt
  fit_parameters wants (u ∷ us) place l [] d n c = absurd (cc n)
  fit_parameters wants [] place l (x ∷ xs) d n c = absurd (cc n)
  fit_parameters wants (u ∷ us) place l (x ∷ xs) d n c =
      let T = typed C x false l in
      let rest = each_fits wants (place + 1) (types_of l (map (typed C) xs)) in (
        subst (λ (z : Ty). fits z T.ty ≡ true) (at_place wants us place u ty.Unknown d) (and_left (fits (get_or wants place ty.Unknown) T.ty) rest c),
        fit_parameters wants us (place + 1) l xs (next_place wants us place u d) (cc n) (and_right (fits (get_or wants place ty.Unknown) T.ty) rest c),
      )

  -- those of a method that is found, and that has as many parameters
  wanted_are : (count : ℕ) (found : Option MethodType) (m : MethodType) → found ≡ Some m → has_count m count ≡ true → wanted count found ≡ m.params
  wanted_are count found m e k = ap (wanted count) e ∙ ap (λ (b : Bool). if b then m.params else []) k

  method_arguments : (token : ℕ) (m : MethodType) (found : Option MethodType) (l : Locals) (xs : List Expr) → found ≡ Some m → has_count m (length (map (typed C) xs)) ≡ true → Clean (arguments token (wanted (length (map (typed C) xs)) found) 0 l (map (typed C) xs)) → AllClean l xs × (AllKnown m.params → AllFit l m.params xs)
  method_arguments token m found l xs e k c =
      let c' = subst (λ (us : List Ty). Clean (arguments token us 0 l (map (typed C) xs))) (wanted_are (length (map (typed C) xs)) found m e k) c in
      (clean_arguments token m.params 0 l xs c', λ w. fit_arguments token m.params m.params 0 l xs refl (sym (length-map xs (typed C)) ∙ eqb-true _ _ k) w c')

  -- ---- calls of methods

  stands_at : (class : ℕ) (name : List ℕ) (m : MethodType) → (st : MethodStands F classes firsts class name m) → method_at H (ty.Object class) (method_place (ty.Object class) name classes) ≡ named.Method (st.first + st.place)
  stands_at class name m st = ap (method_at H (ty.Object class)) st.place_is ∙ ap (λ (o : Option ℕ). numbered_method o st.place) st.first_is

  own_call_holds : (m : ℕ) (x : Expr) (name : Name) (args : List Expr) → x.form ≡ e.Call None name args → HoldAll (x.id + 1) args m → Holds x.id x m
  own_call_holds m x name args h all neg l s sees more =
      let u = ty.Object this in
      let js = map (typed C) args in
      let found = method_of u name.bytes classes in
      by_form m x more _ (call C x.token (of_type u) name js l) _ (own_call H name.bytes (argument_nodes s (map (known H) args))) (typed_by_form C x neg l ∙ typed_own_call C x.form x.token neg l name args h) (known_by_form H x s ∙ known_own_call H x.form s name args h) (λ c r.
      let a = fixed_at F x.id (method_fact H u name.bytes) (argument_nodes s (map (known H) args) ++ more) (method_fixed F slots classes firsts this result members u (method_place u name.bytes classes)) r in
      let i = invoked F slots classes firsts this result members u name (length js) found refl refl (clean_left (method_notes C u name (length js) found) _ c) in
      let st = members.methods this name.bytes i.m i.found_is in
      let p = method_arguments x.token i.m found l args i.found_is i.counted (clean_right (method_notes C u name (length js) found) _ c) in
      let q = all l s sees i.m.params st.known p.0 (p.1 st.known) more a.next in
      let same : result_of found ≡ i.m.result = ap result_of i.found_is in
      let at : named_at F x.id ≡ named.Method (st.first + st.place) = a.named_is ∙ stands_at this name.bytes i.m st in
      record {
        type_is = a.type_is;
        same = refl;
        known = ap is_unknown same ∙ st.result_known;
        typed = IsTypedExpr.call x None name args (st.first + st.place) st.fact h at st.fact_is (st.result_is ∙ sym (a.type_is ∙ same)) (IsReceiver.own (ty.Object st.fact.class) (sees.this_is ∙ ap (λ (k : ℕ). Some (ty.Object k)) (sym st.class_is))) (subst (λ (us : List Ty). AreArguments F slots us args) (sym st.params_are) q.typed);
        used = used_call F x None name args h (method_asks F (named_at F x.id) (st.first + st.place) at) q.used;
        rest = q.rest;
      })

  -- the call of a callee that is found
  record IsCalled (m : ℕ) (x : Expr) (args : List Expr) (mt : MethodType) (rest : List Node) : Type 0 where
    known : is_unknown mt.result ≡ false
    typed : IsTypedExpr F slots x
    asks : AsksRows F (named_at F x.id)
    all : GoodAll m mt.params args rest

  called_on : (m : ℕ) (x of : Expr) (name : Name) (args : List Expr) (u : Ty) (mt : MethodType) (rest : List Node) → x.form ≡ e.Call (Some of) name args → type_at F of.id ≡ u → IsTypedExpr F slots of → named_at F x.id ≡ method_at H u (method_place u name.bytes classes) → type_at F x.id ≡ mt.result
      → Callee F slots classes firsts this result members u name.bytes mt → (AllKnown mt.params → GoodAll m mt.params args rest) → IsCalled m x args mt rest
  called_on m x of name args u mt rest h f g n k (Callee.method class e st) all =
      let q = all st.known in
      let at : named_at F x.id ≡ named.Method (st.first + st.place) = n ∙ ap (λ (z : Ty). method_at H z (method_place z name.bytes classes)) e ∙ stands_at class name.bytes mt st in
      record {
        known = st.result_known;
        typed = IsTypedExpr.call x (Some of) name args (st.first + st.place) st.fact h at st.fact_is (st.result_is ∙ sym k) (IsReceiver.of (ty.Object st.fact.class) of (f ∙ e ∙ ap ty.Object (sym st.class_is)) g) (subst (λ (us : List Ty). AreArguments F slots us args) (sym st.params_are) q.typed);
        asks = method_asks F (named_at F x.id) (st.first + st.place) at;
        all = q;
      }
  called_on m x of name args u mt rest h f g n k (Callee.library lib known result_known) all =
      let q = all known in
      let own = same_library _ _ _ _ _ _ mt.params n f k lib in
      record { known = result_known; typed = IsTypedExpr.library x of name args mt.params h own g q.typed; asks = library_asks F (named_at F x.id) (type_at F of.id) (type_at F x.id) mt.params own; all = q }

  call_holds : (k m : ℕ) (x of : Expr) (name : Name) (args : List Expr) → x.form ≡ e.Call (Some of) name args → asked (written of) name.bytes ≡ None → Holds (x.id + 1) of k → HoldAll k args m → Holds x.id x m
  call_holds k m x of name args h free hold all neg l s sees more =
      let K = known H of s in
      let T = typed C of neg l in
      let js = map (typed C) args in
      let found = method_of T.ty name.bytes classes in
      let ns = argument_nodes s (map (known H) args) in
      by_form m x more _ (call C x.token T name js l) _ (call_known H K name.bytes ns) (typed_by_form C x neg l ∙ typed_call C x.form x.token neg l of of name args h refl free) (known_by_form H x s ∙ known_call H x.form s of of name args h refl free) (λ c r.
      let a = fixed_at F x.id (method_fact H K.own.fact.ty name.bytes) ((all_nodes K ++ ns) ++ more) (method_fixed F slots classes firsts this result members K.own.fact.ty (method_place K.own.fact.ty name.bytes classes)) r in
      let g = hold neg l s sees (ns ++ more) (clean_left T.notes _ c) (regroup F (x.id + 1) (all_nodes K) ns more a.next) in
      let c' = clean_right T.notes _ c in
      let i = invoked F slots classes firsts this result members T.ty name (length js) found refl g.known (clean_left (method_notes C T.ty name (length js) found) _ c') in
      let p = method_arguments x.token i.m found l args i.found_is i.counted (clean_right (method_notes C T.ty name (length js) found) _ c') in
      let same : result_of (method_of K.own.fact.ty name.bytes classes) ≡ result_of found = ap (λ (z : Ty). result_of (method_of z name.bytes classes)) g.same in
      let is : result_of found ≡ i.m.result = ap result_of i.found_is in
      let q = called_on m x of name args T.ty i.m more h g.type_is g.typed (a.named_is ∙ ap (λ (z : Ty). method_at H z (method_place z name.bytes classes)) g.same) (a.type_is ∙ same ∙ is) (callee F slots classes firsts this result members T.ty name.bytes i.m i.found_is) (λ w. all l s sees i.m.params w p.0 (p.1 w) more g.rest) in
      record { type_is = a.type_is ∙ same; same = same; known = ap is_unknown is ∙ q.known; typed = q.typed; used = used_call F x (Some of) name args h q.asks (g.used, q.all.used); rest = q.all.rest })

  -- ---- how an expression is written

  data Kind (n m : ℕ) (x : Expr) : Type 0 where
    bare : (name : Name) → m ≡ n + 1 → written x ≡ Bare name.bytes → x.form ≡ e.Name name → Kind n m x
    literal : (bytes : List ℕ) (token : ℕ) → m ≡ n + 1 → written x ≡ Literal bytes token → x.form ≡ e.Str bytes → x.id ≡ n → Kind n m x
    other : written x ≡ Other → Kind n m x

  as_other : (n m : ℕ) (x : Expr) (u : Typed) → typed C x false no_locals ≡ u → u.written ≡ Other → Kind n m x
  as_other n m x u h k = Kind.other (sym (typed_written C x false no_locals) ∙ ap (λ (z : Typed). z.written) h ∙ k)

  by_verb : (n m : ℕ) (x of : Expr) (name : Name) (args : List Expr) (v : Option Verb) → x.form ≡ e.Call (Some of) name args → asked (written of) name.bytes ≡ v → Kind n m x
  by_verb n m x of name args None h k = as_other n m x _ (typed_by_form C x false no_locals ∙ typed_call C x.form x.token false no_locals of of name args h refl k) refl
  by_verb n m x of name args (Some v) h k = as_other n m x _ (typed_by_form C x false no_locals ∙ typed_database_call C x.form x.token false no_locals of of name args v h refl k) refl

  kind_of : (n m : ℕ) (x : Expr) → IsExpr n x m → Kind n m x
  kind_of _ _ _ (IsExpr.number x digits long h) = as_other x.id (x.id + 1) x _ (typed_by_form C x false no_locals ∙ typed_number C x.form x.token false no_locals digits long h) refl
  kind_of _ _ _ (IsExpr.text x bytes h) = Kind.literal bytes x.token refl (sym (typed_written C x false no_locals) ∙ ap (λ (z : Typed). z.written) (typed_by_form C x false no_locals ∙ typed_text C x.form x.token false no_locals bytes h)) h refl
  kind_of _ _ _ (IsExpr.truth x h) = as_other x.id (x.id + 1) x _ (typed_by_form C x false no_locals ∙ typed_true C x.form x.token false no_locals h) refl
  kind_of _ _ _ (IsExpr.falsehood x h) = as_other x.id (x.id + 1) x _ (typed_by_form C x false no_locals ∙ typed_false C x.form x.token false no_locals h) refl
  kind_of _ _ _ (IsExpr.null x h) = as_other x.id (x.id + 1) x _ (typed_by_form C x false no_locals ∙ typed_null C x.form x.token false no_locals h) refl
  kind_of _ _ _ (IsExpr.this x h) = as_other x.id (x.id + 1) x _ (typed_by_form C x false no_locals ∙ typed_this C x.form x.token false no_locals h) refl
  kind_of _ _ _ (IsExpr.variable x name h) = Kind.bare name refl (sym (typed_written C x false no_locals) ∙ ap (λ (z : Typed). z.written) (typed_by_form C x false no_locals ∙ typed_name C x.form x.token false no_locals name h)) h
  kind_of _ _ _ (IsExpr.group m x inner h d) = as_other x.id m x _ (typed_by_form C x false no_locals ∙ typed_group C x.form x.token false no_locals inner inner h refl) refl
  kind_of _ _ _ (IsExpr.field m x of name h d) = as_other x.id m x _ (typed_by_form C x false no_locals ∙ typed_field C x.form x.token false no_locals name of of h refl) refl
  kind_of _ _ _ (IsExpr.indexed k m x of at h d f) = as_other x.id m x _ (typed_by_form C x false no_locals ∙ typed_index C x.form x.token false no_locals of of at at h refl refl) refl
  kind_of _ _ _ (IsExpr.own_call m x name args h d) = as_other x.id m x _ (typed_by_form C x false no_locals ∙ typed_own_call C x.form x.token false no_locals name args h) refl
  kind_of _ _ _ (IsExpr.call k m x of name args h d f) = by_verb x.id m x of name args (asked (written of) name.bytes) h refl
  kind_of _ _ _ (IsExpr.new_object x name h) = as_other x.id (x.id + 1) x _ (typed_by_form C x false no_locals ∙ typed_new C x.form x.token false no_locals name h) refl
  kind_of _ _ _ (IsExpr.new_array m x b size h i d) = as_other x.id m x _ (typed_by_form C x false no_locals ∙ typed_new_array C x.form x.token false no_locals b size size h refl) refl
  kind_of _ _ _ (IsExpr.prefix m x sign y h i d) = as_other x.id m x _ (typed_by_form C x false no_locals ∙ typed_prefix C x.form x.token false no_locals sign y y h refl) refl
  kind_of _ _ _ (IsExpr.binary k m x sign at y z h i d f) = as_other x.id m x _ (typed_by_form C x false no_locals ∙ typed_binary C x.form x.token false no_locals sign at y y z z h refl refl) refl

  -- `Db` has one number, and no parts
  receiver_used : (n m : ℕ) (x : Expr) (name : List ℕ) (v : Verb) → Kind n m x → asked (written x) name ≡ Some v → IsUsed F x
  receiver_used n m x name v (Kind.bare of h k i) q = used_name F x of i
  receiver_used n m x name v (Kind.literal bytes token h k i j) q = used_text F x bytes i
  receiver_used n m x name v (Kind.other k) q = absurd (cc (sym (ap (λ (z : Written). asked z name) k) ∙ q))

  receiver_end : (n m : ℕ) (x : Expr) (name : List ℕ) (v : Verb) → Kind n m x → asked (written x) name ≡ Some v → m ≡ n + 1
  receiver_end n m x name v (Kind.bare of h k i) q = h
  receiver_end n m x name v (Kind.literal bytes token h k i j) q = h
  receiver_end n m x name v (Kind.other k) q = absurd (cc (sym (ap (λ (z : Written). asked z name) k) ∙ q))

  -- ---- calls of `Db`

  record IsDatabaseAt (v : Verb) (x : Expr) (o : Operation) (args : List Expr) (rest : List Node) : Type 0 where
    type_is : type_at F x.id ≡ verb_type v
    same : (verb_fact v).ty ≡ verb_type v
    known : is_unknown (verb_type v) ≡ false
    typed : AreArguments F slots o.params args → IsTypedExpr F slots x
    asks : AsksRows F (named_at F x.id)
    next : Rest F (x.id + 1) rest

  database_at : (v : Verb) (x : Expr) (of : Option Expr) (name : Name) (first : Expr) (args : List Expr) (o : Operation) (rest : List Node) → x.form ≡ e.Call of name (first ∷ args) → IsOperationOf v o → Rest F x.id (record { fact = verb_fact v; operation = Some o } ∷ rest) → IsDatabaseAt v x o args rest
  database_at verb.Query x of name first args o rest h is r =
      let a = query_at F x.id 0 0 ty.ResultSet o rest r in
      record { type_is = a.type_is; same = refl; known = refl; typed = λ q. IsTypedExpr.query x of name first args a.number a.site o h a.named_is a.operation_is a.type_is is.sendable q; asks = query_asks F (named_at F x.id) a.number a.site o a.named_is a.operation_is (sym (same_select o.statement) ∙ is.fits); next = a.next }
  database_at verb.Update x of name first args o rest h is r =
      let a = update_at F x.id 0 ty.Int o rest r in
      record { type_is = a.type_is; same = refl; known = refl; typed = λ q. IsTypedExpr.update x of name first args a.number o h a.named_is a.operation_is (no_select o.statement is.fits) a.type_is is.sendable q; asks = update_asks F (named_at F x.id) a.number a.named_is; next = a.next }

  -- the nodes behind that of the call: `Db`, the text, and the other arguments
  behind_text : (n k j : ℕ) (first : Expr) (bytes : List ℕ) (s : Scope) (ns more : List Node) → k ≡ n + 1 → j ≡ k + 1 → first.form ≡ e.Str bytes → Rest F n (fact_only database_fact ∷ ((all_nodes (known H first s) ++ ns) ++ more)) → Rest F j (ns ++ more)
  behind_text n k j first bytes s ns more e f h r =
      let a = fixed_at F n database_fact ((all_nodes (known H first s) ++ ns) ++ more) (λ call site. (refl, refl)) r in
      let b = subst (λ (p : Known). Rest F (n + 1) ((all_nodes p ++ ns) ++ more)) (known_by_form H first s ∙ known_text H first.form s bytes h) a.next in
      let d = fixed_at F k (typed_only ty.Text) (ns ++ more) nothing_fixed (subst (λ (i : ℕ). Rest F i (fact_only (typed_only ty.Text) ∷ (ns ++ more))) (sym e) b) in
      subst (λ (i : ℕ). Rest F i (ns ++ more)) (sym f) d.next

  text_stands : (database token : ℕ) (found : Option Operation) (us : List Ty) (M : Type 0) → ((o : Operation) → found ≡ Some o → all_fit o.params us ≡ true → M) → Clean (text_notes database token found us) → M
  text_stands database token None us M f c = absurd c
  text_stands database token (Some o) us M f c = f o refl (kept (all_fit o.params us) database 13 c)

  database_stands : (k j m : ℕ) (x of first : Expr) (name : Name) (args : List Expr) (v : Verb) (bytes : List ℕ) (token : ℕ) (l : Locals) (s : Scope) (more : List Node) → x.form ≡ e.Call (Some of) name (first ∷ args) → k ≡ (x.id + 1) + 1 → j ≡ k + 1 → written first ≡ Literal bytes token → first.form ≡ e.Str bytes → IsUsed F of → HoldAll j args m → Sight l s
      → Clean (arguments x.token [] 0 l (map (typed C) args) ++ text_notes x.token first.token (asked_operation classes.library.schema v bytes) (types_of l (map (typed C) args))) → Rest F x.id (all_nodes (database_known H v (first ∷ args) s) ++ more) → Good m x more (database_call C x.token v (map (typed C) (first ∷ args)) l) (database_known H v (first ∷ args) s)
  database_stands k j m x of first name args v bytes token l s more h ek ej w hf db all sees c r =
      let us = types_of l (map (typed C) args) in
      let ns = argument_nodes s (map (known H) args) in
      let behind = fact_only database_fact ∷ ((all_nodes (known H first s) ++ ns) ++ more) in
      text_stands x.token first.token (asked_operation classes.library.schema v bytes) us (Good m x more (database_call C x.token v (map (typed C) (first ∷ args)) l) (database_known H v (first ∷ args) s)) (λ o f fit.
      let is = operation_stands classes.library.schema v bytes o f in
      let a = database_at v x (Some of) name first args o behind h is (subst (λ (p : Option Operation). Rest F x.id (record { fact = verb_fact v; operation = p } ∷ behind)) (ap (operation_in classes.library.schema v) w ∙ f) r) in
      let counted = eqb-true (length o.params) (length us) (and_left (nat_eq (length o.params) (length us)) (each_fits o.params 0 us) fit) in
      let q = all l s sees o.params (sendable_known o.params is.sendable) (clean_arguments x.token [] 0 l args (clean_left (arguments x.token [] 0 l (map (typed C) args)) _ c)) (fit_parameters o.params o.params 0 l args refl counted (and_right (nat_eq (length o.params) (length us)) (each_fits o.params 0 us) fit)) more (behind_text (x.id + 1) k j first bytes s ns more ek ej hf a.next) in
      record { type_is = a.type_is; same = a.same; known = a.known; typed = a.typed q.typed; used = used_call F x (Some of) name (first ∷ args) h a.asks (db, (used_text F first bytes hf, q.used)); rest = q.rest })
      (clean_right (arguments x.token [] 0 l (map (typed C) args)) _ c)

  data Split (k m : ℕ) : List Expr → Type 0 where
    bare_call : Split k m []
    with_first : (j : ℕ) (x : Expr) (xs : List Expr) → Kind k j x → HoldAll j xs m → Split k m (x ∷ xs)

  no_literal : {M : Type 0} (x first : Expr) (args : List Expr) (v : Verb) (l : Locals) → literal_in (written first) ≡ None → Clean (database_notes classes.library.schema x.token v (map (typed C) (first ∷ args)) l) → M
  no_literal x first args v l h c = absurd (clean_right (arguments x.token [] 0 l (map (typed C) (first ∷ args))) _ (subst Clean (no_text C classes.library.schema x.token v first (map (typed C) args) l h) c))

  database_good : (k m : ℕ) (x of : Expr) (name : Name) (args : List Expr) (v : Verb) (l : Locals) (s : Scope) (more : List Node) → x.form ≡ e.Call (Some of) name args → k ≡ (x.id + 1) + 1 → IsUsed F of → Split k m args → Sight l s
      → Clean (database_notes classes.library.schema x.token v (map (typed C) args) l) → Rest F x.id (all_nodes (database_known H v args s) ++ more) → Good m x more (database_call C x.token v (map (typed C) args) l) (database_known H v args s)
  database_good k m x of name _ v l s more h ek db Split.bare_call sees c r = absurd c
  database_good k m x of name _ v l s more h ek db (Split.with_first j y ys (Kind.bare n e f g) all) sees c r = no_literal x y ys v l (ap literal_in f) c
  database_good k m x of name _ v l s more h ek db (Split.with_first j y ys (Kind.other f) all) sees c r = no_literal x y ys v l (ap literal_in f) c
  database_good k m x of name _ v l s more h ek db (Split.with_first j y ys (Kind.literal bytes token e f g i) all) sees c r =
      database_stands k j m x of y name ys v bytes token l s more h ek e f g db all sees (subst Clean (text_is_read C classes.library.schema x.token v y (map (typed C) ys) l bytes (ap literal_in f)) c) r

  database_holds : (k m : ℕ) (x of : Expr) (name : Name) (args : List Expr) (v : Verb) → x.form ≡ e.Call (Some of) name args → asked (written of) name.bytes ≡ Some v → Kind (x.id + 1) k of → Split k m args → Holds x.id x m
  database_holds k m x of name args v h q d split neg l s sees more =
      by_form m x more _ (database_call C x.token v (map (typed C) args) l) _ (database_known H v args s) (typed_by_form C x neg l ∙ typed_database_call C x.form x.token neg l of of name args v h refl q) (known_by_form H x s ∙ known_database_call H x.form s of of name args v h refl q)
      (λ c r. database_good k m x of name args v l s more h (receiver_end (x.id + 1) k of name.bytes v d q) (receiver_used (x.id + 1) k of name.bytes v d q) split sees c r)

  either_call : (k m : ℕ) (x of : Expr) (name : Name) (args : List Expr) (v : Option Verb) → x.form ≡ e.Call (Some of) name args → asked (written of) name.bytes ≡ v → Kind (x.id + 1) k of → Split k m args → Holds (x.id + 1) of k → HoldAll k args m → Holds x.id x m
  either_call k m x of name args None h q d split hold all = call_holds k m x of name args h q hold all
  either_call k m x of name args (Some v) h q d split hold all = database_holds k m x of name args v h q d split

  -- ---- all forms

  mutual
    pub expression_holds : (n m : ℕ) (x : Expr) → IsExpr n x m → Holds n x m
    expression_holds _ _ _ (IsExpr.number x digits long h) = number_holds x digits long h
    expression_holds _ _ _ (IsExpr.text x bytes h) = text_holds x bytes h
    expression_holds _ _ _ (IsExpr.truth x h) = truth_holds x h
    expression_holds _ _ _ (IsExpr.falsehood x h) = falsehood_holds x h
    expression_holds _ _ _ (IsExpr.null x h) = null_holds x h
    expression_holds _ _ _ (IsExpr.this x h) = this_holds x h
    expression_holds _ _ _ (IsExpr.variable x name h) = variable_holds x name h
    expression_holds _ _ _ (IsExpr.group m x inner h d) = group_holds m x inner h (expression_holds (x.id + 1) m inner d)
    expression_holds _ _ _ (IsExpr.field m x of name h d) = field_holds m x of name h (expression_holds (x.id + 1) m of d)
    expression_holds _ _ _ (IsExpr.indexed k m x of at h d f) = index_holds k m x of at h (expression_holds (x.id + 1) k of d) (expression_holds k m at f)
    expression_holds _ _ _ (IsExpr.own_call m x name args h d) = own_call_holds m x name args h (arguments_hold (x.id + 1) m args d)
    expression_holds _ _ _ (IsExpr.call k m x of name args h d f) = either_call k m x of name args (asked (written of) name.bytes) h refl (kind_of (x.id + 1) k of d) (split_of k m args f) (expression_holds (x.id + 1) k of d) (arguments_hold k m args f)
    expression_holds _ _ _ (IsExpr.new_object x name h) = object_holds x name h
    expression_holds _ _ _ (IsExpr.new_array m x b size h i d) = array_holds m x b size h i (expression_holds (x.id + 1) m size d)
    expression_holds _ _ _ (IsExpr.prefix m x sign y h i d) = prefix_holds m x sign y h i (expression_holds (x.id + 1) m y d)
    expression_holds _ _ _ (IsExpr.binary k m x sign at y z h i d f) = binary_holds k m x sign at y z h i (expression_holds (x.id + 1) k y d) (expression_holds k m z f)

    arguments_hold : (n m : ℕ) (xs : List Expr) → AreExprs n xs m → HoldAll n xs m
    arguments_hold _ _ _ (AreExprs.none n) = none_hold n
    arguments_hold _ _ _ (AreExprs.more n k m x xs d ds) = more_hold n k m x xs (expression_holds n k x d) (arguments_hold k m xs ds)

    split_of : (n m : ℕ) (xs : List Expr) → AreExprs n xs m → Split n m xs
    split_of _ _ _ (AreExprs.none n) = Split.bare_call
    split_of _ _ _ (AreExprs.more n k m x xs d ds) = Split.with_first k x xs (kind_of n k x d) (arguments_hold k m xs ds)
