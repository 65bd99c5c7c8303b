-- In an expression without a breach all that is made is known.
use Rattle.std.proofs.Common.{◌≡◌, ℕ, zero, suc, ◌+◌, Bool, true, false, List, [], ◌∷◌, ◌++◌, map, length, get_or, Option, Some, None, slice_get, refl, sym, ap, ◌∙◌, subst, arith}
use Rattle.std.specs.Prelude.{is_none}
use Rattle.px_value.specs.declared.schema.Schema.{Schema}
use Rattle.px_tree.specs.declared.Base.{Base}
use Rattle.px_tree.specs.declared.Name.{Name}
use Rattle.px_tree.specs.declared.Expr.{Expr}
use Rattle.px_tree.specs.declared.ExprForm.TheVariants as e
use Rattle.px_facts.specs.declared.types.Ty.{Ty}
use Rattle.px_facts.specs.declared.types.Ty.TheVariants as ty
use Rattle.px_facts.specs.declared.types.Element.TheVariants as element
use Rattle.px_facts.specs.declared.checked.Fact.{Fact}
use Rattle.px_facts.specs.declared.checked.Facts.{Facts}
use Rattle.px_facts.specs.declared.operation.Operation.{Operation}
use Rattle.px_facts.specs.Types.{array_of, indexed}
use Rattle.px_types.specs.declared.classes.Classes.{Classes}
use Rattle.px_types.specs.declared.context.Context.{Context}
use Rattle.px_types.specs.declared.home.Home.{Home}
use Rattle.px_types.specs.declared.locals.Locals.{Locals}
use Rattle.px_types.specs.declared.scope.Scope.{Scope}
use Rattle.px_types.specs.declared.scope.Slot.{Slot}
use Rattle.px_types.specs.declared.database.Verb.{Verb}
use Rattle.px_types.specs.declared.database.Verb.TheVariants as verb
use Rattle.px_type_rules.specs.Breaches.{breach_if}
use Rattle.px_type_rules.specs.Literals.{literal_type}
use Rattle.px_type_rules.specs.Operators.{is_minus, prefix_type, group_of, group_type}
use Rattle.px_types.specs.Names.{find}
use Rattle.px_types.specs.Members.{base_type, class_type, names_no_class, method_of}
use Rattle.px_types.specs.Scopes.{variable_type}
use Rattle.px_types.specs.Slots.{slot_of}
use Rattle.px_types.specs.Facts.{typed_only, variable_fact, field_fact, method_fact, new_of, new_fact, new_array_fact, database_fact, verb_fact, field_at, field_place, method_at, method_place, numbered_method, rows_method, text_method, local_or}
use Rattle.px_types.specs.Database.{Written, Bare, Literal, Other, written, asked, literal_in, asked_operation, text_notes, first_written as text_written}
use Rattle.px_types.specs.Expressions.{Typed, typed, of_type, number, misfit, variable, bracketed, field, index, argument_fits, arguments, wanted, call, types_of, database_notes, database_call, new_object, new_array, prefixed, binary, method_notes}
use Rattle.px_types.specs.Known.{Known, known, fact_only, leaf, all_nodes, argument_nodes, name_known, group_known, field_known, index_known, own_call, call_known, operation_in, database_node, array_known, operator_known}
use Rattle.px_types.proofs.Forms.{typed_by_form, typed_number, typed_true, typed_false, typed_null, typed_this, typed_name, typed_group, typed_field, typed_index, typed_own_call, typed_call, typed_database_call, typed_new, typed_new_array, typed_prefix, typed_binary, text_is_read, no_text}
use Rattle.px_types.proofs.KnownForms.{known_by_form, known_number, known_text, known_true, known_false, known_null, known_this, known_name, known_group, known_field, known_index, known_own_call, known_call, database_call as database_known, known_database_call, known_new, known_new_array, known_prefix, known_binary}
use Rattle.px_typed_code.specs.Laws.{IsKnownClass, IsKnownElement}
use Rattle.px_soundness.specs.Numbered.{IsExpr, AreExprs, IsElement}
use Rattle.px_soundness.proofs.Clean.{Clean, clean_left, clean_right}
use Rattle.px_soundness.proofs.Expressions.{found_class}
use Rattle.px_accepted.proofs.Made.{is_plain, IsSound, AllSound, sound_both}
use Rattle.px_accepted.proofs.Written.{IsWritten, how_written}

-- ---- names that make nothing

field_plain : (of : Ty) (place : Option ℕ) → is_plain (field_at of place) ≡ true
field_plain of None = refl
field_plain (ty.Object class) (Some place) = refl
field_plain (ty.Array of) (Some place) = refl
field_plain ty.Unknown (Some place) = refl
field_plain ty.Void (Some place) = refl
field_plain ty.Null (Some place) = refl
field_plain ty.Int (Some place) = refl
field_plain ty.Long (Some place) = refl
field_plain ty.Boolean (Some place) = refl
field_plain ty.Text (Some place) = refl
field_plain ty.ResultSet (Some place) = refl

numbered_plain : (first : Option ℕ) (place : ℕ) → is_plain (numbered_method first place) ≡ true
numbered_plain None place = refl
numbered_plain (Some first) place = refl

rows_plain : (place : ℕ) → is_plain (rows_method place) ≡ true
rows_plain zero = refl
rows_plain (suc zero) = refl
rows_plain (suc (suc n)) = refl

text_plain : (place : ℕ) → is_plain (text_method place) ≡ true
text_plain zero = refl
text_plain (suc n) = refl

method_plain : (H : Home) (of : Ty) (place : Option ℕ) → is_plain (method_at H of place) ≡ true
method_plain H of None = refl
method_plain H (ty.Object class) (Some place) = numbered_plain (slice_get H.firsts class) place
method_plain H ty.Text (Some place) = text_plain place
method_plain H ty.ResultSet (Some place) = rows_plain place
method_plain H (ty.Array of) (Some place) = refl
method_plain H ty.Unknown (Some place) = refl
method_plain H ty.Void (Some place) = refl
method_plain H ty.Null (Some place) = refl
method_plain H ty.Int (Some place) = refl
method_plain H ty.Long (Some place) = refl
method_plain H ty.Boolean (Some place) = refl

local_plain : (slot : Option Slot) (fact : Fact) → is_plain fact.named ≡ true → is_plain (local_or slot fact).named ≡ true
local_plain None fact h = h
local_plain (Some slot) fact h = refl

variable_plain : (H : Home) (s : Scope) (name : List ℕ) → is_plain (variable_fact H s name).named ≡ true
variable_plain H s name = local_plain (slot_of name s) (field_fact H (ty.Object H.this) name) (field_plain (ty.Object H.this) (field_place (ty.Object H.this) name H.classes))

-- ---- calls of `Db`

literal_asked : (schema : Schema) (v : Verb) (w : Written) (bytes : List ℕ) → literal_in w ≡ Some bytes → operation_in schema v w ≡ asked_operation schema v bytes
literal_asked schema v (Bare name) bytes h = absurd (cc h)
literal_asked schema v (Literal b token) bytes h = let e : b ≡ bytes = cc h in ap (asked_operation schema v) e
literal_asked schema v Other bytes h = absurd (cc h)

verb_sound : (F : Facts) (v : Verb) (o : Operation) → IsSound F (record { fact = verb_fact v; operation = Some o })
verb_sound F verb.Query o = IsSound.query ty.ResultSet 0 0 o
verb_sound F verb.Update o = IsSound.update ty.Int 0 o

text_found : (F : Facts) (v : Verb) (database token : ℕ) (found : Option Operation) (us : List Ty) → Clean (text_notes database token found us) → IsSound F (record { fact = verb_fact v; operation = found })
text_found F v database token None us c = absurd c
text_found F v database token (Some o) us c = verb_sound F v o

module _ (F : Facts) (classes : Classes) (firsts : List ℕ) (this : ℕ) (result : Ty) (names : (name : List ℕ) (class : ℕ) → find name classes.numbers ≡ Some class → IsKnownClass F class) where
  abbrev pub H : Home
  H = record { classes = classes; firsts = firsts; this = this }

  abbrev pub C : Context
  C = record { classes = classes; this = this; result = result }

  abbrev Sounds : Expr → Type 0
  Sounds x = (neg : Bool) (l : Locals) (s : Scope) → Clean (typed C x neg l).notes → AllSound F (all_nodes (known H x s))

  by_form : (a b : Typed) (p q : Known) → a ≡ b → p ≡ q → (Clean b.notes → AllSound F (all_nodes q)) → Clean a.notes → AllSound F (all_nodes p)
  by_form a b p q i j k c = subst (λ (z : Known). AllSound F (all_nodes z)) (sym j) (k (subst (λ (z : Typed). Clean z.notes) i c))

  -- ---- `new`

  object_sound : (name : Name) (token : ℕ) (found : Option ℕ) → find name.bytes classes.numbers ≡ found → Clean (breach_if (is_none found) token 2) → IsSound F (fact_only (new_of found))
  object_sound name token None i c = absurd c
  object_sound name token (Some class) i c = IsSound.object (ty.Object class) class 0 (names name.bytes class i)

  four_more : (class : ℕ) → suc (suc (suc (suc class))) ≡ 4 + class
  four_more class = omega arith

  array_sound : (b : Base) → IsElement b → Clean (names_no_class classes.numbers b) → IsSound F (fact_only (new_array_fact (array_of (base_type classes.numbers b))))
  array_sound _ IsElement.int c = IsSound.array element.Int 0 tt
  array_sound _ IsElement.long c = IsSound.array element.Long 0 tt
  array_sound _ IsElement.boolean c = IsSound.array element.Boolean 0 tt
  array_sound _ IsElement.text c = IsSound.array element.Text 0 tt
  array_sound _ (IsElement.class name) c =
      let k = found_class classes.numbers name (find name.bytes classes.numbers) refl c in
      subst (λ (o : Option ℕ). IsSound F (fact_only (new_array_fact (array_of (class_type o))))) (sym k.is) (IsSound.array (element.Object k.class) 0 (subst (IsKnownElement F) (four_more k.class) (names name.bytes k.class k.is)))

  -- ---- calls

  call_sound : (x of : Expr) (name : Name) (args : List Expr) → x.form ≡ e.Call (Some of) name args → asked (written of) name.bytes ≡ None → Sounds of → ((token : ℕ) (wants : List Ty) (place : ℕ) (l : Locals) (s : Scope) → Clean (arguments token wants place l (map (typed C) args)) → AllSound F (argument_nodes s (map (known H) args))) → Sounds x
  call_sound x of name args h q hold all neg l s =
      let T = typed C of neg l in
      let found = method_of T.ty name.bytes classes in
      by_form _ (call C x.token T name (map (typed C) args) l) _ (call_known H (known H of s) name.bytes (argument_nodes s (map (known H) args))) (typed_by_form C x neg l ∙ typed_call C x.form x.token neg l of of name args h refl q) (known_by_form H x s ∙ known_call H x.form s of of name args h refl q) (λ c. (
        IsSound.nothing (method_fact H (known H of s).own.fact.ty name.bytes) (method_plain H (known H of s).own.fact.ty (method_place (known H of s).own.fact.ty name.bytes classes)),
        sound_both F (all_nodes (known H of s)) (argument_nodes s (map (known H) args)) (hold neg l s (clean_left T.notes _ c))
            (all x.token (wanted (length (map (typed C) args)) found) 0 l s (clean_right (method_notes C T.ty name (length (map (typed C) args)) found) _ (clean_right T.notes _ c))),
      ))

  -- the first argument of a call of `Db`, and the others
  data Split : List Expr → Type 0 where
    bare_call : Split []
    with_first : (n m : ℕ) (x : Expr) (xs : List Expr) → IsWritten n m x → ((token : ℕ) (wants : List Ty) (place : ℕ) (l : Locals) (s : Scope) → Clean (arguments token wants place l (map (typed C) xs)) → AllSound F (argument_nodes s (map (known H) xs))) → Split (x ∷ xs)

  not_literal : {M : Type 0} (token : ℕ) (first : Expr) (args : List Expr) (v : Verb) (l : Locals) → literal_in (written first) ≡ None → Clean (database_notes classes.library.schema token v (map (typed C) (first ∷ args)) l) → M
  not_literal token first args v l h c = absurd (clean_right (arguments token [] 0 l (map (typed C) (first ∷ args))) _ (subst Clean (no_text C classes.library.schema token v first (map (typed C) args) l h) c))

  literal_nodes : (x : Expr) (bytes : List ℕ) (s : Scope) → x.form ≡ e.Str bytes → AllSound F (all_nodes (known H x s))
  literal_nodes x bytes s h = subst (λ (z : Known). AllSound F (all_nodes z)) (sym (known_by_form H x s ∙ known_text H x.form s bytes h)) ((IsSound.nothing (typed_only ty.Text) refl, tt))

  database_sound : (token : ℕ) (args : List Expr) (v : Verb) (l : Locals) (s : Scope) → Split args → Clean (database_notes classes.library.schema token v (map (typed C) args) l) → AllSound F (all_nodes (database_known H v args s))
  database_sound token _ v l s Split.bare_call c = absurd c
  database_sound token _ v l s (Split.with_first n m x xs (IsWritten.bare name i w) all) c = not_literal token x xs v l (ap literal_in w) c
  database_sound token _ v l s (Split.with_first n m x xs (IsWritten.other w) all) c = not_literal token x xs v l (ap literal_in w) c
  database_sound token _ v l s (Split.with_first n m x xs (IsWritten.literal bytes at i w h) all) c =
      let is : literal_in (written x) ≡ Some bytes = ap literal_in w in
      let js = map (typed C) xs in
      let schema = classes.library.schema in
      let c' = subst Clean (text_is_read C schema token v x js l bytes is) c in
      let found = text_found F v token x.token (asked_operation schema v bytes) (types_of l js) (clean_right (arguments token [] 0 l js) _ c') in
      let own : IsSound F (database_node H v (text_written (x ∷ xs))) = subst (λ (o : Option Operation). IsSound F (record { fact = verb_fact v; operation = o })) (sym (literal_asked schema v (written x) bytes is)) found in
      (own, (IsSound.nothing database_fact refl, sound_both F (all_nodes (known H x s)) (argument_nodes s (map (known H) xs)) (literal_nodes x bytes s h) (all token [] 0 l s (clean_left (arguments token [] 0 l js) _ c'))))

  any_call_sound : (x of : Expr) (name : Name) (args : List Expr) (v : Option Verb) → x.form ≡ e.Call (Some of) name args → asked (written of) name.bytes ≡ v → Sounds of → Split args → ((token : ℕ) (wants : List Ty) (place : ℕ) (l : Locals) (s : Scope) → Clean (arguments token wants place l (map (typed C) args)) → AllSound F (argument_nodes s (map (known H) args))) → Sounds x
  any_call_sound x of name args None h q hold split all neg l s = call_sound x of name args h q hold all neg l s
  any_call_sound x of name args (Some v) h q hold split all neg l s =
      by_form _ (database_call C x.token v (map (typed C) args) l) _ (database_known H v args s) (typed_by_form C x neg l ∙ typed_database_call C x.form x.token neg l of of name args v h refl q) (known_by_form H x s ∙ known_database_call H x.form s of of name args v h refl q)
      (database_sound x.token args v l s split)

  -- ---- all forms

  mutual
    pub expression_sound : (n m : ℕ) (x : Expr) → IsExpr n x m → Sounds x
    expression_sound _ _ _ (IsExpr.number x digits long h) neg l s = by_form _ (number digits long x.token neg) _ (leaf (typed_only (literal_type long))) (typed_by_form C x neg l ∙ typed_number C x.form x.token neg l digits long h) (known_by_form H x s ∙ known_number H x.form s digits long h) (λ c. (IsSound.nothing (typed_only (literal_type long)) refl, tt))
    expression_sound _ _ _ (IsExpr.text x bytes h) neg l s = λ c. literal_nodes x bytes s h
    expression_sound _ _ _ (IsExpr.truth x h) neg l s = by_form _ (of_type ty.Boolean) _ (leaf (typed_only ty.Boolean)) (typed_by_form C x neg l ∙ typed_true C x.form x.token neg l h) (known_by_form H x s ∙ known_true H x.form s h) (λ c. (IsSound.nothing (typed_only ty.Boolean) refl, tt))
    expression_sound _ _ _ (IsExpr.falsehood x h) neg l s = by_form _ (of_type ty.Boolean) _ (leaf (typed_only ty.Boolean)) (typed_by_form C x neg l ∙ typed_false C x.form x.token neg l h) (known_by_form H x s ∙ known_false H x.form s h) (λ c. (IsSound.nothing (typed_only ty.Boolean) refl, tt))
    expression_sound _ _ _ (IsExpr.null x h) neg l s = by_form _ (of_type ty.Null) _ (leaf (typed_only ty.Null)) (typed_by_form C x neg l ∙ typed_null C x.form x.token neg l h) (known_by_form H x s ∙ known_null H x.form s h) (λ c. (IsSound.nothing (typed_only ty.Null) refl, tt))
    expression_sound _ _ _ (IsExpr.this x h) neg l s = by_form _ (of_type (ty.Object this)) _ (leaf (typed_only (ty.Object this))) (typed_by_form C x neg l ∙ typed_this C x.form x.token neg l h) (known_by_form H x s ∙ known_this H x.form s h) (λ c. (IsSound.nothing (typed_only (ty.Object this)) refl, tt))
    expression_sound _ _ _ (IsExpr.variable x name h) neg l s = by_form _ (variable name (variable_type C l name.bytes)) _ (name_known (variable_fact H s name.bytes) name.bytes) (typed_by_form C x neg l ∙ typed_name C x.form x.token neg l name h) (known_by_form H x s ∙ known_name H x.form s name h) (λ c. (IsSound.nothing (variable_fact H s name.bytes) (variable_plain H s name.bytes), tt))
    expression_sound _ _ _ (IsExpr.group m x y h d) neg l s =
        let K = known H y s in
        by_form _ (bracketed (typed C y false l)) _ (group_known K) (typed_by_form C x neg l ∙ typed_group C x.form x.token neg l y y h refl) (known_by_form H x s ∙ known_group H x.form s y y h refl) (λ c. (IsSound.nothing (typed_only K.own.fact.ty) refl, expression_sound (x.id + 1) m y d false l s c))
    expression_sound _ _ _ (IsExpr.field m x of name h d) neg l s =
        let K = known H of s in
        let T = typed C of neg l in
        by_form _ (field C T name) _ (field_known H K name.bytes) (typed_by_form C x neg l ∙ typed_field C x.form x.token neg l name of of h refl) (known_by_form H x s ∙ known_field H x.form s name of of h refl) (λ c.
        (IsSound.nothing (field_fact H K.own.fact.ty name.bytes) (field_plain K.own.fact.ty (field_place K.own.fact.ty name.bytes classes)), expression_sound (x.id + 1) m of d neg l s (clean_left T.notes _ c)))
    expression_sound _ _ _ (IsExpr.indexed k m x of at h d g) neg l s =
        let K = known H of s in
        let J = known H at s in
        let T = typed C of neg l in
        let U = typed C at false l in
        by_form _ (index x.token T U) _ (index_known K J) (typed_by_form C x neg l ∙ typed_index C x.form x.token neg l of of at at h refl refl) (known_by_form H x s ∙ known_index H x.form s of of at at h refl refl) (λ c.
        (IsSound.nothing (typed_only (indexed K.own.fact.ty)) refl, sound_both F (all_nodes K) (all_nodes J) (expression_sound (x.id + 1) k of d neg l s (clean_left T.notes _ c)) (expression_sound k m at g false l s (clean_left U.notes _ (clean_right T.notes _ c)))))
    expression_sound _ _ _ (IsExpr.own_call m x name args h d) neg l s =
        let js = map (typed C) args in
        let found = method_of (ty.Object this) name.bytes classes in
        by_form _ (call C x.token (of_type (ty.Object this)) name js l) _ (own_call H name.bytes (argument_nodes s (map (known H) args))) (typed_by_form C x neg l ∙ typed_own_call C x.form x.token neg l name args h) (known_by_form H x s ∙ known_own_call H x.form s name args h) (λ c.
        (IsSound.nothing (method_fact H (ty.Object this) name.bytes) (method_plain H (ty.Object this) (method_place (ty.Object this) name.bytes classes)), arguments_sound (x.id + 1) m args d x.token (wanted (length js) found) 0 l s (clean_right (method_notes C (ty.Object this) name (length js) found) _ c)))
    expression_sound _ _ _ (IsExpr.call k m x of name args h d g) neg l s = any_call_sound x of name args (asked (written of) name.bytes) h refl (expression_sound (x.id + 1) k of d) (split_of k m args g) (arguments_sound k m args g) neg l s
    expression_sound _ _ _ (IsExpr.new_object x name h) neg l s = by_form _ (new_object C x.token name) _ (leaf (new_fact H name.bytes)) (typed_by_form C x neg l ∙ typed_new C x.form x.token neg l name h) (known_by_form H x s ∙ known_new H x.form s name h) (λ c. (object_sound name name.token (find name.bytes classes.numbers) refl c, tt))
    expression_sound _ _ _ (IsExpr.new_array m x b size h i d) neg l s =
        let K = known H size s in
        let T = typed C size false l in
        by_form _ (new_array C x.token b T) _ (array_known (base_type classes.numbers b) K) (typed_by_form C x neg l ∙ typed_new_array C x.form x.token neg l b size size h refl) (known_by_form H x s ∙ known_new_array H x.form s b size size h refl) (λ c.
        (array_sound b i (clean_left (names_no_class classes.numbers b) _ c), expression_sound (x.id + 1) m size d false l s (clean_left T.notes _ (clean_right (names_no_class classes.numbers b) _ c))))
    expression_sound _ _ _ (IsExpr.prefix m x sign y h i d) neg l s =
        let K = known H y s in
        let T = typed C y (is_minus sign) l in
        by_form _ (prefixed x.token sign T) _ (operator_known (prefix_type sign K.own.fact.ty) (all_nodes K)) (typed_by_form C x neg l ∙ typed_prefix C x.form x.token neg l sign y y h refl) (known_by_form H x s ∙ known_prefix H x.form s sign y y h refl) (λ c.
        (IsSound.nothing (typed_only (prefix_type sign K.own.fact.ty)) refl, expression_sound (x.id + 1) m y d (is_minus sign) l s (clean_left T.notes _ c)))
    expression_sound _ _ _ (IsExpr.binary k m x sign at y z h i d g) neg l s =
        let K = known H y s in
        let J = known H z s in
        let T = typed C y false l in
        let U = typed C z false l in
        by_form _ (binary x.token sign at T U) _ (operator_known (group_type (group_of sign) K.own.fact.ty J.own.fact.ty) (all_nodes K ++ all_nodes J)) (typed_by_form C x neg l ∙ typed_binary C x.form x.token neg l sign at y y z z h refl refl) (known_by_form H x s ∙ known_binary H x.form s sign at y y z z h refl refl) (λ c.
        (IsSound.nothing (typed_only (group_type (group_of sign) K.own.fact.ty J.own.fact.ty)) refl, sound_both F (all_nodes K) (all_nodes J) (expression_sound (x.id + 1) k y d false l s (clean_left T.notes _ c)) (expression_sound k m z g false l s (clean_left U.notes _ (clean_right T.notes _ c)))))

    arguments_sound : (n m : ℕ) (xs : List Expr) → AreExprs n xs m → (token : ℕ) (wants : List Ty) (place : ℕ) (l : Locals) (s : Scope) → Clean (arguments token wants place l (map (typed C) xs)) → AllSound F (argument_nodes s (map (known H) xs))
    arguments_sound _ _ _ (AreExprs.none n) token wants place l s c = tt
    arguments_sound _ _ _ (AreExprs.more n k m x xs d ds) token wants place l s c =
        let T = typed C x false l in
        sound_both F (all_nodes (known H x s)) (argument_nodes s (map (known H) xs)) (expression_sound n k x d false l s (clean_left T.notes _ c))
        (arguments_sound k m xs ds token wants (place + 1) l s (clean_right (misfit (argument_fits (get_or wants place ty.Unknown) T.ty) token) _ (clean_right T.notes _ c)))

    split_of : (n m : ℕ) (xs : List Expr) → AreExprs n xs m → Split xs
    split_of _ _ _ (AreExprs.none n) = Split.bare_call
    split_of _ _ _ (AreExprs.more n k m x xs d ds) = Split.with_first n k x xs (how_written n k x d) (arguments_sound k m xs ds)
