-- A program in which no breach is noted is typed by its facts.
use Rattle.std.proofs.Common.{◌≡◌, ℕ, zero, suc, ◌+◌, Bool, true, false, not, ◌&&◌, List, [], ◌∷◌, ◌++◌, map, length, fold, drop, Option, Some, None, codes, slice_get, unwrap_or, if◌then◌else◌, refl, sym, ap, ◌∙◌, subst, arith, append_assoc, append-nil}
use Rattle.std.specs.List.{list_all}
use Rattle.std.specs.Str.{bytes_eq}
use Rattle.std.proofs.lemmas.Bool.{true≢false}
use Rattle.std.proofs.lemmas.List.{length-map}
use Rattle.std.proofs.lemmas.Option.{slice_get_within}
use Rattle.std.specs.Option.{option_and_then}
use Rattle.std.specs.Prelude.{nat_lt}
use Rattle.px_tree.specs.declared.Access.{Access}
use Rattle.px_tree.specs.declared.Access.TheVariants as access
use Rattle.px_tree.specs.declared.Param.{Param}
use Rattle.px_tree.specs.declared.Method.{Method}
use Rattle.px_tree.specs.declared.Member.{Member}
use Rattle.px_tree.specs.declared.Member.TheVariants as member
use Rattle.px_tree.specs.declared.Class.{Class}
use Rattle.px_facts.specs.declared.types.Ty.{Ty}
use Rattle.px_facts.specs.declared.types.Ty.TheVariants as ty
use Rattle.px_facts.specs.declared.checked.MethodFact.{MethodFact}
use Rattle.px_facts.specs.declared.checked.Entry.{Entry}
use Rattle.px_facts.specs.declared.checked.Facts.{Facts}
use Rattle.px_facts.specs.Types.{is_unknown, is_printable}
use Rattle.px_facts.specs.declared.checked.Main.{Main}
use Rattle.px_types.specs.declared.table.Table.{Table}
use Rattle.px_types.specs.declared.node.Node.{Node}
use Rattle.px_types.specs.declared.classes.FieldType.{FieldType}
use Rattle.px_types.specs.declared.classes.MethodType.{MethodType}
use Rattle.px_types.specs.declared.classes.Members.{Members}
use Rattle.px_types.specs.declared.classes.Classes.{Classes}
use Rattle.px_types.specs.declared.home.Home.{Home}
use Rattle.px_type_rules.specs.Breaches.{breach_if}
use Rattle.px_types.specs.Names.{has_name, reserves, place_of, value_at, find}
use Rattle.px_types.specs.Members.{param_type, result_type, no_members, field_type, method_type, with_member, class_members, field_of, method_of}
use Rattle.px_types.specs.Scopes.{no_locals}
use Rattle.px_types.specs.Methods.{result_notes, param_notes, method_notes, is_entry_param, is_entry_result, is_public, entry_notes}
use Rattle.px_types.specs.Programs.{field_names, members_notes, all_members, class_bodies, bodies, entries, main_notes, max_fields}
use Rattle.px_types.specs.Bodies.{firsts_from, told_body, method_known, class_found, all_found, next_class}
use Rattle.px_types.specs.Entries.{value_type, gives_type, param_value, entry_of, entry_if, entries_from, first_method, main_from}
use Rattle.px_mean.specs.Facts.{by_number, fields_in}
use Rattle.px_mean.specs.Program.{methods_in, methods_of}
use Rattle.px_mean.specs.Typing.{IsTypedEntry, inner_type, given_type}
use Rattle.px_soundness.specs.Numbered.{AreMembers, AreClasses}
use Rattle.px_soundness.proofs.Clean.{Clean, clean_left, clean_right, not_broken, and_left, and_right, some_is}
use Rattle.px_soundness.proofs.Standing.{Rest, first_in_drop, rest_in_drop, add_one, regroup}
use Rattle.px_soundness.proofs.Premises.{AllKnown, FieldStands, MethodStands, MembersStand}
use Rattle.px_types.specs.Checked.{type_in, class_known}
use Rattle.px_soundness.proofs.Scopes.{get_before, length_push, declare_fresh}
use Rattle.px_soundness.proofs.Statements.{type_known}
use Rattle.px_soundness.proofs.Methods.{IsJudged, result_known, params_known, method_typed}

-- ---- numbers and lists

zero_plus : (n : ℕ) → 0 + n ≡ n
zero_plus n = omega arith

plus_zero : (n : ℕ) → n ≡ n + 0
plus_zero n = omega arith

pub get_behind : {A : Type 0} (xs ys : List A) (k n : ℕ) → n ≡ length xs → slice_get (xs ++ ys) (n + k) ≡ slice_get ys k
get_behind [] ys k n e = ap (λ i. slice_get ys i) (omega (arith, e))
get_behind (x ∷ xs) ys k n e = ap (λ i. slice_get (x ∷ (xs ++ ys)) i) (shift n (length xs) k e) ∙ get_behind xs ys k (length xs) refl
  where
    shift : (n l k : ℕ) → n ≡ suc l → n + k ≡ suc (l + k)
    shift n l k e = omega (arith, e)

get_front : {A : Type 0} (xs ys : List A) (k : ℕ) (x : A) → slice_get xs k ≡ Some x → slice_get (xs ++ ys) k ≡ Some x
get_front xs ys k x h = get_before xs ys k (slice_get_within xs k x h) ∙ h

-- what an item of a map was
pub got_from : {A B : Type 0} (f : A → B) (xs : List A) (k : ℕ) (y : B) → slice_get (map f xs) k ≡ Some y → (x : A) × (slice_get xs k ≡ Some x) × (f x ≡ y)
got_from f [] k y h = absurd (cc h)
got_from f (x ∷ xs) zero y h = (x, refl, cc h)
got_from f (x ∷ xs) (suc k) y h = got_from f xs k y h

got_map : {A B : Type 0} (f : A → B) (xs : List A) (k : ℕ) (x : A) → slice_get xs k ≡ Some x → slice_get (map f xs) k ≡ Some (f x)
got_map f [] k x h = absurd (cc h)
got_map f (y ∷ xs) zero x h = ap (λ (o : Option _). option_map f o) h
  where
    option_map : {A B : Type 0} → (A → B) → Option A → Option B
    option_map f None = None
    option_map f (Some a) = Some (f a)
got_map f (y ∷ xs) (suc k) x h = got_map f xs k x h

-- what a name means stands at a place
placed : {V : Type 0} (table : Table V) (k : Option ℕ) (v : V) → value_at k table.values ≡ Some v → (place : ℕ) × (k ≡ Some place) × (slice_get table.values place ≡ Some v)
placed table None v h = absurd (cc h)
placed table (Some place) v h = (place, refl, h)

-- a class that has a member
in_members : {B : Type 0} (found : Option Members) (f : Members → Option B) (b : B) → option_and_then f found ≡ Some b → (ms : Members) × (found ≡ Some ms) × (f ms ≡ Some b)
in_members None f b h = absurd (cc h)
in_members (Some ms) f b h = (ms, refl, h)

module _ (classes : Classes) (firsts : List ℕ) where
  abbrev numbers : Table ℕ
  numbers = classes.numbers

  abbrev home : ℕ → Home
  home this = record { classes = classes; firsts = firsts; this = this }

  -- ---- declarations

  abbrev AllFields : List FieldType → Type 0
  AllFields [] = Unit {0}
  AllFields (f ∷ fs) = (is_unknown f.ty ≡ false) × AllFields fs

  fields_push : (fs : List FieldType) (f : FieldType) → AllFields fs → is_unknown f.ty ≡ false → AllFields (fs ++ f ∷ [])
  fields_push [] f h k = (k, tt)
  fields_push (g ∷ fs) f h k = (h.0, fields_push fs f h.1 k)

  field_at : (fs : List FieldType) (k : ℕ) (f : FieldType) → AllFields fs → slice_get fs k ≡ Some f → is_unknown f.ty ≡ false
  field_at [] k f h e = absurd (cc e)
  field_at (g ∷ fs) zero f h e = subst (λ (x : FieldType). is_unknown x.ty ≡ false) (some_is e) h.0
  field_at (g ∷ fs) (suc k) f h e = field_at fs k f h.1 e

  -- what the members so far have become, behind others
  record Declared (before after : Members) (ms : List Member) : Type 0 where
    values : after.methods.values ≡ before.methods.values ++ map (method_type numbers) (methods_in ms)
    names : length after.methods.names ≡ length after.methods.values
    fields : AllFields after.fields.values

  declared : (n m : ℕ) (ms : List Member) → AreMembers n ms m → (count : ℕ) (before : Members) → length before.methods.names ≡ length before.methods.values → AllFields before.fields.values → Clean (members_notes numbers count before ms) → Declared before (fold (with_member numbers) before ms) ms
  declared _ _ _ (AreMembers.none n) count before e k c = record { values = sym (append-nil before.methods.values); names = e; fields = k }
  declared _ _ _ (AreMembers.field n m f ms i d) count before e k c =
      let again = has_name f.name.bytes before.fields.names in
      let own = clean_left (field_names numbers count before f) _ c in
      let fresh = not_broken again f.name.token 1 (clean_left (breach_if again f.name.token 1) _ own) in
      let limit = clean_right (reserves f.name) _ (clean_right (breach_if again f.name.token 1) _ own) in
      let known = type_known numbers f.ty i (clean_right (breach_if (not (nat_lt count max_fields)) f.name.token 17) _ limit) in
      let after = with_member numbers before (member.Field f) in
      let all : AllFields after.fields.values = subst (λ (t : Table FieldType). AllFields t.values) (sym (declare_fresh f.name.bytes (field_type numbers f) before.fields fresh)) (fields_push before.fields.values (field_type numbers f) k known) in
      let d' = declared n m ms d (count + 1) after e all (clean_right (field_names numbers count before f) _ c) in
      record { values = d'.values; names = d'.names; fields = d'.fields }
  declared _ _ _ (AreMembers.method n k m x ms ir ip b d) count before e f c =
      let again = has_name x.name.bytes before.methods.names in
      let fresh = not_broken again x.name.token 1 (clean_left (breach_if again x.name.token 1) _ c) in
      let after = with_member numbers before (member.Method x) in
      let is = declare_fresh x.name.bytes (method_type numbers x) before.methods fresh in
      let long : length after.methods.names ≡ length after.methods.values = subst (λ (t : Table MethodType). length t.names ≡ length t.values) (sym is) (length_push before.methods.names x.name.bytes ∙ ap (λ i. i + 1) e ∙ sym (length_push before.methods.values (method_type numbers x))) in
      let d' = declared k m ms d count after long f (clean_right (breach_if again x.name.token 1) _ c) in
      record {
        values = d'.values ∙ ap (λ (t : Table MethodType). t.values ++ map (method_type numbers) (methods_in ms)) is ∙ append_assoc before.methods.values (method_type numbers x ∷ []) (map (method_type numbers) (methods_in ms));
        names = d'.names;
        fields = d'.fields;
      }

  -- ---- signatures

  abbrev IsSigned : Method → Type 0
  IsSigned m = AllKnown (map (param_type numbers) m.params) × (is_unknown (result_type numbers m.gives) ≡ false)

  abbrev AllSigned : List Method → Type 0
  AllSigned [] = Unit {0}
  AllSigned (m ∷ ms) = IsSigned m × AllSigned ms

  signed_at : (ms : List Method) (k : ℕ) (m : Method) → AllSigned ms → slice_get ms k ≡ Some m → IsSigned m
  signed_at [] k m h e = absurd (cc e)
  signed_at (x ∷ ms) zero m h e = subst IsSigned (some_is e) h.0
  signed_at (x ∷ ms) (suc k) m h e = signed_at ms k m h.1 e

  all_signed : (n m : ℕ) (ms : List Member) → AreMembers n ms m → (this : ℕ) → Clean (class_bodies classes this ms) → AllSigned (methods_in ms)
  all_signed _ _ _ (AreMembers.none n) this c = tt
  all_signed _ _ _ (AreMembers.field n m f ms i d) this c = all_signed n m ms d this c
  all_signed _ _ _ (AreMembers.method n k m x ms ir ip b d) this c =
      let own = clean_left (method_notes classes this x) _ c in (
        (
          params_known numbers no_locals x.params ip (clean_left (param_notes numbers no_locals x.params) _ (clean_right (result_notes numbers x.gives) _ own)),
          result_known numbers x.gives ir (clean_left (result_notes numbers x.gives) _ own),
        ),
        all_signed k m ms d this (clean_right (method_notes classes this x) _ c),
      )

  -- ---- classes

  pub record IsProper (c : Class) : Type 0 where
    pub values : (class_members numbers c).methods.values ≡ map (method_type numbers) (methods_in c.members)
    pub names : length (class_members numbers c).methods.names ≡ length (methods_in c.members)
    pub fields : AllFields (class_members numbers c).fields.values
    pub signed : AllSigned (methods_in c.members)

  abbrev pub AllProper : List Class → Type 0
  AllProper [] = Unit {0}
  AllProper (c ∷ cs) = IsProper c × AllProper cs

  pub all_proper : (n m : ℕ) (cs : List Class) → AreClasses n cs m → (this : ℕ) → Clean (all_members numbers cs) → Clean (bodies classes this cs) → AllProper cs
  all_proper _ _ _ (AreClasses.none n) this c b = tt
  all_proper _ _ _ (AreClasses.more n k m x cs d ds) this c b =
      let own = declared n k x.members d 0 no_members refl tt (clean_left (members_notes numbers 0 no_members x.members) _ c) in (
        record {
          values = own.values;
          names = own.names ∙ ap length own.values ∙ length-map (methods_in x.members) (method_type numbers);
          fields = own.fields;
          signed = all_signed n k x.members d this (clean_left (class_bodies classes this x.members) _ b);
        },
        all_proper k m cs ds (this + 1) (clean_right (members_notes numbers 0 no_members x.members) _ c) (clean_right (class_bodies classes this x.members) _ b),
      )

  proper_at : (cs : List Class) (k : ℕ) (c : Class) → AllProper cs → slice_get cs k ≡ Some c → IsProper c
  proper_at [] k c h e = absurd (cc e)
  proper_at (x ∷ cs) zero c h e = subst IsProper (some_is e) h.0
  proper_at (x ∷ cs) (suc k) c h e = proper_at cs k c h.1 e

  -- ---- where methods stand

  pub methods_found : (this : ℕ) (ms : List Member) → (class_found (home this) ms).methods ≡ map (method_known (home this)) (methods_in ms)
  methods_found this [] = refl
  methods_found this (member.Field f ∷ ms) = methods_found this ms
  methods_found this (member.Method m ∷ ms) = ap (λ fs. method_known (home this) m ∷ fs) (methods_found this ms)

  -- a method of a class, by the number of the class's first
  pub record IsPlaced (cs : List Class) (first this class q : ℕ) (m : Method) : Type 0 where
    pub before : ℕ
    pub first_is : slice_get (firsts_from first (map (class_members numbers) cs)) class ≡ Some (first + before)
    pub fact_is : slice_get (all_found (home this) cs).methods (before + q) ≡ Some (method_known (home (this + class)) m)

  pub located : (cs : List Class) → AllProper cs → (first this class q : ℕ) (c : Class) (m : Method) → slice_get cs class ≡ Some c → slice_get (methods_in c.members) q ≡ Some m → IsPlaced cs first this class q m
  located [] p first this class q c m e f = absurd (cc e)
  located (x ∷ cs) p first this zero q c m e f =
      let f' : slice_get (methods_in x.members) q ≡ Some m = ap (λ (y : Class). slice_get (methods_in y.members) q) (some_is e) ∙ f in
      record {
        before = 0;
        first_is = ap Some (omega arith);
        fact_is = ap (λ i. slice_get (all_found (home this) (x ∷ cs)).methods i) (zero_plus q)
            ∙ get_front (class_found (home this) x.members).methods (all_found (next_class (home this)) cs).methods q (method_known (home this) m) (ap (λ fs. slice_get fs q) (methods_found this x.members) ∙ got_map (method_known (home this)) (methods_in x.members) q m f')
            ∙ ap (λ i. Some (method_known (home i) m)) (plus_zero this);
      }
  located (x ∷ cs) p first this (suc class) q c m e f =
      let count = length (class_members numbers x).methods.names in
      let i = located cs p.1 (first + count) (this + 1) class q c m e f in
      let own = (class_found (home this) x.members).methods in
      let long : count ≡ length own = p.0.names ∙ sym (length-map (methods_in x.members) (method_known (home this))) ∙ ap length (sym (methods_found this x.members)) in
      record {
        before = count + i.before;
        first_is = i.first_is ∙ ap Some (together first count i.before);
        fact_is = ap (λ j. slice_get (all_found (home this) (x ∷ cs)).methods j) (together count i.before q) ∙ get_behind own (all_found (home (this + 1)) cs).methods (i.before + q) count long ∙ i.fact_is ∙ ap (λ j. Some (method_known (home j) m)) (one_more this class);
      }
    where
      together : (a b c : ℕ) → (a + b) + c ≡ a + (b + c)
      together a b c = omega arith

      one_more : (a b : ℕ) → (a + 1) + b ≡ a + suc b
      one_more a b = omega arith

  -- ---- bodies

  abbrev pub AllTyped : Facts → List Method → List MethodFact → Type 0
  AllTyped F [] [] = Unit {0}
  AllTyped F (m ∷ ms) (f ∷ fs) = IsJudged F m f × AllTyped F ms fs
  AllTyped F _ _ = ⊥

  typed_both : (F : Facts) (ms ns : List Method) (fs gs : List MethodFact) → AllTyped F ms fs → AllTyped F ns gs → AllTyped F (ms ++ ns) (fs ++ gs)
  typed_both F [] ns [] gs h k = k
  typed_both F (m ∷ ms) ns (f ∷ fs) gs h k = (h.0, typed_both F ms ns fs gs h.1 k)
  typed_both F [] ns (f ∷ fs) gs h k = absurd h
  typed_both F (m ∷ ms) ns [] gs h k = absurd h

  pub typed_at : (F : Facts) (ms : List Method) (fs : List MethodFact) (k : ℕ) (f : MethodFact) → AllTyped F ms fs → slice_get fs k ≡ Some f → (m : Method) × (slice_get ms k ≡ Some m) × IsJudged F m f
  typed_at F [] [] k f h e = absurd (cc e)
  typed_at F (m ∷ ms) (g ∷ fs) zero f h e = (m, refl, subst (λ (x : MethodFact). IsJudged F m x) (some_is e) h.0)
  typed_at F (m ∷ ms) (g ∷ fs) (suc k) f h e = typed_at F ms fs k f h.1 e
  typed_at F [] (g ∷ fs) k f h e = absurd h
  typed_at F (m ∷ ms) [] k f h e = absurd h

  members_typed : (F : Facts) → MembersStand F classes firsts → (this n m : ℕ) (ms : List Member) → AreMembers n ms m → Clean (class_bodies classes this ms) → (more : List Node) → Rest F n ((class_found (home this) ms).nodes ++ more) → AllTyped F (methods_in ms) (class_found (home this) ms).methods × Rest F m more
  members_typed F st this _ _ _ (AreMembers.none n) c more r = (tt, r)
  members_typed F st this _ _ _ (AreMembers.field n m f ms i d) c more r = members_typed F st this n m ms d c more r
  members_typed F st this _ _ _ (AreMembers.method n k m x ms ir ip b d) c more r =
      let found = class_found (home this) ms in
      let one = method_typed F classes firsts st n k this x ir ip b (clean_left (method_notes classes this x) _ c) (found.nodes ++ more) (regroup F n (told_body (home this) x).nodes found.nodes more r) in
      let rest = members_typed F st this k m ms d (clean_right (method_notes classes this x) _ c) more one.1 in
      ((one.0, rest.0), rest.1)

  pub classes_typed : (F : Facts) → MembersStand F classes firsts → (this n m : ℕ) (cs : List Class) → AreClasses n cs m → Clean (bodies classes this cs) → (more : List Node) → Rest F n ((all_found (home this) cs).nodes ++ more) → AllTyped F (methods_of cs) (all_found (home this) cs).methods × Rest F m more
  classes_typed F st this _ _ _ (AreClasses.none n) c more r = (tt, r)
  classes_typed F st this _ _ _ (AreClasses.more n k m x cs d ds) c more r =
      let own = class_found (home this) x.members in
      let others = all_found (home (this + 1)) cs in
      let one = members_typed F st this n k x.members d (clean_left (class_bodies classes this x.members) _ c) (others.nodes ++ more) (regroup F n own.nodes others.nodes more r) in
      let rest = classes_typed F st (this + 1) k m cs ds (clean_right (class_bodies classes this x.members) _ c) more one.1 in
      (typed_both F (methods_in x.members) (methods_of cs) own.methods others.methods one.0 rest.0, rest.1)

  -- ---- entries

  inner_value : (u : Ty) → is_printable u ≡ true → is_unknown u ≡ false → inner_type (value_type u) ≡ u
  inner_value ty.Int h k = refl
  inner_value ty.Long h k = refl
  inner_value ty.Boolean h k = refl
  inner_value ty.Text h k = refl
  inner_value ty.Unknown h k = absurd (true≢false k)
  inner_value ty.Void h k = absurd (true≢false (sym h))
  inner_value ty.Null h k = absurd (true≢false (sym h))
  inner_value (ty.Object c) h k = absurd (true≢false (sym h))
  inner_value (ty.Array e) h k = absurd (true≢false (sym h))
  inner_value ty.ResultSet h k = absurd (true≢false (sym h))

  inner_params : (ps : List Param) → list_all (is_entry_param numbers) ps ≡ true → AllKnown (map (param_type numbers) ps) → map (param_type numbers) ps ≡ map inner_type (map (param_value numbers) ps)
  inner_params [] h k = refl
  inner_params (p ∷ ps) h k =
      let one = inner_value (param_type numbers p) (and_left (is_entry_param numbers p) (list_all (is_entry_param numbers) ps) h) k.0 in
      let rest = inner_params ps (and_right (is_entry_param numbers p) (list_all (is_entry_param numbers) ps) h) k.1 in
      ap (λ u. u ∷ map (param_type numbers) ps) (sym one) ∙ ap (λ us. inner_type (param_value numbers p) ∷ us) rest

  given_value : (u : Ty) → is_entry_result u ≡ true → is_unknown u ≡ false → u ≡ given_type (gives_type u)
  given_value ty.Void h k = refl
  given_value ty.Int h k = refl
  given_value ty.Long h k = refl
  given_value ty.Boolean h k = refl
  given_value ty.Text h k = refl
  given_value ty.Unknown h k = absurd (true≢false k)
  given_value ty.Null h k = absurd (true≢false (sym h))
  given_value (ty.Object c) h k = absurd (true≢false (sym h))
  given_value (ty.Array e) h k = absurd (true≢false (sym h))
  given_value ty.ResultSet h k = absurd (true≢false (sym h))

  -- a public method of a class, by its number
  record IsEntryOf (number : ℕ) (ms : List Member) (entry : Entry) : Type 0 where
    q : ℕ
    m : Method
    m_is : slice_get (methods_in ms) q ≡ Some m
    entry_is : entry ≡ entry_of numbers (number + q) m
    params : list_all (is_entry_param numbers) m.params ≡ true
    result : is_entry_result (result_type numbers m.gives) ≡ true

  must_hold : (is : Bool) (a b : Bool) → is ≡ true → (is && not (a && b)) ≡ false → (a ≡ true) × (b ≡ true)
  must_hold true true true e h = (refl, refl)
  must_hold true true false e h = absurd (true≢false h)
  must_hold true false b e h = absurd (true≢false h)
  must_hold false a b e h = absurd (true≢false (sym e))

  one_later : (number : ℕ) (x : Method) (ms : List Member) (entry : Entry) → IsEntryOf (number + 1) ms entry → IsEntryOf number (member.Method x ∷ ms) entry
  one_later number x ms entry k = record { q = suc k.q; m = k.m; m_is = k.m_is; entry_is = k.entry_is ∙ ap (λ i. entry_of numbers i k.m) (one_more number k.q); params = k.params; result = k.result }
    where
      one_more : (a b : ℕ) → (a + 1) + b ≡ a + suc b
      one_more a b = omega arith

  at_member : (a : Access) (number place : ℕ) (x : Method) (ms : List Member) (entry : Entry) → x.access ≡ a → Clean (entry_notes numbers x)
      → ((place : ℕ) → slice_get (entries_from numbers (number + 1) ms) place ≡ Some entry → IsEntryOf (number + 1) ms entry)
      → slice_get (entry_if a (entry_of numbers number x) ++ entries_from numbers (number + 1) ms) place ≡ Some entry → IsEntryOf number (member.Method x ∷ ms) entry
  at_member access.Public number zero x ms entry e c later h =
      let all = list_all (is_entry_param numbers) x.params in
      let gives = is_entry_result (result_type numbers x.gives) in
      let k = must_hold (is_public x.access) all gives (ap is_public e) (not_broken (is_public x.access && not (all && gives)) x.name.token 14 c) in
      record { q = 0; m = x; m_is = refl; entry_is = sym (some_is h) ∙ ap (λ i. entry_of numbers i x) (plus_zero number); params = k.0; result = k.1 }
  at_member access.Public number (suc place) x ms entry e c later h = one_later number x ms entry (later place h)
  at_member access.Private number place x ms entry e c later h = one_later number x ms entry (later place h)
  at_member access.Plain number place x ms entry e c later h = one_later number x ms entry (later place h)

  entry_in : (number : ℕ) (ms : List Member) (place : ℕ) (entry : Entry) → Clean (entries numbers ms) → slice_get (entries_from numbers number ms) place ≡ Some entry → IsEntryOf number ms entry
  entry_in number [] place entry c h = absurd (cc h)
  entry_in number (member.Field f ∷ ms) place entry c h =
      let k = entry_in number ms place entry c h in
      record { q = k.q; m = k.m; m_is = k.m_is; entry_is = k.entry_is; params = k.params; result = k.result }
  entry_in number (member.Method x ∷ ms) place entry c h =
      at_member x.access number place x ms entry refl (clean_left (entry_notes numbers x) _ c) (λ p k. entry_in (number + 1) ms p entry (clean_right (entry_notes numbers x) _ c) k) h

  -- an entry of the class Main
  record IsMainEntry (all : List Class) (class : ℕ) (entry : Entry) : Type 0 where
    c : Class
    c_is : slice_get all class ≡ Some c
    is : IsEntryOf (first_method firsts class) c.members entry

  drop_more : (all cs : List Class) (k : ℕ) (c : Class) → drop k all ≡ c ∷ cs → drop (k + 1) all ≡ cs
  drop_more all cs k c h = ap (λ i. drop i all) (sym (add_one k)) ∙ rest_in_drop all cs k c h

  by_name : (b : Bool) (all cs : List Class) (c : Class) (k place end : ℕ) (entry : Entry) → drop k all ≡ c ∷ cs
      → Clean (if b then entries numbers c.members else main_notes numbers end cs) → slice_get (if b then record { class = k; entries = entries_from numbers (first_method firsts k) c.members } else main_from numbers firsts (k + 1) cs).entries place ≡ Some entry
      → (drop (k + 1) all ≡ cs → Clean (main_notes numbers end cs) → slice_get (main_from numbers firsts (k + 1) cs).entries place ≡ Some entry → IsMainEntry all (main_from numbers firsts (k + 1) cs).class entry)
      → IsMainEntry all (if b then record { class = k; entries = entries_from numbers (first_method firsts k) c.members } else main_from numbers firsts (k + 1) cs).class entry
  by_name true all cs c k place end entry d n h later = record { c = c; c_is = first_in_drop all cs k c d; is = entry_in (first_method firsts k) c.members place entry n h }
  by_name false all cs c k place end entry d n h later = later (drop_more all cs k c d) n h

  main_entry : (all cs : List Class) (k place end : ℕ) (entry : Entry) → drop k all ≡ cs → Clean (main_notes numbers end cs) → slice_get (main_from numbers firsts k cs).entries place ≡ Some entry → IsMainEntry all (main_from numbers firsts k cs).class entry
  main_entry all [] k place end entry d n h = absurd n
  main_entry all (c ∷ cs) k place end entry d n h =
      by_name (bytes_eq c.name.bytes (codes "Main")) all cs c k place end entry d n h (λ d' n' h'. main_entry all cs (k + 1) place end entry d' n' h')

  -- ---- the facts of all classes

  pub record Stands (F : Facts) (all : List Class) : Type 0 where
    pub members : classes.members ≡ map (class_members numbers) all
    pub firsts_are : firsts ≡ firsts_from 1 (map (class_members numbers) all)
    pub classes_are : F.classes ≡ map class_known classes.members
    pub methods_are : F.methods ≡ (all_found (home 0) all).methods

  number_is : (methods : List MethodFact) (before q : ℕ) → by_number methods ((1 + before) + q) ≡ slice_get methods (before + q)
  number_is methods before q = ap (by_number methods) (same before q)
    where
      same : (a b : ℕ) → (1 + a) + b ≡ suc (a + b)
      same a b = omega arith

  class_of : (F : Facts) (all : List Class) → Stands F all → (class : ℕ) (ms : Members) → slice_get classes.members class ≡ Some ms → (c : Class) × (slice_get all class ≡ Some c) × (class_members numbers c ≡ ms)
  class_of F all st class ms e = got_from (class_members numbers) all class ms (ap (λ xs. slice_get xs class) (sym st.members) ∙ e)

  pub field_stands : (F : Facts) (all : List Class) → Stands F all → AllProper all → (class : ℕ) (name : List ℕ) (f : FieldType) → field_of (ty.Object class) name classes ≡ Some f → FieldStands F classes class name f
  field_stands F all st p class name f e =
      let a = in_members (slice_get classes.members class) (λ ms. find name ms.fields) f e in
      let ms = a.0 in
      let k = placed ms.fields (place_of name ms.fields.names) f a.2 in
      let c = class_of F all st class ms a.1 in
      let proper = proper_at all class c.0 p c.1 in
      record {
        place = k.0;
        place_is = ap (option_and_then (λ (ms : Members). place_of name ms.fields.names)) a.1 ∙ k.1;
        type_is = ap (λ cs. slice_get (fields_in (slice_get cs class)) k.0) st.classes_are ∙ ap (λ o. slice_get (fields_in o) k.0) (got_map class_known classes.members class ms a.1) ∙ got_map type_in ms.fields.values k.0 f k.2;
        known = field_at ms.fields.values k.0 f (subst (λ (x : Members). AllFields x.fields.values) c.2 proper.fields) k.2;
      }

  pub method_stands : (F : Facts) (all : List Class) → Stands F all → AllProper all → (class : ℕ) (name : List ℕ) (m : MethodType) → method_of (ty.Object class) name classes ≡ Some m → MethodStands F classes firsts class name m
  method_stands F all st p class name m e =
      let a = in_members (slice_get classes.members class) (λ ms. find name ms.methods) m e in
      let ms = a.0 in
      let k = placed ms.methods (place_of name ms.methods.names) m a.2 in
      let c = class_of F all st class ms a.1 in
      let proper = proper_at all class c.0 p c.1 in
      let x = got_from (method_type numbers) (methods_in c.0.members) k.0 m (ap (λ us. slice_get us k.0) (sym proper.values ∙ ap (λ (y : Members). y.methods.values) c.2) ∙ k.2) in
      let at = located all p 1 0 class k.0 c.0 x.0 c.1 x.1 in
      let signed = signed_at (methods_in c.0.members) k.0 x.0 proper.signed x.1 in
      record {
        place = k.0;
        place_is = ap (option_and_then (λ (ms : Members). place_of name ms.methods.names)) a.1 ∙ k.1;
        first = 1 + at.before;
        first_is = ap (λ fs. slice_get fs class) st.firsts_are ∙ at.first_is;
        fact = method_known (home (0 + class)) x.0;
        fact_is = ap (λ fs. by_number fs ((1 + at.before) + k.0)) st.methods_are ∙ number_is (all_found (home 0) all).methods at.before k.0 ∙ at.fact_is;
        class_is = zero_plus class;
        params_are = ap (λ (y : MethodType). y.params) x.2;
        result_is = ap (λ (y : MethodType). y.result) x.2;
        known = subst (λ (y : MethodType). AllKnown y.params) x.2 signed.0;
        result_known = subst (λ (y : MethodType). is_unknown y.result ≡ false) x.2 signed.1;
      }

  pub entry_typed : (F : Facts) (all : List Class) → Stands F all → AllProper all → (place end : ℕ) (entry : Entry) → F.main ≡ main_from numbers firsts 0 all → Clean (main_notes numbers end all) → slice_get F.main.entries place ≡ Some entry → IsTypedEntry F entry
  entry_typed F all st p place end entry main n h =
      let i = main_entry all all 0 place end entry refl n (ap (λ (m : Main). slice_get m.entries place) (sym main) ∙ h) in
      let class = (main_from numbers firsts 0 all).class in
      let at = located all p 1 0 class i.is.q i.c i.is.m i.c_is i.is.m_is in
      let signed = signed_at (methods_in i.c.members) i.is.q i.is.m (proper_at all class i.c p i.c_is).signed i.is.m_is in
      let first : first_method firsts class ≡ 1 + at.before = ap (λ fs. unwrap_or (slice_get fs class) 1) st.firsts_are ∙ ap (λ o. unwrap_or o 1) at.first_is in
      let number : entry.method ≡ (1 + at.before) + i.is.q = ap (λ (e : Entry). e.method) i.is.entry_is ∙ ap (λ k. k + i.is.q) first in
      record {
        fact = method_known (home (0 + class)) i.is.m;
        fact_is = ap (λ k. by_number F.methods k) number ∙ ap (λ fs. by_number fs ((1 + at.before) + i.is.q)) st.methods_are ∙ number_is (all_found (home 0) all).methods at.before i.is.q ∙ at.fact_is;
        class = zero_plus class ∙ ap (λ (m : Main). m.class) (sym main);
        params = inner_params i.is.m.params i.is.params signed.0 ∙ ap (λ (e : Entry). map inner_type e.params) (sym i.is.entry_is);
        result = given_value (result_type numbers i.is.m.gives) i.is.result signed.1 ∙ ap (λ (e : Entry). given_type e.gives) (sym i.is.entry_is);
      }
