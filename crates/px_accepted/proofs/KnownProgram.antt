-- What typed code asks of the facts of an accepted program, beside its bodies.
use Rattle.std.proofs.Common.{◌≡◌, ℕ, zero, suc, ◌+◌, Bool, true, false, List, [], ◌∷◌, ◌++◌, map, drop, Option, Some, None, slice_get, if◌then◌else◌, refl, sym, ap, ◌∙◌, subst, arith}
use Rattle.std.specs.Prelude.{nat_eq}
use Rattle.std.specs.Option.{option_map}
use Rattle.std.proofs.lemmas.Bool.{eqb-true}
use Rattle.std.proofs.lemmas.Option.{slice_get-map}
use Rattle.px_value.specs.declared.header.Kind.{Kind}
use Rattle.px_value.specs.declared.schema.Schema.{Schema}
use Rattle.px_tree.specs.declared.Program.{Program}
use Rattle.px_tree.specs.declared.Method.{Method}
use Rattle.px_tree.specs.declared.Class.{Class}
use Rattle.px_facts.specs.declared.types.Ty.{Ty}
use Rattle.px_facts.specs.declared.checked.ClassFact.{ClassFact}
use Rattle.px_facts.specs.declared.checked.MethodFact.{MethodFact}
use Rattle.px_facts.specs.declared.checked.Entry.{Entry}
use Rattle.px_facts.specs.declared.checked.Facts.{Facts}
use Rattle.px_types.specs.declared.node.Node.{Node}
use Rattle.px_types.specs.declared.table.Table.{Table}
use Rattle.px_types.specs.declared.classes.Classes.{Classes}
use Rattle.px_types.specs.Names.{empty, declare, has_name, place_of, value_at, find}
use Rattle.px_types.specs.Members.{numbered, class_members, classes_of}
use Rattle.px_types.specs.Programs.{declared_notes, class_names, all_members, main_notes, bodies, end_token, notes_of, first_breach_of}
use Rattle.px_types.specs.Bodies.{firsts_from, home_of, all_found}
use Rattle.px_types.specs.Checked.{class_known, facts_in, facts_of, checked_of}
use Rattle.px_mean.specs.Facts.{type_at, named_at, by_number, fields_of}
use Rattle.px_mean.specs.Program.{methods_of}
use Rattle.px_lowering.specs.declared.allocations.Allocation.{Allocation}
use Rattle.px_lowering.specs.Allocations.{kind_of}
use Rattle.px_lowering.specs.Programs.{allocations, is_public, is_entry}
use Rattle.px_typed_code.specs.Values.{is_value, is_result}
use Rattle.px_typed_code.specs.Laws.{site_of, IsKnownClass, IsKnownKind, ArePublic}
use Rattle.px_soundness.specs.Numbered.{AreClasses}
use Rattle.px_soundness.proofs.Clean.{Clean, clean_left, clean_right, and_left, and_right, some_is}
use Rattle.px_soundness.proofs.Standing.{first_in_drop, rest_in_drop, add_one}
use Rattle.px_soundness.proofs.Programs.{got_from, all_proper, AllProper}
use Rattle.px_accepted.proofs.Known.{no_notes}
use Rattle.px_accepted.proofs.KnownTypes.{classes_values, field_value, value_at as typed_value_at}
use Rattle.px_accepted.proofs.KnownEntries.{IsMain, main_is, public_is_entry, entry_is_public}
use Rattle.px_accepted.proofs.Made.{AllSound, site_placed, kinds_known}
use Rattle.px_accepted.proofs.Places.{kind_in, all_allocated}
use Rattle.px_accepted.proofs.SoundBodies.{AllGood, good_at, classes_good}

-- ---- names of classes

abbrev AllClasses : Facts → List ℕ → Type 0
AllClasses F [] = Unit {0}
AllClasses F (v ∷ vs) = IsKnownClass F v × AllClasses F vs

classes_push : (F : Facts) (vs : List ℕ) (v : ℕ) → AllClasses F vs → IsKnownClass F v → AllClasses F (vs ++ v ∷ [])
classes_push F [] v h k = (k, tt)
classes_push F (w ∷ vs) v h k = (h.0, classes_push F vs v h.1 k)

class_at : (F : Facts) (vs : List ℕ) (place v : ℕ) → AllClasses F vs → slice_get vs place ≡ Some v → IsKnownClass F v
class_at F [] place v h e = absurd (cc e)
class_at F (w ∷ vs) zero v h e = subst (IsKnownClass F) (some_is e) h.0
class_at F (w ∷ vs) (suc place) v h e = class_at F vs place v h.1 e

declared_by : (F : Facts) (again : Bool) (name : List ℕ) (v : ℕ) (table : Table ℕ) → AllClasses F table.values → IsKnownClass F v → AllClasses F (if again then table else record { names = table.names ++ name ∷ []; values = table.values ++ v ∷ [] }).values
declared_by F true name v table h k = h
declared_by F false name v table h k = classes_push F table.values v h k

numbers_known : (F : Facts) (facts : Class → ClassFact) (cs : List Class) (number : ℕ) (table : Table ℕ) → AllClasses F table.values → drop number F.classes ≡ map facts cs → AllClasses F (numbered number table cs).values
numbers_known F facts [] number table h e = h
numbers_known F facts (c ∷ cs) number table h e =
    numbers_known F facts cs (number + 1) (declare c.name.bytes number table)
    (declared_by F (has_name c.name.bytes table.names) c.name.bytes number table h (facts c, first_in_drop F.classes (map facts cs) number (facts c) e))
    (ap (λ (i : ℕ). drop i F.classes) (sym (add_one number)) ∙ rest_in_drop F.classes (map facts cs) number (facts c) e)

found_known : (F : Facts) (place : Option ℕ) (vs : List ℕ) (class : ℕ) → AllClasses F vs → value_at place vs ≡ Some class → IsKnownClass F class
found_known F None vs class h e = absurd (cc e)
found_known F (Some place) vs class h e = class_at F vs place class h e

map_twice : {A B D : Type 0} (f : B → D) (g : A → B) (xs : List A) → map f (map g xs) ≡ map (λ x. f (g x)) xs
map_twice f g [] = refl
map_twice f g (x ∷ xs) = ap (λ ys. f (g x) ∷ ys) (map_twice f g xs)

one_plus : (n : ℕ) → 1 + n ≡ suc n
one_plus n = omega arith

module _ (schema : Schema) (program : Program) (m : ℕ) (d : AreClasses 0 program.classes m) (c : Clean (notes_of schema program)) where
  abbrev cs : List Class
  cs = program.classes

  abbrev classes : Classes
  classes = classes_of schema cs

  abbrev firsts : List ℕ
  firsts = firsts_from 1 classes.members

  abbrev F : Facts
  F = facts_in (home_of schema cs) cs

  abbrev nodes : List Node
  nodes = (all_found (home_of schema cs) cs).nodes

  members_clean : Clean (all_members classes.numbers cs)
  members_clean = clean_right (class_names 0 empty cs) _ (clean_left (declared_notes cs) _ c)

  main_clean : Clean (main_notes classes.numbers (end_token program.tokens) cs)
  main_clean = clean_left (main_notes classes.numbers (end_token program.tokens) cs) _ (clean_right (declared_notes cs) _ c)

  bodies_clean : Clean (bodies classes 0 cs)
  bodies_clean = clean_right (main_notes classes.numbers (end_token program.tokens) cs) _ (clean_right (declared_notes cs) _ c)

  abbrev fact_of : Class → ClassFact
  fact_of x = class_known (class_members classes.numbers x)

  names_known : (name : List ℕ) (class : ℕ) → find name classes.numbers ≡ Some class → IsKnownClass F class
  names_known name class e = found_known F (place_of name classes.numbers.names) classes.numbers.values class (numbers_known F fact_of cs 0 empty tt (map_twice class_known (class_members classes.numbers) cs)) e

  good : AllGood F F.methods × AllSound F nodes
  good = classes_good F classes firsts names_known 0 0 m cs d refl bodies_clean

  proper : AllProper classes firsts cs
  proper = all_proper classes firsts 0 m cs d 0 members_clean bodies_clean

  main : IsMain classes firsts cs F.main
  main = main_is classes firsts cs cs 0 (end_token program.tokens) refl main_clean

  fields : (class place : ℕ) (t : Ty) → slice_get (fields_of F class) place ≡ Some t → is_value t ≡ true
  fields class place t e = field_value F.classes class place t (classes_values classes.numbers 0 m cs d members_clean) e

  slots : (number place : ℕ) (fact : MethodFact) (t : Ty) → by_number F.methods number ≡ Some fact → slice_get fact.slots place ≡ Some t → is_value t ≡ true
  slots zero place fact t e h = absurd (cc e)
  slots (suc k) place fact t e h = typed_value_at fact.slots place t (good_at F F.methods k fact good.0 e).slots h

  results : (number : ℕ) (fact : MethodFact) → by_number F.methods number ≡ Some fact → is_result fact.result ≡ true
  results zero fact e = absurd (cc e)
  results (suc k) fact e = (good_at F F.methods k fact good.0 e).result

  owners : (number : ℕ) (fact : MethodFact) → by_number F.methods number ≡ Some fact → IsKnownClass F fact.class
  owners zero fact e = absurd (cc e)
  owners (suc k) fact e = (good_at F F.methods k fact good.0 e).owner

  main_known : IsKnownClass F F.main.class
  main_known = (
    fact_of main.c,
    slice_get-map class_known (map (class_members classes.numbers) cs) F.main.class ∙ ap (option_map class_known) (slice_get-map (class_members classes.numbers) cs F.main.class ∙ ap (option_map (class_members classes.numbers)) main.c_is),
  )

  sites : (id site : ℕ) (k : Kind) → site_of (named_at F id) ≡ Some site → kind_of (named_at F id) (type_at F id) ≡ Some k → (a : Allocation) × (by_number (allocations F 1 (methods_of cs)) site ≡ Some a) × (a.kind ≡ k)
  sites id site k h i =
      let p = site_placed F nodes good.1 site k 1 1 id h i in
      let a = got_from kind_in (allocations F 1 (methods_of cs)) p.0 k (ap (λ (ks : List Kind). slice_get ks p.0) (all_allocated F nodes refl (home_of schema cs) m cs d refl) ∙ p.2) in
      (a.0, ap (by_number (allocations F 1 (methods_of cs))) (p.1 ∙ one_plus p.0) ∙ a.1, a.2)

  kinds : (place : ℕ) (a : Allocation) → slice_get (allocations F 1 (methods_of cs)) place ≡ Some a → IsKnownKind F a.kind
  kinds place a h =
      kinds_known F nodes good.1 a.kind 0 1 place refl
      (ap (λ (ks : List Kind). slice_get ks place) (sym (all_allocated F nodes refl (home_of schema cs) m cs d refl)) ∙ slice_get-map kind_in (allocations F 1 (methods_of cs)) place ∙ ap (option_map kind_in) h)

  entries : (number : ℕ) (x : Method) (fact : MethodFact) → by_number (methods_of cs) number ≡ Some x → by_number F.methods number ≡ Some fact → is_entry x.access fact.class F.main.class ≡ true → (place : ℕ) × (entry : Entry) × (slice_get F.main.entries place ≡ Some entry) × (entry.method ≡ number)
  entries zero x fact h i e = absurd (cc h)
  entries (suc k) x fact h i e =
      public_is_entry classes firsts cs proper refl F.main main k x fact h i (and_left (is_public x.access) (nat_eq fact.class F.main.class) e) (eqb-true fact.class F.main.class (and_right (is_public x.access) (nat_eq fact.class F.main.class) e))

  public : (place : ℕ) (entry : Entry) (x : Method) → slice_get F.main.entries place ≡ Some entry → by_number (methods_of cs) entry.method ≡ Some x → is_public x.access ≡ true
  public place entry x h i =
      let r = entry_is_public classes firsts cs proper refl F.main main place entry h in
      let same : r.0 ≡ x = some_is (sym r.3 ∙ ap (by_number (methods_of cs)) (sym r.2) ∙ i) in
      subst (λ (y : Method). is_public y.access ≡ true) same r.4

-- ---- of accepted programs

module _ (schema : Schema) (program : Program) (m : ℕ) (d : AreClasses 0 program.classes m) (h : first_breach_of schema program ≡ None) where
  abbrev facts : Facts
  facts = (checked_of program schema).facts

  abbrev methods : List Method
  methods = methods_of program.classes

  pub accepted_fields : (class place : ℕ) (t : Ty) → slice_get (fields_of facts class) place ≡ Some t → is_value t ≡ true
  unfolding facts_of
  accepted_fields class place t e = fields schema program m d (no_notes schema program h) class place t e

  pub accepted_slots : (number place : ℕ) (fact : MethodFact) (t : Ty) → by_number facts.methods number ≡ Some fact → slice_get fact.slots place ≡ Some t → is_value t ≡ true
  unfolding facts_of
  accepted_slots number place fact t e i = slots schema program m d (no_notes schema program h) number place fact t e i

  pub accepted_results : (number : ℕ) (fact : MethodFact) → by_number facts.methods number ≡ Some fact → is_result fact.result ≡ true
  unfolding facts_of
  accepted_results number fact e = results schema program m d (no_notes schema program h) number fact e

  pub accepted_owners : (number : ℕ) (fact : MethodFact) → by_number facts.methods number ≡ Some fact → IsKnownClass facts fact.class
  unfolding facts_of
  accepted_owners number fact e = owners schema program m d (no_notes schema program h) number fact e

  pub accepted_main : IsKnownClass facts facts.main.class
  unfolding facts_of
  accepted_main = main_known schema program m d (no_notes schema program h)

  pub accepted_sites : (id site : ℕ) (k : Kind) → site_of (named_at facts id) ≡ Some site → kind_of (named_at facts id) (type_at facts id) ≡ Some k → (a : Allocation) × (by_number (allocations facts 1 methods) site ≡ Some a) × (a.kind ≡ k)
  unfolding facts_of
  accepted_sites id site k e i = sites schema program m d (no_notes schema program h) id site k e i

  pub accepted_kinds : (place : ℕ) (a : Allocation) → slice_get (allocations facts 1 methods) place ≡ Some a → IsKnownKind facts a.kind
  unfolding facts_of
  accepted_kinds place a e = kinds schema program m d (no_notes schema program h) place a e

  pub accepted_entries : (number : ℕ) (x : Method) (fact : MethodFact) → by_number methods number ≡ Some x → by_number facts.methods number ≡ Some fact → is_entry x.access fact.class facts.main.class ≡ true → (place : ℕ) × (entry : Entry) × (slice_get facts.main.entries place ≡ Some entry) × (entry.method ≡ number)
  unfolding facts_of
  accepted_entries number x fact e i p = entries schema program m d (no_notes schema program h) number x fact e i p

  pub accepted_public : ArePublic (checked_of program schema)
  unfolding facts_of
  accepted_public place entry x e i = public schema program m d (no_notes schema program h) place entry x e i
