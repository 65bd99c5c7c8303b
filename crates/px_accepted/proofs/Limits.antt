-- The code of an accepted program is no larger than the rules allow.
use Rattle.std.proofs.Common.{◌≡◌, ◌≤◌, ◌<◌, ℕ, zero, suc, ◌+◌, ◌*◌, ◌^◌, nat_lt, Bool, true, false, not, List, [], ◌∷◌, ◌++◌, length, length-append, Option, Some, None, slice_get, if◌then◌else◌, refl, ap, arith}
use Rattle.std.proofs.lemmas.Bool.Decides.{nat_tests}
use Rattle.px_value.specs.declared.schema.Schema.{Schema}
use Rattle.px_tree.specs.declared.Program.{Program}
use Rattle.px_tree.specs.declared.Class.{Class}
use Rattle.px_tree.specs.declared.Method.{Method}
use Rattle.px_tree.specs.declared.Member.{Member}
use Rattle.px_tree.specs.declared.Member.TheVariants as member
use Rattle.px_facts.specs.declared.types.Ty.{Ty}
use Rattle.px_facts.specs.declared.checked.Checked.{Checked}
use Rattle.px_facts.specs.declared.checked.ClassFact.{ClassFact}
use Rattle.px_facts.specs.declared.checked.MethodFact.{MethodFact}
use Rattle.px_type_rules.specs.declared.breach.Breach.{Breach}
use Rattle.px_types.specs.declared.table.Table.{Table}
use Rattle.px_types.specs.declared.classes.Members.{Members}
use Rattle.px_type_rules.specs.Breaches.{Note, Fault, New, OneMethod, breach_if, at, least, is_before, breaches, max_news, max_methods}
use Rattle.px_types.specs.Names.{empty, has_name, declare, repeated, reserves}
use Rattle.px_types.specs.Members.{no_members, with_member, numbers_of, classes_of}
use Rattle.px_types.specs.Programs.{max_classes, max_fields, class_names, field_names, method_names, members_notes, all_members, declared_notes, notes_of, first_breach_of, main_notes, end_token, bodies}
use Rattle.px_types.specs.Checked.{checked_of}
use Rattle.px_mean.specs.Program.{methods_in, methods_of}
use Rattle.px_preservation.specs.Laws.{fields_in}
use Rattle.px_normal.specs.declared.class.Class.{Class as CodeClass}
use Rattle.px_normal.specs.declared.node.Node.{Node}
use Rattle.px_normal.specs.First.{fields_in as code_fields_in}
use Rattle.px_lowering.specs.Programs.{field_node, lowered_body, lowered_methods, lowered_fields, lowered_classes, lowered}
use Rattle.px_soundness.proofs.Clean.{Clean, clean_left, clean_right, kept}
use Rattle.px_accepted.specs.Limits.{AcceptedKeepsLimits}
use Rattle.px_types.specs.Methods.{max_tokens}
use Rattle.px_typed_code.specs.Sizes.{all_sizes, all_fields, fourfold}
use Rattle.px_typed_code.proofs.FewNodeMethods.{nodes_are_few}
use Rattle.px_soundness.proofs.Accepted.{accepted_typed}
use Rattle.px_soundness.proofs.Texts.{program_classes}
use Rattle.px_accepted.proofs.Known.{no_notes}
use Rattle.px_accepted.proofs.AcceptedSlots.{accepted_short}
use Rattle.px_accepted.proofs.ShortMethods.{sizes_few}

less_than : (a b : ℕ) → nat_lt a b ≡ true → a < b
less_than a b h = grind (arith, nat_tests)

-- ---- what is lowered of a list

module _ (P : Checked) where
  methods_long : (number : ℕ) (ms : List Method) (facts : List MethodFact) (nodes : List Node) → length (lowered_methods P number ms facts nodes).methods ≤ length ms
  methods_long number [] facts nodes = omega arith
  methods_long number (m ∷ ms) [] nodes = omega arith
  methods_long number (m ∷ ms) (fact ∷ facts) nodes = omega (arith, methods_long (number + 1) ms facts (lowered_body P number m fact nodes).nodes)

  classes_long : (cs : List Class) (facts : List ClassFact) (nodes : List Node) → length (lowered_classes P cs facts nodes).classes ≤ length cs
  classes_long [] facts nodes = omega arith
  classes_long (c ∷ cs) [] nodes = omega arith
  classes_long (c ∷ cs) (fact ∷ facts) nodes = omega (arith, classes_long cs facts (lowered_fields P c.members fact.fields nodes).nodes)

  fields_long : (ms : List Member) (types : List Ty) (nodes : List Node) → length (lowered_fields P ms types nodes).fields ≤ length (fields_in ms)
  fields_long [] types nodes = omega arith
  fields_long (member.Method m ∷ ms) types nodes = fields_long ms types nodes
  fields_long (member.Field f ∷ ms) [] nodes = omega arith
  fields_long (member.Field f ∷ ms) (t ∷ types) nodes = omega (arith, fields_long ms types (nodes ++ field_node P f ∷ []))

-- ---- classes and fields

classes_few : (cs : List Class) (number : ℕ) (numbers : Table ℕ) → Clean (class_names number numbers cs) → number ≤ max_classes → number + length cs ≤ max_classes
classes_few [] number numbers c h = omega (arith, h)
classes_few (x ∷ cs) number numbers c h =
    let c1 = clean_right (repeated (has_name x.name.bytes numbers.names) x.name) _ c in
    let c2 = clean_right (reserves x.name) _ c1 in
    let limit = breach_if (not (nat_lt number max_classes)) x.name.token 17 in
    let less = less_than number max_classes (kept (nat_lt number max_classes) x.name.token 17 (clean_left limit _ c2)) in
    omega (arith, classes_few cs (number + 1) (declare x.name.bytes number numbers) (clean_right limit _ c2) (omega (arith, less)))

module _ (numbers : Table ℕ) where
  fields_few : (ms : List Member) (count : ℕ) (before : Members) → Clean (members_notes numbers count before ms) → count ≤ max_fields → count + length (fields_in ms) ≤ max_fields
  fields_few [] count before c h = omega (arith, h)
  fields_few (member.Field f ∷ ms) count before c h =
      let own = clean_left (field_names numbers count before f) _ c in
      let c1 = clean_right (repeated (has_name f.name.bytes before.fields.names) f.name) _ own in
      let c2 = clean_right (reserves f.name) _ c1 in
      let less = less_than count max_fields (kept (nat_lt count max_fields) f.name.token 17 (clean_left (breach_if (not (nat_lt count max_fields)) f.name.token 17) _ c2)) in
      omega (arith, fields_few ms (count + 1) (with_member numbers before (member.Field f)) (clean_right (field_names numbers count before f) _ c) (omega (arith, less)))
  fields_few (member.Method m ∷ ms) count before c h = fields_few ms count (with_member numbers before (member.Method m)) (clean_right (method_names before m) _ c) h

  all_fields_few : (cs : List Class) (n : ℕ) → Clean (all_members numbers cs) → length cs ≤ n → all_fields cs ≤ n * max_fields
  all_fields_few [] n c h = omega arith
  all_fields_few (x ∷ cs) zero c h = absurd (omega (arith, h))
  all_fields_few (x ∷ cs) (suc n) c h =
      let few = fields_few x.members 0 no_members (clean_left (members_notes numbers 0 no_members x.members) _ c) (omega arith) in
      omega (arith, few, all_fields_few cs n (clean_right (members_notes numbers 0 no_members x.members) _ c) (omega (arith, h)))

  class_small : (P : Checked) (cs : List Class) (facts : List ClassFact) (nodes : List Node) → Clean (all_members numbers cs) → (place : ℕ) (class : CodeClass) → slice_get (lowered_classes P cs facts nodes).classes place ≡ Some class → length class.fields ≤ max_fields
  class_small P [] facts nodes c place class h = absurd (cc h)
  class_small P (x ∷ cs) [] nodes c place class h = absurd (cc h)
  class_small P (x ∷ cs) (fact ∷ facts) nodes c zero class h =
      let same : length (lowered_fields P x.members fact.fields nodes).fields ≡ length class.fields = ap (λ (o : Option CodeClass). elim o [ Some y ↦ length y.fields | None ↦ 0 ]) h in
      omega (arith, same, fields_long P x.members fact.fields nodes, fields_few x.members 0 no_members (clean_left (members_notes numbers 0 no_members x.members) _ c) (omega arith))
  class_small P (x ∷ cs) (fact ∷ facts) nodes c (suc place) class h = class_small P cs facts (lowered_fields P x.members fact.fields nodes).nodes (clean_right (members_notes numbers 0 no_members x.members) _ c) place class h

-- of a class, if there is one
by_class : (c : Option CodeClass) → ((d : CodeClass) → c ≡ Some d → length d.fields ≤ max_fields) → length (code_fields_in c) ≤ max_fields
by_class None h = omega arith
by_class (Some c) h = h c refl

-- ---- methods

abbrev many_methods : List Note → ℕ
many_methods [] = 0
many_methods (Fault token code ∷ ns) = many_methods ns
many_methods (New token ∷ ns) = many_methods ns
many_methods (OneMethod token ∷ ns) = 1 + many_methods ns

many_both : (xs ys : List Note) → many_methods (xs ++ ys) ≡ many_methods xs + many_methods ys
many_both [] ys = omega arith
many_both (Fault token code ∷ xs) ys = many_both xs ys
many_both (New token ∷ xs) ys = many_both xs ys
many_both (OneMethod token ∷ xs) ys = omega (arith, many_both xs ys)

-- where none is the least, there is none
least_stays : (b : Bool) (x y : Breach) (bs : List Breach) → ((z : Breach) → least (Some z) bs ≡ None → ⊥) → least (if b then Some x else Some y) bs ≡ None → ⊥
least_stays true x y bs k h = k x h
least_stays false x y bs k h = k y h

no_less : (bs : List Breach) (b : Breach) → least (Some b) bs ≡ None → ⊥
no_less [] b h = absurd (cc h)
no_less (c ∷ bs) b h = least_stays (is_before c b) c b bs (no_less bs) h

no_breaches : (bs : List Breach) → least None bs ≡ None → bs ≡ []
no_breaches [] h = refl
no_breaches (b ∷ bs) h = absurd (no_less bs b h)

-- what stands behind a limit that isn't passed
below : {R : Type 0} (b : Bool) (xs ys : List Breach) (x : Breach) → (b ≡ true → xs ≡ [] → R) → (if b then xs else x ∷ ys) ≡ [] → R
below true xs ys x k h = k refl h
below false xs ys x k h = absurd (cc h)

methods_few : (ns : List Note) (news methods : ℕ) → breaches news methods ns ≡ [] → methods ≤ max_methods → methods + many_methods ns ≤ max_methods
methods_few [] news methods h k = omega (arith, k)
methods_few (Fault token code ∷ ns) news methods h k = absurd (cc h)
methods_few (New token ∷ ns) news methods h k = below (nat_lt news max_news) (breaches (news + 1) methods ns) (breaches news methods ns) (at token 17) (λ b e. methods_few ns (news + 1) methods e k) h
methods_few (OneMethod token ∷ ns) news methods h k = below (nat_lt methods max_methods) (breaches news (methods + 1) ns) (breaches news methods ns) (at token 17) (λ b e. omega (arith, methods_few ns news (methods + 1) e (omega (arith, less_than methods max_methods b)))) h

module _ (numbers : Table ℕ) where
  members_many : (ms : List Member) (count : ℕ) (before : Members) → length (methods_in ms) ≤ many_methods (members_notes numbers count before ms)
  members_many [] count before = omega arith
  members_many (member.Field f ∷ ms) count before = omega (arith, many_both (field_names numbers count before f) (members_notes numbers (count + 1) (with_member numbers before (member.Field f)) ms), members_many ms (count + 1) (with_member numbers before (member.Field f)))
  members_many (member.Method m ∷ ms) count before = omega (arith, many_both (method_names before m) (members_notes numbers count (with_member numbers before (member.Method m)) ms), members_many ms count (with_member numbers before (member.Method m)))

  all_many : (cs : List Class) → length (methods_of cs) ≤ many_methods (all_members numbers cs)
  all_many [] = omega arith
  all_many (c ∷ cs) = omega (arith, many_both (members_notes numbers 0 no_members c.members) (all_members numbers cs), length-append (methods_in c.members) (methods_of cs), members_many c.members 0 no_members, all_many cs)

program_many : (schema : Schema) (program : Program) → first_breach_of schema program ≡ None → length (methods_of program.classes) ≤ max_methods
unfolding first_breach_of
program_many schema program h =
    let classes = classes_of schema program.classes in
    let numbers = numbers_of program.classes in
    let few = methods_few (notes_of schema program) 0 0 (no_breaches (breaches 0 0 (notes_of schema program)) h) (omega arith) in
    omega (arith, few, many_both (declared_notes program.classes) (main_notes classes.numbers (end_token program.tokens) program.classes ++ bodies classes 0 program.classes), many_both (class_names 0 empty program.classes) (all_members numbers program.classes), all_many numbers program.classes)

-- what there is at most
small_nodes : (nodes methods sizes fields : ℕ) → nodes ≤ (methods + methods) + (fourfold sizes + (fields + sizes)) → methods ≤ max_methods → sizes ≤ max_methods * max_tokens → fields ≤ max_classes * max_fields → nodes < 2 ^ 32
small_nodes nodes methods sizes fields h m s f = omega (arith, h, m, s, f)

pub accepted_keeps_limits : AcceptedKeepsLimits
unfolding lowered
accepted_keeps_limits bytes program schema a =
    let P = checked_of program schema in
    let cs = program.classes in
    let numbers = numbers_of cs in
    let made = lowered_methods P 1 (methods_of cs) P.facts.methods [] in
    let clean = clean_left (declared_notes cs) _ (no_notes schema program a.kept) in
    let names = clean_left (class_names 0 empty cs) _ clean in
    let members = clean_right (class_names 0 empty cs) _ clean in
    let many = program_many schema program a.kept in
    record {
      classes = omega (arith, classes_long P cs P.facts.classes made.nodes, classes_few cs 0 empty names (omega arith));
      fields = λ class. by_class (slice_get (lowered_classes P cs P.facts.classes made.nodes).classes class) (λ c h. class_small numbers P cs P.facts.classes made.nodes members class c h);
      methods = omega (arith, methods_long P 1 (methods_of cs) P.facts.methods [], many);
      nodes = small_nodes (length (lowered P).nodes) (length (methods_of cs)) (all_sizes (methods_of cs)) (all_fields cs) (nodes_are_few P (let d = program_classes bytes program a.program_is in accepted_typed schema program d.0 d.1 a.kept)) many
          (sizes_few (methods_of cs) _ max_methods (accepted_short bytes program schema a) many)
          (all_fields_few numbers cs max_classes members (omega (arith, classes_few cs 0 empty names (omega arith))));
    }
