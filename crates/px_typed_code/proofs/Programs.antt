-- The code of a typed program is typed.
use Rattle.std.proofs.Common.{◌≡◌, ℕ, zero, suc, ◌+◌, ◌≤◌, true, List, [], ◌∷◌, ◌++◌, length, length-append, map, Option, Some, None, option_map, slice_get, refl, sym, ap, ◌∙◌, subst, arith, nat_eq, Bool, false, ◌&&◌}
use Rattle.std.proofs.lemmas.Bool.{eq-eqb}
use Rattle.std.proofs.lemmas.List.{length-map}
use Rattle.px_value.specs.declared.header.Kind.{Kind}
use Rattle.px_value.specs.declared.header.Kind.TheVariants as kind
use Rattle.px_value.specs.declared.ty.Ty.{Ty as Outer}
use Rattle.px_value.specs.declared.ty.Ty.TheVariants as outer
use Rattle.px_tree.specs.declared.Method.{Method}
use Rattle.px_facts.specs.declared.types.Ty.{Ty as Static}
use Rattle.px_facts.specs.declared.checked.Checked.{Checked}
use Rattle.px_facts.specs.declared.checked.Facts.{Facts}
use Rattle.px_facts.specs.declared.checked.ClassFact.{ClassFact}
use Rattle.px_facts.specs.declared.checked.MethodFact.{MethodFact}
use Rattle.px_facts.specs.declared.checked.Entry.{Entry}
use Rattle.px_facts.specs.declared.operation.Operation.{Operation}
use Rattle.px_mean.specs.Facts.{by_number, fields_in as types_in}
use Rattle.px_mean.specs.Program.{methods_of, source_from}
use Rattle.px_mean.specs.Typing.{IsTyped as IsTypedSource, IsTypedMethod as IsTypedSourceMethod, inner_type, given_type}
use Rattle.px_normal.specs.declared.ty.Ty.{Ty}
use Rattle.px_normal.specs.declared.ty.Ty.TheVariants as ty
use Rattle.px_normal.specs.declared.class.Class.{Class as CodeClass}
use Rattle.px_normal.specs.declared.class.Field.{Field}
use Rattle.px_normal.specs.declared.method.Method.{Method as CodeMethod}
use Rattle.px_normal.specs.declared.node.Node.{Node}
use Rattle.px_normal.specs.declared.code.Code.{Code}
use Rattle.px_normal.specs.declared.code.Site.{Site}
use Rattle.px_normal.specs.First.{numbered, fields_in as code_fields_in}
use Rattle.px_normal.specs.Typed as typed
use Rattle.px_normal.specs.Typed.{IsNode, IsClass, IsType, IsKind, IsSiteNode, field_type, type_of, site_kind, kind_of as kind_in, is_plain, ArePlain, IsPlainResult, IsTypedEntry, IsTypedMethod, IsTyped}
use Rattle.px_lowering.specs.declared.allocations.Allocation.{Allocation}
use Rattle.px_lowering.specs.Types.{code_type, code_result}
use Rattle.px_lowering.specs.Programs.{is_public, first_types, begun, method_node, lowered_body, is_entry, method_of, Methods, lowered_methods, Classes, lowered_fields, lowered_classes, allocations, Sites, lowered_sites, statement_of, lowered}
use Rattle.px_typed_code.specs.Laws.{entry_type, IsEntryOf, EntriesAreMethods, IsKnownElement, IsKnownKind, AreUsedWell, LoweredIsTyped}
use Rattle.px_typed_code.proofs.Drafts.{Grows, grows_none, grows_append}
use Rattle.px_typed_code.proofs.Around.{IsMethodOf, IsCodeOf}
use Rattle.px_typed_code.proofs.Bodies.{IsFineBody, body_fine, slots_are}
use Rattle.px_typed_code.proofs.Skeleton.{bare, bare_is, param_value, numbered_map}
use Rattle.px_typed_code.proofs.Members.{IsNodeIn, node_more, next_node, BodiesGrow, known_at, method_at, field_known, field_nodes, classes_grow, class_known, class_at, IsSiteNodeIn, sites_grow, sites_good, site_known}

some_is : {A : Type 0} (a b : A) → Some a ≡ Some b → a ≡ b
some_is {A} a b e = ap (λ (x : Option A). elim x [ Some y ↦ y | None ↦ a ]) e

-- ---- entries

outer_plain : (t : Outer) → is_plain (code_type (inner_type t)) ≡ true
outer_plain outer.Int = refl
outer_plain outer.Long = refl
outer_plain outer.Bool = refl
outer_plain outer.Text = refl
outer_plain outer.Ref = refl

params_plain : (ts : List Outer) (behind : List Ty) → ArePlain (length (map inner_type ts)) (map code_type (map inner_type ts) ++ behind)
params_plain [] behind = tt
params_plain (t ∷ ts) behind = (outer_plain t, params_plain ts behind)

result_plain : (t : Option Outer) → IsPlainResult (code_result (given_type t))
result_plain None = tt
result_plain (Some outer.Int) = refl
result_plain (Some outer.Long) = refl
result_plain (Some outer.Bool) = refl
result_plain (Some outer.Text) = refl
result_plain (Some outer.Ref) = refl

module _ (P : Checked) (source : IsTypedSource (source_from P)) (used : AreUsedWell P) where
  abbrev F : Facts
  F = P.facts

  abbrev pub ms : List Method
  ms = methods_of P.program.classes

  abbrev pub made : Methods
  made = lowered_methods P 1 ms F.methods []

  abbrev pub kinds : Classes
  kinds = lowered_classes P P.program.classes F.classes made.nodes

  abbrev pub found : List Allocation
  found = allocations F 1 ms

  abbrev pub places : Sites
  places = lowered_sites P found kinds.nodes []

  -- ---- methods that are known

  -- a tree and a fact of one number are typed
  pub pair_typed : (place : ℕ) (m : Method) (fact : MethodFact) → slice_get ms place ≡ Some m → slice_get F.methods place ≡ Some fact → IsTypedSourceMethod F m fact
  pair_typed place m fact h k =
      let t = source.methods (suc place) fact k in
      subst (λ n. IsTypedSourceMethod F n fact) (some_is t.0 m (sym t.1 ∙ h)) t.2

  pub fine : (C : Code) (code : IsCodeOf F C) (number place : ℕ) (m : Method) (fact : MethodFact) (h : slice_get ms place ≡ Some m) (k : slice_get F.methods place ≡ Some fact) (nodes : List Node) → IsFineBody P C code number m fact (pair_typed place m fact h k) (used.bodies (suc place) m fact h k) (λ slot t e. used.slots (suc place) slot fact t k e) (begun P number m fact nodes) (lowered_body P number m fact nodes)
  fine C code number place m fact h k nodes = body_fine P C code number m fact (pair_typed place m fact h k) (used.bodies (suc place) m fact h k) (λ slot t e. used.slots (suc place) slot fact t k e) nodes

  pub bodies_grow : BodiesGrow P 1 ms F.methods
  bodies_grow place m fact h k nodes =
      let g = (fine (bare P) (bare_is P source used) (1 + place) place m fact h k nodes).goes.nodes in
      λ slot x e. g slot x (grows_append nodes (method_node P (1 + place) m ∷ []) slot x e)

  slots_grow : (place : ℕ) (m : Method) (fact : MethodFact) (h : slice_get ms place ≡ Some m) (k : slice_get F.methods place ≡ Some fact) (nodes : List Node) → Grows (first_types fact) (lowered_body P (1 + place) m fact nodes).slots
  slots_grow place m fact h k nodes = (fine (bare P) (bare_is P source used) (1 + place) place m fact h k nodes).goes.slots

  method_is : (number : ℕ) (fact : MethodFact) → by_number F.methods number ≡ Some fact → IsMethodOf (lowered P) number fact
  unfolding lowered
  method_is zero fact k = absurd (cc k)
  method_is (suc place) fact k =
      let t = source.methods (suc place) fact k in
      let r = known_at P 1 ms F.methods [] bodies_grow place t.0 fact t.1 k in
      let o = lowered_body P (1 + place) t.0 fact r.2.nodes in
      let s = slots_are fact t.2.locals o.slots t.2.slots (slots_grow place t.0 fact t.1 k r.2.nodes) in
      record {
        method = r.0;
        there = r.1;
        params = ap (λ (x : CodeMethod). x.params) r.2.is;
        gives = ap (λ (x : CodeMethod). x.gives) r.2.is;
        behind = s.0;
        slots = ap (λ (x : CodeMethod). x.slots) r.2.is ∙ s.1;
      }

  field_is : (class place : ℕ) (t : Static) (o : Option ClassFact) → slice_get F.classes class ≡ o → slice_get (types_in o) place ≡ Some t → field_type (lowered P) class place ≡ Some (code_type t)
  unfolding lowered
  field_is class place t None e h = absurd (cc h)
  field_is class place t (Some fact) e h =
      let k = class_known P P.program.classes F.classes made.nodes used.classes class fact e in
      let low = k.4 in
      let f = field_known P k.0.members fact.fields low.nodes k.3 place t h in
      ap (λ (x : Option CodeClass). type_of (slice_get (code_fields_in x) place)) k.2 ∙ ap (λ (x : CodeClass). type_of (slice_get x.fields place)) low.is ∙ ap type_of f.1 ∙ ap Some f.2

  site_is : (site : ℕ) (k : Kind) (a : Allocation) → by_number found site ≡ Some a → a.kind ≡ k → site_kind (lowered P) site ≡ Some k
  unfolding lowered
  site_is zero k a h e = absurd (cc h)
  site_is (suc place) k a h e =
      let r = site_known P found kinds.nodes [] place a h in
      let n : 0 + place ≡ place = omega arith in
      let there : slice_get places.sites place ≡ Some r.0 = subst (λ i. slice_get places.sites i ≡ Some r.0) n r.1 in
      ap kind_in there ∙ ap Some (r.2 ∙ e)

  statement_is : (number : ℕ) (o : Operation) → by_number F.operations number ≡ Some o → numbered (lowered P).statements number ≡ Some o.statement
  unfolding lowered
  statement_is number o e = numbered_map statement_of F.operations number o e

  pub code_is : IsCodeOf F (lowered P)
  code_is = record {
    methods = method_is;
    params = param_value P source used;
    results = used.results;
    fields = λ class place t h. field_is class place t (slice_get F.classes class) refl h;
    values = used.fields;
    sites = λ id site k e h. let a = used.sites id site k e h in site_is site k a.0 a.1 a.2;
    statements = statement_is;
  }

  -- ---- nodes

  made_node : (node : ℕ) → IsNodeIn made.nodes node → IsNode (lowered P) node
  unfolding lowered
  made_node node h = node_more made.nodes places.nodes node (λ place x e. sites_grow P found kinds.nodes [] place x (classes_grow P P.program.classes F.classes made.nodes place x e)) h

  made_grows : Grows made.nodes (lowered P).nodes
  unfolding lowered
  made_grows place x e = sites_grow P found kinds.nodes [] place x (classes_grow P P.program.classes F.classes made.nodes place x e)

  field_node : (class place : ℕ) (f : Field) (o : Option CodeClass) → slice_get kinds.classes class ≡ o → slice_get (code_fields_in o) place ≡ Some f → IsNode (lowered P) f.node
  unfolding lowered
  field_node class place f None e h = absurd (cc h)
  field_node class place f (Some c) e h =
      let k = class_at P P.program.classes F.classes made.nodes class c e in
      let low = k.2 in
      let x = lowered_fields P k.0.members k.1.fields low.nodes in
      let there : slice_get x.fields place ≡ Some f = ap (λ (d : CodeClass). slice_get d.fields place) (sym low.is) ∙ h in
      node_more x.nodes places.nodes f.node (λ i y q. sites_grow P found kinds.nodes [] i y (low.grows i y q)) (field_nodes P k.0.members k.1.fields low.nodes place f there)

  -- ---- sites

  class_is : (class : ℕ) (fact : ClassFact) → slice_get F.classes class ≡ Some fact → IsClass (lowered P) class
  unfolding lowered
  class_is class fact e = let k = class_known P P.program.classes F.classes made.nodes used.classes class fact e in (k.1, k.2)

  element_is : (number : ℕ) → IsKnownElement F number → IsType (lowered P) (ty.Array number)
  element_is zero h = tt
  element_is (suc zero) h = tt
  element_is (suc (suc zero)) h = tt
  element_is (suc (suc (suc zero))) h = tt
  element_is (suc (suc (suc (suc class)))) h = class_is class h.0 h.1

  kind_is : (k : Kind) → IsKnownKind F k → IsKind (lowered P) k
  kind_is (kind.Object class) h = class_is class h.0 h.1
  kind_is (kind.Array number) h = element_is number h
  kind_is (kind.Rows number) h = (h.0.statement, statement_is number h.0 h.1)

  site_node_is : (k : Kind) (at : Option ℕ) → IsSiteNodeIn P places.nodes k at → IsSiteNode (lowered P) k at
  unfolding lowered
  site_node_is (kind.Object class) at h = h
  site_node_is (kind.Array number) at h = h
  site_node_is (kind.Rows number) at h = h

  site_typed : (number : ℕ) (s : Site) → numbered (lowered P).sites number ≡ Some s → IsKind (lowered P) s.kind × IsSiteNode (lowered P) s.kind s.node
  unfolding lowered
  site_typed zero s h = absurd (cc h)
  site_typed (suc place) s h =
      let g = sites_good P found kinds.nodes [] used.kinds (λ place s e. absurd (cc e)) place s h in
      (kind_is s.kind g.kind, site_node_is s.kind s.node g.node)

  -- ---- methods

  -- what an entry's fact says
  entry_fact : (place : ℕ) (m : Method) (fact : MethodFact) → slice_get ms place ≡ Some m → slice_get F.methods place ≡ Some fact → is_entry m.access fact.class F.main.class ≡ true → (entry : Entry) × (fact.class ≡ F.main.class) × (fact.params ≡ map inner_type entry.params) × (fact.result ≡ given_type entry.gives)
  entry_fact place m fact h k e =
      let u = used.entries (suc place) m fact h k e in
      let t = source.entries u.0 u.1 u.2 in
      let same : t.fact ≡ fact = some_is t.fact fact (sym t.fact_is ∙ ap (by_number F.methods) u.3 ∙ k) in
      (u.1, ap (λ (f : MethodFact). f.class) (sym same) ∙ t.class, ap (λ (f : MethodFact). f.params) (sym same) ∙ t.params, ap (λ (f : MethodFact). f.result) (sym same) ∙ t.result)

  method_typed : (number : ℕ) (method : CodeMethod) → numbered (lowered P).methods number ≡ Some method → IsTypedMethod (lowered P) method
  unfolding lowered
  method_typed zero method h = absurd (cc h)
  method_typed (suc place) method h =
      let there = method_at P 1 ms F.methods [] place method h in
      let m = there.0 in
      let fact = there.1 in
      let r = known_at P 1 ms F.methods [] bodies_grow place m fact there.2 there.3 in
      let nodes = r.2.nodes in
      let o = lowered_body P (1 + place) m fact nodes in
      let same : method ≡ method_of P m fact (length nodes) o = some_is method r.0 (sym h ∙ r.1) ∙ r.2.is in
      let b = fine (lowered P) code_is (1 + place) place m fact there.2 there.3 nodes in
      let t = source.methods (suc place) fact there.3 in
      let s = slots_are fact t.2.locals o.slots t.2.slots b.goes.slots in
      let first = nodes ++ method_node P (1 + place) m ∷ [] in
      let room : length fact.params ≤ length (map code_type fact.params ++ s.0) = omega (arith, length-append (map code_type fact.params) s.0, length-map fact.params code_type) in
      let mine : IsTypedMethod (lowered P) (method_of P m fact (length nodes) o) = record {
        class = let c = used.owners (suc place) fact there.3 in class_is fact.class c.0 c.1;
        node = made_node (length nodes + 1) (node_more first made.nodes (length nodes + 1) (λ i x e. r.2.grows i x (b.goes.nodes i x e)) (next_node nodes (method_node P (1 + place) m)));
        behind = map code_type fact.params ++ s.0;
        slots = s.1;
        params = room;
        body = b.goes.trees o.slots (grows_none o.slots) (λ i x e. made_grows i x (r.2.grows i x e)) typed.AreTypedTrees.none;
        stops = b.stops;
        entry = λ e.
            let f = entry_fact place m fact there.2 there.3 e in
            record {
              class = f.1;
              params = subst (λ (ts : List Static). ArePlain (length ts) (map code_type ts ++ s.0)) (sym f.2) (params_plain f.0.params s.0);
              result = subst (λ t. IsPlainResult (code_result t)) (sym f.3) (result_plain f.0.gives);
            };
      } in
      subst (λ x. IsTypedMethod (lowered P) x) (sym same) mine

  pub code_typed : IsTyped (lowered P)
  unfolding lowered
  code_typed = record { main = class_is F.main.class used.main.0 used.main.1; methods = method_typed; sites = site_typed; fields = λ class place f h. field_node class place f (slice_get kinds.classes class) refl h }

  -- ---- entries of jobs

  entry_gives : (t : Option Outer) → code_result (given_type t) ≡ option_map entry_type t
  entry_gives None = refl
  entry_gives (Some outer.Int) = refl
  entry_gives (Some outer.Long) = refl
  entry_gives (Some outer.Bool) = refl
  entry_gives (Some outer.Text) = refl
  entry_gives (Some outer.Ref) = refl

  types_are : (ts : List Outer) → map code_type (map inner_type ts) ≡ map entry_type ts
  types_are [] = refl
  types_are (t ∷ ts) = ap (λ (xs : List Ty). entry_type t ∷ xs) (types_are ts)

  same_number : (n : ℕ) → nat_eq n n ≡ true
  same_number n = eq-eqb n n refl

  both_true : (a b : Bool) → a ≡ true → b ≡ true → (a && b) ≡ true
  both_true true b h k = k
  both_true false b h k = absurd (cc h)

  number_entry : (e : Entry) (number : ℕ) → e.method ≡ number → (fact : MethodFact) → by_number F.methods number ≡ Some fact → fact.class ≡ F.main.class → fact.params ≡ map inner_type e.params → fact.result ≡ given_type e.gives → ((m : Method) → by_number ms e.method ≡ Some m → is_public m.access ≡ true) → IsEntryOf (lowered P) e
  unfolding lowered
  number_entry e zero n fact k class params result public = absurd (cc k)
  number_entry e (suc place) n fact k class params result public =
      let t = source.methods (suc place) fact k in
      let m = t.0 in
      let r = known_at P 1 ms F.methods [] bodies_grow place m fact t.1 k in
      let o = lowered_body P (1 + place) m fact r.2.nodes in
      let s = slots_are fact t.2.locals o.slots t.2.slots (slots_grow place m fact t.1 k r.2.nodes) in
      let mine : method_of P m fact (length r.2.nodes) o ≡ r.0 = sym r.2.is in
      let types : map code_type fact.params ≡ map entry_type e.params = ap (λ (ts : List Static). map code_type ts) params ∙ types_are e.params in
      let same : nat_eq fact.class F.main.class ≡ true = ap (λ c. nat_eq c F.main.class) class ∙ same_number F.main.class in
      record {
        method = r.0;
        is = ap (numbered made.methods) n ∙ r.1;
        entry = ap (λ (x : CodeMethod). x.entry) r.2.is ∙ both_true (is_public m.access) (nat_eq fact.class F.main.class) (public m (ap (by_number ms) n ∙ t.1)) same;
        params = ap (λ (x : CodeMethod). x.params) r.2.is ∙ ap length params ∙ length-map e.params inner_type;
        behind = s.0;
        slots = ap (λ (x : CodeMethod). x.slots) r.2.is ∙ s.1 ∙ (λ i. ty.Object (class i) ∷ (types i ++ s.0));
        gives = ap (λ (x : CodeMethod). x.gives) r.2.is ∙ ap code_result result ∙ entry_gives e.gives;
      }

pub lowered_is_typed : LoweredIsTyped
lowered_is_typed P source used = code_typed P source used

pub entries_are_methods : EntriesAreMethods
entries_are_methods P source used public place e h =
    let t = source.entries place e h in
    number_entry P source used e e.method refl t.fact t.fact_is t.class t.params t.result (λ m k. public place e m h k)
