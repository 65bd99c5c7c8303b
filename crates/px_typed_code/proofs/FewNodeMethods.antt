-- A program's code has few nodes.
use Rattle.std.proofs.Common.{◌≡◌, ℕ, suc, ◌+◌, ◌≤◌, Bool, true, false, List, [], ◌∷◌, ◌++◌, length, length-append, Option, Some, None, slice_get, refl, sym, ap, ◌∙◌, subst, arith}
use Rattle.px_value.specs.declared.header.Kind.{Kind}
use Rattle.px_value.specs.declared.header.Kind.TheVariants as kind
use Rattle.px_tree.specs.declared.Class.{Class}
use Rattle.px_tree.specs.declared.Member.{Member}
use Rattle.px_tree.specs.declared.Member.TheVariants as member
use Rattle.px_tree.specs.declared.Method.{Method}
use Rattle.px_facts.specs.declared.types.Ty.{Ty as Static}
use Rattle.px_facts.specs.declared.checked.Checked.{Checked}
use Rattle.px_facts.specs.declared.checked.Facts.{Facts}
use Rattle.px_facts.specs.declared.checked.ClassFact.{ClassFact}
use Rattle.px_facts.specs.declared.checked.MethodFact.{MethodFact}
use Rattle.px_mean.specs.Program.{methods_of}
use Rattle.px_mean.specs.Typing.{IsTypedMethod}
use Rattle.px_normal.specs.declared.node.Node.{Node}
use Rattle.px_normal.specs.declared.node.Counter.TheVariants.{ReachedEnd}
use Rattle.px_normal.specs.declared.word.Word.TheVariants as w
use Rattle.px_normal.specs.declared.code.Site.{Site}
use Rattle.px_lowering.specs.declared.draft.Draft.{Draft}
use Rattle.px_lowering.specs.declared.allocations.Allocation.{Allocation}
use Rattle.px_lowering.specs.Allocations.{in_statement}
use Rattle.px_lowering.specs.Statements.{completes, low_stmt}
use Rattle.px_lowering.specs.Programs.{begun, ended, method_node, lowered_body, lowered_methods, field_node, lowered_fields, lowered_classes, allocations, site_node, with_site, lowered_sites, lowered}
use Rattle.px_preservation.specs.Laws.{fields_in}
use Rattle.px_typed_code.specs.Sizes.{size, all_sizes, all_fields, fourfold, FewNodes}
use Rattle.px_typed_code.proofs.FewNodes as few
use Rattle.px_typed_code.proofs.FewNodes.{count}
use Rattle.px_typed_code.proofs.FewNodeStatements.{few_statement}
use Rattle.px_typed_code.proofs.FewAllocations.{statement_makes_few}

some_is : {A : Type 0} (a b : A) → Some a ≡ Some b → a ≡ b
some_is {A} a b e = ap (λ (x : Option A). elim x [ Some y ↦ y | None ↦ a ]) e

module _ (P : Checked) where
  -- ---- methods

  ended_count : (m : Method) (b : Bool) (o : Draft) → count (ended P m b o) ≤ count o + 1
  ended_count m true o = omega (arith, few.emitted_count P (w.Return None) m.name.token (ReachedEnd o.method) o)
  ended_count m false o = omega arith

  body_few : (number : ℕ) (m : Method) (fact : MethodFact) (nodes : List Node) → IsTypedMethod P.facts m fact → count (lowered_body P number m fact nodes) ≤ length nodes + (2 + fourfold (size m.body))
  body_few number m fact nodes t =
      let o = begun P number m fact nodes in
      omega (arith, length-append nodes (method_node P number m ∷ []), few_statement P fact.slots fact.result t.completes m.body t.body o, ended_count m (completes m.body) (low_stmt P fact.result m.body o))

  -- each is typed by its fact
  abbrev AreTyped : List Method → List MethodFact → Type 0
  AreTyped ms facts = (place : ℕ) (m : Method) (fact : MethodFact) → slice_get ms place ≡ Some m → slice_get facts place ≡ Some fact → IsTypedMethod P.facts m fact

  methods_few : (number : ℕ) (ms : List Method) (facts : List MethodFact) (nodes : List Node) → AreTyped ms facts → length (lowered_methods P number ms facts nodes).nodes ≤ length nodes + ((length ms + length ms) + fourfold (all_sizes ms))
  methods_few number [] facts nodes t = omega arith
  methods_few number (m ∷ ms) [] nodes t = omega arith
  methods_few number (m ∷ ms) (fact ∷ facts) nodes t =
      let o = lowered_body P number m fact nodes in
      omega (arith, body_few number m fact nodes (t 0 m fact refl refl), methods_few (number + 1) ms facts o.nodes (λ place n f h k. t (suc place) n f h k))

  -- ---- fields

  fields_few : (ms : List Member) (types : List Static) (nodes : List Node) → length (lowered_fields P ms types nodes).nodes ≤ length nodes + length (fields_in ms)
  fields_few [] types nodes = omega arith
  fields_few (member.Method m ∷ ms) types nodes = fields_few ms types nodes
  fields_few (member.Field f ∷ ms) [] nodes = omega arith
  fields_few (member.Field f ∷ ms) (t ∷ types) nodes = omega (arith, fields_few ms types (nodes ++ field_node P f ∷ []), length-append nodes (field_node P f ∷ []))

  classes_few : (cs : List Class) (facts : List ClassFact) (nodes : List Node) → length (lowered_classes P cs facts nodes).nodes ≤ length nodes + all_fields cs
  classes_few [] facts nodes = omega arith
  classes_few (c ∷ cs) [] nodes = omega arith
  classes_few (c ∷ cs) (fact ∷ facts) nodes = omega (arith, fields_few c.members fact.fields nodes, classes_few cs facts (lowered_fields P c.members fact.fields nodes).nodes)

  -- ---- sites

  site_few : (a : Allocation) (k : Kind) (nodes : List Node) (sites : List Site) → length (with_site P a k nodes sites).nodes ≤ length nodes + 1
  site_few a (kind.Object class) nodes sites = omega arith
  site_few a (kind.Array element) nodes sites = omega (arith, length-append nodes (site_node P a ∷ []))
  site_few a (kind.Rows number) nodes sites = omega (arith, length-append nodes (site_node P a ∷ []))

  sites_few : (found : List Allocation) (nodes : List Node) (sites : List Site) → length (lowered_sites P found nodes sites).nodes ≤ length nodes + length found
  sites_few [] nodes sites = omega arith
  sites_few (a ∷ found) nodes sites =
      let s = with_site P a a.kind nodes sites in
      omega (arith, site_few a a.kind nodes sites, sites_few found s.nodes s.sites)

allocations_few : (F : Facts) (number : ℕ) (ms : List Method) → length (allocations F number ms) ≤ all_sizes ms
allocations_few F number [] = omega arith
allocations_few F number (m ∷ ms) = omega (arith, length-append (in_statement F number m.body) (allocations F (number + 1) ms), statement_makes_few F number m.body, allocations_few F (number + 1) ms)

pub nodes_are_few : FewNodes
unfolding lowered
nodes_are_few P source =
    let ms = methods_of P.program.classes in
    let typed : AreTyped P ms P.facts.methods = λ place m fact h k.
    let t = source.methods (suc place) fact k in
    subst (λ x. IsTypedMethod P.facts x fact) (some_is t.0 m (sym t.1 ∙ h)) t.2 in
    let made = lowered_methods P 1 ms P.facts.methods [] in
    let kinds = lowered_classes P P.program.classes P.facts.classes made.nodes in
    omega (arith, methods_few P 1 ms P.facts.methods [] typed, classes_few P P.program.classes P.facts.classes made.nodes, sites_few P (allocations P.facts 1 ms) kinds.nodes [], allocations_few P.facts 1 ms)
