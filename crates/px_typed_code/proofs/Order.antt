-- Nodes are numbered in the order of the code.
use Rattle.std.proofs.Common.{◌≡◌, ℕ, suc, ◌+◌, List, [], ◌∷◌, ◌++◌, append-nil, append_assoc, length, length-append, map, Some, None, slice_get, refl, sym, ap, ◌∙◌, subst, arith}
use Rattle.px_value.specs.declared.header.Kind.{Kind}
use Rattle.px_value.specs.declared.header.Kind.TheVariants as kind
use Rattle.px_tree.specs.declared.Class.{Class}
use Rattle.px_tree.specs.declared.Member.{Member}
use Rattle.px_tree.specs.declared.Member.TheVariants as member
use Rattle.px_tree.specs.declared.Method.{Method}
use Rattle.px_facts.specs.declared.types.Ty.{Ty as Static}
use Rattle.px_facts.specs.declared.checked.Checked.{Checked}
use Rattle.px_facts.specs.declared.checked.ClassFact.{ClassFact}
use Rattle.px_facts.specs.declared.checked.MethodFact.{MethodFact}
use Rattle.px_mean.specs.Program.{source_from}
use Rattle.px_mean.specs.Typing.{IsTyped as IsTypedSource}
use Rattle.px_normal.specs.declared.node.Node.{Node}
use Rattle.px_normal.specs.declared.code.Site.{Site}
use Rattle.px_lowering.specs.declared.allocations.Allocation.{Allocation}
use Rattle.px_lowering.specs.Programs.{method_node, lowered_body, lowered_methods, field_node, lowered_fields, lowered_classes, site, site_node, with_site, lowered_sites, lowered}
use Rattle.px_typed_code.specs.Laws.{AreUsedWell}
use Rattle.px_typed_code.specs.Nodes as nodes
use Rattle.px_typed_code.specs.Nodes.{joined, all_nodes, method_nodes, class_nodes, field_nodes, if_any, node_of, site_nodes, count_up, NodesInOrder}
use Rattle.px_typed_code.proofs.Counted.{IsCounted, counted_then, counted_none, counted_first, counted_by}
use Rattle.px_typed_code.proofs.Skeleton.{bare, bare_is}
use Rattle.px_typed_code.proofs.Programs as programs

module _ (P : Checked) where
  -- each body's nodes are in order, behind that of its method
  abbrev BodiesCounted : ℕ → List Method → List MethodFact → Type 0
  BodiesCounted number ms facts = (place : ℕ) (m : Method) (fact : MethodFact) → slice_get ms place ≡ Some m → slice_get facts place ≡ Some fact → (nodes : List Node) → IsCounted (length nodes + 1) ((length nodes + 1) ∷ all_nodes (lowered_body P (number + place) m fact nodes).trees) (length (lowered_body P (number + place) m fact nodes).nodes)

  methods_counted : (number : ℕ) (ms : List Method) (facts : List MethodFact) (nodes : List Node) → BodiesCounted number ms facts → IsCounted (length nodes + 1) (method_nodes (lowered_methods P number ms facts nodes).methods) (length (lowered_methods P number ms facts nodes).nodes)
  methods_counted number [] facts nodes h = counted_none (length nodes)
  methods_counted number (m ∷ ms) [] nodes h = counted_none (length nodes)
  methods_counted number (m ∷ ms) (fact ∷ facts) nodes h =
      let e : number + 0 ≡ number = omega arith in
      let o = lowered_body P number m fact nodes in
      let first : IsCounted (length nodes + 1) ((length nodes + 1) ∷ all_nodes o.trees) (length o.nodes) = subst (λ i. IsCounted (length nodes + 1) ((length nodes + 1) ∷ all_nodes (lowered_body P i m fact nodes).trees) (length (lowered_body P i m fact nodes).nodes)) e (h 0 m fact refl refl nodes) in
      let rest = methods_counted (number + 1) ms facts o.nodes (λ place n f j k nodes.
      let q : number + suc place ≡ number + 1 + place = omega arith in
      subst (λ i. IsCounted (length nodes + 1) ((length nodes + 1) ∷ all_nodes (lowered_body P i n f nodes).trees) (length (lowered_body P i n f nodes).nodes)) q (h (suc place) n f j k nodes)) in
      counted_then (length nodes + 1) (length o.nodes) _ _ _ first rest

  fields_counted : (ms : List Member) (types : List Static) (before : List Node) → IsCounted (length before + 1) (map nodes.field_node (lowered_fields P ms types before).fields) (length (lowered_fields P ms types before).nodes)
  fields_counted [] types before = counted_none (length before)
  fields_counted (member.Method m ∷ ms) types before = fields_counted ms types before
  fields_counted (member.Field f ∷ ms) [] before = counted_none (length before)
  fields_counted (member.Field f ∷ ms) (t ∷ types) before =
      let more = before ++ field_node P f ∷ [] in
      counted_first (length before) (length more) _ _ (length-append before (field_node P f ∷ [])) (fields_counted ms types more)

  classes_counted : (cs : List Class) (facts : List ClassFact) (before : List Node) → IsCounted (length before + 1) (class_nodes (lowered_classes P cs facts before).classes) (length (lowered_classes P cs facts before).nodes)
  classes_counted [] facts before = counted_none (length before)
  classes_counted (c ∷ cs) [] before = counted_none (length before)
  classes_counted (c ∷ cs) (fact ∷ facts) before =
      let f = lowered_fields P c.members fact.fields before in
      counted_then (length before + 1) (length f.nodes) _ _ _ (fields_counted c.members fact.fields before) (classes_counted cs facts f.nodes)

  site_next : (sites : List Site) (s : Site) → site_nodes (sites ++ s ∷ []) ≡ site_nodes sites ++ node_of s
  site_next [] s = append-nil (node_of s)
  site_next (x ∷ sites) s = ap (λ (ks : List ℕ). node_of x ++ ks) (site_next sites s) ∙ sym (append_assoc (node_of x) (site_nodes sites) (node_of s))

  element_counted : (a : Allocation) (k : Kind) (before : List Node) (sites : List Site) (first : ℕ) → IsCounted first (site_nodes sites) (length before) → IsCounted first (site_nodes (sites ++ site k (Some (length before + 1)) ∷ [])) (length (before ++ site_node P a ∷ []))
  element_counted a k before sites first h =
      let more = before ++ site_node P a ∷ [] in
      counted_by first (length more) _ _ (site_next sites (site k (Some (length before + 1))))
      (counted_then first (length before) (length more) (site_nodes sites) _ h (counted_first (length before) (length more) (length more) [] (length-append before (site_node P a ∷ [])) (counted_none (length more))))

  site_counted : (a : Allocation) (k : Kind) (before : List Node) (sites : List Site) (first : ℕ) → IsCounted first (site_nodes sites) (length before) → IsCounted first (site_nodes (with_site P a k before sites).sites) (length (with_site P a k before sites).nodes)
  site_counted a (kind.Object class) before sites first h = counted_by first (length before) _ _ (site_next sites (site (kind.Object class) None) ∙ append-nil (site_nodes sites)) h
  site_counted a (kind.Array element) before sites first h = element_counted a (kind.Array element) before sites first h
  site_counted a (kind.Rows number) before sites first h = element_counted a (kind.Rows number) before sites first h

  sites_counted : (found : List Allocation) (before : List Node) (sites : List Site) (first : ℕ) → IsCounted first (site_nodes sites) (length before) → IsCounted first (site_nodes (lowered_sites P found before sites).sites) (length (lowered_sites P found before sites).nodes)
  sites_counted [] before sites first h = h
  sites_counted (a ∷ found) before sites first h = let s = with_site P a a.kind before sites in sites_counted found s.nodes s.sites first (site_counted a a.kind before sites first h)

module _ (P : Checked) (source : IsTypedSource (source_from P)) (used : AreUsedWell P) where
  bodies_counted : BodiesCounted P 1 (programs.ms P source used) P.facts.methods
  bodies_counted place m fact h k nodes =
      let b = programs.fine P source used (bare P) (bare_is P source used) (1 + place) place m fact h k nodes in
      let first = nodes ++ method_node P (1 + place) m ∷ [] in
      counted_first (length nodes) (length first) _ _ (length-append nodes (method_node P (1 + place) m ∷ [])) (b.goes.order (length first + 1) (counted_none (length first)))

  in_order : method_nodes (lowered P).methods ++ (class_nodes (lowered P).classes ++ site_nodes (lowered P).sites) ≡ count_up 1 (length (lowered P).nodes)
  unfolding lowered
  in_order =
      let made = programs.made P source used in
      let kinds = programs.kinds P source used in
      let places = programs.places P source used in
      let methods : IsCounted 1 (method_nodes made.methods) (length made.nodes) = methods_counted P 1 (programs.ms P source used) P.facts.methods [] bodies_counted in
      let fields = classes_counted P P.program.classes P.facts.classes made.nodes in
      let sites = sites_counted P (programs.found P source used) kinds.nodes [] (length kinds.nodes + 1) (counted_none (length kinds.nodes)) in
      let all = counted_then 1 (length made.nodes) (length places.nodes) (method_nodes made.methods) _ methods (counted_then (length made.nodes + 1) (length kinds.nodes) (length places.nodes) (class_nodes kinds.classes) (site_nodes places.sites) fields sites) in
      let many : all.many ≡ length places.nodes = omega (arith, all.ends) in
      all.are ∙ ap (count_up 1) many

pub nodes_are_in_order : NodesInOrder
nodes_are_in_order P source used = in_order P source used
