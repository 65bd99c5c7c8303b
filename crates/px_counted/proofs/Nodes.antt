-- Nodes of fields and of sites come behind those of methods, and are no statements.
use Rattle.std.proofs.Common.{◌≡◌, ℕ, zero, suc, ◌⊎◌, inl, inr, List, [], ◌∷◌, ◌++◌, Some, slice_get, subst}
use Rattle.px_value.specs.declared.header.Kind.{Kind}
use Rattle.px_value.specs.declared.header.Kind.TheVariants as kind
use Rattle.px_tree.specs.declared.Class.{Class}
use Rattle.px_tree.specs.declared.Member.{Member}
use Rattle.px_tree.specs.declared.Member.TheVariants as member
use Rattle.px_facts.specs.declared.types.Ty.{Ty as Static}
use Rattle.px_facts.specs.declared.checked.ClassFact.{ClassFact}
use Rattle.px_facts.specs.declared.checked.Checked.{Checked}
use Rattle.px_mean.specs.Program.{methods_of}
use Rattle.px_normal.specs.declared.node.Node.{Node}
use Rattle.px_normal.specs.declared.node.NodeKind.TheVariants.{Normal}
use Rattle.px_normal.specs.declared.code.Site.{Site}
use Rattle.px_normal.specs.First.{numbered}
use Rattle.px_lowering.specs.declared.allocations.Allocation.{Allocation}
use Rattle.px_lowering.specs.Programs.{lowered_methods, field_node, lowered_fields, lowered_classes, allocations, site_node, with_site, lowered_sites, lowered}

last_or : (xs : List Node) (x : Node) (i : ℕ) (y : Node) → slice_get (xs ++ x ∷ []) i ≡ Some y → (slice_get xs i ≡ Some y) ⊎ (x ≡ y)
last_or [] x zero y h = inr (cc h)
last_or [] x (suc i) y h = absurd (cc h)
last_or (z ∷ xs) x zero y h = inl h
last_or (z ∷ xs) x (suc i) y h = last_or xs x i y h

module _ (k : ℕ) where
  -- a statement's node is already among the old ones
  abbrev pub Back : List Node → List Node → Type 0
  Back old new = (node : Node) → numbered new k ≡ Some node → node.kind ≡ Normal → numbered old k ≡ Some node

  back_one : (xs : List Node) (x : Node) → (x.kind ≡ Normal → ⊥) → Back xs (xs ++ x ∷ [])
  back_one xs x other node at normal = by k at
    where
      by : (k : ℕ) → numbered (xs ++ x ∷ []) k ≡ Some node → numbered xs k ≡ Some node
      by zero at = absurd (cc at)
      by (suc i) at = old (last_or xs x i node at)
        where
          old : (slice_get xs i ≡ Some node) ⊎ (x ≡ node) → slice_get xs i ≡ Some node
          old (inl e) = e
          old (inr e) = absurd (other (subst (λ (y : Node). y.kind ≡ Normal → x.kind ≡ Normal) e (λ h. h) normal))

  module _ (P : Checked) where
    fields_back : (ms : List Member) (types : List Static) (nodes : List Node) → Back nodes (lowered_fields P ms types nodes).nodes
    fields_back [] types nodes node at normal = at
    fields_back (member.Method m ∷ ms) types nodes node at normal = fields_back ms types nodes node at normal
    fields_back (member.Field f ∷ ms) [] nodes node at normal = at
    fields_back (member.Field f ∷ ms) (t ∷ types) nodes node at normal = back_one nodes (field_node P f) (λ e. cc e) node (fields_back ms types (nodes ++ field_node P f ∷ []) node at normal) normal

    classes_back : (cs : List Class) (facts : List ClassFact) (nodes : List Node) → Back nodes (lowered_classes P cs facts nodes).nodes
    classes_back [] facts nodes node at normal = at
    classes_back (c ∷ cs) [] nodes node at normal = at
    classes_back (c ∷ cs) (fact ∷ facts) nodes node at normal = fields_back c.members fact.fields nodes node (classes_back cs facts (lowered_fields P c.members fact.fields nodes).nodes node at normal) normal

    site_back : (a : Allocation) (of : Kind) (nodes : List Node) (before : List Site) → Back nodes (with_site P a of nodes before).nodes
    site_back a (kind.Object class) nodes before node at normal = at
    site_back a (kind.Array element) nodes before node at normal = back_one nodes (site_node P a) (λ e. cc e) node at normal
    site_back a (kind.Rows number) nodes before node at normal = back_one nodes (site_node P a) (λ e. cc e) node at normal

    sites_back : (as' : List Allocation) (nodes : List Node) (before : List Site) → Back nodes (lowered_sites P as' nodes before).nodes
    sites_back [] nodes before node at normal = at
    sites_back (a ∷ more) nodes before node at normal =
        let s = with_site P a a.kind nodes before in
        site_back a a.kind nodes before node (sites_back more s.nodes s.sites node at normal) normal

    -- each statement's node is a method's
    pub methods_back : Back (lowered_methods P 1 (methods_of P.program.classes) P.facts.methods []).nodes (lowered P).nodes
    unfolding lowered
    methods_back node at normal =
        let made = lowered_methods P 1 (methods_of P.program.classes) P.facts.methods [] in
        let kinds = lowered_classes P P.program.classes P.facts.classes made.nodes in
        classes_back P.program.classes P.facts.classes made.nodes node (sites_back (allocations P.facts 1 (methods_of P.program.classes)) kinds.nodes [] node at normal) normal
