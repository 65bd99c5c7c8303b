-- The derived order of edges, and that it tells edges apart.
use Rattle.std.proofs.Common.{◌≡◌, ℕ, refl, ap, ◌∙◌}
use Rattle.std.specs.declared.cmp.Ordering.{Ordering}
use Rattle.std.specs.declared.cmp.Ordering.TheVariants.{Equal}
use Rattle.std.specs.Ordering.{nat_cmp, ordering_then}
use Rattle.px_flow_points.specs.declared.part.Part.{Part}
use Rattle.px_flow_points.specs.declared.part.Part.TheVariants.{Field, Elements}
use Rattle.px_flow_points.proofs.Ordered.{then_first, then_second, same_number, same_part}
use Rattle.px_depend.specs.declared.edge.End.{End}
use Rattle.px_depend.specs.declared.edge.End.TheVariants as end
use Rattle.px_depend.specs.declared.edge.Tie.{Tie}
use Rattle.px_depend.specs.declared.edge.Tie.TheVariants as tie
use Rattle.px_depend.specs.declared.edge.Edge.{Edge}
use Rattle.px_depend.specs.contracts.edge.EdgeOrd.TheImpl.{cmp-value as edge_value}
use Rattle.px_depend.specs.contracts.edge.EndOrd.TheImpl.{cmp-value as end_value}
use Rattle.px_depend.specs.contracts.edge.TieOrd.TheImpl.{cmp-value as tie_value}
use Rattle.px_depend.specs.Depend.{edge}
use Rattle.px_depend.specs.Order.{end_cmp, tie_cmp, edge_cmp}

same_end : (a b : End) → end_cmp a b ≡ Equal → a ≡ b
same_end end.App end.App h = refl
same_end end.App end.Db h = cc
same_end end.App (end.Node y) h = cc
same_end end.Db end.App h = cc
same_end end.Db end.Db h = refl
same_end end.Db (end.Node y) h = cc
same_end (end.Node x) end.App h = cc
same_end (end.Node x) end.Db h = cc
same_end (end.Node x) (end.Node y) h = ap (λ (z : ℕ). end.Node z) (same_number x y h)

same_tie : (a b : Tie) → tie_cmp a b ≡ Equal → a ≡ b
same_tie tie.Held tie.Held h = refl
same_tie tie.Held tie.Enters h = cc
same_tie tie.Held (tie.Slot y) h = cc
same_tie tie.Held (tie.Argument y) h = cc
same_tie tie.Held tie.Result h = cc
same_tie tie.Held (tie.Part y) h = cc
same_tie tie.Held tie.Home h = cc
same_tie tie.Enters tie.Held h = cc
same_tie tie.Enters tie.Enters h = refl
same_tie tie.Enters (tie.Slot y) h = cc
same_tie tie.Enters (tie.Argument y) h = cc
same_tie tie.Enters tie.Result h = cc
same_tie tie.Enters (tie.Part y) h = cc
same_tie tie.Enters tie.Home h = cc
same_tie (tie.Slot x) tie.Held h = cc
same_tie (tie.Slot x) tie.Enters h = cc
same_tie (tie.Slot x) (tie.Slot y) h = ap (λ (z : ℕ). tie.Slot z) (same_number x y h)
same_tie (tie.Slot x) (tie.Argument y) h = cc
same_tie (tie.Slot x) tie.Result h = cc
same_tie (tie.Slot x) (tie.Part y) h = cc
same_tie (tie.Slot x) tie.Home h = cc
same_tie (tie.Argument x) tie.Held h = cc
same_tie (tie.Argument x) tie.Enters h = cc
same_tie (tie.Argument x) (tie.Slot y) h = cc
same_tie (tie.Argument x) (tie.Argument y) h = ap (λ (z : ℕ). tie.Argument z) (same_number x y h)
same_tie (tie.Argument x) tie.Result h = cc
same_tie (tie.Argument x) (tie.Part y) h = cc
same_tie (tie.Argument x) tie.Home h = cc
same_tie tie.Result tie.Held h = cc
same_tie tie.Result tie.Enters h = cc
same_tie tie.Result (tie.Slot y) h = cc
same_tie tie.Result (tie.Argument y) h = cc
same_tie tie.Result tie.Result h = refl
same_tie tie.Result (tie.Part y) h = cc
same_tie tie.Result tie.Home h = cc
same_tie (tie.Part x) tie.Held h = cc
same_tie (tie.Part x) tie.Enters h = cc
same_tie (tie.Part x) (tie.Slot y) h = cc
same_tie (tie.Part x) (tie.Argument y) h = cc
same_tie (tie.Part x) tie.Result h = cc
same_tie (tie.Part x) (tie.Part y) h = ap (λ (z : Part). tie.Part z) (same_part x y h)
same_tie (tie.Part x) tie.Home h = cc
same_tie tie.Home tie.Held h = cc
same_tie tie.Home tie.Enters h = cc
same_tie tie.Home (tie.Slot y) h = cc
same_tie tie.Home (tie.Argument y) h = cc
same_tie tie.Home tie.Result h = cc
same_tie tie.Home (tie.Part y) h = cc
same_tie tie.Home tie.Home h = refl

pub same_edge : (a b : Edge) → edge_cmp a b ≡ Equal → a ≡ b
same_edge a b h =
    let r = then_second (end_cmp a.from b.from) (ordering_then (nat_cmp a.to b.to) (ordering_then (tie_cmp a.tie b.tie) (nat_cmp a.size b.size))) h in
    let q = then_second (nat_cmp a.to b.to) (ordering_then (tie_cmp a.tie b.tie) (nat_cmp a.size b.size)) r in
    let f = same_end a.from b.from (then_first (end_cmp a.from b.from) (ordering_then (nat_cmp a.to b.to) (ordering_then (tie_cmp a.tie b.tie) (nat_cmp a.size b.size))) h) in
    let t = same_number a.to b.to (then_first (nat_cmp a.to b.to) (ordering_then (tie_cmp a.tie b.tie) (nat_cmp a.size b.size)) r) in
    let i = same_tie a.tie b.tie (then_first (tie_cmp a.tie b.tie) (nat_cmp a.size b.size) q) in
    let s = same_number a.size b.size (then_second (tie_cmp a.tie b.tie) (nat_cmp a.size b.size) q) in
    ap (λ (z : End). edge z a.to a.tie a.size) f ∙ ap (λ (z : ℕ). edge b.from z a.tie a.size) t ∙ ap (λ (z : Tie). edge b.from b.to z a.size) i ∙ ap (λ (z : ℕ). edge b.from b.to b.tie z) s

-- ---- the derived orders are these

derived_end : (a b : End) → end_value.it a b ≡ end_cmp a b
derived_end end.App end.App = refl
derived_end end.App end.Db = refl
derived_end end.App (end.Node y) = refl
derived_end end.Db end.App = refl
derived_end end.Db end.Db = refl
derived_end end.Db (end.Node y) = refl
derived_end (end.Node x) end.App = refl
derived_end (end.Node x) end.Db = refl
derived_end (end.Node x) (end.Node y) = refl

derived_tie : (a b : Tie) → tie_value.it a b ≡ tie_cmp a b
derived_tie tie.Held tie.Held = refl
derived_tie tie.Held tie.Enters = refl
derived_tie tie.Held (tie.Slot b) = refl
derived_tie tie.Held (tie.Argument b) = refl
derived_tie tie.Held tie.Result = refl
derived_tie tie.Held (tie.Part b) = refl
derived_tie tie.Held tie.Home = refl
derived_tie tie.Enters tie.Held = refl
derived_tie tie.Enters tie.Enters = refl
derived_tie tie.Enters (tie.Slot b) = refl
derived_tie tie.Enters (tie.Argument b) = refl
derived_tie tie.Enters tie.Result = refl
derived_tie tie.Enters (tie.Part b) = refl
derived_tie tie.Enters tie.Home = refl
derived_tie (tie.Slot a) tie.Held = refl
derived_tie (tie.Slot a) tie.Enters = refl
derived_tie (tie.Slot a) (tie.Slot b) = refl
derived_tie (tie.Slot a) (tie.Argument b) = refl
derived_tie (tie.Slot a) tie.Result = refl
derived_tie (tie.Slot a) (tie.Part b) = refl
derived_tie (tie.Slot a) tie.Home = refl
derived_tie (tie.Argument a) tie.Held = refl
derived_tie (tie.Argument a) tie.Enters = refl
derived_tie (tie.Argument a) (tie.Slot b) = refl
derived_tie (tie.Argument a) (tie.Argument b) = refl
derived_tie (tie.Argument a) tie.Result = refl
derived_tie (tie.Argument a) (tie.Part b) = refl
derived_tie (tie.Argument a) tie.Home = refl
derived_tie tie.Result tie.Held = refl
derived_tie tie.Result tie.Enters = refl
derived_tie tie.Result (tie.Slot b) = refl
derived_tie tie.Result (tie.Argument b) = refl
derived_tie tie.Result tie.Result = refl
derived_tie tie.Result (tie.Part b) = refl
derived_tie tie.Result tie.Home = refl
derived_tie (tie.Part a) tie.Held = refl
derived_tie (tie.Part a) tie.Enters = refl
derived_tie (tie.Part a) (tie.Slot b) = refl
derived_tie (tie.Part a) (tie.Argument b) = refl
derived_tie (tie.Part a) tie.Result = refl
derived_tie (tie.Part (Field a)) (tie.Part (Field b)) = refl
derived_tie (tie.Part (Field a)) (tie.Part Elements) = refl
derived_tie (tie.Part Elements) (tie.Part (Field b)) = refl
derived_tie (tie.Part Elements) (tie.Part Elements) = refl
derived_tie (tie.Part a) tie.Home = refl
derived_tie tie.Home tie.Held = refl
derived_tie tie.Home tie.Enters = refl
derived_tie tie.Home (tie.Slot b) = refl
derived_tie tie.Home (tie.Argument b) = refl
derived_tie tie.Home tie.Result = refl
derived_tie tie.Home (tie.Part b) = refl
derived_tie tie.Home tie.Home = refl

pub derived : (a b : Edge) → edge_value.it a b ≡ edge_cmp a b
derived a b =
    ap (λ (z : Ordering). ordering_then z (ordering_then (nat_cmp a.to b.to) (ordering_then (tie_value.it a.tie b.tie) (nat_cmp a.size b.size)))) (derived_end a.from b.from)
    ∙ ap (λ (z : Ordering). ordering_then (end_cmp a.from b.from) (ordering_then (nat_cmp a.to b.to) (ordering_then z (nat_cmp a.size b.size)))) (derived_tie a.tie b.tie)
