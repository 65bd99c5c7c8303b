use Rattle.std.proofs.Common.{◌≡◌, ℕ, [], List, length, replicate, ap, sym, ◌∙◌, subst}
use Rattle.px_graph.specs.declared.edge.Edge.{Edge}
use Rattle.px_choose.specs.Gains.{with_edges}
use Rattle.px_choose.proofs.Listing.{built, own_size}
use Rattle.px_choose.specs.Kept.{AreLists, AreWholes}
use Rattle.px_choose.proofs.links.link.Goals as goal

pub wholes-requires-clause-lists : goal.wholes-requires-clause-lists
wholes-requires-clause-lists c =
    let a : c.add_all.new.lists.items ≡ with_edges c.args.graph.now.edges (replicate (length c.args.pins.now) []) = c.in_ok-add_all.ensures ∙ ap (λ (es : List Edge). with_edges es c.in_ok-lists.lists.items) c.as_slice.ensures ∙ ap (λ (ess : List (List Edge)). with_edges c.args.graph.now.edges ess) c.in_ok-lists.ensures in
    let x = built c.args.graph.now.edges (length c.args.pins.now) c.add_all.new.lists.items a in
    let y = own_size c.args.graph.now.edges (length c.args.pins.now) c.add_all.new.lists.items x in
    subst (λ (es : List Edge). AreLists es (length c.as_slice-3.result.now) c.as_slice-3.result.now) (sym c.as_slice-2.ensures) (subst (λ (r : List (List Edge)). AreLists c.args.graph.now.edges (length r) r) (sym c.as_slice-3.ensures.value) y)

pub returns : goal.returns
returns c =
    let a : c.add_all.new.lists.items ≡ with_edges c.args.graph.now.edges (replicate (length c.args.pins.now) []) = c.in_ok-add_all.ensures ∙ ap (λ (es : List Edge). with_edges es c.in_ok-lists.lists.items) c.as_slice.ensures ∙ ap (λ (ess : List (List Edge)). with_edges c.args.graph.now.edges ess) c.in_ok-lists.ensures in
    let x = built c.args.graph.now.edges (length c.args.pins.now) c.add_all.new.lists.items a in
    let size : length c.as_slice-3.result.now ≡ length c.args.pins.now = ap (λ (r : List (List Edge)). length r) c.as_slice-3.ensures.value ∙ x.length in
    record {
      lists = x;
      wholes = subst (λ (k : ℕ). AreWholes c.args.graph.now.edges k c.in_ok-sums.sums.items) size (subst (λ (es : List Edge). AreWholes es (length c.as_slice-3.result.now) c.in_ok-sums.sums.items) c.as_slice-2.ensures c.in_ok-sums.ensures);
    }
