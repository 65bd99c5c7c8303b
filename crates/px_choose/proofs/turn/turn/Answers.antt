use Rattle.std.proofs.Common.{◌≡◌, ℕ, ◌+◌, ◌-◌, List, true, length, unwrap_or, ap, sym, refl, ◌∙◌, arith}
use Rattle.px_code.specs.declared.side.Side.{Side}
use Rattle.px_code.specs.Places.{numbered, other, side_of}
use Rattle.px_graph.specs.Costs.{cost_of}
use Rattle.px_graph.proofs.Sums.{cost_le}
use Rattle.px_choose.specs.Placements.{is_free, set_number, flipped}
use Rattle.px_choose.specs.Sums.{free_load}
use Rattle.px_choose.specs.Gains.{edges_at, turned}
use Rattle.px_choose.proofs.Fitting.{small_loads}
use Rattle.px_choose.proofs.Steps.{is_low, cut_after, cost_after, cut_le_cost, turn_kept}
use Rattle.px_choose.proofs.turn.turn.Goals as goal

pub load_after-load-requires-clause-counts : goal.load_after-load-requires-clause-counts
load_after-load-requires-clause-counts c = small_loads c.args.graph.now c.args.pins.now c.requires.problem

pub load_after-load-requires-clause-within : goal.load_after-load-requires-clause-within
load_after-load-requires-clause-within c =
    let free : is_free c.args.pins.now c.args.node ≡ true = sym c.is_free.ensures ∙ c.if-not-is_free.false in
    let a = is_low c.args.graph.now c.args.pins.now c.args.links.now c.args.state.now c.args.node c.requires.kept c.requires.linked free in
    let b : length c.as_slice.result.now ≡ length c.args.state.now.sides.items = ap (λ (xs : List Side). length xs) c.as_slice.ensures.value in
    omega (arith, a, b)

pub spread-requires-clause-within : goal.spread-requires-clause-within
spread-requires-clause-within c =
    let free : is_free c.args.pins.now c.args.node ≡ true = sym c.is_free.ensures ∙ c.if-not-is_free.false in
    let a = is_low c.args.graph.now c.args.pins.now c.args.links.now c.args.state.now c.args.node c.requires.kept c.requires.linked free in
    let b : length c.as_slice-3.result.now ≡ length c.args.state.now.sides.items = ap (λ (xs : List Side). length xs) c.as_slice-3.ensures.value in
    omega (arith, a, b)

pub overflow_sub-after : goal.overflow_sub-after
overflow_sub-after c =
    let free : is_free c.args.pins.now c.args.node ≡ true = sym c.is_free.ensures ∙ c.if-not-is_free.false in
    let w : c.sum_at-whole.result ≡ unwrap_or (numbered c.args.links.now.wholes.items c.args.node) 0 = c.sum_at-whole.ensures ∙ ap (λ (xs : List ℕ). unwrap_or (numbered xs c.args.node) 0) c.as_slice-5.ensures.value in
    let d : c.sum_at-cut.result ≡ unwrap_or (numbered c.args.state.now.cuts.items c.args.node) 0 = c.sum_at-cut.ensures ∙ ap (λ (xs : List ℕ). unwrap_or (numbered xs c.args.node) 0) c.as_slice-4.ensures.value ∙ ap (λ o. unwrap_or o 0) c.spread.ensures.here in
    let x = cut_after c.args.graph.now c.args.pins.now c.args.links.now c.args.state.now c.args.node c.requires.kept c.requires.linked free c.sum_at-whole.result c.sum_at-cut.result w d in
    omega (arith, x)

pub overflow_sub-state : goal.overflow_sub-state
overflow_sub-state c =
    let free : is_free c.args.pins.now c.args.node ≡ true = sym c.is_free.ensures ∙ c.if-not-is_free.false in
    let w : c.sum_at-whole.result ≡ unwrap_or (numbered c.args.links.now.wholes.items c.args.node) 0 = c.sum_at-whole.ensures ∙ ap (λ (xs : List ℕ). unwrap_or (numbered xs c.args.node) 0) c.as_slice-5.ensures.value in
    let d : c.sum_at-cut.result ≡ unwrap_or (numbered c.args.state.now.cuts.items c.args.node) 0 = c.sum_at-cut.ensures ∙ ap (λ (xs : List ℕ). unwrap_or (numbered xs c.args.node) 0) c.as_slice-4.ensures.value ∙ ap (λ o. unwrap_or o 0) c.spread.ensures.here in
    let x = cut_le_cost c.args.graph.now c.args.pins.now c.args.links.now c.args.state.now c.args.node c.requires.kept c.requires.linked free c.sum_at-whole.result c.sum_at-cut.result w d in
    let k = c.requires.kept.cost in
    omega (arith, x, k)

pub overflow_add-state : goal.overflow_add-state
overflow_add-state c =
    let free : is_free c.args.pins.now c.args.node ≡ true = sym c.is_free.ensures ∙ c.if-not-is_free.false in
    let w : c.sum_at-whole.result ≡ unwrap_or (numbered c.args.links.now.wholes.items c.args.node) 0 = c.sum_at-whole.ensures ∙ ap (λ (xs : List ℕ). unwrap_or (numbered xs c.args.node) 0) c.as_slice-5.ensures.value in
    let d : c.sum_at-cut.result ≡ unwrap_or (numbered c.args.state.now.cuts.items c.args.node) 0 = c.sum_at-cut.ensures ∙ ap (λ (xs : List ℕ). unwrap_or (numbered xs c.args.node) 0) c.as_slice-4.ensures.value ∙ ap (λ o. unwrap_or o 0) c.spread.ensures.here in
    let x = cost_after c.args.graph.now c.args.pins.now c.args.links.now c.args.state.now c.args.node c.requires.kept c.requires.linked free c.sum_at-whole.result c.sum_at-cut.result w d in
    let z = cut_le_cost c.args.graph.now c.args.pins.now c.args.links.now c.args.state.now c.args.node c.requires.kept c.requires.linked free c.sum_at-whole.result c.sum_at-cut.result w d in
    let k = c.requires.kept.cost in
    let y = cost_le c.args.graph.now.edges (flipped c.args.pins.now c.args.node c.args.state.now.sides.items) in
    let b = c.requires.problem.weights in
    omega (arith, x, z, k, y, b)

pub returns-clause-kept : goal.returns-clause-kept
returns-clause-kept c =
    let p : List Side = c.args.state.now.sides.items in
    let free : is_free c.args.pins.now c.args.node ≡ true = sym c.is_free.ensures ∙ c.if-not-is_free.false in
    let w : c.sum_at-whole.result ≡ unwrap_or (numbered c.args.links.now.wholes.items c.args.node) 0 = c.sum_at-whole.ensures ∙ ap (λ (xs : List ℕ). unwrap_or (numbered xs c.args.node) 0) c.as_slice-5.ensures.value in
    let d : c.sum_at-cut.result ≡ unwrap_or (numbered c.spread.new.cuts.items c.args.node) 0 = c.sum_at-cut.ensures ∙ ap (λ (xs : List ℕ). unwrap_or (numbered xs c.args.node) 0) c.as_slice-4.ensures.value in
    let s : c.other_side-side.result ≡ other (side_of p c.args.node) = c.other_side-side.ensures ∙ ap other c.side_at.ensures ∙ ap (λ (r : List Side). other (side_of r c.args.node)) c.as_slice-2.ensures.value in
    let t : c.set_side.new.sides.items ≡ turned c.args.node p = c.set_side.ensures ∙ ap (λ (x : Side). set_number p c.args.node x) s in
    let l : c.load_after-load.result ≡ free_load c.args.graph.now c.args.pins.now (flipped c.args.pins.now c.args.node p) = c.load_after-load.ensures ∙ ap (λ (r : List Side). free_load c.args.graph.now c.args.pins.now (flipped c.args.pins.now c.args.node r)) c.as_slice.ensures.value in
    turn_kept c.args.graph.now c.args.pins.now c.args.links.now c.args.state.now record { sides = c.set_side.new.sides; cuts = c.set_sum.new.sums; load = c.load_after-load.result; cost = c.args.state.now.cost - c.sum_at-cut.result + (c.sum_at-whole.result - c.sum_at-cut.result) } c.args.node c.requires.kept c.requires.linked free c.spread.new.cuts.items c.sum_at-whole.result c.sum_at-cut.result c.spread.ensures.size c.spread.ensures.here (λ m e h k. c.spread.ensures.near m e h k ∙ ap (λ (r : List Side). cost_of (edges_at m c.args.graph.now.edges) (turned c.args.node r)) c.as_slice-3.ensures.value) d w t c.set_sum.ensures l refl
