use Rattle.std.proofs.Common.{◌≡◌, ℕ, ◌-◌, List, true, length, unwrap_or, ap, sym, ◌∙◌, arith}
use Rattle.std.proofs.lemmas.Bool.{lt-ltb, le-ltb}
use Rattle.px_code.specs.declared.side.Side.{Side}
use Rattle.px_code.specs.Places.{numbered}
use Rattle.px_choose.specs.Placements.{is_free, flipped}
use Rattle.px_choose.specs.Sums.{free_load}
use Rattle.px_choose.proofs.Fitting.{small_loads}
use Rattle.px_choose.proofs.Steps.{is_low, cut_after, better_then, better_else}
use Rattle.px_choose.proofs.flips.is_better_flip.Goals as goal

pub overflow_sub-whole : goal.overflow_sub-whole
overflow_sub-whole c =
    let free : is_free c.args.pins.now c.args.node ≡ true = sym c.is_free.ensures ∙ c.if-not-is_free.false in
    let w : c.sum_at-whole.result ≡ unwrap_or (numbered c.args.links.now.wholes.items c.args.node) 0 = c.sum_at-whole.ensures ∙ ap (λ (xs : List ℕ). unwrap_or (numbered xs c.args.node) 0) c.as_slice-2.ensures.value in
    let d : c.sum_at-cut.result ≡ unwrap_or (numbered c.args.state.now.cuts.items c.args.node) 0 = c.sum_at-cut.ensures ∙ ap (λ (xs : List ℕ). unwrap_or (numbered xs c.args.node) 0) c.as_slice.ensures.value in
    let x = cut_after c.args.graph.now c.args.pins.now c.args.links.now c.args.state.now c.args.node c.requires.kept c.requires.linked free c.sum_at-whole.result c.sum_at-cut.result w d in
    omega (arith, x)

pub load_after-requires-clause-counts : goal.load_after-requires-clause-counts
load_after-requires-clause-counts c = small_loads c.args.graph.now c.args.pins.now c.requires.problem

pub load_after-requires-clause-within : goal.load_after-requires-clause-within
load_after-requires-clause-within c =
    let free : is_free c.args.pins.now c.args.node ≡ true = sym c.is_free.ensures ∙ c.if-not-is_free.false in
    let a = is_low c.args.graph.now c.args.pins.now c.args.links.now c.args.state.now c.args.node c.requires.kept c.requires.linked free in
    let b : length c.as_slice-then-whole-cut.result.now ≡ length c.args.state.now.sides.items = ap (λ (xs : List Side). length xs) c.as_slice-then-whole-cut.ensures.value in
    omega (arith, a, b)

pub returns-then-whole-cut : goal.returns-then-whole-cut
returns-then-whole-cut c =
    let free : is_free c.args.pins.now c.args.node ≡ true = sym c.is_free.ensures ∙ c.if-not-is_free.false in
    let w : c.sum_at-whole.result ≡ unwrap_or (numbered c.args.links.now.wholes.items c.args.node) 0 = c.sum_at-whole.ensures ∙ ap (λ (xs : List ℕ). unwrap_or (numbered xs c.args.node) 0) c.as_slice-2.ensures.value in
    let d : c.sum_at-cut.result ≡ unwrap_or (numbered c.args.state.now.cuts.items c.args.node) 0 = c.sum_at-cut.ensures ∙ ap (λ (xs : List ℕ). unwrap_or (numbered xs c.args.node) 0) c.as_slice.ensures.value in
    let l : c.load_after.result ≡ free_load c.args.graph.now c.args.pins.now (flipped c.args.pins.now c.args.node c.args.state.now.sides.items) = c.load_after.ensures ∙ ap (λ (p : List Side). free_load c.args.graph.now c.args.pins.now (flipped c.args.pins.now c.args.node p)) c.as_slice-then-whole-cut.ensures.value in
    better_then c.args.graph.now c.args.pins.now c.args.links.now c.args.state.now c.args.node c.requires.kept c.requires.linked free c.sum_at-whole.result c.sum_at-cut.result w d c.args.budget c.load_after.result (lt-ltb (c.sum_at-whole.result - c.sum_at-cut.result) c.sum_at-cut.result c.if-whole-cut.true) l

pub returns-else-whole-cut : goal.returns-else-whole-cut
returns-else-whole-cut c =
    let free : is_free c.args.pins.now c.args.node ≡ true = sym c.is_free.ensures ∙ c.if-not-is_free.false in
    let w : c.sum_at-whole.result ≡ unwrap_or (numbered c.args.links.now.wholes.items c.args.node) 0 = c.sum_at-whole.ensures ∙ ap (λ (xs : List ℕ). unwrap_or (numbered xs c.args.node) 0) c.as_slice-2.ensures.value in
    let d : c.sum_at-cut.result ≡ unwrap_or (numbered c.args.state.now.cuts.items c.args.node) 0 = c.sum_at-cut.ensures ∙ ap (λ (xs : List ℕ). unwrap_or (numbered xs c.args.node) 0) c.as_slice.ensures.value in
    let h = c.if-whole-cut.false in
    better_else c.args.graph.now c.args.pins.now c.args.links.now c.args.state.now c.args.node c.requires.kept c.requires.linked free c.sum_at-whole.result c.sum_at-cut.result w d c.args.budget (le-ltb (c.sum_at-whole.result - c.sum_at-cut.result) c.sum_at-cut.result (omega (arith, h)))
