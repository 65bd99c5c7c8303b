use Rattle.std.proofs.Common.{◌≡◌, ℕ, List, true, false, unwrap_or, ◌∙◌, ap, sym, arith}
use Rattle.px_code.specs.Places.{numbered, side_of}
use Rattle.px_graph.specs.Loads.{is_db}
use Rattle.px_choose.specs.Placements.{flipped}
use Rattle.px_choose.proofs.Loading.{flip_load}
use Rattle.px_choose.proofs.sums.load_after.Goals as goal

pub overflow_sub-result : goal.overflow_sub-result
overflow_sub-result c =
    let d : is_db (side_of c.args.sides.now c.args.node) ≡ true = ap is_db (sym c.side_at.ensures) ∙ sym c.is_db.ensures ∙ c.if-is_db.true in
    let e : c.count_of-count.result ≡ unwrap_or (numbered c.args.graph.now.counts c.args.node) 0 = c.count_of-count.ensures ∙ ap (λ (xs : List ℕ). unwrap_or (numbered xs c.args.node) 0) c.as_slice.ensures in
    let x = flip_load c.args.graph.now c.args.pins.now c.args.node c.count_of-count.result c.args.sides.now true c.requires.free c.requires.within e d in
    let l = c.requires.load in
    omega (arith, x, l)

pub overflow_add-result : goal.overflow_add-result
overflow_add-result c =
    let d : is_db (side_of c.args.sides.now c.args.node) ≡ false = ap is_db (sym c.side_at.ensures) ∙ sym c.is_db.ensures ∙ c.if-is_db.false in
    let e : c.count_of-count.result ≡ unwrap_or (numbered c.args.graph.now.counts c.args.node) 0 = c.count_of-count.ensures ∙ ap (λ (xs : List ℕ). unwrap_or (numbered xs c.args.node) 0) c.as_slice.ensures in
    let x = flip_load c.args.graph.now c.args.pins.now c.args.node c.count_of-count.result c.args.sides.now false c.requires.free c.requires.within e d in
    let l = c.requires.load in
    let b = c.requires.counts (flipped c.args.pins.now c.args.node c.args.sides.now) in
    omega (arith, x, l, b)

pub returns-then-is_db : goal.returns-then-is_db
returns-then-is_db c =
    let d : is_db (side_of c.args.sides.now c.args.node) ≡ true = ap is_db (sym c.side_at.ensures) ∙ sym c.is_db.ensures ∙ c.if-is_db.true in
    let e : c.count_of-count.result ≡ unwrap_or (numbered c.args.graph.now.counts c.args.node) 0 = c.count_of-count.ensures ∙ ap (λ (xs : List ℕ). unwrap_or (numbered xs c.args.node) 0) c.as_slice.ensures in
    let x = flip_load c.args.graph.now c.args.pins.now c.args.node c.count_of-count.result c.args.sides.now true c.requires.free c.requires.within e d in
    let l = c.requires.load in
    omega (arith, x, l)

pub returns-else-is_db : goal.returns-else-is_db
returns-else-is_db c =
    let d : is_db (side_of c.args.sides.now c.args.node) ≡ false = ap is_db (sym c.side_at.ensures) ∙ sym c.is_db.ensures ∙ c.if-is_db.false in
    let e : c.count_of-count.result ≡ unwrap_or (numbered c.args.graph.now.counts c.args.node) 0 = c.count_of-count.ensures ∙ ap (λ (xs : List ℕ). unwrap_or (numbered xs c.args.node) 0) c.as_slice.ensures in
    let x = flip_load c.args.graph.now c.args.pins.now c.args.node c.count_of-count.result c.args.sides.now false c.requires.free c.requires.within e d in
    let l = c.requires.load in
    omega (arith, x, l)
