use Rattle.std.proofs.Common.{◌≡◌, [], ◌∙◌, sym, refl}
use Rattle.std.proofs.lemmas.Result.{on_ok_weaker}
use Rattle.px_compile.proofs.Cuts.{cut_start, tail_past, cut_empty, cut_end}
use Rattle.px_compile.proofs.cut.cut_body.Goals as goal

pub loop-tree-init : goal.loop-tree-init
loop-tree-init c = cut_start c.args.code.now c.args.sides.now c.args.facts.now c.args.method c.args.body.now c.args.blocks.now c.first_side.result c.new.result c.first_side.ensures c.new.ensures

pub returns-then-is_empty : goal.returns-then-is_empty
returns-then-is_empty c =
    let past = tail_past c.args.code.now c.args.sides.now c.args.facts.now c.args.method c.args.body.now _ c.loop-tree.stretch c.loop-tree.tree-index c.loop-tree-test.false in
    let empty = cut_empty c.args.sides.now c.args.method _ c.loop-tree.stretch (c.if-is_empty.ensures.0 refl) in
    sym empty ∙ sym past ∙ c.loop-tree.invariant

pub returns : goal.returns
returns c =
    let filled : c.loop-tree.stretch.statements ≡ [] → ⊥ = λ e. (let h = c.if-is_empty.ensures.1 e in cc) in
    let past = tail_past c.args.code.now c.args.sides.now c.args.facts.now c.args.method c.args.body.now _ c.loop-tree.stretch c.loop-tree.tree-index c.loop-tree-test.false in
    let end = cut_end c.args.sides.now c.args.method _ c.loop-tree.stretch filled in
    on_ok_weaker c.close.result (λ is. is ∙ sym end ∙ sym past ∙ c.loop-tree.invariant) c.close.ensures
