use Rattle.std.proofs.Common.{◌≡◌, List, [], ◌∷◌, ◌++◌, ◌∙◌, sym, ap}
use Rattle.std.proofs.lemmas.Result.{on_ok_weaker}
use Rattle.px_code.specs.declared.block.Statement.{Statement}
use Rattle.px_compile.proofs.Cuts.{goes_on, begins}
use Rattle.px_compile.proofs.cut.add.Goals as goal

pub returns-then-same_side : goal.returns-then-same_side
returns-then-same_side c =
    on_ok_weaker c.push.result
    (λ is rest. goes_on c.args.sides.now c.args.method c.args.blocks.now c.args.stretch.now c.side_at-side.result c.args.next c.push.new.self rest c.side_at-side.ensures (sym c.same_side.ensures ∙ c.if-same_side.true) is)
    c.push.ensures.ok

pub returns : goal.returns
returns c =
    let alone : c.push-2.new.self ≡ c.args.next ∷ [] = c.in_ok-push.ensures.ok ∙ ap (λ (xs : List Statement). xs ++ c.args.next ∷ []) c.new-statements.ensures in
    on_ok_weaker c.close.result
    (λ is rest. begins c.args.sides.now c.args.method c.args.blocks.now c.close.new.blocks c.args.stretch.now c.replace-before.result c.replace-before.new.dest c.side_at-side.result c.args.next rest c.side_at-side.ensures (sym c.same_side.ensures ∙ c.if-same_side.false)
    (c.replace-before.ensures.after ∙ ap (λ (xs : List Statement). record { side = c.side_at-side.result; statements = xs }) alone)
    c.replace-before.ensures.value is)
    c.close.ensures
