use Rattle.std.proofs.Common.{[], ◌∷◌, length, slice_get, length-append, arith, refl, sym, ap, ◌∙◌, reverse}
use Rattle.std.proofs.lemmas.Option.{slice_get_read}
use Rattle.px_normal.specs.declared.method.Tree.TheVariants.{If, Loop}
use Rattle.px_blocks.specs.declared.block.Deed.TheVariants as deed
use Rattle.px_blocks.specs.declared.block.Exit.TheVariants.{Branch}
use Rattle.px_blocks.specs.Rules.{statement_of}
use Rattle.px_blocks.specs.Cutter.{closing, made_in, made_after, left_before, left_open}
use Rattle.px_blocks.specs.Seen.{seen}
use Rattle.px_blocks.proofs.LayForms.{lay_if, lay_loop, lays_first, lays_next}
use Rattle.px_blocks.proofs.laying.+lay.Goals as goal

pub lay-returns-in_ok-whole-in-If : goal.lay-returns-in_ok-whole-in-If
lay-returns-in_ok-whole-in-If t c =
    lay_if c.args.placed.now c.args.firsts.now c.args.method c.args.tree.now c.in-If.node c.in_ok-copy_operand-in-If.field-0 c.as_slice-yes.result.now c.as_slice-no.result.now c.args.shape c.args.left c.closing-at_no.result c.in_ok-other-in-If.other c.closing-at_yes.result c.in_ok-branch-in-If.branch c.in_ok-whole-in-If.whole c.in_ok-made-in-If.made c.made_in-made1.result
    (c.in-If.is ∙ (λ i. If c.in-If.node (sym (c.in_ok-copy_operand-in-If.ensures {u = tt}) i) (sym c.as_slice-yes.ensures i) (sym c.as_slice-no.ensures i)))
    (c.in_ok-made-in-If.ensures ∙ ap (λ x. made_after x c.args.shape) c.side_at-side.ensures)
    (c.made_in-made1.ensures ∙ ap made_in c.in_ok-behind_yes-in-If.ensures)
    (c.closing-at_no.ensures ∙ ap (λ z. closing z c.args.left.to (reverse c.args.left.later)) c.in_ok-behind_no-in-If.ensures)
    c.in_ok-other-in-If.ensures
    (c.closing-at_yes.ensures ∙ ap (λ z. closing z c.args.left.to (reverse c.in_ok-other-in-If.other.later)) c.in_ok-behind_yes-in-If.ensures)
    c.in_ok-branch-in-If.ensures
    (c.in_ok-whole-in-If.ensures ∙ ap (λ x. left_before c.args.method x (statement_of c.args.placed.now c.in-If.node (deed.Chooses c.in_ok-copy_operand-in-If.field-0)) c.args.shape (left_open [] (Branch c.in_ok-branch-in-If.branch.to c.in_ok-other-in-If.other.to) (reverse c.in_ok-branch-in-If.branch.later))) c.side_at-side.ensures)

pub lay-returns-in_ok-whole-in-Loop : goal.lay-returns-in_ok-whole-in-Loop
lay-returns-in_ok-whole-in-Loop t c =
    lay_loop c.args.placed.now c.args.firsts.now c.args.method c.args.tree.now c.as_slice-first.result.now c.in-Loop.node c.in-Loop.test c.as_slice-body.result.now c.args.shape c.args.left c.in_ok-tested-in-Loop.tested c.in_ok-whole-in-Loop.whole c.closing.result c.made_in-made.result c.in_ok-start-in-Loop.start
    (c.in-Loop.is ∙ (λ i. Loop (sym c.as_slice-first.ensures i) c.in-Loop.node c.in-Loop.test (sym c.as_slice-body.ensures i)))
    c.made_in-made.ensures c.in_ok-start-in-Loop.ensures c.in_ok-tested-in-Loop.ensures c.in_ok-whole-in-Loop.ensures c.closing.ensures

pub lay_all-loop-before_it-init : goal.lay_all-loop-before_it-init
lay_all-loop-before_it-init t c = lays_first c.args.placed.now c.args.firsts.now c.args.method c.args.trees.now c.args.shape (seen c.args.left) c.in_ok-shapes.shapes c.in_ok-shapes.ensures

pub lay_all-loop-before_it-preserved : goal.lay_all-loop-before_it-preserved
lay_all-loop-before_it-preserved t c = lays_next c.args.placed.now c.args.firsts.now c.args.method c.args.trees.now c.args.shape (seen c.args.left) c.loop-before_it.shapes c.pop.new.self c.in-Some.before_it c.index-trees-len.result (seen c.loop-before_it.left) (seen c.in_ok-left.left) c.loop-before_it.invariant c.in-Some.ensures
    (ap (slice_get c.args.trees.now) (sym c.len.ensures) ∙ slice_get_read c.args.trees.now (length c.args.trees.now) c.len.result c.index-trees-len.result refl
    (let e = ap length c.in-Some.ensures ∙ length-append c.pop.new.self (c.in-Some.before_it ∷ []) in let w = c.loop-before_it.invariant.within in let l = c.len.ensures in omega (arith, e, w, l)) c.index-trees-len.is)
    c.in_ok-left.ensures
