use Rattle.std.proofs.Common.{◌≡◌, suc, ◌+◌, [], ◌∷◌, length, reverse, slice_get, length-append, arith, refl, sym, ap, subst, ◌∙◌}
use Rattle.std.proofs.lemmas.Option.{slice_get_read}
use Rattle.px_normal.specs.declared.method.Method.{Method}
use Rattle.px_blocks.specs.Seen.{blocks_before}
use Rattle.px_blocks.proofs.LaidMethods.{LaysMethods, methods_first, methods_next}
use Rattle.px_blocks.proofs.whole.lay_methods.Goals as goal

pub loop-made-init : goal.loop-made-init
loop-made-init c = subst (λ l. LaysMethods c.args.placed.now c.args.firsts.now c.args.methods.now c.in_ok-mades.mades (reverse l)) (sym c.new-later.ensures) (methods_first c.args.placed.now c.args.firsts.now c.args.methods.now c.in_ok-mades.mades c.in_ok-mades.ensures)

pub loop-made-preserved : goal.loop-made-preserved
loop-made-preserved c = methods_next c.args.placed.now c.args.firsts.now c.args.methods.now c.loop-made.mades c.pop.new.self c.in-Some.made c.index-methods-at.result (reverse c.loop-made.later) (reverse c.in_ok-whole.whole.later) c.loop-made.invariant c.in-Some.ensures
    (ap (slice_get c.args.methods.now) (sym c.len-at.ensures) ∙ slice_get_read c.args.methods.now (length c.args.methods.now) c.len-at.result c.index-methods-at.result refl
    (let e = ap length c.in-Some.ensures ∙ length-append c.pop.new.self (c.in-Some.made ∷ []) in let w = c.loop-made.invariant.within in let l = c.len-at.ensures in omega (arith, e, w, l)) c.index-methods-at.is)
    ((c.in_ok-whole.ensures {u = tt}).exact ∙ ap (λ n. blocks_before c.args.placed.now c.args.firsts.now n c.in-Some.made c.as_slice-body.result.now (reverse c.loop-made.later)) (let l = c.len-at.ensures in let q : c.len-at.result + 1 ≡ suc (length c.pop.new.self) = omega (arith, l) in q) ∙ ap (λ b. blocks_before c.args.placed.now c.args.firsts.now (suc (length c.pop.new.self)) c.in-Some.made b (reverse c.loop-made.later)) c.as_slice-body.ensures
    ∙ ap (λ (x : Method). blocks_before c.args.placed.now c.args.firsts.now (suc (length c.pop.new.self)) c.in-Some.made x.body (reverse c.loop-made.later)) (sym c.index-methods-at.is))
