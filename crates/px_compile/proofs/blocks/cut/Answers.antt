use Rattle.px_compile.proofs.Methods.{are_blocks_by}
use Rattle.px_compile.proofs.blocks.cut.Goals as goal

pub returns : goal.returns
returns c = are_blocks_by c.args.code.now c.args.sides.now c.args.facts.now c.requires.facts _ _ _ _ _ _ c.requires.formed c.as_slice-method-items.ensures c.loop-method-test.false c.loop-method.invariant.blocks c.loop-method.invariant.firsts
