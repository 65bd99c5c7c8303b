use Rattle.px_compile.proofs.Parts.{is_keep_by}
use Rattle.px_compile.proofs.plan.compile.Goals as goal

pub returns-clause-keep : goal.returns-clause-keep
returns-clause-keep c = is_keep_by c.args.code _ c.args.placement.sides c.in_ok-facts.facts _ c.requires.formed c.in_ok-facts.ensures c.as_slice-sides.ensures c.in_ok-keep.ensures
