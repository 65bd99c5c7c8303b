use Rattle.std.proofs.Common.{◌≡◌, List, ◌∙◌}
use Rattle.px_value.specs.declared.schema.Schema.{Schema}
use Rattle.px_tree.specs.declared.Program.{Program}
use Rattle.px_tree.specs.declared.Class.{Class}
use Rattle.px_types.specs.declared.home.Home.{Home}
use Rattle.px_types.specs.Bodies.{home_of}
use Rattle.px_types.specs.Checked.{facts_in, facts_of}
use Rattle.px_types.proofs.KnownForms.{same_ok}
use Rattle.px_types.proofs.verdict.find_facts.Goals as goal

same_facts : (schema : Schema) (program : Program) (home : Home) (classes : List Class) → home ≡ home_of schema classes → classes ≡ program.classes → facts_in home classes ≡ facts_of schema program
unfolding facts_of
same_facts schema program home classes h k = (λ i. facts_in (h i) classes) ∙ (λ i. facts_in (home_of schema (k i)) (k i))

pub returns : goal.returns
returns c = same_ok c.facts_in.result _ _ c.facts_in.ensures (same_facts c.args.schema.now c.args.program.now c.in_ok-home.home c.as_slice-classes.result.now c.in_ok-home.ensures c.as_slice-classes.ensures)
