use Rattle.std.proofs.Common.{List, ap, ◌∙◌}
use Rattle.std.specs.List.{list_any}
use Rattle.px_blocks.specs.declared.block.Naming.{Naming}
use Rattle.px_blocks.specs.Machine.{has_naming}
use Rattle.px_control.specs.declared.names.Name.{Name}
use Rattle.px_control.specs.contracts.names.NamePartialEq.TheImpl.{eq-value as name_eq}
use Rattle.px_control.proofs.Sets.{named_is}
use Rattle.px_control.proofs.names.Names.has.Goals as goal

pub returns : goal.returns
returns c = c.contains.ensures ∙ ap (λ (n : Name). list_any (name_eq.it n) c.self.inside.set.keys) c.new.ensures ∙ named_is c.args.kind c.args.object c.self.inside.set.keys ∙ ap (λ (ns : List Naming). has_naming ns c.args.kind c.args.object) c.self.view_is
