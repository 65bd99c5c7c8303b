use Rattle.std.proofs.Common.{List, [], ◌∷◌, map, ap, ◌∙◌}
use Rattle.px_blocks.specs.Machine.{with_names}
use Rattle.px_control.specs.declared.names.Name.{Name}
use Rattle.px_control.specs.Names.{naming_of}
use Rattle.px_control.proofs.Sets.{name_added}
use Rattle.px_control.proofs.names.Names.add.Goals as goal

pub returns-clause-ok : goal.returns-clause-ok
returns-clause-ok c = ap (λ (ns : List Name). map naming_of ns) c.in_ok-insert.ensures.keys ∙ name_added c.args.kind c.args.object c.new.result c.self.inside.set.keys c.new.ensures ∙ ap (with_names (record { kind = c.args.kind; object = c.args.object } ∷ [])) c.self.view_is
