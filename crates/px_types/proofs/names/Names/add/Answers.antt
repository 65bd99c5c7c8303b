use Rattle.std.proofs.Common.{ap, sym, ◌∙◌, not}
use Rattle.std.specs.Str.{bytes_eq}
use Rattle.px_types.specs.Names.{has_name}
use Rattle.px_types.proofs.Mapped.{list_any_map}
use Rattle.px_types.proofs.names.Names.add.Goals as goal

pub returns-clause-added : goal.returns-clause-added
returns-clause-added c =
    c.in_ok-added.ensures.added
    ∙ ap not (sym (list_any_map (bytes_eq c.in_ok-name.name.items) (λ v. v.items) c.self.inside.set.keys))
    ∙ (λ i. not (has_name (c.in_ok-name.ensures.items i) (c.self.view_is i)))
