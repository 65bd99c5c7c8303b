use Rattle.std.proofs.Common.{ap, sym, ◌∙◌}
use Rattle.std.specs.Str.{bytes_eq}
use Rattle.px_types.specs.Names.{place_of}
use Rattle.px_types.proofs.Mapped.{position_map}
use Rattle.px_types.proofs.names.Names.place.Goals as goal

pub returns-clause-place : goal.returns-clause-place
returns-clause-place c =
    c.get_index_of.ensures.index
    ∙ sym (position_map (bytes_eq c.args.name.now) (λ v. v.items) c.self.inside.set.keys)
    ∙ ap (place_of c.args.name.now) c.self.view_is
