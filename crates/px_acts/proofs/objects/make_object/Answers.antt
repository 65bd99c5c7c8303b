use Rattle.std.proofs.Common.{List, length, ap, ◌∙◌, map}
use Rattle.px_value.specs.declared.value.Value.{Value}
use Rattle.px_value.specs.declared.header.Kind.TheVariants as kind
use Rattle.px_normal.specs.declared.class.Field.{Field}
use Rattle.px_normal.specs.First.{fresh_of, field_default}
use Rattle.px_effects.specs.Cells.{first_cells}
use Rattle.px_acts.proofs.Making.{made}
use Rattle.px_acts.proofs.objects.make_object.Goals as goal

pub returns-clause-acted : goal.returns-clause-acted
returns-clause-acted c =
    let fresh = fresh_of c.args.code.now in
    let cells = c.in_ok-cells.ensures ∙ ap (λ (fs : List Field). map field_default fs) c.fields_of.ensures in
    made (first_cells fresh) (kind.Object c.args.class) c.args.site (length (fresh c.args.class)) c.in_ok-cells.cells c.args.store.now.heap c.allocate.result c.allocate.new.store.heap
    c.allocate.ensures.acted (ap (λ (vs : List Value). length vs) cells) cells
