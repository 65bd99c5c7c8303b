use Rattle.std.proofs.Common.{◌≡◌, ℕ, List, length, Result, Ok, sym, ap, subst, ◌∙◌}
use Rattle.std.proofs.lemmas.List.{length-replicate}
use Rattle.px_value.specs.declared.value.Value.{Value}
use Rattle.px_value.specs.declared.value.Value.TheVariants.{Ref}
use Rattle.px_value.specs.declared.header.Kind.TheVariants as kind
use Rattle.px_value.specs.declared.thrown.Thrown.{Thrown}
use Rattle.px_effects.specs.Act.{acted, Makes}
use Rattle.px_effects.specs.Cells.{first_cells, array_size, array_header, or_throws, element_default, comes}
use Rattle.px_acts.specs.Ends.{Ends}
use Rattle.px_acts.proofs.Making.{made}
use Rattle.px_acts.proofs.objects.make_array.Goals as goal

pub returns-clause-acted : goal.returns-clause-acted
returns-clause-acted c fresh =
    let n = c.in_ok-count.count in
    let count : array_size c.args.size.now ≡ Ok n = sym c.array_size.ensures ∙ c.in_ok-count.was in
    subst (λ (x : Result ℕ Thrown). Ends (acted (first_cells fresh) (or_throws x (λ m. Makes (array_header c.args.element c.args.site m) (λ object. comes (Ref object)))) c.args.store.now.heap) c.allocate.result c.allocate.new.store.heap) (sym count)
    (made (first_cells fresh) (kind.Array c.args.element) c.args.site n c.in_ok-cells.cells c.args.store.now.heap c.allocate.result c.allocate.new.store.heap
    c.allocate.ensures.acted (ap (λ (vs : List Value). length vs) c.in_ok-cells.ensures ∙ length-replicate n (element_default c.args.element)) c.in_ok-cells.ensures)
