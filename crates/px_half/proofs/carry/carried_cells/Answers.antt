use Rattle.std.proofs.Common.{◌≡◌, List, subst}
use Rattle.std.specs.Option.{option_copied}
use Rattle.px_wire.specs.declared.cell.CellAt.{CellAt}
use Rattle.std.proofs.lemmas.Result.{IfOk-weaker}
use Rattle.px_half.specs.Machine.{machine_of}
use Rattle.px_half.specs.Carry.{AreEachOnce, IsLookupOf, names, carried}
use Rattle.px_half.proofs.CarryWhole.{are_carried}
use Rattle.px_half.proofs.carry.carried_cells.Goals as goal

pub returns : goal.returns
returns c =
    let plan = option_copied c.args.plan in
    let m = machine_of c.args.machine.now in
    let lookup = subst (λ named. IsLookupOf named c.in_ok-named.named) c.as_slice.ensures.value c.in_ok-named.ensures in
    let once = subst (λ marks. AreEachOnce marks c.in_ok-cells.cells.items) c.as_slice-2.ensures.value c.in_ok-cells.ensures in
    IfOk-weaker c.carried.result _ _
    (λ (out : List CellAt) is. are_carried plan m c.in_ok-named.named c.in_ok-cells.cells.items out lookup once
    (subst (λ cells. out ≡ carried plan m.heap (names c.in_ok-named.named) cells) c.as_slice-3.ensures.value is))
    c.carried.ensures
