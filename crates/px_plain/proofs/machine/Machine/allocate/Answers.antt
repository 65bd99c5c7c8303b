use Rattle.std.proofs.Common.{ap, sym, Err, ◌∙◌, List}
use Rattle.px_value.specs.declared.object.Object.{Object}
use Rattle.px_value.specs.declared.value.Value.TheVariants.{Ref}
use Rattle.px_value.specs.Outcome.{Gives, Throws}
use Rattle.px_value.specs.declared.thrown.Thrown.TheVariants.{HeapFull}
use Rattle.px_plain.specs.View.{There, shared_of}
use Rattle.px_plain.proofs.Rooms.{full_heap, room_left}
use Rattle.px_plain.proofs.machine.Machine.allocate.Goals as goal

abbrev at_heap : There → List Object → There
at_heap s heap = record s { heap = heap }

pub returns-in-Ok-clause-ends : goal.returns-in-Ok-clause-ends
returns-in-Ok-clause-ends c =
    let s = shared_of c.args.self.now in
    room_left s c.args.kind c.args.site c.args.cells (λ h. let e = c.in-Ok.ensures.full.1 h in absurd cc)
    ∙ (λ i. Gives (Ref (sym c.in-Ok.ensures.place i)) (at_heap s (sym c.in-Ok.ensures.added i)))

pub returns-in-Err-HeapFull-clause-ends : goal.returns-in-Err-HeapFull-clause-ends
returns-in-Err-HeapFull-clause-ends c =
    let s = shared_of c.args.self.now in
    full_heap s c.args.kind c.args.site c.args.cells (c.in-Err-HeapFull.ensures.full.0 (ap Err c.in-Err-HeapFull.field-0-is))
    ∙ ap (λ (heap : List Object). Throws HeapFull (at_heap s heap)) (sym c.in-Err-HeapFull.ensures.kept)
