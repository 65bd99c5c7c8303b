use Rattle.std.proofs.Common.{◌≤◌, arith}
use Rattle.px_value.specs.Heap.{heap_counted, max_counted}
use Rattle.px_control.proofs.Counting.{few_of}
use Rattle.px_control.proofs.emit.objects_from.Goals as goal

pub returns-then-from-objects-clause-few : goal.returns-then-from-objects-clause-few
returns-then-from-objects-clause-few c =
    let few : heap_counted c.args.heap.now ≤ max_counted = omega arith in
    few_of _ c.args.from c.as_slice-objects.result.now c.args.heap.now c.as_slice-objects.ensures few
