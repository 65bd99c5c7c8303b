-- Objects and their cells are counted.
use Rattle.std.proofs.Common.{◌≡◌, ℕ, ◌+◌, ◌≤◌, List, take, drop, ap, arith}
use Rattle.std.proofs.lemmas.List.Sums.{sum_by-take-drop}
use Rattle.px_value.specs.declared.object.Object.{Object}
use Rattle.px_value.specs.Heap.{cells_counted, heap_counted, max_counted}

pub few_of : (k n : ℕ) (objects heap : List Object) → objects ≡ heap → heap_counted heap ≤ max_counted → heap_counted (take k (drop n objects)) ≤ max_counted
few_of k n objects heap e h =
    let behind : heap_counted (take k (drop n objects)) + heap_counted (drop k (drop n objects)) ≡ heap_counted (drop n objects) = sum_by-take-drop cells_counted (drop n objects) k in
    let whole : heap_counted (take n objects) + heap_counted (drop n objects) ≡ heap_counted objects = sum_by-take-drop cells_counted objects n in
    let same : heap_counted objects ≡ heap_counted heap = ap heap_counted e in
    omega arith
