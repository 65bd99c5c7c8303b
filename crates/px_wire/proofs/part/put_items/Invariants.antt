use Rattle.std.proofs.Common.{◌≡◌, ◌++◌, take}
use Rattle.std.specs.List.{flat_map, AllByRecursion}
use Rattle.px_wire.proofs.part.put_items.Given as goal

abbrev pub invariant-loop-item : goal.invariant-loop-item
invariant-loop-item g l =
    record {
      bytes : l.out.items ≡ l.fn.out.items ++ flat_map g.P.Part.bytes_of (take l.item-index l.items);
      in_range : AllByRecursion g.P.Part.is_in_range (take l.item-index l.items);
    }
