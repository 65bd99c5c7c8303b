-- The row that a node leaves.
use Rattle.std.proofs.Common.{◌≡◌, Option, Some, None, Box, sym, ap, ◌∙◌}
use Rattle.std.specs.declared.alloc.Global.{Global}
use Rattle.std.specs.Option.{option_map}
use Rattle.px_rows.specs.declared.tree.Node.{Node}
use Rattle.px_rows.specs.Tables.{Row}

abbrev pub row_of : Option (Box Node Global) → Option Row
row_of node = option_map (λ n. n.value.row) node

abbrev pub rows_of_write : Option (Option (Box Node Global)) → Option (Option Row)
rows_of_write left = option_map row_of left

pub left_none : (left : Option (Option (Box Node Global))) (r : Option (Option Row)) → rows_of_write left ≡ r → left ≡ None → None ≡ r
left_none left r h e = sym (ap rows_of_write e) ∙ h

pub left_some : (left : Option (Option (Box Node Global))) (x : Option (Box Node Global)) (r : Option (Option Row)) → rows_of_write left ≡ r → left ≡ Some x → Some (row_of x) ≡ r
left_some left x r h e = sym (ap rows_of_write e) ∙ h
