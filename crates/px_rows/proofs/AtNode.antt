-- What stands below, at and above a key, told by the sides of a node.
use Rattle.std.proofs.Common.{◌≡◌, ℤ, List, ◌∷◌, ◌++◌, Some, Option, Box, sym, subst, ◌∙◌, ap, append_assoc, [], ◌<◌, length, arith, length-append}
use Rattle.std.specs.declared.cmp.Ordering.TheVariants.{Less, Equal, Greater}
use Rattle.std.specs.Ordering.{int_cmp}
use Rattle.std.specs.Cmp.{int_cmp_total}
use Rattle.std.specs.FinMap.{find, put, int_cmp-IsAntisymmetric}
use Rattle.px_value.specs.declared.value.Value.{Value}
use Rattle.px_rows.specs.Entries.{Entries, IsSorted, below, above, without, around, or_none}
use Rattle.px_rows.specs.declared.tree.Node.{Node}
use Rattle.std.specs.declared.alloc.Global.{Global}
use Rattle.std.specs.Option.{option_map}
use Rattle.px_rows.proofs.Order as order

module _ (q : ℤ) (es l : Entries) (k : ℤ) (v : List Value) (r : Entries) (at : around l k v r ≡ es) (s : IsSorted es) where
  sides : order.IsBetween int_cmp_total int_cmp-IsAntisymmetric l k r
  sides = order.between int_cmp_total int_cmp-IsAntisymmetric l k v r (subst IsSorted (sym at) s)

  pub shorter_left : length l < length es
  shorter_left = omega (arith, ap length at, length-append l ((k, v) ∷ r))

  pub shorter_right : length r < length es
  shorter_right = omega (arith, ap length at, length-append l ((k, v) ∷ r))

  pub sorted_left : IsSorted l
  sorted_left = sides.left

  pub sorted_right : IsSorted r
  sorted_right = sides.right

  pub below_less : int_cmp q k ≡ Less → below q es ≡ below q l
  below_less p = ap (below q) (sym at) ∙ order.lower-left int_cmp_total int_cmp-IsAntisymmetric q l k v r sides p

  pub found_less : int_cmp q k ≡ Less → find int_cmp q es ≡ find int_cmp q l
  found_less p = ap (find int_cmp q) (sym at) ∙ order.find-left int_cmp_total int_cmp-IsAntisymmetric q l k v r sides p

  pub above_less : int_cmp q k ≡ Less → above q es ≡ around (above q l) k v r
  above_less p = ap (above q) (sym at) ∙ order.upper-left int_cmp_total int_cmp-IsAntisymmetric q l k v r sides p

  pub below_equal : int_cmp q k ≡ Equal → below q es ≡ l
  below_equal p = ap (below q) (sym at) ∙ order.lower-at int_cmp_total int_cmp-IsAntisymmetric q l k v r sides p

  pub found_equal : int_cmp q k ≡ Equal → find int_cmp q es ≡ Some v
  found_equal p = ap (find int_cmp q) (sym at) ∙ order.find-at int_cmp_total int_cmp-IsAntisymmetric q l k v r sides p

  pub above_equal : int_cmp q k ≡ Equal → above q es ≡ r
  above_equal p = ap (above q) (sym at) ∙ order.upper-at int_cmp_total int_cmp-IsAntisymmetric q l k v r sides p

  pub below_greater : int_cmp q k ≡ Greater → below q es ≡ around l k v (below q r)
  below_greater p = ap (below q) (sym at) ∙ order.lower-right int_cmp_total int_cmp-IsAntisymmetric q l k v r sides p

  pub found_greater : int_cmp q k ≡ Greater → find int_cmp q es ≡ find int_cmp q r
  found_greater p = ap (find int_cmp q) (sym at) ∙ order.find-right int_cmp_total int_cmp-IsAntisymmetric q l k v r sides p

  pub above_greater : int_cmp q k ≡ Greater → above q es ≡ above q r
  above_greater p = ap (above q) (sym at) ∙ order.upper-right int_cmp_total int_cmp-IsAntisymmetric q l k v r sides p

pub put_parts : (k : ℤ) (v : List Value) (es : Entries) → IsSorted es → (below k es ++ (k, v) ∷ []) ++ above k es ≡ put int_cmp k v es
put_parts k v es s = append_assoc (below k es) ((k, v) ∷ []) (above k es) ∙ order.put-parts int_cmp_total int_cmp-IsAntisymmetric k v es s

pub without_parts : (k : ℤ) (es : Entries) → IsSorted es → below k es ++ above k es ≡ without k es
without_parts k es s = order.others-parts int_cmp_total int_cmp-IsAntisymmetric k es s

-- a node in its place
pub at_node : {root : Option (Box Node Global)} {m : Box Node Global} {es : Entries} → root ≡ Some m → or_none (option_map (λ n. around n.value.left n.value.key n.value.row n.value.right) root) ≡ es → around m.value.left m.value.key m.value.row m.value.right ≡ es
at_node is view = ap (λ root. or_none (option_map (λ n. around n.value.left n.value.key n.value.row n.value.right) root)) (sym is) ∙ view
