use Rattle.std.proofs.Common.{◌≡◌, ap, sym, ◌∙◌, arith, Some, w64, to_z, of_z, subst, length}
use Rattle.std.proofs.lemmas.Int.{to_z-of_z}
use Rattle.std.specs.Ordering.{int_cmp}
use Rattle.std.specs.FinMap.{find}
use Rattle.std.specs.declared.cmp.Ordering.TheVariants.{Less, Equal, Greater}
use Rattle.px_rows.specs.Entries.{IsSorted, below, above, around}
use Rattle.px_rows.proofs.AtNode.{at_node, shorter_left, shorter_right, sorted_left, sorted_right, below_less, found_less, above_less, below_equal, found_equal, above_equal, below_greater, found_greater, above_greater}
use Rattle.px_rows.proofs.tree.+split.Goals as goal

pub split-parts-requires : goal.split-parts-requires
split-parts-requires t c =
    let n = c.in-Some.node.value in
    let at = at_node c.in-Some.is c.tree.view_is in
    let is : c.replace.result ≡ n.left = c.replace.ensures.value ∙ ap (λ m. m.left) (c.deref_mut.ensures.value ∙ ap (λ m. m.value) c.in-Some.node-is) in
    let shorter = shorter_left c.args.key _ _ _ _ _ at c.requires in
    (omega (arith, shorter, c.decreases, ap length is), subst IsSorted (sym is) (sorted_left c.args.key _ _ _ _ _ at c.requires))

pub split-parts-requires-in-Greater : goal.split-parts-requires-in-Greater
split-parts-requires-in-Greater t c =
    let n = c.in-Some.node.value in
    let at = at_node c.in-Some.is c.tree.view_is in
    let is : c.replace-in-Greater.result ≡ n.right = c.replace-in-Greater.ensures.value ∙ ap (λ m. m.right) (c.deref_mut-in-Greater.ensures.value ∙ ap (λ m. m.value) c.in-Some.node-is) in
    let shorter = shorter_right c.args.key _ _ _ _ _ at c.requires in
    (omega (arith, shorter, c.decreases, ap length is), subst IsSorted (sym is) (sorted_right c.args.key _ _ _ _ _ at c.requires))

pub returns-in-Less-clause-below : goal.returns-in-Less-clause-below
returns-in-Less-clause-below t c =
    let n = c.in-Some.node.value in
    let at = at_node c.in-Some.is c.tree.view_is in
    let key : to_z w64 (of_z w64 c.args.key) ≡ c.args.key = to_z-of_z w64 c.args.key c.ranges.key in
    let p : int_cmp c.args.key n.key ≡ Less = (λ i. int_cmp (sym key i) (sym (c.deref.ensures ∙ ap (λ m. m.value) c.in-Some.node-is) i).key) ∙ sym c.cmp.ensures ∙ c.in-Less.is in
    let is : c.replace.result ≡ n.left = c.replace.ensures.value ∙ ap (λ m. m.left) (c.deref_mut.ensures.value ∙ ap (λ m. m.value) c.in-Some.node-is) in
    c.split-parts.ensures.below ∙ (λ i. below (key i) (is i)) ∙ sym (below_less c.args.key _ _ _ _ _ at c.requires p)

pub returns-in-Less-clause-found : goal.returns-in-Less-clause-found
returns-in-Less-clause-found t c =
    let n = c.in-Some.node.value in
    let at = at_node c.in-Some.is c.tree.view_is in
    let key : to_z w64 (of_z w64 c.args.key) ≡ c.args.key = to_z-of_z w64 c.args.key c.ranges.key in
    let p : int_cmp c.args.key n.key ≡ Less = (λ i. int_cmp (sym key i) (sym (c.deref.ensures ∙ ap (λ m. m.value) c.in-Some.node-is) i).key) ∙ sym c.cmp.ensures ∙ c.in-Less.is in
    let is : c.replace.result ≡ n.left = c.replace.ensures.value ∙ ap (λ m. m.left) (c.deref_mut.ensures.value ∙ ap (λ m. m.value) c.in-Some.node-is) in
    c.split-parts.ensures.found ∙ (λ i. find int_cmp (key i) (is i)) ∙ sym (found_less c.args.key _ _ _ _ _ at c.requires p)

pub returns-in-Less-clause-above : goal.returns-in-Less-clause-above
returns-in-Less-clause-above t c =
    let n = c.in-Some.node.value in
    let at = at_node c.in-Some.is c.tree.view_is in
    let key : to_z w64 (of_z w64 c.args.key) ≡ c.args.key = to_z-of_z w64 c.args.key c.ranges.key in
    let p : int_cmp c.args.key n.key ≡ Less = (λ i. int_cmp (sym key i) (sym (c.deref.ensures ∙ ap (λ m. m.value) c.in-Some.node-is) i).key) ∙ sym c.cmp.ensures ∙ c.in-Less.is in
    let is : c.replace.result ≡ n.left = c.replace.ensures.value ∙ ap (λ m. m.left) (c.deref_mut.ensures.value ∙ ap (λ m. m.value) c.in-Some.node-is) in
    (λ i. around ((c.split-parts.ensures.above ∙ (λ i. above (key i) (is i))) i) ((ap (λ m. m.key) c.deref_mut-in-Less.ensures.value ∙ ap (λ m. m.key) (c.deref_mut.ensures.value ∙ ap (λ m. m.value) c.in-Some.node-is)) i) ((ap (λ m. m.row) c.deref_mut-in-Less.ensures.value ∙ ap (λ m. m.row) (c.deref_mut.ensures.value ∙ ap (λ m. m.value) c.in-Some.node-is)) i) ((ap (λ m. m.right) c.deref_mut-in-Less.ensures.value ∙ ap (λ m. m.right) (c.deref_mut.ensures.value ∙ ap (λ m. m.value) c.in-Some.node-is)) i)) ∙ sym (above_less c.args.key _ _ _ _ _ at c.requires p)

pub returns-in-Greater-clause-below : goal.returns-in-Greater-clause-below
returns-in-Greater-clause-below t c =
    let n = c.in-Some.node.value in
    let at = at_node c.in-Some.is c.tree.view_is in
    let key : to_z w64 (of_z w64 c.args.key) ≡ c.args.key = to_z-of_z w64 c.args.key c.ranges.key in
    let p : int_cmp c.args.key n.key ≡ Greater = (λ i. int_cmp (sym key i) (sym (c.deref.ensures ∙ ap (λ m. m.value) c.in-Some.node-is) i).key) ∙ sym c.cmp.ensures ∙ c.in-Greater.is in
    let is : c.replace-in-Greater.result ≡ n.right = c.replace-in-Greater.ensures.value ∙ ap (λ m. m.right) (c.deref_mut-in-Greater.ensures.value ∙ ap (λ m. m.value) c.in-Some.node-is) in
    (λ i. around ((ap (λ m. m.left) c.deref_mut-in-Greater-2.ensures.value ∙ ap (λ m. m.left) (c.deref_mut-in-Greater.ensures.value ∙ ap (λ m. m.value) c.in-Some.node-is)) i) ((ap (λ m. m.key) c.deref_mut-in-Greater-2.ensures.value ∙ ap (λ m. m.key) (c.deref_mut-in-Greater.ensures.value ∙ ap (λ m. m.value) c.in-Some.node-is)) i) ((ap (λ m. m.row) c.deref_mut-in-Greater-2.ensures.value ∙ ap (λ m. m.row) (c.deref_mut-in-Greater.ensures.value ∙ ap (λ m. m.value) c.in-Some.node-is)) i) ((c.split-parts-in-Greater.ensures.below ∙ (λ i. below (key i) (is i))) i)) ∙ sym (below_greater c.args.key _ _ _ _ _ at c.requires p)

pub returns-in-Greater-clause-found : goal.returns-in-Greater-clause-found
returns-in-Greater-clause-found t c =
    let n = c.in-Some.node.value in
    let at = at_node c.in-Some.is c.tree.view_is in
    let key : to_z w64 (of_z w64 c.args.key) ≡ c.args.key = to_z-of_z w64 c.args.key c.ranges.key in
    let p : int_cmp c.args.key n.key ≡ Greater = (λ i. int_cmp (sym key i) (sym (c.deref.ensures ∙ ap (λ m. m.value) c.in-Some.node-is) i).key) ∙ sym c.cmp.ensures ∙ c.in-Greater.is in
    let is : c.replace-in-Greater.result ≡ n.right = c.replace-in-Greater.ensures.value ∙ ap (λ m. m.right) (c.deref_mut-in-Greater.ensures.value ∙ ap (λ m. m.value) c.in-Some.node-is) in
    c.split-parts-in-Greater.ensures.found ∙ (λ i. find int_cmp (key i) (is i)) ∙ sym (found_greater c.args.key _ _ _ _ _ at c.requires p)

pub returns-in-Greater-clause-above : goal.returns-in-Greater-clause-above
returns-in-Greater-clause-above t c =
    let n = c.in-Some.node.value in
    let at = at_node c.in-Some.is c.tree.view_is in
    let key : to_z w64 (of_z w64 c.args.key) ≡ c.args.key = to_z-of_z w64 c.args.key c.ranges.key in
    let p : int_cmp c.args.key n.key ≡ Greater = (λ i. int_cmp (sym key i) (sym (c.deref.ensures ∙ ap (λ m. m.value) c.in-Some.node-is) i).key) ∙ sym c.cmp.ensures ∙ c.in-Greater.is in
    let is : c.replace-in-Greater.result ≡ n.right = c.replace-in-Greater.ensures.value ∙ ap (λ m. m.right) (c.deref_mut-in-Greater.ensures.value ∙ ap (λ m. m.value) c.in-Some.node-is) in
    c.split-parts-in-Greater.ensures.above ∙ (λ i. above (key i) (is i)) ∙ sym (above_greater c.args.key _ _ _ _ _ at c.requires p)

pub returns-in-Equal-clause-below : goal.returns-in-Equal-clause-below
returns-in-Equal-clause-below t c =
    let n = c.in-Some.node.value in
    let at = at_node c.in-Some.is c.tree.view_is in
    let key : to_z w64 (of_z w64 c.args.key) ≡ c.args.key = to_z-of_z w64 c.args.key c.ranges.key in
    let p : int_cmp c.args.key n.key ≡ Equal = (λ i. int_cmp (sym key i) (sym (c.deref.ensures ∙ ap (λ m. m.value) c.in-Some.node-is) i).key) ∙ sym c.cmp.ensures ∙ c.in-Equal.is in
    c.replace-below.ensures.value ∙ ap (λ m. m.left) (c.deref_mut-in-Equal.ensures.value ∙ ap (λ m. m.value) c.in-Some.node-is) ∙ sym (below_equal c.args.key _ _ _ _ _ at c.requires p)

pub returns-in-Equal-clause-found : goal.returns-in-Equal-clause-found
returns-in-Equal-clause-found t c =
    let n = c.in-Some.node.value in
    let at = at_node c.in-Some.is c.tree.view_is in
    let key : to_z w64 (of_z w64 c.args.key) ≡ c.args.key = to_z-of_z w64 c.args.key c.ranges.key in
    let p : int_cmp c.args.key n.key ≡ Equal = (λ i. int_cmp (sym key i) (sym (c.deref.ensures ∙ ap (λ m. m.value) c.in-Some.node-is) i).key) ∙ sym c.cmp.ensures ∙ c.in-Equal.is in
    ap (λ row. Some row) (ap (λ m. m.row) c.deref_mut-in-Equal-2.ensures.value ∙ ap (λ m. m.row) (c.deref_mut-in-Equal.ensures.value ∙ ap (λ m. m.value) c.in-Some.node-is)) ∙ sym (found_equal c.args.key _ _ _ _ _ at c.requires p)

pub returns-in-Equal-clause-above : goal.returns-in-Equal-clause-above
returns-in-Equal-clause-above t c =
    let n = c.in-Some.node.value in
    let at = at_node c.in-Some.is c.tree.view_is in
    let key : to_z w64 (of_z w64 c.args.key) ≡ c.args.key = to_z-of_z w64 c.args.key c.ranges.key in
    let p : int_cmp c.args.key n.key ≡ Equal = (λ i. int_cmp (sym key i) (sym (c.deref.ensures ∙ ap (λ m. m.value) c.in-Some.node-is) i).key) ∙ sym c.cmp.ensures ∙ c.in-Equal.is in
    c.replace-above.ensures.value ∙ (ap (λ m. m.right) c.deref_mut-in-Equal-2.ensures.value ∙ ap (λ m. m.right) (c.deref_mut-in-Equal.ensures.value ∙ ap (λ m. m.value) c.in-Some.node-is)) ∙ sym (above_equal c.args.key _ _ _ _ _ at c.requires p)
