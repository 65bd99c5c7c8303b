use Rattle.std.proofs.Common.{◌≡◌, ap, sym, ◌∙◌, arith, Some, w64, to_z, of_z}
use Rattle.std.proofs.lemmas.Int.{to_z-of_z}
use Rattle.std.specs.Ordering.{int_cmp}
use Rattle.std.specs.FinMap.{find}
use Rattle.std.specs.declared.cmp.Ordering.TheVariants.{Less, Equal, Greater}
use Rattle.px_rows.proofs.AtNode.{at_node, shorter_left, shorter_right, sorted_left, sorted_right, found_less, found_equal, found_greater}
use Rattle.px_rows.proofs.tree.Tree.+get.Goals as goal

pub get-requires : goal.get-requires
get-requires t c =
    let at = at_node c.in-Some.is c.self.view_is in
    let shorter = shorter_left c.args.key _ _ _ _ _ at c.requires in
    rw (c.deref-in-Less.ensures) (omega (arith, shorter, c.decreases), sorted_left c.args.key _ _ _ _ _ at c.requires)

pub get-requires-in-Greater : goal.get-requires-in-Greater
get-requires-in-Greater t c =
    let at = at_node c.in-Some.is c.self.view_is in
    let shorter = shorter_right c.args.key _ _ _ _ _ at c.requires in
    rw (c.deref-in-Greater.ensures) (omega (arith, shorter, c.decreases), sorted_right c.args.key _ _ _ _ _ at c.requires)

pub returns-in-Less : goal.returns-in-Less
returns-in-Less t c =
    let at = at_node c.in-Some.is c.self.view_is in
    let key : to_z w64 (of_z w64 c.args.key) ≡ c.args.key = to_z-of_z w64 c.args.key c.ranges.key in
    let p : int_cmp c.args.key c.in-Some.node.value.key ≡ Less = (λ i. int_cmp (sym key i) (sym c.deref.ensures i).key) ∙ sym c.cmp.ensures ∙ c.in-Less.is in
    c.get.ensures ∙ (λ i. find int_cmp (key i) (c.deref-in-Less.ensures i).left) ∙ sym (found_less c.args.key _ _ _ _ _ at c.requires p)

pub returns-in-Equal : goal.returns-in-Equal
returns-in-Equal t c =
    let at = at_node c.in-Some.is c.self.view_is in
    let key : to_z w64 (of_z w64 c.args.key) ≡ c.args.key = to_z-of_z w64 c.args.key c.ranges.key in
    let p : int_cmp c.args.key c.in-Some.node.value.key ≡ Equal = (λ i. int_cmp (sym key i) (sym c.deref.ensures i).key) ∙ sym c.cmp.ensures ∙ c.in-Equal.is in
    ap (λ n. Some n.row) c.deref-in-Equal.ensures ∙ sym (found_equal c.args.key _ _ _ _ _ at c.requires p)

pub returns-in-Greater : goal.returns-in-Greater
returns-in-Greater t c =
    let at = at_node c.in-Some.is c.self.view_is in
    let key : to_z w64 (of_z w64 c.args.key) ≡ c.args.key = to_z-of_z w64 c.args.key c.ranges.key in
    let p : int_cmp c.args.key c.in-Some.node.value.key ≡ Greater = (λ i. int_cmp (sym key i) (sym c.deref.ensures i).key) ∙ sym c.cmp.ensures ∙ c.in-Greater.is in
    c.get-in-Greater.ensures ∙ (λ i. find int_cmp (key i) (c.deref-in-Greater.ensures i).right) ∙ sym (found_greater c.args.key _ _ _ _ _ at c.requires p)
