use Rattle.std.proofs.Common.{ap, sym, ◌∙◌, w64, subst}
use Rattle.std.proofs.lemmas.Int.{to_z-of_z}
use Rattle.std.specs.FinMap.{find, put, from_sorted}
use Rattle.std.specs.Option.{option_map}
use Rattle.std.specs.Ordering.{int_cmp}
use Rattle.px_rows.specs.Tables.{put_row}
use Rattle.px_rows.specs.Entries.{IsSorted, without}
use Rattle.px_rows.proofs.Seen.{get_seen, put_seen, without_seen, sorted_put, sorted_without}
use Rattle.px_rows.proofs.rows.Rows.set.Goals as goal

pub invariant_of-self : goal.invariant_of-self
invariant_of-self c = subst IsSorted (sym c.put.ensures.new) (sorted_put _ _ c.self.inside.tree c.self.invariant)

pub invariant_of-self-in-None : goal.invariant_of-self-in-None
invariant_of-self-in-None c = subst IsSorted (sym c.take.ensures.new) (sorted_without _ c.self.inside.tree c.self.invariant)

pub returns-in-Some-clause-old : goal.returns-in-Some-clause-old
returns-in-Some-clause-old c = c.put.ensures.old ∙ ap (λ k. find int_cmp k c.self.inside.tree) (to_z-of_z w64 c.args.key c.ranges.key) ∙ get_seen c.self.inside.tree c.args.self.now c.args.key c.self.invariant c.self.view_is

pub returns-in-None-clause-old : goal.returns-in-None-clause-old
returns-in-None-clause-old c = c.take.ensures.old ∙ ap (λ k. find int_cmp k c.self.inside.tree) (to_z-of_z w64 c.args.key c.ranges.key) ∙ get_seen c.self.inside.tree c.args.self.now c.args.key c.self.invariant c.self.view_is

pub returns-in-Some-clause-new : goal.returns-in-Some-clause-new
returns-in-Some-clause-new c =
    ap from_sorted (c.put.ensures.new ∙ ap (λ k. put int_cmp k c.in-Some.node.value.row c.self.inside.tree) (to_z-of_z w64 c.args.key c.ranges.key))
    ∙ put_seen c.self.inside.tree c.args.self.now c.args.key c.in-Some.node.value.row c.self.invariant c.self.view_is
    ∙ ap (λ n. put_row c.args.key (option_map (λ n. n.value.row) n) c.args.self.now) (sym c.in-Some.is)

pub returns-in-None-clause-new : goal.returns-in-None-clause-new
returns-in-None-clause-new c =
    ap from_sorted (c.take.ensures.new ∙ ap (λ k. without k c.self.inside.tree) (to_z-of_z w64 c.args.key c.ranges.key))
    ∙ without_seen c.self.inside.tree c.args.self.now c.args.key c.self.invariant c.self.view_is
    ∙ ap (λ n. put_row c.args.key (option_map (λ n. n.value.row) n) c.args.self.now) (sym c.in-None.is)
