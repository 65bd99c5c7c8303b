use Rattle.std.proofs.Common.{rules, arith, not, ◌==◌, ap, sym, subst, ◌∙◌, ◌≡◌}
use Rattle.std.proofs.lemmas.Fn.{filter_same}
use Rattle.px_locks.specs.Locks.{Book, without}
use Rattle.px_locks.specs.Spots.{IsInOrder}
use Rattle.px_locks.specs.declared.want.Grant.{Grant as GrantData}
use Rattle.px_locks.proofs.Range.{in_order_filter}
use Rattle.px_locks.proofs.book.LockBook.release.Goals as goal

pub invariant_of-self : goal.invariant_of-self
invariant_of-self c =
    let kept : c.retain.new.self.items ≡ without c.args.session c.self.inside.grants.items = filter_same _ (λ (x : GrantData). not (x.session == c.args.session)) _ (λ x b f' k. search rules) _ _ c.retain.ensures.filtered in
    (subst IsInOrder (sym kept) (in_order_filter (λ (x : GrantData). not (x.session == c.args.session)) _ c.self.invariant.0), omega arith)

pub returns-clause-grants : goal.returns-clause-grants
returns-clause-grants c = filter_same _ (λ (x : GrantData). not (x.session == c.args.session)) _ (λ x b f' k. search rules) _ _ c.retain.ensures.filtered ∙ ap (λ (b : Book). without c.args.session b.grants) c.self.view_is
