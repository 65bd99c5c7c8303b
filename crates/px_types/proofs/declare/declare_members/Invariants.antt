use Rattle.std.proofs.Common.{◌≡◌, ◌≤◌, drop}
use Rattle.std.specs.Prelude.{fold}
use Rattle.px_type_rules.specs.Breaches.{after}
use Rattle.px_types.specs.Members.{members_in, with_member, no_members}
use Rattle.px_types.specs.Programs.{members_notes}
use Rattle.px_types.proofs.declare.declare_members.Given as goal

abbrev pub invariant-loop-member : goal.invariant-loop-member
invariant-loop-member l = record {
  fields : l.fields ≤ l.member-index;
  members : fold (with_member l.fn.numbers) l.members (drop l.member-index l.fn.declared) ≡ members_in l.fn.numbers l.fn.declared;
  notes : after l.report (members_notes l.fn.numbers l.fields l.members (drop l.member-index l.fn.declared)) ≡ after l.fn.report (members_notes l.fn.numbers 0 no_members l.fn.declared);
}
