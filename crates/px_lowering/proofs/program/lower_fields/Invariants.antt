use Rattle.std.proofs.Common.{◌≡◌, ◌++◌, drop}
use Rattle.px_lowering.specs.Programs.{lowered_fields}
use Rattle.px_lowering.proofs.program.lower_fields.Given as goal

abbrev pub invariant-loop-member : goal.invariant-loop-member
invariant-loop-member l = record {
  fields : (lowered_fields l.fn.checked l.fn.members l.fn.types l.fn.nodes).fields ≡ l.fields ++ (lowered_fields l.fn.checked (drop l.member-index l.fn.members) l.left l.nodes).fields;
  nodes : (lowered_fields l.fn.checked l.fn.members l.fn.types l.fn.nodes).nodes ≡ (lowered_fields l.fn.checked (drop l.member-index l.fn.members) l.left l.nodes).nodes;
}
