use Rattle.std.proofs.Common.{◌≡◌, ◌++◌, drop, map}
use Rattle.px_job.specs.Groups.{key_of}
use Rattle.px_job.proofs.groups.keys_of.Given as goal

abbrev pub invariant-loop-node : goal.invariant-loop-node
invariant-loop-node l = l.keys ++ map (key_of l.key) (drop l.node-index l.nodes) ≡ map (key_of l.key) l.nodes
