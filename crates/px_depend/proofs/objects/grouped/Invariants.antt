use Rattle.std.proofs.Common.{◌≡◌, ◌++◌, [], drop, unwrap_or}
use Rattle.std.specs.HashMap.{get_by}
use Rattle.px_depend.specs.Objects.{Key, is_key, nodes_of}
use Rattle.px_depend.proofs.objects.grouped.Given as goal

abbrev pub invariant-loop-touch : goal.invariant-loop-touch
invariant-loop-touch l = (key : Key) → unwrap_or (get_by (is_key key) l.nodes) [] ++ nodes_of key (drop l.touch-index l.writes) ≡ nodes_of key l.writes
