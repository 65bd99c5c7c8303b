use Rattle.std.proofs.Common.{◌≡◌, ◌≤◌, ◌-◌, ◌++◌, length, take, drop}
use Rattle.px_pyxil_reader.specs.Reading.{cut_at}
use Rattle.px_pyxil_reader.proofs.words.cut_at.Given as goal

abbrev pub invariant-loop-len : goal.invariant-loop-len
invariant-loop-len l = record {
  within : l.len ≤ length l.bytes;
  same : (take l.len l.bytes ++ (cut_at l.byte (drop l.len l.bytes)).0, (cut_at l.byte (drop l.len l.bytes)).1) ≡ cut_at l.byte l.bytes;
}

abbrev pub decreases-loop-len : goal.decreases-loop-len
decreases-loop-len l = length l.bytes - l.len
