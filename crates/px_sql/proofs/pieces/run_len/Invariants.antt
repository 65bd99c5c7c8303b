use Rattle.std.proofs.Common.{◌≡◌, ◌≤◌, ◌-◌, length, take, true}
use Rattle.std.specs.List.{list_all}
use Rattle.px_sql.specs.Spelling.{is_part}
use Rattle.px_sql.proofs.pieces.run_len.Given as goal

abbrev pub invariant-loop-len : goal.invariant-loop-len
invariant-loop-len l =
    record {
      within : l.len ≤ length l.text;
      run : list_all is_part (take l.len l.text) ≡ true;
    }

abbrev pub decreases-loop-len : goal.decreases-loop-len
decreases-loop-len l = length l.text - l.len
