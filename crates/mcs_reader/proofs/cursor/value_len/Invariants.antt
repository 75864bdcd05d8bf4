use Rattle.std.proofs.Common.{◌≡◌, ◌-◌, ◌≤◌, ◌++◌, length, take, drop}
use Rattle.mcs_reader.specs.Run.{value_run, after_value}
use Rattle.mcs_reader.proofs.cursor.value_len.Given as goal

-- the value has the bytes so far
abbrev pub invariant-bytes : goal.invariant-bytes
invariant-bytes l = record {
  within : l.len ≤ length l.columns;
  value : value_run l.columns ≡ take l.len l.columns ++ value_run (drop l.len l.columns);
  rest : after_value l.columns ≡ after_value (drop l.len l.columns);
}

abbrev pub decreases-bytes : goal.decreases-bytes
decreases-bytes l = length l.columns - l.len
