use Rattle.std.proofs.Common.{◌≡◌, ◌≤◌, length, map, take, string_bytes}
use Rattle.report_runs.specs.ReportFiles.{standard_inputs}
use Rattle.report_runs.proofs.report_files.standard_inputs_in.Given as goal

-- how many of the names so far are `-`
abbrev pub invariant-loop-name : goal.invariant-loop-name
invariant-loop-name l = (l.count ≡ length (standard_inputs (map string_bytes (take l.name-index l.names)))) × (l.count ≤ l.name-index)
