use Rattle.std.proofs.Common.{map, take, string_bytes}
use Rattle.report_runs.specs.ReportFiles.{AreRead}
use Rattle.report_runs.proofs.report_files.read_all.Given as goal

-- what was read so far
abbrev pub invariant-loop-name : goal.invariant-loop-name
invariant-loop-name g l =
    AreRead (g.S.Files.known_file l.surroundings) (map string_bytes (take l.name-index l.names)) (map (λ bytes. bytes.items) l.all.items)
    (g.I.Read.remaining l.fn.input) (g.I.Read.remaining l.input)
