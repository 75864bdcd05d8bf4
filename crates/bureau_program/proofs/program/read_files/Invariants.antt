-- what stands in each file so far
use Rattle.std.proofs.Common.{map, take, string_bytes}
use Rattle.run_parts.specs.Files.{AreContents}
use Rattle.bureau_program.proofs.program.read_files.Given as goal

abbrev pub invariant-loop-file : goal.invariant-loop-file
invariant-loop-file g l =
    AreContents (g.S.Files.known_file l.surroundings) (map string_bytes (take l.file-index l.files)) (map (λ file. file.items) l.connections.items)
