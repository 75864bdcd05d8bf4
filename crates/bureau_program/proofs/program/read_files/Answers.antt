use Rattle.std.proofs.Common.{◌+◌, map, take, string_bytes, subst, sym}
use Rattle.run_parts.specs.Files.{AreContents, IsContent}
use Rattle.bureau_program.proofs.ReadFacts.{one_more}
use Rattle.bureau_program.proofs.program.read_files.Goals as goal

pub loop-file-preserved : goal.loop-file-preserved
loop-file-preserved g c =
    let known = g.S.Files.known_file c.args.surroundings.now in
    let bytes = c.in_ok-read_file.field-0 in
    let now = subst (λ name. IsContent (known name) bytes.items) c.as_str.ensures.value c.in_ok-read_file.ensures.bytes in
    subst (λ read. AreContents known (map string_bytes (take (c.loop-file.file-index + 1) c.args.files.now)) (map (λ file. file.items) read))
    (sym c.in_ok-push.ensures.items)
    (one_more known string_bytes (λ file. file.items) c.args.files.now c.loop-file.connections.items c.loop-file.file-index c.file-item.result
    c.loop-file-test.true c.file-item.is bytes c.loop-file.invariant now)
