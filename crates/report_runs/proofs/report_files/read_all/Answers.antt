use Rattle.std.proofs.Common.{◌+◌, [], ◌∷◌, map, take, string_bytes, subst, sym}
use Rattle.report_runs.specs.ReportFiles.{AreRead, IsFirstUnread, IsRead}
use Rattle.report_runs.proofs.ReportFilesFacts.{first_at, read_more, unread_of}
use Rattle.report_runs.proofs.report_files.read_all.Goals as goal

pub loop-name-preserved : goal.loop-name-preserved
loop-name-preserved g c =
    let known = g.S.Files.known_file c.args.surroundings.now in
    let bytes = c.in_ok-read_named.field-0 in
    let now = subst (λ name. IsRead known name bytes.items (g.I.Read.remaining c.loop-name.input) (g.I.Read.remaining c.read_named.new.input)) c.as_str.ensures.value c.in_ok-read_named.ensures.read in
    subst (λ read. AreRead known (map string_bytes (take (c.loop-name.name-index + 1) c.args.names.now)) (map (λ bytes. bytes.items) read)
    (g.I.Read.remaining c.args.input.now) (g.I.Read.remaining c.read_named.new.input)) (sym c.in_ok-push.ensures.items)
    (read_more known string_bytes (λ bytes. bytes.items) c.args.names.now c.loop-name.all.items c.loop-name.name-index c.name-item.result
    c.loop-name-test.true c.name-item.is bytes _ _ _ c.loop-name.invariant now)

-- this file can't be read, and those before it were
pub returns-in_err-read_named-clause-fault : goal.returns-in_err-read_named-clause-fault
returns-in_err-read_named-clause-fault g c =
    let known = g.S.Files.known_file c.args.surroundings.now in
    let between = g.I.Read.remaining c.loop-name.input in
    let input = g.I.Read.remaining c.args.input.now in
    let rest = g.I.Read.remaining c.read_named.new.input in
    unread_of known c.from_residual-in_err-read_named.result (c.as_str.result.now ∷ []) (map string_bytes c.args.names.now) between input rest
    c.in_err-read_named.field-0.0 c.from_residual-in_err-read_named.ensures.1 c.in_err-read_named.ensures.fault
    (λ name is. first_at known string_bytes c.args.names.now c.loop-name.name-index c.name-item.result (map (λ bytes. bytes.items) c.loop-name.all.items) name input between rest
    c.loop-name-test.true c.name-item.is c.loop-name.invariant
    (subst (λ n. IsFirstUnread known (n ∷ []) name between rest) c.as_str.ensures.value is))
