use Rattle.std.proofs.Common.{map, string_bytes, subst}
use Rattle.std.specs.Option.{option_map, option_to_list}
use Rattle.report_runs.specs.ReportFiles.{IsFirstUnread, IsRead, names_in}
use Rattle.report_runs.proofs.ReportFilesFacts.{categories_unread, publications_unread, received_unread, unread_of}
use Rattle.report_runs.proofs.report_files.read_files.Goals as goal

pub returns-in_err-categories-clause-fault : goal.returns-in_err-categories-clause-fault
returns-in_err-categories-clause-fault g c =
    let known = g.S.Files.known_file c.args.surroundings.now in
    let names = c.args.files.now in
    let input = g.I.Read.remaining c.args.input.now in
    let between = g.I.Read.remaining c.read_named.new.input in
    let rest = g.I.Read.remaining c.read_given.new.input in
    let zone_read = subst (λ name. IsRead known name c.in_ok-zone.zone.items input between) c.as_str.ensures.value c.in_ok-zone.ensures.read in
    unread_of known c.from_residual-in_err-categories.result (option_to_list (option_map string_bytes names.categories)) (names_in names) between input rest
    c.in_err-categories.field-0.0 c.from_residual-in_err-categories.ensures.1 c.in_err-categories.ensures.fault
    (λ name is. categories_unread known names name c.in_ok-zone.zone.items input between rest zone_read is)

pub returns-in_err-received-clause-fault : goal.returns-in_err-received-clause-fault
returns-in_err-received-clause-fault g c =
    let known = g.S.Files.known_file c.args.surroundings.now in
    let names = c.args.files.now in
    let input = g.I.Read.remaining c.args.input.now in
    let between = g.I.Read.remaining c.read_named.new.input in
    let later = g.I.Read.remaining c.read_given.new.input in
    let rest = g.I.Read.remaining c.read_given-2.new.input in
    let zone_read = subst (λ name. IsRead known name c.in_ok-zone.zone.items input between) c.as_str.ensures.value c.in_ok-zone.ensures.read in
    unread_of known c.from_residual-in_err-received.result (option_to_list (option_map string_bytes names.received)) (names_in names) later input rest
    c.in_err-received.field-0.0 c.from_residual-in_err-received.ensures.1 c.in_err-received.ensures.fault
    (λ name is. received_unread known names name c.in_ok-zone.zone.items (option_map (λ bytes. bytes.items) c.in_ok-categories.categories)
    input between later rest zone_read c.in_ok-categories.ensures.read is)

pub returns-in_err-publications-clause-fault : goal.returns-in_err-publications-clause-fault
returns-in_err-publications-clause-fault g c =
    let known = g.S.Files.known_file c.args.surroundings.now in
    let names = c.args.files.now in
    let input = g.I.Read.remaining c.args.input.now in
    let between = g.I.Read.remaining c.read_named.new.input in
    let later = g.I.Read.remaining c.read_given.new.input in
    let last = g.I.Read.remaining c.read_given-2.new.input in
    let rest = g.I.Read.remaining c.read_all.new.input in
    let zone_read = subst (λ name. IsRead known name c.in_ok-zone.zone.items input between) c.as_str.ensures.value c.in_ok-zone.ensures.read in
    unread_of known c.from_residual-in_err-publications.result (map string_bytes c.as_slice-names.result.now) (names_in names) last input rest
    c.in_err-publications.field-0.0 c.from_residual-in_err-publications.ensures.1 c.in_err-publications.ensures.fault
    (λ name is. publications_unread known names name c.in_ok-zone.zone.items (option_map (λ bytes. bytes.items) c.in_ok-categories.categories)
    (option_map (λ bytes. bytes.items) c.in_ok-received.received) input between later last rest zone_read c.in_ok-categories.ensures.read c.in_ok-received.ensures.read
    (subst (λ ns. IsFirstUnread known (map string_bytes ns) name last rest) c.as_slice-names.ensures.value is))
