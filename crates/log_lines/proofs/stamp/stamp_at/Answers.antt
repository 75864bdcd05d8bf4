use Rattle.std.proofs.Common.{◌≡◌, take, drop, subst, sym, ◌∙◌}
use Rattle.log_lines.specs.Stamps.{month_named}
use Rattle.log_lines.specs.Words.{AreShown}
use Rattle.log_lines.proofs.StampFacts.{Shows, date_shows, stamped, stamp_shown}
use Rattle.log_lines.proofs.stamp.stamp_at.Goals as goal

pub returns : goal.returns
returns c =
    let date = c.args.date.now in
    let shows : Shows date.parts c.to_bytes-text.result = subst (Shows date.parts) (sym c.to_bytes-text.ensures) (date_shows date) in
    let month : c.month_named.result ≡ month_named (take 3 (drop 8 c.to_bytes-text.result)) = c.month_named.ensures in
    c.printed.ensures ∙ stamped date.parts c.args.millis c.month_named.result c.to_bytes-text.result c.two_digits-month.result c.two_digits-tenth.result c.two_digits-last.result
    shows (month ∙ shows.month) c.two_digits-month.ensures c.two_digits-tenth.ensures c.two_digits-last.ensures c.requires

pub printed-requires-clause-shown : goal.printed-requires-clause-shown
printed-requires-clause-shown c =
    let date = c.args.date.now in
    let shows : Shows date.parts c.to_bytes-text.result = subst (Shows date.parts) (sym c.to_bytes-text.ensures) (date_shows date) in
    let month : c.month_named.result ≡ month_named (take 3 (drop 8 c.to_bytes-text.result)) = c.month_named.ensures in
    subst AreShown (sym (stamped date.parts c.args.millis c.month_named.result c.to_bytes-text.result c.two_digits-month.result c.two_digits-tenth.result c.two_digits-last.result
    shows (month ∙ shows.month) c.two_digits-month.ensures c.two_digits-tenth.ensures c.two_digits-last.ensures c.requires)) (stamp_shown date c.args.millis c.requires)
