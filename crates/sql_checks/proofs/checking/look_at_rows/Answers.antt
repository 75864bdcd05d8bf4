use Rattle.std.proofs.Common.{◌≡◌, None, rules, subst}
use Rattle.std.proofs.lemmas.Result.{IfErr-weaker}
use Rattle.sqlite.specs.Held.{state}
use Rattle.sql_tables.specs.Ours.{held_by}
use Rattle.sql_checks.specs.Checked.{IsPublisherSeen, IsRowSeen, WrongIn}
use Rattle.sql_checks.specs.Refused.{AreUnseen}
use Rattle.sql_checks.proofs.CauseFacts.{caused_after}
use Rattle.sql_checks.proofs.ScanFacts.{look_on, publisher_seen}
use Rattle.sql_checks.proofs.checking.look_at_rows.Goals as goal

pub returns-in-Ok-None-clause-looks : goal.returns-in-Ok-None-clause-looks
returns-in-Ok-None-clause-looks g c =
    let none : c.in-Ok-None.field-0 ≡ None = search (rules, c.in-Ok-None.field-0-is) in
    look_on (state g.S.Store c.args.conn.now) (state g.S.Store c.wrong_among.new.conn) (state g.S.Store c.look_for_publisher.new.conn) c.in-Ok-None.field-0 c.look_for_publisher.result _ IsPublisherSeen
    IsRowSeen c.in-Ok-None.ensures.looks c.look_for_publisher.ensures.looks
    (λ database finding found seen. publisher_seen database finding (c.all.ensures (held_by database) (subst (WrongIn c.all.result (held_by database)) none found)) seen)

pub returns-in-Ok-None-clause-cause : goal.returns-in-Ok-None-clause-cause
returns-in-Ok-None-clause-cause g c =
    IfErr-weaker c.look_for_publisher.result _ _
    (λ fault told device clean.
    caused_after AreUnseen (state g.S.Store c.args.conn.now) (state g.S.Store c.wrong_among.new.conn) (state g.S.Store c.look_for_publisher.new.conn) c.in-Ok-None.ensures.looks.reads
    c.in-Ok-None.ensures.looks.is_open c.look_for_publisher.ensures.looks.reads clean (told device clean))
    c.look_for_publisher.ensures.cause
