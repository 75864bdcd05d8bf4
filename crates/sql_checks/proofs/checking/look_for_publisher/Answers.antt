use Rattle.std.proofs.Common.{◌≡◌, ◌∙◌, false, sym, true}
use Rattle.sqlite.specs.Held.{state}
use Rattle.sql_checks.specs.Checked.{IsPublisherSeen}
use Rattle.sql_checks.specs.declared.checking.Finding.TheVariants.{NoPublisher, Whole}
use Rattle.sql_checks.proofs.ScanFacts.{look_so}
use Rattle.sql_checks.proofs.checking.look_for_publisher.Goals as goal

pub returns-in-Ok-true-clause-looks : goal.returns-in-Ok-true-clause-looks
returns-in-Ok-true-clause-looks g c =
    look_so (state g.S.Store c.args.conn.now) (state g.S.Store c.has_publisher.new.conn) c.in-Ok-true.field-0 Whole _ IsPublisherSeen c.in-Ok-true.ensures.looks
    (λ database told. told.0 c.in-Ok-true.field-0-test)

pub returns-in-Ok-false-clause-looks : goal.returns-in-Ok-false-clause-looks
returns-in-Ok-false-clause-looks g c =
    look_so (state g.S.Store c.args.conn.now) (state g.S.Store c.has_publisher.new.conn) c.in-Ok-false.field-0 NoPublisher _ IsPublisherSeen c.in-Ok-false.ensures.looks
    (λ database told has. absurd (let never : false ≡ true = sym c.in-Ok-false.field-0-test ∙ told.1 has in cc))
