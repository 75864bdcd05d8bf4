use Rattle.std.proofs.Common.{inl, inr}
use Rattle.std.proofs.lemmas.Result.{IfErr-weaker}
use Rattle.sqlite.specs.Held.{state}
use Rattle.sql_checks.specs.Refused.{AreUnseen, IsUnseen, IsUnshown, of_version}
use Rattle.sql_checks.proofs.CauseFacts.{caused_after, caused_so}
use Rattle.sql_checks.specs.Checked.{IsRowSeen, IsSeen}
use Rattle.sql_checks.proofs.ScanFacts.{look_on, row_seen}
use Rattle.sql_checks.proofs.checking.look_through.Goals as goal

pub returns-in-Ok-true-clause-looks : goal.returns-in-Ok-true-clause-looks
returns-in-Ok-true-clause-looks g c =
    look_on (state g.S.Store c.args.conn.now) (state g.S.Store c.is_version_2.new.conn) (state g.S.Store c.look_at_rows.new.conn) c.in-Ok-true.field-0 c.look_at_rows.result _ IsRowSeen IsSeen
    c.in-Ok-true.ensures.looks c.look_at_rows.ensures.looks (λ database finding told seen. row_seen database finding (told.0 c.in-Ok-true.field-0-test) seen)

pub returns-in-Ok-true-clause-cause : goal.returns-in-Ok-true-clause-cause
returns-in-Ok-true-clause-cause g c =
    IfErr-weaker c.look_at_rows.result _ _
    (λ fault told device clean.
    caused_so AreUnseen IsUnseen (state g.S.Store c.args.conn.now) (state g.S.Store c.look_at_rows.new.conn) (λ limit database why. inr why)
    (caused_after AreUnseen (state g.S.Store c.args.conn.now) (state g.S.Store c.is_version_2.new.conn) (state g.S.Store c.look_at_rows.new.conn) c.in-Ok-true.ensures.looks.reads
    c.in-Ok-true.ensures.looks.is_open c.look_at_rows.ensures.looks.reads clean (told device clean)))
    c.look_at_rows.ensures.cause

pub returns-in-Err-clause-cause : goal.returns-in-Err-clause-cause
returns-in-Err-clause-cause g c device clean =
    caused_so (IsUnshown of_version) IsUnseen (state g.S.Store c.args.conn.now) (state g.S.Store c.is_version_2.new.conn) (λ limit database why. inl why) (c.in-Err.ensures.cause device clean)
