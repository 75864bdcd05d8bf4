use Rattle.std.proofs.Common.{◌≡◌, ◌∷◌, rules}
use Rattle.std.proofs.lemmas.Result.{IfErr-weaker}
use Rattle.sqlite.specs.Held.{state}
use Rattle.sql_tables.specs.Ours.{held_by}
use Rattle.sql_checks.specs.Checked.{WrongIn}
use Rattle.sql_checks.specs.Refused.{AreUnseen, IsUnshown, of_rows}
use Rattle.sql_checks.proofs.CauseFacts.{caused_after, caused_so}
use Rattle.sql_checks.proofs.ScanFacts.{look_on, wrong_more}
use Rattle.sql_checks.proofs.scan.+wrong_among.Goals as goal

pub returns-in-Ok-true-clause-looks : goal.returns-in-Ok-true-clause-looks
returns-in-Ok-true-clause-looks g t c =
    let are : c.args.tables.now ≡ c.in-Some.table.now ∷ c.in-Some.tables.now = search (rules, c.in-Some.ensures.cases, c.in-Some.table-is, c.in-Some.tables-is) in
    look_on (state g.S.Store c.args.conn.now) (state g.S.Store c.rows_keep.new.conn) (state g.S.Store c.wrong_among.new.conn) c.in-Ok-true.field-0 c.wrong_among.result _
    (λ database found. WrongIn c.in-Some.tables.now (held_by database) found) (λ database found. WrongIn c.args.tables.now (held_by database) found)
    c.in-Ok-true.ensures.looked.looks c.wrong_among.ensures.looks
    (λ database found told wrong.
    wrong_more (held_by database) c.in-Some.table.now c.in-Some.tables.now c.args.tables.now are (told.0 c.in-Ok-true.field-0-test) found wrong)

pub returns-in-Ok-true-clause-cause : goal.returns-in-Ok-true-clause-cause
returns-in-Ok-true-clause-cause g t c =
    IfErr-weaker c.wrong_among.result _ _
    (λ fault told device clean.
    caused_after AreUnseen (state g.S.Store c.args.conn.now) (state g.S.Store c.rows_keep.new.conn) (state g.S.Store c.wrong_among.new.conn) c.in-Ok-true.ensures.looked.looks.reads
    c.in-Ok-true.ensures.looked.looks.is_open c.wrong_among.ensures.looks.reads clean (told device clean))
    c.wrong_among.ensures.cause

pub returns-in-Err-clause-cause : goal.returns-in-Err-clause-cause
returns-in-Err-clause-cause g t c device clean =
    caused_so (IsUnshown (of_rows c.in-Some.table.now)) AreUnseen (state g.S.Store c.args.conn.now) (state g.S.Store c.rows_keep.new.conn) (λ limit database why. (c.in-Some.table.now, why))
    (c.in-Err.ensures.looked.cause device clean)
