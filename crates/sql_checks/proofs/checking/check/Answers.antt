use Rattle.std.proofs.Common.{◌≡◌, ◌∙◌, false, sym, true}
use Rattle.std.proofs.lemmas.Result.{IfErr-weaker}
use Rattle.sqlite.specs.Held.{state}
use Rattle.sql_checks.proofs.CauseFacts.{unread}
use Rattle.sql_checks.proofs.ScanFacts.{found_so, others_found}
use Rattle.sql_checks.proofs.checking.check.Goals as goal

pub returns-in-Ok-true-clause-finds : goal.returns-in-Ok-true-clause-finds
returns-in-Ok-true-clause-finds g c =
    found_so (state g.S.Store c.args.conn.now) (state g.S.Store c.look_through.new.conn) c.look_through.result c.look_through.ensures.looks
    (λ is_open. (c.in-Ok-true.ensures.has is_open).0 c.in-Ok-true.field-0-test) c.sound.ensures

pub returns-in-Ok-true-clause-cause : goal.returns-in-Ok-true-clause-cause
returns-in-Ok-true-clause-cause g c =
    IfErr-weaker c.look_through.result _ _
    (λ fault told device clean.
    unread (state g.S.Store c.args.conn.now) (state g.S.Store c.look_through.new.conn) (λ is_open. (c.in-Ok-true.ensures.has is_open).0 c.in-Ok-true.field-0-test) (told device clean))
    c.look_through.ensures.cause

pub returns-in-Ok-false-clause-finds : goal.returns-in-Ok-false-clause-finds
returns-in-Ok-false-clause-finds g c =
    others_found (state g.S.Store c.args.conn.now) c.other_tables.result
    (λ on is. let never : false ≡ true = sym c.in-Ok-false.field-0-test ∙ (c.in-Ok-false.ensures.has on).1 is in cc) c.other_tables.ensures.finding
