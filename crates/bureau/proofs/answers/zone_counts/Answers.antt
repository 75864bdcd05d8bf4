use Rattle.std.proofs.Common.{◌∙◌, ap, rules}
use Rattle.catalogue.proofs.SourceFacts.{no_fault, told_so}
use Rattle.bureau.specs.Outcome.{as_json}
use Rattle.bureau.proofs.QuestionFacts.{counts_absent, counts_told, with_rows, without_rows}
use Rattle.bureau.proofs.SeenFacts.{seen, then_seen}
use Rattle.bureau.proofs.ShownFacts.{asked_after, shown_keeps, shown_tells, then_shown}
use Rattle.bureau.proofs.answers.zone_counts.Goals as goal

pub returns-clause-reads : goal.returns-clause-reads
returns-clause-reads g c =
    let law = g.met.S.Store.tables_lawful in
    asked_after g.met.S.Store.shows_content law (law.on _ _ _ (law.on _ _ _ (law.on _ _ _ c.in_ok-rows.ensures.reads.asks.keeps c.in_ok-patterns.ensures.reads.asks.keeps) c.in_ok-errors.ensures.reads.asks.keeps) c.in_ok-fixes.ensures.reads.asks.keeps)
    (c.in_ok-fixes.ensures.reads.asks.is_open (no_fault _)) c.in_ok-text.ensures.asks

pub returns-clause-reply : goal.returns-clause-reply
returns-clause-reply g c =
    let tables = g.met.S.Store in
    let law = tables.tables_lawful in
    let rows = seen c.in_ok-rows.ensures.zone c.in_ok-rows.ensures.reads.asks.keeps in
    let patterns = then_seen law rows c.in_ok-patterns.ensures.patterns c.in_ok-patterns.ensures.reads.asks.keeps in
    let errors = then_seen law patterns c.in_ok-errors.ensures.holds c.in_ok-errors.ensures.reads.asks.keeps in
    let fixes = then_seen law errors c.in_ok-fixes.ensures.holds c.in_ok-fixes.ensures.reads.asks.keeps in
    let text = then_seen law fixes (shown_tells tables.shows_content c.in_ok-text.ensures.text) (shown_keeps tables.shows_content c.in_ok-text.ensures.asks.keeps) in
    told_so text.told (λ this facts right.
    counts_told c.args.client.now c.args.zone.now this _ c.in-Some.rows.items c.from_rows-installed.result _ _ c.json.result
    (with_rows _ c.in_ok-rows.field-0 c.in-Some.rows _ c.in-Some.is facts.0.0.0.0)
    (c.deref.ensures.value ∙ facts.0.0.0.1)
    (c.deref-2.ensures.value ∙ facts.0.0.1)
    (c.deref-3.ensures.value ∙ facts.0.1)
    c.from_rows-installed.ensures
    (c.json.ensures ∙ ap as_json (facts.1 right)))

pub returns-in_default-clause-reply : goal.returns-in_default-clause-reply
returns-in_default-clause-reply g c =
    told_so c.in_ok-rows.ensures.zone (λ this found right.
    counts_absent c.args.client.now c.args.zone.now this c.in_ok-not_found.field-0
    (without_rows _ c.in_ok-rows.field-0 _ c.in_default.not-Some found) c.in_ok-not_found.ensures)

pub returns-clause-right : goal.returns-clause-right
returns-clause-right g c =
    let law = g.met.S.Store.tables_lawful in
    then_shown g.met.S.Store.shows_content law (law.on _ _ _ (law.on _ _ _ (law.on _ _ _ c.in_ok-rows.ensures.reads.asks.keeps c.in_ok-patterns.ensures.reads.asks.keeps) c.in_ok-errors.ensures.reads.asks.keeps) c.in_ok-fixes.ensures.reads.asks.keeps) c.in_ok-text.ensures.asks.keeps c.in_ok-text.ensures.right

pub returns-in_err-patterns-clause-reads : goal.returns-in_err-patterns-clause-reads
returns-in_err-patterns-clause-reads g c =
    let law = g.met.S.Store.tables_lawful in
    record { keeps = law.on _ _ _ c.in_ok-rows.ensures.reads.asks.keeps c.in_err-patterns.ensures.reads.asks.keeps; is_open = search rules }

pub returns-in_err-errors-clause-reads : goal.returns-in_err-errors-clause-reads
returns-in_err-errors-clause-reads g c =
    let law = g.met.S.Store.tables_lawful in
    record { keeps = law.on _ _ _ (law.on _ _ _ c.in_ok-rows.ensures.reads.asks.keeps c.in_ok-patterns.ensures.reads.asks.keeps) c.in_err-errors.ensures.reads.asks.keeps; is_open = search rules }

pub returns-in_err-fixes-clause-reads : goal.returns-in_err-fixes-clause-reads
returns-in_err-fixes-clause-reads g c =
    let law = g.met.S.Store.tables_lawful in
    record { keeps = law.on _ _ _ (law.on _ _ _ (law.on _ _ _ c.in_ok-rows.ensures.reads.asks.keeps c.in_ok-patterns.ensures.reads.asks.keeps) c.in_ok-errors.ensures.reads.asks.keeps) c.in_err-fixes.ensures.reads.asks.keeps; is_open = search rules }

pub returns-in_err-text-clause-reads : goal.returns-in_err-text-clause-reads
returns-in_err-text-clause-reads g c =
    let law = g.met.S.Store.tables_lawful in
    let before = law.on _ _ _ (law.on _ _ _ (law.on _ _ _ c.in_ok-rows.ensures.reads.asks.keeps c.in_ok-patterns.ensures.reads.asks.keeps) c.in_ok-errors.ensures.reads.asks.keeps) c.in_ok-fixes.ensures.reads.asks.keeps in
    record { keeps = law.on _ _ _ before (shown_keeps g.met.S.Store.shows_content c.in_err-text.ensures.asks.keeps); is_open = search rules }

pub returns-in_err-text-clause-right : goal.returns-in_err-text-clause-right
returns-in_err-text-clause-right g c =
    let law = g.met.S.Store.tables_lawful in
    then_shown g.met.S.Store.shows_content law (law.on _ _ _ (law.on _ _ _ (law.on _ _ _ c.in_ok-rows.ensures.reads.asks.keeps c.in_ok-patterns.ensures.reads.asks.keeps) c.in_ok-errors.ensures.reads.asks.keeps) c.in_ok-fixes.ensures.reads.asks.keeps) c.zone_counts_text.ensures.asks.keeps c.zone_counts_text.ensures.right
