use Rattle.std.proofs.Common.{◌∙◌, ap, rules}
use Rattle.catalogue.proofs.SourceFacts.{no_fault, told_so}
use Rattle.bureau_store.specs.Tables.{zone_named}
use Rattle.bureau.specs.Outcome.{as_json}
use Rattle.bureau.proofs.QuestionFacts.{chain_told, with_rows}
use Rattle.bureau.proofs.SeenFacts.{seen, then_seen}
use Rattle.bureau.proofs.ShownFacts.{asked_after, shown_keeps, shown_tells, then_shown}
use Rattle.bureau.proofs.answers.chain.Goals as goal

pub returns-clause-reads : goal.returns-clause-reads
returns-clause-reads g c =
    asked_after g.met.S.Store.shows_content g.met.S.Store.tables_lawful c.in_ok-rows.ensures.reads.asks.keeps (c.in_ok-rows.ensures.reads.asks.is_open (no_fault _)) c.in_ok-text.ensures.asks

pub returns-clause-reply : goal.returns-clause-reply
returns-clause-reply g c =
    let tables = g.met.S.Store in
    let rows = seen c.in_ok-rows.ensures.zone c.in_ok-rows.ensures.reads.asks.keeps in
    let text = then_seen tables.tables_lawful rows (shown_tells tables.shows_content c.in_ok-text.ensures.text) (shown_keeps tables.shows_content c.in_ok-text.ensures.asks.keeps) in
    told_so text.told (λ this facts right.
    chain_told this.content c.args.zone.now c.args.sysmod.now (zone_named c.args.zone.now (this.zones c.args.client.now)) c.in-Some.rows.items c.from_rows-installed.result c.json.result
    (with_rows _ c.in_ok-rows.field-0 c.in-Some.rows _ c.in-Some.is facts.0) c.from_rows-installed.ensures (c.json.ensures ∙ ap as_json (facts.1 right)))

pub returns-clause-right : goal.returns-clause-right
returns-clause-right g c = then_shown g.met.S.Store.shows_content g.met.S.Store.tables_lawful c.in_ok-rows.ensures.reads.asks.keeps c.in_ok-text.ensures.asks.keeps c.in_ok-text.ensures.right

pub returns-in_err-text-clause-reads : goal.returns-in_err-text-clause-reads
returns-in_err-text-clause-reads g c = record {
  keeps = g.met.S.Store.tables_lawful.on _ _ _ c.in_ok-rows.ensures.reads.asks.keeps (shown_keeps g.met.S.Store.shows_content c.in_err-text.ensures.asks.keeps);
  is_open = search rules;
}

pub returns-in_err-text-clause-right : goal.returns-in_err-text-clause-right
returns-in_err-text-clause-right g c = then_shown g.met.S.Store.shows_content g.met.S.Store.tables_lawful c.in_ok-rows.ensures.reads.asks.keeps c.chain_text.ensures.asks.keeps c.chain_text.ensures.right
