use Rattle.std.proofs.Common.{◌≡◌, ◌∙◌, Err, ap, map, rules, sym, take}
use Rattle.std.proofs.lemmas.List.{take_all}
use Rattle.catalogue.specs.Content.{record_of}
use Rattle.catalogue.specs.Seen.{seen_in}
use Rattle.catalogue.specs.declared.fault.SourceFault.TheVariants.{Device}
use Rattle.catalogue.proofs.TellingFacts.{tells_on}
use Rattle.bureau_sql.specs.Laws.{sql_content_lawful, sql_content_view}
use Rattle.bureau_sql.proofs.SeenFacts.{one_more_seen, refused_after}
use Rattle.bureau_sql.proofs.store.SqlStore.each_seen.Goals as goal

pub returns-in_err-holds-clause-asks : goal.returns-in_err-holds-clause-asks
returns-in_err-holds-clause-asks g c =
    let view = sql_content_view g.S.Store in
    let lawful = sql_content_lawful g.S.Store in
    let is : c.from_residual-in_err-holds.result ≡ Err c.in_err-holds.field-0.0 = search (rules, c.from_residual-in_err-holds.ensures) in
    refused_after view lawful Device c.args.self.now c.sysmod.new.self c.holds_on.new.self c.in_err-holds.field-0.0 c.from_residual-in_err-holds.result
    (lawful.on c.args.self.now c.loop-id.self c.sysmod.new.self c.loop-id.invariant.keeps c.in_ok-sysmod.ensures.asks.keeps) (λ standing. c.in_ok-sysmod.ensures.asks.is_open (λ none. cc))
    c.in_err-holds.ensures.asks is

pub loop-id-preserved : goal.loop-id-preserved
loop-id-preserved g c =
    let lawful = sql_content_lawful g.S.Store in
    let one = tells_on {Other = λ content. (c.loop-id.found.items ≡ map (seen_in content) (take c.loop-id.id-index c.args.ids.now)) × (c.in_ok-sysmod.sysmod ≡ record_of content c.id-item.result)}
    lawful c.loop-id.invariant c.in_ok-sysmod.ensures.asks.keeps (λ standing. c.in_ok-sysmod.ensures.asks.is_open (λ none. cc)) c.in_ok-sysmod.ensures.sysmod (λ content so_far sysmod. (so_far, sysmod)) in
    tells_on lawful one c.in_ok-holds.ensures.asks.keeps (λ standing. c.in_ok-holds.ensures.asks.is_open (λ none. cc)) c.in_ok-holds.ensures.holds
    (λ content facts holds.
    c.in_ok-push.ensures.items
    ∙ one_more_seen content c.args.ids.now c.loop-id.id-index c.id-item.result c.loop-id.found.items c.in_ok-sysmod.sysmod c.in_ok-holds.holds.items c.loop-id-test.true (sym c.id-item.is) facts.0 facts.1 holds)

pub returns-clause-seen : goal.returns-clause-seen
returns-clause-seen g c = record {
  told = λ ours clean content stands.
      c.loop-id.invariant.told.told ours clean content stands ∙ ap (map (seen_in content)) (take_all c.loop-id.id-index c.args.ids.now c.loop-id-test.false);
}
