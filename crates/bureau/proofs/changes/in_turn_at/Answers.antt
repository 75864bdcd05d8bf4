use Rattle.std.proofs.Common.{sym, ◌∙◌, ap, subst, rules}
use Rattle.catalogue.proofs.SourceFacts.{no_fault, told_so}
use Rattle.bureau_store.specs.Tables.{zone_named}
use Rattle.bureau_store.specs.declared.caller.Caller.TheVariants.{Client}
use Rattle.bureau.specs.Outcome.{answered, of_zone}
use Rattle.bureau.specs.Outcomes.{IsInTurn}
use Rattle.bureau.proofs.ChangeFacts.{zone_missing}
use Rattle.bureau.proofs.SeenFacts.{seen, then_seen}
use Rattle.bureau.proofs.changes.in_turn_at.Goals as goal

pub returns-in-Err-clause-order : goal.returns-in-Err-clause-order
returns-in-Err-clause-order g c =
    told_so c.in_ok-next.ensures.order (λ this order change.
    let late = subst (IsInTurn (this.last (Client c.args.client.now)) c.args.number) c.in-Err.is order in
    late (of_zone (zone_named c.args.zone.now (this.zones c.args.client.now)) change))

pub returns-then-not-branch-clause-order : goal.returns-then-not-branch-clause-order
returns-then-not-branch-clause-order g c =
    let both = then_seen g.met.S.Store.tables_lawful (seen c.in_ok-next.ensures.order c.in_ok-next.ensures.reads.keeps) c.in_ok-has_zone.ensures.found c.in_ok-has_zone.ensures.reads.asks.keeps in
    told_so both.told (λ this facts change.
    let found = zone_named c.args.zone.now (this.zones c.args.client.now) in
    let timely = subst (IsInTurn (this.last (Client c.args.client.now)) c.args.number) c.in-Ok.is facts.0 in
    timely.1 (of_zone found change) ∙ zone_missing found change (sym facts.1 ∙ c.if-not-branch.true) ∙ ap answered (sym c.in_ok-not_found.ensures))

pub returns-clause-order : goal.returns-clause-order
returns-clause-order g c =
    let both = then_seen g.met.S.Store.tables_lawful (seen c.in_ok-next.ensures.order c.in_ok-next.ensures.reads.keeps) c.in_ok-has_zone.ensures.found c.in_ok-has_zone.ensures.reads.asks.keeps in
    told_so both.told (λ this facts. (
      subst (IsInTurn (this.last (Client c.args.client.now)) c.args.number) c.in-Ok.is facts.0,
      sym facts.1 ∙ c.if-not-branch.false,
    ))

pub returns-clause-reads : goal.returns-clause-reads
returns-clause-reads g c = record {
  keeps = g.met.S.Store.tables_lawful.on _ _ _ c.in_ok-next.ensures.reads.keeps c.in_ok-has_zone.ensures.reads.asks.keeps;
  is_open = c.in_ok-has_zone.ensures.reads.asks.is_open (no_fault _);
}

pub returns-then-not-branch-clause-reads : goal.returns-then-not-branch-clause-reads
returns-then-not-branch-clause-reads g c = record {
  keeps = g.met.S.Store.tables_lawful.on _ _ _ c.in_ok-next.ensures.reads.keeps c.in_ok-has_zone.ensures.reads.asks.keeps;
  is_open = c.in_ok-has_zone.ensures.reads.asks.is_open (no_fault _);
}

pub returns-in_err-has_zone-clause-reads : goal.returns-in_err-has_zone-clause-reads
returns-in_err-has_zone-clause-reads g c = record {
  keeps = g.met.S.Store.tables_lawful.on _ _ _ c.in_ok-next.ensures.reads.keeps c.in_err-has_zone.ensures.reads.asks.keeps;
  is_open = search rules;
}

pub returns-in_err-not_found-clause-reads : goal.returns-in_err-not_found-clause-reads
returns-in_err-not_found-clause-reads g c = record {
  keeps = g.met.S.Store.tables_lawful.on _ _ _ c.in_ok-next.ensures.reads.keeps c.in_ok-has_zone.ensures.reads.asks.keeps;
  is_open = search rules;
}
