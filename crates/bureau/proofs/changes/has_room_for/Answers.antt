use Rattle.std.proofs.Common.{rules}
use Rattle.catalogue.proofs.SourceFacts.{no_fault}
use Rattle.bureau.proofs.changes.has_room_for.Goals as goal

pub returns-clause-reads : goal.returns-clause-reads
returns-clause-reads g c = record {
  keeps = g.met.S.Store.tables_lawful.on _ _ _ c.in_ok-has_zone.ensures.reads.asks.keeps c.in_ok-zone_count.ensures.reads.asks.keeps;
  is_open = c.in_ok-zone_count.ensures.reads.asks.is_open (no_fault _);
}

pub returns-in_err-zone_count-clause-reads : goal.returns-in_err-zone_count-clause-reads
returns-in_err-zone_count-clause-reads g c = record {
  keeps = g.met.S.Store.tables_lawful.on _ _ _ c.in_ok-has_zone.ensures.reads.asks.keeps c.in_err-zone_count.ensures.reads.asks.keeps;
  is_open = search rules;
}
