use Rattle.bureau_store.proofs.TableFacts.{counts_ascend}
use Rattle.bureau_store.proofs.clients.zone_counts.Goals as goal

pub returns-clause-ascend : goal.returns-clause-ascend
returns-clause-ascend c = counts_ascend c.args.zones.now.entries c.in_ok-counts.counts.items c.in_ok-counts.ensures.zones c.in_ok-counts.ensures.ascend
