use Rattle.std.proofs.Common.{sym}
use Rattle.zone_lists.specs.ReceivedList.{received_list}
use Rattle.zone_lists.proofs.KeyFacts.{calm, key_added}
use Rattle.zone_lists.proofs.ListFacts.{entry_at}
use Rattle.zone_lists.proofs.received.ReceivedIdsEntries.add.Goals as goal

pub returns-clause-added : goal.returns-clause-added
returns-clause-added c =
    λ earlier listed. (
      c.in_ok-id.id,
      (entry_at c.args.n _ c.in_ok-id.id (sym c.in_ok-id.ensures), calm c.in_ok-id.id earlier),
      key_added received_list earlier c.args.self.now.ids.keys c.insert.new.self.keys c.in_ok-id.id listed c.in_ok-insert.ensures.keys,
    )
