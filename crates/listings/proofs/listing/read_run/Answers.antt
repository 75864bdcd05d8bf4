use Rattle.std.proofs.Common.{◌∙◌, ◌++◌, ap}
use Rattle.catalogue.proofs.SourceFacts.{told_so}
use Rattle.listings.proofs.RenewFacts.{sights_seen}
use Rattle.listings.proofs.listing.read_run.Goals as goal

pub returns-clause-entries : goal.returns-clause-entries
returns-clause-entries g c =
    told_so c.in_ok-read.ensures.seen (λ content seen.
    c.in_ok-push_entries.ensures ∙ ap (λ l. c.args.entries.now.items ++ l) (sights_seen content c.args.run.now c.in_ok-read.read.items seen))
