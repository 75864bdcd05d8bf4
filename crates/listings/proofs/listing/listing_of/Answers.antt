use Rattle.std.proofs.Common.{◌∙◌, ap, map}
use Rattle.catalogue.proofs.TellingFacts.{told_by_two}
use Rattle.listings.specs.Sights.{sight_of}
use Rattle.listings.proofs.listing.listing_of.Goals as goal

pub returns-clause-listing : goal.returns-clause-listing
returns-clause-listing g c =
    let law = g.met.P.Published.lawful in
    told_by_two (law.keeps _ _ c.in_ok-ids.ensures.asks.keeps) (law.keeps _ _ c.in_ok-entries.ensures.asks.keeps) c.in_ok-ids.ensures.ids c.in_ok-entries.ensures.entries (λ content ids entries. record {
      ids = ids;
      sights = entries ∙ ap (map (sight_of content)) c.deref.ensures.value;
    })
