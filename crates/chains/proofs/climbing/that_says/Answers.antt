use Rattle.std.proofs.Common.{◌≡◌, ◌∙◌, false, sym}
use Rattle.std.specs.Borrow.{Bor}
use Rattle.lemmas.proofs.ListFacts.{any_at}
use Rattle.lemmas.proofs.ResultFacts.{if_some, some_is}
use Rattle.catalogue.specs.Ids.{same_id}
use Rattle.catalogue.proofs.IdFacts.{itself}
use Rattle.supersede.specs.Reach.{has}
use Rattle.listings.specs.Marks.{IsListingBut, SaysOf}
use Rattle.listings.specs.Sights.{ListingLists}
use Rattle.chains.proofs.climbing.that_says.Goals as goal

pub returns : goal.returns
returns c = λ content at_hand.
    let marks = c.args.marks.now in
    let id = c.args.id.now in
    let off : has marks id ≡ false = sym c.is_marked.ensures ∙ c.if-is_marked.false in
    if_some (λ (listing : Bor ListingLists). SaysOf content id listing.now) c.args.listing (λ listing is. record {
      marks = marks;
      but = some_is (λ (listing : Bor ListingLists). IsListingBut content marks listing.now) c.args.listing listing is at_hand;
      unmarked = λ inside. (let on = any_at (same_id id) marks id inside (itself id) in absurd (cc));
    })
