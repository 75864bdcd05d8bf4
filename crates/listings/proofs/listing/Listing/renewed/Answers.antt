use Rattle.std.proofs.Common.{◌∙◌, ◌++◌, List, ℕ, ap, map, subst, sym}
use Rattle.catalogue.specs.Ids.{in_order}
use Rattle.catalogue.specs.Seen.{seen_in}
use Rattle.listings.specs.Marks.{IsListingBut, SaysBut, found_among, marked, unmarked}
use Rattle.listings.specs.Sights.{ListingLists, sight_of}
use Rattle.listings.proofs.MarkFacts.{are_listed}
use Rattle.listings.proofs.RenewFacts.{renewed_is}
use Rattle.listings.proofs.listing.Listing.renewed.Goals as goal

pub returns-clause-listing : goal.returns-clause-listing
returns-clause-listing c = λ content but read_is.
    let own = c.self.inside in
    let marks = c.args.marks.now in
    let f = sight_of content in
    let P : ListingLists → Type 0 = λ listing. IsListingBut content marks listing in
    let S : List (List ℕ) → Type 0 = λ ids. SaysBut f marks ids own.entries.items in
    let here = subst P (sym c.self.view_is) but in
    let now = c.deref-4.ensures.value in
    renewed_is content marks (record { ids = own.ids.items; sights = own.entries.items }) c.requires here
    c.in_ok-ids.ids.items c.in_ok-kept.kept.items c.in_ok-found.found.items c.in_ok-entries.entries.items c.args.read.items read_is
    (c.in_ok-ids.ensures.ids (seen_in content) (c.deref-2.ensures.value ∙ read_is) ∙ ap (λ l. in_order (unmarked marks l ++ found_among (seen_in content) marks)) c.deref.ensures.value)
    (c.in_ok-kept.ensures f (subst S (sym c.deref-3.ensures.value) (are_listed content marks (record { ids = own.ids.items; sights = own.entries.items }) here).sights) ∙ ap (λ l. map f (unmarked marks l)) c.deref-3.ensures.value)
    c.in_ok-found.ensures
    (λ kept found.
    c.in_ok-entries.ensures.entries f (kept ∙ ap (λ l. map f (unmarked marks l)) (sym now)) (found ∙ ap (λ l. map f (marked marks l)) (sym now))
    ∙ ap (map f) now)
