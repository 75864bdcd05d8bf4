use Rattle.std.proofs.Common.{◌∙◌, List, ℕ, ap, subst, sym}
use Rattle.std.specs.List.{Contains, list_any}
use Rattle.zone_lists.specs.Installed.{is_installed}
use Rattle.supersede.specs.Giving.{fmids_of}
use Rattle.verdicts.specs.Indices.{IsAt}
use Rattle.listings.specs.Sights.{IsListing, ListingLists}
use Rattle.listings.proofs.SupersederFacts.{candidate_listed, candidate_unlisted}
use Rattle.listings.proofs.listing.Listing.is_candidate.Goals as goal

pub returns-in-Some : goal.returns-in-Some
returns-in-Some c = λ content says.
    let own = c.self.inside in
    let but = says.but in
    let S : ListingLists → Type 0 = λ listing. IsListing but.before listing in
    let now = ap (λ found. list_any (λ fmid. is_installed c.args.zone.now fmid) (fmids_of found)) (sym (but.same.records c.args.id.now says.unmarked)) in
    let I : List (List ℕ) → Type 0 = λ l. IsAt l c.args.id.now c.in-Some.index in
    let here = subst S (sym c.self.view_is) but.is in
    candidate_listed but.before own.ids.items own.entries.items here.ids here.sights c.args.zone.now c.args.id.now c.in-Some.index c.index.result.now c.is_candidate.result
    (subst I c.deref.ensures.value c.in-Some.ensures.some) c.index.ensures c.is_candidate.ensures
    ∙ now

pub returns-in-None : goal.returns-in-None
returns-in-None c = λ content says.
    let own = c.self.inside in
    let but = says.but in
    let S : ListingLists → Type 0 = λ listing. IsListing but.before listing in
    let now = ap (λ found. list_any (λ fmid. is_installed c.args.zone.now fmid) (fmids_of found)) (sym (but.same.records c.args.id.now says.unmarked)) in
    let N : List (List ℕ) → Type 0 = λ l. Contains l c.args.id.now → ⊥ in
    let here = subst S (sym c.self.view_is) but.is in
    candidate_unlisted but.before own.ids.items own.entries.items here.ids here.sights c.args.zone.now c.args.id.now (subst N c.deref.ensures.value c.in-None.ensures.none)
    ∙ now
