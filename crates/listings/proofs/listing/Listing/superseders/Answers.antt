use Rattle.std.proofs.Common.{◌∙◌, length, map, ap, arith, subst, sym}
use Rattle.catalogue.specs.Ids.{in_order}
use Rattle.verdicts.specs.Indices.{id_at}
use Rattle.listings.specs.Sights.{IsListing, ListingLists}
use Rattle.listings.proofs.SupersederFacts.{superseders_listed}
use Rattle.listings.proofs.listing.Listing.superseders.Goals as goal

pub ids_at-requires : goal.ids_at-requires
ids_at-requires c = λ q inside.
    let own = c.self.inside in
    let within = ((c.indices.ensures own.entries.items q c.self.invariant.2.turned).0 inside).within in
    let as_many = c.self.invariant.1 in
    omega (arith, within, as_many, ap length c.deref.ensures.value)

pub returns-clause-superseders : goal.returns-clause-superseders
returns-clause-superseders c = λ content says.
    let own = c.self.inside in
    let indices = c.indices.result.now in
    let but = says.but in
    let S : ListingLists → Type 0 = λ listing. IsListing but.before listing in
    let here = subst S (sym c.self.view_is) but.is in
    c.ascending.ensures
    ∙ superseders_listed but.before own.ids.items own.entries.items here.ids here.sights c.self.invariant.0 c.self.invariant.1 c.args.id.now indices c.sort_each_once.new.ids.items
    (λ p. c.indices.ensures own.entries.items p c.self.invariant.2.turned) c.in_ok-sort_each_once.ensures.ascend
    (c.in_ok-sort_each_once.ensures.in_order ∙ ap in_order (c.in_ok-found.ensures ∙ ap (λ l. map (id_at l) indices) c.deref.ensures.value))
    ∙ sym (but.same.above c.args.id.now says.unmarked)
