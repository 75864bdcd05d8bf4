use Rattle.std.proofs.Common.{List, ℕ, Option, length, refl, subst}
use Rattle.listings.specs.ListedRows.{AreAlwaysNeeds}
use Rattle.listings.specs.Places.{ArePlaces}
use Rattle.listings.specs.Sights.{Sight}
use Rattle.listings.specs.Superseders.{AreSuperseders}
use Rattle.listings.proofs.SupFacts.{placed_as, superseded_as}
use Rattle.listings.proofs.listed_rows.ListedRows.of.Goals as goal

pub returns : goal.returns
returns c =
    let ids = c.args.ids.now in
    let superseders = c.args.superseders.now in
    let members = c.in_ok-members.members.items in
    let listed = c.in_ok-listed.listed.items in
    let P : List (List ℕ) → Type 0 = λ l. ArePlaces l ids (length l) listed in
    let N : List (List ℕ) → Type 0 = λ l. AreAlwaysNeeds c.args.entries.now l c.deref-3.result.now c.in_ok-needs.needs in
    let L : List (Option ℕ) → Type 0 = λ l. AreAlwaysNeeds c.args.entries.now members l c.in_ok-needs.needs in
    let A : List Sight → Type 0 = λ l. AreSuperseders l superseders.superseded.items superseders.below superseders.above in
    let stand = subst P c.deref.ensures.value c.in_ok-listed.ensures in
    record {
      ascend = c.in_ok-members.ensures.ascend;
      ids_inside = c.in_ok-members.ensures.ids;
      needs_inside = c.in_ok-members.ensures.needs;
      places = stand;
      needs_are = subst L c.deref-3.ensures.value (subst N c.deref-2.ensures.value c.in_ok-needs.ensures);
      supersedes_are = λ f are.
          superseded_as f ids members c.deref-4.result.now c.in_ok-supersedes.supersedes c.in_ok-supersedes.supersedes c.deref-4.ensures.value refl
          (c.in_ok-supersedes.ensures f ids (subst A are c.requires.superseders)
          (placed_as ids members c.deref-4.result.now listed c.deref-5.result.now c.deref-4.ensures.value c.deref-5.ensures.value stand));
    }
