use Rattle.std.proofs.Common.{◌∙◌, List, ℕ, ap, subst, sym}
use Rattle.lemmas.proofs.ResultFacts.{ok_so, some_is}
use Rattle.listings.specs.Marks.{IsListingBut}
use Rattle.listings.proofs.MarkFacts.{listing_is}
use Rattle.chain_cache.specs.Cache.{AreSurveys, SurveyedLists}
use Rattle.chain_cache.proofs.surveys.Surveys.survey.Goals as goal

pub returns : goal.returns
returns c = ok_so c.of.result c.of.ensures (λ survey is content were.
    let own = c.self.inside in
    let listing = c.in-Some.listing in
    let P : SurveyedLists → Type 0 = λ surveys. AreSurveys content surveys in
    let M : List (List ℕ) → Type 0 = λ marks. IsListingBut content marks listing in
    let but = some_is (IsListingBut content own.marks.items) own.listing listing c.in-Some.is (subst P (sym c.self.view_is) were).listing in
    is content (listing_is content listing (subst M (ap (λ (surveys : SurveyedLists). surveys.marks) c.self.view_is ∙ c.requires.unmarked) but)))
