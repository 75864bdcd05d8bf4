use Rattle.std.proofs.Common.{Bool, List, Option, length, subst, ℕ}
use Rattle.lemmas.proofs.ResultFacts.{ok_so}
use Rattle.requisites.specs.Sources.{AreLeastSources, HasSource}
use Rattle.verdicts.specs.Indices.{MarksAre}
use Rattle.listings.specs.SeenIndices.{IsThereAt}
use Rattle.listings.proofs.SeenFacts.{there_from}
use Rattle.listings.proofs.zone_nodes.there_marks.Goals as goal

pub returns : goal.returns
returns c =
    let rows = c.args.zone.now in
    let members = c.args.members.now in
    let sources = c.in_ok-sources.sources.items in
    ok_so c.listed_or_given.result c.listed_or_given.ensures (λ marks there.
    let P : List Bool → Type 0 = λ l. AreLeastSources c.args.supersedes.now l sources in
    let Q : List (Option ℕ) → Type 0 = λ l. MarksAre (IsThereAt rows members (HasSource l)) (length members) marks.items in
    there_from rows members c.args.supersedes.now c.in_ok-installed.installed.items marks.items sources c.in_ok-installed.ensures
    (subst P c.deref.ensures.value c.in_ok-sources.ensures.sources) (subst Q c.deref-2.ensures.value there))
