use Rattle.std.proofs.Common.{List, ℕ, map, subst}
use Rattle.catalogue.proofs.TellingFacts.{told_by_two}
use Rattle.listings.specs.SeenIndices.{AreThere}
use Rattle.listings.specs.MemberRows.{AreRowsOf, AreRowsWithin}
use Rattle.listings.specs.Sights.{sight_of}
use Rattle.listings.proofs.MemberRowFacts.{survey_made}
use Rattle.listings.proofs.reading.zone_nodes_of.Goals as goal

pub returns-clause-within : goal.returns-clause-within
returns-clause-within g c =
    let rows = c.in_ok-rows.rows in
    let P : List (List ℕ) → Type 0 = λ l. AreRowsWithin l rows.candidates.items rows.needs in
    let within = subst P c.deref.ensures.value c.in_ok-rows.ensures.within in
    record { len = within.len; needs = within.needs_are }

pub returns-clause-survey : goal.returns-clause-survey
returns-clause-survey g c =
    let law = g.met.P.Published.lawful in
    let rows = c.in_ok-rows.rows in
    let members = c.in_ok-read.read.members.items in
    told_by_two (law.keeps _ _ c.in_ok-read.ensures.asks.keeps) (law.keeps _ _ c.in_ok-rows.ensures.asks.keeps) c.in_ok-read.ensures.members c.in_ok-rows.ensures.rows (λ content is are.
    let R : List (List ℕ) → Type 0 = λ l. AreRowsOf c.args.zone.now l (map (sight_of content) l) rows.candidates.items rows.needs rows.supersedes in
    let T : List (List ℕ) → Type 0 = λ l. AreThere c.args.zone.now l rows.supersedes c.in_ok-there.there.items in
    survey_made content c.args.zone.now members _ is (subst R c.deref.ensures.value are) c.in_ok-read.ensures.ascend (subst T c.deref-2.ensures.value c.in_ok-there.ensures))
