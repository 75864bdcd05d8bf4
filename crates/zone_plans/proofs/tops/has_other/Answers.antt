use Rattle.std.proofs.Common.{◌≡◌, ◌∙◌, ℕ, is_some, rules, ap}
use Rattle.requisites.specs.Sources.{source_of}
use Rattle.verdicts.specs.Indices.{IsAt}
use Rattle.verdicts.proofs.IndexFacts.{index_is}
use Rattle.zone_plans.proofs.tops.has_other.Goals as goal

pub returns-in-Some : goal.returns-in-Some
returns-in-Some c = λ p at.
    let found = c.args.found.now in
    let index = c.in-Some.index in
    let here : IsAt c.args.members.now c.args.id.now index = search rules in
    let same : index ≡ p = index_is c.args.members.now c.args.id.now index p c.requires here at in
    let is : c.is_some.result ≡ is_some (source_of found index) = search rules in
    is ∙ ap (λ (k : ℕ). is_some (source_of found k)) same
