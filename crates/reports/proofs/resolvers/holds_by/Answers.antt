use Rattle.std.proofs.Common.{◌∙◌, ap, map, option_map, sym}
use Rattle.std.specs.List.{flat_map}
use Rattle.catalogue.specs.Ids.{in_order}
use Rattle.catalogue.proofs.SourceFacts.{told_both}
use Rattle.catalogue.proofs.TellingFacts.{told_by_two}
use Rattle.verdicts.specs.Candidates.{candidates_unless_there}
use Rattle.reports.specs.Found.{FoundLists, told}
use Rattle.reports.specs.Resolvers.{status_in}
use Rattle.reports.proofs.ResolverFacts.{answers_read}
use Rattle.reports.proofs.resolvers.holds_by.Goals as goal

pub returns-clause-holds : goal.returns-clause-holds
returns-clause-holds g c =
    let law = g.met.P.Published.lawful in
    let rows = c.args.zone.now in
    told_by_two (law.keeps _ _ c.in_ok-answers.ensures.asks.keeps) (law.keeps _ _ c.in_ok-statuses.ensures.asks.keeps) (told_both c.in_ok-answers.ensures.candidates c.in_ok-answers.ensures.right) c.in_ok-statuses.ensures.statuses (λ content facts said right.
    let status = status_in content rows in
    let answered = answers_read (option_map (λ ids. ids.items)) (candidates_unless_there content rows) _ _ _ _ (c.deref-2.ensures.value ∙ sym c.deref.ensures.value) c.deref-3.ensures.value (facts.0 right) in
    c.in_ok-all_told.ensures status
    (c.deref-8.ensures.value ∙ said (facts.1 right) ∙ ap (map status) (c.deref-5.ensures.value ∙ sym c.deref-7.ensures.value))
    (c.deref-7.ensures.value ∙ c.in_ok-resolvers.ensures.resolvers ∙ ap (λ founds. in_order (flat_map (λ (one : FoundLists). one.ids) founds)) (c.deref-4.ensures.value ∙ sym c.deref-6.ensures.value))
    ∙ ap (map (told status c.args.received.now))
    (c.deref-6.ensures.value ∙ c.in_ok-found.ensures content rows answered (c.deref-2.ensures.value ∙ c.in_ok-asked.ensures.asked)))

pub returns-clause-right : goal.returns-clause-right
returns-clause-right g c =
    let law = g.met.P.Published.lawful in
    told_by_two (law.keeps _ _ c.in_ok-answers.ensures.asks.keeps) (law.keeps _ _ c.in_ok-statuses.ensures.asks.keeps) c.in_ok-answers.ensures.right c.in_ok-statuses.ensures.right (λ content answers statuses. λ right. statuses (answers right))

pub returns-in_err-statuses-clause-right : goal.returns-in_err-statuses-clause-right
returns-in_err-statuses-clause-right g c =
    let law = g.met.P.Published.lawful in
    told_by_two (law.keeps _ _ c.in_ok-answers.ensures.asks.keeps) (law.keeps _ _ c.statuses.ensures.asks.keeps) c.in_ok-answers.ensures.right c.statuses.ensures.right (λ content answers statuses. λ right. statuses (answers right))

pub returns-in_err-all_told-clause-right : goal.returns-in_err-all_told-clause-right
returns-in_err-all_told-clause-right g c =
    let law = g.met.P.Published.lawful in
    told_by_two (law.keeps _ _ c.in_ok-answers.ensures.asks.keeps) (law.keeps _ _ c.in_ok-statuses.ensures.asks.keeps) c.in_ok-answers.ensures.right c.in_ok-statuses.ensures.right (λ content answers statuses. λ right. statuses (answers right))
