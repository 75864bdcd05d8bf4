use Rattle.std.proofs.Common.{◌≡◌, ◌∙◌, Some, ap, refl, sym}
use Rattle.chain_cache.specs.Cache.{SurveyedLists}
use Rattle.chain_cache.proofs.SurveyFacts.{right_listed, right_renewed, right_unlisted}
use Rattle.chain_cache.proofs.surveys.Surveys.put_read.Goals as goal

pub returns-in_err-renewed-clause-right : goal.returns-in_err-renewed-clause-right
returns-in_err-renewed-clause-right c = λ content are read were.
    right_unlisted content c.args.self.now (record { listing = c.take.new.self; marks = c.clear.new.self.items; zones = c.self.inside.kept })
    c.take.ensures.after (ap (λ (surveys : SurveyedLists). surveys.zones) c.self.view_is) were

pub returns-clause-right : goal.returns-clause-right
returns-clause-right c = λ content are read were.
    let surveys = c.args.self.now in
    let listing = c.in-Some.listing in
    let kept : surveys.listing ≡ Some listing = ap (λ (surveys : SurveyedLists). surveys.listing) (sym c.self.view_is) ∙ sym c.take.ensures.value ∙ c.in-Some.is in
    let but = right_renewed content surveys listing c.args.marks.now kept are were in
    right_listed content surveys (record { listing = Some c.in_ok-renewed.field-0; marks = c.clear.new.self.items; zones = c.self.inside.kept }) c.in_ok-renewed.field-0
    refl c.clear.ensures.items (ap (λ (surveys : SurveyedLists). surveys.zones) c.self.view_is) c.in_ok-renewed.ensures.ascend
    (c.in_ok-renewed.ensures.listing content but read) were
