use Rattle.std.proofs.Common.{◌≡◌, ◌∙◌, List, Option, Some, ap, slice_get, subst}
use Rattle.std.proofs.lemmas.Option.{slice_get_read}
use Rattle.zone_lists.specs.declared.zones.ZoneRow.{ZoneRow}
use Rattle.chain_cache.specs.Cache.{ZoneSurvey}
use Rattle.chain_cache.proofs.kept_surveys.KeptSurveys.is_at.Goals as goal

pub returns-then-at-count-clause-found : goal.returns-then-at-count-clause-found
returns-then-at-count-clause-found c = λ is.
    let own = c.self.inside.kept in
    let it = c.index.result.now in
    let kept : List ZoneRow → Option ZoneSurvey = λ rows. Some (record { rows = rows; survey = it.survey }) in
    let there = slice_get_read own.items c.len-count.result c.args.at it (c.len-count.ensures ∙ own.ok.0) c.if-at-count.true c.index.ensures in
    (it.survey, subst (λ list. slice_get list c.args.at ≡ kept c.args.zone.now) c.self.view_is (there ∙ ap kept (c.is_of.ensures is)))
