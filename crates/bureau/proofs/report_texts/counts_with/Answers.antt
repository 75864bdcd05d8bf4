use Rattle.std.proofs.Common.{◌∙◌, ap}
use Rattle.std.specs.List.Sorted.{IsStrictlySortedBy}
use Rattle.report_json.specs.Counts.{zone_counts_json_of}
use Rattle.bureau.proofs.TextFacts.{written}
use Rattle.bureau.proofs.report_texts.counts_with.Goals as goal

pub returns : goal.returns
returns g c =
    written g.J.Judge.is_right _ _ _ _ _ _ c.in_ok-fixes.ensures.asks c.in_ok-fixes.ensures.holds c.in_ok-fixes.ensures.right (λ content found. c.in_ok-zone_counts_json.ensures
    ∙ ap (zone_counts_json_of c.args.zone.now c.args.patterns.now c.args.errors.now) (c.deref.ensures.value ∙ found))

pub missing_holds-requires : goal.missing_holds-requires
unfolding IsStrictlySortedBy
missing_holds-requires g c = tt
