use Rattle.std.proofs.Common.{◌∙◌, [], ap}
use Rattle.std.specs.List.Sorted.{IsStrictlySortedBy}
use Rattle.reports.specs.Holds.{missing_holds_of}
use Rattle.report_json.specs.Counts.{zone_counts_json_of}
use Rattle.bureau.proofs.TextFacts.{written_then}
use Rattle.bureau.proofs.report_texts.zone_counts_text.Goals as goal

pub returns : goal.returns
returns g c =
    written_then g.J.Judge.is_right _ _ _ _ _ _ _ c.counts_with.result g.met.P.Published.lawful c.in_ok-errors.ensures.asks c.in_ok-errors.ensures.holds c.in_ok-errors.ensures.right c.counts_with.ensures (λ content found.
    ap (λ errors. zone_counts_json_of c.args.zone.now c.args.patterns.now errors (missing_holds_of content c.args.installed.now [] c.args.patterns.now c.args.fixes.now)) (c.deref.ensures.value ∙ found))

pub err_holds-requires : goal.err_holds-requires
unfolding IsStrictlySortedBy
err_holds-requires g c = tt
