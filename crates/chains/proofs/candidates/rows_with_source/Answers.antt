use Rattle.std.proofs.Common.{◌≡◌, ◌∙◌, ap}
use Rattle.requisites.specs.Nodes.{row}
use Rattle.chains.specs.Climbs.{with_source}
use Rattle.verdicts.proofs.IndexFacts.{rows_more}
use Rattle.chains.proofs.candidates.rows_with_source.Goals as goal

pub loop-index-preserved : goal.loop-index-preserved
loop-index-preserved c =
    rows_more (λ p indices. indices ≡ with_source c.args.sources.now (row c.args.rows.now p)) c.loop-index.index c.loop-index.kept c.push_row.new.self c.deref.result.now c.loop-index.invariant
    (c.deref.ensures.value ∙ c.in_ok-put_with_source.ensures ∙ ap (with_source c.args.sources.now) c.row.ensures) c.in_ok-push_row.ensures.rows
