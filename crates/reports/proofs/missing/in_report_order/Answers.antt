use Rattle.std.proofs.Common.{◌∙◌, [], ap, map}
use Rattle.std.proofs.lemmas.List.{take_all}
use Rattle.lemmas.proofs.ResultFacts.{ok_so}
use Rattle.reports.specs.Found.{missing_entries}
use Rattle.reports.specs.Lines.{GroupParts}
use Rattle.reports.specs.declared.missing.MissingHeld.{MissingHeld}
use Rattle.reports.proofs.MissingFacts.{entries_more}
use Rattle.reports.proofs.missing.in_report_order.Goals as goal

pub loop-held-preserved : goal.loop-held-preserved
loop-held-preserved c =
    entries_more c.args.patterns.now c.args.helds.now c.loop-held.held-index c.held-item.result c.loop-held.groups.entries c.put_asked.new.groups.entries c.loop-held-test.true c.held-item.is
    c.loop-held.invariant c.in_ok-put_asked.ensures

pub returns : goal.returns
returns c =
    ok_so c.listed.result c.listed.ensures (λ list are.
    are ∙ ap (map (λ (entry : MissingHeld × GroupParts). entry.1)) (c.loop-held.invariant ∙ ap (missing_entries c.args.patterns.now []) (take_all c.loop-held.held-index c.args.helds.now c.loop-held-test.false)))
