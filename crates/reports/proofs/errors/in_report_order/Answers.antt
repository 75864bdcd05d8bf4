use Rattle.std.proofs.Common.{◌∙◌, [], ap, map}
use Rattle.std.proofs.lemmas.List.{take_all}
use Rattle.lemmas.proofs.ResultFacts.{ok_so}
use Rattle.reports.specs.Found.{error_entries}
use Rattle.reports.specs.Lines.{GroupParts}
use Rattle.reports.specs.declared.errors.ErrorHeld.{ErrorHeld}
use Rattle.reports.proofs.ErrorFacts.{entries_more}
use Rattle.reports.proofs.errors.in_report_order.Goals as goal

pub loop-held-preserved : goal.loop-held-preserved
loop-held-preserved c =
    entries_more c.args.helds.now c.loop-held.held-index c.held-item.result c.loop-held.groups.entries c.put_held.new.groups.entries c.loop-held-test.true c.held-item.is
    c.loop-held.invariant c.in_ok-put_held.ensures

pub returns : goal.returns
returns c =
    ok_so c.listed.result c.listed.ensures (λ list are.
    are ∙ ap (map (λ (entry : ErrorHeld × GroupParts). entry.1)) (c.loop-held.invariant ∙ ap (error_entries []) (take_all c.loop-held.held-index c.args.helds.now c.loop-held-test.false)))
