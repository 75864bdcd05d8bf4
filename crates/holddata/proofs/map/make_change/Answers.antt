use Rattle.std.proofs.Common.{subst, sym}
use Rattle.std.specs.Prelude.{OnOk}
use Rattle.std.specs.Map.{values_of}
use Rattle.std.proofs.lemmas.Result.{on_ok_weaker}
use Rattle.holddata.specs.declared.hold.HoldChange.{HoldChange}
use Rattle.holddata.specs.declared.hold.HoldChange.TheVariants.{Put, Release}
use Rattle.holddata.specs.HoldBook.{IsChanged}
use Rattle.holddata.proofs.EntryFacts.{is_changed}
use Rattle.holddata.proofs.map.make_change.Goals as goal

pub returns-in-Put-clause-changed : goal.returns-in-Put-clause-changed
returns-in-Put-clause-changed c =
    let old = c.args.holds.now.entries in
    let new = c.put.new.holds.entries in
    subst (λ (change : HoldChange). OnOk c.put.result (IsChanged change (values_of old) (values_of new))) (sym c.in-Put.is)
    (on_ok_weaker c.put.result (is_changed old new (Put c.in-Put.hold) c.put.ensures.sort_keys c.put.ensures.ordered) c.put.ensures.updates)

pub returns-in-Release-clause-changed : goal.returns-in-Release-clause-changed
returns-in-Release-clause-changed c =
    let old = c.args.holds.now.entries in
    let new = c.release.new.holds.entries in
    subst (λ (change : HoldChange). IsChanged change (values_of old) (values_of new)) (sym c.in-Release.is)
    (is_changed old new (Release c.in-Release.key) c.release.ensures.sort_keys c.release.ensures.ordered c.release.ensures.updates)
