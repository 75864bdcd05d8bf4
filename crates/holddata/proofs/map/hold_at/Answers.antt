use Rattle.std.proofs.Common.{ap, ◌∙◌}
use Rattle.std.specs.declared.cmp.Ordering.{Ordering}
use Rattle.std.specs.BTreeMap.{get}
use Rattle.holddata.specs.declared.sort_key.SortKey.{SortKey}
use Rattle.holddata.specs.SortKey.{sort_key_cmp}
use Rattle.holddata.proofs.SortKeyFacts.{derived_order}
use Rattle.holddata.proofs.EntryFacts.{hold_under_is}
use Rattle.holddata.proofs.map.hold_at.Goals as goal

pub returns : goal.returns
returns c =
    c.get.ensures.value
    ∙ ap (λ (cmp : SortKey → SortKey → Ordering). get cmp c.args.holds.now c.sort_key_of.result) derived_order
    ∙ ap (get sort_key_cmp c.args.holds.now) c.sort_key_of.ensures
    ∙ hold_under_is c.args.holds.now.entries c.args.key.now c.requires
