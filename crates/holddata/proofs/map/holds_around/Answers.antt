use Rattle.std.proofs.Common.{ap, ◌∙◌}
use Rattle.std.specs.declared.cmp.Ordering.{Ordering}
use Rattle.std.specs.declared.ops.Bound.TheVariants.{Included, Excluded}
use Rattle.std.specs.Ordering.{is_gt}
use Rattle.std.specs.BTreeMap.Range.{entries_between}
use Rattle.std.specs.Map.{values_of}
use Rattle.holddata.specs.declared.sort_key.SortKey.{SortKey}
use Rattle.holddata.specs.SortKey.{before_all, sort_key_cmp}
use Rattle.holddata.proofs.SortKeyFacts.{derived_order, before_after}
use Rattle.holddata.proofs.EntryFacts.{holds_between}
use Rattle.holddata.proofs.map.holds_around.Goals as goal

pub range-requires : goal.range-requires
range-requires c =
    let before = c.sort_keys_around-before.result.0 in
    let after = c.sort_keys_around-before.result.1 in
    let sysmod = c.args.sysmod.now in
    ap (λ (cmp : SortKey → SortKey → Ordering). is_gt (cmp before after)) derived_order
    ∙ ap (λ sort_key. is_gt (sort_key_cmp sort_key after)) c.sort_keys_around-before.ensures.before
    ∙ ap (λ sort_key. is_gt (sort_key_cmp (before_all sysmod) sort_key)) c.sort_keys_around-before.ensures.after
    ∙ ap is_gt (before_after sysmod)

pub returns : goal.returns
returns c =
    let before = c.sort_keys_around-before.result.0 in
    let after = c.sort_keys_around-before.result.1 in
    let es = c.args.holds.now.entries in
    let sysmod = c.args.sysmod.now in
    ap values_of
    (c.range.ensures.between tt
    ∙ ap (λ (cmp : SortKey → SortKey → Ordering). entries_between cmp (Included before) (Excluded after) es) derived_order
    ∙ ap (λ sort_key. entries_between sort_key_cmp (Included sort_key) (Excluded after) es) c.sort_keys_around-before.ensures.before
    ∙ ap (λ sort_key. entries_between sort_key_cmp (Included (before_all sysmod)) (Excluded sort_key) es) c.sort_keys_around-before.ensures.after)
    ∙ holds_between es sysmod c.requires
