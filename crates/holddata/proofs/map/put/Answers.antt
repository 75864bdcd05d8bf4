use Rattle.std.proofs.Common.{◌≡◌, ap, ◌∙◌, subst, sym, Some, cond}
use Rattle.std.specs.declared.cmp.Ordering.{Ordering}
use Rattle.std.specs.BTreeMap.{get, insert_entry, is_at, IsOrdered}
use Rattle.holddata.specs.declared.sort_key.SortKey.{SortKey}
use Rattle.holddata.specs.SortKey.{HasSortKeys, sort_key_cmp}
use Rattle.holddata.proofs.EntryFacts.{sort_keys_insert, under_updated}
use Rattle.holddata.proofs.SortKeyFacts.{derived_order}
use Rattle.holddata.proofs.map.put.Goals as goal

pub returns-in_err-insert-clause-ordered : goal.returns-in_err-insert-clause-ordered
returns-in_err-insert-clause-ordered c = subst (λ (cmp : SortKey → SortKey → Ordering). IsOrdered cmp c.insert.new.self) derived_order c.insert.ensures.ordered

pub returns-clause-ordered : goal.returns-clause-ordered
returns-clause-ordered c = subst (λ (cmp : SortKey → SortKey → Ordering). IsOrdered cmp c.insert.new.self) derived_order c.insert.ensures.ordered

pub returns-clause-sort_keys : goal.returns-clause-sort_keys
returns-clause-sort_keys c =
    let es = c.args.holds.now.entries in
    let hold = c.args.hold in
    subst HasSortKeys
    (sym (c.in_ok-insert.ensures.entries
    ∙ ap (λ (cmp : SortKey → SortKey → Ordering). insert_entry cmp es c.sort_key_of.result hold) derived_order
    ∙ ap (λ sort_key. insert_entry sort_key_cmp es sort_key hold) c.sort_key_of.ensures))
    (sort_keys_insert es hold c.requires)

pub returns-clause-updates : goal.returns-clause-updates
returns-clause-updates c =
    let old = c.args.holds.now in
    let new = c.insert.new.self in
    let hold = c.args.hold in
    let sort_keys : HasSortKeys new.entries =
    subst HasSortKeys
    (sym (c.in_ok-insert.ensures.entries
    ∙ ap (λ (cmp : SortKey → SortKey → Ordering). insert_entry cmp old.entries c.sort_key_of.result hold) derived_order
    ∙ ap (λ sort_key. insert_entry sort_key_cmp old.entries sort_key hold) c.sort_key_of.ensures))
    (sort_keys_insert old.entries hold c.requires) in
    under_updated old.entries new.entries hold.key (Some hold) c.requires sort_keys
    (subst (λ (at : SortKey). (sort_key : SortKey) → get sort_key_cmp new sort_key ≡ cond (is_at (sort_key_cmp at) sort_key) (Some hold) (get sort_key_cmp old sort_key)) c.sort_key_of.ensures
    (subst (λ (cmp : SortKey → SortKey → Ordering). (sort_key : SortKey) → get cmp new sort_key ≡ cond (is_at (cmp c.sort_key_of.result) sort_key) (Some hold) (get cmp old sort_key)) derived_order c.in_ok-insert.ensures.updates.0))
