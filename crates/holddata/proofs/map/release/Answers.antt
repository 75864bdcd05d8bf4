use Rattle.std.proofs.Common.{◌≡◌, ap, ◌∙◌, subst, sym, None, cond}
use Rattle.std.specs.declared.cmp.Ordering.{Ordering}
use Rattle.std.specs.BTreeMap.{get, is_at, IsOrdered}
use Rattle.std.specs.Map.{remove_entry}
use Rattle.holddata.specs.declared.sort_key.SortKey.{SortKey}
use Rattle.holddata.specs.SortKey.{HasSortKeys, sort_key_of, sort_key_cmp}
use Rattle.holddata.proofs.EntryFacts.{sort_keys_remove, under_updated}
use Rattle.holddata.proofs.SortKeyFacts.{derived_order}
use Rattle.holddata.proofs.map.release.Goals as goal

pub returns-clause-ordered : goal.returns-clause-ordered
returns-clause-ordered c = subst (λ (cmp : SortKey → SortKey → Ordering). IsOrdered cmp c.remove.new.self) derived_order c.remove.ensures.ordered

pub returns-clause-sort_keys : goal.returns-clause-sort_keys
returns-clause-sort_keys c =
    let es = c.args.holds.now.entries in
    subst HasSortKeys
    (sym (c.remove.ensures.entries
    ∙ ap (λ (cmp : SortKey → SortKey → Ordering). remove_entry (is_at (cmp c.sort_key_of.result)) es) derived_order
    ∙ ap (λ sort_key. remove_entry (is_at (sort_key_cmp sort_key)) es) c.sort_key_of.ensures))
    (sort_keys_remove (is_at (sort_key_cmp (sort_key_of c.args.key.now))) es c.requires)

pub returns-clause-updates : goal.returns-clause-updates
returns-clause-updates c =
    let old = c.args.holds.now in
    let new = c.remove.new.self in
    let key = c.args.key.now in
    let sort_keys : HasSortKeys new.entries =
    subst HasSortKeys
    (sym (c.remove.ensures.entries
    ∙ ap (λ (cmp : SortKey → SortKey → Ordering). remove_entry (is_at (cmp c.sort_key_of.result)) old.entries) derived_order
    ∙ ap (λ sort_key. remove_entry (is_at (sort_key_cmp sort_key)) old.entries) c.sort_key_of.ensures))
    (sort_keys_remove (is_at (sort_key_cmp (sort_key_of key))) old.entries c.requires) in
    under_updated old.entries new.entries key None c.requires sort_keys
    (subst (λ (at : SortKey). (sort_key : SortKey) → get sort_key_cmp new sort_key ≡ cond (is_at (sort_key_cmp at) sort_key) None (get sort_key_cmp old sort_key)) c.sort_key_of.ensures
    (subst (λ (cmp : SortKey → SortKey → Ordering). (sort_key : SortKey) → get cmp new sort_key ≡ cond (is_at (cmp c.sort_key_of.result) sort_key) None (get cmp old sort_key)) derived_order c.remove.ensures.updates.0))
