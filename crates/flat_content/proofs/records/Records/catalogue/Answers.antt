use Rattle.std.proofs.Common.{◌∙◌, ap}
use Rattle.catalogue.specs.Publication.{catalogue_of}
use Rattle.flat_content.proofs.HeadFacts.{catalogue_put, heads_kept, ids_ascend}
use Rattle.flat_content.proofs.records.Records.catalogue.Goals as goal

pub invariant_of-result : goal.invariant_of-result
invariant_of-result c =
    let old = c.self.inside in
    rw (c.shrink_to_fit.ensures.items, c.shrink_to_fit-2.ensures.items, c.shrink_to_fit-3.ensures.items)
    (heads_kept old.names.items old.conds.items old.heads.items c.put_in_order.new.heads.items c.self.invariant c.in_ok-put_in_order.ensures.kept)

pub returns-clause-value : goal.returns-clause-value
returns-clause-value c =
    let old = c.self.inside in
    rw (c.shrink_to_fit.ensures.items, c.shrink_to_fit-2.ensures.items, c.shrink_to_fit-3.ensures.items)
    (catalogue_put old.names.items old.conds.items old.heads.items c.put_in_order.new.heads.items c.in_ok-put_in_order.ensures.ascend c.in_ok-put_in_order.ensures.last
    ∙ ap catalogue_of c.self.view_is)

pub returns-clause-ascend : goal.returns-clause-ascend
returns-clause-ascend c =
    let old = c.self.inside in
    rw (c.shrink_to_fit.ensures.items, c.shrink_to_fit-2.ensures.items, c.shrink_to_fit-3.ensures.items)
    (ids_ascend old.names.items old.conds.items c.put_in_order.new.heads.items c.in_ok-put_in_order.ensures.ascend)
