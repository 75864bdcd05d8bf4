use Rattle.std.proofs.Common.{sym, subst}
use Rattle.std.specs.BTreeMap.{get}
use Rattle.catalogue.specs.Ids.{id_cmp, Ascend}
use Rattle.catalogue.specs.ListPublished.{listed}
use Rattle.catalogue.proofs.IndexFacts.{sup_step}
use Rattle.catalogue.proofs.index.list_superseder.Goals as goal

pub loop-superseded-preserved : goal.loop-superseded-preserved
loop-superseded-preserved c =
    let sup = c.as_slice-superseded-items in
    λ id.
    sup_step (get id_cmp c.loop-superseded.index id) (get id_cmp c.list_under.new.index id)
    (listed (get id_cmp c.args.index.now id)) sup.result.now c.loop-superseded.superseded-index c.superseded-item.result c.args.sysmod.now.id id
    c.loop-superseded-test.true c.superseded-item.is (subst Ascend (sym sup.ensures.value) sup.ensures.ascends)
    (c.loop-superseded.invariant id) (c.in_ok-list_under.ensures id)
