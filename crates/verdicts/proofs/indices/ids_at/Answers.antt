use Rattle.verdicts.proofs.IndexFacts.{ids_more, listed_index}
use Rattle.verdicts.proofs.indices.ids_at.Goals as goal

pub id_at-requires : goal.id_at-requires
id_at-requires c = c.requires _ (listed_index c.args.indices.now c.loop-index.index-index c.loop-index-test.true)

pub loop-index-preserved : goal.loop-index-preserved
loop-index-preserved c =
    ids_more c.args.members.now c.args.indices.now c.loop-index.index-index c.id_at.result c.loop-index.ids.items _
    c.loop-index-test.true c.id_at.ensures c.loop-index.invariant c.in_ok-push.ensures.items
