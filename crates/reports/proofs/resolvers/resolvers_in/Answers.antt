use Rattle.std.proofs.Common.{◌∙◌, ap}
use Rattle.catalogue.specs.Ids.{put_among}
use Rattle.reports.specs.Found.{FoundLists}
use Rattle.reports.proofs.ResolverFacts.{named_more}
use Rattle.reports.proofs.resolvers.resolvers_in.Goals as goal

pub loop-one-preserved : goal.loop-one-preserved
loop-one-preserved c =
    named_more (λ (one : FoundLists). one.ids) c.args.found.now c.loop-one.one-index c.one-item.result c.loop-one.ids.keys c.put_all.new.found.keys c.loop-one-test.true c.one-item.is
    c.loop-one.invariant (c.in_ok-put_all.ensures ∙ ap (put_among c.loop-one.ids.keys) c.ids.ensures)
