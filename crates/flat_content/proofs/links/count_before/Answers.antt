use Rattle.std.proofs.Common.{rules, of_calls}
use Rattle.std.specs.Ordering.{is_lt}
use Rattle.std.proofs.lemmas.Fn.{always_returns_same}
use Rattle.catalogue.specs.Ids.{id_cmp}
use Rattle.flat_content.proofs.LinkFacts.{before_parted}
use Rattle.flat_content.proofs.links.count_before.Goals as goal

pub returns-clause-split : goal.returns-clause-split
returns-clause-split c =
    c.partition_point.ensures.partitioned (λ link. is_lt (id_cmp link.superseded c.args.id.now)) (always_returns_same _ _ _ (λ a r f k. search (rules, of_calls)))
    (before_parted c.args.links.now c.args.id.now c.requires)
