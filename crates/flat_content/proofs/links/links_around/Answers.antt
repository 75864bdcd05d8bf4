use Rattle.std.proofs.Common.{◌∙◌, ap, map}
use Rattle.flat_content.specs.declared.links.Link.{Link}
use Rattle.flat_content.proofs.LinkFacts.{around, in_turn}
use Rattle.flat_content.proofs.links.links_around.Goals as goal

pub between-requires-clause-start : goal.between-requires-clause-start
between-requires-clause-start c =
    in_turn c.args.links.now c.args.id.now c.count_before.result c.count_up_to.result c.count_before.ensures.bound c.count_up_to.ensures.bound c.count_before.ensures.split c.count_up_to.ensures.split
    (record { superseded = c.args.id.now; superseder = c.args.id.now })

pub returns : goal.returns
returns c =
    ap (map (λ (link : Link). link.superseder)) c.between.ensures
    ∙ around c.args.links.now c.args.id.now c.count_before.result c.count_up_to.result c.count_before.ensures.bound c.count_up_to.ensures.bound c.count_before.ensures.split c.count_up_to.ensures.split
    (in_turn c.args.links.now c.args.id.now c.count_before.result c.count_up_to.result c.count_before.ensures.bound c.count_up_to.ensures.bound c.count_before.ensures.split c.count_up_to.ensures.split
    (record { superseded = c.args.id.now; superseder = c.args.id.now }))
