use Rattle.std.proofs.Common.{◌∙◌, ap, map}
use Rattle.std.specs.List.{filter}
use Rattle.verdicts.specs.Indices.{id_at}
use Rattle.listings.specs.Links.{is_catalogued_at}
use Rattle.listings.proofs.LinkFacts.{each_giver, givers_up, indices_inside}
use Rattle.listings.proofs.links.givers_at.Goals as goal

pub ids_at-requires : goal.ids_at-requires
ids_at-requires c = λ q inside.
    indices_inside c.args.ids.now c.args.all.now c.args.above.now c.args.index c.requires.ascend c.requires.within c.requires.indexed
    c.in_ok-indices.indices.items c.in_ok-indices.ensures.ascend c.in_ok-indices.ensures.each q c.deref-2.result.now
    (c.deref-2.ensures.value ∙ c.in_ok-givers.ensures ∙ ap (filter (is_catalogued_at c.args.all.now)) c.deref.ensures.value) inside

pub ascending-requires : goal.ascending-requires
ascending-requires c =
    let are =
    c.in_ok-ids_at.ensures
    ∙ ap (map (id_at c.args.ids.now)) (c.deref-2.ensures.value ∙ c.in_ok-givers.ensures ∙ ap (filter (is_catalogued_at c.args.all.now)) c.deref.ensures.value) in
    givers_up c.args.ids.now c.args.all.now c.args.above.now c.args.index c.requires.ascend c.requires.within c.requires.indexed
    c.in_ok-indices.indices.items c.in_ok-indices.ensures.ascend c.in_ok-indices.ensures.each c.in_ok-ids_at.field-0.items are

pub returns-clause-each : goal.returns-clause-each
returns-clause-each c =
    let are =
    c.in_ok-ids_at.ensures
    ∙ ap (map (id_at c.args.ids.now)) (c.deref-2.ensures.value ∙ c.in_ok-givers.ensures ∙ ap (filter (is_catalogued_at c.args.all.now)) c.deref.ensures.value) in
    each_giver c.args.ids.now c.args.all.now c.args.above.now c.args.index c.requires.ascend c.requires.within c.requires.indexed
    c.in_ok-indices.indices.items c.in_ok-indices.ensures.ascend c.in_ok-indices.ensures.each c.ascending.result (c.ascending.ensures ∙ are)
