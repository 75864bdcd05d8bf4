use Rattle.std.proofs.Common.{◌+◌, ◌∷◌, ◌∙◌, ap, drop, subst, sym}
use Rattle.std.specs.Prelude.{map}
use Rattle.std.proofs.lemmas.List.{drop_more, take_all}
use Rattle.catalogue.specs.Seen.{seen_in}
use Rattle.sql_tables.specs.Stored.{tables_of}
use Rattle.sql_reads.specs.Scans.{AreLeft}
use Rattle.sql_reads.proofs.SeenFacts.{more_seen}
use Rattle.sql_reads.proofs.many.each_seen.Goals as goal

pub loop-id-preserved : goal.loop-id-preserved
loop-id-preserved c = λ stored left.
    let ids = c.args.ids.now in
    let i = c.loop-id.id-index in
    let id = c.id-item.result in
    let is = sym c.id-item.is in
    let before = c.loop-id.invariant stored left in
    let next = drop_more ids i id c.loop-id-test.true ∙ ap (λ x. x ∷ drop (i + 1) ids) is in
    let it = c.in_ok-take.ensures stored (drop (i + 1) ids) (subst (λ xs. AreLeft stored xs c.loop-id.queues) next before.1) in
    (c.in_ok-push.ensures.items ∙ more_seen (seen_in (tables_of stored).content) ids i id c.loop-id.seen.items c.in_ok-take.field-0 c.loop-id-test.true is before.0 it.0, it.1)

pub returns : goal.returns
returns c = λ stored left.
    (c.loop-id.invariant stored left).0 ∙ ap (map (seen_in (tables_of stored).content)) (take_all c.loop-id.id-index c.args.ids.now c.loop-id-test.false)
