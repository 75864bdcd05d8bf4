use Rattle.std.proofs.Common.{sym, ◌∙◌, ap, subst}
use Rattle.std.specs.BTreeMap.{values}
use Rattle.catalogue.specs.Content.{Content, IsInOrder}
use Rattle.catalogue.specs.Publication.{after, IsAfter}
use Rattle.catalogue.proofs.EntryFacts.{records_ascend}
use Rattle.catalogue.proofs.PublicationFacts.{same_content, after_is, after_more, after_none, content_joined}
use Rattle.catalogue.proofs.list_published.ListPublished.publish.Goals as goal

pub returns-clause-after : goal.returns-clause-after
returns-clause-after c =
    let inside = c.self.inside in
    let old : Content = record { sysmods = values inside.sysmods; holds = inside.book } in
    let new : Content = record { sysmods = values c.in_ok-sysmods.sysmods; holds = c.in_ok-book.book } in
    same_content new (after old c.args.changes.now) c.in_ok-sysmods.ensures.records c.in_ok-book.ensures.book
    ∙ ap (λ content. after content c.args.changes.now) c.self.view_is

pub returns-clause-is_after : goal.returns-clause-is_after
returns-clause-is_after c =
    let inside = c.self.inside in
    let in_order : IsInOrder c.args.self.now =
    subst IsInOrder c.self.view_is (record {
      sysmods = records_ascend inside.sysmods.entries c.self.invariant.keyed c.self.invariant.ordered;
      holds = c.self.invariant.in_key_order;
    }) in
    subst (IsAfter c.args.self.now c.args.changes.now) (sym (returns-clause-after c)) (after_is c.args.self.now c.args.changes.now in_order)

pub returns-clause-so_far : goal.returns-clause-so_far
returns-clause-so_far c = λ earlier was.
    returns-clause-after c ∙ ap (λ content. after content c.args.changes.now) was ∙ sym (content_joined earlier c.args.changes.now)

pub returns-clause-joins : goal.returns-clause-joins
returns-clause-joins c = after_more

pub returns-clause-none : goal.returns-clause-none
returns-clause-none c = after_none
