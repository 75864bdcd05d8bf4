use Rattle.std.proofs.Common.{◌≡◌, ◌∙◌, ◌++◌, [], ap, append_assoc, map, rules, sym}
use Rattle.std.specs.List.{flat_map}
use Rattle.std.proofs.lemmas.List.{append-nil, nil_from_length}
use Rattle.std.specs.Slice.Iter.{chunks_rest}
use Rattle.catalogue.specs.Ids.{in_order}
use Rattle.catalogue.proofs.SourceFacts.{no_fault, told_so}
use Rattle.catalogue.proofs.TellingFacts.{tells_on}
use Rattle.listings.specs.Sights.{all_needs, sight_of}
use Rattle.listings.proofs.MemberRowFacts.{needs_on}
use Rattle.listings.proofs.reading.read_members.Goals as goal

pub loop-run-init : goal.loop-run-init
loop-run-init g c =
    let ids = c.in_ok-ids.ids.items in (
      ids,
      [],
      sym (ap chunks_rest c.into_iter-run-iterator.ensures.into_iter_gives ∙ c.chunks-run-items.ensures.rest ∙ c.deref-2.ensures.value),
      record {
        keeps = c.in_ok-ids.ensures.asks.keeps;
        still_open = λ standing. c.in_ok-ids.ensures.asks.is_open (no_fault _);
        told = told_so c.in_ok-ids.ensures.ids (λ content ids_are. (ids_are, c.in_ok-members.ensures.items ∙ c.deref.ensures.value ∙ sym (append-nil ids)));
      },
    )

pub loop-run-preserved : goal.loop-run-preserved
loop-run-preserved g c =
    let was = c.loop-run.invariant in
    let ids = was.0 in
    let done = was.1 in
    let run = c.in-Some.run'.now in
    let asks = c.in_ok-entries.ensures.asks in (
      ids,
      done ++ run,
      was.2 ∙ ap (λ l. done ++ l) c.in-Some.ensures.steps.1.0 ∙ sym (append_assoc done run (chunks_rest c.next.new.self)),
      tells_on g.met.P.Published.lawful was.3 asks.keeps (asks.stays_open (no_fault _)) c.in_ok-entries.ensures.entries (λ content so_far read. (
        so_far.0,
        needs_on (sight_of content) ids done run c.loop-run.members.items _ _ so_far.1 (c.deref-in-loop-run.ensures.value ∙ read) c.in_ok-push_needs.ensures,
      )),
    )

pub returns-clause-members : goal.returns-clause-members
returns-clause-members g c =
    let was = c.loop-run.invariant in
    let ids = was.0 in
    let done = was.1 in
    let all : ids ≡ done = was.2 ∙ ap (λ l. done ++ l) (nil_from_length (chunks_rest c.loop-run.run-iterator) c.in-None.ensures.steps.1.0) ∙ append-nil done in
    let same : c.shrink_to_fit.new.self.items ≡ c.sort_each_once.new.ids.items = search (rules, c.shrink_to_fit.ensures) in
    told_so was.3.told (λ content so_far.
    same
    ∙ c.in_ok-sort_each_once.ensures.in_order
    ∙ ap in_order (so_far.1 ∙ ap (λ l. ids ++ flat_map all_needs (map (sight_of content) l)) (sym all) ∙ ap (λ l. l ++ flat_map all_needs (map (sight_of content) l)) so_far.0))
