use Rattle.std.proofs.Common.{◌≡◌, ◌∙◌, ◌++◌, [], ap, append_assoc, length, map, sym}
use Rattle.std.proofs.lemmas.List.{append-nil, length-map, map-append, nil_from_length}
use Rattle.std.specs.Slice.Iter.{chunks_rest}
use Rattle.catalogue.proofs.SourceFacts.{no_fault, told_so}
use Rattle.catalogue.proofs.TellingFacts.{tells_on}
use Rattle.listings.specs.Sights.{sight_of}
use Rattle.listings.proofs.listing.entries_of.Goals as goal

pub loop-run-init : goal.loop-run-init
loop-run-init g c = (
  [],
  sym (ap chunks_rest c.into_iter-run-iterator.ensures.into_iter_gives ∙ c.chunks-run-items.ensures.rest),
  record {
    keeps = g.met.P.Published.lawful.itself c.args.source.now;
    still_open = λ standing. standing;
    told = record { told = λ ours clean content stands. c.in_ok-entries.ensures.items };
  },
)

pub loop-run-preserved : goal.loop-run-preserved
loop-run-preserved g c =
    let was = c.loop-run.invariant in
    let done = was.0 in
    let run = c.in-Some.run'.now in
    let asks = c.in_ok-read_run.ensures.asks in (
      done ++ run,
      was.1 ∙ ap (λ l. done ++ l) c.in-Some.ensures.steps.1.0 ∙ sym (append_assoc done run (chunks_rest c.next.new.self)),
      tells_on g.met.P.Published.lawful was.2 asks.keeps (asks.stays_open (no_fault _)) c.in_ok-read_run.ensures.entries (λ content so_far read.
          read ∙ ap (λ l. l ++ map (sight_of content) run) so_far ∙ sym (map-append (sight_of content) done run)),
    )

pub returns-clause-entries : goal.returns-clause-entries
returns-clause-entries g c =
    let was = c.loop-run.invariant in
    let done = was.0 in
    let all : c.args.ids.now ≡ done = was.1 ∙ ap (λ l. done ++ l) (nil_from_length (chunks_rest c.loop-run.run-iterator) c.in-None.ensures.steps.1.0) ∙ append-nil done in
    told_so was.2.told (λ content so_far.
    c.in_ok-make_as_many.ensures.same (ap length so_far ∙ length-map done (sight_of content) ∙ ap length (sym all))
    ∙ so_far
    ∙ ap (map (sight_of content)) (sym all))
