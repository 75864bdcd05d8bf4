use Rattle.std.proofs.Common.{◌≡◌, ◌∙◌, ◌++◌, ◌+◌, List, [], ap, append_assoc, length, map, refl, rules, subst, sym}
use Rattle.std.proofs.lemmas.List.{append-nil, length-append, map-append, nil_from_length}
use Rattle.std.specs.Slice.Iter.{chunks_rest}
use Rattle.catalogue.proofs.SourceFacts.{no_fault, told_so}
use Rattle.catalogue.proofs.TellingFacts.{tells_on}
use Rattle.listings.specs.declared.member_rows.MemberRows.{MemberRows}
use Rattle.listings.specs.MemberRows.{AreRowsOf}
use Rattle.listings.specs.Sights.{Sight, sight_of}
use Rattle.listings.proofs.MemberRowFacts.{no_rows, rows_within}
use Rattle.listings.proofs.reading.read_rows.Goals as goal

pub loop-run-init : goal.loop-run-init
loop-run-init g c = (
  [],
  [],
  sym (ap chunks_rest c.into_iter-run-iterator.ensures.into_iter_gives ∙ c.chunks-run-items.ensures.rest),
  refl,
  no_rows c.args.zone.now c.args.members.now _ _ _ c.in_ok-rows.ensures.candidates c.in_ok-rows.ensures.needs c.in_ok-rows.ensures.supersedes,
  record {
    keeps = g.met.P.Published.lawful.itself c.args.source.now;
    still_open = λ standing. standing;
    told = record { told = λ ours clean content stands. refl };
  },
)

pub loop-run-preserved : goal.loop-run-preserved
loop-run-preserved g c =
    let was = c.loop-run.invariant in
    let done = was.0 in
    let sights = was.1 in
    let run = c.in-Some.run'.now in
    let entries = c.in_ok-entries.entries.items in
    let rows = c.push_all.new.self in
    let asks = c.in_ok-entries.ensures.asks in
    let P : List Sight → Type 0 = λ l. AreRowsOf c.args.zone.now c.args.members.now (sights ++ l) rows.candidates.items rows.needs rows.supersedes in (
      done ++ run,
      sights ++ entries,
      was.2 ∙ ap (λ l. done ++ l) c.in-Some.ensures.steps.1.0 ∙ sym (append_assoc done run (chunks_rest c.next.new.self)),
      length-append sights entries ∙ ap (λ n. n + length entries) was.3 ∙ ap (λ n. length done + n) c.in_ok-entries.ensures.len ∙ sym (length-append done run),
      subst P c.deref.ensures.value (c.in_ok-push_all.ensures sights was.4),
      tells_on g.met.P.Published.lawful was.5 asks.keeps (asks.stays_open (no_fault _)) c.in_ok-entries.ensures.entries (λ content so_far read.
          ap (λ l. l ++ entries) so_far ∙ ap (λ l. map (sight_of content) done ++ l) read ∙ sym (map-append (sight_of content) done run)),
    )

pub returns-clause-within : goal.returns-clause-within
returns-clause-within g c =
    let was = c.loop-run.invariant in
    let done = was.0 in
    let all : c.args.members.now ≡ done = was.2 ∙ ap (λ l. done ++ l) (nil_from_length (chunks_rest c.loop-run.run-iterator) c.in-None.ensures.steps.1.0) ∙ append-nil done in
    rows_within c.args.zone.now c.args.members.now was.1 _ _ _ (was.3 ∙ sym (ap length all))
    (subst (λ (rows : MemberRows). AreRowsOf c.args.zone.now c.args.members.now was.1 rows.candidates.items rows.needs rows.supersedes) (sym c.shrink_to_fit.ensures) was.4)

pub returns-clause-rows : goal.returns-clause-rows
returns-clause-rows g c =
    let was = c.loop-run.invariant in
    let done = was.0 in
    let all : c.args.members.now ≡ done = was.2 ∙ ap (λ l. done ++ l) (nil_from_length (chunks_rest c.loop-run.run-iterator) c.in-None.ensures.steps.1.0) ∙ append-nil done in
    let P : MemberRows → List Sight → Type 0 = λ rows l. AreRowsOf c.args.zone.now c.args.members.now l rows.candidates.items rows.needs rows.supersedes in
    told_so was.5.told (λ content so_far.
    subst (λ (rows : MemberRows). P rows (map (sight_of content) c.args.members.now)) (sym c.shrink_to_fit.ensures)
    (subst (P c.loop-run.rows) (so_far ∙ ap (map (sight_of content)) (sym all)) was.4))

pub returns-in_err-entries-clause-asks : goal.returns-in_err-entries-clause-asks
returns-in_err-entries-clause-asks g c = search rules
