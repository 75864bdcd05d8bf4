use Rattle.std.proofs.Common.{◌≡◌, List, Option, length, subst, ℕ}
use Rattle.lemmas.proofs.ResultFacts.{ok_so}
use Rattle.requisites.specs.Nodes.{row}
use Rattle.verdicts.specs.Candidates.{candidates_unless_there}
use Rattle.chains.specs.Climbs.{IsAnswer, with_source}
use Rattle.verdicts.specs.Indices.{RowsAre}
use Rattle.chains.proofs.AnswerFacts.{answer_is, kept_answers}
use Rattle.chains.proofs.candidates.found_among.Goals as goal

pub returns : goal.returns
returns c = ok_so c.found_for_each.result c.found_for_each.ensures (λ found told content rows is.
    let climb = c.args.climb.now in
    let ids = climb.ids.items in
    let there = c.args.there.now in
    let candidates = c.args.candidates.now in
    let given = c.in_ok-given.given.items in
    let S : List (Option ℕ) → Type 0 = λ l. RowsAre (λ p indices. indices ≡ with_source l (row climb.above p)) (length climb.above) c.in_ok-above.above in
    let N : ℕ → Type 0 = λ n. RowsAre (λ p indices. indices ≡ with_source given (row climb.above p)) n c.in_ok-above.above in
    told (candidates_unless_there content rows) (λ id answer inside answered.
    let I : List (List ℕ) → Type 0 = λ l. IsAnswer l c.in_ok-above.above there candidates id answer in
    answer_is content rows c.args.asked.now ids climb.above there candidates is id answer inside (
    kept_answers ids climb.above climb.below c.in_ok-above.above candidates given c.requires.turned c.requires.marks c.in_ok-given.ensures.sources
    (subst N c.requires.rows (subst S c.deref.ensures.value c.in_ok-above.ensures))
    there id answer (subst I c.deref-2.ensures.value answered)
    )))
