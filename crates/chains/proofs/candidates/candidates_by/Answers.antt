use Rattle.std.proofs.Common.{◌≡◌, ◌∙◌, Bool, List, ℕ, Option, length, rules, subst, sym}
use Rattle.catalogue.proofs.SourceFacts.{no_fault, told_both}
use Rattle.catalogue.proofs.TellingFacts.{told_by_two}
use Rattle.requisites.specs.Sources.{AreLeastSources, HasSource}
use Rattle.supersede.specs.Giving.{is_candidate}
use Rattle.chains.specs.Climbs.{IsFound}
use Rattle.verdicts.specs.Indices.{id_at, MarksAre}
use Rattle.listings.specs.SeenIndices.{AreThere}
use Rattle.chains.proofs.AboveFacts.{unheld_above}
use Rattle.chains.proofs.AnswerFacts.{AreMarked, found_is, one_inside}
use Rattle.listings.proofs.SupersederFacts.{unheld, unheld_in_order}
use Rattle.verdicts.proofs.AskingFacts.{failed_since}
use Rattle.chains.proofs.candidates.candidates_by.Goals as goal

pub returns-clause-candidates : goal.returns-clause-candidates
returns-clause-candidates g c =
    let law = g.met.P.Published.lawful in
    let asked = c.args.ids.now in
    let rows = c.args.zone.now in
    let climb = c.in_ok-climb.climb in
    let ids = climb.ids.items in
    let there = c.in_ok-there.there.items in
    let absent = c.in_ok-absent.absent.items in
    let wanted = c.in_ok-wanted.wanted.items in
    let candidates = c.in_ok-candidates.candidates.items in
    let first = law.keeps _ _ c.in_ok-climb.ensures.asks.keeps in
    let second = law.keeps _ _ c.in_ok-candidates.ensures.asks.keeps in
    let one = one_inside asked (sym c.is_empty.ensures ∙ c.if-is_empty.false) in
    let T : List (List ℕ) → Type 0 = λ l. AreThere rows l climb.below there in
    let N : List (List ℕ) → Type 0 = λ l. length absent ≡ length l in
    let M : List (List ℕ) → Type 0 = λ l. AreMarked l asked c.deref-3.result.now absent in
    let O : List Bool → Type 0 = λ l. AreMarked ids asked l absent in
    let S : List Bool → Type 0 = λ l. AreLeastSources climb.above l wanted in
    told_by_two first second (told_both c.in_ok-climb.ensures.above c.in_ok-climb.ensures.ordered) c.in_ok-candidates.ensures.are (λ content climbed marked at_hand.
    let bare = unheld content in
    let C : List (List ℕ) → Type 0 = λ l. MarksAre (λ p mark. HasSource c.deref-6.result.now p → mark ≡ is_candidate content rows (id_at l p)) (length l) candidates in
    let D : List (Option ℕ) → Type 0 = λ l. MarksAre (λ p mark. HasSource l p → mark ≡ is_candidate content rows (id_at ids p)) (length ids) candidates in
    let F : List Bool → Type 0 = λ l. IsFound bare rows asked ids climb.above l c.deref-8.result.now in
    let G : List Bool → Type 0 = λ l. IsFound bare rows asked ids climb.above there l in
    let found =
    found_is bare rows asked ids climb.above climb.below there absent candidates wanted (unheld_in_order content (climbed.1 at_hand one.0 one.1)) (unheld_above content ids climb.above (climbed.0 at_hand))
    c.in_ok-climb.ensures.starts c.in_ok-climb.ensures.turned
    (subst T c.deref.ensures.value c.in_ok-there.ensures)
    (subst N c.deref-2.ensures.value c.in_ok-absent.ensures.len)
    (subst O c.deref-3.ensures.value (subst M c.deref-2.ensures.value c.in_ok-absent.ensures.marked))
    (subst S c.deref-4.ensures.value c.in_ok-wanted.ensures.sources)
    (subst D c.deref-6.ensures.value (subst C c.deref-5.ensures.value (marked at_hand))) in
    c.in_ok-found_among.ensures bare rows (subst F (sym c.deref-7.ensures.value) (subst G (sym c.deref-8.ensures.value) found)))

pub returns-in_err-candidates-clause-asks : goal.returns-in_err-candidates-clause-asks
returns-in_err-candidates-clause-asks g c =
    let law = g.met.P.Published.lawful in
    record {
      keeps = law.on _ _ _ c.in_ok-climb.ensures.asks.keeps c.in_err-candidates.ensures.asks.keeps;
      cause = λ failed. failed_since (law.keeps _ _ c.in_ok-climb.ensures.asks.keeps).goes (c.in_err-candidates.ensures.asks.cause (search rules));
      stays_open = λ fault is_open. c.in_err-candidates.ensures.asks.stays_open (λ failed. fault (search rules)) (c.in_ok-climb.ensures.asks.stays_open (no_fault _) is_open);
    }

pub returns-in_err-found_among-clause-asks : goal.returns-in_err-found_among-clause-asks
returns-in_err-found_among-clause-asks g c =
    let law = g.met.P.Published.lawful in
    record {
      keeps = law.on _ _ _ c.in_ok-climb.ensures.asks.keeps c.in_ok-candidates.ensures.asks.keeps;
      cause = search rules;
      stays_open = λ fault is_open. c.in_ok-candidates.ensures.asks.stays_open (no_fault _) (c.in_ok-climb.ensures.asks.stays_open (no_fault _) is_open);
    }

pub returns-clause-asks : goal.returns-clause-asks
returns-clause-asks g c =
    let law = g.met.P.Published.lawful in
    record {
      keeps = law.on _ _ _ c.in_ok-climb.ensures.asks.keeps c.in_ok-candidates.ensures.asks.keeps;
      cause = search rules;
      stays_open = λ fault is_open. c.in_ok-candidates.ensures.asks.stays_open (no_fault _) (c.in_ok-climb.ensures.asks.stays_open (no_fault _) is_open);
    }
