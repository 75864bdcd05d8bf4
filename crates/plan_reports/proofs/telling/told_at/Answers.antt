use Rattle.std.proofs.Common.{◌≡◌, ◌∙◌, List, [], ℕ, Bool, sym, ap, subst}
use Rattle.zone_plans.specs.declared.holds.HoldOn.{HoldOn}
use Rattle.supersede.specs.Reach.{has}
use Rattle.requisites.specs.Nodes.{row}
use Rattle.verdicts.proofs.IndexFacts.{indexed_inside}
use Rattle.zone_plans.specs.Findings.{AreFoundOf, FindingLists}
use Rattle.zone_plans.specs.Readings.{ReadingLists, reading_of}
use Rattle.zone_plans.specs.declared.holds.ChosenResolver.{ChosenResolver}
use Rattle.plan_reports.specs.Found.{FoundLists, holds_at, others_at, places_of}
use Rattle.plan_reports.specs.Members.{MemberLists}
use Rattle.plan_reports.proofs.telling.told_at.Goals as goal

pub returns : goal.returns
returns c = λ content rows told.
    let found = c.args.found.now in
    let resolved = c.args.plan.now.resolved in
    let q = c.args.index in
    let id = c.args.id.now in
    let view = c.found.view_is in
    let made : List ℕ → Bool → ReadingLists → List HoldOn → List (List ℕ) → MemberLists = λ id received r holds needed. record {
      step = c.args.step;
      id = id;
      fmids = r.fmids;
      received = received;
      holds = holds;
      needed_by = needed;
      system = r.system;
      user = r.user;
    } in
    let r = c.reading-reading.result.now in
    let F : FindingLists → Type 0 = λ f. AreFoundOf content rows f found.ids in
    let known = subst F (sym c.findings.ensures) told in
    let reading : r ≡ reading_of content rows id = c.reading-reading.ensures content rows known.so (known.each id (indexed_inside found.ids id q c.requires.stands)) in
    let holds : c.in_ok-holds.holds.items ≡ holds_at resolved (row found.resolving q) =
    c.in_ok-holds.ensures
    ∙ ap (λ (l : List ChosenResolver). holds_at l c.row_at.result.now) c.resolved.ensures
    ∙ ap (holds_at resolved) (c.row_at.ensures ∙ ap (λ (l : List (List ℕ)). row l q) (ap places_of c.deref.ensures.value ∙ ap (λ (f : FoundLists). f.resolving) view)) in
    let needed : c.in_ok-needed_by.needed_by.items ≡ others_at found.ids id (row found.needing q) =
    c.in_ok-needed_by.ensures
    ∙ ap (λ (l : List (List ℕ)). others_at l id c.row_at-2.result.now) (c.deref-2.ensures.value ∙ ap (λ (f : FoundLists). f.ids) view)
    ∙ ap (others_at found.ids id) (c.row_at-2.ensures ∙ ap (λ (l : List (List ℕ)). row l q) (ap places_of c.deref-3.ensures.value ∙ ap (λ (f : FoundLists). f.needing) view)) in
    let read : c.in_ok-read.read ≡ made id c.is_among.result r [] [] =
    c.in_ok-read.ensures ∙ ap (λ (m : MemberLists). record { step = m.step; id = m.id; fmids = r.fmids; received = m.received; holds = m.holds; needed_by = m.needed_by; system = r.system; user = r.user }) c.new-bare.ensures in
    c.with_causes.ensures
    ∙ ap (λ (m : MemberLists). record { step = m.step; id = m.id; fmids = m.fmids; received = m.received; holds = c.in_ok-holds.holds.items; needed_by = c.in_ok-needed_by.needed_by.items; system = m.system; user = m.user }) read
    ∙ ap (λ (b : Bool). made id b r c.in_ok-holds.holds.items c.in_ok-needed_by.needed_by.items) c.is_among.ensures
    ∙ ap (λ (l : ReadingLists). made id (has c.args.received.now id) l c.in_ok-holds.holds.items c.in_ok-needed_by.needed_by.items) reading
    ∙ ap (λ (l : List HoldOn). made id (has c.args.received.now id) (reading_of content rows id) l c.in_ok-needed_by.needed_by.items) holds
    ∙ ap (λ (l : List (List ℕ)). made id (has c.args.received.now id) (reading_of content rows id) (holds_at resolved (row found.resolving q)) l) needed
    ∙ ap (λ (i : List ℕ). made i (has c.args.received.now i) (reading_of content rows i) (holds_at resolved (row found.resolving q)) (others_at found.ids i (row found.needing q))) (sym c.requires.stands.is)
