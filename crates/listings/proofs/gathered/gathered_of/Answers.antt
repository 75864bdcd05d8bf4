use Rattle.std.proofs.Common.{◌≡◌, ◌∙◌, List, ap, rules, ℕ}
use Rattle.holddata.specs.declared.hold.Hold.{Hold}
use Rattle.catalogue.specs.Content.{holds_on}
use Rattle.catalogue.proofs.SourceFacts.{no_fault, told_both, told_later, told_so, told_sooner}
use Rattle.listings.specs.Sights.{Sight, sight_from, sight_of}
use Rattle.listings.specs.declared.gathered.Gathered.{Gathered}
use Rattle.listings.proofs.gathered.gathered_of.Goals as goal

made : Sight → List (List ℕ) → Gathered
made entry above = record { entry = entry; above = above }

pub returns-clause-gathered : goal.returns-clause-gathered
unfolding made
returns-clause-gathered g c =
    let law = g.met.P.Published in
    let first = law.lawful.keeps _ _ c.in_ok-sysmod.ensures.asks.keeps in
    let second = law.lawful.keeps _ _ c.in_ok-holds.ensures.asks.keeps in
    let third = law.lawful.keeps _ _ c.in_ok-above.ensures.asks.keeps in
    let record_and_holds = told_both (told_sooner c.in_ok-sysmod.ensures.sysmod second) (told_later first second c.in_ok-holds.ensures.holds) in
    let both = law.lawful.keeps _ _ (law.lawful.on _ _ _ c.in_ok-sysmod.ensures.asks.keeps c.in_ok-holds.ensures.asks.keeps) in
    told_so (told_both (told_sooner record_and_holds third) (told_later both third c.in_ok-above.ensures.superseders)) (λ content facts.
    let here : Sight = sight_of content c.args.id.now in
    let entry : c.in_ok-entry_from.field-0 ≡ here =
    c.in_ok-entry_from.ensures
    ∙ ap (λ (l : List Hold). sight_from c.in_ok-sysmod.sysmod l) (c.deref.ensures.value ∙ facts.0.1)
    ∙ ap (λ found. sight_from found (holds_on content c.args.id.now)) facts.0.0 in
    ap (λ (e : Sight). made e c.ascending.result) entry ∙ ap (λ (l : List (List ℕ)). made here l) (c.ascending.ensures ∙ facts.1))

pub returns-clause-asks : goal.returns-clause-asks
returns-clause-asks g c =
    let law = g.met.P.Published in
    record {
      keeps = law.lawful.on _ _ _ (law.lawful.on _ _ _ c.in_ok-sysmod.ensures.asks.keeps c.in_ok-holds.ensures.asks.keeps) c.in_ok-above.ensures.asks.keeps;
      cause = search rules;
      stays_open = λ fault standing. c.in_ok-above.ensures.asks.is_open (no_fault _);
    }
