use Rattle.std.proofs.Common.{◌∙◌, List, ℕ, Bool, Option, Some, find, ap}
use Rattle.supersede.specs.Giving.{is_candidate}
use Rattle.catalogue.proofs.TellingFacts.{told_by_two}
use Rattle.blocked_needs.specs.Blocked.{giver_of, has_one}
use Rattle.blocked_needs.specs.declared.blocked.BlockedNeed.{BlockedNeed}
use Rattle.blocked_needs.proofs.blocked.blocked_for.Goals as goal

need_with : List ℕ → List ℕ → Option (List ℕ) → Bool → BlockedNeed
need_with sysmod need giver published = record { sysmod = sysmod; need = need; giver = giver; published = published }

pub returns-clause-blocked : goal.returns-clause-blocked
unfolding need_with
returns-clause-blocked g c =
    let law = g.met.P.Published.lawful in
    let rows = c.args.zone.now in
    let id = c.args.id.now in
    let need = c.args.need.now in
    told_by_two (law.keeps _ _ c.in_ok-givers.ensures.asks.keeps) (law.keeps _ _ c.in_ok-giver.ensures.asks.keeps) c.in_ok-givers.ensures.givers c.in_ok-giver.ensures.first (λ content givers first.
    ap (λ (o : Option (List ℕ)). Some (need_with id need o c.has_one.result)) (first ∙ ap (find (is_candidate content rows)) (c.deref.ensures.value ∙ givers))
    ∙ ap (λ (b : Bool). Some (need_with id need (giver_of content rows need) b)) (c.has_one.ensures ∙ ap has_one (c.deref-2.ensures.value ∙ givers)))
