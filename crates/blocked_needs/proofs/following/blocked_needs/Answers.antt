use Rattle.std.proofs.Common.{List, ℕ, ◌++◌, ◌∷◌, [], take, sym, ap, subst, ◌∙◌}
use Rattle.std.proofs.lemmas.List.{take_all, take_more}
use Rattle.catalogue.proofs.SourceFacts.{no_fault, told_both, told_so}
use Rattle.catalogue.proofs.TellingFacts.{tells_on}
use Rattle.blocked_needs.specs.Seen.{AreSeen}
use Rattle.blocked_needs.proofs.BlockedFacts.{are_blocked_needs}
use Rattle.blocked_needs.proofs.following.blocked_needs.Goals as goal

pub loop-id-preserved : goal.loop-id-preserved
loop-id-preserved g c =
    let rows = c.args.zone.now in
    let ids = c.args.sysmods.now in
    let index = c.loop-id.id-index in
    let id = c.id-item.result in
    tells_on g.met.P.Published.lawful c.loop-id.invariant c.in_ok-follow.ensures.asks.keeps (λ standing. c.in_ok-follow.ensures.asks.stays_open (no_fault _) standing)
    (told_both c.in_ok-follow.ensures.followed c.in_ok-follow.ensures.right) (λ content so_far both. λ right.
    let was = so_far right in
    let S : List (List ℕ) → Type 0 = λ l. AreSeen content rows l c.follow.new.seen.entries in (
      subst S (sym (take_more ids index id c.loop-id-test.true ∙ ap (λ z. take index ids ++ z ∷ []) (sym c.id-item.is))) (both.0 was.1 (take index ids) was.0),
      both.1 was.1,
    ))

pub returns-clause-needs : goal.returns-clause-needs
returns-clause-needs g c =
    told_so c.loop-id.invariant.told (λ content so_far. λ right.
    let S : List (List ℕ) → Type 0 = λ l. AreSeen content c.args.zone.now l c.loop-id.seen.entries in
    are_blocked_needs content c.args.zone.now c.args.sysmods.now c.loop-id.seen.entries (subst S (take_all c.loop-id.id-index c.args.sysmods.now c.loop-id-test.false) (so_far right).0) c.in_ok-rows_in.field-0.items c.in_ok-rows_in.ensures)
