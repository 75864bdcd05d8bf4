use Rattle.std.proofs.Common.{◌≡◌, ◌∙◌, Option, Some, None, refl, sym}
use Rattle.catalogue.proofs.SourceFacts.{no_fault, told_both, told_so}
use Rattle.catalogue.proofs.TellingFacts.{tells_on}
use Rattle.blocked_needs.proofs.BlockedFacts.{partly_begun, seen_again, seen_more, seen_none}
use Rattle.blocked_needs.proofs.following.follow.Goals as goal

none_by : {X : Type 0} (o : Option X) → ((x : X) → o ≡ Some x → ⊥) → o ≡ None
none_by None none = refl
none_by (Some x) none = absurd (none x refl)

pub givers-init : goal.givers-init
givers-init g c = record {
  keeps = g.met.P.Published.lawful.itself _;
  still_open = λ standing. standing;
  told = record { told = λ ours clean content stands. λ right. (λ starts seen. partly_begun content c.args.zone.now starts c.args.start.now c.args.seen.now.entries seen, right) };
}

pub returns-in_default-clause-followed : goal.returns-in_default-clause-followed
returns-in_default-clause-followed g c =
    let none : c.givers.next ≡ None = none_by c.givers.next c.in_default.not-Some in
    told_so c.givers.invariant.told (λ content so_far. λ right. λ starts seen. seen_none content c.args.zone.now starts c.args.start.now c.givers.seen.entries c.givers.next none ((so_far right).0 starts seen))

pub returns-then-is_seen-clause-followed : goal.returns-then-is_seen-clause-followed
returns-then-is_seen-clause-followed g c =
    told_so c.givers.invariant.told (λ content so_far. λ right. λ starts seen. seen_again content c.args.zone.now starts c.args.start.now c.givers.seen.entries c.givers.next c.in-Some.id c.in-Some.is ((so_far right).0 starts seen) (sym c.is_seen.ensures ∙ c.if-is_seen.true))

pub givers-preserved : goal.givers-preserved
givers-preserved g c =
    tells_on g.met.P.Published.lawful c.givers.invariant c.in_ok-blocked.ensures.asks.keeps (λ standing. c.in_ok-blocked.ensures.asks.stays_open (no_fault _) standing)
    (told_both c.in_ok-blocked.ensures.blocked c.in_ok-blocked.ensures.right) (λ content so_far both. λ right.
    let was = so_far right in (
      λ starts seen. seen_more content c.args.zone.now starts c.args.start.now c.givers.seen.entries c.insert.new.self.entries c.givers.next c.in-Some.id c.in_ok-blocked.blocked c.next_by-next.result c.in-Some.is (was.0 starts seen) (both.0 was.1) c.in_ok-insert.ensures.entries c.next_by-next.ensures,
      both.1 was.1,
    ))
