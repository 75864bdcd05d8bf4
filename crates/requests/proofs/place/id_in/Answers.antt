use Rattle.std.proofs.Common.{◌≡◌, ◌++◌, sym, ap, ◌∙◌, arith, ℕ, Bool, true, ◌==◌}
use Rattle.std.proofs.lemmas.Bool.Decides.{nat_tests}
use Rattle.requests.proofs.IdFacts.{too_long}
use Rattle.requests.proofs.place.id_in.Goals as goal

full : {n : ℕ} {t : Bool} → t ≡ (n == 7) → t ≡ true → n ≡ 7
full {n} {t} is true_ = grind (arith, nat_tests)

pub returns-then-is_full : goal.returns-then-is_full
returns-then-is_full c =
    sym (too_long _ _ _ _ (c.loop-byte.invariant.whole ∙ ap (λ rest. c.loop-byte.text.items ++ rest) c.in-Some.ensures.steps) (full c.is_full.ensures.value c.if-is_full.true))
