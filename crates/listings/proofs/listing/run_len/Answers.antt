use Rattle.std.proofs.Common.{ℕ, ◌+◌, ◌*◌, ◌<◌, ◌≤◌, inl, inr, subst, sym, arith}
use Rattle.std.proofs.Math.Nat.{mul-le-mul_left}
use Rattle.std.proofs.lemmas.Bool.{cases_lt}
use Rattle.std.proofs.lemmas.Grind.{div_ceil_times}
use Rattle.listings.proofs.listing.run_len.Goals as goal

-- so many in so few runs that none has more than 4,096
at_most : (count runs len : ℕ) → 0 < runs → count ≤ runs * 4096 → len * runs < count + runs → len ≤ 4096
at_most count runs len some few times = elim (cases_lt 4096 len) [
  | inl above ↦ (let more : runs * 4097 ≤ runs * len = mul-le-mul_left runs (omega (arith, above)) in absurd (omega (arith, more, few, times)))
  | inr within ↦ within
]

pub returns-clause-most : goal.returns-clause-most
returns-clause-most c =
    let count = c.args.count in
    let runs = c.max-runs.result in
    let some : 0 < runs = omega (arith, c.max-runs.ensures) in
    let C : ℕ → Type 0 = λ n. count ≤ n * 4096 in
    let covered = subst C (sym c.div_ceil.ensures) (div_ceil_times count 4096 (omega arith)).0 in
    let few : count ≤ runs * 4096 = omega (arith, covered, c.max-runs.ensures) in
    let T : ℕ → Type 0 = λ n. n * runs < count + runs in
    let within = at_most count runs c.div_ceil-2.result some few (subst T (sym c.div_ceil-2.ensures) (div_ceil_times count runs some).1) in
    omega (arith, within, c.max.ensures)
