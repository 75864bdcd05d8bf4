-- The day of each day of a year.
use Rattle.std.proofs.Common.{◌≡◌, ◌+◌, ◌-◌, ◌<◌, ◌≤◌, ℕ, suc, List, [], ◌∷◌, Option, Some, None, length, get_or, take, refl, sym, subst, arith, inl, inr}
use Rattle.std.specs.List.{sum}
use Rattle.std.specs.Option.{IsSomeAnd}
use Rattle.std.proofs.lemmas.Bool.{cases_lt, le-leb, lt-leb}
use Rattle.std.proofs.lemmas.List.Sums.{sum_by-cons}
use Rattle.report_json.specs.Dates.{DaysAreFound, IsDay, day_in, month_lengths}

-- a day is found among lengths, where the months begin with a number
record IsFrom (lengths : List ℕ) (first day : ℕ) (found : ℕ × ℕ) : Type 0 where
  index : ℕ
  inside : index < length lengths
  month : found.0 ≡ first + index
  least : 1 ≤ found.1
  most : found.1 ≤ get_or lengths index 0
  before : sum (take index lengths) + found.1 ≡ day

-- one month more stands before it
month_more : (days : ℕ) (lengths : List ℕ) (first day : ℕ) → days < day → (o : Option (ℕ × ℕ)) → IsSomeAnd o (IsFrom lengths (first + 1) (day - days)) → IsSomeAnd o (IsFrom (days ∷ lengths) first day)
month_more days lengths first day after None is = is
month_more days lengths first day after (Some found) is =
    let whole : sum (days ∷ take is.index lengths) ≡ days + sum (take is.index lengths) = sum_by-cons (λ x. x) days (take is.index lengths) in
    record {
      index = suc is.index;
      inside = omega (arith, is.inside);
      month = omega (arith, is.month);
      least = is.least;
      most = is.most;
      before = omega (arith, is.before, whole, after);
    }

found_from : (lengths : List ℕ) (first day : ℕ) → 1 ≤ day → day ≤ sum lengths → IsSomeAnd (day_in lengths first day) (IsFrom lengths first day)
found_from [] first day least most = absurd (omega arith)
found_from (days ∷ lengths) first day least most = elim (cases_lt days day) [
  | inl after ↦
      (let whole : sum (days ∷ lengths) ≡ days + sum lengths = sum_by-cons (λ x. x) days lengths in
      rw (lt-leb day days after) (month_more days lengths first day after _ (found_from lengths (first + 1) (day - days) (omega arith) (omega (arith, whole, most)))))
  | inr within ↦
      rw (le-leb day days within) (record { index = 0; inside = omega arith; month = omega arith; least = least; most = within; before = omega arith })
]

-- no month has a later day
none_from : (lengths : List ℕ) (first day : ℕ) → sum lengths < day → day_in lengths first day ≡ None
none_from [] first day after = refl
none_from (days ∷ lengths) first day after =
    let whole : sum (days ∷ lengths) ≡ days + sum lengths = sum_by-cons (λ x. x) days lengths in
    rw (lt-leb day days (omega (arith, whole, after))) (none_from lengths (first + 1) (day - days) (omega (arith, whole, after)))

as_day : (lengths : List ℕ) (day : ℕ) (o : Option (ℕ × ℕ)) → IsSomeAnd o (IsFrom lengths 1 day) → IsSomeAnd o (IsDay lengths day)
as_day lengths day None is = is
as_day lengths day (Some found) is =
    let index : found.0 - 1 ≡ is.index = omega (arith, is.month) in
    let P : ℕ → Type 0 = λ k. found.1 ≤ get_or lengths k 0 in
    let Q : ℕ → Type 0 = λ k. sum (take k lengths) + found.1 ≡ day in
    record {
      month = (omega (arith, is.month), omega (arith, is.month, is.inside));
      within = (is.least, subst P (sym index) is.most);
      before = subst Q (sym index) is.before;
    }

pub days_found : DaysAreFound
days_found = record {
  found = λ leap day least most. as_day (month_lengths leap) day (day_in (month_lengths leap) 1 day) (found_from (month_lengths leap) 1 day least most);
  later = λ leap day after. none_from (month_lengths leap) 1 day after;
}
