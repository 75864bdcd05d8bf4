-- The date of a hold as JSON has it. `++HOLD` has yyddd (IBM z/OS SMP/E Reference, operand DATE): the last two digits of
-- the year, and the day in it.
use Rattle.std.specs.Prelude.{◌≡◌, ℕ, ◌+◌, ◌-◌, ◌/◌, ◌%◌, ◌<◌, ◌≤◌, ◌==◌, ◌++◌, Bool, List, [], ◌∷◌, Option, Some, None, IsSomeAnd, codes, decimal, length, nat_le, nat_lt, slice_index_or, sum, take, if◌then◌else◌}
use Rattle.serde_json.specs.Data.{Data, null, string}

-- the years are 1970 to 2069
abbrev pub full_year : ℕ → ℕ
full_year yy = if nat_lt yy 70 then 2000 + yy else 1900 + yy

-- of these years each fourth has 366 days, 2000 among them
abbrev pub is_leap : ℕ → Bool
is_leap yy = yy % 4 == 0

-- the number of days of each month
abbrev pub month_lengths : Bool → List ℕ
month_lengths leap = 31 ∷ (if leap then 29 else 28) ∷ 31 ∷ 30 ∷ 31 ∷ 30 ∷ 31 ∷ 31 ∷ 30 ∷ 31 ∷ 30 ∷ 31 ∷ []

-- the month, and the day in it, of the day in the year: by the lengths of the months from one on
abbrev pub day_in : List ℕ → ℕ → ℕ → Option (ℕ × ℕ)
day_in [] month day = None
day_in (days ∷ lengths) month day = if nat_le day days then Some (month, day) else day_in lengths (month + 1) (day - days)

-- A month and a day in it are those of a day in the year: the year has the month, the month has the day, and the days of the
-- months before it, with the day, make the day in the year.
pub record IsDay (lengths : List ℕ) (day : ℕ) (found : ℕ × ℕ) : Type 0 where
  pub month : (1 ≤ found.0) × (found.0 ≤ length lengths)
  pub within : (1 ≤ found.1) × (found.1 ≤ slice_index_or lengths (found.0 - 1) 0)
  pub before : sum (take (found.0 - 1) lengths) + found.1 ≡ day

-- each day of a year has its month and its day in it, and a later day has none
pub record DaysAreFound : Type 0 where
  pub found : (leap : Bool) (day : ℕ) → 1 ≤ day → day ≤ sum (month_lengths leap) → IsSomeAnd (day_in (month_lengths leap) 1 day) (IsDay (month_lengths leap) day)
  pub later : (leap : Bool) (day : ℕ) → sum (month_lengths leap) < day → day_in (month_lengths leap) 1 day ≡ None

-- a month or a day in two digits
abbrev pub two_digits : ℕ → List ℕ
two_digits n = if nat_lt n 10 then codes "0" ++ decimal n else decimal n

-- `YYYY-MM-DD`
abbrev pub day_text : ℕ → ℕ × ℕ → List ℕ
day_text year day = decimal year ++ codes "-" ++ two_digits day.0 ++ codes "-" ++ two_digits day.1

-- `++HOLD` may name day 366 of a year that has 365: null says that no calendar has the day
abbrev pub day_data : ℕ → Option (ℕ × ℕ) → Data
day_data year None = null
day_data year (Some day) = string (day_text year day)

-- the date of a hold, or null if it has none
abbrev pub date_data : Option ℕ → Data
date_data None = null
date_data (Some date) = day_data (full_year (date / 1000)) (day_in (month_lengths (is_leap (date / 1000))) 1 (date % 1000))
