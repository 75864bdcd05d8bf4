-- The dates of holds: worked cases, so that the definitions are seen to mean what they should.
use Rattle.std.proofs.Common.{◌≡◌, ℕ, Bool, true, false, [], refl}
use Rattle.std.specs.Prelude.{◌%◌, ◌==◌, ◌&&◌, ◌||◌, Some, None, codes, filter, not, sum}
use Rattle.std.specs.Fmt.{digits}
use Rattle.std.specs.List.{range_with_len}
use Rattle.serde_json.specs.Data.{null, string}
use Rattle.report_json.specs.Dates.{date_data, full_year, is_leap, month_lengths}

-- a year has 365 days, or 366
pub days_of_a_year : sum (month_lengths false) ≡ 365
days_of_a_year = refl

pub days_of_a_leap_year : sum (month_lengths true) ≡ 366
days_of_a_leap_year = refl

-- in the middle of a year, and in the two first months
pub in_april : date_data (Some 25119) ≡ string (codes "2025-04-29")
unfolding digits
in_april = refl

pub first_day : date_data (Some 25001) ≡ string (codes "2025-01-01")
unfolding digits
first_day = refl

pub end_of_january : date_data (Some 25031) ≡ string (codes "2025-01-31")
unfolding digits
end_of_january = refl

pub first_of_february : date_data (Some 25032) ≡ string (codes "2025-02-01")
unfolding digits
first_of_february = refl

-- leap years
pub leap_day : date_data (Some 24060) ≡ string (codes "2024-02-29")
unfolding digits
leap_day = refl

pub no_leap_day : date_data (Some 25060) ≡ string (codes "2025-03-01")
unfolding digits
no_leap_day = refl

pub last_day_of_a_leap_year : date_data (Some 24366) ≡ string (codes "2024-12-31")
unfolding digits
last_day_of_a_leap_year = refl

pub leap_day_of_the_year_2000 : date_data (Some 60) ≡ string (codes "2000-02-29")
unfolding digits
leap_day_of_the_year_2000 = refl

-- a day that no calendar has, and a hold without a date
pub no_such_day : date_data (Some 25366) ≡ null
no_such_day = refl

pub no_date : date_data None ≡ null
no_date = refl

-- the first and the last of the years
pub first_of_1970 : date_data (Some 70001) ≡ string (codes "1970-01-01")
unfolding digits
first_of_1970 = refl

pub last_of_2069 : date_data (Some 69365) ≡ string (codes "2069-12-31")
unfolding digits
last_of_2069 = refl

pub last_of_1999 : date_data (Some 99365) ≡ string (codes "1999-12-31")
unfolding digits
last_of_1999 = refl

-- the calendar's rule: a leap year can be divided by 4, and either by 400 or not by 100
abbrev has_leap_day : ℕ → Bool
has_leap_day year = year % 4 == 0 && (not (year % 100 == 0) || year % 400 == 0)

abbrev same : Bool → Bool → Bool
same true b = b
same false b = not b

-- the years of which that is not so
pub each_year_by_the_calendar : filter (λ yy. not (same (is_leap yy) (has_leap_day (full_year yy)))) (range_with_len 0 100) ≡ []
each_year_by_the_calendar = refl
