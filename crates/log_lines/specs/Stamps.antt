-- The word of a time: its civil date in UTC and its time of day, with milliseconds (RFC 3339, section 5.6).
use Rattle.std.specs.Prelude.{◌≡◌, ◌≤◌, ◌⊎◌, ℕ, ◌+◌, ◌/◌, ◌%◌, List, ◌∷◌, ◌++◌, codes, if◌then◌else◌}
use Rattle.std.specs.Str.{bytes_eq}
use Rattle.httpdate.specs.Date.{unix_secs}
use Rattle.httpdate.specs.Text.{four_digits, time_of_day, two_digits}
use Rattle.httpdate.specs.declared.date.HttpDate.{HttpDate}
use Rattle.httpdate.specs.declared.parts.Parts.{Parts}
use Rattle.log_lines.specs.Words.{none}

-- a number below 1000, in three digits
abbrev pub three_digits : ℕ → List ℕ
three_digits n = (48 + n / 100) ∷ two_digits (n % 100)

-- `1994-11-06T08:49:37.123Z`, by the numbers of a second and the milliseconds of it that have gone
abbrev pub stamp_text : Parts → ℕ → List ℕ
stamp_text p millis = four_digits p.year ++ codes "-" ++ two_digits p.mon ++ codes "-" ++ two_digits p.day ++ codes "T"
    ++ time_of_day p ++ codes "." ++ three_digits millis ++ codes "Z"

-- The word of the time so many nanoseconds after 1970 began: that of the calendar's second so many seconds after. From the
-- year 10000 on it is none.
abbrev pub IsStamp : ℕ → List ℕ → Type 0
IsStamp nanos word =
    ((date : HttpDate) × (unix_secs date ≡ nanos / 1000000000) × (word ≡ stamp_text date.parts (nanos % 1000000000 / 1000000)))
    ⊎ ((253402300800 ≤ nanos / 1000000000) × (word ≡ none))

-- ---- private

-- the number of the month of a name
abbrev pub month_named : List ℕ → ℕ
month_named name =
    if bytes_eq name (codes "Jan") then 1
    else if bytes_eq name (codes "Feb") then 2
    else if bytes_eq name (codes "Mar") then 3
    else if bytes_eq name (codes "Apr") then 4
    else if bytes_eq name (codes "May") then 5
    else if bytes_eq name (codes "Jun") then 6
    else if bytes_eq name (codes "Jul") then 7
    else if bytes_eq name (codes "Aug") then 8
    else if bytes_eq name (codes "Sep") then 9
    else if bytes_eq name (codes "Oct") then 10
    else if bytes_eq name (codes "Nov") then 11
    else 12
