-- The date of a hold, as `++HOLD` has it: yyddd, the last two digits of the year and the day in it.
use Rattle.std.specs.Prelude.{ℕ, ◌+◌, ◌/◌, ◌%◌, ◌==◌, ◌&&◌, Bool, List, [], ◌∷◌, length, nat_lt, nat_le, Option, Some, None, if◌then◌else◌}
use Rattle.std.specs.Char.{is_ascii_digit}
use Rattle.std.specs.List.{list_all}
use Rattle.std.specs.Str.Parse.{digits_value}

-- at most five digits, of which the last three are 001 to 366
abbrev pub is_date : ℕ → Bool
is_date number = nat_lt number 100000 && nat_le 1 (number % 1000) && nat_le (number % 1000) 366

-- the date with this number, if there is one
abbrev pub date_with : ℕ → Option ℕ
date_with number = if is_date number then Some number else None

-- the date that a text writes, if it is one: five digits of which the last three are 001 to 366
abbrev pub date_of : List ℕ → Option ℕ
date_of text = if length text == 5 && list_all is_ascii_digit text then date_with (digits_value 10 text) else None

-- a date in print: its five digits, zeros in front kept
abbrev pub date_digits : ℕ → List ℕ
date_digits date =
    (48 + date / 10000) ∷ (48 + date / 1000 % 10) ∷ (48 + date / 100 % 10) ∷ (48 + date / 10 % 10) ∷ (48 + date % 10) ∷ []
