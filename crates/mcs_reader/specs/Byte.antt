-- The role of each byte in a statement (SMP/E Reference, "MCS coding rules").
use Rattle.std.specs.Prelude.{ℕ, Bool, true, false, ◌==◌, ◌||◌, ◌&&◌, nat_le, if◌then◌else◌}
use Rattle.mcs_reader.specs.declared.byte.ByteRole.{ByteRole}
use Rattle.mcs_reader.specs.declared.byte.ByteRole.TheVariants.{Gap, Comment, Name, Open, Close, Period, Other}

-- LF, which ends a line
abbrev pub line_end : ℕ
line_end = 10

-- a blank or a tab
abbrev pub is_blank : ℕ → Bool
is_blank b = b == 32 || b == 9

-- a blank, a comma or a line's end
abbrev pub is_gap : ℕ → Bool
is_gap b = is_blank b || b == 44 || b == line_end

abbrev pub is_letter : ℕ → Bool
is_letter b = (nat_le 65 b && nat_le b 90) || (nat_le 97 b && nat_le b 122)

-- a letter, a digit, @, # or $
abbrev pub is_name_byte : ℕ → Bool
is_name_byte b = is_letter b || (nat_le 48 b && nat_le b 57) || b == 64 || b == 35 || b == 36

-- by itself no byte begins a comment (see Comment)
unfoldable pub role_of : ℕ → ByteRole
role_of b =
    if is_gap b then Gap
    else if is_name_byte b then Name
    else if b == 40 then Open
    else if b == 41 then Close
    else if b == 46 then Period
    else Other

-- in a list, whatever is no gap and no parenthesis belongs to a value
abbrev pub belongs_to_value : ByteRole → Bool
belongs_to_value Gap = false
belongs_to_value Comment = false
belongs_to_value Open = false
belongs_to_value Close = false
belongs_to_value Name = true
belongs_to_value Period = true
belongs_to_value Other = true
