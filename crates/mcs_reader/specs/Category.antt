-- Fix categories (IBM z/OS SMP/E Reference, `++HOLD`, operand CATEGORY).
use Rattle.std.specs.Prelude.{ℕ, ◌==◌, ◌&&◌, ◌||◌, not, Bool, List, length, nat_le}
use Rattle.std.specs.List.{list_all}

-- a printable ASCII character but the blank, the apostrophe, the parentheses and the comma
abbrev pub is_category_byte : ℕ → Bool
is_category_byte b = nat_le 33 b && nat_le b 126 && not (b == 39 || b == 40 || b == 41 || b == 44)

-- 1 to 64 such bytes
abbrev pub is_category : List ℕ → Bool
is_category text = nat_le 1 (length text) && nat_le (length text) 64 && list_all is_category_byte text
