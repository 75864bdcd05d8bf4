-- Comments: /* to the next */, also over lines (SMP/E Reference, "MCS coding rules").
use Rattle.std.specs.Prelude.{◌≡◌, ℕ, Bool, true, false, ◌==◌, List, [], ◌∷◌, if◌then◌else◌}
use Rattle.mcs_reader.specs.Byte.{role_of}
use Rattle.mcs_reader.specs.declared.byte.ByteRole.{ByteRole}
use Rattle.mcs_reader.specs.declared.byte.ByteRole.TheVariants.{Comment}

-- the text begins with this byte
abbrev pub next_is : ℕ → List ℕ → Bool
next_is byte [] = false
next_is byte (b ∷ text) = b == byte

-- the text begins with /*
abbrev pub begins_comment : List ℕ → Bool
begins_comment [] = false
begins_comment (b ∷ text) = if b == 47 then next_is 42 text else false

-- the text begins with */
abbrev pub ends_comment : List ℕ → Bool
ends_comment [] = false
ends_comment (b ∷ text) = if b == 42 then next_is 47 text else false

-- whether a text passes a test at some position in it
abbrev pub somewhere : (List ℕ → Bool) → List ℕ → Bool
somewhere test [] = false
somewhere test (b ∷ text) = if test (b ∷ text) then true else somewhere test text

-- what may stand between /* and */: whatever has no */ in it
abbrev pub IsCommentText : List ℕ → Type 0
IsCommentText body = somewhere ends_comment body ≡ false

-- the role of a byte before this text, which may show that a comment begins
abbrev pub role_here : ℕ → List ℕ → ByteRole
role_here b text = if begins_comment (b ∷ text) then Comment else role_of b
