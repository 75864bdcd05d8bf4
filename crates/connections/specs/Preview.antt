-- Bytes that lie unread at a connection: whether its next request ends in them, and whose it is.
use Rattle.std.specs.Prelude.{◌≡◌, ℕ, ◌-◌, List, [], length, nat_le, Option, Some, None, if◌then◌else◌}
use Rattle.requests.specs.NextRequest.{IsNext, IsUnfinished, Next, clean_end, end_inside, refused, whole}
use Rattle.requests.specs.Request.{Parts}
use Rattle.connections.specs.declared.preview.Preview.{Preview}
use Rattle.connections.specs.declared.preview.Preview.TheVariants.{Part, Whole}

-- The token of a caller, as far as one can have it: no byte if a request has none, or one of over 64 bytes.
abbrev pub within_limit : List ℕ → List ℕ
within_limit token = if nat_le (length token) 64 then token else []

abbrev pub caller_by : Option (List ℕ) → List ℕ
caller_by None = []
caller_by (Some token) = within_limit token

-- So many of the unread bytes end the request that comes next, or a head that is refused, and its caller is this one.
abbrev pub EndsWith : ℕ → ℕ → List ℕ → Next → Type 0
EndsWith unread count caller clean_end = ⊥
EndsWith unread count caller end_inside = ⊥
EndsWith unread count caller (refused refusal bare) = (count ≡ unread) × (caller ≡ [])
EndsWith unread count caller (whole parts body following) = (count ≡ unread - length following) × (caller ≡ caller_by parts.token)

-- These bytes came over a connection, or lie unread: so many, the last ones.
abbrev pub IsPreview : List ℕ → ℕ → Preview → Type 0
IsPreview bytes unread Part = IsUnfinished bytes
IsPreview bytes unread (Whole count caller) = (next : Next) × IsNext bytes next × EndsWith unread count caller.items next
