-- The room that replies take until they went out.
use Rattle.std.specs.Prelude.{◌≡◌, ◌⊎◌, ℕ, ◌+◌, ◌<◌, ◌==◌, List, length, get_or, max, slice_set, sum, if◌then◌else◌}
use Rattle.connections.specs.declared.replies.Replies.TheInside.{Inside}

-- The bytes that a reply takes if so many of its slot were counted before: as many as it had at first, until all of it went out.
abbrev pub kept_of : ℕ → List ℕ → ℕ
kept_of before out = if length out == 0 then 0 else max before (length out)

-- The reply in a slot takes so many bytes from now on. Or that is no number of the code's, and all is as before.
abbrev pub IsCounted : ℕ → ℕ → List ℕ → List ℕ → Type 0
IsCounted slot count old new =
    (new ≡ slice_set old slot count) ⊎ ((new ≡ old) × (18446744073709551615 + get_or old slot 0 < sum old + count))

-- ---- private: how the code keeps them

-- the number of all is kept
abbrev pub AddsUp : Inside → Type 0
AddsUp replies = sum replies.kept.items ≡ replies.all
