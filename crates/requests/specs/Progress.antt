-- The search for the next request in bytes that come piece by piece.
use Rattle.std.specs.Prelude.{◌≡◌, ℕ, ◌+◌, ◌<◌, ◌≤◌, Bool, List, ◌++◌, length, take, Ok, Err}
use Rattle.requests.specs.NextRequest.{IsUnfinished}
use Rattle.requests.specs.Order.{IsDecided}
use Rattle.requests.specs.Request.{Parts}
use Rattle.requests.specs.Search.{search}
use Rattle.requests.specs.declared.head_end.Ending.TheVariants.{EmptyLines}
use Rattle.requests.specs.declared.progress.Progress.{Progress}
use Rattle.requests.specs.declared.refusal.Refusal.{Refusal}

-- No head ends in those of the bytes that were looked at. Once a head has come, the bytes hold no whole request as long as
-- they are fewer than it has.
pub record HasSeen (bytes : List ℕ) (progress : Progress) : Type 0 where
  pub within : progress.seen ≤ length bytes
  pub short : progress.seen ≤ 16384
  pub none : search EmptyLines (take progress.seen bytes) ≡ Err progress.ending
  pub fewer : 0 < progress.wanted → length bytes < progress.wanted → IsUnfinished bytes
  pub enough : 0 < progress.wanted → progress.wanted ≤ length bytes → IsUnfinished bytes → ⊥

-- It is so of these bytes, and stays so whatever comes after them.
abbrev pub Sees : List ℕ → Progress → Type 0
Sees bytes progress = (more : List ℕ) → HasSeen (bytes ++ more) progress

-- ---- private: what a head of so many bytes decides

-- the request has so many bytes
abbrev pub AsksFor : List ℕ → ℕ → ℕ → Type 0
AsksFor bytes head_len len = (parts : Parts) × (body_len : ℕ) × IsDecided (take head_len bytes) (Ok (parts, body_len)) × (len ≡ head_len + body_len)

-- it is refused
abbrev pub IsRefused : List ℕ → ℕ → Type 0
IsRefused bytes head_len = (refusal : Refusal × Bool) × IsDecided (take head_len bytes) (Err refusal)
