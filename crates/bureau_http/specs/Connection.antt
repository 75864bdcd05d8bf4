-- A connection's bytes as requests and a stop (RFC 9112, section 9).
use Rattle.std.specs.Prelude.{◌≡◌, ℕ, ◌+◌, true, false, List, [], ◌∷◌, ◌++◌, length}
use Rattle.requests.specs.Request.{Parts}
use Rattle.requests.specs.NextRequest.{IsNext, Next, clean_end, end_inside, refused, whole}
use Rattle.bureau_store.specs.declared.caller.CallerRow.{CallerRow}
use Rattle.bureau_http.specs.Asked.{Asked, asked_refused, asked_whole}

-- a whole request comes next, which doesn't end the connection
pub record IsRequest (rows : List CallerRow) (ordinal : ℕ) (bytes : List ℕ) (asked : Asked) (following : List ℕ) : Type 0 where
  pub parts : Parts
  pub body : List ℕ
  pub next : IsNext bytes (whole parts body following)
  pub is : asked ≡ asked_whole rows ordinal parts body
  pub stays : asked.closes ≡ false

-- requests that don't end the connection, from an ordinal on, and the bytes after them
abbrev pub ReadsTo : List CallerRow → ℕ → List ℕ → List Asked → List ℕ → Type 0
ReadsTo rows ordinal bytes [] following = following ≡ bytes
ReadsTo rows ordinal bytes (asked ∷ more) following =
    (rest : List ℕ) × IsRequest rows ordinal bytes asked rest × ReadsTo rows (ordinal + 1) rest more following

-- a request that ends the connection: a head that is refused, or a whole request that closes
abbrev pub IsLastBy : Next → List CallerRow → ℕ → Asked → Type 0
IsLastBy clean_end rows ordinal asked = ⊥
IsLastBy end_inside rows ordinal asked = ⊥
IsLastBy (refused refusal bare) rows ordinal asked = asked ≡ asked_refused refusal bare
IsLastBy (whole parts body following) rows ordinal asked = (asked ≡ asked_whole rows ordinal parts body) × (asked.closes ≡ true)

abbrev pub IsLast : List CallerRow → ℕ → List ℕ → Asked → Type 0
IsLast rows ordinal bytes asked = (next : Next) × IsNext bytes next × IsLastBy next rows ordinal asked

-- How a connection stops: its input ends before a request has begun, or inside one; a request ends it; or it is cut off
-- before, since a read or write fails or memory runs out.
pub data Stop : Type 0 where
  clean : Stop
  inside : Stop
  closed : Stop
  cut : Stop

abbrev pub StopsAt : Stop → List CallerRow → ℕ → List ℕ → List Asked → Type 0
StopsAt clean rows ordinal bytes last = (last ≡ []) × IsNext bytes clean_end
StopsAt inside rows ordinal bytes last = (last ≡ []) × IsNext bytes end_inside
StopsAt closed rows ordinal bytes last = (asked : Asked) × (last ≡ asked ∷ []) × IsLast rows ordinal bytes asked
StopsAt cut rows ordinal bytes last = last ≡ []

-- the bytes of a connection are these requests, and it stops so
pub record IsConnection (rows : List CallerRow) (bytes : List ℕ) (asked : List Asked) (stop : Stop) : Type 0 where
  pub first : List Asked
  pub last : List Asked
  pub following : List ℕ
  pub reads : ReadsTo rows 1 bytes first following
  pub stops : StopsAt stop rows (1 + length first) following last
  pub all : asked ≡ first ++ last

-- the connection stops by itself: nothing cuts it off
abbrev pub IsOwn : Stop → Type 0
IsOwn clean = Unit {0}
IsOwn inside = Unit {0}
IsOwn closed = Unit {0}
IsOwn cut = ⊥
