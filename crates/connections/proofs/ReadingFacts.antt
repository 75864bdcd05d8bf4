-- The requests that were read off a connection so far.
use Rattle.std.proofs.Common.{◌≡◌, ℕ, ◌+◌, List, [], ◌∷◌, ◌++◌, length, map, ap, arith}
use Rattle.std.proofs.lemmas.List.{length-map, map-append}
use Rattle.requests.specs.NextRequest.{IsNext, whole}
use Rattle.requests.specs.Request.{Parts}
use Rattle.bureau_store.specs.declared.caller.CallerRow.{CallerRow}
use Rattle.bureau_http.specs.Asked.{Asked}
use Rattle.bureau_http.specs.Connection.{ReadsTo}
use Rattle.bureau_http.specs.Exchange.{Exchange}

-- bytes that come later change nothing of a whole request
abbrev pub Later : Type 0
Later = (bytes more : List ℕ) (parts : Parts) (body following : List ℕ) → IsNext bytes (whole parts body following)
    → IsNext (bytes ++ more) (whole parts body (following ++ more))

abbrev pub asked_of : Exchange → Asked
asked_of exchange = exchange.asked

-- bytes came after the requests that were read
pub reads_later : Later → (rows : List CallerRow) (ordinal : ℕ) (bytes : List ℕ) (asked : List Asked) (following more : List ℕ)
    → ReadsTo rows ordinal bytes asked following → ReadsTo rows ordinal (bytes ++ more) asked (following ++ more)
reads_later later rows ordinal bytes [] following more h = ap (λ l. l ++ more) h
reads_later later rows ordinal bytes (x ∷ xs) following more h = (
  h.0 ++ more,
  record { parts = h.1.parts; body = h.1.body; next = later bytes more h.1.parts h.1.body h.0 h.1.next; is = h.1.is; stays = h.1.stays },
  reads_later later rows (ordinal + 1) h.0 xs following more h.2,
)

pub asked_more : (exchanges : List Exchange) (exchange : Exchange) → map asked_of (exchanges ++ exchange ∷ []) ≡ map asked_of exchanges ++ exchange.asked ∷ []
asked_more exchanges exchange = map-append asked_of exchanges (exchange ∷ [])

-- the ordinal of the next request
pub at_slot : (ordinal : ℕ) (exchanges : List Exchange) → ordinal ≡ 1 + length exchanges → ordinal ≡ 1 + length (map asked_of exchanges)
at_slot ordinal exchanges e = let same : length (map asked_of exchanges) ≡ length exchanges = length-map exchanges asked_of in omega arith
