-- Serving a list of connections, one after the other: one run of the bureau over all their requests.
use Rattle.std.specs.Prelude.{◌≡◌, ℕ, List, [], ◌∷◌, ◌++◌, length, map, take, drop, Result, Ok, Err}
use Rattle.std.specs.Global.{Vec}
use Rattle.std.specs.List.{AllByRecursion, flat_map}
use Rattle.bureau_store.specs.Tables.{Tables}
use Rattle.bureau_store.specs.declared.caller.CallerRow.{CallerRow}
use Rattle.bureau.specs.Joint.{CallBy}
use Rattle.bureau_http.specs.Connection.{IsConnection, IsOwn, Stop}
use Rattle.bureau_http.specs.Exchange.{Exchange, IsAnswered, calls_of, replies_text}
use Rattle.bureau_http.specs.Isolated.{AreIsolated, joined}
use Rattle.bureau_http.specs.Served.{IsOneRun}

-- a connection is these requests, up to a stop of its own; these are the answers, and the replies were written
pub record IsWhole (rows : List CallerRow) (bytes written : List ℕ) (exchanges : List Exchange) : Type 0 where
  pub stop : Stop
  pub own : IsOwn stop
  pub connection : IsConnection rows bytes (map (λ exchange. exchange.asked) exchanges) stop
  pub answered : AllByRecursion IsAnswered exchanges
  pub replies : written ≡ replies_text exchanges

-- each connection, with what was written to it
abbrev pub AreWhole : List CallerRow → List (List ℕ) → List (List ℕ) → List (List Exchange) → Type 0
AreWhole rows [] [] [] = Unit {0}
AreWhole rows [] [] (exchanges ∷ more) = ⊥
AreWhole rows [] (text ∷ written) exchanges = ⊥
AreWhole rows (bytes ∷ connections) [] exchanges = ⊥
AreWhole rows (bytes ∷ connections) (text ∷ written) [] = ⊥
AreWhole rows (bytes ∷ connections) (text ∷ written) (exchanges ∷ more) = IsWhole rows bytes text exchanges × AreWhole rows connections written more

-- the calls that the requests of all connections make, in order
abbrev pub calls_in : List (List Exchange) → List CallBy
calls_in connections = flat_map calls_of connections

-- All connections were served. Their requests are one run of the bureau, in order. In it a change acts once, over whichever
-- connections it is sent, and each caller is answered, to the byte, as if alone.
pub record AreServed (Runs : Tables → List CallBy → Tables → Type 0) (this : Tables) (connections written : List (List ℕ)) : Type 0 where
  pub exchanges : List (List Exchange)
  pub ran : IsOneRun Runs this (calls_in exchanges)
  pub whole : AreWhole this.callers connections written exchanges
  pub isolated : AreIsolated this (joined exchanges)

-- of a connection that was cut off, some first requests were answered
abbrev pub IsInHand : List CallerRow → List (List ℕ) → List Exchange → Type 0
IsInHand rows [] hand = hand ≡ []
IsInHand rows (bytes ∷ more) hand = AllByRecursion IsAnswered hand × ((stop : Stop) × IsConnection rows bytes (map (λ exchange. exchange.asked) hand) stop)

-- The first connections were served, and perhaps a part of the next one.
pub record AreServedInPart (Runs : Tables → List CallBy → Tables → Type 0) (this : Tables) (connections written : List (List ℕ)) : Type 0 where
  pub exchanges : List (List Exchange)
  pub hand : List Exchange
  pub ran : IsOneRun Runs this (calls_in exchanges ++ calls_of hand)
  pub whole : AreWhole this.callers (take (length written) connections) written exchanges
  pub in_hand : IsInHand this.callers (drop (length written) connections) hand
  pub isolated : AreIsolated this (joined exchanges ++ hand)

-- ---- private: what serving a list answers, and one connection of it

-- what was written to all connections, or if memory ran out, to the first of them
abbrev pub AreServedAs : {Fault : Type 0} → (Tables → List CallBy → Tables → Type 0) → Tables → List (List ℕ) → Result (Vec (Vec ℕ)) (Fault × Vec (Vec ℕ)) → Type 0
AreServedAs Runs this connections (Ok written) = AreServed Runs this connections (map (λ text. text.items) written.items)
AreServedAs Runs this connections (Err refused) = AreServedInPart Runs this connections (map (λ text. text.items) refused.1.items)

pub record IsOneServed (Runs : Tables → List CallBy → Tables → Type 0) (this : Tables) (bytes written : List ℕ) : Type 0 where
  pub exchanges : List Exchange
  pub closing : Tables
  pub run : Runs this (calls_of exchanges) closing
  pub callers : closing.callers ≡ this.callers
  pub whole : IsWhole this.callers bytes written exchanges

pub record IsOneCut (Runs : Tables → List CallBy → Tables → Type 0) (this : Tables) (bytes : List ℕ) : Type 0 where
  pub exchanges : List Exchange
  pub closing : Tables
  pub run : Runs this (calls_of exchanges) closing
  pub callers : closing.callers ≡ this.callers
  pub answered : AllByRecursion IsAnswered exchanges
  pub stop : Stop
  pub connection : IsConnection this.callers bytes (map (λ exchange. exchange.asked) exchanges) stop

-- the connections that were served so far
pub record AreSoFar (Runs : Tables → List CallBy → Tables → Type 0) (this : Tables) (connections written : List (List ℕ)) : Type 0 where
  pub exchanges : List (List Exchange)
  pub now : Tables
  pub run : Runs this (calls_in exchanges) now
  pub callers : now.callers ≡ this.callers
  pub whole : AreWhole this.callers connections written exchanges
