-- The same at a desk: the answers to a client of a new desk after the same publications and lists.
use Rattle.std.specs.Prelude.{◌≡◌, ◌+◌, ℕ, List, [], ◌∷◌, ◌++◌, Option, Some, None, length}
use Rattle.catalogue.specs.Content.{nothing}
use Rattle.bureau_store.specs.Tables.{no_change}
use Rattle.bureau_store.specs.declared.caller.Caller.{Caller}
use Rattle.bureau_store.specs.declared.caller.Caller.TheVariants.{Publisher, Client}
use Rattle.bureau.specs.Call.{Call, publish, put_patterns, put_received, put_zone}
use Rattle.bureau.specs.Outcome.{Answer}
use Rattle.bureau.specs.Own.{Asked, Opening, own_answer}
use Rattle.file_reports.specs.Inputs.{Inputs}

-- a new desk: nothing is published, and the client has nothing
abbrev pub new_desk : Opening
new_desk = record { content = nothing; publisher = no_change; own = no_change; zones = []; received = [] }

abbrev pub asked : Caller → Call → Asked
asked caller call = record { caller = caller; call = call }

-- publications that are sent one after the other, the first with this number; the last call comes first here
abbrev pub publications_sent : ℕ → List (List ℕ) → List Asked
publications_sent number [] = []
publications_sent number (body ∷ bodies) =
    publications_sent (number + 1) bodies ++ asked Publisher (publish (Some number) body) ∷ []

-- a list of the client's is sent with this number, if it is given
abbrev pub list_sent : List ℕ → ℕ → (ℕ → List ℕ → Call) → Option (List ℕ) → List Asked
list_sent client number put None = []
list_sent client number put (Some body) = asked (Client client) (put number body) ∷ []

-- the lists that a client sends after its zone: its categories and its received SYSMODs
abbrev pub lists_sent : List ℕ → List ℕ → Option (List ℕ) → Option (List ℕ) → List Asked → List Asked
lists_sent client zone categories received before =
    let patterns_sent = list_sent client 2 (λ number body. put_patterns (Some number) zone body) categories in
    list_sent client (length patterns_sent + 2) (λ number body. put_received (Some number) body) received
    ++ (patterns_sent ++ before)

-- all calls: the publications, and then the client's zone and its lists
abbrev pub all_sent : List ℕ → List ℕ → Inputs → List Asked
all_sent client zone inputs =
    lists_sent client zone inputs.categories inputs.received
    (asked (Client client) (put_zone (Some 1) zone inputs.zone) ∷ publications_sent 1 inputs.publications)

-- the answer to any client of a new desk for this call, after all of these
abbrev pub IsDesksAnswer : List ℕ → Inputs → Call → Answer → Type 0
IsDesksAnswer zone inputs call answer = (client : List ℕ) → own_answer new_desk (all_sent client zone inputs) (Client client) call ≡ answer
