-- The SYSMODs that resolve a hold, as a report has them.
use Rattle.std.specs.Prelude.{◌≡◌, ℕ, Bool, true, List, [], ◌∷◌, Option, Some, None, filter, map, option_map, if◌then◌else◌}
use Rattle.std.specs.Global.{Vec}
use Rattle.std.specs.List.{AllByRecursion, list_any}
use Rattle.mcs_reader.specs.declared.id.Id.{Id}
use Rattle.zone_lists.specs.declared.zones.ZoneRow.{ZoneRow}
use Rattle.catalogue.specs.Content.{Content, ids_of}
use Rattle.catalogue.specs.Ids.{same_id}
use Rattle.supersede.specs.Giving.{gives, is_candidate, is_there}
use Rattle.supersede.specs.Reach.{has}
use Rattle.verdicts.specs.Candidates.{candidates_unless_there}
use Rattle.verdicts.specs.Judge.{status_of}
use Rattle.verdicts.specs.Verdicts.{verdict_of}
use Rattle.verdicts.specs.declared.verdict.Status.{Status}

-- the verdict on an id in a zone
abbrev pub status_in : Content → List ZoneRow → List ℕ → Status
status_in content rows id = status_of (verdict_of content rows id)

-- whether the client has received an id
abbrev pub is_received : List (List ℕ) → List ℕ → Bool
is_received received id = list_any (same_id id) received

-- the candidates that give an id, ascending
abbrev pub candidates_for : Content → List ZoneRow → List ℕ → List (List ℕ)
candidates_for content rows id =
    filter (λ giver. is_candidate content rows giver) (filter (λ giver. gives content giver id) (ids_of content))

-- the resolvers in the rows of a hold: each of them, or, in one row, none
abbrev pub each_or_none : {A : Type 0} → List A → List (Option A)
each_or_none [] = None ∷ []
each_or_none (first ∷ more) = map Some (first ∷ more)

-- the candidates that give an id, unless it is there
abbrev pub unless_there : Content → List ZoneRow → List ℕ → Option (List (List ℕ))
unless_there content rows id = if is_there content rows id then None else Some (candidates_for content rows id)

-- each of some ids is among others
abbrev pub AreAmong : List (List ℕ) → List (List ℕ) → Type 0
AreAmong ids others = (id : List ℕ) → has ids id ≡ true → has others id ≡ true

-- the answers for the ids that were asked for
abbrev pub AreAnswers : Content → List ZoneRow → List (List ℕ) → List (Option (Vec Id)) → Type 0
AreAnswers content rows asked answers = map (option_map (λ ids. ids.items)) answers ≡ map (candidates_unless_there content rows) asked

-- each row comes before those after it
abbrev pub StandInOrder : {Row : Type 0} → (Row → Row → Type 0) → List Row → Type 0
StandInOrder Before [] = Unit {0}
StandInOrder Before (row ∷ rows) = AllByRecursion (Before row) rows × StandInOrder Before rows
