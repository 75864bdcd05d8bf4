-- The verdict on an id in a zone, found by plain search: some sublist of the candidates is a plan that holds it,
-- or none is.
use Rattle.std.specs.Prelude.{ℕ, zero, suc, ◌&&◌, ◌||◌, ◌++◌, Bool, not, List, [], ◌∷◌, Option, Some, None, filter, find, is_none, length, map, if◌then◌else◌}
use Rattle.std.specs.List.{filter_map, list_all, list_any}
use Rattle.zone_lists.specs.declared.zones.ZoneRow.{ZoneRow}
use Rattle.catalogue.specs.Content.{Content, ids_of}
use Rattle.catalogue.specs.Ids.{in_order, same_id}
use Rattle.supersede.specs.Giving.{gives, is_candidate, is_there, needs_in}

-- A verdict: good, with the chosen plan, ascending; held, with the blocked need; or no candidate.
pub data Judged : Type 0 where
  good : List (List ℕ) → Judged
  held : List ℕ → Judged
  lack : Judged

-- every sublist of a list
abbrev pub sublists : {A : Type 0} → List A → List (List A)
sublists [] = [] ∷ []
sublists (x ∷ xs) = map (λ list. x ∷ list) (sublists xs) ++ sublists xs

module _ (content : Content) (rows : List ZoneRow) where
  -- the ids that may be installed in the zone
  abbrev pub candidates : List (List ℕ)
  candidates = filter (is_candidate content rows) (ids_of content)

  -- whether a need is there, or a member of a list gives it
  abbrev pub is_met : List (List ℕ) → List ℕ → Bool
  is_met members need = is_there content rows need || list_any (λ member. gives content member need) members

  -- whether candidates are a plan: each need of each of them is met
  abbrev pub is_plan : List (List ℕ) → Bool
  is_plan members = list_all (λ member. list_all (is_met members) (needs_in content rows member)) members

  -- whether some candidates are a plan that holds an id
  abbrev pub is_good : List ℕ → Bool
  is_good id = list_any (λ members. list_any (same_id id) members && is_plan members) (sublists candidates)

  -- the pick for a need: the need itself if it is good, else the least good id that gives it
  abbrev pub pick_for : List ℕ → Option (List ℕ)
  pick_for need = if is_good need then Some need else find (λ id. is_good id && gives content id need) (in_order (ids_of content))

  -- the needs of an id that aren't there
  abbrev pub open_needs : List ℕ → List (List ℕ)
  open_needs id = filter (λ need. not (is_there content rows need)) (needs_in content rows id)

  -- whether picks lead from one id to another in at most so many steps
  abbrev pub picked_within : ℕ → List ℕ → List ℕ → Bool
  picked_within zero from to = same_id from to
  picked_within (suc steps) from to =
      same_id from to || list_any (λ next. picked_within steps next to) (filter_map pick_for (open_needs from))

  -- the chosen plan of a good id: the ids to which picks lead from it, itself among them, ascending
  abbrev pub chosen_plan : List ℕ → List (List ℕ)
  chosen_plan id = filter (picked_within (length content.sysmods) id) (in_order (ids_of content))

  -- the least need of an id that isn't there and that no good id gives
  abbrev pub blocked_need : List ℕ → Option (List ℕ)
  blocked_need id = find (λ need. is_none (pick_for need)) (in_order (open_needs id))

  -- the verdict on a candidate that isn't good, by its blocked need
  abbrev pub held_for : Option (List ℕ) → Judged
  held_for None = lack
  held_for (Some need) = held need

  -- the verdict on an id
  abbrev pub verdict_of : List ℕ → Judged
  verdict_of id =
      if is_good id then good (chosen_plan id)
      else if is_candidate content rows id then held_for (blocked_need id)
      else lack
