-- The needs that block the SYSMODs that are HELD, and the SYSMODs that would give them (IBM z/OS SMP/E Reference, `++VER`,
-- operands FMID, PRE, REQ and SUP, and `++HOLD`, operand ERROR).
use Rattle.std.specs.Prelude.{◌≡◌, ℕ, Bool, true, false, List, [], ◌∷◌, Option, Some, None, Contains, length, zero, suc, find}
use Rattle.std.specs.List.{cons_option, filter_map, flat_map}
use Rattle.zone_lists.specs.declared.zones.ZoneRow.{ZoneRow}
use Rattle.catalogue.specs.Content.{Content}
use Rattle.catalogue.specs.Ids.{in_order}
use Rattle.supersede.specs.Giving.{givers_of, is_candidate}
use Rattle.requisites.specs.World.{IsGoodGiver}
use Rattle.verdicts.specs.Judge.{status_of}
use Rattle.verdicts.specs.Verdicts.{Judged, good, held, lack, verdict_of}
use Rattle.verdicts.specs.Worlds.{world_of}
use Rattle.verdicts.specs.declared.verdict.Status.TheVariants as status
use Rattle.blocked_needs.specs.declared.blocked.BlockedNeed.{BlockedNeed}

-- the SYSMOD that would give a need in a zone: the least of the published SYSMODs that give it and apply
abbrev pub giver_of : Content → List ZoneRow → List ℕ → Option (List ℕ)
giver_of content rows need = find (is_candidate content rows) (givers_of content need)

-- whether any published SYSMOD gives it
abbrev pub has_one : List (List ℕ) → Bool
has_one [] = false
has_one (id ∷ ids) = true

abbrev pub is_published : Content → List ℕ → Bool
is_published content need = has_one (givers_of content need)

-- what blocks a SYSMOD, by its verdict: its blocked need if it is HELD
abbrev pub blocked_by : Content → List ZoneRow → List ℕ → Judged → Option BlockedNeed
blocked_by content rows id (held need) = Some (record { sysmod = id; need = need; giver = giver_of content rows need; published = is_published content need })
blocked_by content rows id (good plan) = None
blocked_by content rows id lack = None

abbrev pub blocked_at : Content → List ZoneRow → List ℕ → Option BlockedNeed
blocked_at content rows id = blocked_by content rows id (verdict_of content rows id)

-- the SYSMOD that would give what blocks another, if one applies
abbrev pub next_by : Option BlockedNeed → Option (List ℕ)
next_by None = None
next_by (Some blocked) = blocked.giver

abbrev pub next_of : Content → List ZoneRow → List ℕ → Option (List ℕ)
next_of content rows id = next_by (blocked_at content rows id)

-- a SYSMOD, the giver of its blocked need, the giver of that one's, and so on, in at most so many steps
abbrev pub waits_within : Content → List ZoneRow → ℕ → List ℕ → List (List ℕ)
waits_within content rows zero id = id ∷ []
waits_within content rows (suc steps) id = id ∷ flat_map (waits_within content rows steps) (cons_option (next_of content rows id) [])

-- The table of blocked needs for some SYSMODs, ascending, each once: a row for each of them that is HELD, and for each giver
-- in a row that is HELD itself. More steps than there are records lead nowhere else.
abbrev pub blocked_needs_of : Content → List ZoneRow → List (List ℕ) → List BlockedNeed
blocked_needs_of content rows sysmods =
    filter_map (blocked_at content rows) (in_order (flat_map (waits_within content rows (length content.sysmods)) sysmods))

-- ---- what is so of it

-- the table has a row of a SYSMOD
pub record HasRow (found : List BlockedNeed) (id : List ℕ) : Type 0 where
  pub one : BlockedNeed
  pub listed : Contains found one
  pub is : one.sysmod ≡ id

-- the need of a row blocks its SYSMOD, and nothing that can be installed gives it
pub record IsRightRow (content : Content) (rows : List ZoneRow) (one : BlockedNeed) : Type 0 where
  pub blocks : verdict_of content rows one.sysmod ≡ held one.need
  pub giver : one.giver ≡ giver_of content rows one.need
  pub published : one.published ≡ is_published content one.need
  pub ungiven : (giver : List ℕ) → ¬ IsGoodGiver (world_of content rows) one.need giver

-- The table has a row of each of the SYSMODs that is HELD, and of each such giver in a row. So whoever follows the givers
-- comes to a need that no SYSMOD gives which applies, or back to a SYSMOD that came before.
pub record AreBlockedNeeds (content : Content) (rows : List ZoneRow) (sysmods : List (List ℕ)) (found : List BlockedNeed) : Type 0 where
  pub are : found ≡ blocked_needs_of content rows sysmods
  pub right : (one : BlockedNeed) → Contains found one → IsRightRow content rows one
  pub begun : (id : List ℕ) → Contains sysmods id → status_of (verdict_of content rows id) ≡ status.Held → HasRow found id
  pub followed : (one : BlockedNeed) (giver : List ℕ) → Contains found one → one.giver ≡ Some giver → HasRow found giver
