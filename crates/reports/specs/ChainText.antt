-- A verdict as JSON: the compact text of an object whose keys ascend.
use Rattle.std.specs.Prelude.{ℕ, ◌==◌, List, [], ◌∷◌, codes, filter, map}
use Rattle.serde_json.specs.Data.{Data, Items, Members, array, item, member, no_items, no_members, object, string}
use Rattle.serde_json.specs.Written.{compact_text}
use Rattle.mcs_reader.specs.Id.{text_of}
use Rattle.holddata.specs.HoldKey.{kind_order}
use Rattle.holddata.specs.declared.key.Kind.{Kind}
use Rattle.holddata.specs.declared.hold.Hold.{Hold}
use Rattle.holddata.specs.declared.key.Kind.TheVariants.{SystemHold, UserHold}
use Rattle.catalogue.specs.Content.{Content, holds_on}
use Rattle.verdicts.specs.Verdicts.{Judged, good, held, lack}

-- texts as an array
abbrev pub texts : List (List ℕ) → Items
texts [] = no_items
texts (id ∷ ids) = item (string (text_of id)) (texts ids)

-- the reasons of the holds of a kind, which an installer should heed; they don't bear on the verdict
abbrev pub reasons_in : Kind → List Hold → List (List ℕ)
reasons_in kind holds = map (λ hold. hold.key.reason) (filter (λ hold. kind_order hold.key.kind == kind_order kind) holds)

-- a member of a plan, with the holds on it
abbrev pub member_with : List ℕ → List Hold → Data
member_with id holds =
    object (member (codes "id") (string (text_of id))
    (member (codes "system") (array (texts (reasons_in SystemHold holds)))
    (member (codes "user") (array (texts (reasons_in UserHold holds))) no_members)))

abbrev pub plan_member : Content → List ℕ → Data
plan_member content id = member_with id (holds_on content id)

abbrev pub plan_items : Content → List (List ℕ) → Items
plan_items content [] = no_items
plan_items content (id ∷ ids) = item (plan_member content id) (plan_items content ids)

-- the members that every verdict has: the status, the SYSMOD, the zone
abbrev pub verdict_members : List ℕ → List ℕ → List ℕ → Members
verdict_members status sysmod zone =
    member (codes "status") (string status) (member (codes "sysmod") (string (text_of sysmod)) (member (codes "zone") (string (text_of zone)) no_members))

-- a verdict, with the members of its plan, with the need that blocks it, or with neither
abbrev pub good_data : List ℕ → List ℕ → Items → Data
good_data zone sysmod plan = object (member (codes "plan") (array plan) (verdict_members (codes "GOOD") sysmod zone))

abbrev pub held_data : List ℕ → List ℕ → List ℕ → Data
held_data zone sysmod need = object (member (codes "blocked") (string (text_of need)) (verdict_members (codes "HELD") sysmod zone))

abbrev pub lack_data : List ℕ → List ℕ → Data
lack_data zone sysmod = object (verdict_members (codes "LACK") sysmod zone)

abbrev pub chain_data : Content → List ℕ → List ℕ → Judged → Data
chain_data content zone sysmod (good plan) = good_data zone sysmod (plan_items content plan)
chain_data content zone sysmod (held need) = held_data zone sysmod need
chain_data content zone sysmod lack = lack_data zone sysmod

-- the text of a verdict on a SYSMOD in a zone
abbrev pub chain_text_of : Content → List ℕ → List ℕ → Judged → List ℕ
chain_text_of content zone sysmod judged = compact_text (chain_data content zone sysmod judged)
