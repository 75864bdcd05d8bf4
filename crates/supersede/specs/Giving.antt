-- How SYSMODs stand for others: what gives what, what is there in a zone, what may be installed there and what it needs (IBM
-- z/OS SMP/E Reference, `++VER`, operands SUP, FMID, PRE, REQ, `++IF`, operands FMID, REQ, and `++HOLD`, operand REASON).
use Rattle.std.specs.Prelude.{ℕ, zero, suc, ◌&&◌, ◌||◌, ◌++◌, Bool, List, [], Option, Some, None, filter, is_some, length, map}
use Rattle.std.specs.List.{list_any}
use Rattle.zone_lists.specs.Installed.{is_installed, is_installed_state, is_listed}
use Rattle.zone_lists.specs.declared.zones.ZoneRow.{ZoneRow}
use Rattle.catalogue.specs.Content.{Content, error_reasons, ids_of, record_of}
use Rattle.catalogue.specs.Ids.{same_id}
use Rattle.catalogue.specs.declared.conditional.CondNeed.{CondNeed}
use Rattle.catalogue.specs.declared.sysmod.Sysmod.{Sysmod}

-- the ids that a record supersedes, needs before it and with it, the functions that it applies to, and its requisites under
-- a condition; none if there is no record
abbrev pub sup_of : Option Sysmod → List (List ℕ)
sup_of None = []
sup_of (Some sysmod) = sysmod.sup

abbrev pub requisites_of : Option Sysmod → List (List ℕ)
requisites_of None = []
requisites_of (Some sysmod) = sysmod.pre ++ sysmod.req

abbrev pub fmids_of : Option Sysmod → List (List ℕ)
fmids_of None = []
fmids_of (Some sysmod) = sysmod.fmids

abbrev pub conds_of : Option Sysmod → List CondNeed
conds_of None = []
conds_of (Some sysmod) = sysmod.conds

-- whether superseding leads from one id to another in at most so many steps, each of which a record's SUP names
abbrev pub supersedes_within : Content → ℕ → List ℕ → List ℕ → Bool
supersedes_within content zero from to = same_id from to
supersedes_within content (suc steps) from to =
    same_id from to || list_any (λ next. supersedes_within content steps next to) (sup_of (record_of content from))

-- whether one id gives another: it is catalogued, and is the other or supersedes it, itself or through others.
-- More steps than there are records lead nowhere else.
abbrev pub gives : Content → List ℕ → List ℕ → Bool
gives content giver id =
    is_some (record_of content giver) && supersedes_within content (length content.sysmods) giver id

-- the ids that give an id, ascending
abbrev pub givers_of : Content → List ℕ → List (List ℕ)
givers_of content id = filter (λ giver. gives content giver id) (ids_of content)

-- whether an id is there in a zone: it is listed, in any state, or a SYSMOD that is installed there gives it
abbrev pub is_there : Content → List ZoneRow → List ℕ → Bool
is_there content rows id =
    is_listed rows id || list_any (λ row. is_installed_state row.state && gives content row.sysmod id) rows

-- whether an id may be installed in a zone: it is catalogued, and one of its FMIDs is installed there
abbrev pub is_candidate : Content → List ZoneRow → List ℕ → Bool
is_candidate content rows id = list_any (λ fmid. is_installed rows fmid) (fmids_of (record_of content id))

-- ---- needs

-- the ids that requisites under a condition name, whatever the zone
abbrev pub each_need : List CondNeed → List (List ℕ)
each_need conds = map (λ cond. cond.need) conds

-- the needs of those whose function is installed in a zone
abbrev pub needs_where : List ZoneRow → List CondNeed → List (List ℕ)
needs_where rows conds = each_need (filter (λ cond. is_installed rows cond.fmid) conds)

-- the ids that an id needs in every zone: its PRE, its REQ, and the reasons of the ERROR holds on it
abbrev pub always_needs : Content → List ℕ → List (List ℕ)
always_needs content id = requisites_of (record_of content id) ++ error_reasons content id

-- the ids that an id may need, in whatever zone: those, and the need of each of its requisites under a condition
abbrev pub may_need : Content → List ℕ → List (List ℕ)
may_need content id = always_needs content id ++ each_need (conds_of (record_of content id))

-- the ids that an id needs in a zone: those that it always needs, and those of its requisites whose function is installed
abbrev pub needs_in : Content → List ZoneRow → List ℕ → List (List ℕ)
needs_in content rows id = always_needs content id ++ needs_where rows (conds_of (record_of content id))
