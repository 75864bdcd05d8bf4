-- The reading of each member of a plan (IBM z/OS SMP/E Reference, `++VER`, operands FMID, PRE and REQ, `++IF`, operands FMID
-- and REQ, and `++HOLD`, operand REASON).
use Rattle.std.specs.Prelude.{◌++◌, ℕ, List, [], Option}
use Rattle.std.specs.List.{flat_map}
use Rattle.holddata.specs.declared.hold.Hold.{Hold}
use Rattle.holddata.specs.declared.key.Kind.TheVariants.{ErrorHold, SystemHold, UserHold}
use Rattle.zone_lists.specs.declared.zones.ZoneRow.{ZoneRow}
use Rattle.catalogue.specs.Content.{Content, holds_on, record_of}
use Rattle.catalogue.specs.Ids.{in_order}
use Rattle.catalogue.specs.declared.sysmod.Sysmod.{Sysmod}
use Rattle.supersede.specs.Giving.{conds_of, fmids_of, needs_where, requisites_of}
use Rattle.reports.specs.ChainText.{reasons_in}

-- The reading of a SYSMOD: its functions, its needs in the zone, and the reasons of the SYSTEM and USER holds on it.
pub record ReadingLists : Type 0 where
  pub fmids : List (List ℕ)
  pub needs : List (List ℕ)
  pub system : List (List ℕ)
  pub user : List (List ℕ)

-- by a record and the holds
abbrev pub reading_from : List ZoneRow → Option Sysmod → List Hold → ReadingLists
reading_from rows found holds = record {
  fmids = fmids_of found;
  needs = requisites_of found ++ reasons_in ErrorHold holds ++ needs_where rows (conds_of found);
  system = reasons_in SystemHold holds;
  user = reasons_in UserHold holds;
}

abbrev pub reading_of : Content → List ZoneRow → List ℕ → ReadingLists
reading_of content rows id = reading_from rows (record_of content id) (holds_on content id)

-- nothing was read
abbrev pub nothing_read : ReadingLists
nothing_read = record { fmids = []; needs = []; system = []; user = [] }

-- all needs, ascending, each once
abbrev pub all_needs : List ReadingLists → List (List ℕ)
all_needs readings = in_order (flat_map (λ reading. reading.needs) readings)
