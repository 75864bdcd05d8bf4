-- One SYSMOD as published, read at once.
use Rattle.std.specs.Prelude.{ℕ, List, Option}
use Rattle.holddata.specs.declared.hold.Hold.{Hold}
use Rattle.catalogue.specs.Content.{Content, holds_on, record_of}
use Rattle.catalogue.specs.declared.sysmod.Sysmod.{Sysmod}

-- its record, if it is catalogued, and the holds on it
pub record SeenLists : Type 0 where
  pub sysmod : Option Sysmod
  pub holds : List Hold

-- the record and the holds that a content has of an id
abbrev pub seen_in : Content → List ℕ → SeenLists
seen_in content id = record { sysmod = record_of content id; holds = holds_on content id }
