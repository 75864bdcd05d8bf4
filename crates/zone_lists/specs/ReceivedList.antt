-- A list of received SYSMODs.
use Rattle.std.specs.Prelude.{◌≡◌, ℕ, List, Option, Some, None, Result, Ok, Err, codes}
use Rattle.mcs_reader.specs.Id.{id_of}
use Rattle.zone_lists.specs.Column.{IsColumnFault, column_field, column_list}
use Rattle.zone_lists.specs.Fields.{Record}
use Rattle.zone_lists.specs.Lists.{ListKind, Numbered, answer, records_of}
use Rattle.zone_lists.specs.declared.fault.ListFault.{ListFault}
use Rattle.zone_lists.specs.declared.fault.ListFault.TheVariants.{BadId}

-- the id that a text is
abbrev pub received_id : Option (List ℕ) → Result (List ℕ) Numbered
received_id None = Err BadId
received_id (Some id) = Ok id

abbrev pub received_read : List ℕ → Result (List ℕ) Numbered
received_read text = received_id (id_of text)

-- the id that the field of a record is
abbrev pub received_field : Option (List ℕ) → Result (List ℕ) Numbered
received_field field = column_field received_read field

-- a list of received SYSMODs, at most 20,000, below the header SYSMOD
abbrev pub received_list : ListKind (List ℕ)
received_list = column_list (codes "SYSMOD") 20000 received_read

-- each fault of a record of such a list by itself
abbrev pub IsReceivedFault : ℕ → Record → ListFault → Type 0
IsReceivedFault n fields fault = IsColumnFault BadId (λ text. id_of text ≡ None) n fields fault

-- the reading of a text as such a list: the ids in order, or its first fault
abbrev pub received_rows_of : List ℕ → Result (List (List ℕ)) ListFault
received_rows_of text = answer received_list (records_of text)
