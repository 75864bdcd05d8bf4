-- No part of what is promised: private contracts cite it. The SYSMODs that supersede each SYSMOD.
use Rattle.std.specs.Prelude.{◌≡◌, ℕ, Bool, List, map, filter}
use Rattle.std.specs.List.Sorted.{IsSortedByKey}
use Rattle.catalogue.specs.declared.sysmod.Sysmod.{Sysmod}
use Rattle.catalogue.specs.Content.{ids_in, sup_names}
use Rattle.catalogue.specs.Ids.{id_cmp, same_id}
use Rattle.flat_content.specs.declared.links.Link.{Link}

-- whether a link is to an id
abbrev pub is_to : List ℕ → Link → Bool
is_to id link = same_id id link.superseded

-- the ids on the other side of the links to an id
abbrev pub linked : List ℕ → List Link → List (List ℕ)
linked id links = map (λ link. link.superseder) (filter (is_to id) links)

-- the links of one record, from each id that its SUP names
abbrev pub links_to : List (List ℕ) → List ℕ → List Link
links_to sup id = map (λ superseded. record { superseded = superseded; superseder = id }) sup

-- links in the order of the ids that are superseded
abbrev pub IsSortedList : List Link → Type 0
IsSortedList links = IsSortedByKey (λ link. link.superseded) id_cmp links

-- the links of records: to each id there are links from the records whose SUP names it, in their
-- order
abbrev pub AreOf : List Sysmod → List Link → Type 0
AreOf sysmods links = (id : List ℕ) → linked id links ≡ ids_in (filter (sup_names id) sysmods)
