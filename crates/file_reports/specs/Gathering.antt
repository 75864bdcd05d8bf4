-- No part of what is promised: private contracts cite it. The state while a publication is gathered.
use Rattle.std.specs.Prelude.{◌≡◌, ◌++◌, Bool, true, false, List, []}
use Rattle.catalogue.specs.Changes.{records_in}
use Rattle.catalogue.specs.Content.{Content}
use Rattle.catalogue.specs.Publication.{content_of}
use Rattle.catalogue.specs.Reading.{Begun, Part, Header, More, OnCondition, OnHold}
use Rattle.catalogue.specs.declared.change.Change.{Change}
use Rattle.file_reports.specs.declared.gathering.Reading.{Reading}

-- whatever changes left the old content, these after them leave the new one
abbrev pub IsWith : Content → List Change → Content → Type 0
IsWith old changes new = (earlier : List Change) → old ≡ content_of earlier → new ≡ content_of (earlier ++ changes)

-- Of all that was read of a publication, everything is gathered but the record of the last header, which is open.
pub record IsGathered (old : Content) (all : Begun) (now : Reading) : Type 0 where
  pub gathered : IsWith old (all.before ++ all.after) now.gathered
  pub header : now.header ≡ record { before = []; open_record = all.open_record; after = [] }
  pub holds_after : records_in all.after ≡ []

-- whether a statement says more of the header before it
abbrev pub belongs : Part → Bool
belongs (Header kind) = false
belongs More = true
belongs OnCondition = true
belongs OnHold = false

-- whether it puts or releases a hold
abbrev pub is_of_hold : Part → Bool
is_of_hold (Header kind) = false
is_of_hold More = false
is_of_hold OnCondition = false
is_of_hold OnHold = true
