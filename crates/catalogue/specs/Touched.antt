-- The ids that a publication touches: those whose record, direct superseders or ERROR holds may differ after it.
use Rattle.std.specs.Prelude.{◌≡◌, ℕ, List, [], ◌∷◌, ◌++◌, Option, Some, None, Contains}
use Rattle.std.specs.List.{flat_map}
use Rattle.holddata.specs.declared.key.Kind.{Kind}
use Rattle.holddata.specs.declared.key.Kind.TheVariants.{ErrorHold, SystemHold, UserHold, FixcatHold}
use Rattle.holddata.specs.declared.key.HoldKey.{HoldKey}
use Rattle.holddata.specs.HoldChange.{key_of}
use Rattle.catalogue.specs.declared.sysmod.Sysmod.{Sysmod}
use Rattle.catalogue.specs.declared.change.Change.{Change}
use Rattle.catalogue.specs.declared.change.Change.TheVariants.{Whole, OfHold}
use Rattle.catalogue.specs.Content.{Content, IsInOrder, error_reasons, record_of, superseders}
use Rattle.catalogue.specs.Ids.{in_order}
use Rattle.catalogue.specs.Publication.{after}

-- the ids that SUP of a record names
abbrev pub sup_of : Option Sysmod → List (List ℕ)
sup_of None = []
sup_of (Some sysmod) = sysmod.sup

-- a change of an ERROR hold touches its SYSMOD, whether it puts or releases the hold; a change of another kind touches none
abbrev pub touched_by_key : Kind → HoldKey → List (List ℕ)
touched_by_key ErrorHold key = key.sysmod ∷ []
touched_by_key SystemHold key = []
touched_by_key UserHold key = []
touched_by_key FixcatHold key = []

-- the ids that one change touches: a SYSMOD itself, the ids that its SUP named before the publication, and those that it
-- names now
abbrev pub touched_by : Content → Change → List (List ℕ)
touched_by content (Whole sysmod) = sysmod.id ∷ (sup_of (record_of content sysmod.id) ++ sysmod.sup)
touched_by content (OfHold change) = touched_by_key (key_of change).kind (key_of change)

-- a publication over a content touches the ids that one of its changes touches
abbrev pub IsTouched : Content → List Change → List ℕ → Type 0
IsTouched content changes id = Contains (flat_map (touched_by content) changes) id

-- the touched ids, in ascending order, each once
abbrev pub touched_ids : Content → List Change → List (List ℕ)
touched_ids content changes = in_order (flat_map (touched_by content) changes)

-- two contents say the same of each id outside a list: its record, its direct superseders, and the reasons of its ERROR
-- holds
pub record AgreeOutside (ids : List (List ℕ)) (old new : Content) : Type 0 where
  pub records : (id : List ℕ) → (Contains ids id → ⊥) → record_of new id ≡ record_of old id
  pub above : (id : List ℕ) → (Contains ids id → ⊥) → superseders new id ≡ superseders old id
  pub reasons : (id : List ℕ) → (Contains ids id → ⊥) → error_reasons new id ≡ error_reasons old id

-- a publication leaves all as it was outside the ids that it touches
abbrev pub TouchesAll : Type 0
TouchesAll = (content : Content) (changes : List Change) → IsInOrder content → AgreeOutside (touched_ids content changes) content (after content changes)
