-- Connections side by side over a store, until its device fails.
use Rattle.std.specs.Prelude.{◌≡◌, ◌⊎◌, List, []}
use Rattle.catalogue.specs.View.{IsOpen, View}
use Rattle.bureau_store.specs.Tables.{Tables}
use Rattle.connections.specs.Items.{Event}

module _ {Desk : Type 0} (view : View Desk Tables) where
  -- after them the device has not failed; before the first nobody looks
  abbrev pub IsSound : Desk → List Event → Type 0
  IsSound desk events = (events ≡ []) ⊎ IsOpen view desk
