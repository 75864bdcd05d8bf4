-- A file of a store that is watched: the file, the place where it is to stand, and whether a look missed it there.
use Rattle.std.specs.Prelude.{◌≡◌, ◌+◌, ◌∷◌, ◌&&◌, ℕ, Bool, not, if◌then◌else◌, List, Option, Some, IfSome, option_map}
use Rattle.sqlite_disk.specs.Disk.{StaysFrozen}
use Rattle.sqlite_disk.specs.declared.Disk.{Ghosts}
use Rattle.store_runs.specs.declared.watched.Watched.{Watched}

-- One more look found this. What a look found is known only if it is known of each look before.
abbrev pub SeesNext : Bool → Option (List Bool) → Option (List Bool) → Type 0
SeesNext found old new = IfSome new (λ all. option_map (λ before. found ∷ before) old ≡ Some all)

module _ {D P : Type 0} where
  -- the file itself
  abbrev pub file_of : Watched D P → D
  file_of watched = watched.file

  abbrev pub place_of : Watched D P → P
  place_of watched = watched.place

  -- a look found other files there, or none
  abbrev pub is_lost : Watched D P → Bool
  is_lost watched = watched.is_lost

  -- a file that is lost is used no more
  abbrev pub is_usable : Ghosts D → Watched D P → Bool
  is_usable g watched = g.is_usable (file_of watched) && not (is_lost watched)

  -- and counts as one more failure
  abbrev pub faults : Ghosts D → Watched D P → ℕ
  faults g watched = g.faults (file_of watched) + (if is_lost watched then 1 else 0)

  -- the machine has stopped, and nothing changes any more
  abbrev pub IsStill : Ghosts D → Watched D P → Watched D P → Type 0
  IsStill g = StaysFrozen (λ watched. g.seen (file_of watched)) (λ watched. g.may_leave (file_of watched)) (λ watched. g.is_clean (file_of watched))
      (λ watched. g.is_frozen (file_of watched))
