-- Over the bureau's own store a run of `serve` tells no other fault of a store than want of memory or of the device.
use Rattle.std.proofs.Common.{◌≡◌, ◌∙◌, ℕ, List, Option, None, Some, inl, inr, subst, sym}
use Rattle.bureau_store.specs.Store.{IsOfRead}
use Rattle.bureau_store.specs.declared.fault.StoreFault.{StoreFault}
use Rattle.bureau_store.specs.declared.fault.StoreFault.TheVariants.{Device}
use Rattle.faults.specs.declared.any.AnyFault.{AnyFault}
use Rattle.sqlite_disk.specs.declared.Disk.{Ghosts}
use Rattle.sqlite_store.specs.declared.store.FileStore.{FileStore}
use Rattle.sqlite_wal.specs.Recovery.{Image}
use Rattle.sqlite.specs.declared.file.Leftover.{Leftover}
use Rattle.store_runs.specs.Desk.{of_store}
use Rattle.store_runs.specs.Keeping.{TellsOnly}
use Rattle.store_runs.specs.declared.ended.Ended.{Ended}
use Rattle.store_runs.specs.declared.ended.Ended.TheVariants.{Nothing, Left, Closed}
use Rattle.store_runs.proofs.DoneFacts.{never_short, never_unheard, no_store_fault, some_same, told_once}
use Rattle.store_runs.proofs.OpensFacts.{known_of_found, known_of_left}
use Rattle.bureau_program.specs.Serving.{IsServeOutput, IsUnheard, Session, fault_of_round, file_ends}
use Rattle.connections.specs.declared.rounds.RoundFault.{RoundFault}
use Rattle.connections.specs.declared.rounds.RoundFault.TheVariants as round

-- where no desk is heard, no fault of the store is told
unheard_not : (fault : AnyFault) (port : ℕ) (old new : Option (List ℕ)) → IsUnheard fault port old new → (told : StoreFault) → fault ≡ of_store told → ⊥
unheard_not fault port old new (inl cut) told is = no_store_fault told (sym cut.0 ∙ is)
unheard_not fault port old new (inr (inl port_taken, keeps)) told is = never_unheard told (sym port_taken ∙ is)
unheard_not fault port old new (inr (inr short, keeps)) told is = never_short told (sym short ∙ is)

-- nor where there were no more rounds
halted_not : (fault : AnyFault) (why : RoundFault) → fault ≡ fault_of_round why → (told : StoreFault) → fault ≡ of_store told → ⊥
halted_not fault round.System at told is = never_unheard told (sym at ∙ is)
halted_not fault round.Memory at told is = never_short told (sym at ∙ is)

-- the fault that is told is this one
known_as : (fault : AnyFault) (one told : StoreFault) → fault ≡ of_store one → Some fault ≡ Some (of_store told) → IsOfRead one → IsOfRead told
known_as fault one told at is known = subst IsOfRead (told_once one told (sym at ∙ some_same _ _ is)) known

abbrev Tells : Option AnyFault → StoreFault → Type 0
Tells outcome told = outcome ≡ Some (of_store told)

module _ {D : Type 0} {g : Ghosts D} (session : Session) (from : Image) where
  closed : (last : FileStore D g) (outcome : Option AnyFault) (port : ℕ) (old new : Option (List ℕ)) → IsServeOutput (file_ends session from (Closed last)) outcome port old new
      → TellsOnly IsOfRead (Tells outcome) from (Closed last)
  closed last None port old new output still _ before holds told is = absurd cc
  closed last (Some fault) port old new (inl device) still _ before holds told is = known_as fault Device told device.0 is tt
  closed last (Some fault) port old new (inr (inl halted)) still _ before holds told is =
      absurd (halted_not fault halted.0.0 halted.0.1 told (some_same _ _ is))
  closed last (Some fault) port old new (inr (inr (inl unheard))) still _ before holds told is =
      absurd (unheard_not fault port old new unheard.1 told (some_same _ _ is))
  closed last (Some fault) port old new (inr (inr (inr ((refused, at, inl not), keeps)))) still _ before holds told is = absurd not.0.left
  closed last (Some fault) port old new (inr (inr (inr ((refused, at, inr used), keeps)))) still _ before holds told is =
      known_as fault refused told at is
      (known_of_found from used.found used.left used.finds used.used.1 last used.ends still before holds refused used.used.2)

  left : (it : Leftover D g) (outcome : Option AnyFault) (port : ℕ) (old new : Option (List ℕ)) → IsServeOutput (file_ends session from (Left it)) outcome port old new
      → TellsOnly IsOfRead (Tells outcome) from (Left it)
  left it None port old new output = absurd output.0.ends
  left it (Some fault) port old new (inl device) = absurd device.1.ends
  left it (Some fault) port old new (inr (inl halted)) = absurd halted.0.2.ends
  left it (Some fault) port old new (inr (inr (inl unheard))) = absurd unheard.0.ends
  left it (Some fault) port old new (inr (inr (inr ((refused, at, inl not), keeps)))) =
      λ clean opened before holds told is. known_as fault refused told at is (known_of_left from it refused not.0 clean)
  left it (Some fault) port old new (inr (inr (inr ((refused, at, inr used), keeps)))) = absurd used.ends

  pub serve_faults : (ended : Ended D g) (outcome : Option AnyFault) (port : ℕ) (old new : Option (List ℕ)) → IsServeOutput (file_ends session from ended) outcome port old new
      → TellsOnly IsOfRead (Tells outcome) from ended
  serve_faults Nothing outcome port old new output = λ clean some before holds told is. absurd (some tt)
  serve_faults (Left it) outcome port old new output = left it outcome port old new output
  serve_faults (Closed last) outcome port old new output = closed last outcome port old new output
