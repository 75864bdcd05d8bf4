-- A file that is watched stands still once the file itself does.
use Rattle.std.proofs.Common.{Bool}
use Rattle.sqlite_disk.specs.Disk.{StaysFrozen}
use Rattle.sqlite_disk.specs.declared.Disk.{Ghosts}
use Rattle.store_runs.specs.declared.watched.Watched.{Watched}

module _ {D P : Type 0} (g : Ghosts D) where
  pub stays_frozen : {old new : D} {at now : P} {was is : Bool} → StaysFrozen g.seen g.may_leave g.is_clean g.is_frozen old new
      → StaysFrozen (λ (w : Watched D P). g.seen w.file) (λ w. g.may_leave w.file) (λ w. g.is_clean w.file) (λ w. g.is_frozen w.file)
      (record { file = old; place = at; is_lost = was }) (record { file = new; place = now; is_lost = is })
  stays_frozen it = record { frozen = it.frozen; same = it.same; clean = it.clean; no_more = it.no_more; no_fewer = it.no_fewer }
