use Rattle.std.proofs.Common.{◌≡◌, ◌∙◌, Bool, false, rules, subst, sym}
use Rattle.bureau_store.specs.declared.fault.StoreFault.{StoreFault}
use Rattle.sqlite_disk.specs.declared.Disk.{Ghosts}
use Rattle.sqlite_wal.specs.Recovery.{Image}
use Rattle.store_runs.specs.Ended.{IsNotConnected, IsRefused}
use Rattle.store_runs.specs.Missing.{makes}
use Rattle.store_runs.specs.declared.ended.Ended.TheVariants.{Nothing}
use Rattle.program_tests.proofs.tests.surroundings.NoStoresStores.connect.Goals.{in-true-true, in-true-false, in-false-default}
use Rattle.program_tests.proofs.tests.surroundings.NoStoresStores.connect.Goals as goal

-- no files were opened
nothing_opened : {D : Type 0} {g : Ghosts D} (makes : Bool) (from : Image) (fault : StoreFault) → IsNotConnected makes fault → IsRefused {D = D} {g = g} makes from fault Nothing
nothing_opened makes from fault why = record { why = why; left = tt; cause = tt; missing = λ other. tt }

pub returns-clause-refused : goal.returns-clause-refused
returns-clause-refused g c = nothing_opened _ _ _ (elim c.if-eq.branch [
  | in-true-true w ↦ subst (IsNotConnected (makes c.args.missing)) (sym w.fault-is) tt
  | in-true-false w ↦ let none : c.makes.result ≡ false = search (rules, w.in-true-false) in subst (IsNotConnected (makes c.args.missing)) (sym w.fault-is) (sym c.makes.ensures ∙ none)
  | in-false-default w ↦ subst (IsNotConnected (makes c.args.missing)) (sym w.fault-is) tt
])
