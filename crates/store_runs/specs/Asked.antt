-- The stores that a run asks for, and the answers.
use Rattle.std.specs.Prelude.{◌≡◌, ℕ, List, [], ◌∷◌, ◌++◌, option_map, Option, Some, IfSome, Result, Ok, Err}
use Rattle.bureau_store.specs.declared.fault.StoreFault.{StoreFault}
use Rattle.sqlite_disk.specs.declared.Disk.{Ghosts}
use Rattle.sqlite_wal.specs.Recovery.{Image}
use Rattle.store_runs.specs.Ended.{IsClosed, IsLeft, IsNothing}
use Rattle.store_runs.specs.declared.ended.Ended.{Ended}
use Rattle.store_runs.specs.declared.ended.Ended.TheVariants.{Nothing, Left, Closed}
use Rattle.store_runs.specs.declared.missing.IfMissing.{IfMissing}

-- A connection was made. Or none could be, for this fault: no files were opened, or an open failed and something is left of them.
pub data Answer : Type 0 where
  Connected : Answer
  Unopened : StoreFault → Answer
  Failed : StoreFault → Answer

-- A store that was asked for: the name of its file, what was to become of one that isn't there, what stands for what the files
-- held, and the answer.
pub record Asking : Type 0 where
  pub name : List ℕ
  pub missing : IfMissing
  pub from : Image
  pub answer : Answer

-- all stores that were asked for, the oldest first, as far as they are known
abbrev pub Asked : Type 0
Asked = Option (List Asking)

-- By then these were asked for too, and no others. A list that is known was known before.
abbrev pub Asks : Asked → Asked → List Asking → Type 0
Asks old new more = IfSome new (λ all. option_map (λ before. before ++ more) old ≡ Some all)

-- one store was
abbrev pub AsksFor : Asked → Asked → List ℕ → IfMissing → Image → Answer → Type 0
AsksFor old new name missing from answer = Asks old new (record { name = name; missing = missing; from = from; answer = answer } ∷ [])

module _ {D : Type 0} {g : Ghosts D} where
  -- the answer if no connection could be made
  abbrev pub refused_with : StoreFault → Ended D g → Answer
  refused_with fault Nothing = Unopened fault
  refused_with fault (Left it) = Failed fault
  refused_with fault (Closed last) = Failed fault

  abbrev pub answer_in : {Connection : Type 0} → Result Connection (StoreFault × Ended D g) → Answer
  answer_in (Ok conn) = Connected
  answer_in (Err refused) = refused_with refused.0 refused.1

  -- A run whose store was asked for with this answer told it (`Told`), and left those files.
  abbrev pub Agrees : (Told : StoreFault → Type 0) → Answer → Ended D g → Type 0
  Agrees Told Connected ended = IsClosed ended
  Agrees Told (Unopened fault) ended = IsNothing ended × Told fault
  Agrees Told (Failed fault) ended = IsLeft ended × Told fault

  -- A run asked for the store of this name, once, and for no other. It left the files of the answer, and told the fault, if
  -- there was one.
  pub record AsksOnce (old new : Asked) (name : List ℕ) (missing : IfMissing) (from : Image) (Told : StoreFault → Type 0) (ended : Ended D g) : Type 0 where
    pub answer : Answer
    pub once : AsksFor old new name missing from answer
    pub agrees : Agrees Told answer ended
