-- Any number of runs of the program over the files of a store, one after the other, each of which may stop at any moment.
use Rattle.std.specs.Prelude.{◌≡◌, ◌⊎◌, ℕ, true, List, [], ◌∷◌, ◌++◌, map, Option, None, Some}
use Rattle.faults.specs.declared.any.AnyFault.{AnyFault}
use Rattle.bureau_store.specs.Caller.{publisher_name}
use Rattle.bureau_store.specs.SetCallers.{has_name, with_callers}
use Rattle.bureau_store.specs.Tables.{Tables, opened}
use Rattle.bureau_store.specs.declared.caller.Caller.TheVariants.{Publisher}
use Rattle.bureau_store.specs.declared.caller.CallerRow.{CallerRow}
use Rattle.bureau_store.specs.declared.fault.StoreFault.TheVariants.{Device}
use Rattle.bureau.specs.Course.{ActsOnceIn, Called, Callers, IsCourse, Stage, Stays, StaysStaleIn}
use Rattle.bureau.specs.Joint.{CallBy, IsRun}
use Rattle.bureau.specs.Kept.{TellNothing, tables_with}
use Rattle.bureau.specs.Outcome.{answer_of, no_room, outcome}
use Rattle.bureau.specs.View.{view_of}
use Rattle.connections.specs.Rounds.{AreCallsOf, Log}
use Rattle.bureau_sql.specs.Files.{HoldTables, HoldsStore}
use Rattle.sqlite_disk.specs.declared.Disk as disk
use Rattle.sqlite_wal.specs.Recovery.{Image}
use Rattle.store_runs.specs.Callers.{LeavesSet, MayHaveSet, TellsSet}
use Rattle.store_runs.specs.Desk.{AreRowsOf, of_store}
use Rattle.store_runs.specs.Keeping.{EndsWell, HoldCallers, Leaves}
use Rattle.bureau_program.specs.RunsAlone.{AreOwnReplies, IsAloneThroughout}
use Rattle.bureau_program.specs.Served.{HasFailed, IsServedFrom, MayFollow}
use Rattle.store_runs.specs.declared.ended.Ended.{Ended}

-- ---- runs over files

-- A run of the program, and what it left of the two files of a store. One of `serve`: the rounds before it and by its end, as far as
-- they are known, and how it ended. One of `callers`: the callers of its file, and how it ended. Or any other run, also one that ended
-- before it opened the files.
pub data FileRun : Type 0 where
  Serves : Log → Log → Option AnyFault → Image → FileRun
  Sets : List CallerRow → Option AnyFault → Image → FileRun
  Other : Image → FileRun

-- these are the callers of a callers file
abbrev pub AreOfAFile : List CallerRow → Type 0
AreOfAFile rows = (source : List ℕ) × AreRowsOf source rows

abbrev pub left_by : FileRun → Image
left_by (Serves log log_after outcome left) = left
left_by (Sets rows outcome left) = left
left_by (Other left) = left

-- The files held this as it began. A run of `serve` kept what it promises (`KeepsServed`), and so did one of `callers`
-- (`KeepsCallers`). Any other left a store with the tables that were there (`KeepsTables`).
abbrev pub IsRunOver : Image → FileRun → Type 0
IsRunOver from (Serves log log_after outcome left) =
    (before : Tables) → HoldsStore from before → IsServedFrom before log log_after outcome (λ image. image ≡ left)
IsRunOver from (Sets rows outcome left) =
    AreOfAFile rows × ((before : Tables) → HoldsStore from before → HoldTables left (LeavesSet rows outcome before))
IsRunOver from (Other left) = (before : Tables) → HoldsStore from before → HoldTables left (λ this. this ≡ before)

-- one after the other: each began over what the one before left
abbrev pub AreRunsOver : Image → List FileRun → Image → Type 0
AreRunsOver from [] last = last ≡ from
AreRunsOver from (run ∷ runs) last = IsRunOver from run × AreRunsOver (left_by run) runs last

-- ---- what was called in them

-- the tables that a run found, the calls that were made, the tables after all that was acknowledged, how it ended, and the
-- callers that it was to set, if any
pub record Run : Type 0 where
  pub before : Tables
  pub calls : List CallBy
  pub closing : Tables
  pub outcome : Option AnyFault
  pub callers : Option (List CallerRow)

-- the calls are those that the connections of `serve` made, by its log; in any other run there are none
abbrev pub AreCallsIn : FileRun → Run → Type 0
AreCallsIn (Serves log log_after outcome left) run = (run.outcome ≡ outcome) × (run.callers ≡ None)
    × AreCallsOf run.before.callers log log_after (HasFailed outcome) run.calls
AreCallsIn (Sets rows outcome left) run = (run.calls ≡ []) × (run.outcome ≡ outcome) × (run.callers ≡ Some rows) × AreOfAFile rows
AreCallsIn (Other left) run = (run.calls ≡ []) × (run.callers ≡ None)

-- it is so for each run
abbrev pub AreRunsIn : List FileRun → List Run → Type 0
AreRunsIn [] [] = Unit {0}
AreRunsIn [] (run ∷ runs) = ⊥
AreRunsIn (file ∷ files) [] = ⊥
AreRunsIn (file ∷ files) (run ∷ runs) = AreCallsIn file run × AreRunsIn files runs

-- what a stop may leave of a run that sets these callers, or none
abbrev pub StandsBy : Option (List CallerRow) → Run → Tables → Type 0
StandsBy None run this = MayFollow run.outcome run.closing run.calls this
StandsBy (Some rows) run this = LeavesSet rows run.outcome run.closing this

-- what a stop may leave of a run
abbrev pub MayStand : Run → Tables → Type 0
MayStand run this = StandsBy run.callers run this

-- Each run found such tables as a stop of the one before may have left, and its calls are a run of the bureau. These tables are
-- such in the end.
abbrev pub AreRuns : (Tables → Type 0) → List Run → Tables → Type 0
AreRuns Begins [] this = Begins this
AreRuns Begins (run ∷ runs) this =
    Begins run.before × IsRun run.before run.calls run.closing × AreRuns (MayStand run) runs this

-- ---- all stages as one course

-- the call with the answer that it would have had, had there been room
abbrev pub as_made : CallBy → Tables → CallBy
as_made call_by this = record call_by { answer = answer_of (outcome (view_of call_by.caller this) call_by.call) }

-- The change of a call that was told 503 was on its way at a stop, and was made: these are the calls with it as one that was made.
pub record HasMade (closing : Tables) (calls : List CallBy) (next : Tables) (made : List CallBy) : Type 0 where
  pub before : List CallBy
  pub call_by : CallBy
  pub after : List CallBy
  pub were : calls ≡ before ++ call_by ∷ after
  pub was_refused : call_by.answer ≡ no_room
  pub silent : TellNothing after
  pub next_is : next ≡ tables_with call_by closing
  pub are : made ≡ before ++ as_made call_by closing ∷ after

-- calls as stages of a course
abbrev pub stages_of : List CallBy → List Stage
stages_of calls = map Called calls

-- The calls of a run as they are found afterwards. If it sets no callers: as they were answered; or, if the device failed,
-- with one more that was made. If it does: with these callers after them, if it may have set them; or without, unless its
-- end tells that it has.
abbrev pub AreFoundBy : Option (List CallerRow) → Run → Tables → List Stage → Type 0
AreFoundBy None run next found = ((next ≡ run.closing) × (found ≡ stages_of run.calls))
    ⊎ ((run.outcome ≡ Some (of_store Device)) × ((made : List CallBy) × HasMade run.closing run.calls next made × (found ≡ stages_of made)))
AreFoundBy (Some rows) run next found = (MayHaveSet run.outcome × (next ≡ with_callers rows run.closing) × (found ≡ stages_of run.calls ++ Callers rows ∷ []))
    ⊎ ((TellsSet run.outcome → ⊥) × (next ≡ run.closing) × (found ≡ stages_of run.calls))

abbrev pub AreFoundAs : Run → Tables → List Stage → Type 0
AreFoundAs run next found = AreFoundBy run.callers run next found

-- the tables that the next run finds, or that are there in the end
abbrev pub found_next : List Run → Tables → Tables
found_next [] this = this
found_next (run ∷ runs) this = run.before

-- the stages of all runs, in order, as they are found
abbrev pub AreJoined : List Run → Tables → List Stage → Type 0
AreJoined [] this all = all ≡ []
AreJoined (run ∷ runs) this all =
    (found : List Stage) × (rest : List Stage) × (all ≡ found ++ rest) × AreFoundAs run (found_next runs this) found × AreJoined runs this rest

-- the publisher is one of these callers, as it is in each callers file (`has_publisher`)
abbrev pub HaveThePublisher : List CallerRow → Type 0
HaveThePublisher rows = has_name rows publisher_name ≡ true

-- The stages of all runs together are one course of the bureau, to these tables. So each reply to a caller, other than 503, is that
-- of a bureau which got only some of the calls of all runs before. These are the publisher's and that caller's own since it came,
-- without those told 503, and perhaps the one on its way at each stop. If no run sets callers, this is so for every caller.
pub record AreOneCourse (opening : Tables) (runs : List Run) (this : Tables) : Type 0 where
  pub all : List Stage
  pub joined : AreJoined runs this all
  pub course : IsCourse opening all this
  pub alone : IsAloneThroughout opening all
  pub bytes : AreOwnReplies opening all
  -- A change acts once, in whichever run it comes again, as long as its caller stays. So does one that was told 503 at a stop, and
  -- was made: it stands among the stages with the answer that it would have had.
  pub once : ActsOnceIn opening all this
  pub stale : StaysStaleIn opening all this
  -- The publisher stays, if it was there in the beginning, since each callers file has it.
  pub stays : HaveThePublisher opening.callers → Stays Publisher opening.callers all

-- the run set callers, as its end tells
abbrev pub HasSet : Run → Type 0
HasSet run = (rows : List CallerRow) × (run.callers ≡ Some rows) × TellsSet run.outcome

-- Each run and those after it are one course too, from the tables that it found. If the publisher was there in the beginning
-- (`Had`), or once a run has set callers, each later run found the publisher; and it is there in the end.
abbrev pub AreCoursesOn : Type 0 → List Run → Tables → Type 0
AreCoursesOn Had [] this = Had → HaveThePublisher this.callers
AreCoursesOn Had (run ∷ runs) this =
    (Had → HaveThePublisher run.before.callers) × AreOneCourse run.before (run ∷ runs) this × AreCoursesOn (Had ⊎ HasSet run) runs this

-- ---- from one run to the next

-- The files hold the bureau's own store, with the tables to which the calls of all these runs lead. Each run found the tables that the
-- one before left, so it knew the callers of those by their tokens, and no others.
abbrev pub HoldAfter : Tables → List FileRun → Image → Type 0
HoldAfter opening files image = HoldTables image (λ this.
    (runs : List Run) × AreRunsIn files runs × AreRuns (λ at. at ≡ opening) runs this × AreOneCourse opening runs this
    × AreCoursesOn (HaveThePublisher opening.callers) runs this)

-- The same, if `init` made the store with the callers of this file, the publisher among them, before the first of them.
abbrev pub HoldSinceInit : List ℕ → List FileRun → Image → Type 0
HoldSinceInit source files image = (rows : List CallerRow) × AreRowsOf source rows × HaveThePublisher rows × HoldAfter (opened rows) files image

module _ {D : Type 0} {g : disk.Ghosts D} where
  -- A run of `serve` goes on: there was a store, which `init` made or any other, runs came after it, and this one began over what the
  -- last of them left. Then whatever a stop leaves of the files, they hold the store, with the tables to which the calls of all runs
  -- lead, and of this one.
  abbrev pub GoesOn : Image → Log → Log → Option AnyFault → Ended D g → Type 0
  GoesOn from log log_after outcome ended = EndsWell from ended
      → (image : Image) (runs : List FileRun) → AreRunsOver image runs from → (left : Image) → Leaves from ended left
      → ((source : List ℕ) → HoldCallers source image → HoldSinceInit source (runs ++ Serves log log_after outcome left ∷ []) left)
      × ((opening : Tables) → HoldTables image (λ this. this ≡ opening) → HoldAfter opening (runs ++ Serves log log_after outcome left ∷ []) left)
