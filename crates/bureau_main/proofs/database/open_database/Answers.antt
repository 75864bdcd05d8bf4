use Rattle.std.proofs.Common.{◌≡◌, Bool, List, ℕ, ap₂, cond, subst, sym}
use Rattle.sqlite.specs.Files.{FailsToOpenFiles, IsBlankAs, file_state}
use Rattle.sqlite.specs.Start.{FindsIn}
use Rattle.sqlite_disk.specs.Events.{Event, replay}
use Rattle.sqlite_wal.specs.Files.{image_at}
use Rattle.sqlite_wal.specs.Recovery.{Image}
use Rattle.store_runs.specs.Missing.{sums}
use Rattle.bureau_main.proofs.database.open_database.Goals as goal

abbrev image : List ℕ → List ℕ → Image
image log db = record { log = log; db = db }

abbrev seen : List ℕ → List ℕ → Bool → List Event → List ℕ
seen log db is_log history = (replay (cond is_log log db) history).seen

-- the files that were opened show what was said to stand in them
pub returns-in-Ok-open_files_with-clause-found : goal.returns-in-Ok-open_files_with-clause-found
returns-in-Ok-open_files_with-clause-found g c = λ clean.
    let from = g.S.Start in
    let fresh = c.in-Ok-open_in_place.ensures.fresh in
    let found = c.in-Ok-open_files_with.ensures.found clean in
    let P : Image → Type 0 = λ held. FindsIn held (file_state c.in-Ok-open_files_with.conn) in
    subst P (ap₂ image (ap₂ (seen from.log from.db) fresh.0.0 fresh.0.1) (ap₂ (seen from.log from.db) fresh.1.0 fresh.1.1)) (record { holds = found.holds; reads = found.reads })

-- a new database has sums as was asked for, of what was said to stand in the files
as_asked : (shown from : Image) (given asked has : Bool) → given ≡ asked → shown ≡ from → (IsBlankAs given shown → has ≡ given) → IsBlankAs asked from → has ≡ asked
as_asked shown from given asked has is same made =
    subst (λ (held : Image). IsBlankAs asked held → has ≡ asked) same (subst (λ (it : Bool). IsBlankAs it shown → has ≡ it) is made)

pub returns-in-Ok-open_files_with-clause-sums : goal.returns-in-Ok-open_files_with-clause-sums
returns-in-Ok-open_files_with-clause-sums g c = λ clean.
    let from = g.S.Start in
    let fresh = c.in-Ok-open_in_place.ensures.fresh in
    as_asked _ (image_at from) c.sums.result (sums c.args.missing) _ c.sums.ensures
    (ap₂ image (ap₂ (seen from.log from.db) fresh.0.0 fresh.0.1) (ap₂ (seen from.log from.db) fresh.1.0 fresh.1.1))
    (c.in-Ok-open_files_with.ensures.sums clean)

pub returns-in-Err-open_files_with-clause-cause : goal.returns-in-Err-open_files_with-clause-cause
returns-in-Err-open_files_with-clause-cause g c =
    let fresh = c.in-Ok-open_in_place.ensures.fresh in
    let refused = c.in-Err-open_files_with.ensures in
    let fails = FailsToOpenFiles c.in-Ok-open_in_place.files c.in-Err-open_files_with.left in
    (c.in-Ok-open_in_place.files, fresh.0, fresh.1, λ clean. (subst fails (sym c.unusable.ensures) (refused.cause clean), refused.unharmed clean))
