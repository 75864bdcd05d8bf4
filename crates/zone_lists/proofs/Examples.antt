-- Worked examples of the definitions: what lists stand for, and their first faults.
use Rattle.std.proofs.Common.{◌≡◌, ℕ, true, false, List, [], ◌∷◌, Result, Ok, Err, codes, map, refl}
use Rattle.csv.proofs.OnLiterals.{csv_on_literals}
use Rattle.zone_lists.specs.Gathered.{row_of}
use Rattle.zone_lists.specs.PatternList.{patterns_of}
use Rattle.zone_lists.specs.ReceivedList.{received_rows_of}
use Rattle.zone_lists.specs.ZoneList.{zone_rows_of}
use Rattle.zone_lists.specs.Pattern.{does_match, is_pattern}
use Rattle.zone_lists.specs.declared.fault.ListFault.{ListFault}
use Rattle.zone_lists.specs.declared.fault.ListFault.TheVariants.{Header, BadRecord, BadId, BadState, BadPattern, Repeated}
use Rattle.zone_lists.specs.declared.zones.ZoneRow.{ZoneRow}
use Rattle.zone_lists.specs.declared.zones.ZoneState.TheVariants.{Applied, Superseded}

-- texts, each with what it stands for
abbrev Worked : Type 0 → Type 0
Worked Row = List (List ℕ × Result (List Row) ListFault)

-- each text of these stands for what is said beside it
abbrev AreRight : {Row : Type 0} → (List ℕ → Result (List Row) ListFault) → Worked Row → Type 0
AreRight read worked = map (λ example. read example.0) worked ≡ map (λ example. example.1) worked

-- ---- zones

abbrev zones_taken : Worked ZoneRow
zones_taken =
    -- a zone
    (codes "SYSMOD,STATE\nUA10001,APPLIED\nHBB7790,APPLIED\n", Ok (row_of (codes "HBB7790", Applied) ∷ row_of (codes "UA10001", Applied) ∷ []))
    -- with a byte order mark, and blanks around
    ∷ (0xEF ∷ 0xBB ∷ 0xBF ∷ codes " SYSMOD ,STATE\r\n\tUA1 , APPLIED\t\r\n", Ok (row_of (codes "UA1    ", Applied) ∷ []))
    -- quoted fields
    ∷ (codes "\"SYSMOD\",\" STATE \"\n\"UA10001\",\" SUPERSEDED\"\n", Ok (row_of (codes "UA10001", Superseded) ∷ []))
    -- no rows
    ∷ (codes "SYSMOD,STATE", Ok [])
    -- the same twice
    ∷ (codes "SYSMOD,STATE\nUA10001,APPLIED\nUA10001,APPLIED\n", Ok (row_of (codes "UA10001", Applied) ∷ []))
    ∷ []

zones : AreRight zone_rows_of zones_taken
unfolding csv_on_literals
zones = refl

abbrev zones_refused : Worked ZoneRow
zones_refused =
    -- nothing, and a header in small letters
    ([], Err Header)
    ∷ (codes "sysmod,state\n", Err Header)
    -- three fields, and a line of blanks
    ∷ (codes "SYSMOD,STATE\nUA10001,APPLIED,X\n", Err (BadRecord 1))
    ∷ (codes "SYSMOD,STATE\n  \n", Err (BadRecord 1))
    -- an empty line counts for nothing
    ∷ (codes "SYSMOD,STATE\n\nua10001,APPLIED\n", Err (BadId 1))
    -- a state in small letters, and another one than before
    ∷ (codes "SYSMOD,STATE\nUA10001,applied\n", Err (BadState 1))
    ∷ (codes "SYSMOD,STATE\nUA10001,APPLIED\nUA10001,SUPERSEDED\n", Err (Repeated 2))
    -- the first fault decides
    ∷ (codes "SYSMOD,STATE\nUA10001,APPLIED\nUA1\nua10001,X,Y\n", Err (BadRecord 2))
    ∷ []

no_zones : AreRight zone_rows_of zones_refused
unfolding csv_on_literals
no_zones = refl

-- ---- received SYSMODs and patterns

received : AreRight received_rows_of (
    (codes "SYSMOD\nUA10002\nUA10001\nUA10002\n", Ok (codes "UA10001" ∷ codes "UA10002" ∷ []))
    ∷ (codes "SYSMOD\nUA10002,APPLIED\n", Err (BadRecord 1))
    ∷ [])
unfolding csv_on_literals
received = refl

patterns : AreRight patterns_of (
    (codes "CATEGORY\n*\n", Ok (codes "*" ∷ []))
    ∷ (codes "CATEGORY\n\"A\"\"B\"\n", Ok (codes "A\"B" ∷ []))
    ∷ (codes "CATEGORY\nIBM.*.X\n", Err (BadPattern 1))
    ∷ [])
unfolding csv_on_literals
patterns = refl

-- a star stands at the end alone, and once
which_are_patterns : map is_pattern ([] ∷ codes "A*B" ∷ codes "A**" ∷ codes "IBM.*" ∷ []) ≡ false ∷ false ∷ false ∷ true ∷ []
which_are_patterns = refl

-- whatever begins so, the whole text alone, or every one; letters have no case
which_match : map (λ (pair : List ℕ × List ℕ). does_match pair.0 pair.1) (
    (codes "ibm.device.*", codes "IBM.Device.Server")
    ∷ (codes "ibm.device.*", codes "IBM.Device")
    ∷ (codes "IBM.Device", codes "ibm.device.server")
    ∷ (codes "*", codes "IBM.Device")
    ∷ []) ≡ true ∷ false ∷ false ∷ true ∷ []
which_match = refl
