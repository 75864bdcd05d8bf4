-- How much was read for a report, as it is told.
use Rattle.std.specs.Prelude.{ℕ, ◌==◌, ◌&&◌, ◌%◌, not, if◌then◌else◌, List, [], ◌∷◌, ◌++◌, codes, decimal, length}
use Rattle.file_reports.specs.declared.texts.Counts.{Counts}

-- a comma before every third digit from the end
abbrev pub mark_before : ℕ → List ℕ
mark_before left = if not (left == 0) && (left % 3 == 0) then codes "," else []

abbrev pub grouped : List ℕ → List ℕ
grouped [] = []
grouped (digit ∷ more) = (digit ∷ mark_before (length more)) ++ grouped more

-- so many of something: 1 hold, 40,000 holds
abbrev pub counted : ℕ → List ℕ → List ℕ
counted number noun = grouped (decimal number) ++ codes " " ++ noun ++ (if number == 1 then [] else codes "s")

-- the line that tells how much was read of so many files
abbrev pub read_line : Counts → ℕ → List ℕ
read_line counts files =
    codes "read " ++ counted counts.sysmods (codes "SYSMOD") ++ codes ", " ++ counted counts.holds (codes "hold") ++ codes " from "
    ++ counted files (codes "file") ++ codes "\n"
