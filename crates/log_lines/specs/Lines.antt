-- The lines of the log: words, parted by single blanks, and a line end.
use Rattle.std.specs.Prelude.{◌≡◌, ◌≤◌, ℕ, List, [], ◌∷◌, ◌++◌, codes, decimal, Option, Some, None}
use Rattle.std.specs.List.{AllByRecursion}
use Rattle.log_lines.specs.declared.note.Note.{Note}
use Rattle.log_lines.specs.Words.{none}

-- a word and the blank after it
abbrev pub field : List ℕ → List ℕ
field word = word ++ 32 ∷ []

-- what a call lacked, behind a blank
abbrev pub lack_text : Option (List ℕ) → List ℕ
lack_text None = []
lack_text (Some word) = 32 ∷ word

-- The line of a request. It has the time at which its reply had gone out, its caller, its method and its path. Then
-- come the status, the bytes that came and went, and the milliseconds that it took; and what its call lacked.
abbrev pub request_text : List ℕ → Note → ℕ → List ℕ
request_text stamp note took = field stamp ++ field note.caller ++ field note.method ++ field note.path
    ++ field (decimal note.status) ++ field (decimal note.came) ++ field (decimal note.went) ++ decimal took ++ lack_text note.lack ++ 10 ∷ []

-- the line of a connection that failed: the time, and the number of the fault
abbrev pub fault_text : List ℕ → ℕ → List ℕ
fault_text stamp number = field stamp ++ field none ++ field (codes "FAULT") ++ decimal number ++ 10 ∷ []

-- the line that stands for lines that were left out: when, and how many
abbrev pub lost_text : List ℕ → ℕ → List ℕ
lost_text stamp count = field stamp ++ field none ++ field (codes "LOST") ++ decimal count ++ 10 ∷ []

-- printed characters of ASCII and blanks
abbrev pub ArePrinted : List ℕ → Type 0
ArePrinted text = AllByRecursion (λ b. (32 ≤ b) × (b ≤ 126)) text

-- one line: these and a line end, and no other one
abbrev pub IsOneLine : List ℕ → Type 0
IsOneLine text = (printed : List ℕ) × (text ≡ printed ++ 10 ∷ []) × ArePrinted printed
