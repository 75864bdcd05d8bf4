-- No part of what is promised: private contracts cite it. The arguments for which each line of a command has a value, and
-- the reading of matches.
use Rattle.std.specs.Prelude.{◌≡◌, ℕ, false, if◌then◌else◌, List, [], ◌∷◌, codes, Option, Some, None, Result, MatchResult}
use Rattle.std.specs.Str.{bytes_eq}
use Rattle.clap.specs.Words.{Row, Text, found_of, rows_of}
use Rattle.clap.specs.declared.parser.matches.ArgMatches.{ArgMatches}
use Rattle.faults.specs.Refusal.{IsRefusal}
use Rattle.command_line.specs.Line.{IsLineIn, Value, flag, maybe, number, one, several}
use Rattle.command_line.specs.declared.line.Line.{Line}
use Rattle.command_line.specs.declared.line.LineFault.{LineFault}
use Rattle.command_line.specs.declared.line.LineFault.TheVariants.{Memory}

-- ---- the arguments of the commands

-- a value without its content: its form, and its range
abbrev pub plain : Value → Value
plain (one text) = one []
plain (several texts) = several []
plain (number least most n) = number least most 0
plain (flag is) = flag false
plain (maybe text) = maybe None

abbrev pub outline : List (Text × Value) → List (Text × Value)
outline [] = []
outline ((name, value) ∷ more) = (name, plain value) ∷ outline more

abbrev pub report_files : List (Text × Value)
report_files =
    (codes "zone", one []) ∷ (codes "categories", maybe None) ∷ (codes "received", maybe None) ∷ (codes "name", maybe None) ∷ (codes "verbose", flag false) ∷ (codes "explain", flag false)
    ∷ (codes "files", several []) ∷ []

-- the arguments of each command, as each of its lines gives them
abbrev pub commands : List (Text × List (Text × Value))
commands =
    (codes "holds", (codes "file", one []) ∷ [])
    ∷ (codes "init", (codes "store", one []) ∷ (codes "callers", one []) ∷ (codes "sums", flag false) ∷ [])
    ∷ (
      codes "serve",
      (codes "port", number 1 65535 0)
          ∷ (codes "cache", number 1 65536 0)
          ∷ (codes "connections", number 1 1000000 0)
          ∷ (codes "open", number 1 8192 0)
          ∷ (codes "memory", number 128 65536 0)
          ∷ (codes "log", flag false)
          ∷ (codes "store", one [])
          ∷ [],
    )
    ∷ (codes "replay", (codes "cache", number 1 65536 0) ∷ (codes "callers", one []) ∷ (codes "files", several []) ∷ [])
    ∷ (codes "migrate", (codes "store", one []) ∷ [])
    ∷ (codes "errsysmods", report_files)
    ∷ (codes "missingfix", report_files)
    ∷ (codes "chain", (codes "sysmod", one []) ∷ report_files)
    ∷ (codes "callers", (codes "store", one []) ∷ (codes "callers", one []) ∷ [])
    ∷ (codes "check", (codes "store", one []) ∷ (codes "explain", flag false) ∷ [])
    ∷ []

abbrev pub of_command : List (Text × List (Text × Value)) → Text → List (Text × Value)
of_command [] name = []
of_command ((command, arguments) ∷ more) name = if bytes_eq name command then arguments else of_command more name

abbrev pub arguments_of : Text → List (Text × Value)
arguments_of = of_command commands

-- the first value of this name
abbrev pub value_among : Text → List (Text × Value) → Option Value
value_among name [] = None
value_among name ((other, value) ∷ more) = if bytes_eq other name then Some value else value_among name more

-- each line of the command has a text for the argument of this name
abbrev pub WantsText : Text → Text → Type 0
WantsText command name = value_among name (arguments_of command) ≡ Some (one [])

-- or texts
abbrev pub WantsTexts : Text → Text → Type 0
WantsTexts command name = value_among name (arguments_of command) ≡ Some (several [])

-- or a number from one to another
abbrev pub WantsNumber : Text → Text → ℕ → ℕ → Type 0
WantsNumber command name least most = value_among name (arguments_of command) ≡ Some (number least most 0)

-- ---- what is read

abbrev pub rows_in : ArgMatches → List Row
rows_in matches = rows_of (found_of matches)

-- nothing is read of a command with these matches: no line has them, or memory ran out
abbrev pub IsUnread : Text → List Row → LineFault → Type 0
IsUnread command rows = IsRefusal Memory (λ _. (line : Line) → IsLineIn (Some (command, rows)) line → ⊥)

-- the reading of the matches that name a command, or name none: the line that has them, or nothing
abbrev pub IsRead : Option (Text × List Row) → Result Line LineFault → Type 0
IsRead met result = MatchResult result (IsLineIn met) (IsRefusal Memory (λ _. (line : Line) → IsLineIn met line → ⊥))

-- the same of this command
abbrev pub IsReadAs : Text → List Row → Result Line LineFault → Type 0
IsReadAs command rows = IsRead (Some (command, rows))
