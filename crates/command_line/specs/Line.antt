-- The meaning of a command line's words, as clap defines the matches of a command.
use Rattle.std.specs.Prelude.{◌≡◌, ◌≤◌, ⊤, ℕ, pos, Bool, true, false, List, [], ◌∷◌, codes, map, Option, Some, None, Ok, option_map, string_bytes}
use Rattle.std.specs.Str.{bytes_eq}
use Rattle.std.specs.Str.Parse.{ParsesUnsigned}
use Rattle.clap.specs.Words.{App, Row, Rule, Text, all_of, first_of, new_app, new_rule, one_of, subcommand_of, with_rule, with_subcommand}
use Rattle.clap.specs.declared.builder.ArgAction.TheVariants.{Append, Set, SetTrue}
use Rattle.clap.specs.declared.builder.value_parser.ValueParser.TheVariants.{Signed}
use Rattle.command_line.specs.declared.line.Line.{Line}
use Rattle.run_parts.specs.declared.report_files.ReportFiles.{ReportFiles}
use Rattle.command_line.specs.declared.line.Line.TheVariants.{Callers, Chain, Check, ErrSysmods, Holds, Init, Migrate, MissingFix, Replay, Serve}

-- `--NAME`: a flag
abbrev pub flag_rule : Text → Rule
flag_rule name = record (new_rule name) { long = Some name; action = Some SetTrue }

-- an argument that has to be given, with one value
abbrev pub required_rule : Text → Rule
required_rule id = record (new_rule id) { action = Some Set; required = true; value_names = 1 }

-- `holds FILE`
abbrev pub holds_app : App
holds_app = with_rule (new_app (codes "holds")) (required_rule (codes "file"))

-- an argument that has to be given, with one value or more
abbrev pub several_rule : Text → Rule
several_rule id = record (new_rule id) {
  action = Some Append;
  range = Some (record { start_inclusive = 1; end_inclusive = 18446744073709551615 });
  required = true;
  value_names = 1;
}

-- `--NAME N`, a number from one to another, and this text if it isn't given
abbrev pub number_rule : Text → ℕ → ℕ → Text → Rule
number_rule name least most default = record (new_rule name) {
  long = Some name;
  action = Some Set;
  parser = Some (Signed (pos least) (pos most));
  value_names = 1;
  defaults = default ∷ [];
}

-- `--cache N`: the most frames that are kept
abbrev pub cache_rule : Rule
cache_rule = number_rule (codes "cache") 1 65536 (codes "1024")

-- `--port P`: the port of 127.0.0.1 that is listened on
abbrev pub port_rule : Rule
port_rule = number_rule (codes "port") 1 65535 (codes "8080")

-- `--connections K`: the number of connections that are served
abbrev pub connections_rule : Rule
connections_rule = number_rule (codes "connections") 1 1000000 (codes "1000000")

-- `--open M`: the most connections that are open at once
abbrev pub open_rule : Rule
open_rule = number_rule (codes "open") 1 8192 (codes "1024")

-- `--memory MIB`: the most MiB that bodies and replies take together
abbrev pub memory_rule : Rule
memory_rule = number_rule (codes "memory") 128 65536 (codes "512")

-- `--sums`: whether the pages of a new file end in sums
abbrev pub sums_rule : Rule
sums_rule = flag_rule (codes "sums")

-- `init [--sums] STORE CALLERS`
abbrev pub init_app : App
init_app = with_rule (with_rule (with_rule (new_app (codes "init")) sums_rule) (required_rule (codes "store"))) (required_rule (codes "callers"))

-- `--log`: whether a log is kept
abbrev pub log_rule : Rule
log_rule = flag_rule (codes "log")

-- `serve --port P --cache N --connections K --open M --memory MIB --log STORE`
abbrev pub serve_app : App
serve_app =
    with_rule (with_rule (with_rule (with_rule (with_rule (with_rule (with_rule (new_app (codes "serve")) port_rule) cache_rule) connections_rule) open_rule)
    memory_rule) log_rule) (required_rule (codes "store"))

-- `replay --cache N CALLERS FILE..`
abbrev pub replay_app : App
replay_app =
    with_rule (with_rule (with_rule (new_app (codes "replay")) cache_rule) (required_rule (codes "callers"))) (several_rule (codes "files"))

-- `migrate STORE`
abbrev pub migrate_app : App
migrate_app = with_rule (new_app (codes "migrate")) (required_rule (codes "store"))

-- `--NAME TEXT`: an option, which has to be given or may be left out
abbrev pub text_rule : Text → Rule
text_rule name = record (new_rule name) { long = Some name; action = Some Set; value_names = 1 }

abbrev pub zone_rule : Rule
zone_rule = record (text_rule (codes "zone")) { required = true }

abbrev pub categories_rule : Rule
categories_rule = record (text_rule (codes "categories")) { required = true }

abbrev pub received_rule : Rule
received_rule = text_rule (codes "received")

abbrev pub name_rule : Rule
name_rule = text_rule (codes "name")

-- `--verbose`: whether standard error is told how much was read
abbrev pub verbose_rule : Rule
verbose_rule = flag_rule (codes "verbose")

-- `--explain`: whether standard error is told what a fault means
abbrev pub explain_rule : Rule
explain_rule = flag_rule (codes "explain")

-- `errsysmods --zone ZONE [--received R] [--name NAME] [--verbose] [--explain] FILE..`
abbrev pub err_sysmods_app : App
err_sysmods_app =
    with_rule (with_rule (with_rule (with_rule (with_rule (with_rule (new_app (codes "errsysmods")) zone_rule) received_rule) name_rule) verbose_rule) explain_rule)
    (several_rule (codes "files"))

-- `missingfix --zone ZONE --categories C [--received R] [--name NAME] [--verbose] [--explain] FILE..`
abbrev pub missing_fix_app : App
missing_fix_app =
    with_rule (with_rule (with_rule (with_rule (with_rule (with_rule (with_rule (new_app (codes "missingfix")) zone_rule) categories_rule) received_rule) name_rule)
    verbose_rule) explain_rule) (several_rule (codes "files"))

-- `chain --zone ZONE [--name NAME] [--verbose] [--explain] SYSMOD FILE..`
abbrev pub chain_app : App
chain_app =
    with_rule (with_rule (with_rule (with_rule (with_rule (with_rule (new_app (codes "chain")) zone_rule) name_rule) verbose_rule) explain_rule)
    (required_rule (codes "sysmod"))) (several_rule (codes "files"))

-- `callers STORE CALLERS`
abbrev pub callers_app : App
callers_app = with_rule (with_rule (new_app (codes "callers")) (required_rule (codes "store"))) (required_rule (codes "callers"))

-- `check [--explain] STORE`
abbrev pub check_app : App
check_app = with_rule (with_rule (new_app (codes "check")) explain_rule) (required_rule (codes "store"))

-- a command that takes the words after its own name, has a version, and wants the name of one below it
abbrev pub commands_named : Text → App
commands_named name =
    let above = new_app name in
    record above { top = record above.top { has_version = true; no_binary_name = true; subcommand_required = true } }

-- the commands that there are
abbrev pub bureau_app : App
bureau_app =
    let holds = with_subcommand (commands_named (codes "bureau")) holds_app.top in
    let init = with_subcommand holds init_app.top in
    let serve = with_subcommand init serve_app.top in
    let replay = with_subcommand serve replay_app.top in
    let migrate = with_subcommand replay migrate_app.top in
    let errsysmods = with_subcommand migrate err_sysmods_app.top in
    let missingfix = with_subcommand errsysmods missing_fix_app.top in
    let chain = with_subcommand missingfix chain_app.top in
    let callers = with_subcommand chain callers_app.top in
    with_subcommand callers check_app.top

-- the text is a number in decimal digits, this one, and it is in the range
abbrev pub IsNumberIn : ℕ → ℕ → Option Text → ℕ → Type 0
IsNumberIn least most None number = ⊥
IsNumberIn least most (Some text) number = ParsesUnsigned {E = ⊥} 32 10 text (Ok number) × (least ≤ number) × (number ≤ most)

-- the port may have this number
abbrev pub IsPort : Option Text → ℕ → Type 0
IsPort = IsNumberIn 1 65535

-- a flag is set
abbrev pub is_set : Option Text → Bool
is_set None = false
is_set (Some text) = bytes_eq text (codes "true")

-- the command that a line has
abbrev pub command_of : Line → Text
command_of (Holds file) = codes "holds"
command_of (Init store callers sums) = codes "init"
command_of (Serve port cache connections most_open memory log store) = codes "serve"
command_of (Replay cache callers files) = codes "replay"
command_of (Migrate store) = codes "migrate"
command_of (ErrSysmods files) = codes "errsysmods"
command_of (MissingFix files) = codes "missingfix"
command_of (Chain sysmod files) = codes "chain"
command_of (Callers store callers) = codes "callers"
command_of (Check store explain) = codes "check"

-- the value of an argument in a line: a text, texts, a number in a range, a flag, or a text that may be left out
pub data Value : Type 0 where
  one : Text → Value
  several : List Text → Value
  number : ℕ → ℕ → ℕ → Value
  flag : Bool → Value
  maybe : Option Text → Value

-- the values of a line for the names of a report's files
abbrev pub files_given : ReportFiles → List (Text × Value)
files_given files =
    (codes "zone", one (string_bytes files.zone))
    ∷ (codes "categories", maybe (option_map string_bytes files.categories))
    ∷ (codes "received", maybe (option_map string_bytes files.received))
    ∷ (codes "name", maybe (option_map string_bytes files.name))
    ∷ (codes "verbose", flag files.verbose)
    ∷ (codes "explain", flag files.explain)
    ∷ (codes "files", several (map string_bytes files.publications.items))
    ∷ []

-- the values of a line for each argument of its command
abbrev pub given : Line → List (Text × Value)
given (Holds file) = (codes "file", one (string_bytes file)) ∷ []
given (Init store callers sums) =
    (codes "store", one (string_bytes store)) ∷ (codes "callers", one (string_bytes callers)) ∷ (codes "sums", flag sums) ∷ []
given (Serve port cache connections most_open memory log store) =
    (codes "port", number 1 65535 port)
    ∷ (codes "cache", number 1 65536 cache)
    ∷ (codes "connections", number 1 1000000 connections)
    ∷ (codes "open", number 1 8192 most_open)
    ∷ (codes "memory", number 128 65536 memory)
    ∷ (codes "log", flag log)
    ∷ (codes "store", one (string_bytes store))
    ∷ []
given (Replay cache callers files) =
    (codes "cache", number 1 65536 cache)
    ∷ (codes "callers", one (string_bytes callers))
    ∷ (codes "files", several (map string_bytes files.items))
    ∷ []
given (Migrate store) = (codes "store", one (string_bytes store)) ∷ []
given (ErrSysmods files) = files_given files
given (MissingFix files) = files_given files
given (Chain sysmod files) = (codes "sysmod", one (string_bytes sysmod)) ∷ files_given files
given (Callers store callers) = (codes "store", one (string_bytes store)) ∷ (codes "callers", one (string_bytes callers)) ∷ []
given (Check store explain) = (codes "store", one (string_bytes store)) ∷ (codes "explain", flag explain) ∷ []

-- an argument has this value among the matches
abbrev pub HasValue : List Row → Text → Value → Type 0
HasValue rows name (one text) = first_of name rows ≡ Some text
HasValue rows name (several texts) = all_of name rows ≡ Some texts
HasValue rows name (number least most n) = IsNumberIn least most (one_of name rows) n
HasValue rows name (flag is) = is ≡ is_set (first_of name rows)
HasValue rows name (maybe text) = first_of name rows ≡ text

-- each of these arguments has its value among the matches
abbrev pub HasValues : List Row → List (Text × Value) → Type 0
HasValues rows [] = ⊤
HasValues rows ((name, value) ∷ more) = HasValue rows name value × HasValues rows more

-- the command of this name, with these matches, has the line: each argument's value is that of the line
abbrev pub IsLineWith : Text → List Row → Line → Type 0
IsLineWith name rows line = (name ≡ command_of line) × HasValues rows (given line)

-- the matches name a command, which has the line
abbrev pub IsLineIn : Option (Text × List Row) → Line → Type 0
IsLineIn None line = ⊥
IsLineIn (Some (name, rows)) line = IsLineWith name rows line

-- the line has what clap defines as the matches of the words
abbrev pub IsLineOf : List Text → Line → Type 0
IsLineOf words line = IsLineIn (subcommand_of bureau_app words) line

-- the parts of a line: its command, and the value of each argument
abbrev pub said : Line → Text × List (Text × Value)
said line = (command_of line, given line)

-- words have at most one line
abbrev pub HasOneLine : List Text → Type 0
HasOneLine words = (line other : Line) → IsLineOf words line → IsLineOf words other → said line ≡ said other

-- ---- where someone looks on

abbrev pub telling_all : ReportFiles → ReportFiles
telling_all files = record files { verbose = true; explain = true }

-- The line as it is done where standard error is a terminal, as if it had the options that tell more: a report tells how much it
-- read, and it and `check` tell what a fault means.
abbrev pub seen : Line → Line
seen (ErrSysmods files) = ErrSysmods (telling_all files)
seen (MissingFix files) = MissingFix (telling_all files)
seen (Chain sysmod files) = Chain sysmod (telling_all files)
seen (Check store explain) = Check store true
seen (Holds file) = Holds file
seen (Init store callers sums) = Init store callers sums
seen (Serve port cache connections most_open memory log store) = Serve port cache connections most_open memory log store
seen (Replay cache callers files) = Replay cache callers files
seen (Migrate store) = Migrate store
seen (Callers store callers) = Callers store callers
