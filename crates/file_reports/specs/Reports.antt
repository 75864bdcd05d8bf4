-- The reports of inputs: the answers of a desk on the content that all publications leave, in the zone.
use Rattle.std.specs.Prelude.{ℕ, List, Result, Ok, length}
use Rattle.bureau_store.specs.Tables.{ZoneTable}
use Rattle.questions.specs.declared.report.Report.TheVariants.{ErrSysmods, MissingFix}
use Rattle.questions.specs.declared.wanted.Form.TheVariants.{Text}
use Rattle.questions.specs.declared.wanted.Wanted.TheVariants.{Rows}
use Rattle.bureau.specs.Texts as desk
use Rattle.file_reports.specs.Inputs.{Inputs, Refused, Said, and_then, said_by}
use Rattle.file_reports.specs.declared.texts.Counts.{Counts}

-- the zone as a desk keeps it
abbrev pub zone_said : Said → ZoneTable
zone_said said = record { rows = said.rows; patterns = said.patterns }

-- the exception SYSMOD report on a zone of this name
abbrev pub err_text_said : List ℕ → Said → List ℕ
err_text_said zone said = desk.report_text ErrSysmods (Rows Text) said.content zone (zone_said said) said.received

-- the missing fix report
abbrev pub missing_text_said : List ℕ → Said → List ℕ
missing_text_said zone said = desk.report_text MissingFix (Rows Text) said.content zone (zone_said said) said.received

-- the verdict on a SYSMOD
abbrev pub chain_text_said : List ℕ → List ℕ → Said → List ℕ
chain_text_said zone sysmod said = desk.chain_text said.content zone (zone_said said) sysmod

-- how many SYSMODs and holds the publications leave
abbrev pub counts_said : Said → Counts
counts_said said = record { sysmods = length said.content.sysmods; holds = length said.content.holds }

-- a text, and these counts
abbrev pub with_counts : (Said → List ℕ) → Said → List ℕ × Counts
with_counts text said = (text said, counts_said said)

-- what is made of the meaning of the inputs, or the first fault
abbrev pub made_from : {A : Type 0} → (Said → A) → Inputs → Result A Refused
made_from make inputs = and_then (said_by inputs) (λ said. Ok (make said))
