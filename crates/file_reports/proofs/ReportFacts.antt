-- A report, from what the inputs say.
use Rattle.std.proofs.Common.{◌≡◌, inl, inr, arith, ℕ, ◌==◌, ◌&&◌, List, filter, refl, sym, ◌∙◌, ap, ap₂, subst}
use Rattle.std.specs.Prelude.{None, Result, Ok, Err, IfErr, IsErrAnd}
use Rattle.holddata.specs.HoldKey.{kind_order}
use Rattle.holddata.specs.declared.hold.Hold.{Hold}
use Rattle.holddata.specs.declared.key.Kind.TheVariants.{ErrorHold, FixcatHold}
use Rattle.zone_lists.specs.Installed.{is_installed}
use Rattle.catalogue.specs.Content.{Content}
use Rattle.catalogue.specs.ListPublished.{lists_view}
use Rattle.catalogue.specs.SourceFault as source
use Rattle.catalogue.specs.View.{MayAsk}
use Rattle.catalogue.specs.declared.fault.SourceFault.{SourceFault}
use Rattle.catalogue.specs.declared.fault.SourceFault.TheVariants.{Memory, Device}
use Rattle.reports.specs.ErrRows.{err_rows_of}
use Rattle.reports.specs.MissingRows.{missing_rows_of}
use Rattle.reports.specs.ReportText.{err_text_of, missing_text_of}
use Rattle.reports.specs.declared.rows.ErrRow.{ErrRow}
use Rattle.reports.specs.declared.rows.MissingRow.{MissingRow}
use Rattle.file_reports.specs.Inputs.{Inputs, IsFirstFault, Refused, Said, and_then, said_by}
use Rattle.file_reports.specs.Reports.{counts_said, err_text_said, made_from, missing_text_said, with_counts}
use Rattle.file_reports.specs.declared.texts.Counts.{Counts}
use Rattle.file_reports.specs.declared.fault.InputFault.{InputFault}
use Rattle.file_reports.proofs.InputFacts.{refused_first}

-- what is made of what the inputs say
pub made_said : {A : Type 0} (make : Said → A) (inputs : Inputs) (all : Said) (made : A) → said_by inputs ≡ Ok all → made ≡ make all → made_from make inputs ≡ Ok made
made_said {A} make inputs all made said is =
    ap (λ (result : Result Said Refused). and_then result (λ all. Ok (make all))) said ∙ ap (λ (made : A). Ok made) (sym is)

-- a text of it, and the counts
pub with_counts_said : (text : Said → List ℕ) (inputs : Inputs) (all : Said) (printed : List ℕ) (counts : Counts) → said_by inputs ≡ Ok all → printed ≡ text all → counts ≡ counts_said all
    → made_from (with_counts text) inputs ≡ Ok (printed, counts)
with_counts_said text inputs all printed counts said is are =
    made_said (with_counts text) inputs all (printed, counts) said (ap₂ (λ (t : List ℕ) (c : Counts). (t, c)) is are)

-- what is refused of the inputs is refused of the report
pub text_refused : {T A : Type 0} (text : Said → A) (inputs : Inputs) (result : Result T InputFault) (told : InputFault) → IsErrAnd result (λ fault. fault ≡ told)
    → IsFirstFault (said_by inputs) told → IfErr result (IsFirstFault (made_from text inputs))
text_refused text inputs (Ok value) told is refused = absurd is
text_refused text inputs (Err fault) told is refused =
    subst (λ (told : InputFault). IsFirstFault (made_from text inputs) told) (sym is) (refused_first (said_by inputs) (λ all. Ok (text all)) told refused)

-- the machine is at fault
abbrev told_of : SourceFault → InputFault
told_of fault = record { input = None; fault = source.told fault }

pub machine_refused : {T A : Type 0} (said : Result A Refused) (result : Result T InputFault) (fault : SourceFault)
    → IsErrAnd result (λ told. told ≡ record { input = None; fault = source.told fault }) → fault ≡ Memory → IfErr result (IsFirstFault said)
machine_refused said (Ok value) fault is memory = absurd is
machine_refused said (Err told) fault is memory =
    let told_is : told ≡ record { input = None; fault = source.told Memory } = is ∙ ap told_of memory in
    inl (ap (λ (told : InputFault). told.input) told_is, inr (inr (inr (inl (ap (λ (told : InputFault). told.fault) told_is)))))

-- lists never fail, so memory ran out where a report over them is refused
pub only_memory : {T : Type 0} (old new : Content) (result : Result T SourceFault) → MayAsk lists_view Device old new result → IfErr result (λ fault. fault ≡ Memory)
only_memory old new (Ok answer) asks = tt
only_memory old new (Err Memory) asks = refl
only_memory old new (Err Device) asks = elim (asks.cause refl) [
  | inl less ↦ absurd (omega (arith, less))
  | inr most ↦ absurd (omega (arith, most))
]

-- the exception SYSMOD report, from its parts
pub err_made : (zone : List ℕ) (said : Said) (ids : List (List ℕ)) (held holds book : List Hold) (rows shown : List ErrRow) (text : List ℕ)
    → text ≡ err_text_of zone shown → shown ≡ rows → rows ≡ err_rows_of said.content said.rows ids held → ids ≡ said.received → held ≡ holds
    → holds ≡ filter (λ hold. is_installed said.rows hold.key.sysmod && (kind_order hold.key.kind == kind_order ErrorHold)) book → book ≡ said.content.holds
    → text ≡ err_text_said zone said
err_made zone said ids held holds book rows shown text printed shows made has same are of =
    printed ∙ ap (err_text_of zone)
    (shows ∙ made ∙ ap (λ ids. err_rows_of said.content said.rows ids held) has
    ∙ ap (err_rows_of said.content said.rows said.received)
    (same ∙ are ∙ ap (filter (λ hold. is_installed said.rows hold.key.sysmod && (kind_order hold.key.kind == kind_order ErrorHold))) of))

-- the missing fix report, from its parts
pub missing_made : (zone : List ℕ) (said : Said) (ids patterns : List (List ℕ)) (held holds book : List Hold) (rows shown : List MissingRow) (text : List ℕ)
    → text ≡ missing_text_of zone shown → shown ≡ rows → rows ≡ missing_rows_of said.content said.rows ids patterns held → ids ≡ said.received → patterns ≡ said.patterns → held ≡ holds
    → holds ≡ filter (λ hold. is_installed said.rows hold.key.sysmod && (kind_order hold.key.kind == kind_order FixcatHold)) book → book ≡ said.content.holds
    → text ≡ missing_text_said zone said
missing_made zone said ids patterns held holds book rows shown text printed shows made has asks same are of =
    printed ∙ ap (missing_text_of zone)
    (shows ∙ made ∙ ap (λ ids. missing_rows_of said.content said.rows ids patterns held) has
    ∙ ap (λ patterns. missing_rows_of said.content said.rows said.received patterns held) asks
    ∙ ap (missing_rows_of said.content said.rows said.received said.patterns)
    (same ∙ are ∙ ap (filter (λ hold. is_installed said.rows hold.key.sysmod && (kind_order hold.key.kind == kind_order FixcatHold))) of))
