-- How much a store has, of what one read after another finds.
use Rattle.std.proofs.Common.{◌≡◌, ◌<◌, ◌+◌, ◌++◌, ℕ, List, [], ◌∷◌, IsTrue, get_or, length, take, sym, ◌∙◌, ap, ap₂, subst, Ok, Err, Result}
use Rattle.std.specs.Prelude.{map, Vec}
use Rattle.std.specs.declared.alloc.Global.{Global}
use Rattle.std.proofs.lemmas.List.{map-append}
use Rattle.std.proofs.lemmas.List.Elements.{Contains-get_or}
use Rattle.std.specs.List.{Contains}
use Rattle.bureau_store.specs.declared.caller.CallerRow.{CallerRow}
use Rattle.sqlite.specs.Effect.{Database}
use Rattle.sqlite.specs.State.{HasCleanDisk, State}
use Rattle.sql_reads.specs.declared.fault.ReadFault.{ReadFault}
use Rattle.sql_reads.specs.declared.fault.ReadFault.TheVariants.{Device}
use Rattle.sql_tables.proofs.StopFacts.{no_read, read_on}
use Rattle.sql_tables.specs.Ours.{IsOurs, held_by}
use Rattle.sql_tables.specs.Reading.{Finds, OnlyReads}
use Rattle.sql_tables.specs.Stored.{Stored, tables_of}
use Rattle.sql_checks.specs.Checked.{Looks}
use Rattle.sql_checks.specs.Refused.{AreUntallied, IsCausedBy, IsUncounted}
use Rattle.sql_checks.specs.Tally.{HasTallied, IsTallyOf, line_of, tally_of}
use Rattle.sql_checks.specs.declared.tallies.CallerLine.{CallerLine}
use Rattle.sql_checks.specs.declared.tallies.CallerTally.{CallerTally}
use Rattle.sql_checks.specs.declared.tallies.StoreTally.{StoreTally}
use Rattle.sql_checks.proofs.CauseFacts.{later_caused}
use Rattle.sql_checks.proofs.ScanFacts.{look_on, look_so}

-- a read is a look
pub read_looks : {A Fault : Type 0} (old new : State) (result : Result A Fault) (Fact : Stored → A → Type 0) → Finds old new result Fact
    → Looks old new result (λ database answer. IsOurs database → Fact (held_by database) answer)
read_looks old new (Ok answer) Fact finds = record { reads = finds.reads; is_open = λ clean is_open. finds.is_open clean; told = λ clean is_open has ours. finds.told clean ours }
read_looks old new (Err e) Fact finds = record { reads = finds.reads; is_open = tt; told = tt }

-- ---- callers, one after another

pub none_tallied : {Fault : Type 0} (at : State) (lines : List CallerLine) → lines ≡ [] → Looks {Fault = Fault} at at (Ok lines) (λ database lines. HasTallied [] database lines)
none_tallied at lines none = record { reads = no_read at; is_open = λ clean is_open. is_open; told = λ clean is_open has ours. none }

pub one_more : {Fault : Type 0} (old mid new : State) (callers : List CallerRow) (at : ℕ) (caller : CallerRow) (lines after : List CallerLine) (has : CallerTally) → take (at + 1) callers ≡ take at callers ++ caller ∷ []
    → Looks {Fault = Fault} old mid (Ok lines) (λ database lines. HasTallied (take at callers) database lines) → Finds mid new {Fault = Fault} (Ok has) (λ stored tally. tally ≡ tally_of (tables_of stored) caller.name)
    → after ≡ lines ++ record { name = caller.name; has = has } ∷ [] → Looks {Fault = Fault} old new (Ok after) (λ database lines. HasTallied (take (at + 1) callers) database lines)
one_more old mid new callers at caller lines after has next first second is =
    look_so old new has after (λ database tally. IsOurs database → (lines ≡ map (line_of (tables_of (held_by database))) (take at callers)) × (tally ≡ tally_of (tables_of (held_by database)) caller.name))
    (λ database lines. HasTallied (take (at + 1) callers) database lines)
    (look_on old mid new lines (Ok has) (λ database lines. HasTallied (take at callers) database lines) (λ database tally. IsOurs database → tally ≡ tally_of (tables_of (held_by database)) caller.name)
    (λ database tally. IsOurs database → (lines ≡ map (line_of (tables_of (held_by database))) (take at callers)) × (tally ≡ tally_of (tables_of (held_by database)) caller.name))
    first (read_looks mid new (Ok has) (λ stored tally. tally ≡ tally_of (tables_of stored) caller.name) second) (λ database tally so_far one our. (so_far our, one our)))
    (λ database both our.
    let line = line_of (tables_of (held_by database)) in
    let told = both our in
    is ∙ ap₂ (λ before tally. before ++ record { name = caller.name; has = tally } ∷ []) told.0 told.1
    ∙ sym (ap (map line) next ∙ map-append line (take at callers) (caller ∷ [])))

pub all_tallied : {Fault : Type 0} (old new : State) (callers so_far : List CallerRow) (result : Result (List CallerLine) Fault) → so_far ≡ callers → Looks old new result (λ database lines. HasTallied so_far database lines)
    → Looks old new result (λ database lines. HasTallied callers database lines)
all_tallied old new callers so_far result same look = subst (λ those. Looks old new result (λ database lines. HasTallied those database lines)) same look

-- ---- both

abbrev HaveCounted : ℕ × ℕ → Database → Type 0
HaveCounted counts database = (counts.0 ≡ length (tables_of (held_by database)).content.sysmods) × (counts.1 ≡ length (tables_of (held_by database)).content.holds)

pub tallied : {Fault : Type 0} (old mid new : State) (counts : ℕ × ℕ) (callers : List CallerRow) (lines : List CallerLine) (tally : StoreTally)
    → Finds old mid {Fault = Fault} (Ok counts) (λ stored counts. (counts.0 ≡ length (tables_of stored).content.sysmods) × (counts.1 ≡ length (tables_of stored).content.holds))
    → Looks {Fault = Fault} mid new (Ok lines) (λ database lines. HasTallied callers database lines) → tally.sysmods ≡ counts.0 → tally.holds ≡ counts.1 → tally.callers.items ≡ lines
    → Looks {Fault = Fault} old new (Ok tally) (λ database tally. IsOurs database → IsTallyOf (tables_of (held_by database)) callers tally)
tallied old mid new counts callers lines tally first second sysmods holds all =
    look_so old new lines tally (λ database found. IsOurs database → HaveCounted counts database × (found ≡ map (line_of (tables_of (held_by database))) callers))
    (λ database tally. IsOurs database → IsTallyOf (tables_of (held_by database)) callers tally)
    (look_on old mid new counts (Ok lines) (λ database counts. IsOurs database → HaveCounted counts database) (λ database lines. HasTallied callers database lines)
    (λ database found. IsOurs database → HaveCounted counts database × (found ≡ map (line_of (tables_of (held_by database))) callers))
    (read_looks old mid (Ok counts) (λ stored counts. (counts.0 ≡ length (tables_of stored).content.sysmods) × (counts.1 ≡ length (tables_of stored).content.holds)) first) second
    (λ database found counted have our. (counted our, have our)))
    (λ database so our. let it = so our in record { sysmods = sysmods ∙ it.0.0; holds = holds ∙ it.0.1; callers_have = all ∙ it.1 })

-- the same of what is read of them in a list that owns its memory
pub in_list : {Fault : Type 0} (old new : State) (callers : List CallerRow) (lines : Vec CallerLine Global) → Looks {Fault = Fault} old new (Ok lines.items) (λ database lines. HasTallied callers database lines)
    → Looks {Answer = Vec CallerLine Global} {Fault = Fault} old new (Ok lines) (λ database lines. HasTallied callers database lines.items)
in_list old new callers lines look = record { reads = look.reads; is_open = look.is_open; told = look.told }

pub of_list : {Fault : Type 0} (old new : State) (callers : List CallerRow) (lines : Vec CallerLine Global) → Looks {Answer = Vec CallerLine Global} {Fault = Fault} old new (Ok lines) (λ database lines. HasTallied callers database lines.items)
    → Looks {Fault = Fault} old new (Ok lines.items) (λ database lines. HasTallied callers database lines)
of_list old new callers lines look = record { reads = look.reads; is_open = look.is_open; told = look.told }

-- what is refused after other reads
pub refused_later : {A Fault : Type 0} (old mid new : State) (e : Fault) (Fact : Database → A → Type 0) → OnlyReads old mid → OnlyReads mid new
    → Looks {Answer = A} {Fault = Fault} old new (Err e) Fact
refused_later old mid new e Fact first second = record { reads = read_on old mid new first second; is_open = tt; told = tt }

-- ---- why there is no tally

-- one of the callers isn't counted, after others
pub one_untallied : (old mid new : State) (callers : List CallerRow) (at : ℕ) (caller : CallerRow) (fault : ReadFault) → at < length callers → caller ≡ get_or callers at caller
    → OnlyReads old mid → (HasCleanDisk mid → IsTrue old.is_open → IsTrue mid.is_open) → OnlyReads mid new → (fault ≡ Device → HasCleanDisk new → IsCausedBy (IsUncounted caller.name) mid new)
    → fault ≡ Device → HasCleanDisk new → IsCausedBy (AreUntallied callers) old new
one_untallied old mid new callers at caller fault within is =
    later_caused (IsUncounted caller.name) (AreUntallied callers) old mid new fault
    (λ limit database why. (caller, subst (Contains callers) (sym is) (Contains-get_or callers at caller within), why))
