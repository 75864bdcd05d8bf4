-- How many records the bytes of a text may hold, and what a read leaves of them.
use Rattle.std.proofs.Common.{◌≡◌, ℕ, suc, zero, ◌+◌, ◌<◌, ◌⊎◌, inl, inr, ◌∙◌, Bool, true, false, if◌then◌else◌, List, [], ◌∷◌, ◌++◌, length, Option, Some, None, refl, sym, ap, arith, add-one}
use Rattle.csv.specs.Machine.{Read, next_record, step, is_end, ends_at_end, fields_after, field_after}
use Rattle.csv.specs.Reading.{NextIs, ReadRecord, ReadsNext, default_config, pending_of, records_from, records_next, took_first}
use Rattle.csv.specs.declared.parser.Config.{Config}
use Rattle.csv.specs.declared.parser.State.{State}
use Rattle.csv.specs.declared.parser.State.TheVariants as st
use Rattle.zone_lists.specs.Fields.{Record}
use Rattle.zone_lists.specs.Reader.{ReadsRecords, TextReader, bytes_left, records_in, records_left}

-- a record that was read took a byte, or was the last one of its text
abbrev Takes : List ℕ → Option Read → Type 0
Takes bytes None = Unit {0}
Takes bytes (Some p) = (length p.2 < length bytes) ⊎ ((p.1 ≡ st.StartRecord) × (p.2 ≡ []))

takes_more : (b : ℕ) (bytes : List ℕ) (o : Option Read) → Takes bytes o → Takes (b ∷ bytes) o
takes_more b bytes None h = tt
takes_more b bytes (Some p) h = elim h [ inl less ↦ inl (omega arith) | inr last ↦ inr last ]

read_takes : (cfg : Config) (s : State) (fields : Record) (field bytes : List ℕ) → Takes bytes (next_record cfg s fields field bytes)
unfolding next_record
read_takes cfg s fields field [] =
    elim (ends_at_end s) as (λ v. Takes [] (if v then Some (fields ++ (field ∷ []), st.StartRecord, []) else None)) [ true ↦ inr (refl, refl) | false ↦ tt ]
read_takes cfg s fields field (c ∷ rest) =
    let p = step cfg s c in
    elim (is_end p.1) as (λ v. Takes (c ∷ rest) (if v then Some (fields_after p.1 fields field, p.0, rest) else next_record cfg p.0 (fields_after p.1 fields field) (field_after p.1 c field) rest)) [
      | true ↦ inl (omega arith)
      | false ↦ takes_more c rest _ (read_takes cfg p.0 (fields_after p.1 fields field) (field_after p.1 c field) rest)
    ]

-- the end of a text holds no record
none_at_end : (cfg : Config) (n : ℕ) → records_from cfg n st.StartRecord [] ≡ []
unfolding next_record records_from
none_at_end cfg zero = refl
none_at_end cfg (suc n) = refl

-- a text has the same records, however many more are asked for than it has bytes
same_after : (cfg : Config) (m n : ℕ) (bytes : List ℕ)
    → ((s : State) (rest : List ℕ) → length rest < m → length rest < n → records_from cfg m s rest ≡ records_from cfg n s rest)
    → length bytes < suc m → length bytes < suc n → (o : Option Read) → Takes bytes o → records_next (records_from cfg m) o ≡ records_next (records_from cfg n) o
same_after cfg m n bytes same below also None takes = refl
same_after cfg m n bytes same below also (Some p) takes =
    elim takes [
      | inl less ↦ ap (λ more. p.0 ∷ more) (same p.1 p.2 (omega arith) (omega arith))
      | inr last ↦ ap (λ more. p.0 ∷ more) (rw (last.0, last.1) (none_at_end cfg m ∙ sym (none_at_end cfg n)))
    ]

same_records : (cfg : Config) (m n : ℕ) (s : State) (bytes : List ℕ) → length bytes < m → length bytes < n → records_from cfg m s bytes ≡ records_from cfg n s bytes
unfolding records_from
same_records cfg zero n s bytes below also = absurd (omega arith)
same_records cfg (suc m) zero s bytes below also = absurd (omega arith)
same_records cfg (suc m) (suc n) s bytes below also =
    same_after cfg m n bytes (λ s2 rest. same_records cfg m n s2 rest) below also (next_record cfg s [] [] bytes) (read_takes cfg s [] [] bytes)

-- the records of a text are the one that a read gives, and those of the bytes after it
read_leaves : (cfg : Config) (bytes rest : List ℕ) (o : Option Read) (found : Bool) (fields : Record) (s : State) → Takes bytes o → NextIs o found fields s rest
    → records_next (records_from cfg (length bytes)) o ≡ (if found then fields ∷ records_from cfg (length rest + 1) s rest else [])
read_leaves cfg bytes rest None found fields s takes is = rw is refl
read_leaves cfg bytes rest (Some p) found fields s takes is =
    rw (is.0, is.1, is.2, is.3) (
    elim takes [
      | inl less ↦ ap (λ more. p.0 ∷ more) (same_records cfg (length bytes) (length p.2 + 1) p.1 p.2 less (omega arith))
      | inr last ↦ ap (λ more. p.0 ∷ more) (rw (last.0, last.1) (none_at_end cfg _ ∙ sym (none_at_end cfg _)))
    ]
    )

-- ---- readers

records_are : (bytes rest : List ℕ) (found : Bool) (fields : Record) (state next_state : State) → NextIs (next_record default_config state [] [] bytes) found fields next_state rest
    → records_from default_config (length bytes + 1) state bytes ≡ (if found then fields ∷ records_from default_config (length rest + 1) next_state rest else [])
unfolding records_from
records_are bytes rest found fields state next_state is =
    rw add-one (read_leaves default_config bytes rest (next_record default_config state [] [] bytes) found fields next_state (read_takes default_config state [] [] bytes) is)

-- what one read of a reader leaves it
step_left : (state next_state : State) (before after : Option (List ℕ)) (bytes : List ℕ) (found : Bool) (fields : Record)
    → before ≡ Some bytes → ReadsNext default_config state before after found fields next_state
    → (records_in state before ≡ (if found then fields ∷ records_in next_state after else [])) × ((rest : List ℕ) × (after ≡ Some rest))
step_left state next_state before None bytes found fields known reads = absurd (rw known at reads)
step_left state next_state before (Some rest) bytes found fields known reads =
    (rw known (records_are bytes rest found fields state next_state (rw known at reads)), (rest, refl))

read_step : (old new : TextReader) (found : Bool) (fields : Record) (from : ReadsRecords old) → ReadRecord (λ bytes. Some bytes.now) old new found fields
    → (records_left old ≡ (if found then fields ∷ records_in new.state (pending_of (Some new.rdr.now) new) else [])) × ((rest : List ℕ) × (pending_of (Some new.rdr.now) new ≡ Some rest))
read_step old new found fields from reads =
    step_left old.state new.state (bytes_left old) (pending_of (Some new.rdr.now) new) from.bytes found fields from.left (rw from.config at reads.0)

left_of_begun : (reader : TextReader) → reader.bom_checked ≡ true → bytes_left reader ≡ pending_of (Some reader.rdr.now) reader
left_of_begun reader begun = rw begun refl

-- the records that a reader had are the one that it read, and those that it has left
pub read_left : (old new : TextReader) (found : Bool) (fields : Record) → ReadsRecords old → ReadRecord (λ bytes. Some bytes.now) old new found fields
    → records_left old ≡ (if found then fields ∷ records_left new else [])
read_left old new found fields from reads = rw reads.1 ((read_step old new found fields from reads).0)

-- and it reads on
pub reads_on : (old new : TextReader) (found : Bool) (fields : Record) → ReadsRecords old → took_first new ≡ true → ReadRecord (λ bytes. Some bytes.now) old new found fields
    → ReadsRecords new
reads_on old new found fields from first reads =
    let left = (read_step old new found fields from reads).1 in
    record {
      ready = inl first;
      config = reads.2 ∙ from.config;
      untrimmed = reads.3 ∙ from.untrimmed;
      bytes = left.0;
      left = left_of_begun new reads.1 ∙ left.1;
    }
