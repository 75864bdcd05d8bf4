-- What a record of each kind of list is read as agrees with what is wrong with it by itself.
use Rattle.std.proofs.Common.{◌≡◌, ℕ, Bool, true, false, List, [], ◌∷◌, Option, Some, None, Result, Ok, Err, inl, inr, refl, arith, if◌then◌else◌}
use Rattle.faults.specs.Refusal.{IsRefusal}
use Rattle.mcs_reader.specs.Id.{id_of}
use Rattle.zone_lists.specs.Column.{IsColumnFault, column_field}
use Rattle.zone_lists.specs.Fields.{Record, one_field, trimmed}
use Rattle.zone_lists.specs.FirstFault.{IsFirstFault}
use Rattle.zone_lists.specs.Lists.{Numbered, answer}
use Rattle.zone_lists.specs.Pattern.{is_pattern}
use Rattle.zone_lists.specs.PatternList.{IsPatternFault, pattern_list, pattern_read}
use Rattle.zone_lists.specs.ReceivedList.{IsReceivedFault, received_id, received_list, received_read}
use Rattle.zone_lists.specs.ZoneList.{IsZoneFault, state_of, zone_list, zone_row}
use Rattle.zone_lists.specs.declared.fault.ListFault.{ListFault}
use Rattle.zone_lists.specs.declared.fault.ListFault.TheVariants.{BadRecord, BadId, BadPattern, Memory}
use Rattle.zone_lists.specs.declared.zones.ZoneRow.{ZoneRow}
use Rattle.zone_lists.specs.declared.zones.ZoneState.{ZoneState}
use Rattle.zone_lists.proofs.FirstFacts.{Tells, first_or_memory}

-- another number of fields is all that is wrong then
wrong_number : (Entry : Type 0) → Tells {Entry = Entry} (λ n fault. fault ≡ BadRecord n) (Err BadRecord)
wrong_number Entry = λ n. (refl, λ other is. rw is (omega arith), omega arith, omega arith)

-- ---- zones

zone_tells_at : (id state : List ℕ) (found : Option (List ℕ)) (named : Option ZoneState) → id_of (trimmed id) ≡ found → state_of (trimmed state) ≡ named
    → Tells (λ n fault. IsZoneFault n (id ∷ state ∷ []) fault) (zone_row found named)
zone_tells_at id state None named no_id its = λ n. (
  inl (refl, no_id),
  λ other is. elim is [ inl same ↦ rw same.0 (omega arith) | inr more ↦ rw more.0 (omega arith) ],
  omega arith,
  omega arith,
)
zone_tells_at id state (Some sysmod) None an_id no_state = λ n. (
  inr (refl, no_state),
  λ other is. elim is [ inl more ↦ absurd (cc (an_id, more.1)) | inr same ↦ rw same.0 (omega arith) ],
  omega arith,
  omega arith,
)
zone_tells_at id state (Some sysmod) (Some at) an_id a_state =
    λ n fault is. elim is [ inl wrong ↦ cc (an_id, wrong.1) | inr wrong ↦ cc (a_state, wrong.1) ]

zone_tells : (fields : Record) → Tells (λ n fault. IsZoneFault n fields fault) (zone_list.entry fields)
zone_tells [] = wrong_number ZoneRow
zone_tells (only ∷ []) = wrong_number ZoneRow
zone_tells (id ∷ state ∷ []) = zone_tells_at id state (id_of (trimmed id)) (state_of (trimmed state)) refl refl
zone_tells (first ∷ second ∷ third ∷ more) = wrong_number ZoneRow

pub first_of_zone : (records : List Record) (fault : ListFault) → IsRefusal Memory (λ told. answer zone_list records ≡ Err told) fault
    → IsRefusal Memory (IsFirstFault zone_list IsZoneFault records) fault
first_of_zone = first_or_memory zone_list IsZoneFault zone_tells

-- ---- lists of one column

column_tells : (read : List ℕ → Result (List ℕ) Numbered) (bad : Numbered) (IsBad : List ℕ → Type 0)
    → ((field : List ℕ) → Tells (λ n fault. (fault ≡ bad n) × IsBad field) (read field))
    → (fields : Record) → Tells (λ n fault. IsColumnFault bad IsBad n fields fault) (column_field read (one_field fields))
column_tells read bad IsBad tells [] = wrong_number (List ℕ)
column_tells read bad IsBad tells (field ∷ []) = tells (trimmed field)
column_tells read bad IsBad tells (first ∷ second ∷ more) = wrong_number (List ℕ)

received_tells : (text : List ℕ) (found : Option (List ℕ)) → id_of text ≡ found → Tells (λ n fault. (fault ≡ BadId n) × (id_of text ≡ None)) (received_id found)
received_tells text None no_id = λ n. ((refl, no_id), λ other is. rw is.0 (omega arith), omega arith, omega arith)
received_tells text (Some sysmod) an_id = λ n fault is. cc (an_id, is.1)

pub first_of_received : (records : List Record) (fault : ListFault) → IsRefusal Memory (λ told. answer received_list records ≡ Err told) fault
    → IsRefusal Memory (IsFirstFault received_list IsReceivedFault records) fault
first_of_received =
    first_or_memory received_list IsReceivedFault (column_tells received_read BadId (λ text. id_of text ≡ None) (λ text. received_tells text (id_of text) refl))

pattern_tells : (text : List ℕ) (is : Bool) → is_pattern text ≡ is → Tells (λ n fault. (fault ≡ BadPattern n) × (is_pattern text ≡ false)) (if is then Ok text else Err BadPattern)
pattern_tells text false none = λ n. ((refl, none), λ other is. rw is.0 (omega arith), omega arith, omega arith)
pattern_tells text true one = λ n fault is. cc (one, is.1)

pub first_of_patterns : (records : List Record) (fault : ListFault) → IsRefusal Memory (λ told. answer pattern_list records ≡ Err told) fault
    → IsRefusal Memory (IsFirstFault pattern_list IsPatternFault records) fault
first_of_patterns =
    first_or_memory pattern_list IsPatternFault (column_tells pattern_read BadPattern (λ text. is_pattern text ≡ false) (λ text. pattern_tells text (is_pattern text) refl))
