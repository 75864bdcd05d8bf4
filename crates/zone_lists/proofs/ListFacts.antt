-- Reading a list record by record, and that this gives the answer of its definition.
use Rattle.std.proofs.Common.{◌≡◌, ℕ, ◌+◌, ◌<◌, ◌∙◌, Bool, true, false, List, [], ◌∷◌, ◌++◌, length, Some, Result, Ok, Err, inl, inr, refl, sym, ap, arith, nat_le, length-append, append_assoc, if◌then◌else◌}
use Rattle.std.specs.BTreeSet.{insert_key}
use Rattle.std.specs.List.{cons_option, list_any}
use Rattle.std.specs.Option.{option_or}
use Rattle.std.specs.Result.{result_ok}
use Rattle.std.proofs.lemmas.Bool.{cases_Bool}
use Rattle.std.proofs.lemmas.Bool.Decides.{nat_tests}
use Rattle.std.proofs.lemmas.List.{append-nil}
use Rattle.std.proofs.lemmas.List.Sums.{fold-append}
use Rattle.zone_lists.specs.Fields.{Record}
use Rattle.zone_lists.specs.Lists.{ListKind, Numbered, StandsAfter, answer, at_number, entries, first_fault, in_order, own_fault, unless}
use Rattle.zone_lists.specs.declared.fault.ListFault.{ListFault}
use Rattle.zone_lists.specs.declared.fault.ListFault.TheVariants.{Repeated, TooMany}

-- what a record with a number stands for, it stands for by itself
pub entry_at : {Entry : Type 0} (n : ℕ) (r : Result Entry Numbered) (entry : Entry) → at_number n r ≡ Ok entry → r ≡ Ok entry
entry_at n (Ok e) entry h = cc h
entry_at n (Err fault) entry h = absurd (cc h)

module _ {Entry : Type 0} (kind : ListKind Entry) where
  -- what a record stands for after these entries, or its fault
  abbrev pub after : List Entry → Result Entry Numbered → Result Entry ListFault
  after earlier (Ok entry) = if list_any (kind.contradicts entry) earlier then Err (Repeated (length earlier + 1)) else Ok entry
  after earlier (Err fault) = Err (fault (length earlier + 1))

  abbrev pub next_entry : List Entry → Record → Result Entry ListFault
  next_entry earlier fields = if nat_le kind.limit (length earlier) then Err TooMany else after earlier (kind.entry fields)

  -- reading on after a record
  abbrev pub go_on : (Entry → Result (List Entry) ListFault) → Result Entry ListFault → Result (List Entry) ListFault
  go_on rest (Ok entry) = rest entry
  go_on rest (Err fault) = Err fault

  -- the answer of reading on after these entries
  abbrev pub answer_after : List Entry → List Record → Result (List Entry) ListFault
  answer_after earlier [] = Ok (in_order kind earlier)
  answer_after earlier (fields ∷ rest) = go_on (λ entry. answer_after (earlier ++ entry ∷ []) rest) (next_entry earlier fields)

  -- one more entry, put where it belongs
  pub in_order_more : (earlier : List Entry) (entry : Entry) → in_order kind (earlier ++ entry ∷ []) ≡ insert_key kind.order (in_order kind earlier) entry
  in_order_more earlier entry = fold-append (insert_key kind.order) [] earlier (entry ∷ [])

  -- a record past the limit
  pub too_many : (earlier : List Entry) (fields : Record) (rest : List Record) → length earlier ≡ kind.limit → answer_after earlier (fields ∷ rest) ≡ Err TooMany
  too_many earlier fields rest full = rw (full, at_limit kind.limit) refl
    where
      at_limit : (n : ℕ) → nat_le n n ≡ true
      at_limit n = grind (arith, nat_tests)

  not_full : (limit n : ℕ) → n < limit → nat_le limit n ≡ false
  not_full limit n below = grind (arith, nat_tests)

  -- a record with an entry
  pub taken : (earlier : List Entry) (fields : Record) (rest : List Record) (entry : Entry) → length earlier < kind.limit → StandsAfter kind earlier fields entry
      → answer_after earlier (fields ∷ rest) ≡ answer_after (earlier ++ entry ∷ []) rest
  taken earlier fields rest entry below stands = rw (not_full kind.limit (length earlier) below, stands.0, stands.1) refl

  -- what a record has as its own fault, it is refused for
  refused_for : (earlier : List Entry) (r : Result Entry Numbered) (fault : ListFault) → own_fault kind (length earlier + 1) earlier r ≡ Some fault → after earlier r ≡ Err fault
  refused_for earlier (Err f) fault has = let same : f (length earlier + 1) ≡ fault = cc has in ap (λ x. Err x) same
  refused_for earlier (Ok entry) fault has =
      elim (cases_Bool (list_any (kind.contradicts entry) earlier)) [
        | inl some ↦ let g = rw some at has in let same : Repeated (length earlier + 1) ≡ fault = cc g in rw some (ap (λ x. Err x) same)
        | inr none ↦ absurd (let g = rw none at has in cc g)
      ]

  -- a record with a fault
  pub refused : (earlier : List Entry) (fields : Record) (rest : List Record) (fault : ListFault) → length earlier < kind.limit
      → own_fault kind (length earlier + 1) earlier (kind.entry fields) ≡ Some fault → answer_after earlier (fields ∷ rest) ≡ Err fault
  refused earlier fields rest fault below has =
      rw (not_full kind.limit (length earlier) below, refused_for earlier (kind.entry fields) fault has) refl

  -- ---- the definition, read record by record

  entries_more : (records : List Record) (fields : Record) (entry : Entry) → kind.entry fields ≡ Ok entry → entries kind (records ++ fields ∷ []) ≡ entries kind records ++ entry ∷ []
  entries_more [] fields entry is = rw is refl
  entries_more (r ∷ rs) fields entry is =
      elim (kind.entry r) as (λ v. cons_option (result_ok v) (entries kind (rs ++ fields ∷ [])) ≡ cons_option (result_ok v) (entries kind rs) ++ entry ∷ []) [
        | Ok e ↦ ap (λ es. e ∷ es) (entries_more rs fields entry is)
        | Err fault ↦ entries_more rs fields entry is
      ]

  -- what a record makes of the answer after records that have no fault, and the entries of which are these
  step : (before : List Record) (earlier : List Entry) (fields : Record) (rest : List Record) → entries kind before ≡ earlier → length before ≡ length earlier
      → ((before2 : List Record) (earlier2 : List Entry) → entries kind before2 ≡ earlier2 → length before2 ≡ length earlier2
      → unless kind (first_fault kind before2 rest) (earlier2 ++ entries kind rest) ≡ answer_after earlier2 rest)
      → (full : Bool) (r : Result Entry Numbered) → kind.entry fields ≡ r
      → unless kind (option_or (if full then Some TooMany else own_fault kind (length earlier + 1) earlier r) (first_fault kind (before ++ fields ∷ []) rest)) (earlier ++ entries kind (fields ∷ rest))
      ≡ go_on (λ entry. answer_after (earlier ++ entry ∷ []) rest) (if full then Err TooMany else after earlier r)
  step before earlier fields rest same long more true r is = refl
  step before earlier fields rest same long more false (Err fault) is = refl
  step before earlier fields rest same long more false (Ok entry) is =
      elim (cases_Bool (list_any (kind.contradicts entry) earlier)) [
        | inl other ↦ rw other refl
        | inr none ↦ rw (none, is) (
            rw (← append_assoc earlier (entry ∷ []) (entries kind rest)) (
            more (before ++ fields ∷ []) (earlier ++ entry ∷ []) (entries_more before fields entry is ∙ ap (λ es. es ++ entry ∷ []) same) (
            length-append before (fields ∷ []) ∙ ap (λ n. n + 1) long ∙ sym (length-append earlier (entry ∷ []))
            )
            )
            )
      ]

  reads_after : (before : List Record) (earlier : List Entry) (rest : List Record) → entries kind before ≡ earlier → length before ≡ length earlier
      → unless kind (first_fault kind before rest) (earlier ++ entries kind rest) ≡ answer_after earlier rest
  reads_after before earlier [] same long = ap (λ es. Ok (in_order kind es)) (append-nil earlier)
  reads_after before earlier (fields ∷ rest) same long =
      rw (same, long) (
      step before earlier fields rest same long (λ before2 earlier2 same2 long2. reads_after before2 earlier2 rest same2 long2) (nat_le kind.limit (length earlier)) (kind.entry fields) refl
      )

  -- a list whose first record is the header
  pub answer_read : (fields : Record) (rest : List Record) → kind.is_header fields ≡ true → answer kind (fields ∷ rest) ≡ answer_after [] rest
  answer_read fields rest is = rw is (reads_after [] [] rest refl refl)

-- ---- the loop over the records

-- n records came after the header up to here, and what keeps their entries has them; the records left decide the answer
pub record Reads {Entry : Type 0} (kind : ListKind Entry) (Has : List Entry → Type 0) (answer : Result (List Entry) ListFault) (n : ℕ) (left : List Record) : Type 0 where
  pub came : List Entry
  pub count : length came ≡ n
  pub has : Has came
  pub answers : answer ≡ answer_after kind came left

-- at the header
pub begins : {Entry : Type 0} (kind : ListKind Entry) (Has : List Entry → Type 0) (records : List Record) (header : Record) (left : List Record)
    → records ≡ header ∷ left → kind.is_header header ≡ true → Has [] → Reads kind Has (answer kind records) 0 left
begins kind Has records header left begin is has = record {
  came = [];
  count = refl;
  has = has;
  answers = ap (λ all. answer kind all) begin ∙ answer_read kind header left is;
}

-- after one more record
pub goes_on : {Entry : Type 0} (kind : ListKind Entry) (Has Has2 : List Entry → Type 0) (answer : Result (List Entry) ListFault) (n : ℕ) (fields : Record) (left : List Record)
    → (reads : Reads kind Has answer n (fields ∷ left)) → n < kind.limit
    → ((earlier : List Entry) → Has earlier → (entry : Entry) × StandsAfter kind earlier fields entry × Has2 (earlier ++ entry ∷ []))
    → Reads kind Has2 answer (n + 1) left
goes_on kind Has Has2 answer n fields left reads below added =
    let more = added reads.came reads.has in
    record {
      came = reads.came ++ more.0 ∷ [];
      count = length-append reads.came (more.0 ∷ []) ∙ ap (λ k. k + 1) reads.count;
      has = more.2;
      answers = reads.answers ∙ taken kind reads.came fields left more.0 (rw reads.count below) more.1;
    }

-- a record past the limit
pub stops_full : {Entry : Type 0} (kind : ListKind Entry) (Has : List Entry → Type 0) (answer : Result (List Entry) ListFault) (n : ℕ) (fields : Record) (left : List Record)
    → (reads : Reads kind Has answer n (fields ∷ left)) → n ≡ kind.limit → answer ≡ Err TooMany
stops_full kind Has answer n fields left reads full = reads.answers ∙ too_many kind reads.came fields left (reads.count ∙ full)

-- a record with a fault
pub stops_at : {Entry : Type 0} (kind : ListKind Entry) (Has : List Entry → Type 0) (answer : Result (List Entry) ListFault) (n : ℕ) (fields : Record) (left : List Record) (fault : ListFault)
    → (reads : Reads kind Has answer n (fields ∷ left)) → n < kind.limit
    → ((earlier : List Entry) → Has earlier → own_fault kind (n + 1) earlier (kind.entry fields) ≡ Some fault)
    → answer ≡ Err fault
stops_at kind Has answer n fields left fault reads below has =
    reads.answers ∙ refused kind reads.came fields left fault (rw reads.count below) (rw reads.count (has reads.came reads.has))

-- at the end
pub ends : {Entry : Type 0} (kind : ListKind Entry) (Has : List Entry → Type 0) (answer : Result (List Entry) ListFault) (n : ℕ) (left : List Record)
    → (reads : Reads kind Has answer n left) → left ≡ [] → (all : List Entry) × Has all × (answer ≡ Ok (in_order kind all))
ends kind Has answer n left reads none = (reads.came, reads.has, reads.answers ∙ ap (λ records. answer_after kind reads.came records) none)
