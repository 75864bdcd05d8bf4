-- The callers of a callers file can be written: no two have one name or one token, and each is short.
use Rattle.std.proofs.Common.{◌≡◌, ◌≤◌, ◌<◌, ◌+◌, ◌∙◌, ◌||◌, ℕ, zero, suc, Bool, true, false, List, [], ◌∷◌, ◌++◌, length, Option, Some, None, Result, Ok, Err, inl, inr, refl, sym, ap, subst, arith, nat_le, length-append}
use Rattle.std.specs.Prelude.{slice_get}
use Rattle.std.specs.BTreeSet.{insert_key}
use Rattle.std.specs.List.{AllByRecursion, list_any}
use Rattle.std.specs.Ordering.{match_ordering}
use Rattle.std.specs.Str.{bytes_eq}
use Rattle.std.specs.declared.cmp.Ordering.{Ordering}
use Rattle.std.specs.declared.cmp.Ordering.TheVariants.{Less, Equal, Greater}
use Rattle.std.proofs.lemmas.Bool.{cases_Bool, false≢true}
use Rattle.std.proofs.lemmas.Bool.Decides.{nat_tests}
use Rattle.std.proofs.lemmas.Slice.Eq.{bytes_eq-Decides}
use Rattle.mcs_reader.proofs.IdFacts.{id_over_blanks, padded_over_blanks, text_is_few}
use Rattle.mcs_reader.specs.Id.{IsId, id_of, is_id_text, padded, text_of}
use Rattle.zone_lists.specs.Fields.{Record}
use Rattle.zone_lists.specs.Fields as fields
use Rattle.zone_lists.specs.Lists.{Numbered, answer, in_order, records_of}
use Rattle.zone_lists.specs.declared.fault.ListFault.{ListFault}
use Rattle.zone_lists.proofs.EachFacts.{In, put_cases}
use Rattle.zone_lists.proofs.ListFacts.{after, answer_after, answer_read, go_on, in_order_more, next_entry}
use Rattle.bureau_store.specs.Callers.{caller_fields, caller_list, callers_of, comes_again, has_publisher, is_token, named_row, row_order, with_publisher}
use Rattle.bureau_store.specs.declared.caller.CallerRow.{CallerRow}
use Rattle.sql_writes.specs.Making.{AreApart, AreFit}

-- ---- one record

-- a caller with the name of an id and a token that is short
pub record IsShort (row : CallerRow) : Type 0 where
  pub named : IsId row.name
  pub token : length row.token ≤ 64

name_is_id : (text name : List ℕ) → id_of text ≡ Some name → IsId name
name_is_id text name is = elim (cases_Bool (is_id_text text)) [
  | inl good ↦
      let h = rw good at is in
      let one : padded text ≡ name = cc h in
      subst IsId (padded_over_blanks text ∙ one) (id_over_blanks text text good refl)
  | inr bad ↦ absurd (let h = rw bad at is in cc h)
]

token_is_short : (token : List ℕ) → is_token token ≡ true → length token ≤ 64
token_is_short token is = grind (arith, nat_tests)

named_short : (name : Option (List ℕ)) (token : List ℕ) (row : CallerRow) → ((id : List ℕ) → name ≡ Some id → IsId id) → named_row name token ≡ Ok row → IsShort row
named_short None token row ids is = absurd (cc is)
named_short (Some id) token row ids is = elim (cases_Bool (is_token token)) [
  | inl good ↦
      let h = rw good at is in
      let one : record { name = id; token = token } ≡ row = cc h in
      subst IsShort one (record { named = ids id refl; token = token_is_short token good })
  | inr bad ↦ absurd (let h = rw bad at is in cc h)
]

fields_short : (parts : Option (List ℕ × List ℕ)) (row : CallerRow) → caller_fields parts ≡ Ok row → IsShort row
fields_short None row is = absurd (cc is)
fields_short (Some parts) row is = named_short (id_of parts.0) parts.1 row (λ id named. name_is_id parts.0 id named) is

-- ---- a list of callers, of which no two have one text of a kind

in_any : {X : Type 0} (test : X → Bool) (xs : List X) (x : X) → In xs x → test x ≡ true → list_any test xs ≡ true
in_any test [] x none is = absurd none
in_any test (y ∷ ys) x (inl same) is = rw (same, is) refl
in_any test (y ∷ ys) x (inr later) is = by (test y) (in_any test ys x later is)
  where
    by : (b : Bool) → list_any test ys ≡ true → (b || list_any test ys) ≡ true
    by true rest = refl
    by false rest = rest

in_more : {X : Type 0} (xs : List X) (y x : X) → In xs x → In (xs ++ y ∷ []) x
in_more [] y x none = absurd none
in_more (z ∷ zs) y x (inl same) = inl same
in_more (z ∷ zs) y x (inr later) = inr (in_more zs y x later)

in_last : {X : Type 0} (xs : List X) (y : X) → In (xs ++ y ∷ []) y
in_last [] y = inl refl
in_last (z ∷ zs) y = inr (in_last zs y)

put_size : {X : Type 0} (order : X → X → Ordering) (xs : List X) (k : X) → length (insert_key order xs k) ≤ length xs + 1
put_size order [] k = omega arith
put_size order (y ∷ ys) k =
    elim (order k y) as (λ o. length (match_ordering o (k ∷ y ∷ ys) (y ∷ ys) (y ∷ insert_key order ys k)) ≤ length (y ∷ ys) + 1) [
      | Less ↦ omega arith
      | Equal ↦ omega arith
      | Greater ↦ let less = put_size order ys k in omega (arith, less)
    ]

module _ (text : CallerRow → List ℕ) where
  abbrev Differ : List CallerRow → Type 0
  Differ [] = Unit {0}
  Differ (row ∷ rows) = ((other : CallerRow) → In rows other → text row ≡ text other → ⊥) × Differ rows

  differ_put : (rows : List CallerRow) (row : CallerRow) → Differ rows → ((other : CallerRow) → In rows other → text row ≡ text other → ⊥) → Differ (insert_key row_order rows row)
  differ_put [] row apart new = ((λ other none same. none), tt)
  differ_put (first ∷ rows) row apart new =
      elim (row_order row first) as (λ o. Differ (match_ordering o (row ∷ first ∷ rows) (first ∷ rows) (first ∷ insert_key row_order rows row))) [
        | Less ↦ (new, apart)
        | Equal ↦ apart
        | Greater ↦ (
          (λ other there same. elim (put_cases row_order rows row other there) [
            | inl old ↦ apart.0 other old same
            | inr at ↦ new first (inl refl) (ap text at ∙ sym same)
          ]),
          differ_put rows row apart.1 (λ other there. new other (inr there)),
        )
      ]

  in_got : (rows : List CallerRow) (i : ℕ) (one : CallerRow) → slice_get rows i ≡ Some one → In rows one
  in_got [] i one got = absurd (cc got)
  in_got (row ∷ rows) zero one got = inl (cc got)
  in_got (row ∷ rows) (suc i) one got = inr (in_got rows i one got)

  apart_from : (rows : List CallerRow) → Differ rows → AreApart text rows
  apart_from [] apart i j one other here there same = absurd (cc here)
  apart_from (row ∷ rows) apart zero zero one other here there same = refl
  apart_from (row ∷ rows) apart zero (suc j) one other here there same =
      let first : row ≡ one = cc here in
      absurd (apart.0 other (in_got rows j other there) (ap text first ∙ same))
  apart_from (row ∷ rows) apart (suc i) zero one other here there same =
      let first : row ≡ other = cc there in
      absurd (apart.0 one (in_got rows i one here) (ap text first ∙ sym same))
  apart_from (row ∷ rows) apart (suc i) (suc j) one other here there same = ap suc (apart_from rows apart.1 i j one other here there same)

-- ---- record by record

abbrev text_of_name : CallerRow → List ℕ
text_of_name row = text_of row.name

-- callers that came, and the same in order
record Come (came listed : List CallerRow) : Type 0 where
  names : Differ text_of_name listed
  tokens : Differ (λ row. row.token) listed
  each : (row : CallerRow) → In listed row → IsShort row
  seen : (row : CallerRow) → In listed row → In came row
  size : length listed ≤ length came
  few : length came ≤ 10000

none_yet : Come [] []
none_yet = record { names = tt; tokens = tt; each = λ row none. absurd none; seen = λ row none. none; size = omega arith; few = omega arith }

module _ (came listed : List CallerRow) (row : CallerRow) (come : Come came listed) (short : IsShort row) (new : list_any (comes_again row) came ≡ false) where
  never : (other : CallerRow) → In listed other → comes_again row other ≡ true → ⊥
  never other there again = false≢true (sym new ∙ in_any (comes_again row) came other (come.seen other there) again)

  new_name : (other : CallerRow) → In listed other → text_of_name row ≡ text_of_name other → ⊥
  new_name other there same =
      let names = short.named.1 ∙ ap padded same ∙ sym (come.each other there).named.1 in
      never other there (ap (λ b. b || bytes_eq row.token other.token) ((bytes_eq-Decides row.name other.name).1 names))

  new_token : (other : CallerRow) → In listed other → row.token ≡ other.token → ⊥
  new_token other there same = never other there (by (bytes_eq row.name other.name))
    where
      by : (b : Bool) → (b || bytes_eq row.token other.token) ≡ true
      by true = refl
      by false = (bytes_eq-Decides row.token other.token).1 same

  one_more : length came < 10000 → Come (came ++ row ∷ []) (insert_key row_order listed row)
  one_more room = record {
    names = differ_put text_of_name listed row come.names new_name;
    tokens = differ_put (λ row. row.token) listed row come.tokens new_token;
    each = λ other there. elim (put_cases row_order listed row other there) [ inl old ↦ come.each other old | inr same ↦ subst IsShort same short ];
    seen = λ other there. elim (put_cases row_order listed row other there) [ inl old ↦ in_more came row other (come.seen other old) | inr same ↦ subst (In (came ++ row ∷ [])) same (in_last came row) ];
    size = let less = put_size row_order listed row in let before = come.size in let long = length-append came (row ∷ []) in omega (arith, less, before, long);
    few = let long = length-append came (row ∷ []) in omega (arith, room, long);
  }

after_ok : (came : List CallerRow) (r : Result CallerRow Numbered) (row : CallerRow) → after caller_list came r ≡ Ok row → (r ≡ Ok row) × (list_any (comes_again row) came ≡ false)
after_ok came (Err fault) row h = absurd (cc h)
after_ok came (Ok one) row h = elim (cases_Bool (list_any (comes_again one) came)) [
  | inl some ↦ absurd (let g = rw some at h in cc g)
  | inr none ↦ let g = rw none at h in let same : one ≡ row = cc g in (ap (λ v. Ok v) same, subst (λ it. list_any (comes_again it) came ≡ false) same none)
]

-- a record that is taken
record IsTaken (came : List CallerRow) (record_of : Record) (row : CallerRow) : Type 0 where
  room : length came < 10000
  stands : caller_list.entry record_of ≡ Ok row
  new : list_any (comes_again row) came ≡ false

taken : (came : List CallerRow) (record_of : Record) (row : CallerRow) → next_entry caller_list came record_of ≡ Ok row → IsTaken came record_of row
taken came record_of row h = elim (cases_Bool (nat_le 10000 (length came))) [
  | inl full ↦ absurd (let g = rw full at h in cc g)
  | inr room ↦
      let it = after_ok came (caller_list.entry record_of) row (rw room at h) in
      record { room = grind (arith, nat_tests, room); stands = it.0; new = it.1 }
]

came_next : (came : List CallerRow) (record_of : Record) (rest : List Record) (rows : List CallerRow) → Come came (in_order caller_list came)
    → ((before : List CallerRow) → Come before (in_order caller_list before) → answer_after caller_list before rest ≡ Ok rows → (all : List CallerRow) × Come all rows)
    → (o : Result CallerRow ListFault) → next_entry caller_list came record_of ≡ o → go_on caller_list (λ row. answer_after caller_list (came ++ row ∷ []) rest) o ≡ Ok rows
    → (all : List CallerRow) × Come all rows
came_next came record_of rest rows come more (Err fault) next answers = absurd (cc answers)
came_next came record_of rest rows come more (Ok row) next answers =
    let it = taken came record_of row next in
    let short = fields_short (fields.two_fields record_of) row it.stands in
    more (came ++ row ∷ [])
    (subst (Come (came ++ row ∷ [])) (sym (in_order_more caller_list came row)) (one_more came (in_order caller_list came) row come short it.new it.room)) answers

all_come : (came : List CallerRow) (records : List Record) (rows : List CallerRow) → Come came (in_order caller_list came) → answer_after caller_list came records ≡ Ok rows
    → (all : List CallerRow) × Come all rows
all_come came [] rows come answers = let is : in_order caller_list came ≡ rows = cc answers in (came, subst (Come came) is come)
all_come came (record_of ∷ rest) rows come answers =
    came_next came record_of rest rows come (λ before kept then. all_come before rest rows kept then) (next_entry caller_list came record_of) refl answers

all_answered : (records : List Record) (rows : List CallerRow) → answer caller_list records ≡ Ok rows → (all : List CallerRow) × Come all rows
all_answered [] rows answers = absurd (cc answers)
all_answered (header ∷ rest) rows answers = elim (cases_Bool (caller_list.is_header header)) [
  | inl is ↦ all_come [] rest rows none_yet (sym (answer_read caller_list header rest is) ∙ answers)
  | inr other ↦ absurd (let g = rw other at answers in cc g)
]

-- ---- the whole file

fit_from : (all rows : List CallerRow) → Come all rows → AreFit rows
fit_from all rows come = record {
  names = apart_from text_of_name rows come.names;
  tokens = apart_from (λ row. row.token) rows come.tokens;
  short = λ i one got.
      let it = come.each one (in_got text_of_name rows i one got) in
      let token = it.token in
      let name = text_is_few (text_of one.name) it.named.0 in
      omega (arith, token, name);
  few = let size = come.size in let most = come.few in omega (arith, size, most);
}

named_from : (rows : List CallerRow) → ((row : CallerRow) → In rows row → IsShort row) → AllByRecursion (λ (caller : CallerRow). IsId caller.name) rows
named_from [] each = tt
named_from (row ∷ rows) each = ((each row (inl refl)).named, named_from rows (λ other there. each other (inr there)))

all_of_file : (text : List ℕ) (rows : List CallerRow) → callers_of text ≡ Ok rows → (all : List CallerRow) × Come all rows
all_of_file text rows is = by (answer caller_list (records_of text)) refl is
  where
    by : (r : Result (List CallerRow) ListFault) → answer caller_list (records_of text) ≡ r → with_publisher r ≡ Ok rows → (all : List CallerRow) × Come all rows
    by (Err fault) answers has = absurd (cc has)
    by (Ok found) answers has = elim (cases_Bool (has_publisher found)) [
      | inl there ↦
          let h = rw there at has in
          let same : found ≡ rows = cc h in
          subst (λ (rows : List CallerRow). (all : List CallerRow) × Come all rows) same (all_answered (records_of text) found answers)
      | inr none ↦ absurd (let h = rw none at has in cc h)
    ]

pub callers_fit : (text : List ℕ) (rows : List CallerRow) → callers_of text ≡ Ok rows → AreFit rows
callers_fit text rows is = let it = all_of_file text rows is in fit_from it.0 rows it.1

-- each name is an id
pub callers_named : (text : List ℕ) (rows : List CallerRow) → callers_of text ≡ Ok rows → AllByRecursion (λ (caller : CallerRow). IsId caller.name) rows
callers_named text rows is = named_from rows (all_of_file text rows is).1.each
