-- The fault that a list is refused for is the first one of the first record that has any.
use Rattle.std.proofs.Common.{◌≡◌, ◌⊎◌, ◌≤◌, ◌<◌, ℕ, ◌+◌, ◌∙◌, true, false, List, [], ◌∷◌, ◌++◌, length, Some, None, Result, Ok, Err, inl, inr, refl, sym, ap, arith, nat_le, append_assoc}
use Rattle.std.specs.List.{cons_option, list_any}
use Rattle.std.specs.Option.{option_or}
use Rattle.std.specs.Result.{result_ok}
use Rattle.std.proofs.lemmas.Bool.{cases_Bool, or_parts}
use Rattle.std.proofs.lemmas.Bool.Decides.{nat_tests}
use Rattle.faults.specs.Refusal.{IsRefusal}
use Rattle.zone_lists.specs.Fields.{Record}
use Rattle.zone_lists.specs.FirstFault.{AreFaultless, IsFaultAfter, IsFirstFault, turn}
use Rattle.zone_lists.specs.Lists.{AnyStandsFor, Contradicts, ListKind, Numbered, answer, entries, fault_after, first_fault, own_fault, unless}
use Rattle.zone_lists.specs.declared.fault.ListFault.{ListFault}
use Rattle.zone_lists.specs.declared.fault.ListFault.TheVariants.{Header, Memory, Repeated, TooMany}

-- what a record is read as agrees with what is wrong with it by itself
abbrev pub Tells : {Entry : Type 0} → (ℕ → ListFault → Type 0) → Result Entry Numbered → Type 0
Tells IsOwn (Ok entry) = (n : ℕ) (fault : ListFault) → IsOwn n fault → ⊥
Tells IsOwn (Err told) =
    (n : ℕ) → IsOwn n (told n) × ((other : ListFault) → IsOwn n other → turn (told n) ≤ turn other) × (1 < turn (told n)) × (turn (told n) < 6)

-- ---- lists

nil_is_no_more : {X : Type 0} (xs : List X) (x : X) (rest : List X) → [] ≡ xs ++ x ∷ rest → ⊥
nil_is_no_more [] x rest e = cc e
nil_is_no_more (y ∷ ys) x rest e = cc e

-- one more element is the last of two parts, or stands within the second
split_last : {X : Type 0} (xs ys : List X) (x y : X) (rest : List X) → xs ++ x ∷ [] ≡ ys ++ y ∷ rest → ((ys ≡ xs) × (y ≡ x)) ⊎ ((more : List X) × (xs ≡ ys ++ y ∷ more))
split_last [] [] x y rest e = inl (refl, cc e)
split_last [] (b ∷ bs) x y rest e = absurd (nil_is_no_more bs y rest (cc e))
split_last (a ∷ as_) [] x y rest e = inr (as_, cc e)
split_last (a ∷ as_) (b ∷ bs) x y rest e =
    let head : a ≡ b = cc e in
    let tail : as_ ++ x ∷ [] ≡ bs ++ y ∷ rest = cc e in
    elim (split_last as_ bs x y rest tail) [
      | inl same ↦ inl (cc (head, same.0), same.1)
      | inr later ↦ inr (later.0, cc (head, later.1))
    ]

module _ {Entry : Type 0} (kind : ListKind Entry) (IsOwnFault : ℕ → Record → ListFault → Type 0) (tells : (fields : Record) → Tells (λ n fault. IsOwnFault n fields fault) (kind.entry fields)) where
  -- ---- contradictions

  found : (entry : Entry) (earlier : List Record) → list_any (kind.contradicts entry) (entries kind earlier) ≡ true
      → (other : Entry) × AnyStandsFor kind earlier other × (kind.contradicts entry other ≡ true)
  found entry [] none = absurd (cc none)
  found entry (r ∷ rs) any =
      elim (kind.entry r) as (λ v. kind.entry r ≡ v → list_any (kind.contradicts entry) (cons_option (result_ok v) (entries kind rs)) ≡ true → (other : Entry) × AnyStandsFor kind (r ∷ rs) other × (kind.contradicts entry other ≡ true)) [
        | Ok e ↦ λ is any. elim (cases_Bool (kind.contradicts entry e)) [
          | inl it ↦ (e, inl is, it)
          | inr differ ↦ let (other, stands, it) = found entry rs (rw differ at any) in (other, inr stands, it)
        ]
        | Err f ↦ λ is any. let (other, stands, it) = found entry rs any in (other, inr stands, it)
      ] refl any

  none_found : (entry other : Entry) (earlier : List Record) → list_any (kind.contradicts entry) (entries kind earlier) ≡ false → AnyStandsFor kind earlier other → kind.contradicts entry other ≡ true → ⊥
  none_found entry other [] none stands it = absurd stands
  none_found entry other (r ∷ rs) none stands it =
      elim (kind.entry r) as (λ v. kind.entry r ≡ v → list_any (kind.contradicts entry) (cons_option (result_ok v) (entries kind rs)) ≡ false → ⊥) [
        | Ok e ↦ λ is none.
            let parts = or_parts (kind.contradicts entry e) (list_any (kind.contradicts entry) (entries kind rs)) none in
            elim stands [
              | inl this ↦ let same : e ≡ other = cc (is, this) in let no : kind.contradicts entry other ≡ false = rw (← same) parts.0 in cc (no, it)
              | inr later ↦ none_found entry other rs parts.1 later it
            ]
        | Err f ↦ λ is none. elim stands [
          | inl this ↦ absurd (cc (is, this))
          | inr later ↦ none_found entry other rs none later it
        ]
      ] refl none

  -- ---- the faults of one record

  -- a record with no fault in the definition has none at all
  no_own : (earlier : List Record) (fields : Record) (r : Result Entry Numbered) → kind.entry fields ≡ r → Tells (λ n fault. IsOwnFault n fields fault) r
      → own_fault kind (length earlier + 1) (entries kind earlier) r ≡ None → (fault : ListFault)
      → IsOwnFault (length earlier + 1) fields fault ⊎ ((fault ≡ Repeated (length earlier + 1)) × Contradicts kind earlier fields) → ⊥
  no_own earlier fields (Err f) is own none fault has = absurd (cc none)
  no_own earlier fields (Ok e) is own none fault (inl its) = own (length earlier + 1) fault its
  no_own earlier fields (Ok e) is own none fault (inr again) =
      let (entry, other, stands, among, it) = again.1 in
      elim (cases_Bool (list_any (kind.contradicts e) (entries kind earlier))) [
        | inl some ↦ absurd (let g = rw some at none in cc g)
        | inr differ ↦ let same : e ≡ entry = cc (is, stands) in none_found e other earlier differ among (rw same it)
      ]

  faultless : (earlier : List Record) (fields : Record) → fault_after kind earlier fields ≡ None → (fault : ListFault) → IsFaultAfter kind IsOwnFault earlier fields fault → ⊥
  faultless earlier fields none fault has =
      elim (cases_Bool (nat_le kind.limit (length earlier))) [
        | inl full ↦ absurd (let g = rw full at none in cc g)
        | inr room ↦
            elim has [
              | inl beyond ↦ let over = beyond.1 in absurd (let no : nat_le kind.limit (length earlier) ≡ true = grind (arith, nat_tests, over) in cc (room, no))
              | inr other ↦ no_own earlier fields (kind.entry fields) refl (tells fields) (rw room at none) fault other
            ]
      ]

  -- the fault that the definition tells is one of the record's, and none of its others comes before it
  abbrev IsLowest : List Record → Record → ListFault → Type 0
  IsLowest earlier fields fault =
      IsFaultAfter kind IsOwnFault earlier fields fault × ((other : ListFault) → IsFaultAfter kind IsOwnFault earlier fields other → turn fault ≤ turn other)

  own_turn : (n : ℕ) (fields : Record) (r : Result Entry Numbered) → Tells (λ n fault. IsOwnFault n fields fault) r → (fault : ListFault) → IsOwnFault n fields fault → 1 < turn fault
  own_turn n fields (Ok e) own fault its = absurd (own n fault its)
  own_turn n fields (Err f) own fault its = let (is, least, low, high) = own n in let below = least fault its in omega (arith, below, low)

  lowest_full : (earlier : List Record) (fields : Record) → nat_le kind.limit (length earlier) ≡ true → IsLowest earlier fields TooMany
  lowest_full earlier fields full = (
    inl (refl, grind (arith, nat_tests, full)),
    λ other has. elim has [
      | inl same ↦ rw same.0 (omega arith)
      | inr rest ↦ elim rest [
        | inl its ↦ let above = own_turn (length earlier + 1) fields (kind.entry fields) (tells fields) other its in omega (arith, above)
        | inr again ↦ rw again.0 (omega arith)
      ]
    ],
  )

  lowest_own : (earlier : List Record) (fields : Record) (r : Result Entry Numbered) → nat_le kind.limit (length earlier) ≡ false → kind.entry fields ≡ r → Tells (λ n fault. IsOwnFault n fields fault) r
      → (fault : ListFault) → own_fault kind (length earlier + 1) (entries kind earlier) r ≡ Some fault → IsLowest earlier fields fault
  lowest_own earlier fields (Err f) room is own fault has =
      let same : f (length earlier + 1) ≡ fault = cc has in
      let (its, least, low, high) = own (length earlier + 1) in
      rw (← same) (
        inr (inl its),
        λ other any. elim any [
          | inl beyond ↦ let over = beyond.1 in absurd (let no : nat_le kind.limit (length earlier) ≡ true = grind (arith, nat_tests, over) in cc (room, no))
          | inr rest ↦ elim rest [
            | inl also ↦ least other also
            | inr again ↦ rw again.0 (omega (arith, high))
          ]
        ],
      )
  lowest_own earlier fields (Ok e) room is own fault has =
      elim (cases_Bool (list_any (kind.contradicts e) (entries kind earlier))) [
        | inr none ↦ absurd (let g = rw none at has in cc g)
        | inl some ↦
            let g = rw some at has in
            let same : Repeated (length earlier + 1) ≡ fault = cc g in
            let (other, stands, it) = found e earlier some in
            rw (← same) (
              inr (inr (refl, (e, other, is, stands, it))),
              λ fault any. elim any [
                | inl beyond ↦ let over = beyond.1 in absurd (let no : nat_le kind.limit (length earlier) ≡ true = grind (arith, nat_tests, over) in cc (room, no))
                | inr rest ↦ elim rest [
                  | inl also ↦ absurd (own (length earlier + 1) fault also)
                  | inr again ↦ rw again.0 (omega arith)
                ]
              ],
            )
      ]

  lowest : (earlier : List Record) (fields : Record) (fault : ListFault) → fault_after kind earlier fields ≡ Some fault → IsLowest earlier fields fault
  lowest earlier fields fault has =
      elim (cases_Bool (nat_le kind.limit (length earlier))) [
        | inl full ↦ let g = rw full at has in let same : TooMany ≡ fault = cc g in rw (← same) (lowest_full earlier fields full)
        | inr room ↦ lowest_own earlier fields (kind.entry fields) room refl (tells fields) fault (rw room at has)
      ]

  -- ---- all records

  clean_none : AreFaultless kind IsOwnFault []
  clean_none earlier fields rest fault whole has = nil_is_no_more earlier fields rest whole

  clean_more : (earlier : List Record) (fields : Record) → AreFaultless kind IsOwnFault earlier → fault_after kind earlier fields ≡ None → AreFaultless kind IsOwnFault (earlier ++ fields ∷ [])
  clean_more earlier fields clean none before this rest fault whole has =
      elim (split_last earlier before fields this rest whole) [
        | inl same ↦ faultless earlier fields none fault (rw (← same.0, ← same.1) has)
        | inr later ↦ clean before this later.0 fault later.1 has
      ]

  -- the first record with a fault, and what stands before and after it
  abbrev Splits : List Record → ListFault → Type 0
  Splits records fault = (before : List Record) × (fields : Record) × (after : List Record)
      × (records ≡ before ++ fields ∷ after) × AreFaultless kind IsOwnFault before × IsLowest before fields fault

  splits : (earlier rest : List Record) (fault : ListFault) → AreFaultless kind IsOwnFault earlier → first_fault kind earlier rest ≡ Some fault → Splits (earlier ++ rest) fault
  splits earlier [] fault clean has = absurd (cc has)
  splits earlier (fields ∷ rest) fault clean has =
      elim (fault_after kind earlier fields) as (λ o. fault_after kind earlier fields ≡ o → option_or o (first_fault kind (earlier ++ fields ∷ []) rest) ≡ Some fault → Splits (earlier ++ fields ∷ rest) fault) [
        | Some told ↦ λ is has. let same : told ≡ fault = cc has in (earlier, fields, rest, refl, clean, lowest earlier fields fault (is ∙ ap (λ f. Some f) same))
        | None ↦ λ is has.
            let later = splits (earlier ++ fields ∷ []) rest fault (clean_more earlier fields clean is) has in
            (later.0, later.1, later.2, sym (append_assoc earlier (fields ∷ []) rest) ∙ later.3, later.4, later.5)
      ] refl has

  -- the first fault of an answer
  pub first : (records : List Record) (fault : ListFault) → answer kind records ≡ Err fault → IsFirstFault kind IsOwnFault records fault
  first [] fault answers = inl (let same : Header ≡ fault = cc answers in sym same, refl)
  first (header ∷ rest) fault answers =
      elim (cases_Bool (kind.is_header header)) [
        | inr other ↦ let g = rw other at answers in inl (let same : Header ≡ fault = cc g in sym same, other)
        | inl is ↦
            elim (first_fault kind [] rest) as (λ o. first_fault kind [] rest ≡ o → unless kind o (entries kind rest) ≡ Err fault → IsFirstFault kind IsOwnFault (header ∷ rest) fault) [
              | None ↦ λ none g. absurd (cc g)
              | Some told ↦ λ has g.
                  let same : told ≡ fault = cc g in
                  let at = splits [] rest fault clean_none (has ∙ ap (λ f. Some f) same) in
                  inr (record { header = header; earlier = at.0; fields = at.1; rest = at.2; whole = ap (λ records. header ∷ records) at.3; headed = is; faultless = at.4; own = at.5.0; first = at.5.1 })
            ] refl (rw is at answers)
      ]

  -- the fault of a refusal is the first, unless memory ran out
  pub first_or_memory : (records : List Record) (fault : ListFault) → IsRefusal Memory (λ told. answer kind records ≡ Err told) fault → IsRefusal Memory (IsFirstFault kind IsOwnFault records) fault
  first_or_memory records fault (inl memory) = inl memory
  first_or_memory records fault (inr told) = inr (first records fault told)
