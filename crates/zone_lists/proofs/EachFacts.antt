-- An answer has the entries that the records stand for, and no others.
use Rattle.std.proofs.Common.{◌≡◌, ◌∙◌, ◌⊎◌, ◌↔◌, Bool, false, List, [], ◌∷◌, ◌++◌, length, Result, Ok, Err, inl, inr, refl, sym, ap, arith, nat_le}
use Rattle.std.specs.BTreeSet.{insert_key}
use Rattle.std.specs.List.{Contains, list_any}
use Rattle.std.specs.Ordering.{match_ordering}
use Rattle.std.specs.declared.cmp.Ordering.{Ordering}
use Rattle.std.specs.declared.cmp.Ordering.TheVariants.{Less, Equal, Greater}
use Rattle.std.proofs.lemmas.Bool.{cases_Bool, or_parts}
use Rattle.std.proofs.lemmas.List.Elements.{Contains-append_cases, Contains-append_left, Contains-append_right, Contains-push, Contains-push_cases}
use Rattle.zone_lists.specs.Fields.{Record}
use Rattle.zone_lists.specs.Lists.{AnyStandsFor, IsListed, ListKind, Numbered, answer, in_order}
use Rattle.zone_lists.specs.declared.fault.ListFault.{ListFault}
use Rattle.zone_lists.proofs.ListFacts.{answer_after, answer_read, after, go_on, in_order_more, next_entry}

-- an element of a list, element by element
abbrev pub In : {X : Type 0} → List X → X → Type 0
In [] x = ⊥
In (y ∷ ys) x = (y ≡ x) ⊎ In ys x

none_in_nil : {X : Type 0} → (x : X) → Contains [] x → ⊥
none_in_nil x h = omega (arith, h.1)

pub in_from_contains : {X : Type 0} → (xs : List X) (x : X) → Contains xs x → In xs x
in_from_contains [] x h = none_in_nil x h
in_from_contains (y ∷ ys) x h =
    elim (Contains-append_cases (y ∷ []) ys x h) [
      | inl first ↦ elim (Contains-push_cases [] y x first) [ inl none ↦ absurd (none_in_nil x none) | inr same ↦ inl same ]
      | inr later ↦ inr (in_from_contains ys x later)
    ]

pub contains_from_in : {X : Type 0} → (xs : List X) (x : X) → In xs x → Contains xs x
contains_from_in (y ∷ ys) x (inl same) = rw same (Contains-append_left (x ∷ []) ys x (Contains-push [] x))
contains_from_in (y ∷ ys) x (inr later) = Contains-append_right (y ∷ []) ys x (contains_from_in ys x later)
contains_from_in [] x none = absurd none

in_append_cases : {X : Type 0} → (xs : List X) (y x : X) → In (xs ++ y ∷ []) x → In xs x ⊎ (y ≡ x)
in_append_cases [] y x (inl same) = inr same
in_append_cases [] y x (inr none) = absurd none
in_append_cases (z ∷ zs) y x (inl same) = inl (inl same)
in_append_cases (z ∷ zs) y x (inr later) = elim (in_append_cases zs y x later) [ inl old ↦ inl (inr old) | inr same ↦ inr same ]

in_append_left : {X : Type 0} → (xs : List X) (y x : X) → In xs x → In (xs ++ y ∷ []) x
in_append_left [] y x none = absurd none
in_append_left (z ∷ zs) y x (inl same) = inl same
in_append_left (z ∷ zs) y x (inr later) = inr (in_append_left zs y x later)

in_append_last : {X : Type 0} → (xs : List X) (y : X) → In (xs ++ y ∷ []) y
in_append_last [] y = inl refl
in_append_last (z ∷ zs) y = inr (in_append_last zs y)

-- ---- an entry put where it belongs

module _ {X : Type 0} (order : X → X → Ordering) where
  pub put_cases : (xs : List X) (k x : X) → In (insert_key order xs k) x → In xs x ⊎ (k ≡ x)
  put_cases [] k x (inl same) = inr same
  put_cases [] k x (inr none) = absurd none
  put_cases (y ∷ ys) k x h =
      elim (order k y) as (λ o. In (match_ordering o (k ∷ y ∷ ys) (y ∷ ys) (y ∷ insert_key order ys k)) x → In (y ∷ ys) x ⊎ (k ≡ x)) [
        | Less ↦ λ h. elim h [ inl same ↦ inr same | inr old ↦ inl old ]
        | Equal ↦ λ h. inl h
        | Greater ↦ λ h. elim h [ inl same ↦ inl (inl same) | inr later ↦ elim (put_cases ys k x later) [ inl old ↦ inl (inr old) | inr same ↦ inr same ] ]
      ] h

  put_keeps : (xs : List X) (k x : X) → In xs x → In (insert_key order xs k) x
  put_keeps [] k x none = absurd none
  put_keeps (y ∷ ys) k x h =
      elim (order k y) as (λ o. In (match_ordering o (k ∷ y ∷ ys) (y ∷ ys) (y ∷ insert_key order ys k)) x) [
        | Less ↦ inr h
        | Equal ↦ h
        | Greater ↦ elim h [ inl same ↦ inl same | inr later ↦ inr (put_keeps ys k x later) ]
      ]

  put_has : (xs : List X) (k : X) → ((x : X) → In xs x → order k x ≡ Equal → x ≡ k) → In (insert_key order xs k) k
  put_has [] k exact = inl refl
  put_has (y ∷ ys) k exact =
      elim (order k y) as (λ o. order k y ≡ o → In (match_ordering o (k ∷ y ∷ ys) (y ∷ ys) (y ∷ insert_key order ys k)) k) [
        | Less ↦ λ e. inl refl
        | Equal ↦ λ e. inl (exact y (inl refl) e)
        | Greater ↦ λ e. inr (put_has ys k (λ x h. exact x (inr h)))
      ] refl

-- none of these passes a test, so no element of them does
none_passes : {X : Type 0} → (test : X → Bool) (xs : List X) (x : X) → list_any test xs ≡ false → In xs x → test x ≡ false
none_passes test [] x none h = absurd h
none_passes test (y ∷ ys) x none (inl same) = rw (← same) ((or_parts (test y) (list_any test ys) none).0)
none_passes test (y ∷ ys) x none (inr later) = none_passes test ys x ((or_parts (test y) (list_any test ys) none).1) later

module _ {Entry : Type 0} (kind : ListKind Entry) where
  -- what an entry after others tells: it stands there by itself, and contradicts none
  after_ok : (earlier : List Entry) (r : Result Entry Numbered) (entry : Entry) → after kind earlier r ≡ Ok entry → (r ≡ Ok entry) × (list_any (kind.contradicts entry) earlier ≡ false)
  after_ok earlier (Err fault) entry h = absurd (cc)
  after_ok earlier (Ok e) entry h =
      elim (cases_Bool (list_any (kind.contradicts e) earlier)) [
        | inl some ↦ absurd (let g = rw some at h in cc g)
        | inr none ↦ let g = rw none at h in let same : e ≡ entry = cc g in (ap (λ v. Ok v) same, rw (← same) none)
      ]

  next_ok : (earlier : List Entry) (fields : Record) (entry : Entry) → next_entry kind earlier fields ≡ Ok entry
      → (kind.entry fields ≡ Ok entry) × (list_any (kind.contradicts entry) earlier ≡ false)
  next_ok earlier fields entry h =
      elim (cases_Bool (nat_le kind.limit (length earlier))) [
        | inl full ↦ absurd (let g = rw full at h in cc g)
        | inr room ↦ after_ok earlier (kind.entry fields) entry (rw room at h)
      ]

  -- the entries of earlier records, put in order, are these entries
  abbrev Same : List Entry → Type 0
  Same earlier = (x : Entry) → (In (in_order kind earlier) x → In earlier x) × (In earlier x → In (in_order kind earlier) x)

  -- an entry that ties with another contradicts it, or is the same
  abbrev pub IsExact : Type 0
  IsExact = (a b : Entry) → kind.order a b ≡ Equal → kind.contradicts a b ≡ false → b ≡ a

  same_more : IsExact → (earlier : List Entry) (entry : Entry) → Same earlier → list_any (kind.contradicts entry) earlier ≡ false → Same (earlier ++ entry ∷ [])
  same_more exact earlier entry same none x = (
    λ h. elim (put_cases kind.order (in_order kind earlier) entry x (rw (in_order_more kind earlier entry) at h)) [
      | inl old ↦ in_append_left earlier entry x ((same x).0 old)
      | inr new ↦ rw (← new) (in_append_last earlier entry)
    ],
    λ h. rw (in_order_more kind earlier entry) (
        elim (in_append_cases earlier entry x h) [
          | inl old ↦ put_keeps kind.order (in_order kind earlier) entry x ((same x).1 old)
          | inr new ↦ rw (← new) (
              put_has kind.order (in_order kind earlier) entry (λ y there at. exact entry y at (none_passes (kind.contradicts entry) earlier y none ((same y).0 there)))
              )
        ]
        ),
  )

  each_step : IsExact → (earlier : List Entry) (fields : Record) (rest : List Record) (all : List Entry) → Same earlier
      → ((earlier : List Entry) → Same earlier → answer_after kind earlier rest ≡ Ok all → (x : Entry) → (In all x → In earlier x ⊎ AnyStandsFor kind rest x) × (In earlier x ⊎ AnyStandsFor kind rest x → In all x))
      → (o : Result Entry ListFault) → next_entry kind earlier fields ≡ o → go_on kind (λ entry. answer_after kind (earlier ++ entry ∷ []) rest) o ≡ Ok all
      → (x : Entry) → (In all x → In earlier x ⊎ AnyStandsFor kind (fields ∷ rest) x) × (In earlier x ⊎ AnyStandsFor kind (fields ∷ rest) x → In all x)
  each_step exact earlier fields rest all same more (Err fault) next answers x = absurd (cc answers)
  each_step exact earlier fields rest all same more (Ok entry) next answers x =
      let (is, none) = next_ok earlier fields entry next in
      let found = more (earlier ++ entry ∷ []) (same_more exact earlier entry same none) answers x in (
        λ h. elim (found.0 h) [
          | inl seen ↦ elim (in_append_cases earlier entry x seen) [ inl old ↦ inl old | inr new ↦ inr (inl (rw (← new) is)) ]
          | inr later ↦ inr (inr later)
        ],
        λ h. elim h [
          | inl old ↦ found.1 (inl (in_append_left earlier entry x old))
          | inr among ↦ elim among [
            | inl stands ↦ found.1 (inl (let one : entry ≡ x = cc (is, stands) in rw (← one) (in_append_last earlier entry)))
            | inr later ↦ found.1 (inr later)
          ]
        ],
      )

  each_after : IsExact → (earlier : List Entry) (records : List Record) (all : List Entry) → Same earlier → answer_after kind earlier records ≡ Ok all
      → (x : Entry) → (In all x → In earlier x ⊎ AnyStandsFor kind records x) × (In earlier x ⊎ AnyStandsFor kind records x → In all x)
  each_after exact earlier [] all same answers x =
      let is : in_order kind earlier ≡ all = cc answers in
      (λ h. inl ((same x).0 (rw is h)), λ h. elim h [ inl old ↦ rw (← is) ((same x).1 old) | inr none ↦ absurd none ])
  each_after exact earlier (fields ∷ rest) all same answers x =
      each_step exact earlier fields rest all same (λ before same2 answers2 y. each_after exact before rest all same2 answers2 y) (next_entry kind earlier fields) refl answers x

  each_from : IsExact → (records : List Record) (all : List Entry) → answer kind records ≡ Ok all → (x : Entry) → (In all x → IsListed kind records x) × (IsListed kind records x → In all x)
  each_from exact [] all answers x = absurd (cc answers)
  each_from exact (header ∷ rest) all answers x =
      elim (cases_Bool (kind.is_header header)) [
        | inl is ↦
            let found = each_after exact [] rest all (λ y. (λ h. h, λ h. h)) (sym (answer_read kind header rest is) ∙ answers) x in
            (λ h. elim (found.0 h) [ inl none ↦ absurd none | inr later ↦ later ], λ h. found.1 (inr h))
        | inr other ↦ absurd (let g = rw other at answers in cc g)
      ]

  -- the entries of an answer are those that the records after the header stand for
  pub each : IsExact → (records : List Record) (all : List Entry) → answer kind records ≡ Ok all → (x : Entry) → Contains all x ↔ IsListed kind records x
  each exact records all answers x =
      let found = each_from exact records all answers x in
      (λ h. found.0 (in_from_contains all x h), λ h. contains_from_in all x (found.1 h))
