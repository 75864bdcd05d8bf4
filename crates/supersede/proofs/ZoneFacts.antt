-- Looking for a SYSMOD by halves among rows that ascend.
use Rattle.std.proofs.Common.{◌≡◌, ℕ, zero, suc, ◌<◌, ◌∙◌, Bool, true, false, List, [], ◌∷◌, length, map, get_or, is_some, Option, Some, None, Err, inl, inr, refl, sym, ap, arith}
use Rattle.std.specs.Cmp.Lexicographic.{slice_cmp, nat_list_cmp_total}
use Rattle.std.specs.List.{AllByRecursion}
use Rattle.std.specs.List.Sorted.{IsBinarySearchResult, IsStrictlySortedBy}
use Rattle.std.specs.Ordering.{is_eq, nat_cmp, ordering_reverse}
use Rattle.std.specs.Str.{bytes_eq}
use Rattle.std.specs.declared.cmp.Ordering.{Ordering}
use Rattle.std.specs.declared.cmp.Ordering.TheVariants.{Less, Equal, Greater}
use Rattle.std.proofs.Math.Bool.{or-false}
use Rattle.std.proofs.lemmas.Bool.{cases_Bool, cases_lt}
use Rattle.std.proofs.lemmas.Map.Text.{is_eq-slice_cmp}
use Rattle.std.proofs.lemmas.Slice.Eq.{bytes_eq-Decides}
use Rattle.zone_lists.specs.Installed.{is_installed, is_installed_state, is_listed}
use Rattle.zone_lists.specs.ZoneList.{RowsAscend}
use Rattle.zone_lists.specs.declared.zones.ZoneRow.{ZoneRow}
use Rattle.zone_lists.specs.declared.zones.ZoneState.{ZoneState}
use Rattle.supersede.specs.Zone.{state_in}
use Rattle.supersede.proofs.SearchFacts.{at_index, rises}

-- the order of ids
abbrev cmp : List ℕ → List ℕ → Ordering
cmp a b = slice_cmp nat_cmp a b

-- two ids are the same where they compare so
same_by : (a b : List ℕ) (o : Ordering) → cmp a b ≡ o → bytes_eq a b ≡ is_eq o
same_by a b o is = sym (is_eq-slice_cmp a b) ∙ ap is_eq is

-- ---- the row of an id

none_has : (rows : List ZoneRow) (id : List ℕ) → ((k : ℕ) (d : ZoneRow) → k < length rows → bytes_eq (get_or rows k d).sysmod id ≡ false) → state_in rows id ≡ None
none_has [] id differ = refl
none_has (row ∷ rows) id differ = rw (differ zero row (omega arith)) (none_has rows id (λ k d within. differ (suc k) d (omega arith)))

-- a row before that of an id is another one
before_differs : (a b id : List ℕ) → cmp a b ≡ Less → bytes_eq b id ≡ true → bytes_eq a id ≡ false
before_differs a b id below same = let is : b ≡ id = (bytes_eq-Decides b id).0 same in same_by a id Less (rw (← is) below)

has_at : (rows : List ZoneRow) (id : List ℕ) (k : ℕ) (d : ZoneRow) → RowsAscend rows → k < length rows → bytes_eq (get_or rows k d).sysmod id ≡ true → state_in rows id ≡ Some (get_or rows k d).state
unfolding IsStrictlySortedBy
has_at [] id k d ascend within same = absurd (omega arith)
has_at (row ∷ rows) id zero d ascend within same = rw same refl
has_at (row ∷ rows) id (suc k) d ascend within same =
    let other : bytes_eq row.sysmod id ≡ false = before_differs row.sysmod (get_or rows k d).sysmod id (at_index (λ row. row.sysmod) (λ other. cmp row.sysmod other ≡ Less) rows ascend.0 k d (omega arith)) same in
    rw other (has_at rows id k d ascend.1 (omega arith) same)

-- a search by halves that found an index
pub found_at : (rows : List ZoneRow) (id : List ℕ) (k : ℕ) (d : ZoneRow) → RowsAscend rows → k < length rows → ((e : ZoneRow) → cmp (get_or rows k e).sysmod id ≡ Equal) → state_in rows id ≡ Some (get_or rows k d).state
found_at rows id k d ascend within equal = has_at rows id k d ascend within (same_by (get_or rows k d).sysmod id Equal (equal d))

-- a search by halves that found none
pub not_found : (rows : List ZoneRow) (id : List ℕ) (at : ℕ) → RowsAscend rows → IsBinarySearchResult (λ row. cmp row.sysmod id) rows (Err at) → state_in rows id ≡ None
not_found rows id at ascend parted =
    let parts = parted (rises (λ row. row.sysmod) rows id ascend) in
    none_has rows id (λ k d within. elim (cases_lt k at) [
      | inl below ↦ same_by (get_or rows k d).sysmod id Less (parts.0 k d (omega arith) below)
      | inr from ↦ same_by (get_or rows k d).sysmod id Greater (parts.1 k d from within)
    ])

-- ---- listed and installed

pub listed_by_state : (rows : List ZoneRow) (id : List ℕ) → is_some (state_in rows id) ≡ is_listed rows id
listed_by_state [] id = refl
listed_by_state (row ∷ rows) id =
    elim (cases_Bool (bytes_eq row.sysmod id)) [
      | inl same ↦ rw same refl
      | inr other ↦ rw other (listed_by_state rows id)
    ]

-- whether a state, if there is one, stands for an installed SYSMOD
abbrev pub is_in : Option ZoneState → Bool
is_in None = false
is_in (Some state) = is_installed_state state

none_later : (rows : List ZoneRow) (row : ZoneRow) (id : List ℕ) → bytes_eq row.sysmod id ≡ true → AllByRecursion (λ other. cmp row.sysmod other ≡ Less) (map (λ r. r.sysmod) rows) → is_installed rows id ≡ false
none_later [] row id same below = refl
none_later (r ∷ rows) row id same below =
    let is : row.sysmod ≡ id = (bytes_eq-Decides row.sysmod id).0 same in
    let less : cmp id r.sysmod ≡ Less = rw is at below.0 in
    let more : cmp r.sysmod id ≡ Greater = nat_list_cmp_total.antisymm r.sysmod id ∙ ap ordering_reverse less in
    rw (same_by r.sysmod id Greater more) (none_later rows row id same below.1)

pub installed_by_state : (rows : List ZoneRow) (id : List ℕ) → RowsAscend rows → is_in (state_in rows id) ≡ is_installed rows id
unfolding IsStrictlySortedBy
installed_by_state [] id ascend = refl
installed_by_state (row ∷ rows) id ascend =
    elim (cases_Bool (bytes_eq row.sysmod id)) [
      | inl same ↦ rw (same, none_later rows row id same ascend.0) (sym (or-false (is_installed_state row.state)))
      | inr other ↦ rw other (installed_by_state rows id ascend.1)
    ]
