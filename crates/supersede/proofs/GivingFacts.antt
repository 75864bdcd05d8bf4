-- What is there in a zone, by the givers of an id.
use Rattle.std.proofs.Common.{◌≡◌, ◌⊎◌, ℕ, ◌&&◌, ◌||◌, ◌∙◌, Bool, true, List, [], ◌∷◌, filter, is_some, inl, inr, refl, sym, ap}
use Rattle.std.specs.Cmp.{both_ways}
use Rattle.std.specs.List.{find, list_any}
use Rattle.std.specs.Str.{bytes_eq}
use Rattle.std.proofs.lemmas.Bool.{cases_Bool, and_parts}
use Rattle.std.proofs.lemmas.Slice.Eq.{bytes_eq-Decides}
use Rattle.zone_lists.specs.Installed.{is_installed, is_installed_state, is_listed}
use Rattle.zone_lists.specs.declared.zones.ZoneRow.{ZoneRow}
use Rattle.catalogue.specs.Content.{Content, ids_in, ids_of, is_of, record_of}
use Rattle.catalogue.specs.declared.sysmod.Sysmod.{Sysmod}
use Rattle.supersede.specs.Giving.{gives, givers_of, is_there}

-- an element of a list, element by element
abbrev pub In : {X : Type 0} → List X → X → Type 0
In [] x = ⊥
In (y ∷ ys) x = (y ≡ x) ⊎ In ys x

-- an element that passes makes a test of any hold, and one that holds has such an element
pub any_has : {X : Type 0} → (p : X → Bool) (xs : List X) (x : X) → In xs x → p x ≡ true → list_any p xs ≡ true
any_has p [] x none h = absurd none
any_has p (y ∷ ys) x (inl same) h = let first : p y ≡ true = ap p same ∙ h in rw first refl
any_has p (y ∷ ys) x (inr later) h =
    elim (cases_Bool (p y)) [ inl first ↦ rw first refl | inr not_first ↦ rw not_first (any_has p ys x later h) ]

pub record Found {X : Type 0} (p : X → Bool) (xs : List X) : Type 0 where
  pub one : X
  pub among : In xs one
  pub passes : p one ≡ true

pub any_found : {X : Type 0} → (p : X → Bool) (xs : List X) → list_any p xs ≡ true → Found p xs
any_found p [] h = absurd (cc h)
any_found p (y ∷ ys) h =
    elim (cases_Bool (p y)) [
      | inl first ↦ record { one = y; among = inl refl; passes = first }
      | inr not_first ↦
          let rest = any_found p ys (rw not_first at h) in
          record { one = rest.one; among = inr rest.among; passes = rest.passes }
    ]

-- what a filter keeps
kept : {X : Type 0} → (p : X → Bool) (xs : List X) (x : X) → In xs x → p x ≡ true → In (filter p xs) x
kept p [] x none h = absurd none
kept p (y ∷ ys) x (inl same) h = let first : p y ≡ true = ap p same ∙ h in rw first (inl same)
kept p (y ∷ ys) x (inr later) h =
    elim (cases_Bool (p y)) [ inl first ↦ rw first (inr (kept p ys x later h)) | inr not_first ↦ rw not_first (kept p ys x later h) ]

passed : {X : Type 0} → (p : X → Bool) (xs : List X) (x : X) → In (filter p xs) x → p x ≡ true
passed p [] x none = absurd none
passed p (y ∷ ys) x h =
    elim (cases_Bool (p y)) [
      | inl first ↦ let g = rw first at h in elim g [ inl same ↦ ap p (sym same) ∙ first | inr later ↦ passed p ys x later ]
      | inr not_first ↦ passed p ys x (rw not_first at h)
    ]

-- a record that is found is that of an id among those catalogued
pub catalogued : (sysmods : List Sysmod) (id : List ℕ) → is_some (find (is_of id) sysmods) ≡ true → In (ids_in sysmods) id
catalogued [] id h = absurd (cc h)
catalogued (s ∷ rest) id h =
    elim (cases_Bool (bytes_eq s.id id)) [
      | inl same ↦ inl ((bytes_eq-Decides s.id id).0 same)
      | inr other ↦ inr (catalogued rest id (rw other at h))
    ]

pub same_self : (id : List ℕ) → bytes_eq id id ≡ true
same_self id = (bytes_eq-Decides id id).1 refl

-- an installed row that gives an id is an installed giver of it
by_givers : (content : Content) (rows : List ZoneRow) (id : List ℕ)
    → list_any (λ giver. is_installed rows giver) (givers_of content id) ≡ list_any (λ row. is_installed_state row.state && gives content row.sysmod id) rows
by_givers content rows id =
    both_ways _ _ (λ h.
    let giver = any_found (λ giver. is_installed rows giver) (givers_of content id) h in
    let gives_it = passed (λ giver. gives content giver id) (ids_of content) giver.one giver.among in
    let row = any_found (λ row. bytes_eq row.sysmod giver.one && is_installed_state row.state) rows giver.passes in
    let parts = and_parts (bytes_eq row.one.sysmod giver.one) (is_installed_state row.one.state) row.passes in
    let is : row.one.sysmod ≡ giver.one = (bytes_eq-Decides row.one.sysmod giver.one).0 parts.0 in
    let it_gives : gives content row.one.sysmod id ≡ true = rw is gives_it in
    any_has (λ row. is_installed_state row.state && gives content row.sysmod id) rows row.one row.among (rw (parts.1, it_gives) refl)
    ) (λ h.
    let row = any_found (λ row. is_installed_state row.state && gives content row.sysmod id) rows h in
    let parts = and_parts (is_installed_state row.one.state) (gives content row.one.sysmod id) row.passes in
    let is_known = and_parts (is_some (record_of content row.one.sysmod)) _ parts.1 in
    let among = kept (λ giver. gives content giver id) (ids_of content) row.one.sysmod (catalogued content.sysmods row.one.sysmod is_known.0) parts.1 in
    any_has (λ giver. is_installed rows giver) (givers_of content id) row.one.sysmod among (
    any_has (λ r. bytes_eq r.sysmod row.one.sysmod && is_installed_state r.state) rows row.one row.among (rw (same_self row.one.sysmod, parts.0) refl)
    )
    )

pub there_by_givers : (content : Content) (rows : List ZoneRow) (id : List ℕ) (givers : List (List ℕ)) → givers ≡ givers_of content id
    → (is_listed rows id || list_any (λ giver. is_installed rows giver) givers) ≡ is_there content rows id
there_by_givers content rows id givers are = rw are (ap (λ b. is_listed rows id || b) (by_givers content rows id))
