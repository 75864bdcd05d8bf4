-- A bounded search finds every way: a way that comes to one SYSMOD twice can be cut short there.
use Rattle.std.proofs.Common.{◌≡◌, ◌↔◌, ℕ, zero, suc, ◌≤◌, ◌&&◌, ◌∙◌, Bool, true, List, [], ◌∷◌, length, is_some, Option, Some, None, inl, inr, refl, sym, arith}
use Rattle.std.specs.List.{Contains, find}
use Rattle.std.specs.Option.{IsSomeAnd}
use Rattle.std.specs.Str.{bytes_eq}
use Rattle.std.proofs.Math.Bool.{or-true}
use Rattle.std.proofs.lemmas.Bool.{cases_Bool, and_parts}
use Rattle.std.proofs.lemmas.List.{length-map}
use Rattle.std.proofs.lemmas.Slice.Eq.{bytes_eq-Decides}
use Rattle.zone_lists.specs.Installed.{is_installed_state, is_listed}
use Rattle.zone_lists.specs.declared.zones.ZoneRow.{ZoneRow}
use Rattle.zone_lists.proofs.EachFacts.{contains_from_in, in_from_contains}
use Rattle.catalogue.specs.Content.{Content, Supersedes, ids_in, ids_of, is_of, record_of}
use Rattle.catalogue.specs.declared.sysmod.Sysmod.{Sysmod}
use Rattle.supersede.specs.Giving.{gives, is_there, sup_of, supersedes_within}
use Rattle.supersede.specs.Leading.{Gives, IsThere, IsWay}
use Rattle.supersede.proofs.GivingFacts.{In, any_found, any_has, catalogued, same_self}
use Rattle.supersede.proofs.PathFacts.{AllSources, shorten}

module _ (content : Content) where
  -- ---- one step

  step_in : (from next : List ℕ) (found : Option Sysmod) → IsSomeAnd found (λ sysmod. Contains sysmod.sup next) → In (sup_of found) next
  step_in from next None none = absurd none
  step_in from next (Some sysmod) among = in_from_contains sysmod.sup next among

  in_step : (from next : List ℕ) (found : Option Sysmod) → In (sup_of found) next → IsSomeAnd found (λ sysmod. Contains sysmod.sup next)
  in_step from next None none = absurd none
  in_step from next (Some sysmod) among = contains_from_in sysmod.sup next among

  some_there : (found : Option Sysmod) (next : List ℕ) → IsSomeAnd found (λ sysmod. Contains sysmod.sup next) → is_some found ≡ true
  some_there None next none = absurd none
  some_there (Some sysmod) next among = refl

  -- an id that supersedes another is catalogued
  source_in : (from next : List ℕ) → Supersedes content from next → In (ids_of content) from
  source_in from next step = catalogued content.sysmods from (some_there (record_of content from) next step)

  -- ---- a search and ways

  pub record Way (from to : List ℕ) : Type 0 where
    pub list : List (List ℕ)
    pub leads : IsWay content from list to

  way_found : (n : ℕ) (from to : List ℕ) → supersedes_within content n from to ≡ true → Way from to
  way_found zero from to h = record { list = []; leads = (bytes_eq-Decides from to).0 h }
  way_found (suc n) from to h =
      elim (cases_Bool (bytes_eq from to)) [
        | inl same ↦ record { list = []; leads = (bytes_eq-Decides from to).0 same }
        | inr other ↦
            let next = any_found (λ next. supersedes_within content n next to) (sup_of (record_of content from)) (rw other at h) in
            let later = way_found n next.one to next.passes in
            record { list = next.one ∷ later.list; leads = (in_step from next.one (record_of content from) next.among, later.leads) }
      ]

  found_way : (n : ℕ) (from : List ℕ) (list : List (List ℕ)) (to : List ℕ) → IsWay content from list to → length list ≤ n → supersedes_within content n from to ≡ true
  found_way zero from [] to same short = (bytes_eq-Decides from to).1 same
  found_way (suc n) from [] to same short = rw ((bytes_eq-Decides from to).1 same) refl
  found_way zero from (next ∷ later) to way short = absurd (omega (arith, short))
  found_way (suc n) from (next ∷ later) to way short =
      let rest = found_way n next later to way.1 (omega (arith, short)) in
      let any = any_has (λ z. supersedes_within content n z to) (sup_of (record_of content from)) next (step_in from next (record_of content from) way.0) rest in
      rw any (or-true (bytes_eq from to))

  -- ---- where a way steps

  sources_in : (from : List ℕ) (list : List (List ℕ)) (to : List ℕ) → IsWay content from list to → AllSources (In (ids_of content)) from list
  sources_in from [] to way = tt
  sources_in from (next ∷ later) to way = (source_in from next way.0, sources_in next later to way.1)

  known : (sysmods : List Sysmod) (id : List ℕ) → In (ids_in sysmods) id → is_some (find (is_of id) sysmods) ≡ true
  known [] id none = absurd none
  known (s ∷ rest) id (inl same) = rw ((bytes_eq-Decides s.id id).1 same) refl
  known (s ∷ rest) id (inr later) =
      elim (cases_Bool (bytes_eq s.id id)) [ inl this ↦ rw this refl | inr other ↦ rw other (known rest id later) ]

  -- one id gives another exactly where it is catalogued and a list leads from it to the other
  pub gives_is : (giver id : List ℕ) → (gives content giver id ≡ true) ↔ Gives content giver id
  gives_is giver id = (
    λ h.
        let parts = and_parts (is_some (record_of content giver)) (supersedes_within content (length content.sysmods) giver id) h in
        let way = way_found (length content.sysmods) giver id parts.1 in
        record { catalogued = contains_from_in (ids_of content) giver (catalogued content.sysmods giver parts.0); way = way.list; leads = way.leads },
    λ g.
        let here = known content.sysmods giver (in_from_contains (ids_of content) giver g.catalogued) in
        let short =
        shorten (Supersedes content) (IsWay content) (λ from next later to way. way) (λ from next later to way. way) (length (ids_of content)) (ids_of content) (omega arith)
        giver g.way id g.leads (sources_in giver g.way id g.leads) in
        let as_many : length (ids_of content) ≡ length content.sysmods = length-map content.sysmods (λ sysmod. sysmod.id) in
        let few = short.short in
        let within = found_way (length content.sysmods) giver short.list id short.path (omega (arith, few, as_many)) in
        rw (here, within) refl,
  )

-- ---- what is there in a zone

pub there_is : (content : Content) (rows : List ZoneRow) (id : List ℕ) → (is_there content rows id ≡ true) ↔ IsThere content rows id
there_is content rows id = (
  λ h. elim (cases_Bool (is_listed rows id)) [
    | inl listed ↦ inl listed
    | inr other ↦
        let row = any_found (λ row. is_installed_state row.state && gives content row.sysmod id) rows (rw other at h) in
        let parts = and_parts (is_installed_state row.one.state) (gives content row.one.sysmod id) row.passes in
        inr (record {
          giver = row.one.sysmod;
          installed = any_has (λ r. bytes_eq r.sysmod row.one.sysmod && is_installed_state r.state) rows row.one row.among (rw (same_self row.one.sysmod, parts.0) refl);
          gives = (gives_is content row.one.sysmod id).0 parts.1;
        })
  ],
  λ there. elim there [
    | inl listed ↦ rw listed refl
    | inr by ↦
        let row = any_found (λ r. bytes_eq r.sysmod by.giver && is_installed_state r.state) rows by.installed in
        let parts = and_parts (bytes_eq row.one.sysmod by.giver) (is_installed_state row.one.state) row.passes in
        let is : row.one.sysmod ≡ by.giver = (bytes_eq-Decides row.one.sysmod by.giver).0 parts.0 in
        let it_gives : gives content row.one.sysmod id ≡ true = rw is ((gives_is content by.giver id).1 by.gives) in
        let any = any_has (λ r. is_installed_state r.state && gives content r.sysmod id) rows row.one row.among (rw (parts.1, it_gives) refl) in
        rw any (or-true (is_listed rows id))
  ],
)

pub there_leads : (content : Content) (rows : List ZoneRow) (id : List ℕ) (result : Bool) → result ≡ is_there content rows id → (result ≡ true) ↔ IsThere content rows id
there_leads content rows id result told = (λ h. (there_is content rows id).0 (sym told ∙ h), λ there. told ∙ (there_is content rows id).1 there)
