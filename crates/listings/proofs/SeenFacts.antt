-- What is seen of ids, and which are there, by their indices.
use Rattle.std.proofs.Common.{◌≡◌, ◌⊎◌, ◌∙◌, ℕ, ◌+◌, ◌<◌, Bool, true, List, [], ◌∷◌, ◌++◌, length, map, get_or, Option, Some, None, refl, sym, ap, subst, inl, inr, arith}
use Rattle.std.specs.List.{Contains, flat_map, list_any}
use Rattle.std.proofs.lemmas.List.{get_or-map}
use Rattle.std.proofs.lemmas.List.Elements.{Contains-append_left, Contains-append_right}
use Rattle.lemmas.proofs.ListFacts.{inside_cases, none_inside, get_any}
use Rattle.verdicts.specs.Indices.{id_at, AreIndicesOf, IsAt, MarksAre}
use Rattle.std.specs.Prelude.{◌↔◌}
use Rattle.zone_lists.specs.Installed.{is_installed, is_listed}
use Rattle.zone_lists.specs.declared.zones.ZoneRow.{ZoneRow}
use Rattle.requisites.specs.Leads.{Leads}
use Rattle.requisites.specs.Nodes.{Links}
use Rattle.requisites.specs.Sources.{AreLeastSources, HasSource, source_of}
use Rattle.requisites.proofs.SourceFacts.{marked_inside}
use Rattle.verdicts.proofs.IndexFacts.{indexed_inside, marks_more, rows_more}
use Rattle.listings.specs.SeenIndices.{AreSeen, AreThere, InstalledAt, IsThereAt, SeenAs}
use Rattle.listings.specs.Sights.{IsSeen, Sight, all_needs, needs_seen}

-- ---- the ids and all that they need

-- what one of the ids needs is among what all need
pub need_inside : (f : List ℕ → Sight) (ids : List (List ℕ)) (id need : List ℕ) → Contains ids id → Contains (all_needs (f id)) need → Contains (flat_map all_needs (map f ids)) need
need_inside f [] id need inside needs = absurd (none_inside id inside)
need_inside f (x ∷ xs) id need inside needs = elim (inside_cases x id xs inside) [
  | inl same ↦ (let P : List ℕ → Type 0 = λ y. Contains (all_needs (f y)) need in Contains-append_left (all_needs (f x)) (flat_map all_needs (map f xs)) need (subst P (sym same) needs))
  | inr later ↦ Contains-append_right (all_needs (f x)) (flat_map all_needs (map f xs)) need (need_inside f xs id need later needs)
]

-- ---- what is seen of an id

pub seen_at : (f : List ℕ → Sight) (ids : List (List ℕ)) (sights : List Sight) (id : List ℕ) (index : ℕ) (sight : Sight) → sights ≡ map f ids → IsAt ids id index → sight ≡ get_or sights index sight → IsSeen f ids id sight
seen_at f ids sights id index sight are at is = record {
  listed = λ inside. is ∙ ap (λ (l : List Sight). get_or l index sight) are ∙ get_or-map f ids index [] sight at.within ∙ ap f at.is;
  unlisted = λ outside. absurd (outside (indexed_inside ids id index at));
}

-- ---- what is seen of one member more

pub seen_more : (rows : List ZoneRow) (f : List ℕ → Sight) (ids members : List (List ℕ)) (i : ℕ) (sight : Sight) (old_marks new_marks : List Bool) (old_needs new_needs : List (List ℕ)) (mark : Bool) (needs : List ℕ)
    → IsSeen f ids (id_at members i) sight → mark ≡ list_any (λ fmid. is_installed rows fmid) sight.fmids → AreIndicesOf members (needs_seen rows sight) needs
    → AreSeen rows f ids members i old_marks old_needs
    → new_marks ≡ old_marks ++ mark ∷ [] → new_needs ≡ old_needs ++ needs ∷ []
    → AreSeen rows f ids members (i + 1) new_marks new_needs
seen_more rows f ids members i sight old_marks new_marks old_needs new_needs mark needs seen mark_is needs_are are marks_now needs_now = record {
  candidates_are = marks_more (λ p m. SeenAs f ids (id_at members p) (λ s. m ≡ list_any (λ fmid. is_installed rows fmid) s.fmids)) i old_marks new_marks mark are.candidates_are
      (record { sight = sight; seen = seen; so = mark_is }) marks_now;
  needs_are = rows_more (λ p indices. SeenAs f ids (id_at members p) (λ s. AreIndicesOf members (needs_seen rows s) indices)) i old_needs new_needs needs are.needs_are
      (record { sight = sight; seen = seen; so = needs_are }) needs_now;
}

-- ---- what is there

-- one member more, by whether it is there
pub there_more : (rows : List ZoneRow) (members : List (List ℕ)) (Given : ℕ → Type 0) (i : ℕ) (member : List ℕ) (old new : List Bool) (mark : Bool) → i < length members → member ≡ get_or members i member
    → MarksAre (IsThereAt rows members Given) i old → (mark ≡ true) ↔ ((is_listed rows member ≡ true) ⊎ Given i) → new ≡ old ++ mark ∷ [] → MarksAre (IsThereAt rows members Given) (i + 1) new
there_more rows members Given i member old new mark below at are is now =
    marks_more (IsThereAt rows members Given) i old new mark are
    (let P : List ℕ → Type 0 = λ x. (mark ≡ true) ↔ ((is_listed rows x ≡ true) ⊎ Given i) in subst P (at ∙ get_any members i member [] below) is) now

-- what has a source has an installed member from which superseding leads there
pub there_from : (rows : List ZoneRow) (members : List (List ℕ)) (supersedes : List (List ℕ)) (installed marks : List Bool) (sources : List (Option ℕ))
    → MarksAre (λ p mark. mark ≡ is_installed rows (id_at members p)) (length members) installed → AreLeastSources supersedes installed sources
    → MarksAre (IsThereAt rows members (HasSource sources)) (length members) marks → AreThere rows members supersedes marks
there_from rows members supersedes installed marks sources are least there = record {
  len = there.len;
  each = λ q below. (let is = there.each q below in (
    λ on. elim (is.0 on) [ inl listed ↦ inl listed | inr source ↦ inr (installed_at q source) ],
    λ either. elim either [ inl listed ↦ is.1 (inl listed) | inr at ↦ is.1 (inr (source_at q at (source_of sources q) refl)) ],
  ));
} where
  installed_at : (q : ℕ) → HasSource sources q → InstalledAt rows members supersedes q
  installed_at q source =
      let reached = least.reached q source.source source.is in
      let inside = marked_inside installed source.source reached.marked in
      let L : ℕ → Type 0 = λ n. Leads (Links supersedes n) source.source q in
      let within : source.source < length members = (let as_many = are.len in omega (arith, inside, as_many)) in
      record {
        source = source.source;
        within = within;
        installed = sym (are.each source.source within) ∙ reached.marked.is;
        leads = subst L are.len reached.leads;
      }

  source_at : (q : ℕ) → InstalledAt rows members supersedes q → (o : Option ℕ) → source_of sources q ≡ o → HasSource sources q
  source_at q at (Some s) e = record { source = s; is = e }
  source_at q at None e =
      let L : ℕ → Type 0 = λ n. Leads (Links supersedes n) at.source q in
      absurd (least.unreached q at.source e (record { is = are.each at.source at.within ∙ at.installed }) (subst L (sym are.len) at.leads))
