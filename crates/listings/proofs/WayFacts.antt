-- What the rows of superseded nodes say of members, ways of superseding say of their ids.
use Rattle.std.proofs.Common.{◌≡◌, ◌&&◌, ℕ, ◌<◌, Bool, true, false, cond, List, [], ◌∷◌, length, map, is_some, Option, Some, None, refl, sym, ap, subst, inl, inr}
use Rattle.std.specs.Prelude.{◌↔◌}
use Rattle.std.specs.List.{Contains, find}
use Rattle.std.specs.Option.{IsSomeAnd}
use Rattle.std.specs.Str.{bytes_eq}
use Rattle.lemmas.proofs.ListFacts.{any_at, any_from, first_inside, first_true, inside_cases, none_inside, rest_inside}
use Rattle.zone_lists.specs.Installed.{is_installed, is_installed_state, is_listed}
use Rattle.zone_lists.specs.declared.zones.ZoneRow.{ZoneRow}
use Rattle.catalogue.specs.Content.{Content, Supersedes, ids_in, ids_of, is_of, record_of}
use Rattle.catalogue.specs.Ids.{Ascend}
use Rattle.catalogue.specs.declared.sysmod.Sysmod.{Sysmod}
use Rattle.catalogue.proofs.IdFacts.{itself, one_id}
use Rattle.supersede.specs.Leading.{Gives, InstalledGiver, IsThere, IsWay}
use Rattle.requisites.specs.Leads.{IsPath, Leads}
use Rattle.requisites.specs.Nodes.{IsMarked, Links, row}
use Rattle.verdicts.specs.Indices.{IndexOf, id_at}
use Rattle.listings.specs.SeenIndices.{AreThere, InstalledAt}
use Rattle.verdicts.proofs.IndexFacts.{inside_at, one_index}

-- what has a record is listed
pub listed_record : (sysmods : List Sysmod) (id : List ℕ) → is_some (find (is_of id) sysmods) ≡ true → Contains (ids_in sysmods) id
listed_record [] id h = absurd (cc)
listed_record (sysmod ∷ sysmods) id h = go (listed_record sysmods id) (is_of id sysmod) refl h where
  go : (is_some (find (is_of id) sysmods) ≡ true → Contains (ids_in sysmods) id) → (b : Bool) → is_of id sysmod ≡ b → is_some (cond b (Some sysmod) (find (is_of id) sysmods)) ≡ true → Contains (sysmod.id ∷ ids_in sysmods) id
  go further true e known = let P : List ℕ → Type 0 = λ x. Contains (sysmod.id ∷ ids_in sysmods) x in subst P (one_id sysmod.id id e) (first_inside sysmod.id (ids_in sysmods))
  go further false e known = rest_inside sysmod.id id (ids_in sysmods) (further known)

-- what supersedes another is catalogued
pub superseder_listed : (content : Content) (id next : List ℕ) → Supersedes content id next → Contains (ids_of content) id
superseder_listed content id next step = listed_record content.sysmods id (known (record_of content id) step) where
  known : (o : Option Sysmod) → IsSomeAnd o (λ sysmod. Contains sysmod.sup next) → is_some o ≡ true
  known None none = absurd none
  known (Some sysmod) among = refl

-- the rows have for each member just the members that it supersedes, and what gives a member is one
pub record AreWays (content : Content) (members supersedes : List (List ℕ)) : Type 0 where
  pub ascend : Ascend members
  pub up : (p q : ℕ) → p < length members → q < length members → Contains (row supersedes p) q → Supersedes content (id_at members p) (id_at members q)
  pub down : (p q : ℕ) → p < length members → q < length members → Supersedes content (id_at members p) (id_at members q) → Contains (row supersedes p) q
  pub inside : (giver : List ℕ) (q : ℕ) → q < length members → Gives content giver (id_at members q) → Contains members giver

module _ (content : Content) (members supersedes : List (List ℕ)) (ways : AreWays content members supersedes) where
  way_up : (p : ℕ) → p < length members → (list : List ℕ) (q : ℕ) → IsPath (Links supersedes (length members)) p list q → IsWay content (id_at members p) (map (id_at members) list) (id_at members q)
  way_up p below [] q same = ap (id_at members) same
  way_up p below (z ∷ zs) q path = (ways.up p z below path.0.index path.0.listed, way_up z path.0.index zs q path.1)

  -- each id that a way visits on its way to a member is a member
  visited : (next : List ℕ) (later : List (List ℕ)) (q : ℕ) → q < length members → IsWay content next later (id_at members q) → IndexOf members next
  visited next [] q within same = record { index = q; within = within; is = sym same }
  visited next (z ∷ zs) q within way =
      inside_at members next (ways.inside next q within (record { catalogued = superseder_listed content next z way.0; way = z ∷ zs; leads = way }))

  way_down : (p : ℕ) → p < length members → (list : List (List ℕ)) (q : ℕ) → q < length members → IsWay content (id_at members p) list (id_at members q) → Leads (Links supersedes (length members)) p q
  way_down p below [] q within same = record { list = []; path = one_index members p q [] ways.ascend below within same }
  way_down p below (next ∷ later) q within way =
      let at = visited next later q within way.1 in
      let S : List ℕ → Type 0 = λ x. Supersedes content (id_at members p) x in
      let Y : List ℕ → Type 0 = λ x. IsWay content x later (id_at members q) in
      let rest = way_down at.index at.within later q within (subst Y (sym at.is) way.1) in
      record {
        list = at.index ∷ rest.list;
        path = (record { listed = ways.down p at.index below at.within (subst S (sym at.is) way.0); index = at.within }, rest.path);
      }

  gives_up : (p q : ℕ) → p < length members → Contains (ids_of content) (id_at members p) → Leads (Links supersedes (length members)) p q → Gives content (id_at members p) (id_at members q)
  gives_up p q below listed leads = record { catalogued = listed; way = map (id_at members) leads.list; leads = way_up p below leads.list q leads.path }

  gives_down : (p q : ℕ) → p < length members → q < length members → Gives content (id_at members p) (id_at members q) → Leads (Links supersedes (length members)) p q
  gives_down p q below within gives = way_down p below gives.way q within gives.leads

  -- a catalogued member gives another exactly where the rows lead from one to the other
  pub gives_at : (n p q : ℕ) → n ≡ length members → p < length members → q < length members → Contains (ids_of content) (id_at members p)
      → Leads (Links supersedes n) p q ↔ Gives content (id_at members p) (id_at members q)
  gives_at n p q as_many below within listed = (
    λ leads. gives_up p q below listed (let L : ℕ → Type 0 = λ n. Leads (Links supersedes n) p q in subst L as_many leads),
    λ gives. (let L : ℕ → Type 0 = λ n. Leads (Links supersedes n) p q in subst L (sym as_many) (gives_down p q below within gives)),
  )

  -- ---- what is there

  module _ (rows : List ZoneRow) where
    listed_if_installed : (id : List ℕ) → is_installed rows id ≡ true → is_listed rows id ≡ true
    listed_if_installed id h =
        let found = any_from (λ (row : ZoneRow). bytes_eq row.sysmod id && is_installed_state row.state) rows h in
        any_at (λ (row : ZoneRow). bytes_eq row.sysmod id) rows found.element found.member (first_true (bytes_eq found.element.sysmod id) (is_installed_state found.element.state) found.passes)

    there_up : (q : ℕ) → InstalledAt rows members supersedes q → IsThere content rows (id_at members q)
    there_up q at = by at.leads.list at.leads.path where
      by : (list : List ℕ) → IsPath (Links supersedes (length members)) at.source list q → IsThere content rows (id_at members q)
      by [] same = (let P : ℕ → Type 0 = λ k. is_listed rows (id_at members k) ≡ true in inl (subst P same (listed_if_installed (id_at members at.source) at.installed)))
      by (z ∷ zs) path = inr (record {
        giver = id_at members at.source;
        installed = at.installed;
        gives = gives_up at.source q at.within (superseder_listed content (id_at members at.source) (id_at members z) (ways.up at.source z at.within path.0.index path.0.listed)) (record { list = z ∷ zs; path = path });
      })

    there_down : (q : ℕ) → q < length members → InstalledGiver content rows (id_at members q) → InstalledAt rows members supersedes q
    there_down q below by =
        let at = inside_at members by.giver (ways.inside by.giver q below by.gives) in
        let I : List ℕ → Type 0 = λ x. is_installed rows x ≡ true in
        let G : List ℕ → Type 0 = λ x. Gives content x (id_at members q) in
        record {
          source = at.index;
          within = at.within;
          installed = subst I (sym at.is) by.installed;
          leads = gives_down at.index q at.within below (subst G (sym at.is) by.gives);
        }

    pub there_at : (marks : List Bool) → AreThere rows members supersedes marks → (q : ℕ) → q < length members → IsMarked marks q ↔ IsThere content rows (id_at members q)
    there_at marks there q below = let so = there.each q below in (
      λ marked. elim (so.0 marked.is) [ inl listed ↦ inl listed | inr at ↦ there_up q at ],
      λ here. elim here [ inl listed ↦ record { is = so.1 (inl listed) } | inr by ↦ record { is = so.1 (inr (there_down q below by)) } ],
    )

-- what is listed has a record
pub record_listed : (sysmods : List Sysmod) (id : List ℕ) → Contains (ids_in sysmods) id → is_some (find (is_of id) sysmods) ≡ true
record_listed [] id inside = absurd (none_inside id inside)
record_listed (sysmod ∷ sysmods) id inside = go (record_listed sysmods id) (is_of id sysmod) refl where
  go : (Contains (ids_in sysmods) id → is_some (find (is_of id) sysmods) ≡ true) → (b : Bool) → is_of id sysmod ≡ b → is_some (cond b (Some sysmod) (find (is_of id) sysmods)) ≡ true
  go rest true e = refl
  go rest false e = elim (inside_cases sysmod.id id (ids_in sysmods) inside) [
    | inl same ↦ (let P : List ℕ → Type 0 = λ x. is_of x sysmod ≡ true in let on : is_of id sysmod ≡ true = subst P same (itself sysmod.id) in absurd (cc))
    | inr later ↦ rest later
  ]
