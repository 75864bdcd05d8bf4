-- Who supersedes what among all that is listed, and what a listing says of it.
use Rattle.std.proofs.Common.{◌≡◌, ◌∙◌, ◌+◌, ◌++◌, ℕ, zero, suc, ◌<◌, Bool, true, false, List, [], ◌∷◌, length, map, take, get_or, Option, Some, None, refl, sym, ap, subst, inl, inr, arith}
use Rattle.std.specs.Prelude.{◌↔◌}
use Rattle.std.specs.List.{Contains, flat_map, list_any}
use Rattle.std.specs.List.Sorted.{IsStrictlySortedBy}
use Rattle.std.specs.Option.{IsSomeAnd}
use Rattle.std.proofs.lemmas.Bool.{cases_lt}
use Rattle.std.proofs.lemmas.List.{get_or_past, take_more, get_or-map}
use Rattle.std.proofs.lemmas.List.Elements.{Contains-append_left, Contains-append_right, Contains-push_cases}
use Rattle.lemmas.proofs.ListFacts.{map_from, map_inside, none_inside, get_any}
use Rattle.zone_lists.specs.Installed.{is_installed}
use Rattle.zone_lists.specs.declared.zones.ZoneRow.{ZoneRow}
use Rattle.catalogue.specs.Content.{Content, IsInOrder, Supersedes, ids_of, record_of, sup_names, superseders}
use Rattle.catalogue.specs.Ids.{Ascend, in_order}
use Rattle.catalogue.specs.declared.sysmod.Sysmod.{Sysmod}
use Rattle.catalogue.proofs.IdFacts.{in_order_has}
use Rattle.catalogue.proofs.RecordFacts.{filtered_ascend}
use Rattle.catalogue.proofs.SupersedeFacts.{superseder_catalogued, superseder_is}
use Rattle.supersede.specs.Giving.{is_candidate, sup_of}
use Rattle.requisites.specs.Nodes.{AreReversed, row}
use Rattle.verdicts.specs.Indices.{id_at, AreIndicesOf, IsAt, RowsAre}
use Rattle.listings.specs.Sights.{Sight, sight_of, unseen}
use Rattle.listings.specs.Superseders.{AreBelow, AreIndicesOfAll, AreTurned, HaveAll, SupersedesAt, superseded_at}
use Rattle.verdicts.proofs.IndexFacts.{indexed_inside, indices_more, indices_on, inside_at}
use Rattle.listings.proofs.MadeCutFacts.{candidate_catalogued}
use Rattle.verdicts.proofs.OrderFacts.{ascending_same}

-- ---- a content without its holds: what supersedes, gives and is there is the same

abbrev pub unheld : Content → Content
unheld content = record { sysmods = content.sysmods; holds = [] }

pub unheld_in_order : (content : Content) → Ascend (ids_of content) → IsInOrder (unheld content)
unfolding IsStrictlySortedBy
unheld_in_order content ascend = record { sysmods = ascend; holds = tt }

-- ---- SUP turned round

-- what one supersedes is among what all do
pub superseded_inside : (sights : List Sight) (p : ℕ) (id : List ℕ) → SupersedesAt sights p id → Contains (flat_map (λ sight. sight.superseded) sights) id
superseded_inside [] p id at = absurd (let within = at.within in omega (arith, within))
superseded_inside (sight ∷ sights) zero id at = Contains-append_left sight.superseded (flat_map (λ sight. sight.superseded) sights) id at.named
superseded_inside (sight ∷ sights) (suc p) id at =
    let within = at.within in
    Contains-append_right sight.superseded (flat_map (λ sight. sight.superseded) sights) id
    (superseded_inside sights p id (record { within = omega (arith, within); named = at.named }))

-- what a row lists stands within the rows
listed_within : (rows : List (List ℕ)) (p q : ℕ) → Contains (row rows p) q → p < length rows
listed_within rows p q listed = elim (cases_lt p (length rows)) [
  | inl below ↦ below
  | inr from ↦ (let P : List ℕ → Type 0 = λ l. Contains l q in absurd (none_inside q (subst P (get_or_past rows p [] from) listed)))
]

pub superseded_here : (sights : List Sight) (index : ℕ) (sight : Sight) (ids : List (List ℕ)) → index < length sights → sight ≡ get_or sights index sight → ids ≡ sight.superseded → ids ≡ superseded_at sights index
superseded_here sights index sight ids below at is = is ∙ ap (λ (s : Sight). s.superseded) (at ∙ get_any sights index sight unseen below)

pub are_turned : (sights : List Sight) (superseded : List (List ℕ)) (below above : List (List ℕ)) → Ascend superseded → HaveAll sights superseded
    → AreBelow sights superseded below → AreReversed below (length superseded) above → AreTurned sights superseded above
are_turned sights superseded below above ascend whole are turned = record {
  ascend = ascend;
  whole = whole;
  each = λ q p within. (
    λ inside.
        let link = turned.only p q inside in
        let inside_rows = listed_within below p q link.listed in
        let as_many = are.len in
        let here : p < length sights = omega (arith, inside_rows, as_many) in
        record { within = here; named = (are.each p here).listed q link.listed },
    λ at. turned.turned p q (record { listed = (are.each p at.within).whole q within at.named; index = within }),
  );
}

-- what is found for an id
pub turned_at : (sights : List Sight) (superseded above : List (List ℕ)) (id : List ℕ) (index : ℕ) (indices : List ℕ) (p : ℕ) → AreTurned sights superseded above → IsAt superseded id index → indices ≡ row above index
    → Contains indices p ↔ SupersedesAt sights p id
turned_at sights superseded above id index indices p turned at is =
    let S : List ℕ → Type 0 = λ x. Contains indices p ↔ SupersedesAt sights p x in
    let R : List ℕ → Type 0 = λ l. Contains l p ↔ SupersedesAt sights p (id_at superseded index) in
    subst S at.is (subst R (sym is) (turned.each index p at.within))

pub turned_nowhere : (sights : List Sight) (superseded above : List (List ℕ)) (id : List ℕ) (indices : List ℕ) (p : ℕ) → AreTurned sights superseded above → (Contains superseded id → ⊥) → indices ≡ []
    → Contains indices p ↔ SupersedesAt sights p id
turned_nowhere sights superseded above id indices p turned nowhere is = (
  λ inside. (let P : List ℕ → Type 0 = λ l. Contains l p in absurd (none_inside p (subst P is inside))),
  λ at. absurd (nowhere (turned.whole p id at)),
)

-- ---- all that is superseded, by indices

-- one id more, which stands somewhere
pub all_more : (members ids : List (List ℕ)) (i : ℕ) (id : List ℕ) (old new : List ℕ) (index : ℕ) → Ascend members → i < length ids → id ≡ get_or ids i id
    → AreIndicesOfAll members (take i ids) old → IsAt members id index → new ≡ old ++ index ∷ [] → AreIndicesOfAll members (take (i + 1) ids) new
all_more members ids i id old new index ascend below at were here is =
    let P : List ℕ → Type 0 = λ l. AreIndicesOf members (take i ids ++ id ∷ []) l in
    record {
      are = indices_on members ids i id new below at (subst P (sym is) (indices_more members (take i ids) old id index ascend were.are here));
      all = λ x inside. (
          let Q : List (List ℕ) → Type 0 = λ l. Contains l x in
          elim (Contains-push_cases (take i ids) id x (subst Q (take_more ids i id below ∙ ap (λ y. take i ids ++ y ∷ []) (sym at)) inside)) [
            | inl before ↦ were.all x before
            | inr same ↦ (let M : List ℕ → Type 0 = λ y. Contains members y in subst M same (indexed_inside members id index here))
          ]
          );
    }

module _ (sights : List Sight) (superseded rows : List (List ℕ)) (are : RowsAre (λ p indices. AreIndicesOfAll superseded (superseded_at sights p) indices) (length sights) rows) where
  pub all_below : AreBelow sights superseded rows
  all_below = record { len = are.len; each = λ p below. (are.each p below).are }

  pub have_all : HaveAll sights superseded
  have_all p id at = (are.each p at.within).all id at.named

-- ---- by a listing

sup_from : (id : List ℕ) (found : Option Sysmod) → IsSomeAnd found (λ sysmod. Contains sysmod.sup id) → Contains (sup_of found) id
sup_from id None named = absurd named
sup_from id (Some sysmod) named = named

sup_to : (id : List ℕ) (found : Option Sysmod) → Contains (sup_of found) id → IsSomeAnd found (λ sysmod. Contains sysmod.sup id)
sup_to id None inside = absurd (none_inside id inside)
sup_to id (Some sysmod) inside = inside

module _ (content : Content) (ids : List (List ℕ)) (sights : List Sight) (ids_are : ids ≡ ids_of content) (sights_are : sights ≡ map (sight_of content) ids) where
  -- what is seen at an index
  seen_there : (p : ℕ) → p < length ids → superseded_at sights p ≡ sup_of (record_of content (id_at ids p))
  seen_there p below =
      ap (λ (l : List Sight). superseded_at l p) sights_are ∙ ap (λ (sight : Sight). sight.superseded) (get_or-map (sight_of content) ids p [] unseen below)

  module _ (ascend : Ascend ids) (as_many : length sights ≡ length ids) where
    listed_in_order : IsInOrder (unheld content)
    listed_in_order = unheld_in_order content (subst Ascend ids_are ascend)

    pub superseders_listed : (id : List ℕ) (indices : List ℕ) (found : List (List ℕ)) → ((p : ℕ) → Contains indices p ↔ SupersedesAt sights p id) → Ascend found → found ≡ in_order (map (id_at ids) indices)
        → found ≡ superseders content id
    superseders_listed id indices found each up is =
        let F : List (List ℕ) → List ℕ → Type 0 = λ l y. Contains l y in
        ascending_same found (superseders content id) up (filtered_ascend (sup_names id) content.sysmods (subst Ascend ids_are ascend))
        (λ y inside.
        let image = map_from (id_at ids) indices y ((in_order_has (map (id_at ids) indices) y).0 (let P : List (List ℕ) → Type 0 = λ l. Contains l y in subst P is inside)) in
        let at = (each image.from).0 image.member in
        let within = at.within in
        let below : image.from < length ids = omega (arith, within, as_many) in
        let S : List (List ℕ) → Type 0 = λ l. Contains l id in
        let Y : List ℕ → Type 0 = λ x. Supersedes content x id in
        let step : Supersedes content y id = subst Y image.is (sup_to id (record_of content (id_at ids image.from)) (subst S (seen_there image.from below) at.named)) in
        (superseder_is (unheld content) id y listed_in_order).1 step)
        (λ y inside.
        let step : Supersedes content y id = (superseder_is (unheld content) id y listed_in_order).0 inside in
        let M : List (List ℕ) → Type 0 = λ l. Contains l y in
        let place = inside_at ids y (subst M (sym ids_are) (superseder_catalogued content id y inside)) in
        let Y : List ℕ → Type 0 = λ x. Supersedes content x id in
        let S : List (List ℕ) → Type 0 = λ l. Contains l id in
        let below = place.within in
        let at : SupersedesAt sights place.index id = record {
          within = omega (arith, below, as_many);
          named = subst S (sym (seen_there place.index place.within)) (sup_from id (record_of content (id_at ids place.index)) (subst Y (sym place.is) step));
        } in
        let I : List ℕ → Type 0 = λ x. Contains (map (id_at ids) indices) x in
        subst M (sym is) ((in_order_has (map (id_at ids) indices) y).1 (subst I place.is (map_inside (id_at ids) indices place.index ((each place.index).1 at)))))

  -- ---- whether an id may be installed

  pub candidate_listed : (rows : List ZoneRow) (id : List ℕ) (index : ℕ) (sight : Sight) (mark : Bool) → IsAt ids id index → sight ≡ get_or sights index sight
      → mark ≡ list_any (λ fmid. is_installed rows fmid) sight.fmids → mark ≡ is_candidate content rows id
  candidate_listed rows id index sight mark at is marked =
      let seen : sight ≡ sight_of content id =
      is ∙ ap (λ (l : List Sight). get_or l index sight) sights_are ∙ get_or-map (sight_of content) ids index [] sight at.within ∙ ap (sight_of content) at.is in
      marked ∙ ap (λ (s : Sight). list_any (λ fmid. is_installed rows fmid) s.fmids) seen

  pub candidate_unlisted : (rows : List ZoneRow) (id : List ℕ) → (Contains ids id → ⊥) → false ≡ is_candidate content rows id
  candidate_unlisted rows id outside = go (is_candidate content rows id) refl where
    go : (b : Bool) → is_candidate content rows id ≡ b → false ≡ b
    go false e = refl
    go true e = absurd (outside (let M : List (List ℕ) → Type 0 = λ l. Contains l id in subst M (sym ids_are) (candidate_catalogued content rows id e)))
