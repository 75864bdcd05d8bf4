-- What a listing says of a content, but for what is marked.
use Rattle.std.proofs.Common.{◌≡◌, ◌∙◌, ◌<◌, ◌++◌, ℕ, suc, true, false, List, [], ◌∷◌, Option, length, map, not, is_some, get_or, refl, sym, ap, subst, arith}
use Rattle.std.specs.List.{Contains}
use Rattle.std.specs.Prelude.{◌↔◌}
use Rattle.std.proofs.lemmas.List.{get_or-map, length-map}
use Rattle.std.proofs.lemmas.List.Elements.{Contains-append_left, Contains-append_right}
use Rattle.lemmas.proofs.ListFacts.{any_at, none_inside}
use Rattle.catalogue.specs.Content.{Content, IsCatalogued, IsInOrder, error_reasons, ids_of, record_of}
use Rattle.catalogue.specs.Ids.{Ascend, same_id}
use Rattle.catalogue.specs.Touched.{AgreeOutside}
use Rattle.catalogue.specs.declared.sysmod.Sysmod.{Sysmod}
use Rattle.catalogue.proofs.IdFacts.{itself}
use Rattle.supersede.specs.Giving.{conds_of, fmids_of, requisites_of, sup_of}
use Rattle.supersede.specs.Reach.{has}
use Rattle.verdicts.specs.Indices.{id_at}
use Rattle.listings.specs.Marks.{IsListingBut, SaysBut}
use Rattle.listings.specs.Sights.{IsListing, ListingLists, Sight, sight_of, unseen}
use Rattle.verdicts.proofs.OrderFacts.{ascending_same}
use Rattle.listings.proofs.WayFacts.{listed_record, record_listed}

pub apart_from : (marks : List (List ℕ)) (id : List ℕ) → not (has marks id) ≡ true → Contains marks id → ⊥
apart_from marks id h inside =
    let off : not (has marks id) ≡ false = ap not (any_at (same_id id) marks id inside (itself id)) in
    absurd (cc)

-- more may be marked
pub more_marks : (content : Content) (marks more : List (List ℕ)) (listing : ListingLists) → ((id : List ℕ) → Contains marks id → Contains more id) → IsListingBut content marks listing
    → IsListingBut content more listing
more_marks content marks more listing with_all but = record {
  before = but.before;
  is = but.is;
  same = record {
    records = λ id apart. but.same.records id (λ inside. apart (with_all id inside));
    above = λ id apart. but.same.above id (λ inside. apart (with_all id inside));
    reasons = λ id apart. but.same.reasons id (λ inside. apart (with_all id inside));
  };
  was_in_order = but.was_in_order;
  in_order = but.in_order;
}

-- what a publication touches is marked: then the listing is that of the content after it, but for the marks
pub still_listed : (marks ids : List (List ℕ)) (old new : Content) (listing : ListingLists) → IsInOrder new → AgreeOutside ids old new → IsListingBut old marks listing
    → IsListingBut new (marks ++ ids) listing
still_listed marks ids old new listing ordered agree but =
    let left : (id : List ℕ) → (Contains (marks ++ ids) id → ⊥) → Contains marks id → ⊥ = λ id apart inside. apart (Contains-append_left marks ids id inside) in
    let right : (id : List ℕ) → (Contains (marks ++ ids) id → ⊥) → Contains ids id → ⊥ = λ id apart inside. apart (Contains-append_right marks ids id inside) in
    record {
      before = but.before;
      is = but.is;
      same = record {
        records = λ id apart. agree.records id (right id apart) ∙ but.same.records id (left id apart);
        above = λ id apart. agree.above id (right id apart) ∙ but.same.above id (left id apart);
        reasons = λ id apart. agree.reasons id (right id apart) ∙ but.same.reasons id (left id apart);
      };
      was_in_order = but.was_in_order;
      in_order = ordered.sysmods;
    }

-- ---- what it says of the content

abbrev sight_by : Option Sysmod → List (List ℕ) → Sight
sight_by found reasons = record { catalogued = is_some found; fmids = fmids_of found; needs = requisites_of found ++ reasons; conds = conds_of found; superseded = sup_of found }

same_sight : (old new : Content) (id : List ℕ) → record_of new id ≡ record_of old id → error_reasons new id ≡ error_reasons old id → sight_of old id ≡ sight_of new id
same_sight old new id records reasons = ap (λ found. sight_by found (error_reasons old id)) (sym records) ∙ ap (sight_by (record_of new id)) (sym reasons)

-- each id that isn't marked is listed where it is catalogued, with what the content says of it
pub record AreListed (content : Content) (marks : List (List ℕ)) (listing : ListingLists) : Type 0 where
  pub in_order : Ascend (ids_of content)
  pub ascend : Ascend listing.ids
  pub listed : (id : List ℕ) → (Contains marks id → ⊥) → Contains listing.ids id ↔ IsCatalogued content id
  pub sights : SaysBut (sight_of content) marks listing.ids listing.sights

pub are_listed : (content : Content) (marks : List (List ℕ)) (listing : ListingLists) → IsListingBut content marks listing → AreListed content marks listing
are_listed content marks listing but =
    let before = but.before in
    record {
      in_order = but.in_order;
      ascend = subst Ascend (sym but.is.ids) but.was_in_order;
      listed = λ id apart.
          let same : record_of content id ≡ record_of before id = but.same.records id apart in (
            λ inside. listed_record content.sysmods id (ap is_some same ∙ record_listed before.sysmods id (subst (λ ids. Contains ids id) but.is.ids inside)),
            λ inside. subst (λ ids. Contains ids id) (sym but.is.ids) (listed_record before.sysmods id (ap is_some (sym same) ∙ record_listed content.sysmods id inside)),
          );
      sights = λ p within apart.
          let id = id_at listing.ids p in
          ap (λ sights. get_or sights p unseen) but.is.sights
          ∙ get_or-map (sight_of before) listing.ids p [] unseen within
          ∙ same_sight before content id (but.same.records id apart) (but.same.reasons id apart);
    }

-- ---- where nothing is marked

each_is : (f : List ℕ → Sight) (ids : List (List ℕ)) (sights : List Sight) → length sights ≡ length ids → ((p : ℕ) → p < length ids → get_or sights p unseen ≡ f (id_at ids p)) → sights ≡ map f ids
each_is f [] [] len at = refl
each_is f [] (sight ∷ sights) len at = absurd (cc)
each_is f (id ∷ ids) [] len at = absurd (cc)
each_is f (id ∷ ids) (sight ∷ sights) len at =
    let first : sight ≡ f id = at 0 (omega arith) in
    let rest : sights ≡ map f ids = each_is f ids sights (omega (arith, len)) (λ p within. at (suc p) (omega (arith, within))) in
    ap (λ s. s ∷ sights) first ∙ ap (λ l. f id ∷ l) rest

pub listing_is : (content : Content) (listing : ListingLists) → IsListingBut content [] listing → IsListing content listing
listing_is content listing but =
    let all = are_listed content [] listing but in
    record {
      ids = ascending_same listing.ids (ids_of content) all.ascend all.in_order (λ id inside. (all.listed id (none_inside id)).0 inside) (λ id inside. (all.listed id (none_inside id)).1 inside);
      sights = each_is (sight_of content) listing.ids listing.sights (ap length but.is.sights ∙ length-map listing.ids (sight_of but.before)) (λ p within. all.sights p within (none_inside (id_at listing.ids p)));
    }

pub listing_but : (content : Content) (listing : ListingLists) → Ascend listing.ids → IsListing content listing → IsListingBut content [] listing
listing_but content listing ascend is =
    let in_order = subst Ascend is.ids ascend in
    record {
      before = content;
      is = is;
      same = record { records = λ id apart. refl; above = λ id apart. refl; reasons = λ id apart. refl };
      was_in_order = in_order;
      in_order = in_order;
    }
