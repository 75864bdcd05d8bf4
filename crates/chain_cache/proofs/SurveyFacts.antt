-- What is kept of the whole catalogue stays right where it is added to, or loses something, and over a publication.
use Rattle.std.proofs.Common.{◌≡◌, ◌⊎◌, ◌++◌, [], ℕ, List, None, Option, Some, inl, inr, refl, slice_get, subst, sym}
use Rattle.std.specs.Prelude.{IfSome}
use Rattle.std.specs.List.{Contains}
use Rattle.std.proofs.lemmas.List.Elements.{Contains-append_left}
use Rattle.lemmas.proofs.ListFacts.{none_inside}
use Rattle.lemmas.proofs.ResultFacts.{if_some, some_is}
use Rattle.catalogue.specs.Content.{Content, IsInOrder}
use Rattle.catalogue.specs.Ids.{Ascend, in_order}
use Rattle.catalogue.specs.Touched.{AgreeOutside}
use Rattle.catalogue.proofs.IdFacts.{in_order_has}
use Rattle.zone_lists.specs.declared.zones.ZoneRow.{ZoneRow}
use Rattle.listings.specs.Marks.{IsListingBut}
use Rattle.listings.specs.Sights.{IsListing, ListingLists}
use Rattle.chains.specs.Surveys.{IsSurvey, SurveyLists}
use Rattle.listings.proofs.MarkFacts.{listing_but, more_marks, still_listed}
use Rattle.chain_cache.proofs.KeptFacts.{inside_at}
use Rattle.chain_cache.specs.Cache.{AreSurveys, MayBeMarked, SurveyedLists, ZoneSurvey, nothing_surveyed}

-- what is catalogued is put
pub right_listed : (content : Content) (old new : SurveyedLists) (listing : ListingLists) → new.listing ≡ Some listing → new.marks ≡ [] → new.zones ≡ old.zones
    → Ascend listing.ids → IsListing content listing → AreSurveys content old → AreSurveys content new
right_listed content old new listing put none same ascend is were = record {
  listing =
      let but = subst (λ marks. IsListingBut content marks listing) (sym none) (listing_but content listing ascend is) in
      subst (λ found. IfSome found (IsListingBut content new.marks)) (sym put) but;
  each = λ kept member. were.each kept (subst (λ zones. Contains zones kept) same member);
}

-- what is catalogued isn't kept any more
pub right_unlisted : (content : Content) (old new : SurveyedLists) → new.listing ≡ None → new.zones ≡ old.zones → AreSurveys content old → AreSurveys content new
right_unlisted content old new none same were = record {
  listing = subst (λ found. IfSome found (IsListingBut content new.marks)) (sym none) tt;
  each = λ kept member. were.each kept (subst (λ zones. Contains zones kept) same member);
}

-- what is marked was read anew
pub right_renewed : (content : Content) (surveys : SurveyedLists) (listing : ListingLists) (marks : List (List ℕ)) → surveys.listing ≡ Some listing → marks ≡ in_order surveys.marks
    → AreSurveys content surveys → IsListingBut content marks listing
right_renewed content surveys listing marks kept are were =
    let but = some_is (IsListingBut content surveys.marks) surveys.listing listing kept were.listing in
    more_marks content surveys.marks marks listing (λ id inside. subst (λ marks. Contains marks id) (sym are) ((in_order_has surveys.marks id).1 inside)) but

-- the marks may be told in order
pub at_hand_in_order : (content : Content) (surveys : SurveyedLists) → AreSurveys content surveys → IfSome surveys.listing (IsListingBut content (in_order surveys.marks))
at_hand_in_order content surveys were =
    if_some (IsListingBut content (in_order surveys.marks)) surveys.listing (λ listing kept. right_renewed content surveys listing (in_order surveys.marks) kept refl were)

-- the same listing, with the same marks
same_listing : (content : Content) (old new : SurveyedLists) → new.listing ≡ old.listing → new.marks ≡ old.marks → AreSurveys content old → IfSome new.listing (IsListingBut content new.marks)
same_listing content old new same marked were =
    subst (λ found. IfSome found (IsListingBut content new.marks)) (sym same) (subst (λ marks. IfSome old.listing (IsListingBut content marks)) (sym marked) were.listing)

-- some surveys may be gone, and one is put
pub right_put : (content : Content) (old new : SurveyedLists) (rows : List ZoneRow) (survey : SurveyLists) → new.listing ≡ old.listing → new.marks ≡ old.marks
    → ((kept : ZoneSurvey) → Contains new.zones kept → Contains old.zones kept ⊎ (kept ≡ record { rows = rows; survey = survey })) → IsSurvey content rows survey → AreSurveys content old
    → AreSurveys content new
right_put content old new rows survey same marked each is were = record {
  listing = same_listing content old new same marked were;
  each = λ kept member. elim (each kept member) [
    | inl earlier ↦ were.each kept earlier
    | inr this ↦ subst (λ (kept : ZoneSurvey). IsSurvey content kept.rows kept.survey) (sym this) is
  ];
}

-- one that is found is that of its zone
pub found_right : (content : Content) (surveys : SurveyedLists) (at : ℕ) (rows : List ZoneRow) (survey lent : SurveyLists) → slice_get surveys.zones at ≡ Some (record { rows = rows; survey = survey })
    → IfSome (slice_get surveys.zones at) (λ kept. lent ≡ kept.survey) → AreSurveys content surveys → IsSurvey content rows lent
found_right content surveys at rows survey lent is lends were =
    let now : lent ≡ survey = subst (λ (found : Option ZoneSurvey). IfSome found (λ kept. lent ≡ kept.survey)) is lends in
    subst (IsSurvey content rows) (sym now) (were.each (record { rows = rows; survey = survey }) (inside_at surveys.zones at (record { rows = rows; survey = survey }) is))

-- ---- over a publication

-- none are right for every content
pub no_surveys : (content : Content) → AreSurveys content nothing_surveyed
no_surveys content = record { listing = tt; each = λ kept member. absurd (none_inside kept member) }

module _ (ids : List (List ℕ)) (before after : SurveyedLists) (marked : MayBeMarked ids before after) where
  marked_by : (old new : Content) → AreSurveys old before → ((listing : ListingLists) → IsListingBut old before.marks listing → IsListingBut new (before.marks ++ ids) listing) → AreSurveys new after
  marked_by old new were so =
      let P : SurveyedLists → Type 0 = λ surveys. AreSurveys new surveys in
      elim marked [
        | inl is ↦ subst P (sym is) (record {
          listing = if_some (IsListingBut new (before.marks ++ ids)) before.listing (λ listing found. so listing (some_is (IsListingBut old before.marks) before.listing listing found were.listing));
          each = λ kept member. absurd (none_inside kept member);
        })
        | inr none ↦ subst P (sym none) (no_surveys new)
      ]

  -- what is marked stays right for the content for which it was
  pub marked_stays : (content : Content) → AreSurveys content before → AreSurveys content after
  marked_stays content were = marked_by content content were (λ listing but. more_marks content before.marks (before.marks ++ ids) listing (λ id inside. Contains-append_left before.marks ids id inside) but)

  -- it is right for each content that says the same outside what is marked
  pub marked_right : (old new : Content) → IsInOrder new → AgreeOutside ids old new → AreSurveys old before → AreSurveys new after
  marked_right old new ordered agree were = marked_by old new were (λ listing but. still_listed before.marks ids old new listing ordered agree but)
