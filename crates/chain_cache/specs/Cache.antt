-- Kept frames. An entry is an id with its frame. The one that was used last stands first.
use Rattle.std.specs.Prelude.{◌⊎◌, [], ◌≡◌, ◌≤◌, ◌+◌, ◌*◌, ◌-◌, ◌++◌, ℕ, Bool, true, false, List, ◌∷◌, Contains, IfSome, IsSome, None, Option, Some, filter, is_some, length, min, not, slice_get, take}
use Rattle.std.specs.List.{sum_by}
use Rattle.std.specs.Map.{lookup}
use Rattle.lru.specs.LruCache.{promoted}
use Rattle.zone_lists.specs.declared.zones.ZoneRow.{ZoneRow}
use Rattle.catalogue.specs.Content.{Content}
use Rattle.catalogue.specs.Ids.{same_id}
use Rattle.chains.specs.Frames.{FrameLists, IsFrame, shares}
use Rattle.listings.specs.Marks.{IsListingBut}
use Rattle.listings.specs.Sights.{ListingLists}
use Rattle.chains.specs.Surveys.{IsSurvey, SurveyLists}

-- a zone that was looked over whole, with its survey
pub record ZoneSurvey : Type 0 where
  pub rows : List ZoneRow
  pub survey : SurveyLists

-- the parts on the whole catalogue: the listing, if it was read, the ids that were touched since, and zones with their
-- surveys
pub record SurveyedLists : Type 0 where
  pub listing : Option ListingLists
  pub marks : List (List ℕ)
  pub zones : List ZoneSurvey

abbrev pub nothing_surveyed : SurveyedLists
nothing_surveyed = record { listing = None; marks = []; zones = [] }

-- it was read, and nothing was touched since
pub record IsFresh (surveys : SurveyedLists) : Type 0 where
  pub listed : IsSome surveys.listing
  pub unmarked : surveys.marks ≡ []

-- What a publication leaves of these: the listing, in which the touched ids are marked; or nothing. Surveys go.
abbrev pub MayBeMarked : List (List ℕ) → SurveyedLists → SurveyedLists → Type 0
MayBeMarked ids old new = (new ≡ record { listing = old.listing; marks = old.marks ++ ids; zones = [] }) ⊎ (new ≡ nothing_surveyed)

-- The bytes that are counted for a zone with its survey: 8 for each of its rows, 100 for each id on which the survey has a verdict,
-- and 65,536 besides.
abbrev pub survey_bytes : ZoneSurvey → ℕ
survey_bytes kept = 65536 + 8 * length kept.rows + 100 * length kept.survey.members

-- all surveys together take at most 256 MiB
abbrev pub AreBounded : SurveyedLists → Type 0
AreBounded surveys = sum_by survey_bytes surveys.zones ≤ 268435456

-- the whole cache: frames, the number of them for which there is room, the number of frames that were put so far, and the
-- parts on the whole catalogue
pub record CacheLists : Type 0 where
  pub entries : List (List ℕ × FrameLists)
  pub capacity : ℕ
  pub built : ℕ
  pub surveys : SurveyedLists

-- the frames that were put are counted up to this number, at which the count stays
abbrev pub most_built : ℕ
most_built = 18446744073709551615

-- whether the frame of an id is kept
abbrev pub has : List (List ℕ × FrameLists) → List ℕ → Bool
has entries id = is_some (lookup (same_id id) entries)

-- each entry is an id with its frame in a content
pub record AreFrames (content : Content) (entries : List (List ℕ × FrameLists)) : Type 0 where
  pub each : (id : List ℕ) (frame : FrameLists) → Contains entries (id, frame) → IsFrame content id frame

-- the listing is that of a content but for marked ids, and each survey is that of its zone over the content
pub record AreSurveys (content : Content) (surveys : SurveyedLists) : Type 0 where
  pub listing : IfSome surveys.listing (IsListingBut content surveys.marks)
  pub each : (kept : ZoneSurvey) → Contains surveys.zones kept → IsSurvey content kept.rows kept.survey

-- all that the cache keeps is true of a content
pub record IsRightFor (cache : CacheLists) (content : Content) : Type 0 where
  pub frames : AreFrames content cache.entries
  pub surveys : AreSurveys content cache.surveys

-- after a hit the entry of the id stands first
abbrev pub after_hit : List ℕ → CacheLists → CacheLists
after_hit id cache = record { entries = promoted (same_id id) cache.entries; capacity = cache.capacity; built = cache.built; surveys = cache.surveys }

-- after a miss the new entry stands first, and the last one of a full cache is gone
abbrev pub after_miss : List ℕ → FrameLists → CacheLists → CacheLists
after_miss id frame cache = record {
  entries = (id, frame) ∷ take (cache.capacity - 1) cache.entries;
  capacity = cache.capacity;
  built = min (cache.built + 1) most_built;
  surveys = cache.surveys;
}

-- What a call for the frame of an id leaves. The frame stands first afterwards.
pub record IsFilled (id : List ℕ) (frame : FrameLists) (old new : CacheLists) : Type 0 where
  pub hit : has old.entries id ≡ true → new ≡ after_hit id old
  pub miss : has old.entries id ≡ false → new ≡ after_miss id frame old
  pub first : slice_get new.entries 0 ≡ Some (id, frame)

-- what a call for the frame of an id may leave: that, or all as it was
abbrev pub MayBeFilled : List ℕ → CacheLists → CacheLists → Type 0
MayBeFilled id old new = (new ≡ old) ⊎ ((frame : FrameLists) × IsFilled id frame old new)

-- the frames are as they were, and so is their count
pub record KeepsFrames (old new : CacheLists) : Type 0 where
  pub entries : new.entries ≡ old.entries
  pub capacity : new.capacity ≡ old.capacity
  pub built : new.built ≡ old.built

-- What a verdict leaves of the frames. One that is kept is used, and stands first afterwards. Else one may be built and put;
-- or all stays as it was, if a survey answers.
pub record IsAsked (id : List ℕ) (old new : CacheLists) : Type 0 where
  pub hit : has old.entries id ≡ true → new ≡ after_hit id old
  pub filled : MayBeFilled id old new ⊎ KeepsFrames old new

-- what calls for the frames of some ids leave, one after the other
abbrev pub AreFilled : List (List ℕ) → CacheLists → CacheLists → Type 0
AreFilled [] old new = new ≡ old
AreFilled (id ∷ ids) old new = (between : CacheLists) × (frame : FrameLists) × IsFilled id frame old between × AreFilled ids between new

-- the entries whose frames have none of some ids, in their order
abbrev pub untouched : List (List ℕ) → List (List ℕ × FrameLists) → List (List ℕ × FrameLists)
untouched ids entries = filter (λ entry. not (shares ids entry.1)) entries
