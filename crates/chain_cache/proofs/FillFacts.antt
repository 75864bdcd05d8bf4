-- What a hit and a miss leave.
use Rattle.std.proofs.Common.{◌≡◌, ◌∙◌, ◌-◌, ◌+◌, ◌<◌, ◌++◌, ℕ, true, false, List, [], ◌∷◌, get_or, length, min, take, OnErr, Some, Result, Ok, Err, refl, sym, ap, subst, inl, inr}
use Rattle.std.proofs.lemmas.Bool.{cases_Bool}
use Rattle.std.proofs.lemmas.List.{take_more}
use Rattle.catalogue.specs.Content.{Content}
use Rattle.catalogue.specs.Ids.{same_id}
use Rattle.catalogue.proofs.IdFacts.{one_id}
use Rattle.lru.specs.LruCache.{LruCache, lru_cache, promoted, put_entries}
use Rattle.lru.proofs.CallerLemmas.{Contains-promoted, Contains-take}
use Rattle.lru.proofs.Pairs.{promoted_absent}
use Rattle.lru.proofs.Splits.{Contains-cons}
use Rattle.chains.specs.Frames.{FrameLists, IsFrame}
use Rattle.chain_cache.specs.Cache.{AreFilled, AreSurveys, CacheLists, IsFilled, IsRightFor, SurveyedLists, after_hit, after_miss, has, most_built}
use Rattle.chain_cache.proofs.EntryFacts.{promoted_first, put_first}

-- a cache as contracts see it
abbrev pub lists_of : LruCache (List ℕ) FrameLists → ℕ → SurveyedLists → CacheLists
lists_of frames built surveys = record { entries = frames.entries; capacity = frames.cap; built = built; surveys = surveys }

-- what stands first where the frame of an id was kept
pub record IsHit (id : List ℕ) (cache : CacheLists) : Type 0 where
  pub frame : FrameLists
  pub filled : IsFilled id frame cache (after_hit id cache)

pub filled_hit : (id : List ℕ) (cache : CacheLists) → has cache.entries id ≡ true → IsHit id cache
filled_hit id cache kept =
    let found = promoted_first same_id id cache.entries kept in
    let key : found.entry.0 ≡ id = sym (one_id id found.entry.0 found.same) in
    record {
      frame = found.entry.1;
      filled = record {
        hit = λ _. refl;
        miss = λ absent. absurd cc;
        first = found.first ∙ ap (λ k. Some (k, found.entry.1)) key;
      };
    }

pub filled_miss : (id : List ℕ) (frame : FrameLists) (cache : CacheLists) → has cache.entries id ≡ false → IsFilled id frame cache (after_miss id frame cache)
filled_miss id frame cache absent = record { hit = λ kept. absurd cc; miss = λ _. refl; first = refl }

pub right_hit : (content : Content) (id : List ℕ) (cache : CacheLists) → IsRightFor cache content → IsRightFor (after_hit id cache) content
right_hit content id cache right = record {
  frames = record { each = λ other frame member. right.frames.each other frame (Contains-promoted (same_id id) cache.entries (other, frame) member) };
  surveys = right.surveys;
}

pub right_miss : (content : Content) (id : List ℕ) (frame : FrameLists) (cache : CacheLists) → IsRightFor cache content → IsFrame content id frame
    → IsRightFor (after_miss id frame cache) content
right_miss content id frame cache right is = record {
  frames = record {
    each = λ other its member. elim (Contains-cons (id, frame) (take (cache.capacity - 1) cache.entries) (other, its) member) [
      | inl same ↦ (let P : List ℕ × FrameLists → Type 0 = λ entry. IsFrame content entry.0 entry.1 in subst P same is)
      | inr kept ↦ right.frames.each other its (Contains-take (cache.capacity - 1) cache.entries (other, its) kept)
    ];
  };
  surveys = right.surveys;
}

-- what is kept of the whole catalogue is another now, which is right where that of before was
pub right_surveyed : (content : Content) (old : CacheLists) (frames : LruCache (List ℕ) FrameLists) (built : ℕ) (before after : SurveyedLists) → lists_of frames built before ≡ old → IsRightFor old content
    → (AreSurveys content before → AreSurveys content after) → IsRightFor (lists_of frames built after) content
right_surveyed content old frames built before after is_old right so =
    let P : CacheLists → Type 0 = λ cache. IsRightFor cache content in
    let was = subst P (sym is_old) right in
    record { frames = was.frames; surveys = so was.surveys }

-- nothing moves where the frame of an id isn't kept
pub same_frames : (id : List ℕ) (frames : LruCache (List ℕ) FrameLists) → has frames.entries id ≡ false → lru_cache (promoted (same_id id) frames.entries) frames.cap ≡ frames
same_frames id frames absent = ap (λ entries. lru_cache entries frames.cap) (promoted_absent same_id frames id absent).1

-- what is put then stands first, and is counted
pub put_is : (id : List ℕ) (frame : FrameLists) (frames after : LruCache (List ℕ) FrameLists) (built count : ℕ) (surveys : SurveyedLists) → has frames.entries id ≡ false
    → after ≡ lru_cache (put_entries same_id frames id frame) frames.cap → count ≡ min (built + 1) most_built → lists_of after count surveys ≡ after_miss id frame (lists_of frames built surveys)
put_is id frame frames after built count surveys absent is counted =
    ap (λ cache. lists_of cache count surveys) (is ∙ ap (λ entries. lru_cache entries frames.cap) (put_first same_id frames id frame absent))
    ∙ ap (λ n. lists_of (lru_cache ((id, frame) ∷ take (frames.cap - 1) frames.entries) frames.cap) n surveys) counted

-- what is so is so of an answer that is a refusal
pub on_err : {A E : Type 0} (answer : Result A E) (P : Type 0) → P → OnErr answer P
on_err (Ok _) P so = tt
on_err (Err _) P so = so

-- one more is asked for
pub filled_more : (ids : List (List ℕ)) (id : List ℕ) (frame : FrameLists) (old between new : CacheLists) → AreFilled ids old between → IsFilled id frame between new
    → AreFilled (ids ++ id ∷ []) old new
filled_more [] id frame old between new so_far is =
    let P : CacheLists → Type 0 = λ cache. IsFilled id frame cache new in
    (new, frame, subst P so_far is, refl)
filled_more (first ∷ ids) id frame old between new so_far is = (so_far.0, so_far.1, so_far.2, filled_more ids id frame so_far.0 between new so_far.3 is)

-- those up to an index, and the one at it
pub filled_on : (ids : List (List ℕ)) (i : ℕ) (id : List ℕ) (frame : FrameLists) (old between new : CacheLists) → i < length ids → id ≡ get_or ids i id
    → AreFilled (take i ids) old between → IsFilled id frame between new → AreFilled (take (i + 1) ids) old new
filled_on ids i id frame old between new below at so_far is =
    let P : List (List ℕ) → Type 0 = λ l. AreFilled l old new in
    subst P (sym (take_more ids i id below ∙ ap (λ (x : List ℕ). take i ids ++ x ∷ []) (sym at))) (filled_more (take i ids) id frame old between new so_far is)

-- what is kept of the whole catalogue stays, where frames are asked for
filled_keeps : (id : List ℕ) (frame : FrameLists) (old new : CacheLists) → IsFilled id frame old new → new.surveys ≡ old.surveys
filled_keeps id frame old new filled = elim (cases_Bool (has old.entries id)) [
  | inl kept ↦ ap (λ cache. cache.surveys) (filled.hit kept)
  | inr absent ↦ ap (λ cache. cache.surveys) (filled.miss absent)
]

pub all_filled_keep : (ids : List (List ℕ)) (old new : CacheLists) → AreFilled ids old new → new.surveys ≡ old.surveys
all_filled_keep [] old new same = ap (λ cache. cache.surveys) same
all_filled_keep (id ∷ ids) old new filled = all_filled_keep ids filled.0 new filled.3 ∙ filled_keeps id filled.1 old filled.0 filled.2
