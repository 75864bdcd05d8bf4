-- What is kept stays true of a content, and is true of each content that says the same outside the ids of what went.
use Rattle.std.proofs.Common.{◌≡◌, ℕ, Bool, true, false, List, not, refl}
use Rattle.lemmas.proofs.ListFacts.{kept_from}
use Rattle.catalogue.specs.Content.{Content, IsInOrder}
use Rattle.catalogue.specs.Touched.{AgreeOutside}
use Rattle.chains.specs.Frames.{FrameLists, shares}
use Rattle.chains.proofs.FrameFacts.{apart_unless, frames_stay}
use Rattle.chain_cache.specs.Cache.{AreFrames, untouched}

module _ (ids : List (List ℕ)) (entries : List (List ℕ × FrameLists)) where
  abbrev stays : List ℕ × FrameLists → Bool
  stays entry = not (shares ids entry.1)

  pub right_kept : (content : Content) → AreFrames content entries → AreFrames content (untouched ids entries)
  right_kept content right = record { each = λ id frame member. right.each id frame (kept_from stays entries (id, frame) member).member }

  unshared : (b : Bool) → not b ≡ true → false ≡ b
  unshared true is = absurd cc
  unshared false is = refl

  pub right_after : (old new : Content) → IsInOrder old → IsInOrder new → AreFrames old entries → AgreeOutside ids old new → AreFrames new (untouched ids entries)
  right_after old new ordered_old ordered_new right agree = record {
    each = λ id frame member.
        let kept = kept_from stays entries (id, frame) member in
        frames_stay ids old new id frame ordered_old ordered_new agree (apart_unless ids frame false (unshared (shares ids frame) kept.passes)) (right.each id frame kept.member);
  }
