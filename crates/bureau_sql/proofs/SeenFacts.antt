-- Reads of a store, one after the other.
use Rattle.std.proofs.Common.{◌≡◌, ◌<◌, ◌∙◌, ◌++◌, ℕ, Err, List, [], ◌∷◌, Option, Result, ap, ap₂, arith, get_or, inl, inr, length, map, sym, take, ◌+◌}
use Rattle.std.proofs.lemmas.List.{map_more}
use Rattle.holddata.specs.declared.hold.Hold.{Hold}
use Rattle.catalogue.specs.Content.{Content, holds_on, record_of}
use Rattle.catalogue.specs.Seen.{SeenLists, seen_in}
use Rattle.catalogue.specs.View.{Asks, HasFailed, IsLawful, IsOpen, MayAsk, View}
use Rattle.catalogue.specs.declared.sysmod.Sysmod.{Sysmod}

module _ {Source Held : Type 0} (view : View Source Held) (lawful : IsLawful view) where
  pub failed_after : (old mid new : Source) → view.keeps old mid → HasFailed view mid new → HasFailed view old new
  failed_after old mid new keeps (inl more) = inl (omega (arith, (lawful.keeps old mid keeps).goes.failures_rise, more))
  failed_after old mid new keeps (inr most) = inr most

  -- where the last of several reads is refused, so are all
  pub refused_after : {Answer Last Fault : Type 0} (device : Fault) (old mid new : Source) (fault : Fault) (result : Result Answer Fault)
      → view.keeps old mid → (IsOpen view old → IsOpen view mid) → Asks view {Answer = Last} device mid new (Err fault) → result ≡ Err fault → MayAsk view device old new result
  refused_after device old mid new fault result keeps opens asks is = record {
    keeps = lawful.on old mid new keeps asks.keeps;
    cause = λ told. failed_after old mid new keeps (asks.cause (let same : fault ≡ device = cc in ap Err same));
    stays_open = λ other standing. asks.is_open (λ told. other (let same : fault ≡ device = cc in is ∙ ap Err same));
  }

-- one more is seen
pub one_more_seen : (content : Content) (ids : List (List ℕ)) (at : ℕ) (id : List ℕ) (seen : List SeenLists) (sysmod : Option Sysmod) (holds : List Hold) → at < length ids → get_or ids at id ≡ id
    → seen ≡ map (seen_in content) (take at ids) → sysmod ≡ record_of content id → holds ≡ holds_on content id
    → seen ++ record { sysmod = sysmod; holds = holds } ∷ [] ≡ map (seen_in content) (take (at + 1) ids)
one_more_seen content ids at id seen sysmod holds within is so_far one on_it =
    ap₂ {C = List SeenLists} (λ xs x. xs ++ x ∷ []) so_far (λ i. record { sysmod = one i; holds = on_it i })
    ∙ ap (λ x. map (seen_in content) (take at ids) ++ seen_in content x ∷ []) (sym is) ∙ sym (map_more (seen_in content) ids at id within)
