-- What is read, one entry at a time.
use Rattle.std.proofs.Common.{◌≡◌, ℕ, ◌+◌, ◌<◌, ◌==◌, ◌∙◌, Bool, true, false, cond, List, [], ◌∷◌, ◌++◌, length, map, take, get_or, refl, sym, ap, append_assoc}
use Rattle.std.proofs.lemmas.List.{take_more}
use Rattle.std.specs.List.{filter}
use Rattle.holddata.specs.HoldKey.{kind_order}
use Rattle.holddata.specs.declared.hold.Hold.{Hold}
use Rattle.holddata.specs.declared.key.Kind.TheVariants.{ErrorHold}
use Rattle.listings.specs.Sights.{reasons_in}

is_error : Hold → Bool
is_error hold = kind_order hold.key.kind == kind_order ErrorHold

-- the reason of a hold, where the test holds
abbrev pub reason_if : Bool → Hold → List (List ℕ)
reason_if b hold = cond b (hold.key.reason ∷ []) []

reasons_push : (holds : List Hold) (hold : Hold) → reasons_in (holds ++ hold ∷ []) ≡ reasons_in holds ++ reason_if (kind_order hold.key.kind == kind_order ErrorHold) hold
reasons_push [] hold = go (kind_order hold.key.kind == kind_order ErrorHold) where
  go : (b : Bool) → map (λ (h : Hold). h.key.reason) (cond b (hold ∷ []) []) ≡ cond b (hold.key.reason ∷ []) []
  go true = refl
  go false = refl
reasons_push (h ∷ hs) hold = go (kind_order h.key.kind == kind_order ErrorHold) (reasons_push hs hold) where
  go : (b : Bool) → reasons_in (hs ++ hold ∷ []) ≡ reasons_in hs ++ reason_if (kind_order hold.key.kind == kind_order ErrorHold) hold
      → map (λ (x : Hold). x.key.reason) (cond b (h ∷ filter (λ x. kind_order x.key.kind == kind_order ErrorHold) (hs ++ hold ∷ [])) (filter (λ x. kind_order x.key.kind == kind_order ErrorHold) (hs ++ hold ∷ [])))
      ≡ map (λ (x : Hold). x.key.reason) (cond b (h ∷ filter (λ x. kind_order x.key.kind == kind_order ErrorHold) hs) (filter (λ x. kind_order x.key.kind == kind_order ErrorHold) hs)) ++ reason_if (kind_order hold.key.kind == kind_order ErrorHold) hold
  go true rest = ap (λ l. h.key.reason ∷ l) rest
  go false rest = rest

pub reasons_more : (holds : List Hold) (i : ℕ) (hold : Hold) (start old new : List (List ℕ)) → i < length holds → hold ≡ get_or holds i hold
    → old ≡ start ++ reasons_in (take i holds)
    → new ≡ old ++ reason_if (kind_order hold.key.kind == kind_order ErrorHold) hold
    → new ≡ start ++ reasons_in (take (i + 1) holds)
reasons_more holds i hold start old new below at was now =
    let added : List (List ℕ) = reason_if (kind_order hold.key.kind == kind_order ErrorHold) hold in
    now
    ∙ ap (λ l. l ++ added) was
    ∙ append_assoc start (reasons_in (take i holds)) added
    ∙ ap (λ l. start ++ l) (sym (reasons_push (take i holds) hold))
    ∙ ap (λ hs. start ++ reasons_in hs) (sym (take_more holds i hold below ∙ ap (λ h. take i holds ++ h ∷ []) (sym at)))
