-- Bytes that were read into the room of an intake.
use Rattle.std.proofs.Common.{◌≡◌, ℕ, ◌+◌, ◌≤◌, List, ◌++◌, length, take, drop, ap, ◌∙◌, arith, length-drop}
use Rattle.std.proofs.Math.Seq.{take-add}
use Rattle.std.proofs.lemmas.List.{drop-append-le, length-take-le}

-- the bytes of a room whose end moved over what was read: those from before, and what was read
pub view_of_grown : (old new : List ℕ) (start end n : ℕ) → start ≤ end → end + n ≤ length new → take end new ≡ take end old
    → drop start (take (end + n) new) ≡ drop start (take end old) ++ take n (drop end new)
view_of_grown old new start end n from within kept =
    ap (drop start) (take-add end n new)
    ∙ drop-append-le start (take end new) (take n (drop end new)) (omega (arith, length-take-le end new (omega (arith, within)), from))
    ∙ ap (λ front. drop start front ++ take n (drop end new)) kept

-- as many bytes were read as the end moved over
pub length_of_read : (new : List ℕ) (end n : ℕ) → end + n ≤ length new → length (take n (drop end new)) ≡ n
length_of_read new end n within = length-take-le n (drop end new) (omega (arith, within, length-drop {A = ℕ}))
