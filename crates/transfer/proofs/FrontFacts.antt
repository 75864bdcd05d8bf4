-- Texts of which a front part was written.
use Rattle.std.proofs.Common.{◌≡◌, inl, inr, ℕ, ◌+◌, List, ◌++◌, length, take, nat_le, Option, refl, sym, ◌∙◌, subst, arith}
use Rattle.std.proofs.KnownBytes.{Appends-trans}
use Rattle.std.proofs.Math.Seq.{take-append-add}
use Rattle.std.proofs.lemmas.List.{take-append-le, take_all}
use Rattle.std.specs.Io.KnownBytes.{Appends}
use Rattle.lemmas.proofs.TestFacts.{either_order}
use Rattle.transfer.specs.Transfer.{AppendsFront}

-- a front of a text is a front of more
front_of_more : (n : ℕ) (text more : List ℕ) → (m : ℕ) × (take m (text ++ more) ≡ take n text)
front_of_more n text more = elim (either_order (nat_le n (length text)) n (length text) refl) [
  | inl h ↦ (n, take-append-le n text more h)
  | inr h ↦ (length text, take-append-le (length text) text more (omega arith) ∙ take_all (length text) text (omega arith) ∙ sym (take_all n text h))
]

pub front_first : (old new : Option (List ℕ)) (text more : List ℕ) → AppendsFront old new text → AppendsFront old new (text ++ more)
front_first old new text more front =
    let part = front_of_more front.0 text more in (part.0, subst (Appends old new) (sym part.1) front.1)

-- a text, and a front of the next one, are a front of both
pub front_second : (old mid new : Option (List ℕ)) (text more : List ℕ) → Appends old mid text → AppendsFront mid new more
    → AppendsFront old new (text ++ more)
front_second old mid new text more first front =
    (length text + front.0, subst (Appends old new) (sym (take-append-add text more front.0)) (Appends-trans old mid new text (take front.0 more) first front.1))
