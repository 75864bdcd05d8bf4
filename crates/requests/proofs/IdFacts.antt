-- Texts that are too long for an id.
use Rattle.std.proofs.Common.{◌≡◌, ℕ, ◌+◌, ◌<◌, ◌&&◌, Bool, true, false, List, ◌∷◌, ◌++◌, length, nat_le, None, refl, ap, ◌∙◌, arith, length-append}
use Rattle.std.proofs.lemmas.Bool.Decides.{nat_tests}
use Rattle.mcs_reader.specs.Id.{id_of, is_id_text}

and_false : (a b c : Bool) → b ≡ false → (a && b && c) ≡ false
and_false true true c h = cc
and_false true false c h = refl
and_false false b c h = refl

not_id : (text : List ℕ) → is_id_text text ≡ false → id_of text ≡ None
not_id text h = rw h refl

pub too_long : (all front rest : List ℕ) (b : ℕ) → all ≡ front ++ (b ∷ rest) → length front ≡ 7 → id_of all ≡ None
too_long all front rest b is full =
    let count : length all ≡ length front + length (b ∷ rest) = ap length is ∙ length-append front (b ∷ rest) in
    let more : 7 < length all = omega arith in
    let over : nat_le (length all) 7 ≡ false = grind (arith, nat_tests) in
    not_id all (and_false _ _ _ over)
