-- What a test of a category's beginning tells.
use Rattle.std.proofs.Common.{◌≡◌, ℕ, ◌∙◌, Bool, List, length, take, sym, ap}
use Rattle.std.specs.Bool.{Decides}
use Rattle.std.specs.Char.{to_ascii_lowercase}
use Rattle.std.proofs.lemmas.Bool.Decides.{same_from_decides, Decides-like}
use Rattle.std.proofs.lemmas.List.{length-map, take-map}
use Rattle.std.proofs.lemmas.Slice.Eq.{bytes_eq-Decides}
use Rattle.zone_lists.specs.Pattern.{begins_with, in_small_letters}

beginning : (category stem : List ℕ) → in_small_letters (take (length stem) category) ≡ take (length (in_small_letters stem)) (in_small_letters category)
beginning category stem =
    sym (take-map to_ascii_lowercase (length stem) category)
    ∙ ap (λ n. take n (in_small_letters category)) (sym (length-map stem to_ascii_lowercase))

pub begins_as_compared : (category stem : List ℕ) (result : Bool) → Decides result (in_small_letters (take (length stem) category) ≡ in_small_letters stem) → result ≡ begins_with category stem
begins_as_compared category stem result compared =
    same_from_decides result (begins_with category stem) (
    Decides-like result (λ same. sym same ∙ beginning category stem) (λ same. beginning category stem ∙ sym same) compared
    ) (bytes_eq-Decides (in_small_letters stem) (take (length (in_small_letters stem)) (in_small_letters category)))
