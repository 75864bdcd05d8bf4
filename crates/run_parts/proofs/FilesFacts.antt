-- What is read of a file.
use Rattle.std.proofs.Common.{◌≡◌, ℕ, List, ◌++◌, sym, ap, ◌∙◌, append-nil, Option, Some, None}
use Rattle.std.specs.Io.KnownBytes.{Consumes, IsAtEnd}
use Rattle.run_parts.specs.Files.{KnownFile, Unknown, Missing, Holds, IsContent, IsOpened}

-- what is read of a file to its end is what stands in it
pub content_read : (file : KnownFile) (before after : Option (List ℕ)) (bytes : List ℕ) → IsOpened file before → Consumes before after bytes → IsAtEnd after
    → IsContent file bytes
content_read Unknown before after bytes opened takes ends = tt
content_read Missing before after bytes opened takes ends = absurd opened
content_read (Holds known) None after bytes opened takes ends = cc opened
content_read (Holds known) (Some xs) None bytes opened takes ends = absurd takes
content_read (Holds known) (Some xs) (Some ys) bytes opened takes ends =
    let both : Some xs ≡ Some known = opened in
    let same : xs ≡ known = cc in
    sym (append-nil bytes) ∙ ap (λ l. bytes ++ l) (sym ends) ∙ sym takes ∙ same
