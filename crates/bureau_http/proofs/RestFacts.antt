-- What is left of the bytes of a connection: the last of those that were there.
use Rattle.std.proofs.Common.{◌≡◌, ℕ, List, [], ◌++◌, take, drop, take-append-drop, Option, Some, None, sym, ap, ◌∙◌, append_assoc}
use Rattle.std.specs.Io.KnownBytes.{Consumes, Keeps, prepend_known}

-- the first of those that are held were taken off
pub some_taken : (old left : Option (List ℕ)) (held new : List ℕ) (n : ℕ) → Keeps old (prepend_known held left) → new ≡ drop n held
    → (taken : List ℕ) × Consumes old (prepend_known new left) taken
some_taken None left held new n kept is = ([], tt)
some_taken (Some xs) None held new n kept is = absurd kept
some_taken (Some xs) (Some ys) held new n kept is = (
  take n held,
  sym kept ∙ ap (λ l. l ++ ys) (sym (take-append-drop n held)) ∙ append_assoc (take n held) (drop n held) ys
      ∙ ap (λ l. take n held ++ (l ++ ys)) (sym is),
)
