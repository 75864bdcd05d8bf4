-- Bytes that came over a connection.
use Rattle.std.proofs.Common.{◌≡◌, ℕ, ◌+◌, ◌≤◌, List, [], ◌++◌, length, take, drop, take-append-drop, Option, Some, None, Result, Ok, Err, OnOk, sym, ap, ◌∙◌, subst, arith, append-nil, append_assoc, length-append}
use Rattle.std.proofs.lemmas.List.{nil_from_length}
use Rattle.std.specs.Io.KnownBytes.{Consumes, Keeps, prepend_known}
use Rattle.requests.specs.Progress.{HasSeen, Sees}
use Rattle.requests.specs.declared.progress.Progress.{Progress}
use Rattle.connections.specs.Items.{Grows}
use Rattle.connections.specs.declared.connection.Connection.{Connection}
use Rattle.connections.specs.declared.connection.Phase.TheVariants.{Open}

-- all of a text was read, and nothing else
pub whole_in : (old new text : List ℕ) (left : Option (List ℕ)) → Keeps (prepend_known old (Some text)) (prepend_known new left)
    → length new ≡ length old + length text → new ≡ old ++ text
whole_in old new text None kept count = absurd kept
whole_in old new text (Some rest) kept count =
    let both = ap length kept in
    let first = length-append new rest in
    let second = length-append old text in
    let none : rest ≡ [] = nil_from_length rest (omega arith) in
    sym (append-nil new) ∙ ap (λ l. new ++ l) (sym none) ∙ kept

-- they are held now
pub grown : {E : Type 0} (r : Result (Unit {0}) E) (old : Connection) (text held : List ℕ) → old.phase ≡ Open → OnOk r (held ≡ old.held ++ text)
    → OnOk r (Grows text old (record { held = held; out = old.out; note = old.note; ordinal = old.ordinal; phase = old.phase }))
grown (Err e) old text held at is = is
grown (Ok a) old text held at is = (
  at,
  ap (λ l. record { held = l; out = old.out; note = old.note; ordinal = old.ordinal; phase = old.phase }) is
      ∙ ap (λ p. record { held = old.held ++ text; out = old.out; note = old.note; ordinal = old.ordinal; phase = p }) at,
)

-- what was seen of bytes was seen of them with more after them
pub sees_more : (old new : List ℕ) (progress : Progress) → Sees old progress → take (length old) new ≡ old → Sees new progress
sees_more old new progress sees grown more =
    subst (λ l. HasSeen l progress)
    (sym (append_assoc old (drop (length old) new) more) ∙ ap (λ l. l ++ more) (ap (λ l. l ++ drop (length old) new) (sym grown) ∙ take-append-drop (length old) new))
    (sees (drop (length old) new ++ more))

-- bytes of which the first were taken off are no more
pub fewer_left : (held new : List ℕ) (left : Option (List ℕ)) → (taken : List ℕ) × Consumes (prepend_known held (Some [])) (prepend_known new left) taken
    → length new ≤ length held
fewer_left held new None (taken, kept) = absurd kept
fewer_left held new (Some rest) (taken, kept) =
    let all = ap length kept in
    let old = length-append held [] in
    let parts = length-append taken (new ++ rest) in
    let last = length-append new rest in
    omega (arith, all, old, parts, last)
