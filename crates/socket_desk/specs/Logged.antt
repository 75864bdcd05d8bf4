-- What goes out to the log, and what is left out and counted.
use Rattle.std.specs.Prelude.{◌≡◌, ◌⊎◌, ℕ, ◌+◌, ◌==◌, min, if◌then◌else◌, List, [], ◌∷◌, ◌++◌, sum_by, Bool, true, false, Option, Some, None}
use Rattle.std.specs.Io.KnownBytes.{Appends, Keeps}
use Rattle.log_lines.specs.Lines.{lost_text}
use Rattle.socket_desk.specs.declared.lines.Lines.{Lines}
use Rattle.socket_desk.specs.declared.log.Log.{Log}

-- the number of line ends of a text
abbrev pub ends_line : ℕ → ℕ
ends_line byte = if byte == 10 then 1 else 0

abbrev pub lines_in : List ℕ → ℕ
lines_in text = sum_by ends_line text

-- so many, as far as a counter goes
abbrev pub counted : ℕ → ℕ
counted n = min n 18446744073709551615

-- a line is put behind those of a round, or left out and counted
abbrev pub IsPut : List ℕ → ℕ → List ℕ → List ℕ → ℕ → Type 0
IsPut old lost line new lost_after = ((new ≡ old ++ line) × (lost_after ≡ lost)) ⊎ ((new ≡ old) × (lost_after ≡ counted (lost + 1)))

-- whole lines, or nothing
abbrev pub AreLines : List ℕ → Type 0
AreLines text = (text ≡ []) ⊎ ((front : List ℕ) × (text ≡ front ++ 10 ∷ []))

-- The rest that was left goes out before a text, as far as both go out now. What doesn't is the rest that is left.
abbrev pub GoesOut : Option (List ℕ) → List ℕ → List ℕ → Option (List ℕ) → List ℕ → Type 0
GoesOut old rest text new rest_after = (went : List ℕ) × Appends old new went × (rest ++ text ≡ went ++ rest_after)

-- a text of which a part goes out: the rest is left. Or nothing of it goes out, and nothing is left of it.
abbrev pub IsSent : Bool → Option (List ℕ) → List ℕ → Option (List ℕ) → List ℕ → Type 0
IsSent true old text new rest_after = GoesOut old [] text new rest_after
IsSent false old text new rest_after = Keeps old new × (rest_after ≡ [])

-- Of these lines whole ones go out, behind the rest that was left, and the others are left out and counted. So many were left out
-- before: a line that tells the count goes out before any other.
pub record IsLogged (old : Option (List ℕ)) (rest : List ℕ) (lost : ℕ) (stamp lines : List ℕ) (new : Option (List ℕ)) (rest_after : List ℕ) (lost_after : ℕ) : Type 0 where
  pub front : List ℕ
  pub others : List ℕ
  pub are : lines ≡ front ++ others
  pub whole : AreLines front
  pub told : List ℕ
  pub out : GoesOut old rest (told ++ front) new rest_after
  pub counts : ((told ≡ []) × ((lost ≡ 0) ⊎ (front ≡ [])) × (lost_after ≡ counted (lost + lines_in others)))
      ⊎ ((told ≡ lost_text stamp lost) × (lost_after ≡ counted (lines_in others)))

-- The lines of a round go out so, if a log is kept. If there are none, and none had no room, nothing is done.
module _ {W : Type 0} (contents : W → Option (List ℕ)) where
  abbrev pub AreLogged : Option (Log W) → Lines → Option (Log W) → Type 0
  AreLogged None lines new = new ≡ None
  AreLogged (Some old) lines None = ⊥
  AreLogged (Some old) lines (Some new) =
      IsLogged (contents old.writer) old.rest.items (counted (old.lost + lines.lost)) lines.stamp lines.text.items (contents new.writer) new.rest.items new.lost
      ⊎ ((lines.text.items ≡ []) × (lines.lost ≡ 0) × (new ≡ old))

-- ---- private: the steps of it

-- how many were left out, if any were, is told behind nothing; or that doesn't go out
abbrev pub IsToldLost : Bool → Option (List ℕ) → ℕ → List ℕ → Option (List ℕ) → List ℕ → ℕ → Type 0
IsToldLost true old lost stamp new rest_after lost_after = (rest_after ≡ [])
    × (((lost ≡ 0) × (lost_after ≡ lost) × Keeps old new) ⊎ ((lost_after ≡ 0) × GoesOut old [] (lost_text stamp lost) new []))
IsToldLost false old lost stamp new rest_after lost_after =
    ((lost_after ≡ lost) × (rest_after ≡ []) × Keeps old new) ⊎ ((lost_after ≡ 0) × GoesOut old [] (lost_text stamp lost) new rest_after)

-- of these lines whole ones go out, behind nothing, and the others are left
abbrev pub AreSent : Option (List ℕ) → List ℕ → Option (List ℕ) → List ℕ → List ℕ → Type 0
AreSent old lines new rest_after others = (front : List ℕ) × (lines ≡ front ++ others) × AreLines front × GoesOut old [] front new rest_after
