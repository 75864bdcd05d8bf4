-- What a text that is written whole gives.
use Rattle.std.proofs.Common.{ℕ, List, length, Option, arith, subst, sym}
use Rattle.std.proofs.lemmas.List.{take_all}
use Rattle.std.specs.Io.KnownBytes.{Appends}
use Rattle.transfer.specs.Transfer.{AppendsFront}

-- all of a text is a front of it
pub front_of_all : (old new : Option (List ℕ)) (text : List ℕ) → Appends old new text → AppendsFront old new text
front_of_all old new text all = (length text, subst (Appends old new) (sym (take_all (length text) text (omega arith))) all)
