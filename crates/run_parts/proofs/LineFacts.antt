-- The line of a fault with a name after it, written in four parts.
use Rattle.std.proofs.Common.{◌≡◌, ℕ, ◌-◌, List, ◌++◌, length, take, Option, ◌∙◌, ap, subst, arith}
use Rattle.std.proofs.KnownBytes.{Appends-trans}
use Rattle.std.proofs.lemmas.List.{length-append, take_at}
use Rattle.std.specs.Prelude.{codes, decimal}
use Rattle.std.specs.Io.KnownBytes.{Appends}
use Rattle.faults.specs.FaultText.{place_text, text_of}
use Rattle.faults.specs.declared.any.AnyFault.{AnyFault}
use Rattle.transfer.specs.Transfer.{AppendsFront}
use Rattle.transfer.proofs.FrontFacts.{front_first, front_second}
use Rattle.run_parts.specs.Outputs.{line_in}

-- what stands in the line before the name of the file
abbrev pub line_front : AnyFault → List ℕ
line_front fault = codes "FAULT " ++ decimal fault.number ++ place_text fault.place

-- the line of a fault without its end
pub without_end : (fault : AnyFault) (line front : List ℕ) → line ≡ text_of fault → front ≡ take (length line - 1) line → front ≡ line_front fault
without_end fault line front is cut =
    let last = length-append (line_front fault) (codes "\n") in
    cut ∙ ap (λ (l : List ℕ). take (length l - 1) l) is
    ∙ take_at (line_front fault) (codes "\n") (length (line_front fault ++ codes "\n") - 1) (omega (arith, last))

-- The line is written in four parts; where one is cut short, a front of the line was written.
module _ (fault : AnyFault) (name front : List ℕ) (front_is : front ≡ line_front fault) (old : Option (List ℕ)) where
  whole : (new : Option (List ℕ)) → AppendsFront old new (front ++ codes " " ++ name ++ codes "\n") → AppendsFront old new (line_in fault name)
  whole new = subst (AppendsFront old new) (ap (λ l. l ++ codes " " ++ name ++ codes "\n") front_is)

  pub cut_in_front : (first : Option (List ℕ)) → AppendsFront old first front → AppendsFront old first (line_in fault name)
  cut_in_front first now =
      whole first (front_first old first (front ++ codes " " ++ name) (codes "\n")
      (front_first old first (front ++ codes " ") name (front_first old first front (codes " ") now)))

  pub cut_in_blank : (first second : Option (List ℕ)) → Appends old first front → AppendsFront first second (codes " ") → AppendsFront old second (line_in fault name)
  cut_in_blank first second before now =
      whole second (front_first old second (front ++ codes " " ++ name) (codes "\n")
      (front_first old second (front ++ codes " ") name (front_second old first second front (codes " ") before now)))

  pub cut_in_name : (first second third : Option (List ℕ)) → Appends old first front → Appends first second (codes " ") → AppendsFront second third name
      → AppendsFront old third (line_in fault name)
  cut_in_name first second third before blank now =
      whole third (front_first old third (front ++ codes " " ++ name) (codes "\n")
      (front_second old second third (front ++ codes " ") name (Appends-trans old first second front (codes " ") before blank) now))

  pub cut_in_end : (first second third last : Option (List ℕ)) → Appends old first front → Appends first second (codes " ") → Appends second third name
      → AppendsFront third last (codes "\n") → AppendsFront old last (line_in fault name)
  cut_in_end first second third last before blank named now =
      whole last (front_second old third last (front ++ codes " " ++ name) (codes "\n")
      (Appends-trans old second third (front ++ codes " ") name (Appends-trans old first second front (codes " ") before blank) named) now)
