-- What several calls tell, one after the other.
use Rattle.std.specs.Prelude.{IfOk, Result}
use Rattle.lemmas.proofs.ResultFacts.{ok_so}
use Rattle.catalogue.specs.View.{IsLawful, Tells, View}
use Rattle.catalogue.proofs.SourceFacts.{told_both, told_later, told_so, told_sooner}

-- what was seen so far: all that is held is kept, and this is told of it
pub record HasSeen {Source Held : Type 0} (view : View Source Held) (old new : Source) (Fact : Held → Type 0) : Type 0 where
  pub keeps : view.keeps old new
  pub told : Tells view old new Fact

module _ {Source Held : Type 0} {view : View Source Held} where
  pub seen : {a b : Source} {Fact : Held → Type 0} → Tells view a b Fact → view.keeps a b → HasSeen view a b Fact
  seen told keeps = record { keeps = keeps; told = told }

  -- what one more call tells is seen with it
  pub then_seen : {a b c : Source} {Fact Other : Held → Type 0} → IsLawful view → HasSeen view a b Fact → Tells view b c Other → view.keeps b c
      → HasSeen view a c (λ this. Fact this × Other this)
  then_seen law before told keeps =
      let first = law.keeps _ _ before.keeps in
      let second = law.keeps _ _ keeps in
      record { keeps = law.on _ _ _ before.keeps keeps; told = told_both (told_sooner before.told second) (told_later first second told) }

  -- where the last call answers, what it tells then follows from what it has found and what was told before
  pub told_on : {a b c : Source} {Found Fault : Type 0} {Fact : Held → Type 0} {Later Other : Found → Held → Type 0} (answer : Result Found Fault) → IsLawful view
      → Tells view a b Fact → view.keeps a b → IfOk answer (λ found. Tells view b c (Later found)) → view.keeps b c
      → ((found : Found) (this : Held) → Fact this → Later found this → Other found this) → IfOk answer (λ found. Tells view a c (Other found))
  told_on answer law fact keeps later goes so =
      ok_so answer later (λ found told.
      let both = then_seen law (seen fact keeps) told goes in
      told_so both.told (λ this facts. so found this facts.0 facts.1))
