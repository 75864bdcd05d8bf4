-- Several calls of one source: what each tells, all together tell.
use Rattle.std.specs.Prelude.{IsErrOf, Ok}
use Rattle.std.proofs.Common.{arith}
use Rattle.catalogue.specs.View.{Goes, IsOpen, Keeps, Tells, View}

module _ {Source Held : Type 0} {view : View Source Held} where
  -- what an earlier call told is still so after a later one
  pub told_sooner : {a b c : Source} {Fact : Held → Type 0} → Tells view a b Fact → Keeps view b c → Tells view a c Fact
  told_sooner tells keeps = record { told = λ ours clean this stands. tells.told ours (keeps.goes.clean clean) this stands }

  -- what a later call tells was so before an earlier one
  pub told_later : {a b c : Source} {Fact : Held → Type 0} → Keeps view a b → Keeps view b c → Tells view b c Fact → Tells view a c Fact
  told_later first second tells = record {
    told = λ ours clean this stands.
        let between = second.goes.clean clean in
        tells.told (first.goes.ours ours between) clean this (first.stays ours between this stands);
  }

  -- two facts are one
  pub told_both : {a b : Source} {Fact Other : Held → Type 0} → Tells view a b Fact → Tells view a b Other → Tells view a b (λ this. Fact this × Other this)
  told_both first second = record { told = λ ours clean this stands. (first.told ours clean this stands, second.told ours clean this stands) }

  -- what follows from a fact is told with it
  pub told_so : {a b : Source} {Fact Other : Held → Type 0} → Tells view a b Fact → ((this : Held) → Fact this → Other this) → Tells view a b Other
  told_so tells so = record { told = λ ours clean this stands. so this (tells.told ours clean this stands) }

  -- a source that is open was open
  pub was_open : {a b : Source} → Goes view a b → IsOpen view b → IsOpen view a
  was_open goes is_open = omega (arith, goes.failures_rise, is_open)

  -- what is kept goes on, twice
  pub goes_on : {a b c : Source} → Goes view a b → Goes view b c → Goes view a c
  goes_on first second = record {
    clean = λ clean. first.clean (second.clean clean);
    ours = λ ours clean. second.ours (first.ours ours (second.clean clean)) clean;
    failures_rise = omega (arith, first.failures_rise, second.failures_rise);
  }

-- an answer is no fault
pub no_fault : {Answer Fault : Type 0} {device : Fault} (answer : Answer) → IsErrOf {T = Answer} {E = Fault} (Ok answer) device → ⊥
no_fault answer fault = absurd (cc fault)
