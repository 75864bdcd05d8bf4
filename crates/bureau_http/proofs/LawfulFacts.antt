-- What is served in runs that are kept is served in lawful ones.
use Rattle.std.specs.Prelude.{◌≡◌, ℕ, List, Option, Result, Ok, Err, IfErr, IfOk, map}
use Rattle.std.proofs.Common.{subst}
use Rattle.std.specs.Global.{Vec}
use Rattle.catalogue.specs.View.{Tells, View}
use Rattle.catalogue.proofs.SourceFacts.{told_so}
use Rattle.bureau_store.specs.Tables.{Tables}
use Rattle.bureau.specs.Joint.{CallBy}
use Rattle.bureau.specs.Kept.{IsKeptRun}
use Rattle.bureau.specs.Runs.{IsLawfulRun}
use Rattle.bureau.proofs.RunFacts.{lawful_run}
use Rattle.bureau_http.specs.Exchange.{calls_of}
use Rattle.bureau_http.specs.List.{AreServed, AreServedAs, AreServedInPart}
use Rattle.bureau_http.specs.Served.{HasRun, IsOneRun, IsServed}
use Rattle.bureau_http.specs.declared.fault.ConnFault.{ConnFault}
use Rattle.bureau_http.specs.declared.serving.Served.{Served}
use Rattle.bureau_http.proofs.ServingFacts.{same_run}

module _ {Desk : Type 0} (view : View Desk Tables) (old new : Desk) where
  pub ran_lawful : (this : Tables) → HasRun (IsKeptRun view old new) this → HasRun (IsLawfulRun view old new) this
  ran_lawful this ran = record { calls = ran.calls; closing = ran.closing; run = lawful_run view old new this ran.calls ran.closing ran.run }

  -- one run that is kept is a lawful one
  run_lawful : (this : Tables) (calls : List CallBy) → IsOneRun (IsKeptRun view old new) this calls → IsOneRun (IsLawfulRun view old new) this calls
  run_lawful this calls = same_run (IsKeptRun view old new) (IsLawfulRun view old new) this calls (λ closing run. lawful_run view old new this calls closing run)

  pub one_lawful : (this : Tables) (left before after : Option (List ℕ)) (answer : Result Served ConnFault) (bytes : List ℕ)
      → IsServed (IsKeptRun view old new) this left before after answer bytes → IsServed (IsLawfulRun view old new) this left before after answer bytes
  one_lawful this left before after answer bytes served =
      record { exchanges = served.exchanges; ran = run_lawful this (calls_of served.exchanges) served.ran; exchanged = served.exchanged }

  pub list_lawful : (this : Tables) (connections written : List (List ℕ)) → AreServed (IsKeptRun view old new) this connections written
      → AreServed (IsLawfulRun view old new) this connections written
  list_lawful this connections written served =
      record { exchanges = served.exchanges; ran = run_lawful this _ served.ran; whole = served.whole; isolated = served.isolated }

  pub part_lawful : (this : Tables) (connections written : List (List ℕ)) → AreServedInPart (IsKeptRun view old new) this connections written
      → AreServedInPart (IsLawfulRun view old new) this connections written
  part_lawful this connections written served = record {
    exchanges = served.exchanges;
    hand = served.hand;
    ran = run_lawful this _ served.ran;
    whole = served.whole;
    in_hand = served.in_hand;
    isolated = served.isolated;
  }

  -- what a list answers in runs that are kept, of the connections by another name
  same_list : {Fault : Type 0} (slice connections : List (Vec ℕ)) → slice ≡ connections → (answer : Result (Vec (Vec ℕ)) (Fault × Vec (Vec ℕ)))
      → Tells view old new (λ this. AreServedAs (IsKeptRun view old new) this (map (λ connection. connection.items) slice) answer)
      → Tells view old new (λ this. AreServedAs (IsKeptRun view old new) this (map (λ connection. connection.items) connections) answer)
  same_list slice connections same answer tells =
      subst (λ (these : List (Vec ℕ)). Tells view old new (λ this. AreServedAs (IsKeptRun view old new) this (map (λ connection. connection.items) these) answer)) same tells

  pub all_lawful : {Fault : Type 0} (slice connections : List (Vec ℕ)) → slice ≡ connections → (answer : Result (Vec (Vec ℕ)) (Fault × Vec (Vec ℕ)))
      → Tells view old new (λ this. AreServedAs (IsKeptRun view old new) this (map (λ connection. connection.items) slice) answer)
      → IfOk answer (λ written. Tells view old new (λ this. AreServed (IsLawfulRun view old new) this (map (λ connection. connection.items) connections) (map (λ text. text.items) written.items)))
  all_lawful {Fault = Fault} slice connections same (Ok written) tells =
      told_so (same_list {Fault = Fault} slice connections same (Ok written) tells) (λ this served. list_lawful this _ _ served)
  all_lawful slice connections same (Err refused) tells = tt

  pub first_lawful : {Fault : Type 0} (slice connections : List (Vec ℕ)) → slice ≡ connections → (answer : Result (Vec (Vec ℕ)) (Fault × Vec (Vec ℕ)))
      → Tells view old new (λ this. AreServedAs (IsKeptRun view old new) this (map (λ connection. connection.items) slice) answer)
      → IfErr answer (λ refused. Tells view old new (λ this. AreServedInPart (IsLawfulRun view old new) this (map (λ connection. connection.items) connections) (map (λ text. text.items) refused.1.items)))
  first_lawful slice connections same (Ok written) tells = tt
  first_lawful slice connections same (Err refused) tells =
      told_so (same_list slice connections same (Err refused) tells) (λ this served. part_lawful this _ _ served)
