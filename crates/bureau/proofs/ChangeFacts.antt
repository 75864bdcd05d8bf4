-- What comes of a change, from what is read on the way.
use Rattle.std.proofs.Common.{◌≡◌, inl, inr, ℕ, true, false, List, refl, sym, ◌∙◌, ap, subst}
use Rattle.std.specs.Prelude.{Option, Some, None, Result, Ok, Err, is_some}
use Rattle.catalogue.proofs.SourceFacts.{told_later, told_so, told_sooner}
use Rattle.catalogue.specs.View.{IsLawful, Tells, View}
use Rattle.bureau_store.specs.Tables.{Tables, ZoneTable, zone_named}
use Rattle.bureau_store.specs.declared.caller.Caller.{Caller}
use Rattle.bureau_store.specs.declared.caller.Caller.TheVariants.{Client}
use Rattle.faults.specs.FaultText.{text_of}
use Rattle.faults.specs.Refusal.{IsRefusal}
use Rattle.faults.specs.declared.any.AnyFault.{AnyFault}
use Rattle.faults.specs.declared.fault.Cause.{Cause}
use Rattle.faults.specs.declared.fault.Cause.TheVariants.{Input, Machine}
use Rattle.zone_lists.specs.ListFault as list_fault
use Rattle.zone_lists.specs.declared.fault.ListFault.{ListFault}
use Rattle.zone_lists.specs.declared.fault.ListFault.TheVariants as list
use Rattle.bureau.specs.Bodies.{list_said}
use Rattle.bureau.specs.Call.{Call}
use Rattle.bureau.specs.Outcomes.{Suits, IsOutcome, IsInTurn, IsInTurnAt, effect_as, maker_of}
use Rattle.bureau.specs.Faults.{IsTold}
use Rattle.bureau.specs.Outcome.{Outcome, answered, accepted, in_turn, not_found, of_zone, outcome, plain, said}
use Rattle.bureau.specs.Replies.{reply_as}
use Rattle.bureau.specs.View.{view_of}
use Rattle.bureau.specs.declared.outcome.Outcome.TheVariants.{Answered, Accepted}
use Rattle.bureau.specs.declared.outcome.AcceptedChange.{AcceptedChange}
use Rattle.bureau.specs.declared.reply.Reply.{Reply}

module _ {Source : Type 0} {view : View Source Tables} where
  -- a change out of turn is answered by its number alone
  pub out_of_turn : {a b : Source} (caller : Caller) (call : Call) (number : Option ℕ) (order : Result ℕ Reply) (reply : Reply) (decided : Tables → Outcome)
      → ((this : Tables) → outcome (view_of caller this) call ≡ in_turn (this.last caller) number (decided this))
      → Tells view a b (λ this. IsInTurn (this.last caller) number order) → order ≡ Err reply
      → Tells view a b (λ this. IsOutcome caller call this (Answered reply))
  out_of_turn caller call number order reply decided comes tells is = record {
    told = λ ours clean this stands.
        let late : IsInTurn (this.last caller) number (Err reply) = subst (IsInTurn (this.last caller) number) is (tells.told ours clean this stands) in
        (sym (comes this ∙ late (decided this)), tt);
  }

  -- a change in turn is answered
  pub answered_in_turn : {a b : Source} (caller : Caller) (call : Call) (number : Option ℕ) (order : Result ℕ Reply) (next : ℕ) (reply : Reply) (decided : Tables → Outcome)
      → ((this : Tables) → outcome (view_of caller this) call ≡ in_turn (this.last caller) number (decided this))
      → Tells view a b (λ this. IsInTurn (this.last caller) number order) → order ≡ Ok next
      → Tells view a b (λ this. decided this ≡ answered (reply_as reply))
      → Tells view a b (λ this. IsOutcome caller call this (Answered reply))
  answered_in_turn caller call number order next reply decided comes tells is answers = record {
    told = λ ours clean this stands.
        let timely : IsInTurn (this.last caller) number (Ok next) = subst (IsInTurn (this.last caller) number) is (tells.told ours clean this stands) in
        (sym (comes this ∙ timely.1 (decided this) ∙ answers.told ours clean this stands), tt);
  }

  -- a change in turn is accepted
  pub accepted_in_turn : {a b : Source} (caller : Caller) (call : Call) (number : Option ℕ) (order : Result ℕ Reply) (change : AcceptedChange) (decided : Tables → Outcome)
      → ((this : Tables) → outcome (view_of caller this) call ≡ in_turn (this.last caller) number (decided this))
      → Tells view a b (λ this. IsInTurn (this.last caller) number order) → order ≡ Ok change.number → maker_of change.effect ≡ caller
      → Tells view a b (λ this. (decided this ≡ accepted (effect_as change.effect) change.reply.items) × Suits change.effect this)
      → Tells view a b (λ this. IsOutcome caller call this (Accepted change))
  accepted_in_turn caller call number order change decided comes tells is maker asked = record {
    told = λ ours clean this stands.
        let timely : IsInTurn (this.last caller) number (Ok change.number) = subst (IsInTurn (this.last caller) number) is (tells.told ours clean this stands) in
        let both = asked.told ours clean this stands in
        (sym (comes this ∙ timely.1 (decided this) ∙ both.0), (timely.0, maker, both.1));
  }

  -- the same where what is read after the number decides
  pub answered_after : {a b c : Source} {Found : Tables → Type 0} → IsLawful view → (caller : Caller) (call : Call) (number : Option ℕ) (order : Result ℕ Reply) (next : ℕ) (reply : Reply) (decided : Tables → Outcome)
      → ((this : Tables) → outcome (view_of caller this) call ≡ in_turn (this.last caller) number (decided this))
      → view.keeps a b → view.keeps b c → Tells view a b (λ this. IsInTurn (this.last caller) number order) → order ≡ Ok next
      → Tells view b c Found → ((this : Tables) → Found this → decided this ≡ answered (reply_as reply))
      → Tells view a c (λ this. IsOutcome caller call this (Answered reply))
  answered_after law caller call number order next reply decided comes first second tells is found so =
      let later = law.keeps _ _ second in
      answered_in_turn caller call number order next reply decided comes (told_sooner tells later) is (told_so (told_later (law.keeps _ _ first) later found) so)

  pub accepted_after : {a b c : Source} {Found : Tables → Type 0} → IsLawful view → (caller : Caller) (call : Call) (number : Option ℕ) (order : Result ℕ Reply) (change : AcceptedChange) (decided : Tables → Outcome)
      → ((this : Tables) → outcome (view_of caller this) call ≡ in_turn (this.last caller) number (decided this))
      → view.keeps a b → view.keeps b c → Tells view a b (λ this. IsInTurn (this.last caller) number order) → order ≡ Ok change.number → maker_of change.effect ≡ caller
      → Tells view b c Found → ((this : Tables) → Found this → (decided this ≡ accepted (effect_as change.effect) change.reply.items) × Suits change.effect this)
      → Tells view a c (λ this. IsOutcome caller call this (Accepted change))
  accepted_after law caller call number order change decided comes first second tells is maker found so =
      let later = law.keeps _ _ second in
      accepted_in_turn caller call number order change decided comes (told_sooner tells later) is maker (told_so (told_later (law.keeps _ _ first) later found) so)

  -- ---- a change to a zone that is to be there

  -- out of turn, or where the zone isn't there, it is answered by that alone
  pub out_of_turn_at : {a b : Source} (client zone : List ℕ) (call : Call) (number : Option ℕ) (order : Result ℕ Reply) (reply : Reply) (decided : ZoneTable → Outcome)
      → ((this : Tables) → outcome (view_of (Client client) this) call ≡ in_turn (this.last (Client client)) number (of_zone (zone_named zone (this.zones client)) decided))
      → Tells view a b (λ this. IsInTurnAt (this.last (Client client)) (zone_named zone (this.zones client)) number order) → order ≡ Err reply
      → Tells view a b (λ this. IsOutcome (Client client) call this (Answered reply))
  out_of_turn_at client zone call number order reply decided comes tells is =
      told_so tells (λ this at.
      let found = zone_named zone (this.zones client) in
      let late : IsInTurnAt (this.last (Client client)) found number (Err reply) = subst (IsInTurnAt (this.last (Client client)) found number) is at in
      (sym (comes this ∙ late decided), tt))

  -- in turn, where the zone is there
  timely_at : {a b : Source} (client zone : List ℕ) (number : Option ℕ) (order : Result ℕ Reply) (next : ℕ)
      → Tells view a b (λ this. IsInTurnAt (this.last (Client client)) (zone_named zone (this.zones client)) number order) → order ≡ Ok next
      → Tells view a b (λ this. IsInTurn (this.last (Client client)) number (Ok next) × (is_some (zone_named zone (this.zones client)) ≡ true))
  timely_at client zone number order next tells is =
      told_so tells (λ this at. subst (IsInTurnAt (this.last (Client client)) (zone_named zone (this.zones client)) number) is at)

  pub answered_at : {a b : Source} (client zone : List ℕ) (call : Call) (number : Option ℕ) (order : Result ℕ Reply) (next : ℕ) (reply : Reply) (decided : ZoneTable → Outcome)
      → ((this : Tables) → outcome (view_of (Client client) this) call ≡ in_turn (this.last (Client client)) number (of_zone (zone_named zone (this.zones client)) decided))
      → Tells view a b (λ this. IsInTurnAt (this.last (Client client)) (zone_named zone (this.zones client)) number order) → order ≡ Ok next
      → ((this : Tables) → is_some (zone_named zone (this.zones client)) ≡ true → of_zone (zone_named zone (this.zones client)) decided ≡ answered (reply_as reply))
      → Tells view a b (λ this. IsOutcome (Client client) call this (Answered reply))
  answered_at client zone call number order next reply decided comes tells is so =
      let timely = timely_at client zone number order next tells is in
      answered_in_turn (Client client) call number (Ok next) next reply (λ this. of_zone (zone_named zone (this.zones client)) decided) comes
      (told_so timely (λ this at. at.0)) refl (told_so timely (λ this at. so this at.1))

  pub accepted_at : {a b : Source} (client zone : List ℕ) (call : Call) (number : Option ℕ) (order : Result ℕ Reply) (change : AcceptedChange) (decided : ZoneTable → Outcome)
      → ((this : Tables) → outcome (view_of (Client client) this) call ≡ in_turn (this.last (Client client)) number (of_zone (zone_named zone (this.zones client)) decided))
      → Tells view a b (λ this. IsInTurnAt (this.last (Client client)) (zone_named zone (this.zones client)) number order) → order ≡ Ok change.number
      → maker_of change.effect ≡ Client client
      → ((this : Tables) → is_some (zone_named zone (this.zones client)) ≡ true → (of_zone (zone_named zone (this.zones client)) decided ≡ accepted (effect_as change.effect) change.reply.items) × Suits change.effect this)
      → Tells view a b (λ this. IsOutcome (Client client) call this (Accepted change))
  accepted_at client zone call number order change decided comes tells is maker so =
      let timely = timely_at client zone number order change.number tells is in
      accepted_in_turn (Client client) call number (Ok change.number) change (λ this. of_zone (zone_named zone (this.zones client)) decided) comes
      (told_so timely (λ this at. at.0)) refl maker (told_so timely (λ this at. so this at.1))

-- what asks for a zone that isn't there
pub zone_missing : (found : Option ZoneTable) (answer : ZoneTable → Outcome) → is_some found ≡ false → of_zone found answer ≡ answered not_found
zone_missing None answer missing = refl
zone_missing (Some table) answer missing = absurd (cc)

-- what asks for a zone that is there, and for nothing of it
pub zone_there : (found : Option ZoneTable) (answer : Outcome) → is_some found ≡ true → of_zone found (λ table. answer) ≡ answer
zone_there (Some table) answer there = refl
zone_there None answer there = absurd (cc)

-- what is said of a body, and what is refused
pub said_so : {A : Type 0} (says : Result A (List ℕ)) (answer : A → Outcome) (what : A) → says ≡ Ok what → said says answer ≡ answer what
said_so {A = A} says answer what is = ap (λ (result : Result A (List ℕ)). said result answer) is

pub said_not : {A : Type 0} (says : Result A (List ℕ)) (answer : A → Outcome) (fault : AnyFault) (reply : Reply) → IsTold says fault → fault.cause ≡ Input
    → reply_as reply ≡ plain 422 (text_of fault) → said says answer ≡ answered (reply_as reply)
said_not {A = A} says answer fault reply told input is = by told
  where
    by : IsTold says fault → said says answer ≡ answered (reply_as reply)
    by (inl machine) = absurd (other (sym machine ∙ input))
      where
        other : Machine ≡ Input → ⊥
        other e = cc
    by (inr refusal) = ap (λ (result : Result A (List ℕ)). said result answer) refusal.1 ∙ ap answered (sym is)

-- the fault of a list, as it is told
pub told_of_list : {A : Type 0} (says : Result A ListFault) (fault : ListFault) → IsRefusal list.Memory (λ (f : ListFault). says ≡ Err f) fault
    → IsTold (list_said says) (list_fault.told fault)
told_of_list {A = A} says fault (inl memory) = inl (ap (λ f. (list_fault.told f).cause) memory)
told_of_list {A = A} says fault (inr is) = by (list_fault.told fault).cause refl
  where
    by : (cause : Cause) → (list_fault.told fault).cause ≡ cause → IsTold (list_said says) (list_fault.told fault)
    by Machine e = inl e
    by Input e = inr (e, ap list_said is)
