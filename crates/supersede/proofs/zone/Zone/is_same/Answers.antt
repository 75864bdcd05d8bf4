use Rattle.std.proofs.Common.{◌≡◌, ◌∙◌, ◌&&◌, Bool, true, false, ap, refl, sym, subst}
use Rattle.std.proofs.lemmas.Slice.Eq.{slice_eq-Decides}
use Rattle.catalogue.specs.Ids.{same_id}
use Rattle.catalogue.proofs.IdFacts.{itself, one_id}
use Rattle.zone_lists.specs.declared.zones.ZoneRow.{ZoneRow}
use Rattle.zone_lists.specs.declared.zones.ZoneState.{ZoneState}
use Rattle.zone_lists.specs.declared.zones.ZoneState.TheVariants.{Accepted, Applied, Superseded}
use Rattle.zone_lists.specs.contracts.zones.ZoneRowPartialEq.TheImpl.{eq-value}
use Rattle.zone_lists.specs.contracts.zones.ZoneStatePartialEq.TheImpl.{eq-value as eq-state}
use Rattle.supersede.proofs.zone.Zone.is_same.Goals as goal

-- a row with another state
abbrev in_state : ZoneRow → ZoneState → ZoneRow
in_state row state = record { sysmod = row.sysmod; state = state }

both : (p q : Bool) → p && q ≡ true → (p ≡ true) × (q ≡ true)
both true true is = (refl, refl)
both true false is = absurd cc
both false q is = absurd cc

-- what `==` says of two states
abbrev eq_state : ZoneState → ZoneState → Bool
eq_state a b = eq-state.it a b

same_state : (row : ZoneRow) (a b : ZoneState) → eq-value.it (in_state row a) (in_state row b) ≡ true → a ≡ b
same_state row Applied Applied is = refl
same_state row Applied Accepted is = absurd (cc (both (same_id row.sysmod row.sysmod) false is).1)
same_state row Applied Superseded is = absurd (cc (both (same_id row.sysmod row.sysmod) false is).1)
same_state row Accepted Accepted is = refl
same_state row Accepted Applied is = absurd (cc (both (same_id row.sysmod row.sysmod) false is).1)
same_state row Accepted Superseded is = absurd (cc (both (same_id row.sysmod row.sysmod) false is).1)
same_state row Superseded Superseded is = refl
same_state row Superseded Applied is = absurd (cc (both (same_id row.sysmod row.sysmod) false is).1)
same_state row Superseded Accepted is = absurd (cc (both (same_id row.sysmod row.sysmod) false is).1)

same_itself : (row : ZoneRow) (state : ZoneState) → eq-value.it (in_state row state) (in_state row state) ≡ true
same_itself row Applied = ap (λ b. b && true) (itself row.sysmod)
same_itself row Accepted = ap (λ b. b && true) (itself row.sysmod)
same_itself row Superseded = ap (λ b. b && true) (itself row.sysmod)

same_row : (a b : ZoneRow) → (eq-value.it a b ≡ true → a ≡ b) × (a ≡ b → eq-value.it a b ≡ true)
same_row a b = (
  λ is.
      let id : a.sysmod ≡ b.sysmod = one_id a.sysmod b.sysmod (both (same_id a.sysmod b.sysmod) (eq_state a.state b.state) is).0 in
      let Q : ZoneRow → Type 0 = λ row. eq-value.it row b ≡ true in
      ap (λ i. record { sysmod = i; state = a.state }) id
      ∙ ap (in_state b) (same_state b a.state b.state (subst Q (ap (λ i. record { sysmod = i; state = a.state }) id) is)),
  λ is. (let Q : ZoneRow → Type 0 = λ row. eq-value.it a row ≡ true in subst Q is (same_itself a a.state)),
)

pub returns : goal.returns
returns c =
    let same = slice_eq-Decides same_row c.as_slice.result.now c.as_slice-2.result.now c.eq.result c.eq.ensures in
    let one = sym c.self.view_is ∙ sym c.as_slice.ensures.value in
    let other = c.as_slice-2.ensures.value ∙ c.other.view_is in
    (λ is. one ∙ same.0 is ∙ other, λ is. same.1 (sym one ∙ is ∙ sym other))
