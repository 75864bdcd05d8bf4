-- Runs in which what is told as accepted is kept.
use Rattle.std.proofs.Common.{◌≡◌, ◌++◌, ◌∙◌, List, [], ◌∷◌, inl, inr, refl, sym, ap, subst, arith}
use Rattle.std.specs.Prelude.{ℕ, ◌≤◌, ◌⊎◌, false, length, zero, suc}
use Rattle.catalogue.specs.View.{IsOpen, View}
use Rattle.catalogue.proofs.SourceFacts.{goes_on, was_open}
use Rattle.bureau_store.specs.Tables.{Tables}
use Rattle.bureau_store.specs.declared.caller.Caller.{Caller}
use Rattle.bureau_store.specs.declared.caller.Caller.TheVariants.{Publisher, Client}
use Rattle.bureau.specs.Joint.{CallBy, IsRun, IsStep, tables_left}
use Rattle.bureau.specs.Kept.{Idles, IsKeptRun, IsKeptStep, IsToldOfNoTables, IsWithLastRefused, MayBeLeft, Rests, TellNothing, tables_with}
use Rattle.bureau.specs.Outcome.{Answer, Outcome, answered, accepted, answer_of, may_ask, no_room, outcome}
use Rattle.bureau.specs.View.{view_of}

-- what may not be asked changes nothing
not_asked : (caller : Caller) (call_by : CallBy) (this : Tables) → call_by.caller ≡ caller → may_ask call_by.caller call_by.call ≡ false → tables_with call_by this ≡ this
not_asked Publisher call_by this is not_allowed = rw (is, rw is at not_allowed) refl
not_asked (Client name) call_by this is not_allowed = rw (is, rw is at not_allowed) refl

pub not_503 : ◌≡◌ {A = ℕ} 200 503 → ⊥
not_503 same = omega (arith, same)

-- what tells nothing from the tables leaves them
pub told_nothing : (this next : Tables) (call_by : CallBy) → IsToldOfNoTables call_by → IsStep this call_by next → next ≡ this
told_nothing this next call_by told (inl none) = none.1
told_nothing this next call_by (inl no_room_told) (inr made) = made.1 ∙ by (outcome (view_of call_by.caller this) call_by.call) (sym made.0 ∙ no_room_told)
  where
    by : (o : Outcome) → answer_of o ≡ no_room → tables_left call_by.caller o this ≡ this
    by (answered answer) is = refl
    by (accepted effect text) is = absurd (not_503 (ap (λ (answer : Answer). answer.status) is))
told_nothing this next call_by (inr not_allowed) (inr made) = made.1 ∙ not_asked call_by.caller call_by this refl not_allowed

-- a count is 0 or not
pub open_or_closed : (count : ℕ) → (count ≡ 0) ⊎ (count ≡ 0 → ⊥)
open_or_closed zero = inl refl
open_or_closed (suc count) = inr (λ is. absurd (cc is))

module _ {Desk : Type 0} (view : View Desk Tables) where
  -- the run that it is
  pub kept_run : (old new : Desk) (this : Tables) (calls : List CallBy) (next : Tables) → IsKeptRun view old new this calls next → IsRun this calls next
  kept_run old new this [] next kept = kept.0
  kept_run old new this (call_by ∷ calls) next kept = (kept.1, kept.2.step, kept_run kept.0 new kept.1 calls next kept.3)

  -- what the desk holds at its end
  pub stands_after : (old new : Desk) (this : Tables) (calls : List CallBy) (next : Tables) → IsKeptRun view old new this calls next → view.stands new next
  stands_after old new this [] next kept = kept.1.stands
  stands_after old new this (call_by ∷ calls) next kept = stands_after kept.0 new kept.1 calls next kept.3

  -- nothing was asked
  pub idle : (desk : Desk) (this : Tables) → view.stands desk this → Idles view desk desk this
  idle desk this stands = record {
    goes = record { clean = λ h. h; ours = λ h _. h; failures_rise = omega arith };
    stands = stands;
    leaves = λ left h. h;
  }

  pub one_kept : (old new : Desk) (this : Tables) (call_by : CallBy) (next : Tables) → IsKeptStep view old new this call_by next
      → IsKeptRun view old new this (call_by ∷ []) next
  one_kept old new this call_by next one = (new, next, one, (refl, idle new next one.stands))

  -- from a desk that was before
  pub from_before : (first old new : Desk) (this : Tables) (calls : List CallBy) (next : Tables) → Idles view first old this
      → IsKeptRun view old new this calls next → IsKeptRun view first new this calls next
  from_before first old new this [] next before kept = (
    kept.0,
    record { goes = goes_on before.goes kept.1.goes; stands = kept.1.stands; leaves = λ left h. before.leaves left (kept.1.leaves left h) },
  )
  from_before first old new this (call_by ∷ calls) next before kept = (
    kept.0,
    kept.1,
    record {
      goes = goes_on before.goes kept.2.goes;
      step = kept.2.step;
      stands = kept.2.stands;
      told = kept.2.told;
      leaves = λ left h. by left (kept.2.leaves left h);
      rests = λ rests. kept.2.rests (λ is_open left h. rests (was_open before.goes is_open) left (before.leaves left h));
    },
    kept.3,
  )
    where
      by : (left : Tables) → view.may_leave old left ⊎ (IsOpen view old × (left ≡ tables_with call_by this))
          → view.may_leave first left ⊎ (IsOpen view first × (left ≡ tables_with call_by this))
      by left (inl h) = inl (before.leaves left h)
      by left (inr h) = inr (was_open before.goes h.0, h.1)

  -- one run after another
  pub kept_on : (a b c : Desk) (this mid next : Tables) (xs ys : List CallBy)
      → IsKeptRun view a b this xs mid → IsKeptRun view b c mid ys next → IsKeptRun view a c this (xs ++ ys) next
  kept_on a b c this mid next [] ys first more =
      subst (λ (t : Tables). IsKeptRun view a c t ys next) first.0 (from_before a b c mid ys next first.1 more)
  kept_on a b c this mid next (x ∷ xs) ys first more = (first.0, first.1, first.2, kept_on first.0 b c first.1 mid next xs ys first.3 more)

  -- ---- what a stop may leave

  -- after the call that closed the desk nothing changes, nor what a stop may leave
  closed_run : (old new : Desk) (this : Tables) (calls : List CallBy) (next : Tables) → (IsOpen view old → ⊥) → IsKeptRun view old new this calls next
      → (next ≡ this) × ((left : Tables) → view.may_leave new left → view.may_leave old left)
  closed_run old new this [] next closed kept = (kept.0, kept.1.leaves)
  closed_run old new this (call_by ∷ calls) next closed kept =
      let step = kept.2 in
      let still_closed : IsOpen view kept.0 → ⊥ = λ is_open. closed (was_open step.goes is_open) in
      let later = closed_run kept.0 new kept.1 calls next still_closed kept.3 in
      (later.0 ∙ same step.told, λ left h. by left (step.leaves left (later.1 left h)))
    where
      same : (IsOpen view kept.0) ⊎ IsToldOfNoTables call_by → kept.1 ≡ this
      same (inl is_open) = absurd (closed (was_open kept.2.goes is_open))
      same (inr told) = told_nothing this kept.1 call_by told kept.2.step

      by : (left : Tables) → view.may_leave old left ⊎ (IsOpen view old × (left ≡ tables_with call_by this)) → view.may_leave old left
      by left (inl h) = h
      by left (inr h) = absurd (closed h.0)

  -- a desk that is closed tells nothing from the tables, and stays closed
  pub told_closed : (old new : Desk) (this : Tables) (calls : List CallBy) (next : Tables) → (IsOpen view old → ⊥) → IsKeptRun view old new this calls next
      → TellNothing calls × (IsOpen view new → ⊥)
  told_closed old new this [] next closed kept = (tt, λ is_open. closed (was_open kept.1.goes is_open))
  told_closed old new this (call_by ∷ calls) next closed kept =
      let later = told_closed kept.0 new kept.1 calls next (λ is_open. closed (was_open kept.2.goes is_open)) kept.3 in
      ((nothing kept.2.told, later.0), later.1)
    where
      nothing : (IsOpen view kept.0) ⊎ IsToldOfNoTables call_by → IsToldOfNoTables call_by
      nothing (inl is_open) = absurd (closed (was_open kept.2.goes is_open))
      nothing (inr told) = told

  -- what a stop may leave after a first call, where it is known for a desk that is open after it
  left_after : (old new : Desk) (this : Tables) (call_by : CallBy) (calls : List CallBy) (next : Tables) (kept : IsKeptRun view old new this (call_by ∷ calls) next)
      → IsOpen view old → Rests view old this → (left : Tables) → view.may_leave new left → (IsOpen view kept.0 → MayBeLeft view new calls next left)
      → MayBeLeft view new (call_by ∷ calls) next left
  left_after old new this call_by calls next kept is_open rests left h if_open = by (open_or_closed (view.failures kept.0))
    where
      later : MayBeLeft view new calls next left → MayBeLeft view new (call_by ∷ calls) next left
      later (inl is) = inl is
      later (inr flight) = inr (flight.0, inr flight.1)

      closed_by : (next ≡ this) → TellNothing calls × (IsOpen view new → ⊥) → IsToldOfNoTables call_by → view.may_leave old left ⊎ (IsOpen view old × (left ≡ tables_with call_by this)) → MayBeLeft view new (call_by ∷ calls) next left
      closed_by stays rest told (inl before) = inl (rests is_open left before ∙ sym stays)
      closed_by stays rest (inl none) (inr made) = inr (rest.1, inl (none, rest.0, made.1 ∙ ap (tables_with call_by) (sym stays)))
      closed_by stays rest (inr not_allowed) (inr made) = inl (made.1 ∙ not_asked call_by.caller call_by this refl not_allowed ∙ sym stays)

      in_turn : (IsOpen view kept.0 → ⊥) → (IsOpen view kept.0) ⊎ IsToldOfNoTables call_by → MayBeLeft view new (call_by ∷ calls) next left
      in_turn closed (inl still) = absurd (closed still)
      in_turn closed (inr told) =
          let rest = closed_run kept.0 new kept.1 calls next closed kept.3 in
          closed_by (rest.0 ∙ told_nothing this kept.1 call_by told kept.2.step) (told_closed kept.0 new kept.1 calls next closed kept.3) told (kept.2.leaves left (rest.1 left h))

      by : (IsOpen view kept.0) ⊎ (IsOpen view kept.0 → ⊥) → MayBeLeft view new (call_by ∷ calls) next left
      by (inl still) = later (if_open still)
      by (inr closed) = in_turn closed kept.2.told

  -- a stop loses nothing that was acknowledged
  pub loses_nothing : (old new : Desk) (this : Tables) (calls : List CallBy) (next : Tables) → IsKeptRun view old new this calls next
      → IsOpen view old → Rests view old this → (left : Tables) → view.may_leave new left → MayBeLeft view new calls next left
  loses_nothing old new this [] next kept is_open rests left h = inl (rests is_open left (kept.1.leaves left h) ∙ sym kept.0)
  loses_nothing old new this (call_by ∷ calls) next kept is_open rests left h =
      left_after old new this call_by calls next kept is_open rests left h (λ still.
      loses_nothing kept.0 new kept.1 calls next kept.3 still (kept.2.rests rests) left h)

  -- a desk rests after a run, if it did before
  rests_after : (old new : Desk) (this : Tables) (calls : List CallBy) (next : Tables) → IsKeptRun view old new this calls next → Rests view old this → Rests view new next
  rests_after old new this [] next kept rests = λ is_open left may. rests (was_open kept.1.goes is_open) left (kept.1.leaves left may) ∙ sym kept.0
  rests_after old new this (call_by ∷ calls) next kept rests = rests_after kept.0 new kept.1 calls next kept.3 (kept.2.rests rests)

  -- If only the last call was asked of a desk that may be closed by its end, a stop leaves the tables of all, or those with its change.
  pub last_left : (old between new : Desk) (this mid next : Tables) (earlier last : List CallBy) → IsKeptRun view old between this earlier mid → IsOpen view between
      → IsKeptRun view between new mid last next → length last ≤ 1 → Rests view old this → (left : Tables) → view.may_leave new left
      → (left ≡ next) ⊎ IsWithLastRefused next (earlier ++ last) left
  last_left old between new this mid next earlier [] first is_open second few rests left may =
      by (loses_nothing between new mid [] next second is_open (rests_after old between this earlier mid first rests) left may)
    where
      by : MayBeLeft view new [] next left → (left ≡ next) ⊎ IsWithLastRefused next (earlier ++ []) left
      by (inl same) = inl same
      by (inr refused) = absurd refused.1
  last_left old between new this mid next earlier (call_by ∷ []) first is_open second few rests left may =
      by (loses_nothing between new mid (call_by ∷ []) next second is_open (rests_after old between this earlier mid first rests) left may)
    where
      by : MayBeLeft view new (call_by ∷ []) next left → (left ≡ next) ⊎ IsWithLastRefused next (earlier ++ call_by ∷ []) left
      by (inl same) = inl same
      by (inr (closed, inl refused)) = inr (earlier, call_by, refl, refused.0, refused.2)
      by (inr (closed, inr none)) = absurd none
  last_left old between new this mid next earlier (call_by ∷ other ∷ more) first is_open second few rests left may = absurd (omega (arith, few))
