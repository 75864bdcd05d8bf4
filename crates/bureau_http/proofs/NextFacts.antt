-- What is served next, after what was served so far.
use Rattle.std.proofs.Common.{◌≡◌, ◌⊎◌, inl, inr, ℕ, ◌+◌, ◌<◌, List, [], ◌∷◌, ◌++◌, length, map, take, get_or, Option, Result, Ok, Err, IfSome, subst}
use Rattle.std.specs.Io.KnownBytes.{prepend_known}
use Rattle.lemmas.proofs.ResultFacts.{some_is}
use Rattle.log_lines.specs.declared.note.Note.{Note}
use Rattle.catalogue.specs.View.{Goes, Tells, View}
use Rattle.bureau_store.specs.Tables.{AreInOrder, Tables}
use Rattle.bureau.specs.Joint.{CallBy, IsRun}
use Rattle.bureau.specs.Kept.{IsKeptRun, TellNothing}
use Rattle.bureau.specs.Repeat.{ActsOnce, StaysStale}
use Rattle.bureau.proofs.KeptFacts.{kept_on, kept_run, open_or_closed, stands_after, told_closed}
use Rattle.bureau_http.specs.Exchange.{calls_of}
use Rattle.bureau_http.specs.List.{AreServedInPart, AreSoFar, IsOneCut, IsOneServed, calls_in}
use Rattle.bureau_http.specs.Served.{HasRun, IsServed, IsSoFar, Serves}
use Rattle.bureau_http.specs.declared.fault.ConnFault.{ConnFault}
use Rattle.bureau_http.specs.declared.serving.Step.{Step}
use Rattle.bureau_http.specs.declared.serving.Step.TheVariants as step
use Rattle.bureau_http.proofs.IsolatedFacts.{Alike, Alone, IsKnown}
use Rattle.bureau_http.proofs.ListFacts.{IsPlain, in_part, one_more}
use Rattle.bureau_http.proofs.ServingFacts.{ActOnce, map_some, ran_more, served_end, served_err, served_last, stays}

-- a change acts once, by the law of all runs
pub acts_once : ((this next : Tables) (calls : List CallBy) → IsRun this calls next → ActsOnce this calls next)
    → ((this next : Tables) (calls : List CallBy) → IsRun this calls next → StaysStale this calls next) → ActOnce IsRun
acts_once once stale this next calls run = (once this next calls run, stale this next calls run)

-- the tables of a desk that is open are in order
abbrev pub IsOrderly : {Desk : Type 0} → View Desk Tables → Type 0
IsOrderly {Desk} view = (desk : Desk) (this : Tables) → view.is_ours desk → view.failures desk ≡ 0 → view.stands desk this → AreInOrder this

module _ {Desk : Type 0} (view : View Desk Tables) (old new : Desk) where
  -- a run that is kept is a run of the tables, in which a change acts once
  pub kept_plain : IsPlain (IsKeptRun view old new)
  kept_plain this next calls run = kept_run view old new this calls next run

  -- if it is open, its tables are in order; and if it isn't, nothing is told from them
  pub kept_known : IsOrderly view → view.is_ours old → (this : Tables) → view.stands old this → IsKnown (IsKeptRun view old new) this
  kept_known ordered ours this stands calls next kept = by (open_or_closed (view.failures old))
    where
      by : (view.failures old ≡ 0) ⊎ (view.failures old ≡ 0 → ⊥) → AreInOrder this ⊎ TellNothing calls
      by (inl is_open) = inl (ordered old this ours is_open stands)
      by (inr closed) = inr (told_closed view old new this calls next closed kept).0

  pub kept_once : ActOnce IsRun → ActOnce (IsKeptRun view old new)
  kept_once once this next calls run = once this next calls (kept_run view old new this calls next run)

module _ {Desk : Type 0} (view : View Desk Tables) (desk between after : Desk) (goes : Goes view desk between) (next_goes : Goes view between after) where
  abbrev First : Tables → List CallBy → Tables → Type 0
  First = IsKeptRun view desk between

  abbrev Then : Tables → List CallBy → Tables → Type 0
  Then = IsKeptRun view between after

  abbrev Whole : Tables → List CallBy → Tables → Type 0
  Whole = IsKeptRun view desk after

  -- what the desk did, whatever it was asked
  pub ran_next : Tells view desk between (λ this. HasRun (IsKeptRun view desk between) this) → Tells view between after (λ this. HasRun (IsKeptRun view between after) this)
      → Tells view desk after (λ this. HasRun (IsKeptRun view desk after) this)
  ran_next so_far next = record {
    told = λ ours clean this stand.
        let so = so_far.told ours (next_goes.clean clean) this stand in
        ran_more First Then Whole (kept_on view desk between after) this so
        (next.told (goes.ours ours (next_goes.clean clean)) clean so.closing (stands_after view desk between this so.calls so.closing so.run));
  }

  -- ---- what stands next in a connection

  module _ (once : ActOnce IsRun) (ordinal : ℕ) (held : List ℕ) (sent left rest written mid written_after : Option (List ℕ)) (answer : Result Step ConnFault)
      (so_far : Tells view desk between (λ this. IfSome sent (IsSoFar (IsKeptRun view desk between) this ordinal left written mid)))
      (next : Tells view between after (λ this. IfSome left (Serves (IsKeptRun view between after) this ordinal held rest mid written_after answer))) where
    next_served : (Fact : Tables → List ℕ → Type 0) (is : Result Step ConnFault) → answer ≡ is
        → ((this : Tables) (bytes : List ℕ) (so : IsSoFar First this ordinal left written mid bytes) → Serves Then so.now ordinal held rest mid written_after is so.following → Fact this bytes)
        → Tells view desk after (λ this. IfSome sent (Fact this))
    next_served Fact is same fact = record {
      told = λ ours clean this stand.
          map_some sent (so_far.told ours (next_goes.clean clean) this stand) (λ bytes so.
          fact this bytes so (subst (λ r. Serves Then so.now ordinal held rest mid written_after r so.following) same
          (some_is _ left so.following so.left_are
          (next.told (goes.ours ours (next_goes.clean clean)) clean so.now (stands_after view desk between this (calls_of so.exchanges) so.now so.run)))));
    }

    pub ended_served : (count : ℕ) → 1 + count ≡ ordinal → answer ≡ Ok step.CleanEnd
        → Tells view desk after (λ this. IfSome sent (IsServed (IsKeptRun view desk after) this rest written written_after (Ok (record { requests = count }))))
    ended_served count counted is = next_served (λ this. IsServed Whole this rest written written_after (Ok (record { requests = count }))) (Ok step.CleanEnd) is (λ this bytes so served.
        served_end First Then Whole (kept_on view desk between after) (kept_once view desk after once) this ordinal held rest left written mid written_after bytes so count counted served)

    pub last_served : (note : Note) → answer ≡ Ok (step.Ends note)
        → Tells view desk after (λ this. IfSome sent (IsServed (IsKeptRun view desk after) this rest written written_after (Ok (record { requests = ordinal }))))
    last_served note is = next_served (λ this. IsServed Whole this rest written written_after (Ok (record { requests = ordinal }))) (Ok (step.Ends note)) is (λ this bytes so served.
        served_last First Then Whole (kept_on view desk between after) (kept_once view desk after once) this ordinal held rest left written mid written_after bytes so note served)

    pub failed_served : (fault : ConnFault) → answer ≡ Err fault
        → Tells view desk after (λ this. IfSome sent (IsServed (IsKeptRun view desk after) this rest written written_after (Err fault)))
    failed_served fault is = next_served (λ this. IsServed Whole this rest written written_after (Err fault)) (Err fault) is (λ this bytes so served.
        served_err First Then Whole (kept_on view desk between after) (kept_once view desk after once) this ordinal held rest left written mid written_after bytes so fault served)

    pub one_served : (note : Note) → answer ≡ Ok (step.Stays note)
        → Tells view desk after (λ this. IfSome sent (IsSoFar (IsKeptRun view desk after) this (ordinal + 1) (prepend_known held rest) written written_after))
    one_served note is = next_served (λ this. IsSoFar Whole this (ordinal + 1) (prepend_known held rest) written written_after) (Ok (step.Stays note)) is (λ this bytes so served.
        stays First Then Whole (kept_on view desk between after) (kept_once view desk after once) this ordinal rest left written mid written_after bytes so
        served.0 (prepend_known held rest) served.1 served.2.0)

  -- ---- the next connection of a list

  module _ {Text : Type 0} (bytes_of : Text → List ℕ) (connections : List Text) (written : List (List ℕ)) (index : ℕ) (connection : Text)
      (there : index < length connections) (is : connection ≡ get_or connections index connection)
      (so_far : Tells view desk between (λ this. AreSoFar (IsKeptRun view desk between) this (map bytes_of (take index connections)) written)) where
    -- it was served
    pub served_next : (text : List ℕ) → Tells view between after (λ this. IsOneServed (IsKeptRun view between after) this (bytes_of connection) text)
        → Tells view desk after (λ this. AreSoFar (IsKeptRun view desk after) this (map bytes_of (take (index + 1) connections)) (written ++ text ∷ []))
    served_next text next = record {
      told = λ ours clean this stand.
          let so = so_far.told ours (next_goes.clean clean) this stand in
          one_more bytes_of First Then Whole (kept_on view desk between after) this connections written index connection text so there is
          (next.told (goes.ours ours (next_goes.clean clean)) clean so.now (stands_after view desk between this (calls_in so.exchanges) so.now so.run));
    }

    -- it was cut off
    pub cut_next : IsOrderly view → ActOnce IsRun → Alone → Alike → Tells view between after (λ this. IsOneCut (IsKeptRun view between after) this (bytes_of connection))
        → Tells view desk after (λ this. AreServedInPart (IsKeptRun view desk after) this (map bytes_of connections) written)
    cut_next ordered once alone alike next = record {
      told = λ ours clean this stand.
          let so = so_far.told ours (next_goes.clean clean) this stand in
          in_part bytes_of First Then Whole (kept_on view desk between after) (kept_plain view desk after) (kept_once view desk after once) this connections written index connection
          so there is alone alike (kept_known view desk after ordered ours this stand)
          (next.told (goes.ours ours (next_goes.clean clean)) clean so.now (stands_after view desk between this (calls_in so.exchanges) so.now so.run));
    }
