-- A store gets the callers of a callers file, and then has no others.
use Rattle.std.specs.Prelude.{◌≡◌, ◌⊎◌, ◌++◌, ◌&&◌, ◌||◌, ℕ, Bool, not, false, List, [], map, filter, find, length, Option, Result, IfErr, IfOk, IsErrOf, OnErr, OnOk, is_some, if◌then◌else◌}
use Rattle.std.specs.List.{count_by}
use Rattle.std.specs.Option.{option_map, unwrap_or}
use Rattle.std.specs.Str.{bytes_eq}
use Rattle.catalogue.specs.View.{Goes, HasFailed, IsOpen, Tells, View}
use Rattle.bureau_store.specs.Caller.{publisher_name}
use Rattle.bureau_store.specs.Store.{IsOfCall, IsSettled}
use Rattle.bureau_store.specs.Tables.{Tables, no_change}
use Rattle.bureau_store.specs.declared.caller.Caller.{Caller}
use Rattle.bureau_store.specs.declared.caller.Caller.TheVariants.{Publisher, Client}
use Rattle.bureau_store.specs.declared.caller.CallerRow.{CallerRow}
use Rattle.bureau_store.specs.declared.fault.StoreFault.{StoreFault}
use Rattle.bureau_store.specs.declared.fault.StoreFault.TheVariants.{Device}
use Rattle.bureau_store.specs.declared.set_callers.CallerCounts.{CallerCounts}

-- the token of the caller of this name
abbrev pub token_of : List CallerRow → List ℕ → Option (List ℕ)
token_of rows name = option_map (λ row. row.token) (find (λ row. bytes_eq row.name name) rows)

-- one of the callers has this name
abbrev pub has_name : List CallerRow → List ℕ → Bool
has_name rows name = is_some (token_of rows name)

-- the name of a caller, as the callers file has it
abbrev pub name_of : Caller → List ℕ
name_of Publisher = publisher_name
name_of (Client name) = name

-- ---- who comes, and who goes

-- only the second list has a caller of this name
abbrev pub is_only_in : List CallerRow → List CallerRow → List ℕ → Bool
is_only_in others rows name = has_name rows name && not (has_name others name)

-- the caller of this name comes with the new list, or is gone with the old one
abbrev pub comes_or_goes : List CallerRow → List CallerRow → List ℕ → Bool
comes_or_goes old new name = is_only_in old new name || is_only_in new old name

-- The tables with these callers. A caller that was there before and stays keeps all. A new one begins with nothing, and one
-- that is gone leaves nothing: no last change, no zone, nothing received. The published content stays.
abbrev pub with_callers : List CallerRow → Tables → Tables
with_callers rows old = record {
  callers = rows;
  content = old.content;
  last = λ caller. if comes_or_goes old.callers rows (name_of caller) then no_change else old.last caller;
  zones = λ client. if comes_or_goes old.callers rows client then [] else old.zones client;
  received = λ client. if comes_or_goes old.callers rows client then [] else old.received client;
}

-- ---- how many they are

-- the names of the callers of the second list that the first doesn't have
abbrev pub names_only_in : List CallerRow → List CallerRow → List (List ℕ)
names_only_in others rows = map (λ row. row.name) (filter (λ row. not (has_name others row.name)) rows)

-- the names of all who come or go
abbrev pub names_that_change : List CallerRow → List CallerRow → List (List ℕ)
names_that_change old new = names_only_in old new ++ names_only_in new old

-- the caller was there before, with another token
abbrev pub has_new_token : List CallerRow → CallerRow → Bool
has_new_token old row = unwrap_or (option_map (λ token. not (bytes_eq token row.token)) (token_of old row.name)) false

-- the number of callers, of those that are new, of those that are gone, and of those that have another token
abbrev pub counts_of : List CallerRow → List CallerRow → CallerCounts
counts_of old new = record {
  callers = length new;
  added = length (names_only_in old new);
  removed = length (names_only_in new old);
  tokens = count_by (has_new_token old) new;
}

-- ---- what a store keeps to

module _ {Store : Type 0} (view : View Store Tables) where
  -- A change of the tables that is due: done, the tables are the next ones; refused, they are as they were.
  pub record ChangesTo {Done : Type 0} (IsDueIn : Tables → Type 0) (next : Tables → Tables) (old new : Store) (answer : Result Done StoreFault) : Type 0 where
    pub goes : Goes view old new
    pub done : OnOk answer (view.is_ours old → view.is_clean new → (this : Tables) → IsDueIn this → view.stands old this → view.stands new (next this))
    pub refused : OnErr answer (view.is_ours old → view.is_clean new → (this : Tables) → view.stands old this → view.stands new this)
    -- why it is refused: for the device only if it failed
    pub refusal : IfErr answer IsOfCall
    pub cause : IsErrOf answer Device → HasFailed view old new
    pub is_open : (IsErrOf answer Device → ⊥) → IsOpen view new
    -- what a stop may leave: what it might have left before, or the next tables if the store was open
    pub crash : view.is_ours old → view.is_clean new → (this : Tables) → IsDueIn this → view.stands old this
        → (left : Tables) → view.may_leave new left → view.may_leave old left ⊎ (IsOpen view old × (left ≡ next this))
    -- after it a stop leaves just the tables that the store holds
    pub settled : IsSettled view new

  -- A store has these callers, and no others. The answer says how many came and went since the callers before.
  pub record SetsCallers (rows : List CallerRow) (old new : Store) (answer : Result CallerCounts StoreFault) : Type 0 where
    pub changes : ChangesTo (λ this. Unit {0}) (with_callers rows) old new answer
    pub counts : IfOk answer (λ counts. Tells view old new (λ this. counts ≡ counts_of this.callers rows))
