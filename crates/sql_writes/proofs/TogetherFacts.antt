-- Records that are put together leave what they would one by one.
use Rattle.std.proofs.Common.{◌≡◌, ◌≢◌, ◌+◌, ◌++◌, ◌||◌, ◌⊎◌, ◌<◌, ◌-◌, ℕ, Bool, false, List, [], ◌∷◌, append_assoc, drop, get_or, inl, inr, length, map, refl, suc, sym, ◌∙◌, ap, ap₂, subst, take, arith}
use Rattle.std.specs.Prelude.{filter, flat_map, fold, not, sum_by}
use Rattle.std.specs.List.{AllByRecursion, list_any}
use Rattle.std.proofs.lemmas.Bool.{both_ways, false_from_ne_true}
use Rattle.std.proofs.lemmas.List.{append-nil, length-append, length-drop, length-map, map-append, take_all}
use Rattle.std.proofs.lemmas.List.Elements.{filter-append}
use Rattle.std.proofs.lemmas.List.Folds.{list_any-append}
use Rattle.std.proofs.lemmas.List.Sums.{fold_push, sum_by-cons}
use Rattle.catalogue.specs.Ids.{Ascend}
use Rattle.catalogue.specs.declared.change.Change.{Change}
use Rattle.catalogue.specs.declared.change.Change.TheVariants.{OfHold, Whole}
use Rattle.catalogue.specs.declared.sysmod.Sysmod.{Sysmod}
use Rattle.holddata.specs.declared.hold.HoldChange.{HoldChange}
use Rattle.mcs_reader.specs.Id.{IsId}
use Rattle.sqlite.specs.Order.{Row}
use Rattle.sqlite_trees.proofs.ListLemmas.{all_weaker}
use Rattle.sqlite_rules.proofs.ListLemmas.{has_filtered, some_from, some_has}
use Rattle.sql_tables.specs.Changes.{holds_changed, published, replaced}
use Rattle.sql_tables.specs.Fit.{AreIds, IsFitChange}
use Rattle.sql_tables.specs.Rows.{cond_row, sup_row}
use Rattle.sql_tables.specs.Stored.{Stored, is_named, is_of, is_of_both}
use Rattle.sql_tables.specs.Values.{id_value}
use Rattle.sql_writes.specs.Many.{AreNew}
use Rattle.sql_writes.specs.Records.{AreApart, AreNewMembers, AreNewRecords, Begins, IsApart, IsTogether, NoneOf, member_values, pairs, record_gone, record_rows, records_in, rest_count, rest_put, sups_of, values_of, with_members, with_sysmods}
use Rattle.sql_writes.specs.Room.{rows_of_change}
use Rattle.sql_writes.specs.declared.records.SupRow.{SupRow}
use Rattle.sql_writes.specs.declared.records.SysmodRow.{SysmodRow}
use Rattle.sql_rows.proofs.AbsentFacts.{gone_now}
use Rattle.sql_writes.proofs.AlikeFacts.{Comes, each_new}
use Rattle.sql_writes.proofs.BoundFacts.{one_more}
use Rattle.sql_rows.proofs.TableFacts.{none_filtered, none_gone}
use Rattle.sql_writes.proofs.LeaveFacts.{named, next_sup}
use Rattle.sql_rows.proofs.TurnFacts.{ComesInTurn}
use Rattle.sql_rows.proofs.StoredFacts.{replaced_then}

-- rows of what records supersede come after those that are there
pub members_come_so : Comes member_values (λ stored. stored.sups) with_members
members_come_so = record {
  none = λ stored. ap (λ rows. record stored { sups = rows }) (sym (append-nil stored.sups));
  more = λ xs ys stored. ap (λ rows. record stored { sups = rows }) (append_assoc stored.sups (map member_values xs) (map member_values ys) ∙ ap (λ rows. stored.sups ++ rows) (sym (map-append member_values xs ys)));
  rows = λ xs stored. refl;
}

-- ---- the rows of one table

-- the rows of records go
abbrev pub gone : List Change → List Row → List Row
gone [] rows = rows
gone (Whole sysmod ∷ changes) rows = gone changes (replaced (is_of sysmod.id) [] rows)
gone (OfHold change ∷ changes) rows = gone changes rows

-- one after the other they go, and rows come that each makes
abbrev pub in_turn : (Change → List Row) → List Change → List Row → List Row
in_turn make [] rows = rows
in_turn make (Whole sysmod ∷ changes) rows = in_turn make changes (replaced (is_of sysmod.id) (make (Whole sysmod)) rows)
in_turn make (OfHold change ∷ changes) rows = in_turn make changes rows

beside : (test : Row → Bool) (rows more : List Row) → list_any test more ≡ false → replaced test [] (rows ++ more) ≡ replaced test [] rows ++ more
beside test rows more none =
    append-nil (filter (λ row. not (test row)) (rows ++ more))
    ∙ filter-append (λ row. not (test row)) rows more
    ∙ ap₂ ◌++◌ (sym (append-nil (filter (λ row. not (test row)) rows))) (none_filtered test more none)

-- rows stay that are of none of them
gone_beside : (changes : List Change) (rows more : List Row) → AllByRecursion (NoneOf more) changes → gone changes (rows ++ more) ≡ gone changes rows ++ more
gone_beside [] rows more none = refl
gone_beside (Whole sysmod ∷ changes) rows more none = ap (gone changes) (beside (is_of sysmod.id) rows more none.0) ∙ gone_beside changes (replaced (is_of sysmod.id) [] rows) more none.1
gone_beside (OfHold change ∷ changes) rows more none = gone_beside changes rows more none.1

-- the rows that a record makes are of no record with another id, and what is said of a hold makes none
pub record MakesOwn (make : Change → List Row) : Type 0 where
  pub own : (sysmod : Sysmod) (other : Change) → IsApart sysmod.id other → NoneOf (make (Whole sysmod)) other
  pub bare : (change : HoldChange) → make (OfHold change) ≡ []

pub none_made : (make : Change → List Row) → MakesOwn make → (sysmod : Sysmod) (changes : List Change) → AllByRecursion (IsApart sysmod.id) changes → AllByRecursion (NoneOf (make (Whole sysmod))) changes
none_made make makes sysmod changes apart = all_weaker (IsApart sysmod.id) (NoneOf (make (Whole sysmod))) (makes.own sysmod) changes apart

-- so it is the same to delete all rows first, and then to insert all
at_once : (make : Change → List Row) → MakesOwn make → (changes : List Change) → AreApart changes → (rows : List Row) → in_turn make changes rows ≡ gone changes rows ++ flat_map make changes
at_once make makes [] apart rows = sym (append-nil rows)
at_once make makes (Whole sysmod ∷ changes) apart rows =
    let left = replaced (is_of sysmod.id) [] rows in
    let made = make (Whole sysmod) in
    at_once make makes changes apart.1 (replaced (is_of sysmod.id) made rows)
    ∙ ap (λ some. gone changes some ++ flat_map make changes) (sym (replaced_then (is_of sysmod.id) made rows))
    ∙ ap (λ some. some ++ flat_map make changes) (gone_beside changes left made (none_made make makes sysmod changes apart.0))
    ∙ append_assoc (gone changes left) made (flat_map make changes)
at_once make makes (OfHold change ∷ changes) apart rows =
    at_once make makes changes apart rows ∙ ap (λ some. gone changes rows ++ (some ++ flat_map make changes)) (sym (makes.bare change))

-- ---- what records make

none_named : (id other : List ℕ) → IsId id → id ≢ other → is_named other (id_value id) ≡ false
none_named id other is apart = false_from_ne_true _ (λ same. apart (named id other is same))

pub sysmods_own : MakesOwn record_rows
sysmods_own = record { own = own; bare = λ change. refl }
  where
    own : (sysmod : Sysmod) (other : Change) → IsApart sysmod.id other → NoneOf (record_rows (Whole sysmod)) other
    own sysmod (Whole other) apart = ap (λ b. b || false) (none_named sysmod.id other.id apart.0 apart.1)
    own sysmod (OfHold change) apart = tt

-- rows under the id of a record are of no record with another id
under_apart : {X : Type 0} (row : List ℕ → X → Row) → ((id other : List ℕ) (x : X) → is_of other (row id x) ≡ is_named other (id_value id))
    → (sysmod : Sysmod) (xs : List X) (other : Change) → IsApart sysmod.id other → NoneOf (map (row sysmod.id) xs) other
under_apart row under sysmod [] (Whole other) apart = refl
under_apart row under sysmod (x ∷ xs) (Whole other) apart =
    ap₂ ◌||◌ (under sysmod.id other.id x ∙ none_named sysmod.id other.id apart.0 apart.1) (under_apart row under sysmod xs (Whole other) apart)
under_apart row under sysmod xs (OfHold change) apart = tt

-- the rows of what a record supersedes
abbrev pub member_rows : Change → List Row
member_rows (Whole sysmod) = map (sup_row sysmod.id) sysmod.sup
member_rows (OfHold change) = []

pub members_own : MakesOwn member_rows
members_own = record { own = λ sysmod other apart. under_apart sup_row (λ id other member. refl) sysmod sysmod.sup other apart; bare = λ change. refl }

paired : (id : List ℕ) (members : List (List ℕ)) → map member_values (pairs id members) ≡ map (sup_row id) members
paired id [] = refl
paired id (member ∷ members) = ap (λ rows. sup_row id member ∷ rows) (paired id members)

all_paired : (changes : List Change) → map member_values (flat_map sups_of changes) ≡ flat_map member_rows changes
all_paired [] = refl
all_paired (Whole sysmod ∷ changes) =
    map-append member_values (pairs sysmod.id sysmod.sup) (flat_map sups_of changes) ∙ ap₂ ◌++◌ (paired sysmod.id sysmod.sup) (all_paired changes)
all_paired (OfHold change ∷ changes) = all_paired changes

abbrev pub cond_rows : Change → List Row
cond_rows (Whole sysmod) = map (cond_row sysmod.id) sysmod.conds
cond_rows (OfHold change) = []

pub conds_own : MakesOwn cond_rows
conds_own = record { own = λ sysmod other apart. under_apart cond_row (λ id other cond. refl) sysmod sysmod.conds other apart; bare = λ change. refl }

-- ---- all tables

abbrev pub held_in_turn : List Change → List Row → List Row
held_in_turn [] holds = holds
held_in_turn (Whole sysmod ∷ changes) holds = held_in_turn changes holds
held_in_turn (OfHold change ∷ changes) holds = held_in_turn changes (holds_changed change holds)

pub published_in_turn : (changes : List Change) (stored : Stored) → fold published stored changes
    ≡ record stored { sysmods = in_turn record_rows changes stored.sysmods; sups = in_turn member_rows changes stored.sups; conds = in_turn cond_rows changes stored.conds; holds = held_in_turn changes stored.holds }
published_in_turn [] stored = refl
published_in_turn (Whole sysmod ∷ changes) stored = published_in_turn changes (published stored (Whole sysmod))
published_in_turn (OfHold change ∷ changes) stored = published_in_turn changes (published stored (OfHold change))

pub all_gone : (changes : List Change) (stored : Stored) → fold record_gone stored changes ≡ record stored { sysmods = gone changes stored.sysmods; sups = gone changes stored.sups }
all_gone [] stored = refl
all_gone (Whole sysmod ∷ changes) stored = all_gone changes (record_gone stored (Whole sysmod))
all_gone (OfHold change ∷ changes) stored = all_gone changes stored

pub all_rest : (changes : List Change) (stored : Stored) → fold rest_put stored changes ≡ record stored { conds = in_turn cond_rows changes stored.conds; holds = held_in_turn changes stored.holds }
all_rest [] stored = refl
all_rest (Whole sysmod ∷ changes) stored = all_rest changes (rest_put stored (Whole sysmod))
all_rest (OfHold change ∷ changes) stored = all_rest changes (rest_put stored (OfHold change))

pub put_at_once : (changes : List Change) (rows : List SysmodRow) (sups : List SupRow) → AreApart changes → map values_of rows ≡ flat_map record_rows changes → sups ≡ flat_map sups_of changes
    → (stored : Stored) → fold rest_put (with_members sups (with_sysmods rows (fold record_gone stored changes))) changes ≡ fold published stored changes
put_at_once changes rows sups apart rows_are sups_are stored =
    all_rest changes (with_members sups (with_sysmods rows (fold record_gone stored changes)))
    ∙ (λ i. record (all_gone changes stored i) {
      sysmods = (all_gone changes stored i).sysmods ++ rows_are i;
      sups = (all_gone changes stored i).sups ++ (ap (map member_values) sups_are ∙ all_paired changes) i;
      conds = in_turn cond_rows changes (all_gone changes stored i).conds;
      holds = held_in_turn changes (all_gone changes stored i).holds;
    })
    ∙ (λ i. record stored {
      sysmods = sym (at_once record_rows sysmods_own changes apart stored.sysmods) i;
      sups = sym (at_once member_rows members_own changes apart stored.sups) i;
      conds = in_turn cond_rows changes stored.conds;
      holds = held_in_turn changes stored.holds;
    })
    ∙ sym (published_in_turn changes stored)

-- ---- none is there, nor comes twice

none_left : (test other : Row → Bool) (rows : List Row) → list_any test rows ≡ false → list_any test (replaced other [] rows) ≡ false
none_left test other rows none = ap (list_any test) (append-nil (filter (λ row. not (other row)) rows)) ∙ false_from_ne_true _ (λ any.
    let it = some_has test (filter (λ row. not (other row)) rows) any in
    both_ways _ none (some_from test rows it.0 (has_filtered (λ row. not (other row)) rows it.0 it.1).0 it.2))

still_none : (test : Row → Bool) (changes : List Change) (rows : List Row) → list_any test rows ≡ false → list_any test (gone changes rows) ≡ false
still_none test [] rows none = none
still_none test (Whole sysmod ∷ changes) rows none = still_none test changes (replaced (is_of sysmod.id) [] rows) (none_left test (is_of sysmod.id) rows none)
still_none test (OfHold change ∷ changes) rows none = still_none test changes rows none

none_of : (changes : List Change) (rows : List Row) → AllByRecursion (NoneOf (gone changes rows)) changes
none_of [] rows = tt
none_of (Whole sysmod ∷ changes) rows =
    let left = replaced (is_of sysmod.id) [] rows in
    (still_none (is_of sysmod.id) changes left (gone_now (is_of sysmod.id) (is_of sysmod.id) (λ row h. h) rows), none_of changes left)
none_of (OfHold change ∷ changes) rows = (tt, none_of changes rows)

pub none_in_both : (changes : List Change) (rows more : List Row) → AllByRecursion (NoneOf rows) changes → AllByRecursion (NoneOf more) changes → AllByRecursion (NoneOf (rows ++ more)) changes
none_in_both [] rows more none none_then = tt
none_in_both (Whole sysmod ∷ changes) rows more none none_then =
    (list_any-append (is_of sysmod.id) rows more ∙ ap₂ ◌||◌ none.0 none_then.0, none_in_both changes rows more none.1 none_then.1)
none_in_both (OfHold change ∷ changes) rows more none none_then = (tt, none_in_both changes rows more none.1 none_then.1)

pub records_new : (changes : List Change) → AreApart changes → (rows : List Row) → AllByRecursion (NoneOf rows) changes → AreNewRecords changes rows
records_new [] apart rows none = tt
records_new (Whole sysmod ∷ changes) apart rows none =
    (none.0, records_new changes apart.1 (rows ++ record_rows (Whole sysmod)) (none_in_both changes rows (record_rows (Whole sysmod)) none.1 (none_made record_rows sysmods_own sysmod changes apart.0)))
records_new (OfHold change ∷ changes) apart rows none = records_new changes apart rows none.1

pub new_after_all : (changes : List Change) → AreApart changes → (stored : Stored) → AreNewRecords changes (fold record_gone stored changes).sysmods
new_after_all changes apart stored =
    subst (λ (left : Stored). AreNewRecords changes left.sysmods) (sym (all_gone changes stored)) (records_new changes apart (gone changes stored.sysmods) (none_of changes stored.sysmods))

both_new : (xs ys : List SupRow) (rows : List Row) → AreNewMembers xs rows → AreNewMembers ys (rows ++ map member_values xs) → AreNewMembers (xs ++ ys) rows
both_new [] ys rows new then = subst (AreNewMembers ys) (append-nil rows) then
both_new (x ∷ xs) ys rows new then =
    (new.0, both_new xs ys (rows ++ member_values x ∷ []) new.1 (subst (AreNewMembers ys) (sym (append_assoc rows (member_values x ∷ []) (map member_values xs))) then))

pairs_new : (id : List ℕ) (members : List (List ℕ)) (rows : List Row) → AreNew (is_of_both id) (sup_row id) members rows → AreNewMembers (pairs id members) rows
pairs_new id [] rows new = tt
pairs_new id (member ∷ members) rows new = (new.0, pairs_new id members (rows ++ sup_row id member ∷ []) new.1)

-- what one record supersedes, where no row is of it
one_new : (id : List ℕ) (members : List (List ℕ)) → AreIds members → Ascend members → (rows : List Row) → list_any (is_of id) rows ≡ false → AreNewMembers (pairs id members) rows
one_new id members ids up rows none =
    pairs_new id members rows (subst (AreNew (is_of_both id) (sup_row id) members) (sym (none_gone (is_of id) rows none))
    (each_new (is_of_both id) (sup_row id) members (replaced (is_of id) [] rows) (λ i member low at. next_sup id members i member ids up low at rows)))

pub members_new : (changes : List Change) → AreApart changes → AllByRecursion IsFitChange changes → (rows : List Row) → AllByRecursion (NoneOf rows) changes → AreNewMembers (flat_map sups_of changes) rows
members_new [] apart fit rows none = tt
members_new (Whole sysmod ∷ changes) apart fit rows none =
    both_new (pairs sysmod.id sysmod.sup) (flat_map sups_of changes) rows (one_new sysmod.id sysmod.sup fit.0.sup fit.0.ascend rows none.0)
    (members_new changes apart.1 fit.1 (rows ++ map member_values (pairs sysmod.id sysmod.sup))
    (none_in_both changes rows (map member_values (pairs sysmod.id sysmod.sup)) none.1
    (subst (λ more. AllByRecursion (NoneOf more) changes) (sym (paired sysmod.id sysmod.sup)) (none_made member_rows members_own sysmod changes apart.0))))
members_new (OfHold change ∷ changes) apart fit rows none = members_new changes apart fit.1 rows none.1

pub members_after_all : (changes : List Change) (sups : List SupRow) → AreApart changes → AllByRecursion IsFitChange changes → sups ≡ flat_map sups_of changes → (stored : Stored)
    → AreNewMembers sups (fold record_gone stored changes).sups
members_after_all changes sups apart fit sups_are stored =
    subst (λ (rows : List SupRow). AreNewMembers rows (fold record_gone stored changes).sups) (sym sups_are)
    (subst (λ (left : Stored). AreNewMembers (flat_map sups_of changes) left.sups) (sym (all_gone changes stored)) (members_new changes apart fit (gone changes stored.sups) (none_of changes stored.sups)))

-- ---- element by element

pub gone_turn : (first : Stored → Stored) → ComesInTurn first (λ change stored. record_gone stored change) (λ changes stored. fold record_gone (first stored) changes)
gone_turn first = record { none = λ stored. refl; more = λ xs x stored. sym (fold_push record_gone (first stored) xs x) }

-- a hold leaves them as they are
pub hold_spared : (changes : List Change) (i : ℕ) (one : Change) (change : HoldChange) → i < length changes → one ≡ get_or changes i one → one ≡ OfHold change → (stored : Stored)
    → fold record_gone stored (take i changes) ≡ fold record_gone stored (take (i + 1) changes)
hold_spared changes i one change low at is stored =
    ap (λ (other : Change). record_gone (fold record_gone stored (take i changes)) other) (sym is)
    ∙ sym (fold_push record_gone stored (take i changes) one)
    ∙ ap (fold record_gone stored) (one_more changes i one low at)

pub rest_turn : (first : Stored → Stored) → ComesInTurn first (λ change stored. rest_put stored change) (λ changes stored. fold rest_put (first stored) changes)
rest_turn first = record { none = λ stored. refl; more = λ xs x stored. sym (fold_push rest_put (first stored) xs x) }

-- ---- how many

plus_one : (all some more : ℕ) → all ≡ some + more → suc all ≡ suc some + more
plus_one all some more same = omega (arith, same)

both_records : (xs ys : List Change) → records_in (xs ++ ys) ≡ records_in xs + records_in ys
both_records [] ys = omega arith
both_records (Whole sysmod ∷ xs) ys = plus_one (records_in (xs ++ ys)) (records_in xs) (records_in ys) (both_records xs ys)
both_records (OfHold change ∷ xs) ys = both_records xs ys

pub one_more_record : (changes : List Change) (i : ℕ) (change : Change) → i < length changes → change ≡ get_or changes i change → records_in (take i changes) + records_in (change ∷ []) ≡ records_in (take (i + 1) changes)
one_more_record changes i change low at = sym (both_records (take i changes) (change ∷ [])) ∙ ap records_in (one_more changes i change low at)

-- the first change is of the record that it is of
pub begins : (changes : List Change) (sysmod : Sysmod) → 0 < length changes → Whole sysmod ≡ get_or changes 0 (Whole sysmod) → Begins sysmod changes
begins [] sysmod some at = absurd (omega (arith, some))
begins (change ∷ changes) sysmod some at = ap (λ first. first ∷ changes) at

pub lone : (changes : List Change) (change : Change) → length changes ≡ 1 → change ≡ get_or changes 0 change → changes ≡ change ∷ []
lone [] x one at = absurd (omega (arith, one))
lone (y ∷ []) x one at = ap (λ z. z ∷ []) (sym at)
lone (y ∷ z ∷ more) x one at = absurd (omega (arith, one))

-- one record is apart, and eight are
pub apart_then : (changes : List Change) (sysmod : Sysmod) → Whole sysmod ≡ get_or changes 0 (Whole sysmod) → IsTogether changes → AreApart changes
apart_then changes sysmod at (inl one) = subst AreApart (sym (lone changes (Whole sysmod) one at)) (tt, tt)
apart_then changes sysmod at (inr eight) = eight.2

pub so_many : (changes : List Change) (sysmod : Sysmod) → Whole sysmod ≡ get_or changes 0 (Whole sysmod) → IsTogether changes → (records_in changes ≡ 1) ⊎ (records_in changes ≡ 8)
so_many changes sysmod at (inl one) = inl (ap records_in (lone changes (Whole sysmod) one at))
so_many changes sysmod at (inr eight) = inr eight.1

-- a change that is none of a record comes alone
pub alone : (changes : List Change) (change : HoldChange) → OfHold change ≡ get_or changes 0 (OfHold change) → IsTogether changes → changes ≡ OfHold change ∷ []
alone changes change at (inl one) = lone changes (OfHold change) one at
alone [] change at (inr eight) = absurd (let none = eight.0 in omega (arith, none))
alone (Whole sysmod ∷ changes) change at (inr eight) = absurd (cc)
alone (OfHold other ∷ changes) change at (inr eight) = absurd (let none = eight.0 in omega (arith, none))

pub some_together : (changes : List Change) → IsTogether changes → 0 < length changes
some_together [] (inl one) = absurd (omega (arith, one))
some_together [] (inr eight) = absurd (let none = eight.0 in omega (arith, none))
some_together (change ∷ changes) together = omega arith

-- to begin with the first is to delete all
pub gone_from_first : (changes : List Change) (first : Sysmod) → Begins first changes → (stored : Stored)
    → fold record_gone (record_gone stored (Whole first)) (take (length changes - 1) (drop 1 changes)) ≡ fold record_gone stored changes
gone_from_first changes first begins stored =
    let long = length-drop 1 changes in
    ap (fold record_gone (record_gone stored (Whole first))) (take_all (length changes - 1) (drop 1 changes) (omega (arith, long))) ∙ ap (fold record_gone stored) begins

as_many : (changes : List Change) → length (flat_map record_rows changes) ≡ records_in changes
as_many [] = refl
as_many (Whole sysmod ∷ changes) = ap suc (as_many changes)
as_many (OfHold change ∷ changes) = as_many changes

pub rows_so_many : (changes : List Change) (rows : List SysmodRow) → map values_of rows ≡ flat_map record_rows changes → length rows ≡ records_in changes
rows_so_many changes rows rows_are = sym (length-map rows values_of) ∙ ap length rows_are ∙ as_many changes

add_up : (rows sups rest all rows_then sups_then rest_then all_then own members : ℕ) → (rows + sups) + rest ≡ all → rows_then ≡ suc rows → sups_then ≡ members + sups → rest_then ≡ own + rest
    → all_then ≡ (1 + (members + own)) + all → (rows_then + sups_then) + rest_then ≡ all_then
add_up rows sups rest all rows_then sups_then rest_then all_then own members before a b c d = omega (arith, before, a, b, c, d)

add_hold : (rows sups rest all rest_then all_then own : ℕ) → (rows + sups) + rest ≡ all → rest_then ≡ own + rest → all_then ≡ own + all → (rows + sups) + rest_then ≡ all_then
add_hold rows sups rest all rest_then all_then own before a b = omega (arith, before, a, b)

all_rows : (changes : List Change) → (length (flat_map record_rows changes) + length (flat_map sups_of changes)) + sum_by rest_count changes ≡ sum_by rows_of_change changes
all_rows [] = refl
all_rows (Whole sysmod ∷ changes) =
    add_up (length (flat_map record_rows changes)) (length (flat_map sups_of changes)) (sum_by rest_count changes) (sum_by rows_of_change changes)
    (length (flat_map record_rows (Whole sysmod ∷ changes))) (length (flat_map sups_of (Whole sysmod ∷ changes))) (sum_by rest_count (Whole sysmod ∷ changes)) (sum_by rows_of_change (Whole sysmod ∷ changes))
    (length sysmod.conds) (length sysmod.sup) (all_rows changes) refl
    (length-append (pairs sysmod.id sysmod.sup) (flat_map sups_of changes) ∙ ap (λ n. n + length (flat_map sups_of changes)) (length-map {B = SupRow} sysmod.sup (λ member. record { id = sysmod.id; member = member })))
    (sum_by-cons rest_count (Whole sysmod) changes) (sum_by-cons rows_of_change (Whole sysmod) changes)
all_rows (OfHold change ∷ changes) =
    add_hold (length (flat_map record_rows changes)) (length (flat_map sups_of changes)) (sum_by rest_count changes) (sum_by rows_of_change changes)
    (sum_by rest_count (OfHold change ∷ changes)) (sum_by rows_of_change (OfHold change ∷ changes)) (rows_of_change (OfHold change)) (all_rows changes) (sum_by-cons rest_count (OfHold change) changes) (sum_by-cons rows_of_change (OfHold change) changes)

pub all_counted : (changes : List Change) (rows : List SysmodRow) (sups : List SupRow) → map values_of rows ≡ flat_map record_rows changes → sups ≡ flat_map sups_of changes
    → (length rows + length sups) + sum_by rest_count changes ≡ sum_by rows_of_change changes
all_counted changes rows sups rows_are sups_are =
    let whole = all_rows changes in
    let made = sym (length-map rows values_of) ∙ ap length rows_are in
    let members = ap length sups_are in
    omega (arith, whole, made, members)
