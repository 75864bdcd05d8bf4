-- The texts that make the tables run one after the other.
use Rattle.std.proofs.Common.{◌≡◌, ◌≤◌, ◌<◌, ◌+◌, ℕ, suc, true, List, [], ◌∷◌, Result, Ok, Err, ap, drop, get_or, length, refl, subst}
use Rattle.std.specs.Borrow.{Bor}
use Rattle.std.specs.Result.{IsErr}
use Rattle.std.proofs.lemmas.Bool.{and_parts}
use Rattle.std.proofs.lemmas.List.{drop_all, drop_more}
use Rattle.sqlite.specs.Effect.{Database}
use Rattle.sqlite.specs.State.{State, Survives}
use Rattle.sqlite.specs.declared.error.Error.{Error}
use Rattle.sql_texts.specs.Creation.{CreateAll, Creation, creations, of_index, of_table}
use Rattle.sql_texts.specs.Schema.{indexes, made, tables}
use Rattle.sql_rows.specs.Running.{FailsInside, Ran}
use Rattle.sql_rows.proofs.TableFacts.{at_index}
use Rattle.sql_writes.specs.Excused.{IsExcused}
use Rattle.sql_writes.specs.Making.{IsEmpty, IsMade, Leads}
use Rattle.sql_writes.proofs.DefineFacts.{is_new, is_new_index, tested_new, tested_new_index}
use Rattle.sql_writes.proofs.ExcuseFacts.{excused_then, index_excused, table_excused}
use Rattle.sql_writes.proofs.MakeFacts.{index_comes, leads_nowhere, leads_then, table_comes}
use Rattle.sql_writes.proofs.NewFacts.{are_new, others_are_new}

abbrev pub HaveMade : State → State → ℕ → ℕ → Type 0
HaveMade old now so_many so_many_indexes = Leads {Answer = Unit {0}} {Fault = Error} old now (Ok tt) IsEmpty (IsMade so_many so_many_indexes)

-- Some of the tables and of the indexes are there, and these texts create the others.
pub record AreLeft (old now : State) (texts : List (Bor (List ℕ))) : Type 0 where
  pub so_many : ℕ
  pub so_many_indexes : ℕ
  pub later : List Creation
  pub create : CreateAll so_many so_many_indexes later texts
  pub fresh : are_new so_many so_many_indexes later ≡ true
  pub so_far : HaveMade old now so_many so_many_indexes

-- as many texts as they create
as_many : (so_many so_many_indexes : ℕ) (later : List Creation) (texts : List (Bor (List ℕ))) → CreateAll so_many so_many_indexes later texts → length later ≡ length texts
as_many n m [] [] create = refl
as_many n m [] (text ∷ texts) create = absurd create
as_many n m (creation ∷ later) [] create = absurd create
as_many n m (of_table table ∷ later) (text ∷ texts) create = ap suc (as_many (n + 1) (m + length table.uniques) later texts create.1)
as_many n m (of_index place table index ∷ later) (text ∷ texts) create = ap suc (as_many n (m + 1) later texts create.2)

-- all but the first
pub all_left : (old now : State) (texts : List (Bor (List ℕ))) → CreateAll 1 0 creations texts → HaveMade old now 1 0 → AreLeft old now texts
all_left old now texts create made = record { so_many = 1; so_many_indexes = 0; later = creations; create = create; fresh = others_are_new; so_far = made }

module _ (old now new : State) (text : Bor (List ℕ)) (texts : List (Bor (List ℕ))) where
  one_came : (n m : ℕ) (later : List Creation) → CreateAll n m later (text ∷ texts) → are_new n m later ≡ true → HaveMade old now n m
      → Ran {Answer = Unit {0}} {Fault = Error} text.now [] now new (Ok tt) → AreLeft old new texts
  one_came n m [] create is before ran = absurd create
  one_came n m (of_table table ∷ later) create is before ran =
      let keys = m + length table.uniques in
      let parts = and_parts (is_new (made n m) (made (n + 1) keys) table) (are_new (n + 1) keys later) is in
      let unlacking = (tested_new (made n m) (made (n + 1) keys) table parts.0).1 in
      record {
        so_many = n + 1;
        so_many_indexes = keys;
        later = later;
        create = create.1;
        fresh = parts.1;
        so_far = leads_then old now new tt (Ok tt) IsEmpty (IsMade n m) (IsMade (n + 1) keys) before
            (table_comes (IsMade n m) n m (n + 1) keys text.now table now new (Ok tt) (λ database so_far. (so_far.schema, so_far.empty)) create.0 unlacking ran);
      }
  one_came n m (of_index place table index ∷ later) create is before ran = record {
    so_many = n;
    so_many_indexes = m + 1;
    later = later;
    create = create.2;
    fresh = (and_parts (is_new_index (made n m) table index) (are_new n (m + 1) later) is).1;
    so_far = leads_then old now new tt (Ok tt) IsEmpty (IsMade n m) (IsMade n (m + 1)) before
        (index_comes n m (m + 1) place text.now table index now new (Ok tt) create.1 create.0 ran);
  }

  one_excused : {A : Type 0} (result : Result A Error) (n m : ℕ) (later : List Creation) → CreateAll n m later (text ∷ texts) → are_new n m later ≡ true → HaveMade old now n m
      → Survives now new (λ trees. ⊥) → FailsInside text.now [] now new result → IsExcused old new result IsEmpty
  one_excused result n m [] create is before survives fails = absurd create
  one_excused result n m (of_table table ∷ later) create is before survives fails =
      let keys = m + length table.uniques in
      let new_table = tested_new (made n m) (made (n + 1) keys) table (and_parts (is_new (made n m) (made (n + 1) keys) table) (are_new (n + 1) keys later) is).0 in
      excused_then old now new tt result IsEmpty (IsMade n m) before survives
      (table_excused text.now now new result (IsMade n m) (made n m) (made (n + 1) keys) table (λ database so_far. so_far.schema) create.0 new_table.0 new_table.1 fails)
  one_excused result n m (of_index place table index ∷ later) create is before survives fails =
      let new_index = tested_new_index (made n m) table index (and_parts (is_new_index (made n m) table index) (are_new n (m + 1) later) is).0 in
      excused_then old now new tt result IsEmpty (IsMade n m) before survives
      (index_excused text.now now new result (IsMade n m) (made n m) (made n (m + 1)) place table index (λ database so_far. so_far.schema) create.1 new_index create.0
      (λ database so_far. (so_far.empty, at_index (λ t. database.trees t.tree ≡ []) (made n m).tables place table create.0 so_far.empty)) fails)

module _ (old now new : State) (texts : List (Bor (List ℕ))) (all : CreateAll 1 0 creations texts) (i : ℕ) (low : i < length creations) (left : AreLeft old now (drop i texts)) where
  abbrev none : Bor (List ℕ)
  none = record { ref_ptr = (0, 0); now = [] }

  abbrev next : Bor (List ℕ)
  next = get_or texts i none

  next_left : AreLeft old now (next ∷ drop (i + 1) texts)
  next_left = subst (AreLeft old now) (drop_more texts i none (subst (λ count. i < count) (as_many 1 0 creations texts all) low)) left

  -- what the next text creates comes
  pub next_came : Ran {Answer = Unit {0}} {Fault = Error} next.now [] now new (Ok tt) → AreLeft old new (drop (i + 1) texts)
  next_came ran =
      one_came old now new next (drop (i + 1) texts) next_left.so_many next_left.so_many_indexes next_left.later next_left.create next_left.fresh next_left.so_far ran

  -- or it is refused with an excuse
  pub next_excused : (e : Error) → Survives now new (λ trees. ⊥) → FailsInside {Answer = Unit {0}} next.now [] now new (Err e) → IsExcused {Answer = Unit {0}} old new (Err e) IsEmpty
  next_excused e survives fails =
      one_excused old now new next (drop (i + 1) texts) {A = Unit {0}} (Err e) next_left.so_many next_left.so_many_indexes next_left.later next_left.create next_left.fresh next_left.so_far survives fails

  -- which leads nowhere
  pub next_refused : {A F : Type 0} (result : Result A F) (e : Error) (text : List ℕ) (To : Database → Type 0) → IsErr result → Ran {Answer = Unit {0}} text [] now new (Err e)
      → Leads old new result IsEmpty To
  next_refused result e text To is ran =
      leads_nowhere {A = Unit {0}} old new e result IsEmpty To To is
      (leads_then {B = Unit {0}} old now new tt (Err e) IsEmpty (IsMade left.so_many left.so_many_indexes) To left.so_far (record { keeps = ran.keeps; survives = ran.survives; done = tt }))

-- all came where no text is left
module _ (old now : State) where
  none_left : (n m : ℕ) (later : List Creation) → CreateAll n m later [] → HaveMade old now n m → HaveMade old now (length tables) (length indexes)
  none_left n m [] all made = subst (HaveMade old now (length tables)) all.1 (subst (λ so_many. HaveMade old now so_many m) all.0 made)
  none_left n m (creation ∷ later) all made = absurd all

  pub all_came : (texts : List (Bor (List ℕ))) → CreateAll 1 0 creations texts → (i : ℕ) → length creations ≤ i → AreLeft old now (drop i texts) → HaveMade old now (length tables) (length indexes)
  all_came texts all i high left =
      let end : AreLeft old now [] = subst (AreLeft old now) (drop_all i texts (subst (λ count. count ≤ i) (as_many 1 0 creations texts all) high)) left in
      none_left end.so_many end.so_many_indexes end.later end.create end.so_far
