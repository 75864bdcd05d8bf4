-- Lists of rows that come one after the other.
use Rattle.std.proofs.Common.{◌≡◌, ℕ, ◌+◌, ◌<◌, ◌≤◌, List, [], ◌∷◌, ◌++◌, Ok, length, take, get_or, sym, ◌∙◌, ap, subst, append_assoc}
use Rattle.std.specs.Prelude.{map}
use Rattle.std.proofs.lemmas.List.{map-append, take_all, take_more}
use Rattle.sqlite.specs.Order.{Row}
use Rattle.sqlite.specs.State.{State}
use Rattle.sql_tables.specs.Stored.{Stored}
use Rattle.sql_tables.specs.Writing.{Changes}
use Rattle.sql_rows.proofs.ChangeFacts.{alike, changes_then}

-- the same success, told otherwise
pub told : {A B F G : Type 0} (old new : State) (a : A) (b : B) (change : Stored → Stored) → Changes {Fault = F} old new (Ok a) change → Changes {Fault = G} old new (Ok b) change
told old new a b change h = record { keeps = h.keeps; survives = h.survives; done = h.done }

-- a change that a list makes, element by element after a first change
pub record ComesInTurn {X : Type 0} (first : Stored → Stored) (step : X → Stored → Stored) (come : List X → Stored → Stored) : Type 0 where
  pub none : (stored : Stored) → first stored ≡ come [] stored
  pub more : (xs : List X) (x : X) (stored : Stored) → step x (come xs stored) ≡ come (xs ++ x ∷ []) stored

module _ {X : Type 0} (first : Stored → Stored) (step : X → Stored → Stored) (come : List X → Stored → Stored) (turns : ComesInTurn first step come) (xs : List X) where
  pub begun : {A B F G : Type 0} (old mid : State) (a : A) (b : B) → Changes {Fault = F} old mid (Ok a) first → Changes {Fault = G} old mid (Ok b) (come [])
  begun old mid a b h = told old mid a b (come []) (alike old mid (Ok a) first (come []) turns.none h)

  pub more : {A B F G : Type 0} (old now next : State) (a : A) (b : B) (i : ℕ) (x : X) → i < length xs → x ≡ get_or xs i x
      → Changes {Fault = F} old now (Ok a) (come (take i xs)) → Changes {Fault = G} now next (Ok b) (step x) → Changes {Answer = A} {Fault = F} old next (Ok a) (come (take (i + 1) xs))
  more old now next a b i x low at one two =
      let whole : (stored : Stored) → step x (come (take i xs) stored) ≡ come (take (i + 1) xs) stored = λ stored.
      turns.more (take i xs) x stored ∙ ap (λ ys. come ys stored) (ap (λ y. take i xs ++ y ∷ []) at ∙ sym (take_more xs i x low)) in
      told old next b a (come (take (i + 1) xs))
      (alike old next (Ok b) (λ stored. step x (come (take i xs) stored)) (come (take (i + 1) xs)) whole
      (changes_then old now next a (Ok b) (come (take i xs)) (step x) one two))

  pub ended : {A F : Type 0} (old new : State) (a : A) (i : ℕ) → length xs ≤ i → Changes {Fault = F} old new (Ok a) (come (take i xs)) → Changes {Fault = F} old new (Ok a) (come xs)
  ended {A} {F} old new a i all h = subst (λ ys. Changes {Answer = A} {Fault = F} old new (Ok a) (come ys)) (take_all i xs all) h

-- rows that come after those of a table
pub in_turn : {X : Type 0} (make : X → Row) (rows : List Row) (xs : List X) (x : X) → (rows ++ map make xs) ++ map make (x ∷ []) ≡ rows ++ map make (xs ++ x ∷ [])
in_turn make rows xs x = append_assoc rows (map make xs) (map make (x ∷ [])) ∙ ap (λ ys. rows ++ ys) (sym (map-append make xs (x ∷ [])))
