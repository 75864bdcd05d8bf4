-- Lists of rows that come in parts, each part by one statement.
use Rattle.std.proofs.Common.{◌≡◌, ◌≤◌, ◌<◌, ◌+◌, ◌-◌, ◌++◌, ℕ, zero, suc, Bool, false, true, List, [], ◌∷◌, Ok, Result, append_assoc, drop, get_or, length, map, take, refl, sym, ◌∙◌, ap, subst, arith}
use Rattle.std.proofs.Math.Seq.{get_or-append_seam, take-add, take-append_seam}
use Rattle.std.proofs.lemmas.List.{append-nil, length-append, length-drop, length-take, take-append-drop, take_all}
use Rattle.std.proofs.lemmas.List.Sums.{fold-append, sum_by-append, sum_by-take-drop}
use Rattle.std.proofs.lemmas.Bool.{and_from, and_parts}
use Rattle.std.specs.List.{AllByRecursion, list_all, list_any}
use Rattle.std.specs.Prelude.{fold, min, sum_by}
use Rattle.sqlite.specs.Order.{Row}
use Rattle.sqlite.specs.State.{State, Survives}
use Rattle.sqlite.specs.declared.error.Error.{Error}
use Rattle.sql_tables.specs.Stored.{Stored}
use Rattle.sql_tables.specs.Writing.{Changes}
use Rattle.sql_writes.specs.Excused.{Takes}
use Rattle.sql_writes.specs.Many.{AreNew}
use Rattle.sql_rows.proofs.ChangeFacts.{alike, both}
use Rattle.sql_rows.proofs.TurnFacts.{in_turn, told}
use Rattle.sql_writes.proofs.TakeFacts.{takes_as, takes_then}

-- what goes next of a list, by a statement that takes so many rows at most
pub part_is : (at all most count : ℕ) → at < all → 0 < most → count ≡ min (all - at) most → (0 < count) × (count ≤ most) × (at + count ≤ all)
part_is at all most count low some is = (omega (arith, low, some, is), omega (arith, low, some, is), omega (arith, low, some, is))

-- a part of a list, from this place on
abbrev pub part : {X : Type 0} → ℕ → ℕ → List X → List X
part i n all = take (i + n - i) (drop i all)

pub part_as : {X : Type 0} (i n : ℕ) (all : List X) → take n (drop i all) ≡ part i n all
part_as i n all = let same : n ≡ i + n - i = omega arith in ap (λ k. take k (drop i all)) same

pub part_length : {X : Type 0} (i n : ℕ) (all : List X) → i + n ≤ length all → length (part i n all) ≡ n
part_length i n all low =
    let left = length-drop i all in
    let taken = length-take (i + n - i) (drop i all) in
    omega (arith, left, taken, low)

-- what is so of each is so of each of a part
module _ {X : Type 0} where
  all_taken : (P : X → Type 0) (n : ℕ) (xs : List X) → AllByRecursion P xs → AllByRecursion P (take n xs)
  all_taken P zero xs all = tt
  all_taken P (suc n) [] all = tt
  all_taken P (suc n) (x ∷ xs) all = (all.0, all_taken P n xs all.1)

  all_dropped : (P : X → Type 0) (n : ℕ) (xs : List X) → AllByRecursion P xs → AllByRecursion P (drop n xs)
  all_dropped P zero xs all = all
  all_dropped P (suc n) [] all = tt
  all_dropped P (suc n) (x ∷ xs) all = all_dropped P n xs all.1

  pub part_all : (P : X → Type 0) (i n : ℕ) (xs : List X) → AllByRecursion P xs → AllByRecursion P (part i n xs)
  part_all P i n xs all = all_taken P (i + n - i) (drop i xs) (all_dropped P i xs all)

  passes_taken : (p : X → Bool) (n : ℕ) (xs : List X) → list_all p xs ≡ true → list_all p (take n xs) ≡ true
  passes_taken p zero xs passes = refl
  passes_taken p (suc n) [] passes = refl
  passes_taken p (suc n) (x ∷ xs) passes = let both = and_parts (p x) (list_all p xs) passes in and_from (p x) (list_all p (take n xs)) both.0 (passes_taken p n xs both.1)

  passes_dropped : (p : X → Bool) (n : ℕ) (xs : List X) → list_all p xs ≡ true → list_all p (drop n xs) ≡ true
  passes_dropped p zero xs passes = passes
  passes_dropped p (suc n) [] passes = refl
  passes_dropped p (suc n) (x ∷ xs) passes = passes_dropped p n xs (and_parts (p x) (list_all p xs) passes).1

  pub part_passes : (p : X → Bool) (i n : ℕ) (xs : List X) → list_all p xs ≡ true → list_all p (part i n xs) ≡ true
  part_passes p i n xs passes = passes_taken p (i + n - i) (drop i xs) (passes_dropped p i xs passes)

  pub folded_longer : {Y : Type 0} (f : Y → X → Y) (i n : ℕ) (xs : List X) (y : Y) → fold f (fold f y (take i xs)) (part i n xs) ≡ fold f y (take (i + n) xs)
  folded_longer f i n xs y =
      sym (ap (fold f y) (take-add i n xs) ∙ fold-append f y (take i xs) (take n (drop i xs)) ∙ ap (fold f (fold f y (take i xs))) (part_as i n xs))

  pub summed_longer : (count : X → ℕ) (i n : ℕ) (xs : List X) → sum_by count (take i xs) + sum_by count (part i n xs) ≡ sum_by count (take (i + n) xs)
  summed_longer count i n xs =
      sym (ap (sum_by count) (take-add i n xs) ∙ sum_by-append count (take i xs) (take n (drop i xs)) ∙ ap (λ ys. sum_by count (take i xs) + sum_by count ys) (part_as i n xs))

  pub summed_fewer : (count : X → ℕ) (i n : ℕ) (xs : List X) → sum_by count (take i xs) + sum_by count (part i n xs) ≤ sum_by count xs
  summed_fewer count i n xs =
      let longer = summed_longer count i n xs in
      let whole = sum_by-take-drop count xs (i + n) in
      omega (arith, longer, whole)

module _ {X : Type 0} (is : X → Row → Bool) (make : X → Row) where
  -- of a list that is new each part is, where it comes
  parts_new : (xs ys : List X) (rows : List Row) → AreNew is make (xs ++ ys) rows → AreNew is make xs rows × AreNew is make ys (rows ++ map make xs)
  parts_new [] ys rows new = (tt, subst (AreNew is make ys) (sym (append-nil rows)) new)
  parts_new (x ∷ xs) ys rows new =
      let rest = parts_new xs ys (rows ++ make x ∷ []) new.1 in
      ((new.0, rest.0), subst (AreNew is make ys) (append_assoc rows (make x ∷ []) (map make xs)) rest.1)

  next_new : (all : List X) (i n : ℕ) (rows : List Row) → AreNew is make all rows → AreNew is make (part i n all) (rows ++ map make (take i all))
  next_new all i n rows new =
      let after = (parts_new (take i all) (drop i all) rows (subst (λ xs. AreNew is make xs rows) (sym (take-append-drop i all)) new)).1 in
      subst (λ xs. AreNew is make xs (rows ++ map make (take i all))) (part_as i n all)
      (parts_new (take n (drop i all)) (drop n (drop i all)) (rows ++ map make (take i all)) (subst (λ xs. AreNew is make xs (rows ++ map make (take i all))) (sym (take-append-drop n (drop i all))) after)).0

  -- a list is new of which each is, after those before it
  pub each_new : (all : List X) (rows : List Row) → ((i : ℕ) (x : X) → i < length all → x ≡ get_or all i x → list_any (is x) (rows ++ map make (take i all)) ≡ false) → AreNew is make all rows
  each_new all rows each = subst (AreNew is make all) (append-nil rows) (rest [] all refl)
    where
      rest : (front back : List X) → front ++ back ≡ all → AreNew is make back (rows ++ map make front)
      rest front [] whole = tt
      rest front (x ∷ back) whole =
          let long : length front < length (front ++ x ∷ back) = let sum = length-append front (x ∷ back) in omega (arith, sum) in
          let one = each (length front) x (subst (λ xs. length front < length xs) whole long) (sym (ap (λ xs. get_or xs (length front) x) (sym whole) ∙ get_or-append_seam front x back x)) in
          let before : take (length front) all ≡ front = ap (take (length front)) (sym whole) ∙ take-append_seam front (x ∷ back) in (
            subst (λ xs. list_any (is x) (rows ++ map make xs) ≡ false) before one,
            subst (AreNew is make back) (sym (in_turn make rows front x)) (rest (front ++ x ∷ []) back (append_assoc front (x ∷ []) back ∙ whole)),
          )

-- a list comes into a table, after the rows that stand there
pub record Comes {X : Type 0} (make : X → Row) (table : Stored → List Row) (come : List X → Stored → Stored) : Type 0 where
  pub none : (stored : Stored) → stored ≡ come [] stored
  pub more : (xs ys : List X) (stored : Stored) → come ys (come xs stored) ≡ come (xs ++ ys) stored
  pub rows : (xs : List X) (stored : Stored) → table (come xs stored) ≡ table stored ++ map make xs

-- after those went that stood there
module _ {X : Type 0} (make : X → Row) (table : Stored → List Row) (come : List X → Stored → Stored) (comes : Comes make table come) (away : Stored → Stored) (all : List X) where
  abbrev So : ℕ → Stored → Stored
  So i stored = come (take i all) (away stored)

  pub parts_begun : {A F : Type 0} (old mid : State) (a : A) → Changes {Fault = F} old mid (Ok a) away → Changes {Answer = Unit {0}} {Fault = Error} old mid (Ok tt) (So 0)
  parts_begun old mid a h = told old mid a tt (So 0) (alike old mid (Ok a) away (So 0) (λ stored. comes.none (away stored)) h)

  pub parts_longer : (i n : ℕ) {F : Type 0} (old now next : State) (result : Result (Unit {0}) F) → Changes {Answer = Unit {0}} {Fault = Error} old now (Ok tt) (So i) → Changes now next result (come (part i n all))
      → Changes old next result (So (i + n))
  parts_longer i n old now next result one two =
      both old now next tt result (So i) (come (part i n all)) (So (i + n))
      (λ stored. comes.more (take i all) (part i n all) (away stored) ∙ ap (λ xs. come xs (away stored)) (ap (λ xs. take i all ++ xs) (sym (part_as i n all)) ∙ sym (take-add i n all))) one two

  pub parts_ended : (i : ℕ) (old new : State) → length all ≤ i → Changes {Answer = Unit {0}} {Fault = Error} old new (Ok tt) (So i) → Changes {Answer = Unit {0}} {Fault = Error} old new (Ok tt) (λ stored. come all (away stored))
  parts_ended i old new done h = subst (λ xs. Changes {Answer = Unit {0}} {Fault = Error} old new (Ok tt) (λ stored. come xs (away stored))) (take_all i all done) h

  pub parts_take : (is : X → Row → Bool) → ((stored : Stored) → AreNew is make all (table (away stored))) → (i n : ℕ) {A : Type 0} (old now next : State) (result : Result A Error) → i + n ≤ length all
      → Changes {Answer = Unit {0}} {Fault = Error} old now (Ok tt) (So i) → Takes {Answer = Unit {0}} old now (Ok tt) i (λ stored. Unit {0}) → Survives now next (λ trees. ⊥)
      → Takes now next result (length (part i n all)) (λ stored. AreNew is make (part i n all) (table stored)) → Takes old next result (i + n) (λ stored. Unit {0})
  parts_take is new i n old now next result low change one survives two =
      takes_as old next result (λ stored. Unit {0}) (ap (λ k. i + k) (part_length i n all low))
      (takes_then old now next tt result (So i) i (length (part i n all)) (λ stored. Unit {0}) (λ stored. AreNew is make (part i n all) (table stored))
      (λ stored u. subst (AreNew is make (part i n all)) (sym (comes.rows (take i all) (away stored))) (next_new is make all i n (table (away stored)) (new stored))) change one survives two)

  -- the same of parts that are new where the first call fits, and of rows that came before them
  pub parts_fit : (is : X → Row → Bool) (Fits : Stored → Type 0) → ((stored : Stored) → Fits stored → AreNew is make all (table (away stored))) → (before i n : ℕ) {A : Type 0} (old now next : State) (result : Result A Error) → i + n ≤ length all
      → Changes {Answer = Unit {0}} {Fault = Error} old now (Ok tt) (So i) → Takes {Answer = Unit {0}} old now (Ok tt) (before + i) Fits → Survives now next (λ trees. ⊥)
      → Takes now next result (length (part i n all)) (λ stored. AreNew is make (part i n all) (table stored)) → Takes old next result (before + (i + n)) Fits
  parts_fit is Fits new before i n old now next result low change one survives two =
      let long = part_length i n all low in
      takes_as old next result Fits (omega (arith, long))
      (takes_then old now next tt result (So i) (before + i) (length (part i n all)) Fits (λ stored. AreNew is make (part i n all) (table stored))
      (λ stored fits. subst (AreNew is make (part i n all)) (sym (comes.rows (take i all) (away stored))) (next_new is make all i n (table (away stored)) (new stored fits))) change one survives two)
