-- How rows in the order of a key are cut up by it.
use Rattle.std.proofs.Common.{◌≡◌, ◌≢◌, ℕ, zero, suc, Bool, true, false, List, [], ◌∷◌, ◌++◌, refl, sym, ◌∙◌, ap, ap₂, subst, subst₂, arith, take, drop, get_or, length}
use Rattle.std.specs.Prelude.{◌+◌, ◌<◌, filter, map, IfSome, IsTrue, slice_get}
use Rattle.std.specs.Cmp.Lexicographic.{slice_cmp}
use Rattle.std.specs.List.{All, AllAdjacentBelow, AllByRecursion, IsAllAdjacentAnswer}
use Rattle.std.specs.List.Sorted.{IsStrictlySortedBy}
use Rattle.std.specs.Ordering.{is_eq, is_le, nat_cmp}
use Rattle.std.specs.declared.cmp.Ordering.{Ordering}
use Rattle.std.specs.declared.cmp.Ordering.TheVariants.{Equal, Greater, Less}
use Rattle.std.proofs.lemmas.Cmp.{alike_right, nat_list_cmp_total}
use Rattle.std.proofs.lemmas.List.{append-nil, take-append-drop, take_more}
use Rattle.std.proofs.lemmas.List.Elements.{All-push, filter-append, recursion_from_All}
use Rattle.std.proofs.lemmas.Map.Text.{is_eq-slice_cmp}
use Rattle.sqlite_trees.proofs.ListLemmas.{filter_all, filter_none}
use Rattle.sqlite_value.specs.Order.{Row}
use Rattle.lemmas.proofs.ListFacts.{all_so}
use Rattle.mcs_reader.specs.Id.{IsId, is_id_text, padded, text_of}
use Rattle.sql_reads.specs.Scans.{AreOf, IsCut, KeysRise, Takes, has_key, key_at}

-- ---- texts in order

abbrev cmp : List ℕ → List ℕ → Ordering
cmp = slice_cmp nat_cmp

-- what is not above a text that is below another is below that too
not_above_less : (a b c : List ℕ) → cmp a b ≢ Greater → cmp b c ≡ Less → cmp a c ≡ Less
not_above_less a b c not_above less = by (cmp a b) refl
  where
    by : (o : Ordering) → cmp a b ≡ o → cmp a c ≡ Less
    by Less at = nat_list_cmp_total.trans a b c at less
    by Equal at = nat_list_cmp_total.congr a b c at ∙ less
    by Greater at = absurd (not_above at)

less_not_greater : (o : Ordering) → o ≡ Less → o ≢ Greater
less_not_greater Less e h = cc
less_not_greater Equal e h = cc
less_not_greater Greater e h = cc

not_above_on : (a b c : List ℕ) → cmp a b ≢ Greater → cmp b c ≢ Greater → cmp a c ≢ Greater
not_above_on a b c first second = by (cmp b c) refl
  where
    by : (o : Ordering) → cmp b c ≡ o → cmp a c ≢ Greater
    by Less at = less_not_greater (cmp a c) (not_above_less a b c first at)
    by Equal at = subst (λ o. o ≢ Greater) (alike_right nat_list_cmp_total b c a at) first
    by Greater at = absurd (second at)

not_above_greater : (a b c : List ℕ) → cmp a b ≢ Greater → cmp a c ≡ Greater → cmp b c ≡ Greater
not_above_greater a b c first above = by (cmp b c) refl
  where
    by : (o : Ordering) → cmp b c ≡ o → cmp b c ≡ Greater
    by Less at = absurd (less_not_greater (cmp a c) (not_above_less a b c first at) above)
    by Equal at = absurd (first (alike_right nat_list_cmp_total b c a at ∙ above))
    by Greater at = at

-- ---- rows in order

-- one more of those at the front
pub all_more : {A : Type 0} (P : A → Type 0) (xs : List A) (n : ℕ) (x : A) → n < length xs → get_or xs n x ≡ x → All P (take n xs) → P x → All P (take (n + 1) xs)
all_more P xs n x within is all here = subst (All P) (sym (take_more xs n x within ∙ ap (λ y. take n xs ++ y ∷ []) is)) (All-push P (take n xs) x all here)

-- what holds of the first, if there is one
abbrev OfFirst : {A : Type 0} → (A → Type 0) → List A → Type 0
OfFirst P [] = Unit {0}
OfFirst P (x ∷ xs) = P x

first_after : {A : Type 0} (P : A → Type 0) (n : ℕ) (xs : List A) → IfSome (slice_get xs n) P → OfFirst P (drop n xs)
first_after P zero [] h = tt
first_after P zero (x ∷ xs) h = h
first_after P (suc n) [] h = tt
first_after P (suc n) (x ∷ xs) h = first_after P n xs h

module _ (place : ℕ) where
  abbrev key : Row → List ℕ
  key = key_at place

  rises_after : (row : Row) (rows : List Row) → KeysRise place (row ∷ rows) → KeysRise place rows
  rises_after row [] h = tt
  rises_after row (next ∷ rows) h = h.1

  rises_from : (n : ℕ) (rows : List Row) → KeysRise place rows → KeysRise place (drop n rows)
  rises_from zero rows h = h
  rises_from (suc n) [] h = tt
  rises_from (suc n) (row ∷ rows) h = rises_from n rows (rises_after row rows h)

  -- the first key is not above any later one
  least : (row : Row) (rows : List Row) → KeysRise place (row ∷ rows) → AllByRecursion (λ other. cmp (key row) (key other) ≢ Greater) rows
  least row [] h = tt
  least row (next ∷ rows) h = (
    h.0,
    all_so (λ other. cmp (key next) (key other) ≢ Greater) (λ other. cmp (key row) (key other) ≢ Greater) (λ other. not_above_on (key row) (key next) (key other) h.0) rows (least next rows h.1),
  )

  -- whether a row's key is not above the next one's
  abbrev pub is_rise : Row → Row → Bool
  is_rise row next = is_le (cmp (key row) (key next))

  rises_each : (rows : List Row) → AllAdjacentBelow (λ row next. true ≡ is_rise row next) rows (length rows) → KeysRise place rows
  rises_each [] each = tt
  rises_each (x ∷ []) each = tt
  rises_each (x ∷ y ∷ xs) each = (
    so (cmp (key x) (key y)) (each 0 x (omega arith)),
    rises_each (y ∷ xs) (λ k d within.
        let more : suc k + 1 ≡ suc (k + 1) = omega arith in
        subst (λ n. true ≡ is_rise (get_or (y ∷ xs) k d) (get_or (x ∷ y ∷ xs) n d)) more (each (suc k) d (omega (arith, within)))),
  )
    where
      so : (o : Ordering) → true ≡ is_le o → o ≢ Greater
      so Less e h = cc
      so Equal e h = cc
      so Greater e h = cc

  -- from neighbours
  pub rises_by_neighbours : (rows : List Row) (answer : Bool) → IsAllAdjacentAnswer (λ row next is. is ≡ is_rise row next) rows answer → IsTrue answer → KeysRise place rows
  rises_by_neighbours rows true said so = rises_each rows said
  rises_by_neighbours rows false said so = let e : false ≡ true = so in cc

  module _ (text : List ℕ) where
    abbrev how : Row → Ordering
    how row = cmp (key row) text

    has_by : (row : Row) (o : Ordering) → how row ≡ o → has_key place text row ≡ is_eq o
    has_by row o at = sym (is_eq-slice_cmp (key row) text) ∙ ap is_eq at

    above_on : (rows : List Row) → KeysRise place rows → OfFirst (λ row. how row ≡ Greater) rows → AllByRecursion (λ row. how row ≡ Greater) rows
    above_on [] rises h = tt
    above_on (row ∷ rows) rises h =
        (h, all_so (λ other. cmp (key row) (key other) ≢ Greater) (λ other. how other ≡ Greater) (λ other not_above. not_above_greater (key row) (key other) text not_above h) rows (least row rows rises))

    next_not_less : (row : Row) (rows : List Row) → KeysRise place (row ∷ rows) → how row ≡ Equal → OfFirst (λ other. how other ≢ Less) rows
    next_not_less row [] rises h = tt
    next_not_less row (next ∷ rows) rises h = λ less. by (how row) h (not_above_less (key row) (key next) text rises.0 less)
      where
        by : (o : Ordering) → o ≡ Equal → o ≡ Less → ⊥
        by Less e f = cc
        by Equal e f = cc
        by Greater e f = cc

    above : (mine left : List Row) → KeysRise place (mine ++ left) → OfFirst (λ row. how row ≢ Less) (mine ++ left) → AllByRecursion (λ row. how row ≡ Equal) mine
        → OfFirst (λ row. how row ≢ Equal) left → AllByRecursion (λ row. how row ≡ Greater) left
    above [] [] rises from mine stop = tt
    above [] (row ∷ rows) rises from mine stop = above_on (row ∷ rows) rises (by (how row) refl)
      where
        by : (o : Ordering) → how row ≡ o → how row ≡ Greater
        by Less at = absurd (from at)
        by Equal at = absurd (stop at)
        by Greater at = at
    above (row ∷ mine) left rises from all stop = above mine left (rises_after row (mine ++ left) rises) (next_not_less row (mine ++ left) rises all.0) all.1 stop

    -- rows below, rows of the key, and rows above
    parted : (p : Row → Bool) (lower mine left : List Row) → filter p (lower ++ (mine ++ left)) ≡ filter p lower ++ (filter p mine ++ filter p left)
    parted p lower mine left = filter-append p lower (mine ++ left) ∙ ap (λ rows. filter p lower ++ rows) (filter-append p mine left)

    cut_of : (rows lower mine left : List Row) → lower ++ (mine ++ left) ≡ rows → KeysRise place left → AllByRecursion (λ row. how row ≡ Less) lower → AllByRecursion (λ row. how row ≡ Equal) mine
        → AllByRecursion (λ row. how row ≡ Greater) left → IsCut place text rows mine left
    cut_of rows lower mine left same rises below here over = record {
      taken = sym (ap (filter (has_key place text)) (sym same) ∙ parted (has_key place text) lower mine left
          ∙ ap (λ xs. xs ++ (filter (has_key place text) mine ++ filter (has_key place text) left)) (filter_none (has_key place text) lower (all_so _ _ (λ row at. has_by row Less at) lower below))
          ∙ ap₂ ◌++◌ (filter_all (has_key place text) mine (all_so _ _ (λ row at. has_by row Equal at) mine here)) (filter_none (has_key place text) left (all_so _ _ (λ row at. has_by row Greater at) left over))
          ∙ append-nil mine);
      rises = rises;
      stays = λ later less. sym (ap (filter (has_key place later)) (sym same) ∙ parted (has_key place later) lower mine left
          ∙ ap (λ xs. xs ++ (filter (has_key place later) mine ++ filter (has_key place later) left)) (filter_none (has_key place later) lower (all_so _ _ (λ row at. before row later (nat_list_cmp_total.trans (key row) text later at less)) lower below))
          ∙ ap (λ xs. xs ++ filter (has_key place later) left) (filter_none (has_key place later) mine (all_so _ _ (λ row at. before row later (nat_list_cmp_total.congr (key row) text later at ∙ less)) mine here)));
    }
      where
        before : (row : Row) (later : List ℕ) → cmp (key row) later ≡ Less → has_key place later row ≡ false
        before row later at = sym (is_eq-slice_cmp (key row) later) ∙ ap is_eq at

    pub cut_at : (rows : List Row) (n m : ℕ) → KeysRise place rows → All (λ row. how row ≡ Less) (take n rows) → IfSome (slice_get rows n) (λ row. how row ≢ Less)
        → All (λ row. how row ≡ Equal) (take m (drop n rows)) → IfSome (slice_get (drop n rows) m) (λ row. how row ≢ Equal) → IsCut place text rows (take m (drop n rows)) (drop m (drop n rows))
    cut_at rows n m rises below stop here end =
        let from = drop n rows in
        let equal = recursion_from_All (λ row. how row ≡ Equal) (take m from) here in
        let whole : take m from ++ drop m from ≡ from = take-append-drop m from in
        cut_of rows (take n rows) (take m from) (drop m from) (ap (λ xs. take n rows ++ xs) whole ∙ take-append-drop n rows) (rises_from m from (rises_from n rows rises)) (recursion_from_All (λ row. how row ≡ Less) (take n rows) below) equal
        (above (take m from) (drop m from) (subst (KeysRise place) (sym whole) (rises_from n rows rises)) (subst (OfFirst (λ row. how row ≢ Less)) (sym whole) (first_after _ n rows stop)) equal (first_after _ m from end))

-- ---- the rows of ids

-- a text of an id, and the id of it
pub id_of_text : (id text : List ℕ) → text ≡ text_of id → IsTrue (is_id_text text) → id ≡ padded text → IsId id
id_of_text id text same allowed whole = (ap is_id_text (sym same) ∙ allowed, whole ∙ ap padded same)

-- what is left has all rows of the ids after one that is cut off
still : (columns : List ℕ) (place : ℕ) (table : List Row) (id : List ℕ) (rows mine left : List Row) → IsCut place (text_of id) rows mine left
    → (ids : List (List ℕ)) → AllByRecursion (λ text. cmp (text_of id) text ≡ Less) (map text_of ids)
    → AllByRecursion (λ x. IsId x → AreOf columns table x (filter (has_key place (text_of x)) rows)) ids → AllByRecursion (λ x. IsId x → AreOf columns table x (filter (has_key place (text_of x)) left)) ids
still columns place table id rows mine left is_cut [] later each = tt
still columns place table id rows mine left is_cut (x ∷ ids) later each =
    (λ is. subst (AreOf columns table x) (sym (is_cut.stays (text_of x) later.0)) (each.0 is), still columns place table id rows mine left is_cut ids later.1 each.1)

-- what a cut takes off by the text of an id
pub takes : (columns : List ℕ) (at place : ℕ) (id text : List ℕ) (rows mine left : List Row) → place ≡ at → text ≡ text_of id → IsId id → (KeysRise place rows → IsCut place text rows mine left)
    → Takes columns at id rows mine left
unfolding IsStrictlySortedBy
takes columns at place id text rows mine left same_place same_text is cuts table later all =
    let is_cut : IsCut at (text_of id) rows mine left = subst₂ (λ p t. KeysRise p rows → IsCut p t rows mine left) same_place same_text cuts all.rises in
    (subst (AreOf columns table id) (sym is_cut.taken) (all.each.0 is), record { ascend = all.ascend.1; rises = is_cut.rises; each = still columns at table id rows mine left is_cut later all.ascend.0 all.each.1 })
