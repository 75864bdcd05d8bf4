-- What is put last of changes in the order of their keys is the book that they leave.
use Rattle.std.proofs.Common.{◌≡◌, inl, inr, ℕ, suc, ◌+◌, ◌<◌, ◌≤◌, Bool, true, false, ◌||◌, cond, List, [], ◌∷◌, ◌++◌, refl, sym, ◌∙◌, ap, subst, map, arith, append_assoc, append-nil, slice_index_or}
use Rattle.std.specs.Option.{option_or}
use Rattle.std.specs.Prelude.{find, reverse, Option, Some, None, option_and_then, length, MatchOption}
use Rattle.std.specs.declared.cmp.Ordering.{Ordering}
use Rattle.std.specs.declared.cmp.Ordering.TheVariants.{Less, Equal, Greater}
use Rattle.std.specs.Ordering.{is_eq, is_lt, ordering_reverse}
use Rattle.std.specs.List.{list_any, cons_option, AllByRecursion}
use Rattle.std.specs.List.Sorted.{IsStrictlySortedBy, IsSortedByKey}
use Rattle.holddata.specs.declared.key.HoldKey.{HoldKey}
use Rattle.holddata.specs.declared.hold.Hold.{Hold}
use Rattle.holddata.specs.declared.hold.HoldChange.{HoldChange}
use Rattle.holddata.specs.declared.hold.HoldChange.TheVariants.{Put, Release}
use Rattle.holddata.specs.HoldKey.{key_cmp, is_same_key}
use Rattle.holddata.specs.SortKey.{sort_key_of, sort_key_cmp}
use Rattle.holddata.specs.HoldChange.{key_of, names, hold_put, hold_left, IsRearranged}
use Rattle.holddata.specs.HoldBook.{keys_in, hold_under, book_of, IsInKeyOrder}
use Rattle.holddata.specs.Last.{IsAtMost, BeginsNoLower, AscendByKey, is_renamed, put_last, holds_last}
use Rattle.holddata.proofs.KeyFacts.{exact_keys, keys_total, same_is, same_key, itself, turned_same}
use Rattle.holddata.proofs.SortKeyFacts.{sort_key_order}
use Rattle.holddata.proofs.BookFacts.{book_of_only}
use Rattle.holddata.proofs.FoundFacts.{none_last}
use Rattle.holddata.proofs.BatchFacts.{last_found, left_by, or_none}

-- ---- a sort by the sort keys puts them in order

at_most : (a b : HoldKey) → is_lt (key_cmp b a) ≡ false → IsAtMost a b
at_most a b h = by (key_cmp a b) refl
  where
    by : (o : Ordering) → key_cmp a b ≡ o → IsAtMost a b
    by Less is = inl is
    by Equal is = inr (exact_keys a b is)
    by Greater is = let e : true ≡ false = sym (ap is_lt (keys_total.antisymm b a ∙ ap ordering_reverse is)) ∙ h in absurd (cc)

pub ascend : (changes : List HoldChange) → IsSortedByKey (λ change. sort_key_of (key_of change)) sort_key_cmp changes → AscendByKey changes
ascend [] up = tt
ascend (change ∷ changes) up = (first changes up, ascend changes (λ k d low high. later k d (omega arith) high))
  where
    later : (k : ℕ) (d : HoldChange) → 0 ≤ suc k → k + 1 < length changes
        → is_lt (sort_key_cmp (sort_key_of (key_of (slice_index_or changes (k + 1) d))) (sort_key_of (key_of (slice_index_or changes k d)))) ≡ false
    later k d low high =
        let next : suc k + 1 ≡ suc (k + 1) = omega arith in
        subst (λ n. is_lt (sort_key_cmp (sort_key_of (key_of (slice_index_or (change ∷ changes) n d))) (sort_key_of (key_of (slice_index_or changes k d)))) ≡ false) next
        (up (suc k) d low (omega arith))

    first : (rest : List HoldChange) → IsSortedByKey (λ change. sort_key_of (key_of change)) sort_key_cmp (change ∷ rest) → BeginsNoLower (key_of change) rest
    first [] sorted = tt
    first (next ∷ rest) sorted = at_most (key_of change) (key_of next) (ap is_lt (sym (sort_key_order (key_of next) (key_of change))) ∙ sorted 0 change (omega arith) (omega arith))

-- ---- keys after a change

below_all : (a b : HoldKey) (changes : List HoldChange) → key_cmp a b ≡ Less → AllByRecursion (λ k. IsAtMost b k) (map key_of changes) → AllByRecursion (λ k. key_cmp a k ≡ Less) (map key_of changes)
below_all a b [] less h = tt
below_all a b (c ∷ changes) less h = (by h.0, below_all a b changes less h.1)
  where
    by : IsAtMost b (key_of c) → key_cmp a (key_of c) ≡ Less
    by (inl more) = keys_total.trans a b (key_of c) less more
    by (inr is) = subst (λ k. key_cmp a k ≡ Less) is less

at_most_all : (a b : HoldKey) (changes : List HoldChange) → IsAtMost a b → AllByRecursion (λ k. IsAtMost b k) (map key_of changes) → AllByRecursion (λ k. IsAtMost a k) (map key_of changes)
at_most_all a b [] most h = tt
at_most_all a b (c ∷ changes) most h = (by most h.0, at_most_all a b changes most h.1)
  where
    by : IsAtMost a b → IsAtMost b (key_of c) → IsAtMost a (key_of c)
    by (inl less) (inl more) = inl (keys_total.trans a b (key_of c) less more)
    by (inl less) (inr is) = inl (subst (λ k. key_cmp a k ≡ Less) is less)
    by (inr is) more = subst (λ k. IsAtMost k (key_of c)) (sym is) more

no_lower : (change : HoldChange) (changes : List HoldChange) → AscendByKey (change ∷ changes) → AllByRecursion (λ k. IsAtMost (key_of change) k) (map key_of changes)
no_lower change [] up = tt
no_lower change (next ∷ changes) up = (up.0, at_most_all (key_of change) (key_of next) changes up.0 (no_lower next changes up.1))

-- after the last change that names a key all keys are higher
higher : (change : HoldChange) (changes : List HoldChange) → AscendByKey (change ∷ changes) → is_renamed (key_of change) changes ≡ false → AllByRecursion (λ k. key_cmp (key_of change) k ≡ Less) (map key_of changes)
higher change [] up last = tt
higher change (next ∷ changes) up last = by up.0
  where
    by : IsAtMost (key_of change) (key_of next) → AllByRecursion (λ k. key_cmp (key_of change) k ≡ Less) (map key_of (next ∷ changes))
    by (inl less) = (less, below_all (key_of change) (key_of next) changes less (no_lower next changes up.1))
    by (inr is) = let e : true ≡ false = sym (itself (key_of change)) ∙ ap (is_same_key (key_of change)) is ∙ last in absurd (cc)

not_named : (key : HoldKey) (changes : List HoldChange) → AllByRecursion (λ k. key_cmp key k ≡ Less) (map key_of changes) → list_any (names key) changes ≡ false
not_named key [] h = refl
not_named key (change ∷ changes) h =
    ap (λ b. b || list_any (names key) changes) (turned_same (key_of change) key ∙ sym (same_is key (key_of change)) ∙ ap is_eq h.0)
    ∙ not_named key changes h.1

-- ---- the holds that are put last

own_key : (change : HoldChange) (changes : List HoldChange) (hold : Hold) → put_last change changes ≡ Some hold → hold.key ≡ key_of change
own_key change changes hold is = by (is_renamed (key_of change) changes) change is
  where
    by : (b : Bool) (c : HoldChange) → cond b None (hold_put c) ≡ Some hold → hold.key ≡ key_of c
    by true c h = absurd (cc)
    by false (Put other) h = let e : other ≡ hold = cc in ap (λ (x : Hold). x.key) (sym e)
    by false (Release key) h = absurd (cc)

not_renamed : (change : HoldChange) (changes : List HoldChange) (hold : Hold) → put_last change changes ≡ Some hold → is_renamed (key_of change) changes ≡ false
not_renamed change changes hold is = by (is_renamed (key_of change) changes) is
  where
    by : (b : Bool) → cond b None (hold_put change) ≡ Some hold → b ≡ false
    by true h = absurd (cc)
    by false h = refl

keys_kept : (P : HoldKey → Type 0) (changes : List HoldChange) → AllByRecursion P (map key_of changes) → AllByRecursion P (keys_in (holds_last changes))
keys_kept P [] h = tt
keys_kept P (change ∷ changes) h = by (keys_kept P changes h.1) (put_last change changes) refl
  where
    by : AllByRecursion P (keys_in (holds_last changes)) → (o : Option Hold) → put_last change changes ≡ o → AllByRecursion P (keys_in (cons_option o (holds_last changes)))
    by rest None is = rest
    by rest (Some hold) is = (subst P (sym (own_key change changes hold is)) h.0, rest)

last_in_order : (changes : List HoldChange) → AscendByKey changes → IsInKeyOrder (holds_last changes)
unfolding IsStrictlySortedBy
last_in_order [] up = tt
last_in_order (change ∷ changes) up = by (last_in_order changes up.1) (put_last change changes) refl
  where
    by : IsInKeyOrder (holds_last changes) → (o : Option Hold) → put_last change changes ≡ o → IsInKeyOrder (cons_option o (holds_last changes))
    by rest None is = rest
    by rest (Some hold) is = (
      subst (λ key. AllByRecursion (λ k. key_cmp key k ≡ Less) (keys_in (holds_last changes))) (sym (own_key change changes hold is))
          (keys_kept (λ k. key_cmp (key_of change) k ≡ Less) changes (higher change changes up (not_renamed change changes hold is))),
      rest,
    )

-- ---- what is under each key

-- a change that does not name the key says nothing of it
under_other : (change : HoldChange) (changes : List HoldChange) (key : HoldKey) → names key change ≡ false → hold_under (holds_last (change ∷ changes)) key ≡ hold_under (holds_last changes) key
under_other change changes key other = by (put_last change changes) refl
  where
    by : (o : Option Hold) → put_last change changes ≡ o → hold_under (cons_option o (holds_last changes)) key ≡ hold_under (holds_last changes) key
    by None is = refl
    by (Some hold) is =
        ap (λ b. cond b (Some hold) (hold_under (holds_last changes) key))
        (ap (is_same_key key) (own_key change changes hold is) ∙ turned_same key (key_of change) ∙ other)

left_other : (change : HoldChange) (changes : List HoldChange) (key : HoldKey) → names key change ≡ false → hold_left (change ∷ changes) key ≡ hold_left changes key
left_other change changes key other =
    ap (option_and_then hold_put)
    (last_found (names key) change changes ∙ ap (λ b. option_or (find (names key) (reverse changes)) (cond b (Some change) None)) other
    ∙ or_none (find (names key) (reverse changes)))

-- a change whose key the next one names again says nothing of it either
left_renamed : (change next : HoldChange) (changes : List HoldChange) (key : HoldKey) → names key next ≡ true → hold_left (change ∷ next ∷ changes) key ≡ hold_left (next ∷ changes) key
left_renamed change next changes key again =
    let found = find (names key) (reverse changes) in
    let more : find (names key) (reverse (next ∷ changes)) ≡ option_or found (Some next)
    = last_found (names key) next changes ∙ ap (λ b. option_or found (cond b (Some next) None)) again in
    ap (option_and_then hold_put)
    (last_found (names key) change (next ∷ changes) ∙ ap (λ o. option_or o (cond (names key change) (Some change) None)) more
    ∙ there found (cond (names key change) (Some change) None) ∙ sym more)
  where
    there : (o p : Option HoldChange) → option_or (option_or o (Some next)) p ≡ option_or o (Some next)
    there None p = refl
    there (Some c) p = refl

-- the last change that names a key decides
left_named : (change : HoldChange) (changes : List HoldChange) (key : HoldKey) → names key change ≡ true → list_any (names key) changes ≡ false → hold_left (change ∷ changes) key ≡ hold_put change
left_named change changes key named others =
    ap (option_and_then hold_put)
    (last_found (names key) change changes
    ∙ ap (λ o. option_or o (cond (names key change) (Some change) None)) (none_last (names key) changes others)
    ∙ ap (λ b. cond b (Some change) None) named)

under_named : (change : HoldChange) (rest : List Hold) (key : HoldKey) → names key change ≡ true → hold_under rest key ≡ None → hold_under (cons_option (hold_put change) rest) key ≡ hold_put change
under_named (Put hold) rest key named none = ap (λ b. cond b (Some hold) (hold_under rest key)) (turned_same key hold.key ∙ named)
under_named (Release other) rest key named none = none

each_under : (changes : List HoldChange) → AscendByKey changes → (key : HoldKey) → hold_under (holds_last changes) key ≡ hold_left changes key
each_under [] up key = refl
each_under (change ∷ changes) up key = by (each_under changes up.1 key) (names key change) refl
  where
    named_last : (b : Bool) → is_renamed (key_of change) changes ≡ b → names key change ≡ true → hold_under (holds_last changes) key ≡ hold_left changes key
        → hold_under (cons_option (cond b None (hold_put change)) (holds_last changes)) key ≡ hold_left (change ∷ changes) key
    named_last true again named rest = rest ∙ sym (renamed changes again)
      where
        renamed : (cs : List HoldChange) → is_renamed (key_of change) cs ≡ true → hold_left (change ∷ cs) key ≡ hold_left cs key
        renamed [] h = absurd (cc)
        renamed (next ∷ cs) h =
            let k : key_of change ≡ key = same_key (key_of change) key named in
            left_renamed change next cs key (turned_same (key_of next) key ∙ ap (λ x. is_same_key x (key_of next)) (sym k) ∙ h)
    named_last false last named rest =
        let k : key_of change ≡ key = same_key (key_of change) key named in
        let others : list_any (names key) changes ≡ false
        = not_named key changes (subst (λ x. AllByRecursion (λ y. key_cmp x y ≡ Less) (map key_of changes)) k (higher change changes up last)) in
        under_named change (holds_last changes) key named (rest ∙ ap (option_and_then hold_put) (none_last (names key) changes others))
        ∙ sym (left_named change changes key named others)

    by : hold_under (holds_last changes) key ≡ hold_left changes key → (b : Bool) → names key change ≡ b → hold_under (holds_last (change ∷ changes)) key ≡ hold_left (change ∷ changes) key
    by rest true named = named_last (is_renamed (key_of change) changes) refl named rest
    by rest false other = under_other change changes key other ∙ rest ∙ sym (left_other change changes key other)

-- what is put last of the changes in the order of their keys is the book that the changes leave
pub last_is : (changes others : List HoldChange) → IsRearranged changes others → AscendByKey others → holds_last others ≡ book_of changes
last_is changes others same up =
    book_of_only changes (holds_last others)
    (left_by (holds_last others) [] changes others same (record { in_key_order = last_in_order others up; holds = each_under others up }))

-- the rows so far, and one more
pub more : (done : List Hold) (hold : Hold) (change : HoldChange) (after left : List HoldChange) (all : List Hold) → left ≡ change ∷ after → put_last change after ≡ Some hold
    → done ++ holds_last left ≡ all → (done ++ hold ∷ []) ++ holds_last after ≡ all
more done hold change after left all is put so =
    append_assoc done (hold ∷ []) (holds_last after)
    ∙ ap (λ o. done ++ cons_option o (holds_last after)) (sym put)
    ∙ ap (λ cs. done ++ holds_last cs) (sym is)
    ∙ so

-- no change is left
pub whole : (done : List Hold) (left : List HoldChange) (all : List Hold) → length left ≡ 0 → done ++ holds_last left ≡ all → done ≡ all
whole done [] all none so = sym (append-nil done) ∙ so
whole done (change ∷ left) all none so = absurd (let e : suc (length left) ≡ 0 = none in cc)

-- what holds where nothing is found
pub where_none : {A : Type 0} (P : Type 0) (Q : A → Type 0) (found : Option A) → ((a : A) → found ≡ Some a → ⊥) → MatchOption found P Q → P
where_none P Q None never is = is
where_none P Q (Some a) never is = absurd (never a refl)
