-- The hold book over an old book: the old holds are put again, and then the changes are made.
use Rattle.std.proofs.Common.{◌≡◌, Bool, true, false, ◌||◌, cond, List, [], ◌∷◌, ◌++◌, refl, sym, ◌∙◌, ap}
use Rattle.std.specs.Prelude.{filter, find, map, reverse, is_some, Option, Some, None, option_and_then, if◌then◌else◌}
use Rattle.std.specs.List.{list_any}
use Rattle.std.specs.List.Sorted.{IsStrictlySortedBy}
use Rattle.std.specs.Option.{option_or}
use Rattle.std.proofs.lemmas.List.{reverse-append}
use Rattle.std.proofs.lemmas.List.Folds.{find-append}
use Rattle.holddata.specs.declared.key.HoldKey.{HoldKey}
use Rattle.holddata.specs.declared.hold.Hold.{Hold}
use Rattle.holddata.specs.declared.hold.HoldChange.{HoldChange}
use Rattle.holddata.specs.declared.hold.HoldChange.TheVariants.{Put}
use Rattle.holddata.specs.HoldKey.{is_same_key}
use Rattle.holddata.specs.HoldChange.{names, hold_put, hold_left}
use Rattle.holddata.specs.HoldBook.{hold_under, book_of, IsInKeyOrder}
use Rattle.holddata.proofs.BookFacts.{book_of_is_left, book_of_only}
use Rattle.holddata.proofs.FoundFacts.{any_last, filtered_ascend, none_found, none_is}
use Rattle.holddata.proofs.KeyFacts.{key_order, same_key, turned_same}

-- ---- how keys are compared

-- whether a change that puts a hold names a key, and whether the hold is found under it, is one test
same_test : (key : HoldKey) (hold : Hold) → is_same_key key hold.key ≡ names key (Put hold)
same_test key hold = turned_same key hold.key

one_key : (key : HoldKey) (hold : Hold) → names key (Put hold) ≡ true → hold.key ≡ key
one_key key hold h = same_key hold.key key h

-- ---- the last change of a key

pub left_append : (cs ds : List HoldChange) (key : HoldKey) → hold_left (cs ++ ds) key ≡ (if list_any (names key) ds then hold_left ds key else hold_left cs key)
left_append cs ds key =
    ap (option_and_then hold_put) (ap (find (names key)) (reverse-append cs ds) ∙ find-append (names key) (reverse ds) (reverse cs))
    ∙ by (find (names key) (reverse ds)) (any_last (names key) ds)
  where
    by : (o : Option HoldChange) → list_any (names key) ds ≡ is_some o
        → option_and_then hold_put (option_or o (find (names key) (reverse cs))) ≡ (if list_any (names key) ds then option_and_then hold_put o else hold_left cs key)
    by None h = ap (λ b. cond b None (hold_left cs key)) (sym h)
    by (Some d) h = ap (λ b. cond b (hold_put d) (hold_left cs key)) (sym h)

-- ---- a book by its own holds

any_under : (book : List Hold) (key : HoldKey) → list_any (names key) (map Put book) ≡ is_some (hold_under book key)
any_under [] key = refl
any_under (hold ∷ book) key =
    ap (λ b. names key (Put hold) || b) (any_under book key)
    ∙ by (names key (Put hold))
    ∙ ap (λ b. is_some (cond b (Some hold) (hold_under book key))) (sym (same_test key hold))
  where
    by : (b : Bool) → (b || is_some (hold_under book key)) ≡ is_some (cond b (Some hold) (hold_under book key))
    by true = refl
    by false = refl

-- a book in order is what its holds leave when they are put
pub own_left : (book : List Hold) (key : HoldKey) → IsInKeyOrder book → hold_left (map Put book) key ≡ hold_under book key
unfolding IsStrictlySortedBy
own_left [] key h = refl
own_left (hold ∷ book) key h =
    left_append (Put hold ∷ []) (map Put book) key
    ∙ by (list_any (names key) (map Put book)) (names key (Put hold)) refl refl (own_left book key h.1)
    ∙ sym (ap (λ b. cond b (Some hold) (hold_under book key)) (same_test key hold))
  where
    alone : (b : Bool) → names key (Put hold) ≡ b → hold_left (Put hold ∷ []) key ≡ cond b (Some hold) None
    alone true at = ap (λ b. option_and_then hold_put (cond b (Some (Put hold)) None)) at
    alone false at = ap (λ b. option_and_then hold_put (cond b (Some (Put hold)) None)) at

    by : (any named : Bool) → list_any (names key) (map Put book) ≡ any → names key (Put hold) ≡ named → hold_left (map Put book) key ≡ hold_under book key
        → (if list_any (names key) (map Put book) then hold_left (map Put book) key else hold_left (Put hold ∷ []) key) ≡ cond (names key (Put hold)) (Some hold) (hold_under book key)
    by true true is at rest =
        let none : hold_under book key ≡ None = ap (hold_under book) (sym (one_key key hold at)) ∙ none_found (λ (x : Hold). x.key) key_order hold.key book h.0 in
        let e : true ≡ false = sym is ∙ any_under book key ∙ ap is_some none in cc
    by true false is at rest =
        ap (λ b. cond b (hold_left (map Put book) key) (hold_left (Put hold ∷ []) key)) is ∙ rest ∙ sym (ap (λ b. cond b (Some hold) (hold_under book key)) at)
    by false named is at rest =
        ap (λ b. cond b (hold_left (map Put book) key) (hold_left (Put hold ∷ []) key)) is
        ∙ alone named at
        ∙ ap (cond named (Some hold)) (sym (none_is (hold_under book key) (sym (any_under book key) ∙ is)))
        ∙ sym (ap (λ b. cond b (Some hold) (hold_under book key)) at)

-- a book says as much as the changes that it was made of
pub book_joined : (cs ds : List HoldChange) → book_of (map Put (book_of cs) ++ ds) ≡ book_of (cs ++ ds)
book_joined cs ds =
    let first = book_of_is_left cs in
    let both = book_of_is_left (map Put (book_of cs) ++ ds) in
    book_of_only (cs ++ ds) (book_of (map Put (book_of cs) ++ ds)) (record {
      in_key_order = both.in_key_order;
      holds = λ key.
          both.holds key
          ∙ left_append (map Put (book_of cs)) ds key
          ∙ ap (λ o. if list_any (names key) ds then hold_left ds key else o) (own_left (book_of cs) key first.in_key_order ∙ first.holds key)
          ∙ sym (left_append cs ds key);
    })

-- a book in order is made of its own holds
pub own_book : (book : List Hold) → IsInKeyOrder book → book ≡ book_of (map Put book)
own_book book h = book_of_only (map Put book) book (record { in_key_order = h; holds = λ key. sym (own_left book key h) })

-- ---- some of the holds

pub filtered_in_order : (test : Hold → Bool) (xs : List Hold) → IsInKeyOrder xs → IsInKeyOrder (filter test xs)
filtered_in_order = filtered_ascend (λ (x : Hold). x.key) key_order
