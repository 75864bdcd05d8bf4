-- The book that changes leave is determined, and `book_of` computes it.
use Rattle.std.proofs.Common.{◌≡◌, Bool, true, false, ◌||◌, cond, List, [], ◌∷◌, ◌++◌, refl, sym, ◌∙◌, ap, subst}
use Rattle.std.specs.Prelude.{find, reverse, Some, None, option_and_then}
use Rattle.std.specs.List.{list_any}
use Rattle.std.specs.List.Sorted.{IsStrictlySortedBy}
use Rattle.holddata.specs.declared.key.HoldKey.{HoldKey}
use Rattle.holddata.specs.declared.hold.Hold.{Hold}
use Rattle.holddata.specs.declared.hold.HoldChange.{HoldChange}
use Rattle.holddata.specs.declared.hold.HoldChange.TheVariants.{Put, Release}
use Rattle.holddata.specs.HoldKey.{key_cmp, is_same_key}
use Rattle.holddata.specs.HoldChange.{key_of, names, hold_put, hold_left}
use Rattle.holddata.specs.HoldBook.{hold_under, keys_named, book_of, IsChanged, IsLeft, IsInKeyOrder}
use Rattle.holddata.proofs.KeyFacts.{exact_keys, key_order, keys_total, same_key, turned_same}
use Rattle.holddata.proofs.FoundFacts.{kept_ascend, kept_found, none_last, same_by_key}
use Rattle.holddata.proofs.InsertFacts.{any_insert, sorted_insert}
use Rattle.holddata.proofs.EntryFacts.{left_more, under_each}

-- ---- keys in order

named_in_order : (changes : List HoldChange) → IsStrictlySortedBy key_cmp (keys_named changes)
unfolding IsStrictlySortedBy
named_in_order [] = tt
named_in_order (change ∷ changes) = sorted_insert key_cmp keys_total (keys_named changes) (key_of change) (named_in_order changes)

-- ---- what changes leave

found_own : (key : HoldKey) (hold : Hold) (changes : List HoldChange) → option_and_then hold_put (find (names key) changes) ≡ Some hold → hold.key ≡ key
found_own key hold [] h = cc
found_own key hold (change ∷ changes) h = by (found_own key hold changes) (names key change) refl h
  where
    put : (c : HoldChange) → names key c ≡ true → hold_put c ≡ Some hold → hold.key ≡ key
    put (Put other) at is = (let e : other ≡ hold = cc in ap (λ (x : Hold). x.key) (sym e)) ∙ same_key other.key key at
    put (Release other) at is = cc

    by : (option_and_then hold_put (find (names key) changes) ≡ Some hold → hold.key ≡ key) → (b : Bool) → names key change ≡ b → option_and_then hold_put (cond b (Some change) (find (names key) changes)) ≡ Some hold → hold.key ≡ key
    by rest true at h = put change at h
    by rest false at h = rest h

-- each hold that is left stands under its key
left_own : (changes : List HoldChange) (key : HoldKey) (hold : Hold) → hold_left changes key ≡ Some hold → hold.key ≡ key
left_own changes key hold h = found_own key hold (reverse changes) h

any_named : (changes : List HoldChange) (key : HoldKey) → list_any (is_same_key key) (keys_named changes) ≡ list_any (names key) changes
any_named [] key = refl
any_named (change ∷ changes) key =
    any_insert key_cmp exact_keys (is_same_key key) (keys_named changes) (key_of change)
    ∙ ap (λ b. b || list_any (is_same_key key) (keys_named changes)) (turned_same key (key_of change))
    ∙ ap (λ b. names key change || b) (any_named changes key)

-- the computed book is what is left
pub book_of_is_left : (changes : List HoldChange) → IsLeft changes (book_of changes)
book_of_is_left changes =
    record {
      in_key_order = kept_ascend (λ (hold : Hold). hold.key) key_order (hold_left changes) (left_own changes) (keys_named changes) (named_in_order changes);
      holds = λ key.
          kept_found (λ (hold : Hold). hold.key) key_order (hold_left changes) (left_own changes) (keys_named changes) key
          ∙ ap (λ b. cond b (hold_left changes key) None) (any_named changes key)
          ∙ by key (list_any (names key) changes) refl;
    }
  where
    by : (key : HoldKey) (b : Bool) → list_any (names key) changes ≡ b → cond b (hold_left changes key) None ≡ hold_left changes key
    by key true h = refl
    by key false h = sym (ap (option_and_then hold_put) (none_last (names key) changes h))

-- ---- there is one such book

pub same_book : (a b : List Hold) → IsInKeyOrder a → IsInKeyOrder b → ((key : HoldKey) → hold_under a key ≡ hold_under b key) → a ≡ b
same_book = same_by_key (λ (hold : Hold). hold.key) key_order

-- any book that the changes leave is the computed one
pub book_of_only : (changes : List HoldChange) (book : List Hold) → IsLeft changes book → book ≡ book_of changes
book_of_only changes book left =
    let computed = book_of_is_left changes in
    same_book book (book_of changes) left.in_key_order computed.in_key_order (λ key. left.holds key ∙ sym (computed.holds key))

-- one more change
pub left_after : (old new : List Hold) (change : HoldChange) → IsChanged change old new → (changes : List HoldChange) → IsLeft changes old → IsLeft (changes ++ change ∷ []) new
left_after old new change is changes left = left_more old new change is.in_key_order (under_each old new change is.named is.others) changes left

pub book_of_more : (old new : List Hold) (change : HoldChange) → IsChanged change old new → (changes : List HoldChange) → old ≡ book_of changes → new ≡ book_of (changes ++ change ∷ [])
book_of_more old new change is changes was =
    book_of_only (changes ++ change ∷ []) new (left_after old new change is changes (subst (IsLeft changes) (sym was) (book_of_is_left changes)))
