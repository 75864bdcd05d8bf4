-- Changes that are put in the order of their keys leave the same book.
use Rattle.std.proofs.Common.{◌≡◌, Bool, true, false, not, ◌&&◌, cond, List, [], ◌∷◌, ◌++◌, refl, sym, ◌∙◌, ap, subst, map}
use Rattle.std.specs.Option.{option_or}
use Rattle.std.specs.Prelude.{find, reverse, Option, Some, None, option_and_then}
use Rattle.std.specs.declared.cmp.Ordering.{Ordering}
use Rattle.std.specs.declared.cmp.Ordering.TheVariants.{Less, Equal, Greater}
use Rattle.std.specs.Ordering.{is_eq, is_lt, ordering_reverse}
use Rattle.std.specs.List.{filter}
use Rattle.std.specs.List.Sorted.{ties, IsStableByKey}
use Rattle.std.proofs.lemmas.List.{reverse-append}
use Rattle.std.proofs.lemmas.List.Folds.{find-append}
use Rattle.std.proofs.lemmas.List.Elements.{filter-append}
use Rattle.holddata.specs.declared.key.HoldKey.{HoldKey}
use Rattle.holddata.specs.declared.hold.Hold.{Hold}
use Rattle.holddata.specs.declared.hold.HoldChange.{HoldChange}
use Rattle.holddata.specs.declared.hold.HoldChange.TheVariants.{Release}
use Rattle.holddata.specs.HoldKey.{key_cmp, is_same_key}
use Rattle.holddata.specs.SortKey.{sort_key_of, sort_key_cmp}
use Rattle.holddata.specs.HoldChange.{key_of, names, hold_put, hold_left, IsRearranged}
use Rattle.holddata.specs.HoldBook.{book_of, IsLeft}
use Rattle.holddata.proofs.KeyFacts.{keys_total, same_is}
use Rattle.holddata.proofs.SortKeyFacts.{sort_key_order}
use Rattle.holddata.proofs.BookFacts.{book_of_is_left, book_of_only}

pub map_itself : (changes : List HoldChange) → map (λ change. change) changes ≡ changes
map_itself [] = refl
map_itself (change ∷ changes) = ap (λ cs. change ∷ cs) (map_itself changes)

-- the last that a test finds
pub last_found : (test : HoldChange → Bool) (change : HoldChange) (changes : List HoldChange) → find test (reverse (change ∷ changes)) ≡ option_or (find test (reverse changes)) (cond (test change) (Some change) None)
last_found test change changes = ap (find test) (reverse-append (change ∷ []) changes) ∙ find-append test (reverse changes) (change ∷ [])

pub or_none : (o : Option HoldChange) → option_or o None ≡ o
or_none None = refl
or_none (Some change) = refl

last_of_filter : (test : HoldChange → Bool) (changes : List HoldChange) → find test (reverse (filter test changes)) ≡ find test (reverse changes)
last_of_filter test [] = refl
last_of_filter test (change ∷ changes) = by (test change) refl (last_of_filter test changes) ∙ sym (last_found test change changes)
  where
    by : (b : Bool) → test change ≡ b → find test (reverse (filter test changes)) ≡ find test (reverse changes)
        → find test (reverse (cond b (change ∷ filter test changes) (filter test changes))) ≡ option_or (find test (reverse changes)) (cond (test change) (Some change) None)
    by true is rest = last_found test change (filter test changes) ∙ ap (λ o. option_or o (cond (test change) (Some change) None)) rest
    by false is rest = rest ∙ sym (ap (λ b. option_or (find test (reverse changes)) (cond b (Some change) None)) is ∙ or_none (find test (reverse changes)))

same_left : (before changes others : List HoldChange) → IsRearranged changes others → (key : HoldKey) → hold_left (before ++ others) key ≡ hold_left (before ++ changes) key
same_left before changes others same key =
    ap (option_and_then hold_put)
    (sym (last_of_filter (names key) (before ++ others))
    ∙ ap (λ cs. find (names key) (reverse cs)) (filter-append (names key) before others ∙ ap (λ cs. filter (names key) before ++ cs) (same key) ∙ sym (filter-append (names key) before changes))
    ∙ last_of_filter (names key) (before ++ changes))

-- what rearranged changes leave is what the changes leave
pub left_by : (book : List Hold) (before changes others : List HoldChange) → IsRearranged changes others → IsLeft (before ++ others) book → IsLeft (before ++ changes) book
left_by book before changes others same left = record { in_key_order = left.in_key_order; holds = λ key. left.holds key ∙ same_left before changes others same key }

pub book_by : (old new : List Hold) (changes : List HoldChange) → ((before : List HoldChange) → IsLeft before old → IsLeft (before ++ changes) new) → (before : List HoldChange) → old ≡ book_of before → new ≡ book_of (before ++ changes)
book_by old new changes left before was = book_of_only (before ++ changes) new (left before (subst (IsLeft before) (sym was) (book_of_is_left before)))

-- ---- a stable sort by the sort keys rearranges

neither : (k q : HoldKey) → (not (is_lt (sort_key_cmp (sort_key_of k) (sort_key_of q))) && not (is_lt (sort_key_cmp (sort_key_of q) (sort_key_of k)))) ≡ is_same_key q k
neither k q =
    ap (λ o. not (is_lt o) && not (is_lt (sort_key_cmp (sort_key_of q) (sort_key_of k)))) (sort_key_order k q ∙ keys_total.antisymm k q)
    ∙ ap (λ o. not (is_lt (ordering_reverse (key_cmp q k))) && not (is_lt o)) (sort_key_order q k)
    ∙ by (key_cmp q k)
    ∙ same_is q k
  where
    by : (o : Ordering) → (not (is_lt (ordering_reverse o)) && not (is_lt o)) ≡ is_eq o
    by Less = refl
    by Equal = refl
    by Greater = refl

pub rearranged : (changes others : List HoldChange) → IsStableByKey (λ change. sort_key_of (key_of change)) sort_key_cmp changes others → IsRearranged changes others
rearranged changes others stable key =
    let same : ties (λ (x y : HoldChange). is_lt (sort_key_cmp (sort_key_of (key_of x)) (sort_key_of (key_of y)))) (Release key) ≡ names key = λ i change. neither key (key_of change) i in
    ap (λ (test : HoldChange → Bool). filter test others) (sym same) ∙ stable (Release key) ∙ ap (λ (test : HoldChange → Bool). filter test changes) same
