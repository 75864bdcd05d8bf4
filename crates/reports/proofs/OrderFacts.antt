-- In which order the rows of the reports stand.
use Rattle.std.proofs.Common.{◌≡◌, ℕ, List, [], ◌∷◌, ◌++◌, Option, Some, filter, map, not, refl}
use Rattle.std.specs.Cmp.{IsTotalOrder}
use Rattle.std.specs.Cmp.Lexicographic.{nat_list_cmp_total, options_total, slice_cmp}
use Rattle.std.specs.List.{AllByRecursion, flat_map}
use Rattle.std.specs.List.Sorted.{IsStrictlySortedBy}
use Rattle.std.specs.Option.{option_cmp}
use Rattle.std.specs.Ordering.{nat_cmp, ordering_reverse, ordering_then}
use Rattle.std.specs.declared.cmp.Ordering.{Ordering}
use Rattle.std.specs.declared.cmp.Ordering.TheVariants.{Less, Equal, Greater}
use Rattle.std.proofs.lemmas.Cmp.{on_total, then_total}
use Rattle.std.proofs.lemmas.List.Kept.{IsStrictlySortedBy-filter}
use Rattle.lemmas.proofs.ListFacts.{all_append}
use Rattle.holddata.specs.declared.hold.Hold.{Hold}
use Rattle.zone_lists.specs.declared.zones.ZoneRow.{ZoneRow}
use Rattle.holddata.proofs.InsertFacts.{sorted_puts}
use Rattle.catalogue.specs.Content.{Content, IsInOrder, ids_of}
use Rattle.catalogue.specs.Ids.{Ascend, id_cmp}
use Rattle.catalogue.proofs.IdFacts.{ids_total, in_order_ascends}
use Rattle.supersede.specs.Giving.{gives, is_candidate, is_there}
use Rattle.reports.specs.ErrRows.{ErrRowsAscend, by_fmid, err_row, err_row_cmp, err_rows_of_hold, hold_cmp}
use Rattle.reports.specs.MissingRows.{Missing, MissingRowsAscend, by_category, categories_asked, is_missing, missing_cmp, missing_row, missing_row_cmp, missing_rows_of_category, resolvers_by, resolvers_of}
use Rattle.reports.specs.Resolvers.{StandInOrder, candidates_for, each_or_none}

-- ---- lists in order

module _ {K : Type 0} where
  pub none_sorted : (cmp : K → K → Ordering) → IsStrictlySortedBy cmp []
  unfolding IsStrictlySortedBy
  none_sorted cmp = tt

  joined_in_order : (Before : K → K → Type 0) (xs ys : List K) → StandInOrder Before xs → StandInOrder Before ys → AllByRecursion (λ x. AllByRecursion (Before x) ys) xs → StandInOrder Before (xs ++ ys)
  joined_in_order Before [] ys h g below = g
  joined_in_order Before (x ∷ xs) ys h g below = (all_append (Before x) xs ys h.0 below.0, joined_in_order Before xs ys h.1 g below.1)

-- each of a list mapped, as each of the list
all_mapped : {K L : Type 0} (P : L → Type 0) (f : K → L) (xs : List K) → ((x : K) → P (f x)) → AllByRecursion P (map f xs)
all_mapped P f [] so = tt
all_mapped P f (x ∷ xs) so = (so x, all_mapped P f xs so)

mapped_in_order : {K L : Type 0} {cmp : K → K → Ordering} (Before : L → L → Type 0) (f : K → L) (xs : List K) → ((a b : K) → cmp a b ≡ Less → Before (f a) (f b)) → IsStrictlySortedBy cmp xs → StandInOrder Before (map f xs)
unfolding IsStrictlySortedBy
mapped_in_order Before f [] so h = tt
mapped_in_order {K = K} {cmp = cmp} Before f (x ∷ xs) so h = (all xs h.0, mapped_in_order Before f xs so h.1)
  where
    all : (ys : List K) → AllByRecursion (λ y. cmp x y ≡ Less) ys → AllByRecursion (Before (f x)) (map f ys)
    all [] g = tt
    all (y ∷ ys) g = (so x y g.0, all ys g.1)

-- ---- blocks of rows, each of one hold

module _ {H R : Type 0} {before : H → H → Ordering} (Before : R → R → Type 0) (block : H → List R) (ordered : (h : H) → StandInOrder Before (block h))
    (apart : (h g : H) → before h g ≡ Less → AllByRecursion (λ x. AllByRecursion (Before x) (block g)) (block h)) where
  blocks_below : (h : H) (hs : List H) → AllByRecursion (λ g. before h g ≡ Less) hs → AllByRecursion (λ x. AllByRecursion (Before x) (flat_map block hs)) (block h)
  blocks_below h [] all = nothing (block h)
    where
      nothing : (xs : List R) → AllByRecursion (λ x. AllByRecursion (Before x) []) xs
      nothing [] = tt
      nothing (x ∷ xs) = (tt, nothing xs)
  blocks_below h (g ∷ hs) all = both (block h) (apart h g all.0) (blocks_below h hs all.1)
    where
      both : (xs : List R) → AllByRecursion (λ x. AllByRecursion (Before x) (block g)) xs → AllByRecursion (λ x. AllByRecursion (Before x) (flat_map block hs)) xs
          → AllByRecursion (λ x. AllByRecursion (Before x) (block g ++ flat_map block hs)) xs
      both [] a b = tt
      both (x ∷ xs) a b = (all_append (Before x) (block g) (flat_map block hs) a.0 b.0, both xs a.1 b.1)

  pub blocks_in_order : (hs : List H) → IsStrictlySortedBy before hs → StandInOrder Before (flat_map block hs)
  unfolding IsStrictlySortedBy
  blocks_in_order [] h = tt
  blocks_in_order (h ∷ hs) g = joined_in_order Before (block h) (flat_map block hs) (ordered h) (blocks_in_order hs g.1) (blocks_below h hs g.0)

-- ---- resolvers

-- the candidates that give an id ascend
pub candidates_ascend : (content : Content) (rows : List ZoneRow) (id : List ℕ) → IsInOrder content → Ascend (candidates_for content rows id)
candidates_ascend content rows id order =
    IsStrictlySortedBy-filter id_cmp (λ giver. is_candidate content rows giver) (filter (λ giver. gives content giver id) (ids_of content))
    (IsStrictlySortedBy-filter id_cmp (λ giver. gives content giver id) (ids_of content) order.sysmods)

some_sorted : (ids : List (List ℕ)) → Ascend ids → IsStrictlySortedBy (option_cmp id_cmp) (map Some ids)
unfolding IsStrictlySortedBy
some_sorted [] h = tt
some_sorted (x ∷ xs) h = (all xs h.0, some_sorted xs h.1)
  where
    all : (ys : List (List ℕ)) → AllByRecursion (λ y. id_cmp x y ≡ Less) ys → AllByRecursion (λ y. option_cmp id_cmp (Some x) y ≡ Less) (map Some ys)
    all [] g = tt
    all (y ∷ ys) g = (g.0, all ys g.1)

pub named_sorted : (ids : List (List ℕ)) → Ascend ids → IsStrictlySortedBy (option_cmp id_cmp) (each_or_none ids)
unfolding IsStrictlySortedBy
named_sorted [] h = (tt, tt)
named_sorted (x ∷ xs) h = some_sorted (x ∷ xs) h

-- ---- the exception SYSMOD report

holds_total : IsTotalOrder hold_cmp
holds_total =
    then_total (on_total (λ (h : Hold). h.fmid) (options_total ids_total))
    (then_total (on_total (λ (h : Hold). h.key.sysmod) ids_total) (then_total (on_total (λ (h : Hold). h.key.reason) ids_total) (on_total (λ (h : Hold). h.class) (options_total ids_total))))

then_less : (a b c d e : Ordering) → ordering_then a (ordering_then b (ordering_then c d)) ≡ Less → ordering_then a (ordering_then b (ordering_then c (ordering_then d e))) ≡ Less
then_less Less b c d e is = refl
then_less Equal Less c d e is = refl
then_less Equal Equal Less d e is = refl
then_less Equal Equal Equal Less e is = refl
then_less Equal Equal Equal Equal e is = absurd (cc is)
then_less Equal Equal Equal Greater e is = is
then_less Equal Equal Greater d e is = is
then_less Equal Greater c d e is = is
then_less Greater b c d e is = is

same_equal : {K : Type 0} {R : K → K → Ordering} → IsTotalOrder R → (x : K) → R x x ≡ Equal
same_equal {R = R} total x = by (R x x) (total.antisymm x x)
  where
    by : (o : Ordering) → o ≡ ordering_reverse o → o ≡ Equal
    by Less is = absurd (cc is)
    by Equal is = refl
    by Greater is = absurd (cc is)

module _ (content : Content) (rows : List ZoneRow) (received : List (List ℕ)) where
  of_one_hold : (hold : Hold) (a b : Option (List ℕ)) → option_cmp id_cmp a b ≡ Less → err_row_cmp (err_row content rows received hold a) (err_row content rows received hold b) ≡ Less
  of_one_hold hold a b less =
      rw (same_equal (options_total ids_total) hold.fmid, same_equal ids_total hold.key.sysmod, same_equal ids_total hold.key.reason, same_equal (options_total ids_total) hold.class) less

  of_two_holds : (h g : Hold) → hold_cmp h g ≡ Less → AllByRecursion (λ x. AllByRecursion (λ y. err_row_cmp x y ≡ Less) (err_rows_of_hold content rows received g)) (err_rows_of_hold content rows received h)
  of_two_holds h g less =
      all_mapped (λ x. AllByRecursion (λ y. err_row_cmp x y ≡ Less) (err_rows_of_hold content rows received g)) (err_row content rows received h) (each_or_none (candidates_for content rows h.key.reason)) (λ a.
      all_mapped (λ y. err_row_cmp (err_row content rows received h a) y ≡ Less) (err_row content rows received g) (each_or_none (candidates_for content rows g.key.reason)) (λ b.
      then_less (option_cmp id_cmp h.fmid g.fmid) (id_cmp h.key.sysmod g.key.sysmod) (id_cmp h.key.reason g.key.reason) (option_cmp id_cmp h.class g.class) (option_cmp id_cmp a b) less))

pub err_rows_ascend : ErrRowsAscend
err_rows_ascend content rows received holds order =
    blocks_in_order (λ row later. err_row_cmp row later ≡ Less) (err_rows_of_hold content rows received) (λ hold.
    mapped_in_order (λ row later. err_row_cmp row later ≡ Less) (err_row content rows received hold) (each_or_none (candidates_for content rows hold.key.reason)) (of_one_hold content rows received hold)
    (named_sorted (candidates_for content rows hold.key.reason) (candidates_ascend content rows hold.key.reason order)))
    (of_two_holds content rows received)
    (filter (λ hold. not (is_there content rows hold.key.reason)) (by_fmid holds))
    (IsStrictlySortedBy-filter hold_cmp (λ hold. not (is_there content rows hold.key.reason)) (by_fmid holds) (sorted_puts hold_cmp holds_total [] holds (none_sorted hold_cmp)))

-- ---- the missing fix report

missing_total : IsTotalOrder missing_cmp
missing_total =
    then_total (on_total (λ (m : Missing). m.category) nat_list_cmp_total)
    (then_total (on_total (λ (m : Missing). m.hold.key.sysmod) ids_total) (then_total (on_total (λ (m : Missing). m.hold.key.reason) ids_total) (on_total (λ (m : Missing). m.hold.resolver) (options_total ids_total))))

not_greater : (a b c d : Ordering) → ordering_then a (ordering_then b (ordering_then c d)) ≡ Less → ordering_then a (ordering_then b c) ≡ Greater → ⊥
not_greater Less b c d is over = absurd (cc over)
not_greater Equal Less c d is over = absurd (cc over)
not_greater Equal Equal Less d is over = absurd (cc over)
not_greater Equal Equal Equal d is over = absurd (cc over)
not_greater Equal Equal Greater d is over = absurd (cc is)
not_greater Equal Greater c d is over = absurd (cc is)
not_greater Greater b c d is over = absurd (cc is)

module _ (content : Content) (rows : List ZoneRow) (received : List (List ℕ)) where
  of_one_missing : (missing : Missing) (a b : Option (List ℕ)) → option_cmp id_cmp a b ≡ Less → missing_row_cmp (missing_row content rows received missing a) (missing_row content rows received missing b) ≡ Greater → ⊥
  of_one_missing missing a b less over =
      let same : missing_row_cmp (missing_row content rows received missing a) (missing_row content rows received missing b) ≡ Equal =
      rw (same_equal nat_list_cmp_total missing.category, same_equal ids_total missing.hold.key.sysmod, same_equal ids_total missing.hold.key.reason) refl in
      absurd (cc (same, over))

  of_two_missing : (h g : Missing) → missing_cmp h g ≡ Less
      → AllByRecursion (λ x. AllByRecursion (λ y. missing_row_cmp x y ≡ Greater → ⊥) (missing_rows_of_category content rows received g)) (missing_rows_of_category content rows received h)
  of_two_missing h g less =
      all_mapped (λ x. AllByRecursion (λ y. missing_row_cmp x y ≡ Greater → ⊥) (missing_rows_of_category content rows received g)) (missing_row content rows received h) (each_or_none (resolvers_of content rows h.hold)) (λ a.
      all_mapped (λ y. missing_row_cmp (missing_row content rows received h a) y ≡ Greater → ⊥) (missing_row content rows received g) (each_or_none (resolvers_of content rows g.hold)) (λ b.
      not_greater (slice_cmp nat_cmp h.category g.category) (id_cmp h.hold.key.sysmod g.hold.key.sysmod) (id_cmp h.hold.key.reason g.hold.key.reason) (option_cmp id_cmp h.hold.resolver g.hold.resolver) less))

resolvers_ascend : (content : Content) (rows : List ZoneRow) (hold : Hold) → Ascend (resolvers_of content rows hold)
resolvers_ascend content rows hold = in_order_ascends (candidates_for content rows hold.key.reason ++ resolvers_by content rows hold.resolver)

pub missing_rows_ascend : MissingRowsAscend
missing_rows_ascend = record {
  rows = λ content rows received patterns holds.
      let asked = flat_map (categories_asked patterns) holds in
      blocks_in_order (λ row later. missing_row_cmp row later ≡ Greater → ⊥) (missing_rows_of_category content rows received) (λ missing.
      mapped_in_order (λ row later. missing_row_cmp row later ≡ Greater → ⊥) (missing_row content rows received missing) (each_or_none (resolvers_of content rows missing.hold)) (of_one_missing content rows received missing)
      (named_sorted (resolvers_of content rows missing.hold) (resolvers_ascend content rows missing.hold)))
      (of_two_missing content rows received)
      (filter (λ missing. is_missing content rows missing.hold) (by_category asked))
      (IsStrictlySortedBy-filter missing_cmp (λ missing. is_missing content rows missing.hold) (by_category asked) (sorted_puts missing_cmp missing_total [] asked (none_sorted missing_cmp)));
  resolvers = λ content rows received missing.
      mapped_in_order (λ row later. option_cmp id_cmp row.resolver later.resolver ≡ Less) (missing_row content rows received missing) (each_or_none (resolvers_of content rows missing.hold)) (λ a b less. less)
      (named_sorted (resolvers_of content rows missing.hold) (resolvers_ascend content rows missing.hold));
}
