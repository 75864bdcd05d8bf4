-- The sort keys of a book's map are in the order of the keys.
use Rattle.std.proofs.Common.{◌≡◌, ℕ, not, ◌&&◌, List, [], ◌∷◌, refl, sym, ◌∙◌, ap, map}
use Rattle.std.specs.declared.cmp.Ordering.{Ordering}
use Rattle.std.specs.declared.cmp.Ordering.TheVariants.{Less, Equal, Greater}
use Rattle.std.specs.declared.ops.Bound.TheVariants.{Included, Excluded}
use Rattle.std.specs.Ordering.{nat_cmp, ordering_then, is_eq, is_le}
use Rattle.std.specs.Cmp.Lexicographic.{slice_cmp, nat_list_cmp_total}
use Rattle.std.proofs.lemmas.Cmp.{tied_itself}
use Rattle.std.specs.Str.{bytes_eq}
use Rattle.std.specs.List.{AllByRecursion}
use Rattle.std.specs.List.Sorted.{IsStrictlySortedBy}
use Rattle.std.specs.BTreeMap.{is_at}
use Rattle.std.specs.BTreeMap.Range.{range_contains}
use Rattle.std.proofs.lemmas.Map.Text.{is_eq-slice_cmp}
use Rattle.holddata.specs.declared.key.Kind.{Kind}
use Rattle.holddata.specs.declared.key.Kind.TheVariants.{ErrorHold, SystemHold, UserHold, FixcatHold}
use Rattle.holddata.specs.declared.key.HoldKey.{HoldKey}
use Rattle.holddata.specs.declared.sort_key.Rank.{Rank}
use Rattle.holddata.specs.declared.sort_key.Rank.TheVariants as rank
use Rattle.holddata.specs.declared.sort_key.SortKey.{SortKey}
use Rattle.holddata.specs.contracts.sort_key.RankOrd.TheImpl as ranks
use Rattle.holddata.specs.contracts.sort_key.SortKeyOrd.TheImpl as sort_keys
use Rattle.holddata.specs.HoldKey.{kind_cmp, key_cmp, is_same_key}
use Rattle.holddata.specs.SortKey.{rank_of, rank_number, sort_key_of, sort_key_cmp, before_all, after_all}
use Rattle.holddata.proofs.KeyFacts.{same_is}

derived_ranks : (a b : Rank) → ranks.cmp-value.it a b ≡ nat_cmp (rank_number a) (rank_number b)
derived_ranks rank.BeforeAll rank.BeforeAll = refl
derived_ranks rank.BeforeAll rank.ErrorHolds = refl
derived_ranks rank.BeforeAll rank.SystemHolds = refl
derived_ranks rank.BeforeAll rank.UserHolds = refl
derived_ranks rank.BeforeAll rank.FixcatHolds = refl
derived_ranks rank.BeforeAll rank.AfterAll = refl
derived_ranks rank.ErrorHolds rank.BeforeAll = refl
derived_ranks rank.ErrorHolds rank.ErrorHolds = refl
derived_ranks rank.ErrorHolds rank.SystemHolds = refl
derived_ranks rank.ErrorHolds rank.UserHolds = refl
derived_ranks rank.ErrorHolds rank.FixcatHolds = refl
derived_ranks rank.ErrorHolds rank.AfterAll = refl
derived_ranks rank.SystemHolds rank.BeforeAll = refl
derived_ranks rank.SystemHolds rank.ErrorHolds = refl
derived_ranks rank.SystemHolds rank.SystemHolds = refl
derived_ranks rank.SystemHolds rank.UserHolds = refl
derived_ranks rank.SystemHolds rank.FixcatHolds = refl
derived_ranks rank.SystemHolds rank.AfterAll = refl
derived_ranks rank.UserHolds rank.BeforeAll = refl
derived_ranks rank.UserHolds rank.ErrorHolds = refl
derived_ranks rank.UserHolds rank.SystemHolds = refl
derived_ranks rank.UserHolds rank.UserHolds = refl
derived_ranks rank.UserHolds rank.FixcatHolds = refl
derived_ranks rank.UserHolds rank.AfterAll = refl
derived_ranks rank.FixcatHolds rank.BeforeAll = refl
derived_ranks rank.FixcatHolds rank.ErrorHolds = refl
derived_ranks rank.FixcatHolds rank.SystemHolds = refl
derived_ranks rank.FixcatHolds rank.UserHolds = refl
derived_ranks rank.FixcatHolds rank.FixcatHolds = refl
derived_ranks rank.FixcatHolds rank.AfterAll = refl
derived_ranks rank.AfterAll rank.BeforeAll = refl
derived_ranks rank.AfterAll rank.ErrorHolds = refl
derived_ranks rank.AfterAll rank.SystemHolds = refl
derived_ranks rank.AfterAll rank.UserHolds = refl
derived_ranks rank.AfterAll rank.FixcatHolds = refl
derived_ranks rank.AfterAll rank.AfterAll = refl

-- the order that the sort key's type derives is the stated one
pub derived_order : sort_keys.cmp-value.it ≡ sort_key_cmp
derived_order = λ i a b. derived_sort_keys a b i
  where
    derived_sort_keys : (a b : SortKey) → sort_keys.cmp-value.it a b ≡ sort_key_cmp a b
    derived_sort_keys a b = ap (λ o. ordering_then (slice_cmp nat_cmp a.sysmod b.sysmod) (ordering_then o (slice_cmp nat_cmp a.reason b.reason))) (derived_ranks a.rank b.rank)

rank_order : (a b : Kind) → nat_cmp (rank_number (rank_of a)) (rank_number (rank_of b)) ≡ kind_cmp a b
rank_order ErrorHold ErrorHold = refl
rank_order ErrorHold SystemHold = refl
rank_order ErrorHold UserHold = refl
rank_order ErrorHold FixcatHold = refl
rank_order SystemHold ErrorHold = refl
rank_order SystemHold SystemHold = refl
rank_order SystemHold UserHold = refl
rank_order SystemHold FixcatHold = refl
rank_order UserHold ErrorHold = refl
rank_order UserHold SystemHold = refl
rank_order UserHold UserHold = refl
rank_order UserHold FixcatHold = refl
rank_order FixcatHold ErrorHold = refl
rank_order FixcatHold SystemHold = refl
rank_order FixcatHold UserHold = refl
rank_order FixcatHold FixcatHold = refl

pub sort_key_order : (a b : HoldKey) → sort_key_cmp (sort_key_of a) (sort_key_of b) ≡ key_cmp a b
sort_key_order a b = ap (λ o. ordering_then (slice_cmp nat_cmp a.sysmod b.sysmod) (ordering_then o (slice_cmp nat_cmp a.reason b.reason))) (rank_order a.kind b.kind)

pub at_sort_key : (a b : HoldKey) → is_at (sort_key_cmp (sort_key_of a)) (sort_key_of b) ≡ is_same_key a b
at_sort_key a b = ap is_eq (sort_key_order a b) ∙ same_is a b

all_in_order : (k : HoldKey) (ks : List HoldKey) → AllByRecursion (λ y. sort_key_cmp (sort_key_of k) y ≡ Less) (map sort_key_of ks) → AllByRecursion (λ y. key_cmp k y ≡ Less) ks
all_in_order k [] h = tt
all_in_order k (x ∷ xs) h = (sym (sort_key_order k x) ∙ h.0, all_in_order k xs h.1)

pub keys_in_order : (ks : List HoldKey) → IsStrictlySortedBy sort_key_cmp (map sort_key_of ks) → IsStrictlySortedBy key_cmp ks
unfolding IsStrictlySortedBy
keys_in_order [] h = tt
keys_in_order (k ∷ ks) h = (all_in_order k ks h.0, keys_in_order ks h.1)

-- ---- around the holds on one SYSMOD

before_kind : (kind : Kind) → nat_cmp 0 (rank_number (rank_of kind)) ≡ Less
before_kind ErrorHold = refl
before_kind SystemHold = refl
before_kind UserHold = refl
before_kind FixcatHold = refl

after_kind : (kind : Kind) → nat_cmp 5 (rank_number (rank_of kind)) ≡ Greater
after_kind ErrorHold = refl
after_kind SystemHold = refl
after_kind UserHold = refl
after_kind FixcatHold = refl

between : (sysmods before after reasons : Ordering) → before ≡ Less → after ≡ Greater → (is_le (ordering_then sysmods (ordering_then before reasons)) && not (is_le (ordering_then sysmods (ordering_then after reasons)))) ≡ is_eq sysmods
between Less before after reasons b a = refl
between Equal before after reasons b a = rw (b, a) refl
between Greater before after reasons b a = refl

pub around : (sysmod : List ℕ) (key : HoldKey) → range_contains sort_key_cmp (Included (before_all sysmod)) (Excluded (after_all sysmod)) (sort_key_of key) ≡ bytes_eq sysmod key.sysmod
around sysmod key =
    between (slice_cmp nat_cmp sysmod key.sysmod) _ _ (slice_cmp nat_cmp sysmod key.reason) (before_kind key.kind) (after_kind key.kind)
    ∙ is_eq-slice_cmp sysmod key.sysmod

pub before_after : (sysmod : List ℕ) → sort_key_cmp (before_all sysmod) (after_all sysmod) ≡ Less
before_after sysmod = by (slice_cmp nat_cmp sysmod sysmod) (tied_itself nat_list_cmp_total sysmod)
  where
    by : (o : Ordering) → o ≡ Equal → ordering_then o Less ≡ Less
    by o e = rw e refl
