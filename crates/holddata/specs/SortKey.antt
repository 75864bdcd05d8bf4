-- No part of what is promised: private contracts cite it. The key by which the book's map keeps a hold.
use Rattle.std.specs.Prelude.{◌≡◌, ℕ, List, map}
use Rattle.std.specs.Map.{keys_of, values_of}
use Rattle.std.specs.declared.cmp.Ordering.{Ordering}
use Rattle.std.specs.Ordering.{nat_cmp, ordering_then}
use Rattle.std.specs.Cmp.Lexicographic.{slice_cmp}
use Rattle.holddata.specs.declared.key.Kind.{Kind}
use Rattle.holddata.specs.declared.key.Kind.TheVariants.{ErrorHold, SystemHold, UserHold, FixcatHold}
use Rattle.holddata.specs.declared.key.HoldKey.{HoldKey}
use Rattle.holddata.specs.declared.hold.Hold.{Hold}
use Rattle.holddata.specs.declared.sort_key.Rank.{Rank}
use Rattle.holddata.specs.declared.sort_key.Rank.TheVariants as rank
use Rattle.holddata.specs.declared.sort_key.SortKey.{SortKey}
use Rattle.holddata.specs.HoldBook.{keys_in}

abbrev pub rank_of : Kind → Rank
rank_of ErrorHold = rank.ErrorHolds
rank_of SystemHold = rank.SystemHolds
rank_of UserHold = rank.UserHolds
rank_of FixcatHold = rank.FixcatHolds

abbrev pub rank_number : Rank → ℕ
rank_number rank.BeforeAll = 0
rank_number rank.ErrorHolds = 1
rank_number rank.SystemHolds = 2
rank_number rank.UserHolds = 3
rank_number rank.FixcatHolds = 4
rank_number rank.AfterAll = 5

abbrev pub sort_key_of : HoldKey → SortKey
sort_key_of key = record { sysmod = key.sysmod; rank = rank_of key.kind; reason = key.reason }

-- the sort keys before and after those of all holds on a SYSMOD
abbrev pub before_all : List ℕ → SortKey
before_all sysmod = record { sysmod = sysmod; rank = rank.BeforeAll; reason = sysmod }

abbrev pub after_all : List ℕ → SortKey
after_all sysmod = record { sysmod = sysmod; rank = rank.AfterAll; reason = sysmod }

abbrev pub sort_key_cmp : SortKey → SortKey → Ordering
sort_key_cmp a b =
    ordering_then (slice_cmp nat_cmp a.sysmod b.sysmod)
    (ordering_then (nat_cmp (rank_number a.rank) (rank_number b.rank)) (slice_cmp nat_cmp a.reason b.reason))

-- a map has each hold under the sort key of its key
abbrev pub HasSortKeys : List (SortKey × Hold) → Type 0
HasSortKeys entries = map sort_key_of (keys_in (values_of entries)) ≡ keys_of entries
