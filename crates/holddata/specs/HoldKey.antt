-- The key that identifies a hold: the SYSMOD, the kind of hold and the reason.
use Rattle.std.specs.Prelude.{ℕ, ◌==◌, ◌&&◌, Bool, List, codes, bytes_eq}
use Rattle.std.specs.declared.cmp.Ordering.{Ordering}
use Rattle.std.specs.Ordering.{nat_cmp, ordering_then}
use Rattle.std.specs.Cmp.Lexicographic.{slice_cmp}
use Rattle.holddata.specs.declared.key.Kind.{Kind}
use Rattle.holddata.specs.declared.key.Kind.TheVariants.{ErrorHold, SystemHold, UserHold, FixcatHold}
use Rattle.holddata.specs.declared.key.HoldKey.{HoldKey}

-- a kind's name in print
abbrev pub kind_name : Kind → List ℕ
kind_name ErrorHold = codes "ERROR"
kind_name SystemHold = codes "SYSTEM"
kind_name UserHold = codes "USER"
kind_name FixcatHold = codes "FIXCAT"

-- a kind's number in the order of kinds, from 0
abbrev pub kind_order : Kind → ℕ
kind_order ErrorHold = 0
kind_order SystemHold = 1
kind_order UserHold = 2
kind_order FixcatHold = 3

abbrev pub is_same_kind : Kind → Kind → Bool
is_same_kind a b = kind_order a == kind_order b

-- whether two keys are one: the same SYSMOD, kind and reason
abbrev pub is_same_key : HoldKey → HoldKey → Bool
is_same_key a b = bytes_eq a.sysmod b.sysmod && (is_same_kind a.kind b.kind && bytes_eq a.reason b.reason)

abbrev pub kind_cmp : Kind → Kind → Ordering
kind_cmp a b = nat_cmp (kind_order a) (kind_order b)

-- by SYSMOD, then by kind, then by reason; ids by their bytes
abbrev pub key_cmp : HoldKey → HoldKey → Ordering
key_cmp a b =
    ordering_then (slice_cmp nat_cmp a.sysmod b.sysmod)
    (ordering_then (kind_cmp a.kind b.kind) (slice_cmp nat_cmp a.reason b.reason))
