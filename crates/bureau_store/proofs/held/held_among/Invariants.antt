use Rattle.std.proofs.Common.{◌≡◌, ◌++◌, ◌==◌, ◌&&◌, filter}
use Rattle.holddata.specs.HoldKey.{kind_order}
use Rattle.zone_lists.specs.Installed.{is_installed}
use Rattle.bureau_store.proofs.held.held_among.Given as goal

-- the holds so far, and those among the holds that are left
abbrev pub invariant-loop-hold : goal.invariant-loop-hold
invariant-loop-hold l = l.held.items ++ filter (λ hold. is_installed l.rows hold.key.sysmod && (kind_order hold.key.kind == kind_order l.kind)) l.hold-iterator
    ≡ filter (λ hold. is_installed l.rows hold.key.sysmod && (kind_order hold.key.kind == kind_order l.kind)) l.book
