use Rattle.std.proofs.Common.{◌≡◌, ◌++◌, ◌==◌, ◌&&◌, filter}
use Rattle.holddata.specs.HoldKey.{kind_order}
use Rattle.zone_lists.specs.Installed.{is_installed}
use Rattle.file_reports.proofs.held.held_in.Given as goal

-- the holds so far, and those among the holds that are left
abbrev pub invariant-loop-hold : goal.invariant-loop-hold
invariant-loop-hold l = l.held.items ++ filter (λ hold. is_installed l.zone hold.key.sysmod && (kind_order hold.key.kind == kind_order l.kind)) l.hold-iterator
    ≡ filter (λ hold. is_installed l.zone hold.key.sysmod && (kind_order hold.key.kind == kind_order l.kind)) l.book
