use Rattle.std.proofs.Common.{◌≡◌, ◌==◌, ◌&&◌, filter, take}
use Rattle.holddata.specs.HoldKey.{kind_order}
use Rattle.zone_lists.specs.Installed.{is_installed}
use Rattle.bureau_sql.proofs.held.held_among.Given as goal

-- those among the holds so far
abbrev pub invariant-loop-hold : goal.invariant-loop-hold
invariant-loop-hold l = l.held.items ≡ filter (λ hold. is_installed l.zone hold.key.sysmod && (kind_order hold.key.kind == kind_order l.kind)) (take l.hold-index l.book)
