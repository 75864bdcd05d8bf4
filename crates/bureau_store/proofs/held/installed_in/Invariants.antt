use Rattle.std.proofs.Common.{◌≡◌, ◌||◌, ℕ, List, drop}
use Rattle.std.specs.BTreeMap.{is_at}
use Rattle.std.specs.Cmp.Lexicographic.{slice_cmp}
use Rattle.std.specs.List.{list_any}
use Rattle.std.specs.Ordering.{nat_cmp}
use Rattle.zone_lists.specs.Installed.{is_installed}
use Rattle.bureau_store.proofs.held.installed_in.Given as goal

-- the SYSMODs so far, and those of the rows that are left
abbrev pub invariant-loop-row : goal.invariant-loop-row
invariant-loop-row l = (id : List ℕ) → (list_any (is_at (slice_cmp nat_cmp id)) l.ids.keys || is_installed (drop l.row-index l.rows) id) ≡ is_installed l.rows id
