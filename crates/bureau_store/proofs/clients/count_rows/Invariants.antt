use Rattle.std.proofs.Common.{◌≡◌, ◌++◌, length, map}
use Rattle.bureau_store.proofs.clients.count_rows.Given as goal

-- the counts so far, and the zones that are left
abbrev pub invariant-loop-name : goal.invariant-loop-name
invariant-loop-name l = l.counts.items ++ map (λ zone. (zone.0, length zone.1.rows)) l.name-iterator ≡ map (λ zone. (zone.0, length zone.1.rows)) l.zones.entries
