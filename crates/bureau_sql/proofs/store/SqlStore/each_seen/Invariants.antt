use Rattle.std.proofs.Common.{◌≡◌, map, take}
use Rattle.catalogue.specs.Seen.{seen_in}
use Rattle.catalogue.proofs.TellingFacts.{HasTold}
use Rattle.bureau_sql.specs.Laws.{sql_content_view}
use Rattle.bureau_sql.proofs.store.SqlStore.each_seen.Given as goal

-- what was seen so far is told
abbrev pub invariant-loop-id : goal.invariant-loop-id
invariant-loop-id g l = HasTold (sql_content_view g.S.Store) l.fn.self l.self (λ content. l.found.items ≡ map (seen_in content) (take l.id-index l.ids))
