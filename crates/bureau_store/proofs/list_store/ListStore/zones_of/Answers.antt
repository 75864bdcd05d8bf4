use Rattle.std.proofs.Common.{ℕ, List, ap, map}
use Rattle.bureau_store.proofs.TableFacts.{nil_ascends}
use Rattle.bureau_store.proofs.list_store.ListStore.zones_of.Goals as goal

pub returns-in-None-clause-ascend : goal.returns-in-None-clause-ascend
returns-in-None-clause-ascend c = nil_ascends _ _ (ap (λ (zones : List (List ℕ × ℕ)). map (λ (zone : List ℕ × ℕ). zone.0) zones) c.new.ensures.items)
