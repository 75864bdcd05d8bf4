-- What a cache keeps, whatever stands under which key.
use Rattle.std.specs.Prelude.{List, [], None, Option, Some, map}
use Rattle.lru.specs.LruCache.{LruCache}

-- its values; those that were used last come first
abbrev pub values_in : {K V : Type 0} → Option (LruCache K V) → List V
values_in None = []
values_in (Some cache) = map (λ entry. entry.1) cache.entries
