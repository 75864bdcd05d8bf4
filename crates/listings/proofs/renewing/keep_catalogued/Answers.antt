use Rattle.std.proofs.Common.{is_some, rules}
use Rattle.std.proofs.lemmas.List.Elements.{filter_from_retain}
use Rattle.listings.proofs.renewing.keep_catalogued.Goals as goal

pub returns : goal.returns
returns c = filter_from_retain _ (λ seen. is_some seen.sysmod) (λ p x b q called. search (called, rules)) _ _ _ c.retain.ensures.filtered
