use Rattle.std.proofs.Common.{◌≡◌, take}
use Rattle.catalogue.specs.View.{Tells}
use Rattle.catalogue.proofs.TellingFacts.{HasTold}
use Rattle.verdicts.specs.United.{united}
use Rattle.chain_cache.specs.Cache.{AreFilled, IsRightFor}
use Rattle.chain_cache.proofs.cache.ChainCache.united_by_frames.Given as goal

abbrev pub invariant-loop-id : goal.invariant-loop-id
invariant-loop-id g l =
    let view = g.P.Published.content_view in
    record {
      has_told : HasTold view l.fn.source l.source
          (λ content. IsRightFor l.fn.self content → l.found.keys ≡ united content l.zone (take l.id-index l.ids));
      right : Tells view l.fn.source l.source (λ content. IsRightFor l.fn.self content → IsRightFor l.self content);
      filled : AreFilled (take l.id-index l.ids) l.fn.self l.self;
    }
