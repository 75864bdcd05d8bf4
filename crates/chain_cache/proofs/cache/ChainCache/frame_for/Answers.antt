use Rattle.std.proofs.Common.{◌∙◌, ap, refl, slice_get, subst, sym}
use Rattle.catalogue.proofs.SourceFacts.{no_fault, told_so}
use Rattle.chains.specs.Frames.{FrameLists, IsFrame}
use Rattle.chain_cache.specs.Cache.{CacheLists, IsFilled}
use Rattle.chain_cache.proofs.EntryFacts.{first_inside, same_value}
use Rattle.chain_cache.proofs.cache.ChainCache.frame_for.Goals as goal

pub returns : goal.returns
returns g c =
    let id = c.args.id.now in
    let old = c.args.self.now in
    let said = c.in_ok-fill.ensures in
    let filled = said.filled in
    let same = same_value (c.in-Some.field-0-0.now, c.in-Some.frame.now) (id, filled.0) (c.in-Some.ensures ∙ ap (λ cache. slice_get cache.entries 0) c.self.view_is ∙ filled.1.first) in
    let P : FrameLists → Type 0 = λ frame. IsFilled id frame old c.fill.new.self in
    let Q : CacheLists → Type 0 = λ cache. IsFilled id c.in-Some.frame.now old cache in (
      (refl, λ _. tt, subst Q (sym c.self.view_is) (subst P (sym same) filled.1)),
      record {
        filled = tt;
        asks = record {
          keeps = said.asks.keeps;
          cause = λ fault. absurd (no_fault _ fault);
          stays_open = λ _ standing. said.asks.stays_open (no_fault _) standing;
        };
        frame = told_so said.right (λ content keeps right.
            let R : FrameLists → Type 0 = λ frame. IsFrame content id frame in
            subst R (sym same) ((keeps right).frames.each id filled.0 (first_inside _ _ filled.1.first)));
      },
    )
