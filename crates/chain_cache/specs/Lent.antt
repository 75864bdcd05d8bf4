-- The state that a cache has once a frame that it has lent has ended.
use Rattle.std.specs.Prelude.{◌≡◌, ℕ, List, Result, MatchResult, ⊤}
use Rattle.std.specs.Borrow.{Fml, Bor, MutBor, follows_so}
use Rattle.catalogue.specs.declared.fault.SourceFault.{SourceFault}
use Rattle.chains.specs.Frames.{FrameLists}
use Rattle.chain_cache.specs.Cache.{CacheLists, IsFilled}
use Rattle.chain_cache.specs.contracts.cache.ChainCache.{the_row}
use mathlib.Core.Option.{none}

-- it was asked for the frame of an id; after a refusal it is as it was
abbrev pub ends_filled : MutBor CacheLists → List ℕ → Result (Bor FrameLists) SourceFault → Fml
ends_filled cache id result = follows_so the_row the_row cache.ghost_name none (λ _ _. ⊤)
    (λ new. MatchResult result (λ frame. IsFilled id frame.now cache.now new) (λ _. new ≡ cache.now))
