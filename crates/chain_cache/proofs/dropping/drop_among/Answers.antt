use Rattle.std.proofs.Common.{◌∙◌, ℕ, List, Bool, ap, arith, filter, not, refl}
use Rattle.lru.specs.LruCache.{lru_cache}
use Rattle.chains.specs.Frames.{FrameLists, shares}
use Rattle.chain_cache.proofs.EntryFacts.{all_turned, next_turn, none_turned}
use Rattle.chain_cache.proofs.dropping.drop_among.Goals as goal

pub loop-init : goal.loop-init
loop-init c =
    let stays : List ℕ × FrameLists → Bool = λ entry. not (shares c.args.ids.now entry.1) in
    record { turned = none_turned stays c.args.frames.now.entries; cap = refl; total = c.len-end.ensures.len }

pub loop-preserved : goal.loop-preserved
loop-preserved c =
    let stays : List ℕ × FrameLists → Bool = λ entry. not (shares c.args.ids.now entry.1) in
    let so_far = c.loop.invariant in
    let next = next_turn stays c.args.frames.now.entries c.loop.frames.entries c.loop.counter so_far.turned (omega (arith, so_far.total, c.loop-test.true)) in
    record {
      turned = next.on c.turn.new.frames.entries (c.turn.ensures.entries next.before next.last next.is);
      cap = c.turn.ensures.cap ∙ so_far.cap;
      total = so_far.total;
    }

pub returns : goal.returns
returns c =
    let stays : List ℕ × FrameLists → Bool = λ entry. not (shares c.args.ids.now entry.1) in
    let so_far = c.loop.invariant in
    let all = all_turned stays c.args.frames.now.entries c.loop.frames.entries c.loop.counter so_far.turned (omega (arith, so_far.total, c.loop-test.false)) in
    ap (λ entries. lru_cache entries c.loop.frames.cap) all ∙ ap (lru_cache (filter stays c.args.frames.now.entries)) so_far.cap
