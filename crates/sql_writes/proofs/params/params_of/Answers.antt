use Rattle.std.proofs.Common.{◌≡◌, ◌≤◌, ◌+◌, ◌*◌, ◌++◌, ◌∙◌, ap, ap₂, arith, length, subst, sym, take}
use Rattle.std.proofs.Math.Nat.{mul-le-mul_left}
use Rattle.std.proofs.lemmas.List.{append-nil, take_all}
use Rattle.std.specs.Prelude.{flat_map}
use Rattle.std.specs.List.{AllByRecursion}
use Rattle.sqlite.specs.Values.{bound}
use Rattle.sql_writes.proofs.BoundFacts.{all_more, taken_long}
use Rattle.sql_writes.proofs.SeveralFacts.{bound_one_more}
use Rattle.sql_writes.proofs.params.params_of.Goals as goal

pub loop-item-init : goal.loop-item-init
loop-item-init g c =
    let none : g.T.Several.own * 0 ≡ 0 = omega arith in
    let first = taken_long c.count.result 3 c.params-first.result c.params-first.ensures.long c.count.ensures.few in
    let start : c.count-next.result ≡ 0 + length (take c.count.result c.params-first.result) = omega (arith, first, c.count-next.ensures.count, c.count.ensures.count) in
    record {
      long = c.place.ensures.long;
      next = let is = c.count-next.ensures.count in omega (arith, is, none);
      placed = ap (λ n. bound (take n c.place.new.params)) start ∙ c.place.ensures.placed
          ∙ ap (λ n. bound (take n c.params-first.result)) c.count.ensures.count ∙ c.params-first.ensures.bound ∙ sym (append-nil _);
      key = c.params-first.ensures.fit;
      fit = tt;
    }

pub place-requires-in-loop-item : goal.place-requires-in-loop-item
place-requires-in-loop-item g c =
    let own = g.T.Several.own in
    let at = c.loop-item.item-index in
    let all = length c.args.items.now in
    let wide = taken_long c.width.result 5 c.columns-columns.result c.columns-columns.ensures.long c.width.ensures.few in
    let more : own * (at + 1) ≤ own * all = mul-le-mul_left own (omega (arith, c.loop-item-test.true)) in
    let next : own * (at + 1) ≡ own * at + own = omega arith in
    let room = g.met.T.Several.room all c.requires in
    record { room = omega (arith, wide, more, next, room, c.width.ensures.width, c.loop-item.invariant.next); long = c.loop-item.invariant.long }

pub loop-item-preserved : goal.loop-item-preserved
loop-item-preserved g c =
    let own = g.T.Several.own in
    let at = c.loop-item.item-index in
    let item = c.item-item.result in
    let key = g.K.Key.values c.args.key.now in
    let wide = taken_long c.width.result 5 c.columns-columns.result c.columns-columns.ensures.long c.width.ensures.few in
    let next : own * (at + 1) ≡ own * at + own = omega arith in
    let width = c.width-next.ensures.width ∙ sym c.width.ensures.width in
    record {
      long = c.place-in-loop-item.ensures.long;
      next = omega (arith, next, c.width-next.ensures.width, c.loop-item.invariant.next);
      placed = ap (λ n. bound (take (c.loop-item.next + n) c.place-in-loop-item.new.params)) (width ∙ sym wide) ∙ c.place-in-loop-item.ensures.placed
          ∙ ap₂ ◌++◌ c.loop-item.invariant.placed (ap (λ n. bound (take n c.columns-columns.result)) c.width.ensures.width ∙ c.columns-columns.ensures.bound)
          ∙ bound_one_more g.T.Several.values_of key c.args.items.now at item c.loop-item-test.true c.item-item.is;
      key = c.loop-item.invariant.key;
      fit = all_more g.T.Several.is_fit c.args.items.now at item c.loop-item-test.true c.item-item.is c.loop-item.invariant.fit c.columns-columns.ensures.fit;
    }

pub returns-clause-bound : goal.returns-clause-bound
returns-clause-bound g c =
    let all = c.args.items.now in
    let ended : c.loop-item.item-index ≡ length all = omega (arith, c.loop-item-test.false, c.loop-item.auto.item-index-end) in
    ap (λ n. bound (take (g.K.Key.parameters + g.T.Several.own * n) c.loop-item.params)) (sym ended)
    ∙ ap (λ n. bound (take n c.loop-item.params)) (sym c.loop-item.invariant.next)
    ∙ c.loop-item.invariant.placed
    ∙ ap (λ some. g.K.Key.values c.args.key.now ++ flat_map g.T.Several.values_of some) (take_all c.loop-item.item-index all c.loop-item-test.false)

pub returns-clause-fit : goal.returns-clause-fit
returns-clause-fit g c = subst (AllByRecursion g.T.Several.is_fit) (take_all c.loop-item.item-index c.args.items.now c.loop-item-test.false) c.loop-item.invariant.fit
