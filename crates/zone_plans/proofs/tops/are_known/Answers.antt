use Rattle.std.proofs.Common.{List, ℕ, rules, sym, subst, arith, true, ◌≡◌}
use Rattle.std.specs.List.{Contains}
use Rattle.std.proofs.lemmas.List.{take_all}
use Rattle.zone_plans.proofs.TopFacts.{known_more}
use Rattle.zone_plans.proofs.tops.are_known.Goals as goal

pub loop-id-preserved : goal.loop-id-preserved
loop-id-preserved c =
    let on : c.is_known.result ≡ true = search rules in
    known_more c.args.members.now c.args.others.now.marks.items c.args.others.now.found.items c.args.among.now c.args.among.now c.loop-id.id-index c.id-item.result c.loop-id-test.true c.id-item.is c.loop-id.invariant
    (c.is_known.ensures on)

pub returns : goal.returns
returns c = λ on id inside.
    let P : List (List ℕ) → Type 0 = λ l. Contains l id in
    c.loop-id.invariant id (subst P (sym (take_all c.loop-id.id-index c.args.among.now (omega (arith, c.loop-id-test.false)))) inside)
