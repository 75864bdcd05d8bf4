use Rattle.std.proofs.Common.{◌≡◌, ℕ, length, rules, subst}
use Rattle.requisites.specs.Nodes.{AreReversed}
use Rattle.listings.proofs.SupersederFacts.{are_turned}
use Rattle.listings.proofs.superseders.Superseders.by_rows.Goals as goal

pub returns : goal.returns
returns c = λ sights all below.
    let superseded = c.args.superseded.items in
    let above = c.in_ok-above.above in
    let as_many : c.len.result ≡ length superseded = search rules in
    let N : ℕ → Type 0 = λ n. AreReversed c.args.below n above in
    record {
      below_are = below;
      turned = are_turned sights superseded c.args.below above c.requires all below (subst N as_many c.in_ok-above.ensures);
    }
