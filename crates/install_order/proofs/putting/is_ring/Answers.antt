use Rattle.std.proofs.Common.{◌≡◌, ◌<◌, ◌∙◌, false, get_or, length, sym, arith}
use Rattle.std.specs.Prelude.{◌==◌}
use Rattle.std.proofs.lemmas.Bool.Decides.{nat_tests}
use Rattle.std.proofs.lemmas.List.Elements.{Contains-get_or}
use Rattle.install_order.proofs.PutFacts.{ring_is}
use Rattle.install_order.proofs.ReadFacts.{true_then}
use Rattle.install_order.proofs.putting.is_ring.Goals as goal

pub returns : goal.returns
returns c =
    let off : (length c.args.ring.now == 0) ≡ false = sym c.is_empty.ensures ∙ c.if-is_empty.false in
    let some : 0 < length c.args.ring.now = grind (arith, nat_tests) in
    true_then c.are_of_ring.result c.are_of_ring.ensures (λ each. ring_is c.args.needs.now c.args.left.now c.args.ring.now (get_or c.args.ring.now 0 0) (Contains-get_or c.args.ring.now 0 0 some) each)
