use Rattle.requisites.proofs.TestFacts.{from_true}
use Rattle.install_order.proofs.PutFacts.{goes_on}
use Rattle.install_order.proofs.putting.put_if_ring.Goals as goal

pub returns-in_ok-push_row : goal.returns-in_ok-push_row
returns-in_ok-push_row c =
    goes_on c.args.needs.now c.args.left.now c.take_out.new.left c.args.rings.now c.push_row.new.self c.args.ring.now
    c.in_ok-push_row.ensures.rows
    (from_true c.is_ring.result c.is_ring.ensures c.if-is_ring.true)
    c.take_out.ensures
