use Rattle.requests.specs.Routes.{routes, table}
use Rattle.requests.proofs.routes.Routes.new.Goals as goal

pub invariant_of-result : goal.invariant_of-result
unfolding routes table
invariant_of-result c = record { whole = rw c.new-router.ensures at c.in_ok-put_all.ensures }
