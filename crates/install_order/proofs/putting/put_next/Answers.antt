use Rattle.std.proofs.Common.{◌++◌, ◌∷◌, [], ◌≡◌, List, ℕ, subst}
use Rattle.install_order.specs.Rings.{AreTakenOut}
use Rattle.install_order.proofs.PutFacts.{goes_on}
use Rattle.install_order.proofs.putting.put_next.Goals as goal

pub returns-clause-goes : goal.returns-clause-goes
returns-clause-goes c =
    let ring = c.in_ok-ring.ring.items in
    let P : List ℕ → Type 0 = λ l. AreTakenOut l c.args.left.now c.take_out.new.left in
    let Q : List ℕ → Type 0 = λ l. c.push_row.new.self ≡ c.args.rings.now ++ l ∷ [] in
    goes_on c.args.needs.now c.args.left.now c.take_out.new.left c.args.rings.now c.push_row.new.self ring
    (subst Q c.deref.ensures.value c.in_ok-push_row.ensures.rows)
    c.in_ok-ring.ensures
    (subst P c.deref-2.ensures.value c.take_out.ensures)

pub returns-clause-fewer : goal.returns-clause-fewer
returns-clause-fewer c =
    let P : List ℕ → Type 0 = λ l. AreTakenOut l c.args.left.now c.take_out.new.left in
    let out = subst P c.deref-2.ensures.value c.take_out.ensures in
    let ring = c.in_ok-ring.ensures in
    out.fewer ring.first ring.begun (ring.marked ring.first ring.begun)
