use Rattle.std.proofs.Common.{◌≡◌, ◌∙◌, [], List, Bool, ℕ, subst}
use Rattle.install_order.specs.Rings.{Goes}
use Rattle.install_order.proofs.PutFacts.{all_put, put_begins}
use Rattle.install_order.proofs.putting.rings_in_order.Goals as goal

pub returns : goal.returns
returns c =
    let needs = c.args.needs.now in
    let members = c.args.members.now in
    let left = c.put_rings.new.left in
    let rings = c.put_rings.new.rings in
    let same : c.deref_mut.result.now ≡ members = c.deref_mut.ensures.value ∙ c.in_ok-left.ensures.items in
    let P : List Bool → Type 0 = λ l. Goes needs l left c.new-rings.result rings in
    let Q : List (List ℕ) → Type 0 = λ l. Goes needs members left l rings in
    let goes : Goes needs members left [] rings = subst Q c.new-rings.ensures (subst P same c.in_ok-put_rings.ensures.goes) in
    all_put needs members left rings c.in_ok-put_rings.ensures.none (goes.goes members c.requires (put_begins needs members))
