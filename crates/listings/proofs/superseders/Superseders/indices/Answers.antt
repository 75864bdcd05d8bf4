use Rattle.std.proofs.Common.{List, ℕ, refl, subst}
use Rattle.std.specs.List.{Contains}
use Rattle.verdicts.specs.Indices.{IsAt}
use Rattle.listings.proofs.SupersederFacts.{turned_at, turned_nowhere}
use Rattle.listings.proofs.superseders.Superseders.indices.Goals as goal

pub returns-in-Some : goal.returns-in-Some
returns-in-Some c = λ sights p turned.
    let own = c.args.self.now in
    let I : List (List ℕ) → Type 0 = λ l. IsAt l c.args.id.now c.in-Some.index in
    turned_at sights own.superseded.items own.above c.args.id.now c.in-Some.index c.row.result.now p turned (subst I c.deref.ensures.value c.in-Some.ensures.some) c.row.ensures

pub returns-in-None : goal.returns-in-None
returns-in-None c = λ sights p turned.
    let own = c.args.self.now in
    let N : List (List ℕ) → Type 0 = λ l. Contains l c.args.id.now → ⊥ in
    turned_nowhere sights own.superseded.items own.above c.args.id.now _ p turned (subst N c.deref.ensures.value c.in-None.ensures.none) refl
