use Rattle.std.proofs.Common.{List, Option, ℕ, Bool, length, subst}
use Rattle.lemmas.proofs.ResultFacts.{ok_so}
use Rattle.requisites.proofs.TestFacts.{from_none}
use Rattle.requisites.specs.Sources.{AreLeastSources}
use Rattle.install_order.specs.Rings.{AreReached, IsGreatestRoot, IsOnly, IsRoot}
use Rattle.install_order.proofs.RingFacts.{is_ring, some_root}
use Rattle.install_order.proofs.rings.ring_of.Goals as goal

pub unreachable-requires : goal.unreachable-requires
unreachable-requires c =
    let left = c.args.left.now in
    let least = c.in_ok-least.least.items in
    let P : List (Option ℕ) → Type 0 = λ s. (q : ℕ) → IsRoot left s q → ⊥ in
    some_root c.args.needs.now c.args.turned.now left least c.requires.turned c.in_ok-least.ensures.sources c.requires.any
    (subst P c.deref.ensures.value (from_none c.greatest_root.result c.in_default.is c.greatest_root.ensures.none))

pub returns : goal.returns
returns c =
    let left = c.args.left.now in
    let least = c.in_ok-least.least.items in
    let root = c.in-Some.root in
    let only = c.in_ok-only.only.items in
    let reached = c.in_ok-reached.reached.items in
    let P : List (Option ℕ) → Type 0 = λ s. IsGreatestRoot left s root in
    let O : ℕ → Type 0 = λ n. IsOnly n root only in
    let S : List Bool → Type 0 = λ l. AreLeastSources c.args.needs.now l reached in
    let R : List (Option ℕ) → List ℕ → Type 0 = λ s nodes. AreReached left s (length left) nodes in
    ok_so c.left_with_source.result c.left_with_source.ensures
    (λ ring found. is_ring c.args.needs.now c.args.turned.now left least c.requires.turned c.in_ok-least.ensures.sources
    root only reached ring.items
    (subst P c.deref.ensures.value c.in-Some.ensures.some)
    c.in_ok-only.ensures
    (subst S c.deref-2.ensures.value c.in_ok-reached.ensures.sources)
    (let Q : List (Option ℕ) → Type 0 = λ s. R s ring.items in subst Q c.deref-3.ensures.value found))
