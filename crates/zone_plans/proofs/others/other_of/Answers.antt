use Rattle.std.proofs.Common.{◌≡◌, ◌∙◌, ℕ, Option, Some, None, rules, sym, ap, subst}
use Rattle.requisites.specs.Sources.{source_of}
use Rattle.zone_plans.specs.Climbs.{IsOther, mirror}
use Rattle.zone_plans.proofs.MirrorFacts.{other_alone, other_first, other_gone, other_last, other_none}
use Rattle.zone_plans.proofs.others.other_of.Goals as goal

pub returns-in_err-first : goal.returns-in_err-first
returns-in_err-first c = λ lists others marks mirrored as_many first last rows signs.
    let none : source_of c.args.least.now c.args.node ≡ None = search rules in
    let is : c.from_residual.result ≡ None = search rules in
    let P : Option ℕ → Type 0 = λ o. IsOther lists c.args.len marks c.args.node o in
    subst P (sym is) (other_none c.args.len lists others marks mirrored c.args.least.now c.args.turned.now as_many first last rows signs c.args.node c.requires none)

pub returns-then-first-node : goal.returns-then-first-node
returns-then-first-node c = λ lists others marks mirrored as_many first last rows signs.
    let some : source_of c.args.least.now c.args.node ≡ Some c.in_ok-first.first = search rules in
    other_first c.args.len lists others marks mirrored c.args.least.now c.args.turned.now as_many first last rows signs c.args.node c.requires c.in_ok-first.first some
    (λ same. c.if-first-node.true same)

pub returns-in_err-source_at : goal.returns-in_err-source_at
returns-in_err-source_at c = λ lists others marks mirrored as_many first last rows signs.
    let none : source_of c.args.turned.now c.mirror.result ≡ None = search rules in
    let gone : source_of c.args.turned.now (mirror c.args.len c.args.node) ≡ None = ap (source_of c.args.turned.now) (sym c.mirror.ensures) ∙ none in
    let is : c.from_residual-in_err-source_at.result ≡ None = search rules in
    let P : Option ℕ → Type 0 = λ o. IsOther lists c.args.len marks c.args.node o in
    subst P (sym is) (other_gone c.args.len lists others marks mirrored c.args.least.now c.args.turned.now as_many first last rows signs c.args.node c.requires gone)

pub returns-then-last-node : goal.returns-then-last-node
returns-then-last-node c = λ lists others marks mirrored as_many first last rows signs.
    let t = c.in_ok-source_at.field-0 in
    let some : source_of c.args.least.now c.args.node ≡ Some c.in_ok-first.first = search rules in
    let found : source_of c.args.turned.now c.mirror.result ≡ Some t = search rules in
    let there : source_of c.args.turned.now (mirror c.args.len c.args.node) ≡ Some t = ap (source_of c.args.turned.now) (sym c.mirror.ensures) ∙ found in
    other_alone c.args.len lists others marks mirrored c.args.least.now c.args.turned.now as_many first last rows signs c.args.node c.requires c.in_ok-first.first t some
    (search rules) there (sym c.mirror-last.ensures ∙ c.if-last-node.true)

pub returns : goal.returns
returns c = λ lists others marks mirrored as_many first last rows signs.
    let t = c.in_ok-source_at.field-0 in
    let found : source_of c.args.turned.now c.mirror.result ≡ Some t = search rules in
    let there : source_of c.args.turned.now (mirror c.args.len c.args.node) ≡ Some t = ap (source_of c.args.turned.now) (sym c.mirror.ensures) ∙ found in
    let P : ℕ → Type 0 = λ k. IsOther lists c.args.len marks c.args.node (Some k) in
    subst P (sym c.mirror-last.ensures) (other_last c.args.len lists others marks mirrored c.args.least.now c.args.turned.now as_many first last rows signs c.args.node c.requires t there
    (λ same. c.if-last-node.false (c.mirror-last.ensures ∙ same)))
