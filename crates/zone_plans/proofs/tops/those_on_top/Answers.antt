use Rattle.std.proofs.Common.{◌≡◌, ◌∙◌, List, ℕ, Option, is_some, map, length, sym, ap, subst}
use Rattle.std.proofs.lemmas.List.{length-map}
use Rattle.requisites.specs.Sources.{source_of}
use Rattle.lemmas.proofs.ResultFacts.{ok_so}
use Rattle.std.specs.List.{Contains}
use Rattle.catalogue.specs.Ids.{in_order}
use Rattle.supersede.specs.Reach.{has}
use Rattle.verdicts.specs.Indices.{IsAt}
use Rattle.zone_plans.specs.Choices.{is_given}
use Rattle.zone_plans.specs.Climbs.{AreKnownAmong, AreOthers}
use Rattle.zone_plans.proofs.TopFacts.{given_is, known_of_marks}
use Rattle.zone_plans.proofs.tops.those_on_top.Goals as goal

pub returns-then-are_known : goal.returns-then-are_known
returns-then-are_known c = ok_so c.those_not_given.result c.those_not_given.ensures (λ kept is content climb inside.
    let all = c.args.ids.now in
    let ids = c.args.climb.now.ids.items in
    let marks = c.args.others.now.marks.items in
    let found = c.args.others.now.found.items in
    let K : List (List ℕ) → Type 0 = λ l. AreKnownAmong l marks found (in_order all) in
    let A : List (List ℕ) → Type 0 = λ l. AreKnownAmong c.deref.result.now marks found l in
    let known : AreKnownAmong ids marks found (in_order all) = subst K c.deref.ensures.value (subst A (c.deref-2.ensures.value ∙ c.in_ok-among.ensures.ids) (c.are_known.ensures c.if-are_known.true)) in
    let M : List (List ℕ) → Type 0 = λ l. (id : List ℕ) → Contains all id → Contains l id in
    is (is_given content all) (subst M (sym c.deref-then-are_known.ensures.value) inside) (λ id p listed at.
    let T : List (List ℕ) → Type 0 = λ l. IsAt l id p in
    let F : List (Option ℕ) → Type 0 = λ l. is_some (source_of l p) ≡ is_given content all id in
    subst F (sym c.deref-then-are_known-2.ensures.value)
    (given_is content ids c.args.climb.now.below climb c.requires.ascend marks found c.requires.others all known id listed p (subst T c.deref-then-are_known.ensures.value at))))

pub returns : goal.returns
returns c = ok_so c.those_not_given-2.result c.those_not_given-2.ensures (λ kept is content climb inside.
    let all = c.args.ids.now in
    let ids = c.args.climb.now.ids.items in
    let below = c.args.climb.now.below in
    let own = c.in_ok-own.own in
    let marks = own.marks.items in
    let found = own.found.items in
    let marked : marks ≡ map (has (in_order all)) ids = c.in_ok-own.ensures.marks ∙ c.in_ok-marks.ensures ∙ ap (λ (l : List (List ℕ)). map (has l) c.deref-3.result.now) (c.deref-4.ensures.value ∙ c.in_ok-among.ensures.ids) ∙ ap (map (has (in_order all))) c.deref-3.ensures.value in
    let as_many : length c.in_ok-marks.marks.items ≡ length ids = ap length (sym c.in_ok-own.ensures.marks ∙ marked) ∙ length-map ids (has (in_order all)) in
    let O : ℕ → Type 0 = λ n. AreOthers below n marks found in
    let others : AreOthers below (length ids) marks found = subst O as_many c.in_ok-own.ensures.others in
    let known = known_of_marks ids below marks found (in_order all) marked others in
    let M : List (List ℕ) → Type 0 = λ l. (id : List ℕ) → Contains all id → Contains l id in
    is (is_given content all) (subst M (sym c.deref-5.ensures.value) inside) (λ id p listed at.
    let T : List (List ℕ) → Type 0 = λ l. IsAt l id p in
    let F : List (Option ℕ) → Type 0 = λ l. is_some (source_of l p) ≡ is_given content all id in
    subst F (sym c.deref-6.ensures.value)
    (given_is content ids below climb c.requires.ascend marks found others all known id listed p (subst T c.deref-5.ensures.value at))))
