use Rattle.std.proofs.Common.{◌∙◌, ◌<◌, List, ℕ, Option, Some, ap, filter, length, map, subst, sym}
use Rattle.std.specs.Prelude.{◌↔◌}
use Rattle.std.specs.List.{Contains}
use Rattle.lemmas.proofs.ResultFacts.{some_is}
use Rattle.catalogue.specs.Ids.{in_order}
use Rattle.requisites.specs.Leads.{Leads}
use Rattle.requisites.specs.Nodes.{Links, mark_of}
use Rattle.requisites.proofs.LeadsFacts.{leads_closed}
use Rattle.chains.specs.Climbs.{AreFrom}
use Rattle.verdicts.specs.Indices.{id_at}
use Rattle.chains.proofs.AnswerFacts.{marked_are}
use Rattle.chains.proofs.candidates.found_from.Goals as goal

pub ids_marked-requires : goal.ids_marked-requires
ids_marked-requires c = λ q inside.
    let P : List ℕ → Type 0 = λ l. Contains l q in
    let n = length c.args.walks.now.seen.items in
    let start : c.in-Some.index < length c.args.ids.now = some_is (λ p. p < length c.args.ids.now) c.args.index c.in-Some.index c.in-Some.is c.requires.within in
    let leads = (c.in_ok-walk.ensures.each q).0 (subst P c.indices.ensures inside) in
    let L : ℕ → Type 0 = λ m. Leads (Links c.args.above.now m) c.in-Some.index q in
    leads_closed (λ p. p < length c.args.ids.now) (λ u v here link. link.index) start (subst L c.requires.len leads)

pub returns-clause-found : goal.returns-clause-found
returns-clause-found c =
    let ids = c.args.ids.now in
    let above = c.args.above.now in
    let marks = c.args.marks.now in
    let index = c.in-Some.index in
    let order = c.walk.new.self.order.items in
    let found = c.in_ok-ids_marked.field-0.items in
    let start : index < length ids = some_is (λ p. p < length ids) c.args.index index c.in-Some.is c.requires.within in
    let A : Option ℕ → Type 0 = λ o. AreFrom ids above marks o (Some found) in
    let E : ℕ → Type 0 = λ m. (q : ℕ) → Contains order q ↔ Leads (Links above m) index q in
    subst A (sym c.in-Some.is) (
      c.in_ok-ids_marked.ensures.ascend,
      marked_are ids above marks index order found start (subst E c.requires.len c.in_ok-walk.ensures.each)
          (c.in_ok-ids_marked.ensures.ids ∙ ap (λ indices. in_order (map (id_at ids) (filter (mark_of marks) indices))) c.indices.ensures),
    )
