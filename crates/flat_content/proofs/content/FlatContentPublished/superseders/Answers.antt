use Rattle.std.proofs.Common.{List, sym, ◌∙◌, ap, subst}
use Rattle.catalogue.specs.Content.{sup_names}
use Rattle.catalogue.specs.Ids.{Ascend}
use Rattle.catalogue.proofs.RecordFacts.{filtered_ascend}
use Rattle.flat_content.specs.declared.links.Link.{Link}
use Rattle.flat_content.specs.Links.{linked}
use Rattle.flat_content.proofs.content.FlatContentPublished.superseders.Goals as goal

pub returns-clause-ascend : goal.returns-clause-ascend
returns-clause-ascend c =
    let id = c.args.id.now in
    subst Ascend (sym (c.in_ok-superseders.ensures ∙ ap (λ (links : List Link). linked id links) c.deref.ensures.value ∙ c.self.invariant.of id))
    (filtered_ascend (sup_names id) c.self.inside.records c.self.invariant.ascend)
