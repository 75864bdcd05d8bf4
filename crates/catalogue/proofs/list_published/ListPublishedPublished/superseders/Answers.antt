use Rattle.std.proofs.Common.{sym, ◌∙◌, subst}
use Rattle.std.specs.BTreeMap.{values}
use Rattle.catalogue.specs.Ids.{Ascend}
use Rattle.catalogue.proofs.EntryFacts.{records_ascend}
use Rattle.catalogue.proofs.RecordFacts.{filtered_ascend}
use Rattle.catalogue.specs.Content.{sup_names}
use Rattle.catalogue.proofs.SupersedeFacts.{superseder_is, superseder_catalogued}
use Rattle.catalogue.proofs.list_published.ListPublishedPublished.superseders.Goals as goal

pub returns-clause-ascend : goal.returns-clause-ascend
returns-clause-ascend c =
    let inside = c.self.inside in
    let id = c.args.id.now in
    subst Ascend (sym (c.in_ok-listed_under.ensures ∙ c.self.invariant.index id)) (
    filtered_ascend (sup_names id) (values inside.sysmods) (records_ascend inside.sysmods.entries c.self.invariant.keyed c.self.invariant.ordered)
    )

pub returns-clause-each : goal.returns-clause-each
returns-clause-each c = superseder_is

pub returns-clause-catalogued : goal.returns-clause-catalogued
returns-clause-catalogued c = superseder_catalogued

pub returns-in_err-listed_under-clause-each : goal.returns-in_err-listed_under-clause-each
returns-in_err-listed_under-clause-each c = superseder_is

pub returns-in_err-listed_under-clause-catalogued : goal.returns-in_err-listed_under-clause-catalogued
returns-in_err-listed_under-clause-catalogued c = superseder_catalogued
