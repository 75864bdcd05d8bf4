use Rattle.std.proofs.Common.{sym, subst}
use Rattle.catalogue.specs.ListPublished.{IsKeyed}
use Rattle.catalogue.proofs.EntryFacts.{keyed_insert, found_changed}
use Rattle.catalogue.proofs.list_published.put.Goals as goal

pub returns-clause-keyed : goal.returns-clause-keyed
returns-clause-keyed c = subst IsKeyed (sym c.in_ok-insert.ensures.entries) (keyed_insert c.args.sysmods.now.entries c.args.sysmod c.requires)

pub returns-clause-found : goal.returns-clause-found
returns-clause-found c =
    found_changed c.args.sysmods.now c.insert.new.self c.args.sysmod c.requires
    (subst IsKeyed (sym c.in_ok-insert.ensures.entries) (keyed_insert c.args.sysmods.now.entries c.args.sysmod c.requires))
    c.in_ok-insert.ensures.updates.0
