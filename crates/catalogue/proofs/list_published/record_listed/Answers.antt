use Rattle.std.proofs.Common.{sym, ◌∙◌, ap}
use Rattle.std.specs.Prelude.{Option, Some}
use Rattle.catalogue.specs.declared.sysmod.Sysmod.{Sysmod}
use Rattle.catalogue.proofs.EntryFacts.{found_is}
use Rattle.catalogue.proofs.list_published.record_listed.Goals as goal

pub returns-in_ok-copy-in-Some : goal.returns-in_ok-copy-in-Some
returns-in_ok-copy-in-Some c =
    let some : Sysmod → Option Sysmod = λ sysmod. Some sysmod in
    ap some c.in_ok-copy-in-Some.ensures ∙ c.in-Some.ensures.value ∙ sym (found_is c.args.sysmods.now.entries c.args.id.now c.requires)

pub returns-in-None : goal.returns-in-None
returns-in-None c = c.in-None.ensures.value ∙ sym (found_is c.args.sysmods.now.entries c.args.id.now c.requires)
