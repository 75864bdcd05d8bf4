use Rattle.std.proofs.Common.{◌∙◌, ◌==◌, ◌&&◌, Bool, ap, filter, sym, subst}
use Rattle.std.proofs.lemmas.List.{take_all}
use Rattle.holddata.specs.HoldBook.{IsInKeyOrder}
use Rattle.holddata.specs.HoldKey.{kind_order}
use Rattle.holddata.specs.declared.hold.Hold.{Hold}
use Rattle.catalogue.proofs.BookFacts.{filtered_in_order}
use Rattle.zone_lists.specs.Installed.{is_installed}
use Rattle.bureau_sql.proofs.held.held_among.Goals as goal

pub returns-clause-in_key_order : goal.returns-clause-in_key_order
returns-clause-in_key_order c =
    let is_held : Hold → Bool = λ hold. is_installed c.args.zone.now hold.key.sysmod && (kind_order hold.key.kind == kind_order c.args.kind) in
    subst IsInKeyOrder (sym (c.loop-hold.invariant ∙ ap (filter is_held) (take_all c.loop-hold.hold-index c.args.book.now c.loop-hold-test.false)))
    (filtered_in_order is_held c.args.book.now c.requires)
