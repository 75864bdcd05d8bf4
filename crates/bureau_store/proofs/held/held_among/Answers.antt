use Rattle.std.proofs.Common.{◌≡◌, ◌==◌, ◌&&◌, filter, rules, sym, subst}
use Rattle.holddata.specs.HoldBook.{IsInKeyOrder}
use Rattle.holddata.specs.HoldKey.{kind_order}
use Rattle.catalogue.proofs.BookFacts.{filtered_in_order}
use Rattle.zone_lists.specs.Installed.{is_installed}
use Rattle.bureau_store.proofs.held.held_among.Goals as goal

pub returns-clause-in_key_order : goal.returns-clause-in_key_order
returns-clause-in_key_order c =
    let same : c.loop-hold.held.items ≡ filter (λ hold. is_installed c.args.rows.now hold.key.sysmod && (kind_order hold.key.kind == kind_order c.args.kind)) c.args.book.now = search rules in
    subst IsInKeyOrder (sym same) (filtered_in_order _ c.args.book.now c.iter-hold-items.ensures.in_key_order)
