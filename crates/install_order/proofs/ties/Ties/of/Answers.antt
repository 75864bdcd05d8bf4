use Rattle.std.proofs.Common.{Bool, List, subst}
use Rattle.requisites.specs.Sources.{AreLeastSources}
use Rattle.install_order.proofs.TieFacts.{are_tied}
use Rattle.install_order.proofs.ties.Ties.of.Goals as goal

pub returns : goal.returns
returns c =
    let within = c.in_ok-within.within in
    let back = c.in_ok-back.back in
    let from = c.in_ok-from.from.items in
    let to = c.in_ok-to.to.items in
    let D : List Bool → Type 0 = λ l. AreLeastSources within l from in
    let U : List Bool → Type 0 = λ l. AreLeastSources back l to in
    are_tied c.args.needs.now within back c.in_ok-names.names.firsts.items c.args.len from to
    c.in_ok-names.ensures c.in_ok-within.ensures c.in_ok-back.ensures
    (subst D c.deref-2.ensures.value c.in_ok-from.ensures.sources)
    (subst U c.deref-3.ensures.value c.in_ok-to.ensures.sources)
