use Rattle.std.proofs.Common.{◌≡◌, ap, refl, subst, sym}
use Rattle.bureau_store.specs.Lists.{IsOurs, tables_of}
use Rattle.bureau_http.proofs.ReplayFacts.{from_store, untold}
use Rattle.bureau_http.proofs.replaying.serve_store.Goals as goal

pub returns-in-Ok-clause-served : goal.returns-in-Ok-clause-served
returns-in-Ok-clause-served g c = λ rights.
    let store = c.new-bureau.result.store in
    let same : store ≡ c.args.store = ap (λ parts. parts.store) c.new-bureau.ensures in
    let judge = sym (ap (λ parts. parts.judge) c.new-bureau.ensures) in
    let right = subst (λ at. g.J.Judge.is_right at (tables_of store).content) judge (rights (tables_of store).content) in
    let served = c.in-Ok.ensures.served.told (subst IsOurs (sym same) c.requires) tt (tables_of store) (refl, right) in
    from_store _ _ _ _ same (untold _ (λ this next calls run. run.run) _ _ _ served)
