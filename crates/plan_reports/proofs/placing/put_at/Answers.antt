use Rattle.std.proofs.Common.{◌∙◌, ℕ, List, [], set, sym, ap}
use Rattle.std.specs.Global.{Vec}
use Rattle.std.proofs.lemmas.List.{get_or-map, map-set}
use Rattle.plan_reports.specs.Found.{places_of, with_once}
use Rattle.plan_reports.proofs.placing.put_at.Goals as goal

pub returns-clause-put : goal.returns-clause-put
returns-clause-put c =
    let items : Vec ℕ → List ℕ = λ list. list.items in
    let rows = c.args.rows.now in
    map-set items rows c.args.index c.put_once.new.places
    ∙ ap (λ l. set (places_of rows) c.args.index l) (c.in_ok-put_once.ensures ∙ ap (λ l. with_once l c.args.place) (sym (get_or-map items rows c.args.index c.index-rows-index.result [] c.requires)))
