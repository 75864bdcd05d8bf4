use Rattle.std.proofs.Common.{◌∙◌, ℕ, List}
use Rattle.std.specs.Global.{Vec}
use Rattle.std.proofs.lemmas.List.{length-map}
use Rattle.plan_reports.specs.Found.{places_of}
use Rattle.plan_reports.proofs.PlaceFacts.{put_absent, put_at}
use Rattle.plan_reports.proofs.placing.put_one.Goals as goal

pub returns-in_ok-put_at-clause-put : goal.returns-in_ok-put_at-clause-put
returns-in_ok-put_at-clause-put c =
    let items : Vec ℕ → List ℕ = λ list. list.items in
    put_at c.args.ids.now c.args.id.now c.in-Some.index c.args.place (places_of c.args.rows.now) (places_of c.put_at.new.rows) c.requires.ascend c.in-Some.ensures.some
    (length-map c.args.rows.now items ∙ c.requires.len) c.in_ok-put_at.ensures.put

pub returns-in_default-clause-put : goal.returns-in_default-clause-put
returns-in_default-clause-put c = put_absent c.args.ids.now c.args.id.now c.args.place (places_of c.args.rows.now) c.in_default.ensures.none
