use Rattle.std.proofs.Common.{◌∙◌, [], refl}
use Rattle.supersede.specs.Reach.{has}
use Rattle.plan_reports.specs.Found.{places_of}
use Rattle.plan_reports.proofs.PlaceFacts.{put_id_more, put_none}
use Rattle.plan_reports.proofs.placing.put_all.Goals as goal

pub loop-id-init : goal.loop-id-init
loop-id-init c = record { put = put_none (has []) c.args.ids.now c.args.place (places_of c.args.rows.now) (λ id. refl); len = refl }

pub loop-id-preserved : goal.loop-id-preserved
loop-id-preserved c = record {
  put = put_id_more c.args.list.now c.args.ids.now c.loop-id.id-index c.id-item.result c.args.place (places_of c.args.rows.now) (places_of c.loop-id.rows) (places_of c.put_one.new.rows)
      c.loop-id-test.true c.id-item.is c.loop-id.invariant.put c.in_ok-put_one.ensures.put;
  len = c.in_ok-put_one.ensures.len ∙ c.loop-id.invariant.len;
}
