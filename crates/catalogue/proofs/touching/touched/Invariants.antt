use Rattle.std.proofs.Common.{◌≡◌, take}
use Rattle.std.specs.List.{flat_map}
use Rattle.catalogue.specs.Ids.{in_order}
use Rattle.catalogue.specs.View.{IsOpen, Tells}
use Rattle.catalogue.specs.Touched.{touched_by}
use Rattle.catalogue.proofs.touching.touched.Given as goal

abbrev pub invariant-loop-change : goal.invariant-loop-change
invariant-loop-change g l =
    let source = g.P.Published in
    record {
      keeps : source.content_view.keeps l.fn.source l.source;
      still_open : IsOpen source.content_view l.fn.source → IsOpen source.content_view l.source;
      told : Tells source.content_view l.fn.source l.source
          (λ content. l.ids.keys ≡ in_order (flat_map (touched_by content) (take l.change-index l.changes)));
    }
