use Rattle.std.proofs.Common.{◌≡◌, ◌+◌, ◌++◌, ◌∷◌, [], ℕ, List, None, map, take, ap, sym, ◌∙◌, rules}
use Rattle.std.proofs.lemmas.List.{map-append, take_more}
use Rattle.columns.specs.Table.{table_with}
use Rattle.bureau.specs.Texts.{zone_columns, zone_fields}
use Rattle.bureau.proofs.texts.zones_table.Goals as goal

pub loop-zone-preserved : goal.loop-zone-preserved
loop-zone-preserved c =
    let zones = c.args.zones.now in
    let at = c.loop-zone.zone-index in
    let zone = c.zone-item.result in
    let next : take (at + 1) zones ≡ take at zones ++ zone ∷ [] = take_more zones at zone c.loop-zone-test.true ∙ ap (λ (zone : List ℕ × ℕ). take at zones ++ zone ∷ []) (sym c.zone-item.is) in
    let more : map zone_fields (take (at + 1) zones) ≡ map zone_fields (take at zones) ++ zone_fields zone ∷ [] = ap (map zone_fields) next ∙ map-append zone_fields (take at zones) (zone ∷ []) in
    let fields_are : c.as_bytes.result.now ∷ c.as_bytes-in-loop-zone.result.now ∷ [] ≡ zone_fields zone = search rules in
    c.in_ok-push.ensures.rows zone_columns None (map zone_fields (take at zones)) c.loop-zone.invariant
    ∙ ap (λ fields. table_with zone_columns None (map zone_fields (take at zones) ++ fields ∷ [])) fields_are
    ∙ ap (table_with zone_columns None) (sym more)
