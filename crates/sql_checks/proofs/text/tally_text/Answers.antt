use Rattle.std.proofs.Common.{◌≡◌, ◌+◌, ◌++◌, ◌∷◌, ◌∙◌, [], Some, ap, map, sym, take}
use Rattle.std.proofs.lemmas.List.{map-append, take_more}
use Rattle.columns.specs.Table.{table_with}
use Rattle.sql_checks.specs.Tally.{tally_columns, tally_fields}
use Rattle.sql_checks.specs.declared.tallies.CallerLine.{CallerLine}
use Rattle.sql_checks.proofs.text.tally_text.Goals as goal

pub loop-line-preserved : goal.loop-line-preserved
loop-line-preserved c =
    let lines = c.as_slice-lines.result.now in
    let at = c.loop-line.line-index in
    let line = c.line-item.result in
    let next : take (at + 1) lines ≡ take at lines ++ line ∷ [] = take_more lines at line c.loop-line-test.true ∙ ap (λ (one : CallerLine). take at lines ++ one ∷ []) (sym c.line-item.is) in
    let more : map tally_fields (take (at + 1) lines) ≡ map tally_fields (take at lines) ++ tally_fields line ∷ [] = ap (map tally_fields) next ∙ map-append tally_fields (take at lines) (line ∷ []) in
    c.in_ok-push_line.ensures tally_columns (Some c.in_ok-title.title.items) (map tally_fields (take at lines)) c.loop-line.invariant
    ∙ ap (table_with tally_columns (Some c.in_ok-title.title.items)) (sym more)
