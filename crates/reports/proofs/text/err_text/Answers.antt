use Rattle.std.proofs.Common.{◌≡◌, ◌+◌, ◌++◌, ◌∷◌, [], Some, map, take, ap, sym, ◌∙◌}
use Rattle.std.proofs.lemmas.List.{map-append, take_more}
use Rattle.columns.specs.Table.{table_with}
use Rattle.reports.specs.ReportText.{err_columns, err_fields}
use Rattle.reports.specs.declared.rows.ErrRow.{ErrRow}
use Rattle.reports.proofs.text.err_text.Goals as goal

pub loop-row-preserved : goal.loop-row-preserved
loop-row-preserved c =
    let rows = c.args.rows.now in
    let at = c.loop-row.row-index in
    let row = c.row-item.result in
    let next : take (at + 1) rows ≡ take at rows ++ row ∷ [] = take_more rows at row c.loop-row-test.true ∙ ap (λ (row : ErrRow). take at rows ++ row ∷ []) (sym c.row-item.is) in
    let more : map err_fields (take (at + 1) rows) ≡ map err_fields (take at rows) ++ err_fields row ∷ [] = ap (map err_fields) next ∙ map-append err_fields (take at rows) (row ∷ []) in
    c.in_ok-push.ensures.rows err_columns (Some c.in_ok-title.title.items) (map err_fields (take at rows)) c.loop-row.invariant
    ∙ ap (λ fields. table_with err_columns (Some c.in_ok-title.title.items) (map err_fields (take at rows) ++ fields ∷ [])) c.err_fields_of.ensures
    ∙ ap (table_with err_columns (Some c.in_ok-title.title.items)) (sym more)
