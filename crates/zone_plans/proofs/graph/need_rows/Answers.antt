use Rattle.std.proofs.Common.{◌≡◌, ◌∙◌, ◌++◌, ◌∷◌, [], List, ℕ, length, sym, subst, arith}
use Rattle.verdicts.specs.Indices.{RowsAre}
use Rattle.verdicts.proofs.IndexFacts.{rows_more, rows_none}
use Rattle.std.specs.List.{Contains}
use Rattle.zone_plans.specs.Graphs.{AreGivenIndices, needs_at}
use Rattle.zone_plans.specs.Readings.{ReadingLists}
use Rattle.zone_plans.proofs.GraphFacts.{list_of_item, need_asked}
use Rattle.zone_plans.proofs.graph.need_rows.Goals as goal

pub loop-reading-init : goal.loop-reading-init
loop-reading-init c = λ f are asked. rows_none (λ p indices. AreGivenIndices f c.args.ids.now c.args.left.now (needs_at c.args.readings.now p) indices) c.new-rows.result c.new-rows.ensures

pub loop-reading-preserved : goal.loop-reading-preserved
loop-reading-preserved c = λ f are asked.
    let ids = c.args.ids.now in
    let left = c.args.left.now in
    let readings = c.args.readings.now in
    let i = c.loop-reading.reading-index in
    let reading = c.reading-item.result in
    let P : List (List ℕ) → Type 0 = λ l. AreGivenIndices f ids left l c.put_given.new.indices.items in
    let Q : List ℕ → Type 0 = λ l. c.push_row.new.self ≡ c.loop-reading.rows ++ l ∷ [] in
    let own = c.in_ok-put_given.ensures f are (λ need inside.
    let N : List (List ℕ) → Type 0 = λ l. Contains l need in
    need_asked readings c.args.asked.now i reading need asked c.loop-reading-test.true c.reading-item.is (subst N c.needs.ensures inside)) in
    rows_more (λ p indices. AreGivenIndices f ids left (needs_at readings p) indices) i c.loop-reading.rows c.push_row.new.self c.put_given.new.indices.items (c.loop-reading.invariant f are asked)
    (subst P (c.needs.ensures ∙ sym (list_of_item (λ (r : ReadingLists). r.needs) readings i reading c.loop-reading-test.true c.reading-item.is)) own)
    (subst Q c.deref.ensures.value c.in_ok-push_row.ensures.rows)

pub returns : goal.returns
returns c = λ f are asked.
    let P : ℕ → Type 0 = λ n. RowsAre (λ p indices. AreGivenIndices f c.args.ids.now c.args.left.now (needs_at c.args.readings.now p) indices) n c.loop-reading.rows in
    let e : c.loop-reading.reading-index ≡ length c.args.readings.now = omega arith in
    subst P e (c.loop-reading.invariant f are asked)
