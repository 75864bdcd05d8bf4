use Rattle.std.proofs.Common.{◌≡◌, ◌∙◌, ◌++◌, ◌∷◌, [], List, ℕ, length, sym, subst, arith}
use Rattle.std.specs.Global.{Vec}
use Rattle.mcs_reader.specs.declared.id.Id.{Id}
use Rattle.verdicts.specs.Indices.{AreIndicesOf, RowsAre}
use Rattle.verdicts.proofs.IndexFacts.{rows_more}
use Rattle.zone_plans.specs.Graphs.{list_at, lists_of}
use Rattle.zone_plans.proofs.GraphFacts.{list_of_item}
use Rattle.zone_plans.proofs.graph.member_rows.Goals as goal

pub loop-list-preserved : goal.loop-list-preserved
loop-list-preserved c =
    let ids = c.args.ids.now in
    let lists = c.args.lists.now in
    let i = c.loop-list.list-index in
    let P : List (List ℕ) → Type 0 = λ l. AreIndicesOf ids l c.put_indices.new.indices.items in
    let Q : List ℕ → Type 0 = λ l. c.push_row.new.self ≡ c.loop-list.rows ++ l ∷ [] in
    rows_more (λ p indices. AreIndicesOf ids (list_at (lists_of lists) p) indices) i c.loop-list.rows c.push_row.new.self c.put_indices.new.indices.items c.loop-list.invariant
    (subst P (c.deref.ensures.value ∙ sym (list_of_item (λ (l : Vec Id). l.items) lists i c.list-item.result c.loop-list-test.true c.list-item.is)) c.in_ok-put_indices.ensures)
    (subst Q c.deref-in-loop-list.ensures.value c.in_ok-push_row.ensures.rows)

pub returns : goal.returns
returns c =
    let P : ℕ → Type 0 = λ n. RowsAre (λ p indices. AreIndicesOf c.args.ids.now (list_at (lists_of c.args.lists.now) p) indices) n c.loop-list.rows in
    let e : c.loop-list.list-index ≡ length c.args.lists.now = omega arith in
    subst P e c.loop-list.invariant
