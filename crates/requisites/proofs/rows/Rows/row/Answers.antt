use Rattle.std.proofs.Common.{◌≡◌, ◌∙◌, ap, length, get_or, arith, ℕ, List}
use Rattle.std.specs.List.{slice_range}
use Rattle.requisites.specs.Rows.{start_at}
use Rattle.requisites.proofs.RowsFacts.{ends_at, row_is, row_past}
use Rattle.requisites.proofs.rows.Rows.row.Goals as goal

pub returns-then-node-len : goal.returns-then-node-len
returns-then-node-len c =
    row_past c.self.inside.entries.items c.self.inside.ends.items c.args.self.now c.args.node c.self.view_is (omega arith)

starts : (c : goal.After-deref-3) → c.start_of-start.result ≡ start_at 0 c.self.inside.ends.items c.args.node
starts c = c.start_of-start.ensures ∙ ap (λ (ends : List ℕ). start_at 0 ends c.args.node) c.deref.ensures.value

stops : (c : goal.After-deref-3) → c.end_of-end.result ≡ get_or c.self.inside.ends.items c.args.node 0
stops c = c.end_of-end.ensures ∙ ap (λ (ends : List ℕ). get_or ends c.args.node 0) c.deref-2.ensures.value

pub between-requires-clause-start : goal.between-requires-clause-start
between-requires-clause-start c =
    let at = ends_at 0 c.self.inside.ends.items (length c.self.inside.entries.items) c.args.node c.self.invariant (omega arith) in
    omega (arith, at.0, starts c, stops c)

pub between-requires-clause-end : goal.between-requires-clause-end
between-requires-clause-end c =
    let at = ends_at 0 c.self.inside.ends.items (length c.self.inside.entries.items) c.args.node c.self.invariant (omega arith) in
    omega (arith, at.1, stops c, c.deref-3.ensures.len)

pub returns : goal.returns
returns c =
    row_is c.self.inside.entries.items c.self.inside.ends.items c.args.self.now c.between.result.now c.args.node c.start_of-start.result c.end_of-end.result
    c.self.view_is (omega arith)
    (c.start_of-start.ensures ∙ ap (λ (ends : List ℕ). start_at 0 ends c.args.node) c.deref.ensures.value)
    (c.end_of-end.ensures ∙ ap (λ (ends : List ℕ). get_or ends c.args.node 0) c.deref-2.ensures.value)
    (c.between.ensures ∙ ap (λ (entries : List ℕ). slice_range entries c.start_of-start.result c.end_of-end.result) c.deref-3.ensures.value)
