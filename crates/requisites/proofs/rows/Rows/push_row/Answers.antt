use Rattle.std.proofs.Common.{◌∙◌, ◌++◌, ◌∷◌, [], ap, arith, length, length-append, List, ℕ}
use Rattle.requisites.proofs.RowsFacts.{ends_pushed, rows_pushed}
use Rattle.requisites.proofs.rows.Rows.push_row.Goals as goal

pub invariant_of-self-2 : goal.invariant_of-self-2
invariant_of-self-2 c =
    ends_pushed c.self.inside.entries.items c.args.row.now c.self.inside.ends.items c.extend_from_slice.new.self.items c.push.new.self.items c.in_ok-end.end
    c.self.invariant c.in_ok-extend_from_slice.ensures.items (omega (arith, c.in_ok-end.ensures, ap length c.deref.ensures.value, ap length c.in_ok-extend_from_slice.ensures.items, length-append c.self.inside.entries.items c.args.row.now))
    (c.in-Ok.ensures.items ∙ ap (λ (l : List ℕ). l ++ c.in_ok-end.end ∷ []) c.in_ok-reserve.ensures.items)

pub returns-clause-rows : goal.returns-clause-rows
returns-clause-rows c =
    rows_pushed c.self.inside.entries.items c.args.row.now c.self.inside.ends.items c.extend_from_slice.new.self.items c.push.new.self.items c.in_ok-end.end c.args.self.now
    c.self.invariant c.self.view_is c.in_ok-extend_from_slice.ensures.items (omega (arith, c.in_ok-end.ensures, ap length c.deref.ensures.value, ap length c.in_ok-extend_from_slice.ensures.items, length-append c.self.inside.entries.items c.args.row.now))
    (c.in-Ok.ensures.items ∙ ap (λ (l : List ℕ). l ++ c.in_ok-end.end ∷ []) c.in_ok-reserve.ensures.items)
