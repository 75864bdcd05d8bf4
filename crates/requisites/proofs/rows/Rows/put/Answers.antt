use Rattle.std.proofs.Common.{◌≡◌, ◌∙◌, ◌+◌, ◌<◌, ℕ, List, ap, length, set, arith}
use Rattle.requisites.specs.Rows.{rows_from, start_at}
use Rattle.requisites.proofs.RowsFacts.{node_within, place_within, rows_put}
use Rattle.requisites.proofs.rows.Rows.put.Goals as goal

pub start_of-start-requires : goal.start_of-start-requires
start_of-start-requires c =
    omega (
      arith,
      ap length c.deref.ensures.value,
      node_within c.self.inside.entries.items c.self.inside.ends.items c.args.self.now c.args.node c.args.at c.self.invariant c.self.view_is c.requires.node c.requires.at,
    )

starts : (c : goal.After-index_mut-arg-1) → c.start_of-start.result ≡ start_at 0 c.self.inside.ends.items c.args.node
starts c = c.start_of-start.ensures ∙ ap (λ (ends : List ℕ). start_at 0 ends c.args.node) c.deref.ensures.value

within : (c : goal.After-index_mut-arg-1) → c.start_of-start.result + c.args.at < length c.self.inside.entries.items
within c =
    omega (
      arith,
      starts c,
      place_within c.self.inside.entries.items c.self.inside.ends.items c.args.self.now c.args.node c.args.at c.self.invariant c.self.view_is c.requires.node c.requires.at,
    )

pub overflow_add-start : goal.overflow_add-start
overflow_add-start c = omega (arith, within c)

pub index_mut-requires : goal.index_mut-requires
index_mut-requires c = omega (arith, within c)

pub returns : goal.returns
returns c =
    ap (λ (k : ℕ). rows_from (set c.self.inside.entries.items (k + c.args.at) c.args.entry) 0 c.self.inside.ends.items)
    (c.start_of-start.ensures ∙ ap (λ (ends : List ℕ). start_at 0 ends c.args.node) c.deref.ensures.value)
    ∙ rows_put c.self.inside.entries.items c.self.inside.ends.items c.args.self.now c.args.node c.args.at c.self.invariant c.self.view_is c.requires.node c.requires.at c.args.entry
