use Rattle.std.proofs.Common.{◌∙◌}
use Rattle.sqlite.specs.Held.{state}
use Rattle.sql_reads.proofs.HeldFacts.{held_nowhere, held_there, none_ordered}
use Rattle.sql_reads.proofs.TableFacts.{finds_so, then_finds}
use Rattle.sql_reads.proofs.joins.held_in.Goals as goal

pub returns-clause-finds : goal.returns-clause-finds
returns-clause-finds g c =
    then_finds (state g.S.Store c.args.conn.now) (state g.S.Store c.has_zone.new.conn) (state g.S.Store c.held_among.new.conn) c.in_ok-has_zone.field-0 c.held_among.result _ _ _
    c.in_ok-has_zone.ensures.finds c.held_among.ensures.finds (λ stored holds found. held_there stored c.args.client.now c.args.zone.now c.args.kind c.in_ok-has_zone.field-0 holds.items found c.if-not-branch.false)

pub returns-then-not-branch-clause-finds : goal.returns-then-not-branch-clause-finds
returns-then-not-branch-clause-finds g c =
    finds_so (state g.S.Store c.args.conn.now) (state g.S.Store c.has_zone.new.conn) c.in_ok-has_zone.field-0 c.new.result _ _ c.in_ok-has_zone.ensures.finds
    (λ stored found. c.new.ensures.items ∙ held_nowhere stored c.args.client.now c.args.zone.now c.args.kind c.in_ok-has_zone.field-0 found c.if-not-branch.true)

pub returns-then-not-branch-clause-in_key_order : goal.returns-then-not-branch-clause-in_key_order
returns-then-not-branch-clause-in_key_order g c = none_ordered c.new.result.items c.new.ensures.items
