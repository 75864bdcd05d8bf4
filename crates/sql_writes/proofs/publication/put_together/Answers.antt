use Rattle.std.proofs.Common.{◌≡◌, ◌+◌, List, ap, arith, get_or, subst, sym, true, ◌∙◌}
use Rattle.std.specs.Prelude.{fold, sum_by}
use Rattle.std.specs.List.{AllByRecursion, list_all}
use Rattle.std.proofs.lemmas.Bool.{and_parts}
use Rattle.catalogue.specs.declared.change.Change.{Change}
use Rattle.catalogue.specs.declared.change.Change.TheVariants.{OfHold}
use Rattle.sqlite.specs.Held.{state}
use Rattle.sqlite.specs.declared.error.Error.{Error}
use Rattle.sql_tables.specs.Changes.{published}
use Rattle.sql_tables.specs.Fit.{IsFitChange}
use Rattle.sql_tables.specs.Writing.{Changes}
use Rattle.sql_writes.specs.Records.{FreeIf, rest_count, rest_put}
use Rattle.sql_writes.specs.Room.{is_short_change, rows_of_change}
use Rattle.sql_writes.proofs.TakeFacts.{takes_as, takes_more}
use Rattle.sql_writes.proofs.TogetherFacts.{alone, apart_then, begins, so_many, some_together}
use Rattle.sql_writes.proofs.WhereFacts.{where_any}
use Rattle.sql_writes.proofs.publication.put_together.Goals as goal

pub put_records-requires-clause-first : goal.put_records-requires-clause-first
put_records-requires-clause-first g c =
    begins c.args.changes.now c.in-Whole.first (some_together c.args.changes.now c.requires.together) (subst (λ (one : Change). one ≡ get_or c.args.changes.now 0 one) c.in-Whole.is c.index-changes-0.is)

pub put_records-requires-clause-count : goal.put_records-requires-clause-count
put_records-requires-clause-count g c =
    so_many c.args.changes.now c.in-Whole.first (subst (λ (one : Change). one ≡ get_or c.args.changes.now 0 one) c.in-Whole.is c.index-changes-0.is) c.requires.together

pub put_records-requires-clause-apart : goal.put_records-requires-clause-apart
put_records-requires-clause-apart g c =
    apart_then c.args.changes.now c.in-Whole.first (subst (λ (one : Change). one ≡ get_or c.args.changes.now 0 one) c.in-Whole.is c.index-changes-0.is) c.requires.together

pub returns-in-OfHold-clause-changes : goal.returns-in-OfHold-clause-changes
returns-in-OfHold-clause-changes g c =
    let all = c.args.changes.now in
    let one = alone all c.in-OfHold.field-0 (subst (λ (first : Change). first ≡ get_or all 0 first) c.in-OfHold.is c.index-changes-0.is) c.requires.together in
    let given = c.index-changes-0-in-OfHold.result in
    let is_it : given ≡ OfHold c.in-OfHold.field-0 = c.index-changes-0-in-OfHold.is ∙ ap (λ (changes : List Change). get_or changes 0 given) one in
    where_any _ _ _ _ _
    (subst (λ (changes : List Change). Changes {Answer = Unit {0}} {Fault = Error} (state g.S.Store c.args.tx.now.conn.now) (state g.S.Store c.put_rest.new.tx.conn.now) c.put_rest.result (λ stored. fold published stored changes)) (sym one)
    (subst (λ (change : Change). Changes {Answer = Unit {0}} {Fault = Error} (state g.S.Store c.args.tx.now.conn.now) (state g.S.Store c.put_rest.new.tx.conn.now) c.put_rest.result (λ stored. rest_put stored change)) is_it c.put_rest.ensures.changes))

pub returns-in-OfHold-clause-takes : goal.returns-in-OfHold-clause-takes
returns-in-OfHold-clause-takes g c fits short =
    let all = c.args.changes.now in
    let one = alone all c.in-OfHold.field-0 (subst (λ (first : Change). first ≡ get_or all 0 first) c.in-OfHold.is c.index-changes-0.is) c.requires.together in
    let given = c.index-changes-0-in-OfHold.result in
    let is_it : given ≡ OfHold c.in-OfHold.field-0 = c.index-changes-0-in-OfHold.is ∙ ap (λ (changes : List Change). get_or changes 0 given) one in
    let known = subst (AllByRecursion IsFitChange) one fits in
    let small = subst (λ (changes : List Change). list_all is_short_change changes ≡ true) one short in
    let alone_so : rows_of_change (OfHold c.in-OfHold.field-0) ≡ 0 + rows_of_change (OfHold c.in-OfHold.field-0) = omega arith in
    takes_more _ _ _ (sum_by rows_of_change all) (sum_by rows_of_change all) (λ stored. Unit {0}) (FreeIf c.args.free all) (λ stored free. tt) (omega arith)
    (takes_as _ _ _ (λ stored. Unit {0}) (ap rest_count is_it ∙ alone_so ∙ sym (ap (sum_by rows_of_change) one))
    (c.put_rest.ensures.takes (subst IsFitChange (sym is_it) known.0) (subst (λ (change : Change). is_short_change change ≡ true) (sym is_it) (and_parts _ _ small).0)))
