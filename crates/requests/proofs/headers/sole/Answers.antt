use Rattle.std.proofs.Common.{[], length, sym, ◌∙◌}
use Rattle.std.proofs.lemmas.List.Elements.{All-get_or}
use Rattle.httparse.specs.Spans.{span_bytes, IsHeaderWithin}
use Rattle.requests.proofs.HeaderFacts.{values_kept, values_grown, not_sole, shown_is_some, shown_none}
use Rattle.requests.proofs.headers.sole.Goals as goal
use Rattle.requests.proofs.headers.sole.Goals.{then-is_named+else-is_some, else-is_named}

pub returns-then-is_some-clause-value : goal.returns-then-is_some-clause-value
returns-then-is_some-clause-value c =
    let there = shown_is_some (span_bytes c.args.bytes.now) c.loop-field.found (sym c.is_some.ensures ∙ c.if-is_some.true) in
    sym (not_sole _ _ _ _ _ _ c.loop-field-test.true (sym c.is_named.ensures ∙ c.if-is_named.true) c.loop-field.invariant.all there)

pub loop-field-preserved : goal.loop-field-preserved
loop-field-preserved c = elim c.if-is_named.branch [
  | then-is_named+else-is_some w ↦
      let none = shown_none (span_bytes c.args.bytes.now) c.loop-field.found (sym w.is_some.ensures ∙ w.if-is_some.false) in
      record {
        all = rw w.found-is (values_grown _ _ _ _ _ [] c.loop-field-test.true (sym c.is_named.ensures ∙ w.if-is_named.true) (sym none ∙ c.loop-field.invariant.all));
        within = rw w.found-is (All-get_or (IsHeaderWithin (length c.args.bytes.now)) _ _ _ c.loop-field-test.true c.requires).1;
      }
  | else-is_named w ↦ record {
    all = rw w.found-is (values_kept _ _ _ _ _ _ c.loop-field-test.true (sym c.is_named.ensures ∙ w.if-is_named.false) c.loop-field.invariant.all);
    within = rw w.found-is c.loop-field.invariant.within;
  }
]
