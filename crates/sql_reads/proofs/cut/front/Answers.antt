use Rattle.std.proofs.Common.{◌≡◌, ◌≢◌, ap, sym, subst, ◌+◌, get_or, arith, ◌∙◌}
use Rattle.std.specs.Prelude.{IfSome}
use Rattle.std.specs.Cmp.Lexicographic.{slice_cmp}
use Rattle.std.specs.Ordering.{nat_cmp}
use Rattle.std.proofs.lemmas.Option.{slice_get_past}
use Rattle.sql_reads.specs.Scans.{key_at}
use Rattle.sql_reads.proofs.CutFacts.{all_more}
use Rattle.sql_reads.proofs.cut.front.Goals as goal

pub loop-row-preserved : goal.loop-row-preserved
loop-row-preserved c = record {
  counted = ap (λ n. n + 1) c.loop-row.invariant.counted;
  so_far = all_more (λ row. slice_cmp nat_cmp (key_at c.args.place row) c.args.text.now ≡ c.args.wanted) c.args.rows.now c.loop-row.count c.row-item.result
      (omega (arith, c.loop-row-test.true, c.loop-row.invariant.counted)) (ap (λ n. get_or c.args.rows.now n c.row-item.result) c.loop-row.invariant.counted ∙ sym c.row-item.is)
      c.loop-row.invariant.so_far (c.stands.ensures.0 c.if-not-stands.false);
}

pub returns-clause-next : goal.returns-clause-next
returns-clause-next c =
    subst (λ found. IfSome found (λ row. slice_cmp nat_cmp (key_at c.args.place row) c.args.text.now ≢ c.args.wanted))
    (sym (slice_get_past c.args.rows.now c.loop-row.count (omega (arith, c.loop-row-test.false, c.loop-row.invariant.counted)))) tt
