use Rattle.std.proofs.Common.{◌≡◌, ◌≢◌, ap, drop, take, sym, ◌∙◌, subst, subst₂}
use Rattle.std.specs.Prelude.{IfSome, slice_get}
use Rattle.std.specs.Cmp.Lexicographic.{slice_cmp}
use Rattle.std.specs.List.{All}
use Rattle.std.specs.Ordering.{nat_cmp}
use Rattle.std.specs.declared.cmp.Ordering.TheVariants.{Equal}
use Rattle.sql_reads.specs.Scans.{IsCut, key_at}
use Rattle.sql_reads.proofs.CutFacts.{cut_at}
use Rattle.sql_reads.proofs.cut.cut.Goals as goal

pub returns : goal.returns
returns c rises =
    let rows = c.args.rows.now in
    let place = c.args.place in
    let text = c.args.text.now in
    let n = c.front-lower.result in
    let m = c.front-count.result in
    let from : c.split_at.result.1.now ≡ drop n rows = c.split_at.ensures.back in
    subst₂ (IsCut place text rows) (sym (c.split_at-2.ensures.front ∙ ap (take m) from)) (sym (c.split_at-2.ensures.back ∙ ap (drop m) from))
    (cut_at place text rows n m rises c.front-lower.ensures.front c.front-lower.ensures.next
    (subst (λ xs. All (λ row. slice_cmp nat_cmp (key_at place row) text ≡ Equal) (take m xs)) from c.front-count.ensures.front)
    (subst (λ xs. IfSome (slice_get xs m) (λ row. slice_cmp nat_cmp (key_at place row) text ≢ Equal)) from c.front-count.ensures.next))
