use Rattle.std.proofs.Common.{◌+◌, length, refl, sym, ap, ◌∙◌, arith}
use Rattle.requisites.proofs.SourceFacts.{sources_begin, sources_more, sources_skip, sources_kept, all_below}
use Rattle.requisites.proofs.sources.spread_all.Goals as goal
use Rattle.requisites.proofs.sources.spread_all.Goals.{then-is_marked+in_ok-spread, else-is_marked}

pub loop-start-init : goal.loop-start-init
loop-start-init c = (sources_begin c.args.lists.now c.args.marks.now (length c.args.marks.now) c.args.sources.now c.requires.len c.requires.none, c.new-work.ensures.items)

pub loop-start-preserved : goal.loop-start-preserved
loop-start-preserved c =
    let n = length c.args.marks.now in
    let p = c.loop-start.start in
    elim c.if-is_marked.branch [
      | then-is_marked+in_ok-spread w ↦
          sources_kept c.args.lists.now c.args.marks.now n (p + 1) w.spread.new.sources c.if-is_marked.sources w.spread.new.work.items c.if-is_marked.work.items
          w.sources-is (ap (λ v. v.items) w.work-is)
          (sources_more c.args.lists.now c.args.marks.now n p c.loop-start.sources w.spread.new.sources c.loop-start.invariant.0 (omega arith) (record { is = sym c.is_marked.ensures ∙ w.if-is_marked.true }) w.in_ok-spread.ensures.spread w.in_ok-spread.ensures.closed)
          w.in_ok-spread.ensures.idle
      | else-is_marked w ↦
          sources_kept c.args.lists.now c.args.marks.now n (p + 1) c.loop-start.sources c.if-is_marked.sources c.loop-start.work.items c.if-is_marked.work.items
          w.sources-is (ap (λ v. v.items) w.work-is)
          (sources_skip c.args.lists.now c.args.marks.now n p c.loop-start.sources c.loop-start.invariant.0 (sym c.is_marked.ensures ∙ w.if-is_marked.false))
          c.loop-start.invariant.1
    ]

pub returns : goal.returns
returns c = all_below c.args.lists.now c.args.marks.now (length c.args.marks.now) c.loop-start.start c.loop-start.sources c.loop-start.invariant.0 refl (omega arith)
