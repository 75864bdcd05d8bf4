use Rattle.std.proofs.Common.{refl, sym, ◌∙◌}
use Rattle.flat_content.specs.Spans.{Keeps}
use Rattle.flat_content.proofs.HeadFacts.{keeps_on, moved}
use Rattle.flat_content.proofs.records.head_of.Goals as goal

pub returns-clause-keeps : goal.returns-clause-keeps
returns-clause-keeps c = λ span within.
    let first = c.in_ok-fmids.ensures.keeps span within in
    let second = c.in_ok-pre.ensures.keeps span first.0 in
    let third = c.in_ok-req.ensures.keeps span second.0 in
    let last = c.in_ok-sup.ensures.keeps span third.0 in
    (last.0, last.1 ∙ third.1 ∙ second.1 ∙ first.1)

pub returns-clause-is_head : goal.returns-clause-is_head
returns-clause-is_head c =
    let from_third : Keeps c.put-3.new.names.items c.put-4.new.names.items = c.in_ok-sup.ensures.keeps in
    let from_second : Keeps c.put-2.new.names.items c.put-4.new.names.items = keeps_on _ _ _ c.in_ok-req.ensures.keeps from_third in
    let from_first : Keeps c.put.new.names.items c.put-4.new.names.items = keeps_on _ _ _ c.in_ok-pre.ensures.keeps from_second in
    record {
      fmids = (moved _ _ c.in_ok-fmids.fmids c.in_ok-fmids.fmids.start from_first refl c.in_ok-fmids.ensures.is_ids).0;
      pre = (moved _ _ c.in_ok-pre.pre c.in_ok-fmids.fmids.end from_second (c.in_ok-fmids.ensures.end ∙ sym c.in_ok-pre.ensures.start) c.in_ok-pre.ensures.is_ids).0;
      req = (moved _ _ c.in_ok-req.req c.in_ok-pre.pre.end from_third (c.in_ok-pre.ensures.end ∙ sym c.in_ok-req.ensures.start) c.in_ok-req.ensures.is_ids).0;
      conds = c.in_ok-conds.ensures.are_conds;
      sup = (moved _ c.put-4.new.names.items c.in_ok-sup.sup c.in_ok-req.req.end (λ span within. (within, refl)) (c.in_ok-req.ensures.end ∙ sym c.in_ok-sup.ensures.start) c.in_ok-sup.ensures.is_ids).0;
    }

pub returns-clause-record : goal.returns-clause-record
returns-clause-record c =
    let from_third : Keeps c.put-3.new.names.items c.put-4.new.names.items = c.in_ok-sup.ensures.keeps in
    let from_second : Keeps c.put-2.new.names.items c.put-4.new.names.items = keeps_on _ _ _ c.in_ok-req.ensures.keeps from_third in
    let from_first : Keeps c.put.new.names.items c.put-4.new.names.items = keeps_on _ _ _ c.in_ok-pre.ensures.keeps from_second in
    let fmids = (moved _ _ c.in_ok-fmids.fmids c.in_ok-fmids.fmids.start from_first refl c.in_ok-fmids.ensures.is_ids).1 ∙ c.in_ok-fmids.ensures.ids in
    let pre = (moved _ _ c.in_ok-pre.pre c.in_ok-fmids.fmids.end from_second (c.in_ok-fmids.ensures.end ∙ sym c.in_ok-pre.ensures.start) c.in_ok-pre.ensures.is_ids).1 ∙ c.in_ok-pre.ensures.ids in
    let req = (moved _ _ c.in_ok-req.req c.in_ok-pre.pre.end from_third (c.in_ok-pre.ensures.end ∙ sym c.in_ok-req.ensures.start) c.in_ok-req.ensures.is_ids).1 ∙ c.in_ok-req.ensures.ids in
    let sup = (moved _ c.put-4.new.names.items c.in_ok-sup.sup c.in_ok-req.req.end (λ span within. (within, refl)) (c.in_ok-req.ensures.end ∙ sym c.in_ok-sup.ensures.start) c.in_ok-sup.ensures.is_ids).1 ∙ c.in_ok-sup.ensures.ids in
    let conds = c.in_ok-conds.ensures.conds in
    cc
