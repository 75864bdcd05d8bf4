use Rattle.std.proofs.Common.{rules, sym, ◌∙◌, ap, subst}
use Rattle.std.specs.Prelude.{find}
use Rattle.std.proofs.lemmas.Fn.{dedup_same}
use Rattle.std.proofs.lemmas.List.Kept.{Contains-from_dedup}
use Rattle.flat_content.specs.Records.{HeadsAscend, is_head_of}
use Rattle.flat_content.proofs.OrderFacts.{kept_ascend, kept_first, same_head}
use Rattle.flat_content.proofs.heads.keep_first.Goals as goal

pub returns-clause-ascend : goal.returns-clause-ascend
returns-clause-ascend c =
    let is = dedup_same _ same_head _ (λ x y b f' x' y' k. search rules) _ _ c.dedup_by_key.ensures.filtered in
    subst HeadsAscend (sym is) (kept_ascend c.args.heads.now.items c.requires)

pub returns-clause-first : goal.returns-clause-first
returns-clause-first c = λ id.
    let is = dedup_same _ same_head _ (λ x y b f' x' y' k. search rules) _ _ c.dedup_by_key.ensures.filtered in
    ap (find (is_head_of id)) is ∙ kept_first c.args.heads.now.items id

pub returns-clause-kept : goal.returns-clause-kept
returns-clause-kept c = λ head has.
    let is = dedup_same _ same_head _ (λ x y b f' x' y' k. search rules) _ _ c.dedup_by_key.ensures.filtered in
    Contains-from_dedup same_head c.args.heads.now.items head (rw is at has)
