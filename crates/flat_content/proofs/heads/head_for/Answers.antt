use Rattle.std.proofs.Common.{◌≡◌, Some, get_or, rules, of_calls, length, sym, ◌∙◌, ap, subst}
use Rattle.std.specs.List.Sorted.{IsBinarySearchResult, IsSearchInRange}
use Rattle.std.proofs.lemmas.Fn.{always_returns_same}
use Rattle.catalogue.specs.Ids.{id_cmp}
use Rattle.flat_content.specs.declared.records.Head.{Head}
use Rattle.flat_content.proofs.OrderFacts.{found_there, none_there, rises}
use Rattle.flat_content.proofs.heads.head_for.Goals as goal

pub returns-in-Ok : goal.returns-in-Ok
returns-in-Ok c =
    let heads = c.args.heads.now in
    let id = c.args.id.now in
    let position = c.binary_search_by-place.ensures.position (λ head. id_cmp head.id id) (always_returns_same _ _ _ (λ a r f k. search (rules, of_calls))) in
    let told = subst (IsBinarySearchResult (λ head. id_cmp head.id id) heads) c.in-Ok.is position in
    let bound = subst (λ r. IsSearchInRange r (length heads)) c.in-Ok.is c.binary_search_by-place.ensures.bound in
    let item : c.index-heads-at.result ≡ get_or heads c.in-Ok.at c.index-heads-at.result = search rules in
    ap (λ (head : Head). Some head) item ∙ sym (found_there heads id c.in-Ok.at c.index-heads-at.result c.requires bound told)

pub returns-in-Err : goal.returns-in-Err
returns-in-Err c =
    let heads = c.args.heads.now in
    let id = c.args.id.now in
    let position = c.binary_search_by-place.ensures.position (λ head. id_cmp head.id id) (always_returns_same _ _ _ (λ a r f k. search (rules, of_calls))) in
    let told = subst (IsBinarySearchResult (λ head. id_cmp head.id id) heads) c.in-Err.is position in
    sym (none_there heads id c.in-Err.field-0 (told (rises heads id c.requires)))
