use Rattle.std.proofs.Common.{◌∙◌, List, Option, ℕ, ap}
use Rattle.std.specs.List.{filter_map}
use Rattle.lemmas.proofs.ResultFacts.{ok_so}
use Rattle.blocked_needs.specs.declared.blocked.BlockedNeed.{BlockedNeed}
use Rattle.blocked_needs.proofs.ListFacts.{filter_map_map}
use Rattle.blocked_needs.proofs.following.rows_in.Goals as goal

pub returns : goal.returns
returns c =
    ok_so c.those_held.result c.those_held.ensures (λ rows are.
    are ∙ ap (filter_map (λ (one : Option BlockedNeed). one)) (c.deref.ensures.value ∙ c.in_ok-blocked.ensures)
    ∙ filter_map_map (λ (entry : List ℕ × Option BlockedNeed). entry.1) (λ (one : Option BlockedNeed). one) c.args.seen.entries)
