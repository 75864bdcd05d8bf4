use Rattle.std.proofs.Common.{sym, ◌∙◌}
use Rattle.requests.proofs.NextRequestFacts.{map_err, unfinished_head}
use Rattle.requests.proofs.next_request.read_next.Goals as goal

pub returns-in-Head-clause-unfinished : goal.returns-in-Head-clause-unfinished
returns-in-Head-clause-unfinished g c =
    map_err c.read_request.result c.read_request.ensures.unfinished
    (unfinished_head c.in-Head.head_len c.read_front.new.intake c.read_request.new.intake (sym c.in-Head.is ∙ c.in_ok-head_len.ensures.came) c.read_request.ensures.grown)
