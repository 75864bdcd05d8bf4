use Rattle.std.proofs.Common.{sym, ◌∙◌}
use Rattle.requests.proofs.SearchFacts.{resume_found}
use Rattle.requests.proofs.front.find_on.Goals as goal

pub returns-in-Ok-clause-found : goal.returns-in-Ok-clause-found
returns-in-Ok-clause-found c =
    resume_found c.args.bytes.now _ c.args.seen _ c.args.ending _ c.requires.within c.requires.seen c.split_at.ensures.back (sym c.find_end.ensures.found ∙ c.in-Ok.is)

pub returns-in-Err-clause-found : goal.returns-in-Err-clause-found
returns-in-Err-clause-found c =
    resume_found c.args.bytes.now _ c.args.seen _ c.args.ending _ c.requires.within c.requires.seen c.split_at.ensures.back (sym c.find_end.ensures.found ∙ c.in-Err.is)
