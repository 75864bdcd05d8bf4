use Rattle.sql_texts.proofs.AnswerFacts.{join_answer}
use Rattle.sql_texts.proofs.law.join.Goals as goal

pub returns : goal.returns
returns c = join_answer
