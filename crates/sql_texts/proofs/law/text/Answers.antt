use Rattle.sql_texts.proofs.AnswerFacts.{same_text}
use Rattle.sql_texts.proofs.law.text.Goals as goal

pub returns : goal.returns
returns c = same_text
