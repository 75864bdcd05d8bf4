use Rattle.sql_texts.proofs.AnswerFacts.{table_answer}
use Rattle.sql_texts.proofs.law.table.Goals as goal

pub returns : goal.returns
returns c = table_answer
