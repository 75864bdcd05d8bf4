use Rattle.std.specs.Prelude.{option_map}
use Rattle.lemmas.proofs.ResultFacts.{ok_so}
use Rattle.sql_reads.proofs.one.item_of.Goals as goal

pub returns-clause-said : goal.returns-clause-said
returns-clause-said g c = ok_so c.item.result c.item.ensures.says (λ list says. (option_map (λ row. row.now) c.in_ok-row.row, c.in_ok-row.ensures, says))
