use Rattle.bureau_http.proofs.LawfulFacts.{all_lawful, first_lawful}
use Rattle.bureau_http.proofs.list.serve_list.Goals as goal

pub returns-clause-served : goal.returns-clause-served
returns-clause-served g c =
    all_lawful g.D.Desk.tables_view c.args.desk.now c.serve_each.new.desk _ _ c.as_slice.ensures.value c.serve_each.result c.serve_each.ensures.served

pub returns-clause-in_part : goal.returns-clause-in_part
returns-clause-in_part g c =
    first_lawful g.D.Desk.tables_view c.args.desk.now c.serve_each.new.desk _ _ c.as_slice.ensures.value c.serve_each.result c.serve_each.ensures.served
