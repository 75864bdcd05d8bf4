use Rattle.std.proofs.Common.{◌++◌, List, length, map, sym, ◌∙◌, ap, arith}
use Rattle.std.specs.Vec.Iter.{into_iter_items}
use Rattle.catalogue.specs.declared.change.Change.{Change}
use Rattle.file_reports.specs.Inputs.{publication_in, said_in}
use Rattle.file_reports.specs.declared.fault.Input.TheVariants.{Publication}
use Rattle.file_reports.proofs.InputFacts.{content_with, next_read}
use Rattle.file_reports.proofs.publications.content_in.Goals as goal

pub loop-index-preserved : goal.loop-index-preserved
loop-index-preserved c =
    let steps = c.in-Some.ensures.steps in
    let was = c.loop-index.invariant in
    let earlier : List Change = was.said.0 in
    let more = c.in_ok-gathered.ensures.content in
    let changes : List Change = more.0 in
    let left = map (λ body. body.items) (into_iter_items c.next.new.self.iter) in
    record {
      len = omega (arith, was.len, steps.0.1, ap length steps.0.0);
      said = (
        earlier ++ changes,
        more.2 earlier was.said.1,
        was.said.2
            ∙ ap (λ bodies. content_with earlier c.loop-index.index-iterator.count (map (λ body. body.items) bodies)) steps.0.0
            ∙ next_read earlier changes c.loop-index.index-iterator.count c.in-Some.publication.items left
            (ap (λ n. said_in (Publication n) (publication_in c.in-Some.publication.items)) (sym steps.1) ∙ more.1)
            ∙ ap (λ n. content_with (earlier ++ changes) n left) (sym steps.2),
      );
    }
