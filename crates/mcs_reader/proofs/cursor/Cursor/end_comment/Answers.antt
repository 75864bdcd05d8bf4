use Rattle.std.proofs.Common.{List, ℕ, sym, ◌∙◌, ap, subst}
use Rattle.mcs_reader.specs.Line.{text_of}
use Rattle.mcs_reader.specs.Position.{Position, after_line}
use Rattle.mcs_reader.specs.Scan.{after_comment}
use Rattle.mcs_reader.specs.Segment.{IsLine}
use Rattle.mcs_reader.proofs.PassFacts.{InComment, in_comment}
use Rattle.mcs_reader.proofs.PositionFacts.{HasHeadroom-rest, IsAfter-columns, IsLine-rest}
use Rattle.mcs_reader.proofs.RunFacts.{after_line-line}
use Rattle.mcs_reader.proofs.cursor.Cursor.end_comment.Goals as goal

pub invariant_of-self : goal.invariant_of-self
invariant_of-self c =
    let P : List ℕ → Type 0 = λ t. IsLine t in
    let columns = c.self.inside.columns.now in
    let cut = subst (InComment columns) c.in-Some.ensures (in_comment columns) in
    record {
      one_line = IsLine-rest cut.0 c.in-Some.rest.now (subst P cut.1 c.self.invariant.one_line);
      headroom = HasHeadroom-rest c.self.inside.line columns (cut.0) (c.in-Some.rest.now) (text_of c.self.inside.after.now) c.self.invariant.one_line (cut.1) c.self.invariant.headroom;
    }

pub returns-in-Some-clause-text : goal.returns-in-Some-clause-text
returns-in-Some-clause-text c =
    let columns = c.self.inside.columns.now in
    let cut = subst (InComment columns) c.in-Some.ensures (in_comment columns) in
    ap (λ (position : Position). after_comment position.text) (sym c.self.view_is) ∙ cut.2 (text_of c.self.inside.after.now)

pub returns-in-Some-clause-after : goal.returns-in-Some-clause-after
returns-in-Some-clause-after c =
    let columns = c.self.inside.columns.now in
    let cut = subst (InComment columns) c.in-Some.ensures (in_comment columns) in
    IsAfter-columns c.self.inside.line columns cut.0 c.in-Some.rest.now (text_of c.self.inside.after.now) c.args.self.now c.self.invariant.one_line cut.1 c.self.view_is

pub returns-in-None-clause-none : goal.returns-in-None-clause-none
returns-in-None-clause-none c =
    let columns = c.self.inside.columns.now in
    let text = text_of c.self.inside.after.now in
    let goes_on = subst (InComment columns) c.in-None.ensures (in_comment columns) in
    ap (λ (position : Position). after_comment position.text) (sym c.self.view_is)
    ∙ goes_on text
    ∙ ap after_comment (sym (after_line-line columns text c.self.invariant.one_line))
    ∙ ap (λ (position : Position). after_comment (after_line position.text)) c.self.view_is
