use Rattle.std.proofs.Common.{List, ℕ, ◌∷◌, ◌++◌, sym, ◌∙◌, ap, subst}
use Rattle.mcs_reader.specs.Byte.{line_end}
use Rattle.mcs_reader.specs.Line.{text_of}
use Rattle.mcs_reader.specs.Position.{Position}
use Rattle.mcs_reader.specs.Run.{value_run, after_value}
use Rattle.mcs_reader.specs.Segment.{IsLine}
use Rattle.mcs_reader.proofs.CommentFacts.{value_run-append-after_value}
use Rattle.mcs_reader.proofs.PassFacts.{value_run-line, after_value-line}
use Rattle.mcs_reader.proofs.PositionFacts.{HasHeadroom-rest, IsAfter-columns, IsLine-rest}
use Rattle.mcs_reader.proofs.cursor.Cursor.take_value.Goals as goal

pub invariant_of-self : goal.invariant_of-self
invariant_of-self c =
    let P : List ℕ → Type 0 = λ t. IsLine t in
    let columns = c.self.inside.columns.now in
    record {
      one_line = subst P (sym c.split_value.ensures.rest) (IsLine-rest (value_run columns) (after_value columns) (subst P (sym (value_run-append-after_value columns)) c.self.invariant.one_line));
      headroom = HasHeadroom-rest c.self.inside.line columns (value_run columns) (c.split_value.result.1.now) (text_of c.self.inside.after.now) c.self.invariant.one_line (sym (value_run-append-after_value columns) ∙ ap (λ t. value_run columns ++ t) (sym c.split_value.ensures.rest)) c.self.invariant.headroom;
    }

pub returns-clause-value : goal.returns-clause-value
returns-clause-value c =
    c.split_value.ensures.value
    ∙ sym (value_run-line c.self.inside.columns.now (text_of c.self.inside.after.now))
    ∙ ap (λ (position : Position). value_run position.text) c.self.view_is

pub returns-clause-text : goal.returns-clause-text
returns-clause-text c =
    ap (λ rest. rest ++ line_end ∷ text_of c.self.inside.after.now) c.split_value.ensures.rest
    ∙ sym (after_value-line c.self.inside.columns.now (text_of c.self.inside.after.now))
    ∙ ap (λ (position : Position). after_value position.text) c.self.view_is

pub returns-clause-after : goal.returns-clause-after
returns-clause-after c =
    let columns = c.self.inside.columns.now in
    IsAfter-columns c.self.inside.line columns (value_run columns) c.split_value.result.1.now (text_of c.self.inside.after.now) c.args.self.now c.self.invariant.one_line
    (sym (value_run-append-after_value columns) ∙ ap (λ t. value_run columns ++ t) (sym c.split_value.ensures.rest)) c.self.view_is
