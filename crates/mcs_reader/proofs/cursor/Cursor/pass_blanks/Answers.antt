use Rattle.std.proofs.Common.{List, ℕ, ◌∷◌, ◌++◌, refl, sym, ◌∙◌, ap, subst}
use Rattle.mcs_reader.specs.Byte.{is_blank, line_end}
use Rattle.mcs_reader.specs.Line.{text_of}
use Rattle.mcs_reader.specs.Position.{Position}
use Rattle.mcs_reader.specs.Run.{run, after_run}
use Rattle.mcs_reader.specs.Segment.{IsLine}
use Rattle.mcs_reader.proofs.RunFacts.{run-append-after_run}
use Rattle.mcs_reader.proofs.PositionFacts.{after_run-line, HasHeadroom-rest, IsAfter-columns, IsLine-after_run}
use Rattle.mcs_reader.proofs.cursor.Cursor.pass_blanks.Goals as goal

pub invariant_of-self : goal.invariant_of-self
invariant_of-self c =
    let P : List ℕ → Type 0 = λ t. IsLine t in
    let columns = c.self.inside.columns.now in
    record {
      one_line = subst P (sym c.after_blanks-rest.ensures) (IsLine-after_run is_blank columns c.self.invariant.one_line);
      headroom = HasHeadroom-rest c.self.inside.line columns (run is_blank columns) c.after_blanks-rest.result.now (text_of c.self.inside.after.now) c.self.invariant.one_line (sym (run-append-after_run is_blank columns) ∙ ap (λ t. run is_blank columns ++ t) (sym c.after_blanks-rest.ensures)) c.self.invariant.headroom;
    }

pub returns-clause-text : goal.returns-clause-text
returns-clause-text c =
    ap (λ rest. rest ++ line_end ∷ text_of c.self.inside.after.now) c.after_blanks-rest.ensures
    ∙ sym (after_run-line is_blank c.self.inside.columns.now (text_of c.self.inside.after.now) refl)
    ∙ ap (λ (position : Position). after_run is_blank position.text) c.self.view_is

pub returns-clause-after : goal.returns-clause-after
returns-clause-after c =
    let columns = c.self.inside.columns.now in
    IsAfter-columns c.self.inside.line columns (run is_blank columns) c.after_blanks-rest.result.now (text_of c.self.inside.after.now) c.args.self.now c.self.invariant.one_line
    (sym (run-append-after_run is_blank columns) ∙ ap (λ t. run is_blank columns ++ t) (sym c.after_blanks-rest.ensures)) c.self.view_is
