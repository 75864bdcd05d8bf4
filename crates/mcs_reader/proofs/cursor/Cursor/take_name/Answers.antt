use Rattle.std.proofs.Common.{List, ℕ, ◌∷◌, ◌++◌, refl, sym, ◌∙◌, ap, subst}
use Rattle.mcs_reader.specs.Byte.{is_name_byte, line_end}
use Rattle.mcs_reader.specs.Line.{text_of}
use Rattle.mcs_reader.specs.Position.{Position}
use Rattle.mcs_reader.specs.Run.{run, after_run}
use Rattle.mcs_reader.specs.Segment.{IsLine}
use Rattle.mcs_reader.proofs.RunFacts.{run-append-after_run}
use Rattle.mcs_reader.proofs.PositionFacts.{run-line, after_run-line, HasHeadroom-rest, IsAfter-columns, IsLine-after_run}
use Rattle.mcs_reader.proofs.cursor.Cursor.take_name.Goals as goal

pub invariant_of-self : goal.invariant_of-self
invariant_of-self c =
    let P : List ℕ → Type 0 = λ t. IsLine t in
    let columns = c.self.inside.columns.now in
    record {
      one_line = subst P (sym c.split_name.ensures.rest) (IsLine-after_run is_name_byte columns c.self.invariant.one_line);
      headroom = HasHeadroom-rest c.self.inside.line columns (run is_name_byte columns) (c.split_name.result.1.now) (text_of c.self.inside.after.now) c.self.invariant.one_line (sym (run-append-after_run is_name_byte columns) ∙ ap (λ t. run is_name_byte columns ++ t) (sym c.split_name.ensures.rest)) c.self.invariant.headroom;
    }

pub returns-clause-name : goal.returns-clause-name
returns-clause-name c =
    c.split_name.ensures.name
    ∙ sym (run-line is_name_byte c.self.inside.columns.now (text_of c.self.inside.after.now) refl)
    ∙ ap (λ (position : Position). run is_name_byte position.text) c.self.view_is

pub returns-clause-text : goal.returns-clause-text
returns-clause-text c =
    ap (λ rest. rest ++ line_end ∷ text_of c.self.inside.after.now) c.split_name.ensures.rest
    ∙ sym (after_run-line is_name_byte c.self.inside.columns.now (text_of c.self.inside.after.now) refl)
    ∙ ap (λ (position : Position). after_run is_name_byte position.text) c.self.view_is

pub returns-clause-after : goal.returns-clause-after
returns-clause-after c =
    let columns = c.self.inside.columns.now in
    IsAfter-columns c.self.inside.line columns (run is_name_byte columns) c.split_name.result.1.now (text_of c.self.inside.after.now) c.args.self.now c.self.invariant.one_line
    (sym (run-append-after_run is_name_byte columns) ∙ ap (λ t. run is_name_byte columns ++ t) (sym c.split_name.ensures.rest)) c.self.view_is
