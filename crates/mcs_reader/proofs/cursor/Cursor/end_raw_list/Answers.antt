use Rattle.std.proofs.Common.{List, ℕ, ◌∷◌, length, sym, ◌∙◌, ap, subst, arith, length-append}
use Rattle.mcs_reader.specs.Byte.{line_end}
use Rattle.mcs_reader.specs.Line.{text_of}
use Rattle.mcs_reader.specs.Position.{Position, after_line}
use Rattle.mcs_reader.specs.Scan.{after_raw}
use Rattle.mcs_reader.specs.Segment.{IsLine}
use Rattle.mcs_reader.proofs.PassFacts.{InRaw, in_raw}
use Rattle.mcs_reader.proofs.PositionFacts.{HasHeadroom-rest, IsAfter-columns, IsLine-rest}
use Rattle.mcs_reader.proofs.RunFacts.{after_line-line}
use Rattle.mcs_reader.proofs.cursor.Cursor.end_raw_list.Goals as goal

pub invariant_of-self : goal.invariant_of-self
invariant_of-self c =
    let P : List ℕ → Type 0 = λ t. IsLine t in
    let columns = c.self.inside.columns.now in
    let cut = subst (InRaw c.args.depth.now columns) c.in-Ok.ensures.after (in_raw c.args.depth.now columns) in
    record {
      one_line = IsLine-rest cut.0 c.in-Ok.rest.now (subst P cut.1 c.self.invariant.one_line);
      headroom = HasHeadroom-rest c.self.inside.line columns (cut.0) (c.in-Ok.rest.now) (text_of c.self.inside.after.now) c.self.invariant.one_line (cut.1) c.self.invariant.headroom;
    }

pub returns-in-Ok-clause-text : goal.returns-in-Ok-clause-text
returns-in-Ok-clause-text c =
    let columns = c.self.inside.columns.now in
    let cut = subst (InRaw c.args.depth.now columns) c.in-Ok.ensures.after (in_raw c.args.depth.now columns) in
    ap (λ (position : Position). after_raw c.args.depth.now position.text) (sym c.self.view_is) ∙ cut.2 (text_of c.self.inside.after.now)

pub returns-in-Ok-clause-after : goal.returns-in-Ok-clause-after
returns-in-Ok-clause-after c =
    let columns = c.self.inside.columns.now in
    let cut = subst (InRaw c.args.depth.now columns) c.in-Ok.ensures.after (in_raw c.args.depth.now columns) in
    IsAfter-columns c.self.inside.line columns cut.0 c.in-Ok.rest.now (text_of c.self.inside.after.now) c.args.self.now c.self.invariant.one_line cut.1 c.self.view_is

pub returns-in-Err-clause-none : goal.returns-in-Err-clause-none
returns-in-Err-clause-none c =
    let columns = c.self.inside.columns.now in
    let text = text_of c.self.inside.after.now in
    let goes_on = subst (InRaw c.args.depth.now columns) c.in-Err.ensures.after (in_raw c.args.depth.now columns) in
    ap (λ (position : Position). after_raw c.args.depth.now position.text) (sym c.self.view_is)
    ∙ goes_on text
    ∙ ap (after_raw c.in-Err.unclosed) (sym (after_line-line columns text c.self.invariant.one_line))
    ∙ ap (λ (position : Position). after_raw c.in-Err.unclosed (after_line position.text)) c.self.view_is

pub returns-in-Err-clause-no_deeper : goal.returns-in-Err-clause-no_deeper
returns-in-Err-clause-no_deeper c =
    let columns = c.self.inside.columns.now in
    let text = text_of c.self.inside.after.now in
    let rest = ap length (after_line-line columns text c.self.invariant.one_line) in
    let whole = ap (λ (position : Position). length position.text) c.self.view_is in
    let after = ap (λ (position : Position). length (after_line position.text)) c.self.view_is in
    let parts = length-append columns (line_end ∷ text) in
    omega (arith, c.in-Err.ensures.no_deeper, rest, whole, after, parts)
