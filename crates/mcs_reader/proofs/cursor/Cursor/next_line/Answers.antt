use Rattle.std.proofs.Common.{◌≡◌, ℕ, ◌+◌, List, [], ◌∷◌, ◌++◌, length, refl, sym, ◌∙◌, ap, subst, arith, length-append, nat_eq, true}
use Rattle.std.proofs.lemmas.Bool.Decides.{nat_tests}
use Rattle.mcs_reader.specs.Byte.{line_end}
use Rattle.mcs_reader.specs.Line.{line_ends, text_of, lines, columns_1_to_72}
use Rattle.mcs_reader.specs.Position.{Position, HasHeadroom, IsAfter, after_line}
use Rattle.mcs_reader.specs.Segment.{IsLine}
use Rattle.mcs_reader.proofs.RunFacts.{after_line-line}
use Rattle.mcs_reader.proofs.LineFacts.{text_of-nil, text_of-line, IsLine-columns}
use Rattle.mcs_reader.proofs.PositionFacts.{HasHeadroom-after, IsAfter-next_line, line_ends-at}
use Rattle.mcs_reader.proofs.cursor.Cursor.next_line.Goals as goal

-- what stands after the position's line
line_end_after : (line : ℕ) (columns text : List ℕ) (position : Position) → IsLine columns → record { text = columns ++ line_end ∷ text; line = line } ≡ position → after_line position.text ≡ text
line_end_after line columns text position is at = ap (λ (p : Position). after_line p.text) (sym at) ∙ after_line-line columns text is

no_items : (items : List ℕ) → (true ≡ nat_eq (length items) 0) → items ≡ []
no_items [] empty = refl
no_items (b ∷ items) empty = absurd (grind (arith, nat_tests))

-- the line after, and what stands after it
next_text : (source line after read : List ℕ) → lines source ≡ line ∷ lines after → read ≡ columns_1_to_72 line → text_of source ≡ read ++ line_end ∷ text_of after
next_text source line after read cut is = text_of-line source line after cut ∙ ap (λ t. t ++ line_end ∷ text_of after) (sym is)

pub returns-then-is_empty-clause-end : goal.returns-then-is_empty-clause-end
returns-then-is_empty-clause-end c =
    let inside = c.self.inside in
    line_end_after inside.line inside.columns.now (text_of inside.after.now) c.args.self.now c.self.invariant.one_line c.self.view_is
    ∙ ap text_of (no_items inside.after.now c.if-is_empty.ensures) ∙ text_of-nil

pub overflow_add-self : goal.overflow_add-self
overflow_add-self c =
    let inside = c.self.inside in
    let ends = line_ends-at inside.columns.now (text_of inside.after.now) c.self.invariant.one_line in
    let line_is = ap (λ (p : Position). p.line) c.self.view_is in
    let text_is = ap (λ (p : Position). line_ends p.text) c.self.view_is in
    omega (arith, c.self.invariant.headroom.lines, ends, line_is, text_is)

pub invariant_of-self : goal.invariant_of-self
invariant_of-self c =
    let P : List ℕ → Type 0 = λ t. IsLine t in
    let inside = c.self.inside in
    let text : List ℕ = c.columns_of-self-inside.result.now ++ line_end ∷ text_of c.split_line.result.1.now in
    let text_is : text_of inside.after.now ≡ text =
    next_text inside.after.now c.split_line.result.0.now c.split_line.result.1.now c.columns_of-self-inside.result.now c.split_line.ensures.line c.columns_of-self-inside.ensures in
    let Q : List ℕ → Type 0 = λ t. HasHeadroom (record { text = t; line = inside.line + 1 }) in
    record {
      one_line = subst P (sym c.columns_of-self-inside.ensures) (IsLine-columns c.split_line.result.0.now c.split_line.ensures.one_line);
      headroom = subst Q text_is (HasHeadroom-after (record { text = text_of inside.after.now; line = inside.line + 1 }) (record { text = inside.columns.now ++ line_end ∷ text_of inside.after.now; line = inside.line })
          (IsAfter-next_line inside.line inside.columns.now (text_of inside.after.now) c.self.invariant.one_line) c.self.invariant.headroom);
    }

pub returns-clause-text : goal.returns-clause-text
returns-clause-text c =
    let inside = c.self.inside in
    sym (line_end_after inside.line inside.columns.now (text_of inside.after.now) c.args.self.now c.self.invariant.one_line c.self.view_is
    ∙ next_text inside.after.now c.split_line.result.0.now c.split_line.result.1.now c.columns_of-self-inside.result.now c.split_line.ensures.line c.columns_of-self-inside.ensures)

pub returns-clause-after : goal.returns-clause-after
returns-clause-after c =
    let inside = c.self.inside in
    let text : List ℕ = c.columns_of-self-inside.result.now ++ line_end ∷ text_of c.split_line.result.1.now in
    let text_is : text_of inside.after.now ≡ text =
    next_text inside.after.now c.split_line.result.0.now c.split_line.result.1.now c.columns_of-self-inside.result.now c.split_line.ensures.line c.columns_of-self-inside.ensures in
    let P : Position → Type 0 = λ before. IsAfter (record { text = text; line = inside.line + 1 }) before in
    let Q : List ℕ → Type 0 = λ t. IsAfter (record { text = t; line = inside.line + 1 }) (record { text = inside.columns.now ++ line_end ∷ text_of inside.after.now; line = inside.line }) in
    subst P c.self.view_is (subst Q text_is (IsAfter-next_line inside.line inside.columns.now (text_of inside.after.now) c.self.invariant.one_line))

pub returns-clause-shorter : goal.returns-clause-shorter
returns-clause-shorter c =
    let inside = c.self.inside in
    let text : List ℕ = c.columns_of-self-inside.result.now ++ line_end ∷ text_of c.split_line.result.1.now in
    let text_is : text_of inside.after.now ≡ text =
    next_text inside.after.now c.split_line.result.0.now c.split_line.result.1.now c.columns_of-self-inside.result.now c.split_line.ensures.line c.columns_of-self-inside.ensures in
    let size = ap length text_is in
    let size_before = ap (λ (p : Position). length p.text) c.self.view_is in
    let parts = length-append inside.columns.now (line_end ∷ text_of inside.after.now) in
    omega (arith, size, size_before, parts)
