use Rattle.std.proofs.Common.{◌≡◌, ◌+◌, ◌∷◌, List, ℕ, length, sym, ◌∙◌, ap, arith}
use Rattle.mcs_reader.specs.Byte.{line_end}
use Rattle.mcs_reader.specs.Gathered.{reading_for}
use Rattle.mcs_reader.specs.Line.{text_of}
use Rattle.mcs_reader.specs.Position.{Position, after_line}
use Rattle.mcs_reader.specs.ReadLines.{read_after, read_lines, read_text}
use Rattle.mcs_reader.proofs.OutcomeFacts.{has_one_outcome, has_outcome, reading_of-fits, reading_of-too_long}
use Rattle.mcs_reader.proofs.SourceFacts.{length-text_of, line_ends-le-length}
use Rattle.mcs_reader.proofs.statements.Statements.begin.Goals as goal

-- before the first line, the whole text is left
before_first : (source : List ℕ) (position : Position) → position.text ≡ line_end ∷ text_of source → position.line ≡ 0 → read_text (text_of source) ≡ read_after position
before_first source position text line =
    ap (λ l. read_lines (length (text_of source)) (l + 1) (text_of source)) (sym line)
    ∙ ap (λ t. read_lines (length (after_line t)) (position.line + 1) (after_line t)) (sym text)

pub new-requires : goal.new-requires
new-requires c =
    let source = c.args.source.now in
    let fits = c.if-source-gt-MOST_BYTES.false in
    let most = line_ends-le-length (text_of source) in
    record {
      headroom = record {
        depth = omega (arith, fits, length-text_of source);
        lines = omega (arith, fits, most, length-text_of source);
      };
    }

pub returns-clause-one_outcome : goal.returns-clause-one_outcome
returns-clause-one_outcome c = has_one_outcome c.args.source.now

pub returns-clause-outcome : goal.returns-clause-outcome
returns-clause-outcome c = has_outcome c.args.source.now

pub returns-clause-ok : goal.returns-clause-ok
returns-clause-ok c =
    ap (reading_for c.args.asked) (sym (reading_of-fits c.args.source.now c.if-source-gt-MOST_BYTES.false ∙ before_first c.args.source.now c.new.result c.new.ensures.text c.new.ensures.line))

pub returns-then-source-gt-MOST_BYTES-clause-one_outcome : goal.returns-then-source-gt-MOST_BYTES-clause-one_outcome
returns-then-source-gt-MOST_BYTES-clause-one_outcome c = has_one_outcome c.args.source.now

pub returns-then-source-gt-MOST_BYTES-clause-outcome : goal.returns-then-source-gt-MOST_BYTES-clause-outcome
returns-then-source-gt-MOST_BYTES-clause-outcome c = has_outcome c.args.source.now

pub returns-then-source-gt-MOST_BYTES-clause-refusal : goal.returns-then-source-gt-MOST_BYTES-clause-refusal
returns-then-source-gt-MOST_BYTES-clause-refusal c = reading_of-too_long c.args.source.now c.if-source-gt-MOST_BYTES.true
