use Rattle.std.proofs.Common.{◌≡◌, ◌+◌, ◌<◌, length, false, Ok, Err, sym, ◌∙◌, ap, subst, arith}
use Rattle.std.proofs.lemmas.Result.{err_from_is_err_and}
use Rattle.mcs_reader.specs.Pieces.{a_name}
use Rattle.mcs_reader.specs.Position.{Position, IsAfter, after_line}
use Rattle.mcs_reader.specs.ReadLines.{read_after}
use Rattle.mcs_reader.specs.Scan.{Stated, scan, stated}
use Rattle.mcs_reader.specs.declared.statement.Verb.{Verb}
use Rattle.mcs_reader.proofs.GatheredFacts.{refusal_so}
use Rattle.mcs_reader.proofs.ScanPositionFacts.{IsAfter-trans}
use Rattle.mcs_reader.proofs.SourceFacts.{Begins, no_line, passed_line, refused_line, statement_line}
use Rattle.mcs_reader.proofs.statements.next_statement.Goals as goal

-- a verb moves nothing but the text
same_line : (verb : Verb) (now moved : Position) (found : Stated) → moved.line ≡ now.line → stated verb moved.line (scan moved.line 0 a_name false moved.text) ≡ found
    → stated verb now.line (scan now.line 0 a_name false moved.text) ≡ found
same_line verb now moved found unmoved is = ap (λ l. stated verb l (scan l 0 a_name false moved.text)) (sym unmoved) ∙ is

begins : (now last : Position) → now.text ≡ after_line last.text → now.line ≡ last.line + 1 → 0 < length now.text → Begins now last
begins now last text line more = record { text = text; line = line; more = more }

pub returns-in_err-read_statement-clause-fault : goal.returns-in_err-read_statement-clause-fault
returns-in_err-read_statement-clause-fault c =
    let p = err_from_is_err_and c.from_residual.result c.from_residual.ensures.1 in
    let last = c.lines.cursor in
    let now = c.next_line.new.self in
    let moved = c.take_verb.new.self in
    let fault = c.in_err-read_statement.field-0.0 in
    rw (p.1, p.2)
    (refusal_so (λ f. stated c.in-Some.verb moved.line (scan moved.line 0 a_name false moved.text) ≡ Err f) (λ f. read_after c.args.cursor.now ≡ Err f) fault
    (λ is.
    c.lines.invariant.read
    ∙ refused_line last now c.in-Some.verb moved.text fault (begins now last c.lines-test.ensures.text c.lines-test.ensures.line c.lines-test.ensures.more) c.in-Some.ensures.verb
    (same_line c.in-Some.verb now moved (Err fault) c.in-Some.ensures.unmoved is))
    c.in_err-read_statement.ensures.fault)

pub returns-in-Some-clause-ok : goal.returns-in-Some-clause-ok
returns-in-Some-clause-ok c =
    let last = c.lines.cursor in
    let now = c.next_line.new.self in
    let moved = c.take_verb.new.self in
    let end = c.read_statement.new.cursor in
    let states = c.in_ok-read_statement.ensures.ok in
    let after = IsAfter-trans end moved now c.in_ok-read_statement.ensures.after c.in-Some.ensures.after in
    let shorter = c.lines-test.ensures.shorter in
    record {
      whole = states.whole;
      gives = record {
        first =
            c.lines.invariant.read
            ∙ statement_line last now end c.in-Some.verb moved.text states.whole (begins now last c.lines-test.ensures.text c.lines-test.ensures.line c.lines-test.ensures.more) c.in-Some.ensures.verb
            (same_line c.in-Some.verb now moved (Ok (states.whole, end.text)) c.in-Some.ensures.unmoved states.stated) after;
        further = omega (arith, after.text, shorter, c.lines.invariant.after.text);
      };
      statement_is = states.statement_is;
    }

pub lines-preserved : goal.lines-preserved
lines-preserved c =
    let last = c.lines.cursor in
    let now = c.next_line.new.self in
    let start = c.args.cursor.now in
    let P : Position → Type 0 = λ position. record { read : read_after start ≡ read_after position; after : IsAfter position start } in
    let here : P now = record {
      read =
          c.lines.invariant.read
          ∙ passed_line last now (begins now last c.lines-test.ensures.text c.lines-test.ensures.line c.lines-test.ensures.more) c.in_default.ensures.verb;
      after = IsAfter-trans now last start c.lines-test.ensures.after c.lines.invariant.after;
    } in
    subst P (sym c.in_default.ensures.unmoved) here

pub returns-clause-ok : goal.returns-clause-ok
returns-clause-ok c = c.lines.invariant.read ∙ no_line c.lines.cursor c.lines-test.ensures.end
