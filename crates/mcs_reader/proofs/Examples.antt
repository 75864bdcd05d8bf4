-- Short sources with their readings or their first faults: theorems about the definitions alone, so that
-- a reader sees them mean what they should.
use Rattle.std.proofs.Common.{◌≡◌, ℕ, ◌≤◌, List, [], ◌∷◌, length, Option, Some, None, Ok, Err, codes, inr, refl, arith}
use Rattle.mcs_reader.specs.Byte.{role_of}
use Rattle.mcs_reader.specs.Id.{padded}
use Rattle.mcs_reader.specs.Line.{text_of}
use Rattle.mcs_reader.specs.OperandText.{OperandText}
use Rattle.mcs_reader.specs.Position.{verb_at}
use Rattle.mcs_reader.specs.ReadLines.{read_lines, read_text}
use Rattle.mcs_reader.specs.Reading.{most_bytes, IsReading, IsFirstFault}
use Rattle.mcs_reader.specs.Pieces.{is_comment_name}
use Rattle.mcs_reader.specs.Scan.{pass}
use Rattle.mcs_reader.specs.Verb.{verb_named}
use Rattle.mcs_reader.specs.declared.fault.McsFault.{McsFault}
use Rattle.mcs_reader.specs.declared.fault.McsFault.TheVariants.{NoPeriod, BadVerbSubject, Unbalanced, BadByte}
use Rattle.mcs_reader.specs.declared.statement.Statement.{Statement}
use Rattle.mcs_reader.specs.declared.statement.Verb.{Verb}
use Rattle.mcs_reader.specs.declared.statement.Verb.TheVariants.{Cond, Hold, Release, Ver}
use Rattle.mcs_reader.proofs.OutcomeFacts.{IsReading-from_read, IsStoppedSource-from_read}

abbrev hold : ℕ → List ℕ → List OperandText → Statement
hold line subject operands = record { verb = Hold; subject = Some (padded subject); operands = operands; line = line }

abbrev statement : Verb → ℕ → Option (List ℕ) → List OperandText → Statement
statement what line subject operands = record { verb = what; subject = subject; operands = operands; line = line }

abbrev operand : List ℕ → List (List ℕ) → OperandText
operand name values = record { name = name; values = values }

-- the machine computes, and what it computes is the reading or the first fault

reads : (source : List ℕ) (statements : List Statement) → length source ≤ most_bytes → read_text (text_of source) ≡ Ok statements → IsReading source statements
reads source statements fits read = IsReading-from_read source statements fits read

fails : (source : List ℕ) (fault : McsFault) → length source ≤ most_bytes → read_text (text_of source) ≡ Err fault → IsFirstFault source fault
fails source fault fits read = inr (IsStoppedSource-from_read source fault fits read)

-- an empty source has no statement
pub empty : IsReading [] []
unfolding text_of read_lines
empty = reads [] [] (omega arith) refl

-- a hold in one line
pub one_line : IsReading (codes "++HOLD(UA10001) ERROR REASON(AA20002).") (hold 1 (codes "UA10001") (operand (codes "ERROR") [] ∷ operand (codes "REASON") (codes "AA20002" ∷ []) ∷ []) ∷ [])
unfolding text_of read_lines pass verb_at verb_named role_of is_comment_name
one_line = reads (codes "++HOLD(UA10001) ERROR REASON(AA20002).") _ (omega arith) refl

-- a statement over two lines, the first of which has a sequence number from column 73 on
pub sequence_numbers : IsReading (codes "++HOLD(A) USER REASON(B)                                                00010000\r\n CLASS(C).\r\n")
    (hold 1 (codes "A") (operand (codes "USER") [] ∷ operand (codes "REASON") (codes "B" ∷ []) ∷ operand (codes "CLASS") (codes "C" ∷ []) ∷ []) ∷ [])
unfolding text_of read_lines pass verb_at verb_named role_of is_comment_name
sequence_numbers = reads (codes "++HOLD(A) USER REASON(B)                                                00010000\r\n CLASS(C).\r\n") _ (omega arith) refl

-- lines between statements, another verb's statement and what stands after a period are skipped
pub skipped_lines : IsReading (codes "HOLDDATA\n++MOD(X)\n) ; (\n++ hold(A) . )))\n") (hold 4 (codes "A") [] ∷ [])
unfolding text_of read_lines pass verb_at verb_named role_of is_comment_name
skipped_lines = reads (codes "HOLDDATA\n++MOD(X)\n) ; (\n++ hold(A) . )))\n") _ (omega arith) refl

-- values at any depth of a list, and ++ at a line's beginning in a list
pub nested_lists : IsReading (codes "++HOLD(A) X ((B,C D)E(\n++HOLD)).") (hold 1 (codes "A") (operand (codes "X") (codes "B" ∷ codes "C" ∷ codes "D" ∷ codes "E" ∷ codes "++HOLD" ∷ []) ∷ []) ∷ [])
unfolding text_of read_lines pass verb_at verb_named role_of is_comment_name
nested_lists = reads (codes "++HOLD(A) X ((B,C D)E(\n++HOLD)).") _ (omega arith) refl

-- the text ends before the period
pub no_period : IsFirstFault (codes "++HOLD(UA10001) ERROR REASON(AA20002)") (NoPeriod 1)
unfolding text_of read_lines pass verb_at verb_named role_of is_comment_name
no_period = fails (codes "++HOLD(UA10001) ERROR REASON(AA20002)") (NoPeriod 1) (omega arith) refl

-- the next statement begins before the period
pub no_period_before_statement : IsFirstFault (codes "\n++HOLD(A)\n++HOLD(B).") (NoPeriod 2)
unfolding text_of read_lines pass verb_at verb_named role_of is_comment_name
no_period_before_statement = fails (codes "\n++HOLD(A)\n++HOLD(B).") (NoPeriod 2) (omega arith) refl

-- no list after the verb
pub no_subject : IsFirstFault (codes "++HOLD UA10001 ERROR REASON(AA1).") (BadVerbSubject 1)
unfolding text_of read_lines pass verb_at verb_named role_of is_comment_name
no_subject = fails (codes "++HOLD UA10001 ERROR REASON(AA1).") (BadVerbSubject 1) (omega arith) refl

-- two values, or no id, after the verb
pub two_subjects : IsFirstFault (codes "++HOLD(A,B).") (BadVerbSubject 1)
unfolding text_of read_lines pass verb_at verb_named role_of is_comment_name
two_subjects = fails (codes "++HOLD(A,B).") (BadVerbSubject 1) (omega arith) refl

pub subject_no_id : IsFirstFault (codes "++HOLD(UA100012).") (BadVerbSubject 1)
unfolding text_of read_lines pass verb_at verb_named role_of is_comment_name
subject_no_id = fails (codes "++HOLD(UA100012).") (BadVerbSubject 1) (omega arith) refl

-- the text ends in a list
pub unclosed : IsFirstFault (codes "++HOLD(UA10001 ERROR.") (Unbalanced 1)
unfolding text_of read_lines pass verb_at verb_named role_of is_comment_name
unclosed = fails (codes "++HOLD(UA10001 ERROR.") (Unbalanced 1) (omega arith) refl

-- a closing parenthesis that nothing opened
pub unopened : IsFirstFault (codes "++HOLD(A) ).") (Unbalanced 1)
unfolding text_of read_lines pass verb_at verb_named role_of is_comment_name
unopened = fails (codes "++HOLD(A) ).") (Unbalanced 1) (omega arith) refl

-- a second list, which belongs to no name
pub second_list : IsFirstFault (codes "++HOLD(A)(B).") (BadByte 1)
unfolding text_of read_lines pass verb_at verb_named role_of is_comment_name
second_list = fails (codes "++HOLD(A)(B).") (BadByte 1) (omega arith) refl

-- a byte that can't stand outside lists comes before a subject that is missing
pub byte_before_subject : IsFirstFault (codes "++HOLD ERROR ; .") (BadByte 1)
unfolding text_of read_lines pass verb_at verb_named role_of is_comment_name
byte_before_subject = fails (codes "++HOLD ERROR ; .") (BadByte 1) (omega arith) refl

-- ++ within a line is no statement's beginning
pub pluses_in_a_line : IsFirstFault (codes "++HOLD(A) ++HOLD(B).") (BadByte 1)
unfolding text_of read_lines pass verb_at verb_named role_of is_comment_name
pluses_in_a_line = fails (codes "++HOLD(A) ++HOLD(B).") (BadByte 1) (omega arith) refl

-- the first statement with a fault decides
pub first_statement : IsFirstFault (codes "++HOLD(A) X(.\n++HOLD(B) ;.") (Unbalanced 1)
unfolding text_of read_lines pass verb_at verb_named role_of is_comment_name
first_statement = fails (codes "++HOLD(A) X(.\n++HOLD(B) ;.") (Unbalanced 1) (omega arith) refl

-- the shortest comment, which is a gap between two names
pub shortest_comment : IsReading (codes "++HOLD(A) ERROR/**/USER.") (hold 1 (codes "A") (operand (codes "ERROR") [] ∷ operand (codes "USER") [] ∷ []) ∷ [])
unfolding text_of read_lines pass verb_at verb_named role_of is_comment_name
shortest_comment = reads (codes "++HOLD(A) ERROR/**/USER.") _ (omega arith) refl

-- /*/ begins a comment and does not end it
pub comment_of_a_slash : IsReading (codes "++HOLD(A) /*/ ERROR */ USER.") (hold 1 (codes "A") (operand (codes "USER") [] ∷ []) ∷ [])
unfolding text_of read_lines pass verb_at verb_named role_of is_comment_name
comment_of_a_slash = reads (codes "++HOLD(A) /*/ ERROR */ USER.") _ (omega arith) refl

-- a comment ends at the first */, whatever stars stand before it
pub comment_of_stars : IsReading (codes "++HOLD(A) /*** * / **/ USER /*.*/ .") (hold 1 (codes "A") (operand (codes "USER") [] ∷ []) ∷ [])
unfolding text_of read_lines pass verb_at verb_named role_of is_comment_name
comment_of_stars = reads (codes "++HOLD(A) /*** * / **/ USER /*.*/ .") _ (omega arith) refl

-- a comment parts two values, and none of it is one
pub comment_in_a_list : IsReading (codes "++HOLD(A) X(B/*C,)*/D E/F*G).") (hold 1 (codes "A") (operand (codes "X") (codes "B" ∷ codes "D" ∷ codes "E/F*G" ∷ []) ∷ []) ∷ [])
unfolding text_of read_lines pass verb_at verb_named role_of is_comment_name
comment_in_a_list = reads (codes "++HOLD(A) X(B/*C,)*/D E/F*G).") _ (omega arith) refl

-- over three lines, of which one begins with ++
pub comment_over_lines : IsReading (codes "++HOLD(A)/*(\n++HOLD(B\n*/.") (hold 1 (codes "A") [] ∷ [])
unfolding text_of read_lines pass verb_at verb_named role_of is_comment_name
comment_over_lines = reads (codes "++HOLD(A)/*(\n++HOLD(B\n*/.") _ (omega arith) refl

-- a comment between the verb and its list, and between a name and its list
pub comment_before_a_list : IsReading (codes "++HOLD/*x*/(A) X /*y*/ (B).") (hold 1 (codes "A") (operand (codes "X") (codes "B" ∷ []) ∷ []) ∷ [])
unfolding text_of read_lines pass verb_at verb_named role_of is_comment_name
comment_before_a_list = reads (codes "++HOLD/*x*/(A) X /*y*/ (B).") _ (omega arith) refl

-- in a list of COMMENT no comment begins, and nothing is a value
pub list_of_comment : IsReading (codes "++HOLD(A) COMMENT(/*) X(B).") (hold 1 (codes "A") (operand (codes "COMMENT") [] ∷ operand (codes "X") (codes "B" ∷ []) ∷ []) ∷ [])
unfolding text_of read_lines pass verb_at verb_named role_of is_comment_name
list_of_comment = reads (codes "++HOLD(A) COMMENT(/*) X(B).") _ (omega arith) refl

-- its parentheses match, and its name has no case
pub nested_list_of_comment : IsReading (codes "++HOLD(A) comment((a) . b\n++HOLD(C)) X.") (hold 1 (codes "A") (operand (codes "comment") [] ∷ operand (codes "X") [] ∷ []) ∷ [])
unfolding text_of read_lines pass verb_at verb_named role_of is_comment_name
nested_list_of_comment = reads (codes "++HOLD(A) comment((a) . b\n++HOLD(C)) X.") _ (omega arith) refl

-- what begins as COMMENT does is another operand
pub name_longer_than_comment : IsReading (codes "++HOLD(A) COMMENTS(B).") (hold 1 (codes "A") (operand (codes "COMMENTS") (codes "B" ∷ []) ∷ []) ∷ [])
unfolding text_of read_lines pass verb_at verb_named role_of is_comment_name
name_longer_than_comment = reads (codes "++HOLD(A) COMMENTS(B).") _ (omega arith) refl

-- the text ends in a comment
pub open_comment_outside : IsFirstFault (codes "++HOLD(A) /*/ .") (Unbalanced 1)
unfolding text_of read_lines pass verb_at verb_named role_of is_comment_name
open_comment_outside = fails (codes "++HOLD(A) /*/ .") (Unbalanced 1) (omega arith) refl

-- and in a comment within a list
pub open_comment_in_a_list : IsFirstFault (codes "++HOLD(A) X(B /* ).") (Unbalanced 1)
unfolding text_of read_lines pass verb_at verb_named role_of is_comment_name
open_comment_in_a_list = fails (codes "++HOLD(A) X(B /* ).") (Unbalanced 1) (omega arith) refl

-- the text ends in a list of COMMENT
pub open_list_of_comment : IsFirstFault (codes "++HOLD(A) COMMENT((A).") (Unbalanced 1)
unfolding text_of read_lines pass verb_at verb_named role_of is_comment_name
open_list_of_comment = fails (codes "++HOLD(A) COMMENT((A).") (Unbalanced 1) (omega arith) refl

-- a slash that begins no comment
pub lone_slash : IsFirstFault (codes "++HOLD(A) / USER.") (BadByte 1)
unfolding text_of read_lines pass verb_at verb_named role_of is_comment_name
lone_slash = fails (codes "++HOLD(A) / USER.") (BadByte 1) (omega arith) refl

-- a comment in front of a statement's verb leaves it without one, so its lines are skipped
pub comment_before_the_verb : IsFirstFault (codes "++HOLD(A)\n++/*x*/HOLD(B).") (NoPeriod 1)
unfolding text_of read_lines pass verb_at verb_named role_of is_comment_name
comment_before_the_verb = fails (codes "++HOLD(A)\n++/*x*/HOLD(B).") (NoPeriod 1) (omega arith) refl

-- a release, and a VER, whose list is not used
pub other_verbs : IsReading (codes "++RELEASE(A) ERROR.\n++VER(Z038 1).") (statement Release 1 (Some (padded (codes "A"))) (operand (codes "ERROR") [] ∷ []) ∷ statement Ver 2 None [] ∷ [])
unfolding text_of read_lines pass verb_at verb_named role_of is_comment_name
other_verbs = reads (codes "++RELEASE(A) ERROR.\n++VER(Z038 1).") _ (omega arith) refl

-- but a VER has a list
pub ver_without_list : IsFirstFault (codes "++VER.") (BadVerbSubject 1)
unfolding text_of read_lines pass verb_at verb_named role_of is_comment_name
ver_without_list = fails (codes "++VER.") (BadVerbSubject 1) (omega arith) refl

-- an IF has no list, and operands right after its verb
pub condition : IsReading (codes "++IF FMID(A) THEN REQ(B,C).") (statement Cond 1 None (operand (codes "FMID") (codes "A" ∷ []) ∷ operand (codes "THEN") [] ∷ operand (codes "REQ") (codes "B" ∷ codes "C" ∷ []) ∷ []) ∷ [])
unfolding text_of read_lines pass verb_at verb_named role_of is_comment_name
condition = reads (codes "++IF FMID(A) THEN REQ(B,C).") _ (omega arith) refl

-- with a list after the verb it is refused, also where a gap stands between
pub condition_with_list : IsFirstFault (codes "++IF (A) REQ(B).") (BadVerbSubject 1)
unfolding text_of read_lines pass verb_at verb_named role_of is_comment_name
condition_with_list = fails (codes "++IF (A) REQ(B).") (BadVerbSubject 1) (omega arith) refl

-- and it has a period
pub condition_without_period : IsFirstFault (codes "++IF FMID(A)") (NoPeriod 1)
unfolding text_of read_lines pass verb_at verb_named role_of is_comment_name
condition_without_period = fails (codes "++IF FMID(A)") (NoPeriod 1) (omega arith) refl
