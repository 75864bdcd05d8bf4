-- Small sources with what they say, so that the definitions are seen to mean what they should.
use Rattle.std.specs.Prelude.{◌≡◌, ◌++◌, ℕ, List, [], ◌∷◌, codes, Some, None, refl, true, false}
use Rattle.std.specs.Fmt.{digits}
use Rattle.mcs_reader.specs.OperandText.{OperandText}
use Rattle.mcs_reader.specs.Id.{padded}
use Rattle.mcs_reader.specs.declared.statement.Statement.{Statement}
use Rattle.mcs_reader.specs.declared.statement.Verb.TheVariants as verb
use Rattle.holddata.specs.declared.key.Kind.TheVariants.{ErrorHold, FixcatHold}
use Rattle.holddata.specs.declared.key.HoldKey.{HoldKey}
use Rattle.holddata.specs.declared.hold.Hold.{Hold}
use Rattle.holddata.specs.declared.hold.HoldChange.TheVariants.{Put, Release}
use Rattle.holddata.specs.declared.fault.HoldFault.TheVariants.{NoKind, TwoKinds, NoReason, BadId, BadDate, BadCategory}
use Rattle.holddata.specs.Date.{date_of, date_digits}
use Rattle.holddata.specs.Categories.{are_categories, in_order}
use Rattle.holddata.specs.HoldBook.{book_of, holds_on}
use Rattle.holddata.specs.BookText.{book_text}
use Rattle.holddata.specs.Statements.{first_fault, changes_of}

-- an operand with one value, and one without a list
abbrev one : List ℕ → List ℕ → OperandText
one name value = record { name = name; values = value ∷ [] }

abbrev bare : List ℕ → OperandText
bare name = record { name = name; values = [] }

-- `++HOLD(UA10001) ..` on a line
abbrev hold_at : ℕ → List OperandText → Statement
hold_at line operands = record { verb = verb.Hold; subject = Some (padded (codes "UA10001")); operands = operands; line = line }

-- ERROR FMID(HBB7790) REASON(AA20002) CLASS(PE) DATE(12045)
abbrev in_error : List OperandText
in_error =
    bare (codes "ERROR") ∷ one (codes "FMID") (codes "HBB7790") ∷ one (codes "REASON") (codes "AA20002")
    ∷ one (codes "CLASS") (codes "PE") ∷ one (codes "DATE") (codes "12045") ∷ []

abbrev heading : List ℕ
heading = codes "SYSMOD   KIND    REASON   FMID     CLASS    DATE   RESOLVER CATEGORY\n"

-- nothing is held
pub no_statement : book_text (book_of (changes_of [])) ≡ heading ++ codes "ROWS 0\n"
unfolding digits
no_statement = refl

pub one_hold : book_text (book_of (changes_of (hold_at 1 in_error ∷ []))) ≡ heading ++ codes "UA10001  ERROR   AA20002  HBB7790  PE       12045  -        -\nROWS 1\n"
unfolding digits
one_hold = refl

-- names in small letters, the short name of the kind, operands in another order, others skipped
pub other_spelling : changes_of (hold_at 1 (one (codes "Date") (codes "12045") ∷ one (codes "class") (codes "PE") ∷ one (codes "comment") (codes "x") ∷ bare (codes "Err") ∷ one (codes "reason") (codes "AA20002") ∷ one (codes "fmid") (codes "HBB7790") ∷ []) ∷ []) ≡ changes_of (hold_at 1 in_error ∷ [])
other_spelling = refl

-- a second put of a key replaces the first whole, and the rows stand in the order of kinds
pub put_twice : book_text (book_of (changes_of (hold_at 1 (bare (codes "USER") ∷ one (codes "REASON") (codes "AA20002") ∷ []) ∷ hold_at 2 in_error ∷ hold_at 3 (bare (codes "ERROR") ∷ one (codes "REASON") (codes "AA20002") ∷ one (codes "CLASS") (codes "HIPER") ∷ []) ∷ []))) ≡ heading ++ codes "UA10001  ERROR   AA20002  -        HIPER    -      -        -\nUA10001  USER    AA20002  -        -        -      -        -\nROWS 2\n"
unfolding digits
put_twice = refl

abbrev key : HoldKey
key = record { sysmod = padded (codes "UA10001"); kind = ErrorHold; reason = padded (codes "AA20002") }

abbrev categorized : Hold
categorized =
    record { key = record key { kind = FixcatHold }; fmid = None; class = None; resolver = Some (padded (codes "UA10009")); dated = Some 1001; categories = codes "IBM.Device" ∷ codes "IBM.Device.Server" ∷ [] }

-- a release takes its key away, until the key is put again
pub released : book_of (changes_of (hold_at 1 in_error ∷ []) ++ Release key ∷ []) ≡ []
released = refl

pub put_again : book_of (Release key ∷ changes_of (hold_at 1 in_error ∷ [])) ≡ book_of (changes_of (hold_at 1 in_error ∷ []))
put_again = refl

-- a release of another kind leaves it
pub other_kind : book_text (book_of (Put categorized ∷ Release key ∷ [])) ≡ heading ++ codes "UA10001  FIXCAT  AA20002  -        -        01001  UA10009  IBM.Device,IBM.Device.Server\nROWS 1\n"
unfolding digits
other_kind = refl

-- faults: the first statement with one, and in it the lowest number
pub no_kind : first_fault (hold_at 1 (one (codes "REASON") (codes "AA20002") ∷ []) ∷ []) ≡ Some (NoKind 1)
no_kind = refl

pub two_kinds : first_fault (hold_at 1 (bare (codes "ERROR") ∷ bare (codes "SYSTEM") ∷ one (codes "REASON") (codes "AA20002") ∷ []) ∷ []) ≡ Some (TwoKinds 1)
two_kinds = refl

pub one_kind_twice : first_fault (hold_at 1 (bare (codes "ERROR") ∷ one (codes "ERR") (codes "X") ∷ one (codes "REASON") (codes "AA20002") ∷ []) ∷ []) ≡ None
one_kind_twice = refl

pub no_reason : first_fault (hold_at 1 in_error ∷ hold_at 4 (bare (codes "ERROR") ∷ bare (codes "REASON") ∷ one (codes "DATE") (codes "12367") ∷ []) ∷ hold_at 5 [] ∷ []) ≡ Some (NoReason 4)
no_reason = refl

pub two_reasons : first_fault (hold_at 2 (bare (codes "ERROR") ∷ one (codes "REASON") (codes "AA20002") ∷ one (codes "REASON") (codes "AA20002") ∷ []) ∷ []) ≡ Some (BadId 2)
two_reasons = refl

pub long_class : first_fault (hold_at 2 (bare (codes "ERROR") ∷ one (codes "REASON") (codes "AA20002") ∷ one (codes "CLASS") (codes "PEHIPERX") ∷ []) ∷ []) ≡ Some (BadId 2)
long_class = refl

pub last_day : date_of (codes "12366") ≡ Some 12366
last_day = refl

pub day_too_late : date_of (codes "12367") ≡ None
day_too_late = refl

pub no_day : date_of (codes "12000") ≡ None
no_day = refl

pub early_date : date_digits 1001 ≡ codes "01001"
early_date = refl

pub ascending : are_categories (codes "IBM.Device" ∷ codes "IBM.Device.Server" ∷ []) ≡ true
ascending = refl

pub repeated : are_categories (codes "IBM.Device" ∷ codes "IBM.Device" ∷ []) ≡ false
repeated = refl

-- ---- releases, resolvers and categories

abbrev release_at : ℕ → List OperandText → Statement
release_at line operands = record (hold_at line operands) { verb = verb.Release }

-- the hold goes, though the release names another function
pub released_by_key : book_of (changes_of (hold_at 1 in_error ∷ release_at 2 (bare (codes "ERR") ∷ one (codes "REASON") (codes "AA20002") ∷ one (codes "FMID") (codes "HXX0001") ∷ []) ∷ [])) ≡ []
released_by_key = refl

-- a release of what isn't held does nothing
pub nothing_released : book_of (changes_of (hold_at 1 in_error ∷ release_at 2 (bare (codes "USER") ∷ one (codes "REASON") (codes "AA20002") ∷ []) ∷ [])) ≡ book_of (changes_of (hold_at 1 in_error ∷ []))
nothing_released = refl

-- of a release the kind, REASON and FMID alone are read
pub release_skips : first_fault (release_at 1 (bare (codes "ERROR") ∷ one (codes "REASON") (codes "AA20002") ∷ one (codes "DATE") (codes "1") ∷ one (codes "RESOLVER") (codes "?") ∷ one (codes "CATEGORY") (codes "A'B") ∷ []) ∷ []) ≡ None
release_skips = refl

pub release_of_no_function : first_fault (release_at 1 (bare (codes "ERROR") ∷ one (codes "REASON") (codes "AA20002") ∷ one (codes "FMID") (codes "hxx") ∷ []) ∷ []) ≡ Some (BadId 1)
release_of_no_function = refl

pub no_category : first_fault (hold_at 1 (bare (codes "ERROR") ∷ one (codes "REASON") (codes "AA20002") ∷ one (codes "CATEGORY") (codes "A'B") ∷ []) ∷ []) ≡ Some (BadCategory 1)
no_category = refl

-- the fault with the lowest number is told
pub date_before_category : first_fault (hold_at 1 (bare (codes "ERROR") ∷ one (codes "REASON") (codes "AA20002") ∷ one (codes "CATEGORY") (codes "A'B") ∷ one (codes "DATE") (codes "12367") ∷ []) ∷ []) ≡ Some (BadDate 1)
date_before_category = refl

-- categories ascend, each once
pub ordered : in_order (codes "B" ∷ codes "a" ∷ codes "B" ∷ codes "A.B" ∷ codes "A" ∷ []) ≡ codes "A" ∷ codes "A.B" ∷ codes "B" ∷ codes "a" ∷ []
ordered = refl

pub on_one_sysmod : holds_on (book_of (changes_of (hold_at 1 in_error ∷ []))) (padded (codes "UA10002")) ≡ []
on_one_sysmod = refl
