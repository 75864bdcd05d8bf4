-- What the inputs say, from what is read of each.
use Rattle.std.proofs.Common.{◌≡◌, inl, inr, ℕ, ◌+◌, ◌<◌, ◌≤◌, Bool, true, false, List, [], ◌∷◌, ◌++◌, length, refl, sym, ◌∙◌, ap, subst, append_assoc, append-nil, arith}
use Rattle.std.specs.Prelude.{Option, Some, None, Result, Ok, Err, IfErr, IfSome, IsErrAnd, IsSome, nat_le}
use Rattle.std.proofs.lemmas.Bool.{le-leb, lt-leb}
use Rattle.faults.specs.FaultText.{text_of}
use Rattle.faults.specs.Refusal.{IsRefusal}
use Rattle.faults.specs.Told.{of_input}
use Rattle.faults.specs.declared.any.AnyFault.{AnyFault}
use Rattle.faults.specs.declared.fault.Cause.{Cause}
use Rattle.faults.specs.declared.fault.Cause.TheVariants.{Input as InputCause, Machine}
use Rattle.mcs_reader.specs.Asking.{reading_asking}
use Rattle.mcs_reader.specs.McsFault as mcs
use Rattle.mcs_reader.specs.ReadingOf.{reading_of}
use Rattle.mcs_reader.specs.Unread.{Read, with_statements}
use Rattle.mcs_reader.specs.declared.statement.Statement.{Statement}
use Rattle.mcs_reader.specs.declared.fault.McsFault.{McsFault}
use Rattle.mcs_reader.specs.declared.fault.McsFault.TheVariants as mcs_fault
use Rattle.holddata.specs.HoldFault as hold
use Rattle.holddata.specs.declared.fault.HoldFault.{HoldFault}
use Rattle.holddata.specs.declared.fault.HoldFault.TheVariants as hold_fault
use Rattle.zone_lists.specs.ListFault as list
use Rattle.zone_lists.specs.declared.fault.ListFault.{ListFault}
use Rattle.zone_lists.specs.declared.fault.ListFault.TheVariants as list_fault
use Rattle.catalogue.specs.CatFault as cat
use Rattle.catalogue.specs.declared.fault.CatFault.{CatFault}
use Rattle.catalogue.specs.declared.fault.CatFault.TheVariants as cat_fault
use Rattle.catalogue.specs.Content.{Content}
use Rattle.catalogue.specs.Publication.{content_of}
use Rattle.catalogue.specs.declared.change.Change.{Change}
use Rattle.bureau.specs.Bodies.{ids_in, list_said, patterns_in, published_by, rows_in}
use Rattle.bureau.specs.Faults.{IsTold}
use Rattle.file_reports.specs.Inputs.{Inputs, IsFirstFault, IsGiven, IsMemory, if_not_long, list_in, most_bytes, rows_said, Refused, Said, and_then, content_published, if_any, HasAny, input_at_fault, publication_in, published_from, said_in, said_by, statements_in, patterns_said, received_said, told_in}
use Rattle.file_reports.specs.declared.fault.Input.{Input}
use Rattle.file_reports.specs.Reports.{made_from}
use Rattle.file_reports.specs.declared.fault.Input.TheVariants.{Zone, Categories, Received, Publication}
use Rattle.file_reports.specs.declared.fault.InputFault.{InputFault}

-- what an input says
pub said_so : {A : Type 0} (input : Input) (said : Result A (List ℕ)) (what : A) → said ≡ Ok what → said_in input said ≡ Ok what
said_so {A} input said what is = ap (λ (result : Result A (List ℕ)). said_in input result) is

-- the reader of statements, the catalogue and the lists have no fault of the machine but want of memory
pub memory_of_mcs : (fault : McsFault) → (mcs.told fault).cause ≡ Machine → IsMemory (mcs.told fault)
memory_of_mcs (mcs_fault.NoPeriod line) is = absurd (cc)
memory_of_mcs (mcs_fault.BadVerbSubject line) is = absurd (cc)
memory_of_mcs (mcs_fault.Unbalanced line) is = absurd (cc)
memory_of_mcs (mcs_fault.BadByte line) is = absurd (cc)
memory_of_mcs mcs_fault.TooLong is = absurd (cc)
memory_of_mcs mcs_fault.Memory is = inl refl

memory_of_hold : (fault : HoldFault) → (hold.told fault).cause ≡ Machine → IsMemory (hold.told fault)
memory_of_hold (hold_fault.NoKind line) is = absurd (cc)
memory_of_hold (hold_fault.TwoKinds line) is = absurd (cc)
memory_of_hold (hold_fault.NoReason line) is = absurd (cc)
memory_of_hold (hold_fault.BadId line) is = absurd (cc)
memory_of_hold (hold_fault.BadDate line) is = absurd (cc)
memory_of_hold (hold_fault.BadCategory line) is = absurd (cc)
memory_of_hold hold_fault.Memory is = inr (inl refl)

pub memory_of_cat : (fault : CatFault) → (cat.told fault).cause ≡ Machine → IsMemory (cat.told fault)
memory_of_cat (cat_fault.VerOutside line) is = absurd (cc)
memory_of_cat (cat_fault.BadId line) is = absurd (cc)
memory_of_cat (cat_fault.IfOutside line) is = absurd (cc)
memory_of_cat (cat_fault.IfFmid line) is = absurd (cc)
memory_of_cat (cat_fault.Held fault) is = memory_of_hold fault is
memory_of_cat cat_fault.Memory is = inr (inr (inl refl))

pub memory_of_list : (fault : ListFault) → (list.told fault).cause ≡ Machine → IsMemory (list.told fault)
memory_of_list list_fault.Header is = absurd (cc)
memory_of_list (list_fault.BadRecord n) is = absurd (cc)
memory_of_list (list_fault.BadId n) is = absurd (cc)
memory_of_list (list_fault.BadState n) is = absurd (cc)
memory_of_list (list_fault.BadPattern n) is = absurd (cc)
memory_of_list (list_fault.Repeated n) is = absurd (cc)
memory_of_list list_fault.TooMany is = absurd (cc)
memory_of_list list_fault.Memory is = inr (inr (inr (inr refl)))

-- a fault that is passed on, of the machine for want of memory alone
pub passed_memory : {T : Type 0} (result : Result T AnyFault) (fault : AnyFault) → IsErrAnd result (λ any. any ≡ fault) → (fault.cause ≡ Machine → IsMemory fault)
    → IfErr result (λ fault. fault.cause ≡ Machine → IsMemory fault)
passed_memory (Ok value) fault is memory = absurd is
passed_memory (Err any) fault is memory = subst (λ (told : AnyFault). told.cause ≡ Machine → IsMemory told) (sym is) memory

-- the fault of an input, as it is told
pub refused_in : {A : Type 0} (input : Input) (said : Result A (List ℕ)) (fault : AnyFault) → IsTold said fault → (fault.cause ≡ Machine → IsMemory fault)
    → IsFirstFault (said_in input said) (told_in input fault)
refused_in input said fault (inl machine) memory = inl (ap (input_at_fault input) machine, memory machine)
refused_in {A} input said fault (inr is) memory = inr (is.0, (input, ap (input_at_fault input) is.0, ap (λ (result : Result A (List ℕ)). said_in input result) is.1))

-- a list that is not too long
pub list_fits : {A : Type 0} (input : Input) (body : List ℕ) (said : Result A (List ℕ)) → length body ≤ most_bytes → list_in input body said ≡ said_in input said
list_fits {A} input body said fits =
    ap (λ (b : Bool). if_not_long b input said) (le-leb (length body) most_bytes fits)

-- a list that is too long
pub too_long : {A : Type 0} (input : Input) (body : List ℕ) (said : Result A (List ℕ)) → most_bytes < length body → IsFirstFault (list_in input body said) (told_in input (of_input 5))
too_long {A} input body said long =
    inr (refl, (input, refl, ap (λ (b : Bool). if_not_long b input said) (lt-leb (length body) most_bytes long)))

-- what a list says
pub list_said_so : {A : Type 0} (input : Input) (body : List ℕ) (said : Result A (List ℕ)) (what : A) → length body ≤ most_bytes → said ≡ Ok what → list_in input body said ≡ Ok what
list_said_so input body said what fits is = list_fits input body said fits ∙ said_so input said what is

-- the fault of a list
pub list_refused : {A : Type 0} (input : Input) (body : List ℕ) (read : Result A ListFault) (fault : ListFault) → length body ≤ most_bytes
    → IsRefusal list_fault.Memory (λ (told : ListFault). read ≡ Err told) fault → IsFirstFault (list_in input body (list_said read)) (told_in input (list.told fault))
list_refused {A} input body read fault fits refusal =
    subst (λ (said : Result A Refused). IsFirstFault said (told_in input (list.told fault))) (sym (list_fits input body (list_said read) fits))
    (refused_in input (list_said read) (list.told fault) (told refusal) (memory_of_list fault))
  where
    by : (cause : Cause) → (list.told fault).cause ≡ cause → read ≡ Err fault → IsTold (list_said read) (list.told fault)
    by Machine is refused = inl is
    by InputCause is refused = inr (is, ap (λ (result : Result A ListFault). list_said result) refused)

    told : IsRefusal list_fault.Memory (λ (told : ListFault). read ≡ Err told) fault → IsTold (list_said read) (list.told fault)
    told (inl memory) = inl (ap (λ f. (list.told f).cause) memory)
    told (inr refused) = by (list.told fault).cause refl refused

-- what is refused first is refused of all
pub refused_first : {A B : Type 0} (first : Result A Refused) (next : A → Result B Refused) (told : InputFault) → IsFirstFault first told → IsFirstFault (and_then first next) told
refused_first first next told (inl machine) = inl machine
refused_first {A} {B} first next told (inr is) = inr (is.0, (is.1.0, is.1.1, ap (λ (result : Result A Refused). and_then result next) is.1.2))

-- what is said first, and what is refused then
pub refused_then : {A B : Type 0} (first : Result A Refused) (next : A → Result B Refused) (what : A) (told : InputFault) → first ≡ Ok what → IsFirstFault (next what) told → IsFirstFault (and_then first next) told
refused_then {A} {B} first next what told is refused = subst (λ (result : Result B Refused). IsFirstFault result told) (sym (ap (λ (result : Result A Refused). and_then result next) is)) refused

-- a refusal that is passed on
pub passed_on : {T A : Type 0} (result : Result T InputFault) (said : Result A Refused) (told : InputFault) → IsErrAnd result (λ fault. fault ≡ told) → IsFirstFault said told → IfErr result (IsFirstFault said)
passed_on (Ok value) said told is refused = absurd is
passed_on {T} {A} (Err fault) said told is refused = subst (λ (told : InputFault). IsFirstFault said told) (sym is) refused

-- what is said first, and what is said then
pub said_then : {A B : Type 0} (first : Result A Refused) (next : A → Result B Refused) (what : A) (all : B) → first ≡ Ok what → next what ≡ Ok all → and_then first next ≡ Ok all
said_then {A} first next what all is later = ap (λ (result : Result A Refused). and_then result next) is ∙ later

-- ---- whether a publication has a statement

pub none_read : (names : List (List ℕ)) (read left : Read) → left ≡ reading_asking names read → left ≡ Ok [] → HasAny false read
none_read names (Ok []) left is ended said = refl
none_read names (Ok (statement ∷ more)) left is ended said = absurd (cc)
none_read names (Err fault) left is ended said = absurd (cc)

pub one_read : (names : List (List ℕ)) (read left now : Read) (first : Statement) → left ≡ reading_asking names read → left ≡ with_statements (first ∷ []) now → HasAny true read
one_read names (Ok []) left (Ok rest) first is gives said = absurd (cc)
one_read names (Ok []) left (Err fault) first is gives said = absurd (cc)
one_read names (Ok (statement ∷ more)) left now first is gives said = refl
one_read names (Err fault) left now first is gives said = refl

-- a source that is not read is refused for the fault of its text
pub unread_told : (body : List ℕ) (fault : McsFault) → IsRefusal mcs_fault.Memory (λ (told : McsFault). reading_of body ≡ Err told) fault → IsTold (statements_in body) (mcs.told fault)
unread_told body fault (inl memory) = inl (ap (λ f. (mcs.told f).cause) memory)
unread_told body fault (inr refused) = by (mcs.told fault).cause refl
  where
    by : (cause : Cause) → (mcs.told fault).cause ≡ cause → IsTold (statements_in body) (mcs.told fault)
    by Machine e = inl e
    by InputCause e = inr (e, ap (λ (read : Read). if_any read (published_by read)) refused)

-- ---- publications, one after the other

-- the content of what was published earlier and of what publications publish, of which the first has this index
abbrev pub content_with : List Change → ℕ → List (List ℕ) → Result Content Refused
content_with earlier index bodies = and_then (published_from index bodies) (λ later. Ok (content_of (earlier ++ later)))

-- the next publication was read
pub next_read : (earlier changes : List Change) (index : ℕ) (body : List ℕ) (bodies : List (List ℕ)) → said_in (Publication index) (publication_in body) ≡ Ok changes
    → content_with earlier index (body ∷ bodies) ≡ content_with (earlier ++ changes) (index + 1) bodies
next_read earlier changes index body bodies is =
    ap (λ (said : Result (List Change) Refused). and_then (and_then said (λ changes. and_then (published_from (index + 1) bodies) (λ later. Ok (changes ++ later)))) (λ all. Ok (content_of (earlier ++ all)))) is
    ∙ by (published_from (index + 1) bodies)
  where
    by : (rest : Result (List Change) Refused)
        → and_then (and_then rest (λ later. Ok (changes ++ later))) (λ all. Ok (content_of (earlier ++ all))) ≡ and_then rest (λ later. Ok (content_of ((earlier ++ changes) ++ later)))
    by (Err refused) = refl
    by (Ok later) = ap (λ (all : List Change). Ok (content_of all)) (sym (append_assoc earlier changes later))

-- it is refused
pub next_refused : (earlier : List Change) (index : ℕ) (body : List ℕ) (bodies : List (List ℕ)) (told : InputFault) → IsFirstFault (said_in (Publication index) (publication_in body)) told
    → IsFirstFault (content_with earlier index (body ∷ bodies)) told
next_refused earlier index body bodies told refused =
    refused_first (published_from index (body ∷ bodies)) _ told (refused_first (said_in (Publication index) (publication_in body)) _ told refused)

-- none is left
pub none_left : (earlier : List Change) (index : ℕ) → content_with earlier index [] ≡ Ok (content_of earlier)
none_left earlier index = ap (λ (all : List Change). Ok (content_of all)) (append-nil earlier)

-- ---- which input has the fault

-- the fault of the first or of what comes then
and_then_refused : {A B : Type 0} (Is : Refused → Type 0) (first : Result A Refused) (next : A → Result B Refused)
    → ((refused : Refused) → first ≡ Err refused → Is refused) → ((what : A) (refused : Refused) → next what ≡ Err refused → Is refused)
    → (refused : Refused) → and_then first next ≡ Err refused → Is refused
and_then_refused Is (Ok what) next one two refused is = two what refused is
and_then_refused {A} {B} Is (Err told) next one two refused is = one refused (ap (λ (r : Refused). Err r) (same is))
  where
    same : ◌≡◌ {A = Result B Refused} (Err told) (Err refused) → told ≡ refused
    same e = cc e

refused_of : {A : Type 0} (input : Input) (said : Result A (List ℕ)) (refused : Refused) → said_in input said ≡ Err refused → input ≡ refused.input
refused_of input (Ok what) refused is = absurd (cc is)
refused_of {A} input (Err line) refused is = ap (λ (r : Refused). r.input) (same is)
  where
    same : ◌≡◌ {A = Result A Refused} (Err (record { input = input; line = line })) (Err refused) → ◌≡◌ {A = Refused} (record { input = input; line = line }) refused
    same e = cc e

refused_list : {A : Type 0} (input : Input) (body : List ℕ) (said : Result A (List ℕ)) (refused : Refused) → list_in input body said ≡ Err refused → input ≡ refused.input
refused_list {A} input body said refused is = by (nat_le (length body) most_bytes) is
  where
    same : ◌≡◌ {A = Result A Refused} (Err (record { input = input; line = text_of (of_input 5) })) (Err refused)
        → ◌≡◌ {A = Refused} (record { input = input; line = text_of (of_input 5) }) refused
    same e = cc e

    by : (b : Bool) → if_not_long b input said ≡ Err refused → input ≡ refused.input
    by true e = refused_of input said refused e
    by false e = ap (λ (r : Refused). r.input) (same e)

-- a publication that is refused is one of those that are given
abbrev IsOneOf : ℕ → Refused → Type 0
IsOneOf end refused = (at : ℕ) × (Publication at ≡ refused.input) × (at < end)

publication_given : (first end : ℕ) (bodies : List (List ℕ)) → first + length bodies ≡ end → (refused : Refused) → published_from first bodies ≡ Err refused → IsOneOf end refused
publication_given first end [] ends refused is = absurd (cc is)
publication_given first end (body ∷ bodies) ends refused is =
    and_then_refused (IsOneOf end) (said_in (Publication first) (publication_in body)) (λ changes. and_then (published_from (first + 1) bodies) (λ later. Ok (changes ++ later)))
    (λ refused e. (first, refused_of (Publication first) (publication_in body) refused e, omega (arith, ends)))
    (λ changes refused e. and_then_refused (IsOneOf end) (published_from (first + 1) bodies) (λ later. Ok (changes ++ later))
    (λ refused e. publication_given (first + 1) end bodies (omega (arith, ends)) refused e) (λ later refused e. absurd (cc e)) refused e)
    refused is

-- the input that is refused is one of those that are given
given : (inputs : Inputs) (refused : Refused) → said_by inputs ≡ Err refused → IsGiven inputs refused.input
given inputs refused is =
    and_then_refused Is (rows_said inputs.zone) _ (λ refused e. subst (IsGiven inputs) (refused_list Zone inputs.zone (rows_in inputs.zone) refused e) tt)
    (λ rows. and_then_refused Is (patterns_said inputs.categories) _ (categories inputs.categories refl)
    (λ patterns. and_then_refused Is (received_said inputs.received) _ (received inputs.received refl)
    (λ ids. and_then_refused Is (content_published inputs.publications) _ publication (λ content refused e. absurd (cc e)))))
    refused is
  where
    Is : Refused → Type 0
    Is refused = IsGiven inputs refused.input

    categories : (body : Option (List ℕ)) → inputs.categories ≡ body → (refused : Refused) → patterns_said body ≡ Err refused → Is refused
    categories None there refused e = absurd (cc e)
    categories (Some body) there refused e =
        subst (IsGiven inputs) (refused_list Categories body (patterns_in body) refused e) (subst (λ (o : Option (List ℕ)). IsSome o) (sym there) refl)

    received : (body : Option (List ℕ)) → inputs.received ≡ body → (refused : Refused) → received_said body ≡ Err refused → Is refused
    received None there refused e = absurd (cc e)
    received (Some body) there refused e =
        subst (IsGiven inputs) (refused_list Received body (ids_in body) refused e) (subst (λ (o : Option (List ℕ)). IsSome o) (sym there) refl)

    publication : (refused : Refused) → content_published inputs.publications ≡ Err refused → Is refused
    publication refused e =
        let it = and_then_refused (IsOneOf (length inputs.publications)) (published_from 0 inputs.publications) (λ changes. Ok (content_of changes))
        (publication_given 0 (length inputs.publications) inputs.publications (omega arith)) (λ changes refused e. absurd (cc e)) refused e in
        subst (IsGiven inputs) it.1 it.2

-- the fault that is told of a text is in an input that is given, or in none
pub fault_given : {A : Type 0} (text : Said → A) (inputs : Inputs) (told : InputFault) → IsFirstFault (made_from text inputs) told → IfSome told.input (IsGiven inputs)
fault_given text inputs told (inl memory) = subst (λ (o : Option Input). IfSome o (IsGiven inputs)) (sym memory.0) tt
fault_given text inputs told (inr is) =
    let refused : Refused = record { input = is.1.0; line = text_of told.fault } in
    subst (λ (o : Option Input). IfSome o (IsGiven inputs)) (sym is.1.1)
    (and_then_refused (λ refused. IsGiven inputs refused.input) (said_by inputs) (λ said. Ok (text said)) (given inputs) (λ said refused e. absurd (cc e)) refused is.1.2)
