-- The changes that statements publish, and the faults that they may have (IBM z/OS SMP/E Reference, `++FUNCTION`, `++PTF`,
-- `++APAR`, `++USERMOD`, `++VER`, `++IF`). Holds and releases are read as HOLDDATA is.
use Rattle.std.specs.Prelude.{◌≡◌, ℕ, ◌||◌, ◌++◌, not, map, Bool, true, false, List, [], ◌∷◌, codes, Option, Some, None, is_none, is_some, option_map, if◌then◌else◌}
use Rattle.std.specs.List.{filter_map, flat_map, fold, list_any}
use Rattle.std.specs.Option.{option_or, option_to_list}
use Rattle.mcs_reader.specs.Id.{id_of}
use Rattle.mcs_reader.specs.declared.statement.Statement.{Statement}
use Rattle.mcs_reader.specs.StatementText.{sole}
use Rattle.mcs_reader.specs.declared.statement.Verb.{Verb}
use Rattle.mcs_reader.specs.declared.statement.Verb.TheVariants as verb
use Rattle.holddata.specs.Operands.{the_id}
use Rattle.holddata.specs.Statements as holddata
use Rattle.catalogue.specs.declared.change.Change.{Change}
use Rattle.catalogue.specs.declared.change.Change.TheVariants.{Whole, OfHold}
use Rattle.catalogue.specs.declared.fault.CatFault.{CatFault}
use Rattle.catalogue.specs.declared.fault.CatFault.TheVariants.{VerOutside, IfOutside, IfFmid, BadId, Held}
use Rattle.catalogue.specs.declared.sysmod.Sysmod.{Sysmod}
use Rattle.catalogue.specs.declared.sysmod.SysmodKind.{SysmodKind}
use Rattle.catalogue.specs.declared.sysmod.SysmodKind.TheVariants.{Func, Ptf, Apar, Usermod}
use Rattle.catalogue.specs.declared.conditional.CondNeed.{CondNeed}
use Rattle.catalogue.specs.Conditional.{put_conds, required_under}
use Rattle.catalogue.specs.Ids.{in_order, put_among}

-- ---- records

-- the part of a statement in a source of SYSMODs
pub data Part : Type 0 where
  -- it begins a SYSMOD: it is a header
  Header : SysmodKind → Part
  -- it says more of the SYSMOD whose header stands before it
  More : Part
  -- it says what that SYSMOD needs if a function is installed
  OnCondition : Part
  -- it puts or releases a hold
  OnHold : Part

abbrev pub part_by : Verb → Part
part_by verb.Func = Header Func
part_by verb.Ptf = Header Ptf
part_by verb.Apar = Header Apar
part_by verb.Usermod = Header Usermod
part_by verb.Ver = More
part_by verb.Cond = OnCondition
part_by verb.Hold = OnHold
part_by verb.Release = OnHold

abbrev pub part_of : Statement → Part
part_of statement = part_by statement.verb

-- the ids that a statement gives for an operand
abbrev pub ids_given : List ℕ → Statement → List (List ℕ)
ids_given name statement = filter_map id_of (holddata.given statement name)

-- the `++VER` statements in front of the next header: they belong to the header before them
abbrev pub vers_in : Part → Statement → List Statement → List Statement
vers_in (Header kind) statement rest = []
vers_in More statement rest = statement ∷ rest
vers_in OnCondition statement rest = rest
vers_in OnHold statement rest = rest

abbrev pub vers_in_front : List Statement → List Statement
vers_in_front [] = []
vers_in_front (statement ∷ statements) = vers_in (part_of statement) statement (vers_in_front statements)

-- the `++IF` statements in front of the next header: they belong to the header before them too
abbrev pub ifs_in : Part → Statement → List Statement → List Statement
ifs_in (Header kind) statement rest = []
ifs_in More statement rest = rest
ifs_in OnCondition statement rest = statement ∷ rest
ifs_in OnHold statement rest = rest

abbrev pub ifs_in_front : List Statement → List Statement
ifs_in_front [] = []
ifs_in_front (statement ∷ statements) = ifs_in (part_of statement) statement (ifs_in_front statements)

-- the ids that statements give for an operand, all together, in ascending order, each once
abbrev pub ids_joined : List ℕ → List Statement → List (List ℕ)
ids_joined name vers = in_order (flat_map (ids_given name) vers)

-- the requisites of an `++IF`: each id that its REQ gives, if the one function that its FMID gives is installed
abbrev pub conds_under : Option (List ℕ) → List (List ℕ) → List CondNeed
conds_under None needs = []
conds_under (Some fmid) needs = required_under fmid needs

abbrev pub conds_given : Statement → List CondNeed
conds_given statement = conds_under (the_id (holddata.given statement (codes "FMID"))) (in_order (ids_given (codes "REQ") statement))

-- the requisites of `++IF` statements, all together, in ascending order, each once
abbrev pub conds_joined : List Statement → List CondNeed
conds_joined ifs = put_conds [] (flat_map conds_given ifs)

-- the record of a SYSMOD with its `++VER` and its `++IF` statements
abbrev pub record_by : SysmodKind → List ℕ → List Statement → List Statement → Sysmod
record_by kind id vers ifs = record {
  id = id;
  kind = kind;
  fmids = ids_joined (codes "FMID") vers;
  pre = ids_joined (codes "PRE") vers;
  req = ids_joined (codes "REQ") vers;
  conds = conds_joined ifs;
  sup = ids_joined (codes "SUP") vers;
}

-- the changes that one statement publishes in its place, with the `++VER` and `++IF` statements that belong to it
abbrev pub changes_by : Part → Statement → List Statement → List Statement → List Change
changes_by (Header kind) statement vers ifs = option_to_list (option_map (λ id. Whole (record_by kind id vers ifs)) statement.subject)
changes_by More statement vers ifs = []
changes_by OnCondition statement vers ifs = []
changes_by OnHold statement vers ifs = option_to_list (option_map OfHold (holddata.change_of statement))

-- the changes that statements publish, in order, if none has a fault
abbrev pub changes_of : List Statement → List Change
changes_of [] = []
changes_of (statement ∷ statements) =
    changes_by (part_of statement) statement (vers_in_front statements) (ifs_in_front statements) ++ changes_of statements

-- ---- faults

abbrev pub is_header : Part → Bool
is_header (Header kind) = true
is_header More = false
is_header OnCondition = false
is_header OnHold = false

abbrev pub is_no_id : List ℕ → Bool
is_no_id value = is_none (id_of value)

-- whether a statement gives a value for an operand that is no id
abbrev pub gives_no_id : Statement → List ℕ → Bool
gives_no_id statement name = list_any is_no_id (holddata.given statement name)

abbrev pub has_bad_id : Statement → Bool
has_bad_id statement =
    gives_no_id statement (codes "FMID") || gives_no_id statement (codes "PRE")
    || gives_no_id statement (codes "REQ") || gives_no_id statement (codes "SUP")

abbrev pub fault_if : Bool → CatFault → List CatFault
fault_if has fault = if has then fault ∷ [] else []

-- whether an `++IF` gives just one value for FMID
abbrev pub has_function : Statement → Bool
has_function statement = is_some (sole (holddata.given statement (codes "FMID")))

-- whether it gives a value that is no id
abbrev pub requires_no_id : Statement → Bool
requires_no_id statement = gives_no_id statement (codes "FMID") || gives_no_id statement (codes "REQ")

-- the faults of an `++IF` after a header
abbrev pub if_faults : Statement → List CatFault
if_faults statement = fault_if (not (has_function statement)) (IfFmid statement.line) ++ fault_if (requires_no_id statement) (BadId statement.line)

-- the faults of a statement, first the one for which it is refused; `begun` is whether a header stands before it
abbrev pub faults_by : Part → Bool → Statement → List CatFault
faults_by (Header kind) begun statement = fault_if (is_none statement.subject) (BadId statement.line)
faults_by More begun statement = fault_if (not begun) (VerOutside statement.line) ++ fault_if (has_bad_id statement) (BadId statement.line)
faults_by OnCondition begun statement = fault_if (not begun) (IfOutside statement.line) ++ if_faults statement
faults_by OnHold begun statement = map Held (holddata.faults_of statement)

abbrev pub faults_of : Bool → Statement → List CatFault
faults_of begun statement = faults_by (part_of statement) begun statement

-- the fault of statements: of the first that has one, its first
abbrev pub first_fault : Bool → List Statement → Option CatFault
first_fault begun [] = None
first_fault begun (statement ∷ statements) =
    option_or (holddata.first_of (faults_of begun statement)) (first_fault (begun || is_header (part_of statement)) statements)

-- ---- one statement at a time

-- what was read so far: the changes before the last header, the record of that header, if there is one, as far as it was
-- read, and the changes of the holds after it
pub record Begun : Type 0 where
  pub before : List Change
  pub open_record : Option Sysmod
  pub after : List Change

abbrev pub nothing_begun : Begun
nothing_begun = record { before = []; open_record = None; after = [] }

-- the changes of what was read
abbrev pub changes_in : Begun → List Change
changes_in begun = begun.before ++ (option_to_list (option_map Whole begun.open_record) ++ begun.after)

-- the record with what one more `++VER` statement says
abbrev pub with_ver : Statement → Sysmod → Sysmod
with_ver ver sysmod = record sysmod {
  fmids = put_among sysmod.fmids (ids_given (codes "FMID") ver);
  pre = put_among sysmod.pre (ids_given (codes "PRE") ver);
  req = put_among sysmod.req (ids_given (codes "REQ") ver);
  sup = put_among sysmod.sup (ids_given (codes "SUP") ver);
}

-- the record with what one more `++IF` statement says
abbrev pub with_if : Statement → Sysmod → Sysmod
with_if condition sysmod = record sysmod { conds = put_conds sysmod.conds (conds_given condition) }

-- one more statement is read: a header ends what was read so far, a VER and an IF belong to the open record, a hold comes
-- after
abbrev pub with_part : Part → Statement → Begun → Begun
with_part (Header kind) statement begun = record {
  before = changes_in begun;
  open_record = option_map (λ id. record_by kind id [] []) statement.subject;
  after = [];
}
with_part More statement begun = record begun { open_record = option_map (with_ver statement) begun.open_record }
with_part OnCondition statement begun = record begun { open_record = option_map (with_if statement) begun.open_record }
with_part OnHold statement begun = record begun { after = begun.after ++ option_to_list (option_map OfHold (holddata.change_of statement)) }

abbrev pub with_statement : Begun → Statement → Begun
with_statement begun statement = with_part (part_of statement) statement begun

-- among statements without faults a record is open exactly if a header is among them
abbrev pub HeadersOpen : Type 0
HeadersOpen = (statements : List Statement) → first_fault false statements ≡ None
    → is_some (fold with_statement nothing_begun statements).open_record ≡ list_any (λ statement. is_header (part_of statement)) statements
