-- The changes that statements make of the holds, and the faults that they may have (IBM z/OS SMP/E Reference, `++HOLD` and
-- `++RELEASE`).
use Rattle.std.specs.Prelude.{◌&&◌, ◌++◌, ℕ, not, Bool, List, [], ◌∷◌, codes, Option, Some, None, is_none, option_and_then, if◌then◌else◌}
use Rattle.std.specs.Option.{option_map}
use Rattle.std.specs.List.{filter_map, flat_map, list_all}
use Rattle.mcs_reader.specs.Category.{is_category}
use Rattle.mcs_reader.specs.declared.statement.Statement.{Statement}
use Rattle.mcs_reader.specs.declared.statement.Verb.{Verb}
use Rattle.mcs_reader.specs.declared.statement.Verb.TheVariants as verb
use Rattle.holddata.specs.declared.key.HoldKey.{HoldKey}
use Rattle.holddata.specs.declared.key.Kind.{Kind}
use Rattle.holddata.specs.declared.hold.Hold.{Hold}
use Rattle.holddata.specs.declared.hold.HoldChange.{HoldChange}
use Rattle.holddata.specs.declared.hold.HoldChange.TheVariants.{Put, Release}
use Rattle.holddata.specs.declared.fault.HoldFault.{HoldFault}
use Rattle.holddata.specs.declared.fault.HoldFault.TheVariants.{NoKind, TwoKinds, NoReason, BadId, BadDate, BadCategory}
use Rattle.holddata.specs.Categories.{in_order}
use Rattle.holddata.specs.Operands.{kinds_of, the_kind, values_of, is_nothing, the_id, the_date, is_bad_id, is_bad_date}

-- the values that a statement gives for an operand
abbrev pub given : Statement → List ℕ → List (List ℕ)
given statement name = values_of name statement.operands

-- the key that a statement names, if it has its three parts
abbrev pub key_named : Statement → Option HoldKey
key_named statement =
    option_and_then (λ sysmod.
    option_and_then (λ kind.
    option_map (λ reason. record { sysmod = sysmod; kind = kind; reason = reason })
    (the_id (given statement (codes "REASON")))) (the_kind (kinds_of statement.operands))) statement.subject

-- the hold of a `++HOLD` statement
abbrev pub hold_of : Statement → Option Hold
hold_of statement =
    option_map (λ key.
    record {
      key = key;
      fmid = the_id (given statement (codes "FMID"));
      class = the_id (given statement (codes "CLASS"));
      resolver = the_id (given statement (codes "RESOLVER"));
      dated = the_date (given statement (codes "DATE"));
      categories = in_order (given statement (codes "CATEGORY"));
    }) (key_named statement)

-- the change that a statement makes of the holds: HOLD puts one, RELEASE takes one away whatever its FMID is, and the other
-- verbs make none
abbrev pub change_by : Verb → Statement → Option HoldChange
change_by verb.Hold statement = option_map Put (hold_of statement)
change_by verb.Release statement = option_map Release (key_named statement)
change_by verb.Func statement = None
change_by verb.Ptf statement = None
change_by verb.Apar statement = None
change_by verb.Usermod statement = None
change_by verb.Ver statement = None
change_by verb.Cond statement = None

abbrev pub change_of : Statement → Option HoldChange
change_of statement = change_by statement.verb statement

abbrev pub fault_if : Bool → HoldFault → List HoldFault
fault_if has fault = if has then fault ∷ [] else []

-- the faults of the kinds that a statement names
abbrev pub kind_faults : ℕ → List Kind → List HoldFault
kind_faults line kinds =
    fault_if (is_nothing kinds) (NoKind line)
    ++ fault_if (not (is_nothing kinds) && is_none (the_kind kinds)) (TwoKinds line)

-- the faults of the key that a statement names
abbrev pub key_faults : Statement → List HoldFault
key_faults statement =
    kind_faults statement.line (kinds_of statement.operands)
    ++ fault_if (is_nothing (given statement (codes "REASON"))) (NoReason statement.line)
    ++ fault_if (is_none statement.subject) (BadId statement.line)
    ++ fault_if (is_bad_id (given statement (codes "REASON"))) (BadId statement.line)

-- the faults of the other operands of a hold
abbrev pub hold_faults : Statement → List HoldFault
hold_faults statement =
    fault_if (is_bad_id (given statement (codes "FMID"))) (BadId statement.line)
    ++ fault_if (is_bad_id (given statement (codes "CLASS"))) (BadId statement.line)
    ++ fault_if (is_bad_id (given statement (codes "RESOLVER"))) (BadId statement.line)
    ++ fault_if (is_bad_date (given statement (codes "DATE"))) (BadDate statement.line)
    ++ fault_if (not (list_all is_category (given statement (codes "CATEGORY")))) (BadCategory statement.line)

-- the faults of the other operands of a release that are read: FMID alone
abbrev pub release_faults : Statement → List HoldFault
release_faults statement = fault_if (is_bad_id (given statement (codes "FMID"))) (BadId statement.line)

-- the faults of a statement, in the order of their numbers
abbrev pub faults_by : Verb → Statement → List HoldFault
faults_by verb.Hold statement = key_faults statement ++ hold_faults statement
faults_by verb.Release statement = key_faults statement ++ release_faults statement
faults_by verb.Func statement = []
faults_by verb.Ptf statement = []
faults_by verb.Apar statement = []
faults_by verb.Usermod statement = []
faults_by verb.Ver statement = []
faults_by verb.Cond statement = []

abbrev pub faults_of : Statement → List HoldFault
faults_of statement = faults_by statement.verb statement

-- the first of a list
abbrev pub first_of : {A : Type 0} → List A → Option A
first_of [] = None
first_of (x ∷ xs) = Some x

-- the fault of a list of statements: of the first that has one, the fault with the lowest number
abbrev pub first_fault : List Statement → Option HoldFault
first_fault statements = first_of (flat_map faults_of statements)

-- the changes that statements make of the holds, if none has a fault
abbrev pub changes_of : List Statement → List HoldChange
changes_of statements = filter_map change_of statements
