-- What statements do to the holds is the same where no other operands are read than those that are asked for.
use Rattle.std.proofs.Common.{◌≡◌, ℕ, Bool, true, false, ◌||◌, ◌++◌, cond, List, [], ◌∷◌, map, codes, refl, sym, ◌∙◌, ap, Option, None, filter, option_and_then}
use Rattle.std.specs.Prelude.{not, is_none}
use Rattle.std.specs.Option.{option_map}
use Rattle.std.specs.List.{cons_option, flat_map, list_all, list_any}
use Rattle.std.specs.Str.{bytes_eq, str_eq_ignore_ascii_case}
use Rattle.std.proofs.lemmas.Bool.{and_parts, or_parts}
use Rattle.std.proofs.lemmas.Slice.Eq.{bytes_eq-Decides}
use Rattle.mcs_reader.specs.Asking.{asking, is_asked}
use Rattle.mcs_reader.specs.Category.{is_category}
use Rattle.mcs_reader.specs.OperandText.{OperandText}
use Rattle.mcs_reader.specs.declared.statement.Statement.{Statement}
use Rattle.mcs_reader.specs.declared.statement.Verb.{Verb}
use Rattle.mcs_reader.specs.declared.statement.Verb.TheVariants as verb
use Rattle.holddata.specs.declared.fault.HoldFault.{HoldFault}
use Rattle.holddata.specs.declared.fault.HoldFault.TheVariants.{NoReason, BadId, BadDate, BadCategory}
use Rattle.holddata.specs.declared.hold.Hold.{Hold}
use Rattle.holddata.specs.declared.hold.HoldChange.{HoldChange}
use Rattle.holddata.specs.declared.hold.HoldChange.TheVariants.{Put, Release}
use Rattle.holddata.specs.declared.key.HoldKey.{HoldKey}
use Rattle.holddata.specs.declared.key.Kind.{Kind}
use Rattle.holddata.specs.Asked.{are_among, hold_operands}
use Rattle.holddata.specs.Categories.{in_order}
use Rattle.holddata.specs.Operands.{kind_named, kinds_of, named_values, values_of, is_nothing, the_kind, the_id, the_date, is_bad_id, is_bad_date}
use Rattle.holddata.specs.Statements.{change_by, change_of, changes_of, fault_if, faults_by, faults_of, first_fault, first_of, kind_faults}

-- ---- names

-- a text that is none of some names is not one of them
not_named : (names : List (List ℕ)) (text name : List ℕ) → list_any (λ n. str_eq_ignore_ascii_case text n) names ≡ false
    → list_any (bytes_eq name) names ≡ true → str_eq_ignore_ascii_case text name ≡ false
not_named [] text name none among = absurd (cc among)
not_named (n ∷ names) text name none among = by (bytes_eq name n) refl (not_named names text name apart.1)
  where
    apart : (str_eq_ignore_ascii_case text n ≡ false) × (list_any (λ m. str_eq_ignore_ascii_case text m) names ≡ false)
    apart = or_parts (str_eq_ignore_ascii_case text n) (list_any (λ m. str_eq_ignore_ascii_case text m) names) none

    by : (b : Bool) → bytes_eq name n ≡ b → (list_any (bytes_eq name) names ≡ true → str_eq_ignore_ascii_case text name ≡ false) → str_eq_ignore_ascii_case text name ≡ false
    by true is later = ap (str_eq_ignore_ascii_case text) ((bytes_eq-Decides name n).0 is) ∙ apart.0
    by false is later = later (sym (ap (λ b. b || list_any (bytes_eq name) names) is) ∙ among)

-- one of the names that are wanted is asked for
pub asked_too : (wanted names : List (List ℕ)) (name : List ℕ) → are_among wanted names ≡ true → list_any (bytes_eq name) wanted ≡ true → list_any (bytes_eq name) names ≡ true
asked_too [] names name all among = absurd (cc among)
asked_too (w ∷ wanted) names name all among = by (bytes_eq name w) refl (asked_too wanted names name apart.1)
  where
    apart : (list_any (bytes_eq w) names ≡ true) × (are_among wanted names ≡ true)
    apart = and_parts (list_any (bytes_eq w) names) (are_among wanted names) all

    by : (b : Bool) → bytes_eq name w ≡ b → (list_any (bytes_eq name) wanted ≡ true → list_any (bytes_eq name) names ≡ true) → list_any (bytes_eq name) names ≡ true
    by true is later = ap (λ n. list_any (bytes_eq n) names) ((bytes_eq-Decides name w).0 is) ∙ apart.0
    by false is later = later (sym (ap (λ b. b || list_any (bytes_eq name) wanted) is) ∙ among)

-- ---- operands

-- the values under a name that is asked for
pub values_asked : (names : List (List ℕ)) (name : List ℕ) → list_any (bytes_eq name) names ≡ true → (operands : List OperandText)
    → values_of name (filter (is_asked names) operands) ≡ values_of name operands
values_asked names name among [] = refl
values_asked names name among (operand ∷ operands) = by (is_asked names operand) refl (values_asked names name among operands)
  where
    by : (b : Bool) → is_asked names operand ≡ b → values_of name (filter (is_asked names) operands) ≡ values_of name operands
        → values_of name (cond b (operand ∷ filter (is_asked names) operands) (filter (is_asked names) operands)) ≡ values_of name (operand ∷ operands)
    by true is rest = ap (λ values. named_values name operand ++ values) rest
    by false is rest =
        rest ∙ ap (λ b. cond b operand.values [] ++ values_of name operands) (sym (not_named names operand.name name is among))

no_kind : (name : List ℕ) → ((kind : List ℕ) → list_any (bytes_eq kind) hold_operands ≡ true → str_eq_ignore_ascii_case name kind ≡ false) → kind_named name ≡ None
no_kind name none =
    rw (none (codes "ERROR") refl, none (codes "ERR") refl, none (codes "SYSTEM") refl, none (codes "SYS") refl, none (codes "USER") refl, none (codes "FIXCAT") refl) refl

kinds_asked : (names : List (List ℕ)) → are_among hold_operands names ≡ true → (operands : List OperandText)
    → kinds_of (filter (is_asked names) operands) ≡ kinds_of operands
kinds_asked names all [] = refl
kinds_asked names all (operand ∷ operands) = by (is_asked names operand) refl (kinds_asked names all operands)
  where
    by : (b : Bool) → is_asked names operand ≡ b → kinds_of (filter (is_asked names) operands) ≡ kinds_of operands
        → kinds_of (cond b (operand ∷ filter (is_asked names) operands) (filter (is_asked names) operands)) ≡ kinds_of (operand ∷ operands)
    by true is rest = ap (cons_option (kind_named operand.name)) rest
    by false is rest =
        rest
        ∙ ap (λ kind. cons_option kind (kinds_of operands)) (sym (no_kind operand.name (λ name among. not_named names operand.name name is (asked_too hold_operands names name all among))))

-- all that operands say of a hold
record Said : Type 0 where
  kinds : List Kind
  reason : List (List ℕ)
  fmid : List (List ℕ)
  class : List (List ℕ)
  resolver : List (List ℕ)
  date : List (List ℕ)
  category : List (List ℕ)

abbrev said_by : List OperandText → Said
said_by operands = record {
  kinds = kinds_of operands;
  reason = values_of (codes "REASON") operands;
  fmid = values_of (codes "FMID") operands;
  class = values_of (codes "CLASS") operands;
  resolver = values_of (codes "RESOLVER") operands;
  date = values_of (codes "DATE") operands;
  category = values_of (codes "CATEGORY") operands;
}

said_asked : (names : List (List ℕ)) → are_among hold_operands names ≡ true → (operands : List OperandText) → said_by (filter (is_asked names) operands) ≡ said_by operands
said_asked names all operands =
    let kinds = kinds_asked names all operands in
    let reason = of (codes "REASON") refl in
    let fmid = of (codes "FMID") refl in
    let class = of (codes "CLASS") refl in
    let resolver = of (codes "RESOLVER") refl in
    let date = of (codes "DATE") refl in
    let category = of (codes "CATEGORY") refl in
    cc
  where
    of : (name : List ℕ) → list_any (bytes_eq name) hold_operands ≡ true → values_of name (filter (is_asked names) operands) ≡ values_of name operands
    of name among = values_asked names name (asked_too hold_operands names name all among) operands

-- ---- statements

abbrev key_said : Option (List ℕ) → Said → Option HoldKey
key_said subject said =
    option_and_then (λ sysmod.
    option_and_then (λ kind.
    option_map (λ reason. record { sysmod = sysmod; kind = kind; reason = reason })
    (the_id said.reason)) (the_kind said.kinds)) subject

abbrev hold_said : Option (List ℕ) → Said → Option Hold
hold_said subject said =
    option_map (λ key.
    record {
      key = key;
      fmid = the_id said.fmid;
      class = the_id said.class;
      resolver = the_id said.resolver;
      dated = the_date said.date;
      categories = in_order said.category;
    }) (key_said subject said)

abbrev key_faults_said : ℕ → Option (List ℕ) → Said → List HoldFault
key_faults_said line subject said =
    kind_faults line said.kinds
    ++ fault_if (is_nothing said.reason) (NoReason line)
    ++ fault_if (is_none subject) (BadId line)
    ++ fault_if (is_bad_id said.reason) (BadId line)

-- what a statement does to the holds, and its faults
abbrev what_is : Verb → Statement → Option HoldChange × List HoldFault
what_is v statement = (change_by v statement, faults_by v statement)

-- the same of a HOLD, by what its operands say
abbrev hold_does : ℕ → Option (List ℕ) → Said → Option HoldChange × List HoldFault
hold_does line subject said = (
  option_map Put (hold_said subject said),
  key_faults_said line subject said
      ++ (fault_if (is_bad_id said.fmid) (BadId line)
      ++ fault_if (is_bad_id said.class) (BadId line)
      ++ fault_if (is_bad_id said.resolver) (BadId line)
      ++ fault_if (is_bad_date said.date) (BadDate line)
      ++ fault_if (not (list_all is_category said.category)) (BadCategory line)),
)

-- and of a RELEASE
abbrev release_does : ℕ → Option (List ℕ) → Said → Option HoldChange × List HoldFault
release_does line subject said = (option_map Release (key_said subject said), key_faults_said line subject said ++ fault_if (is_bad_id said.fmid) (BadId line))

both_asked : (names : List (List ℕ)) → are_among hold_operands names ≡ true → (v : Verb) (statement : Statement) → what_is v (asking names statement) ≡ what_is v statement
both_asked names all verb.Hold statement = ap (hold_does statement.line statement.subject) (said_asked names all statement.operands)
both_asked names all verb.Release statement = ap (release_does statement.line statement.subject) (said_asked names all statement.operands)
both_asked names all verb.Func statement = refl
both_asked names all verb.Ptf statement = refl
both_asked names all verb.Apar statement = refl
both_asked names all verb.Usermod statement = refl
both_asked names all verb.Ver statement = refl
both_asked names all verb.Cond statement = refl

pub change_asked : (names : List (List ℕ)) → are_among hold_operands names ≡ true → (statement : Statement) → change_of (asking names statement) ≡ change_of statement
change_asked names all statement = ap (λ (said : Option HoldChange × List HoldFault). said.0) (both_asked names all statement.verb statement)

pub faults_asked : (names : List (List ℕ)) → are_among hold_operands names ≡ true → (statement : Statement) → faults_of (asking names statement) ≡ faults_of statement
faults_asked names all statement = ap (λ (said : Option HoldChange × List HoldFault). said.1) (both_asked names all statement.verb statement)

-- ---- lists of statements

pub changes_asked : (names : List (List ℕ)) → are_among hold_operands names ≡ true → (statements : List Statement) → changes_of (map (asking names) statements) ≡ changes_of statements
changes_asked names all [] = refl
changes_asked names all (statement ∷ statements) =
    ap (λ change. cons_option change (changes_of (map (asking names) statements))) (change_asked names all statement)
    ∙ ap (cons_option (change_of statement)) (changes_asked names all statements)

-- lists that each statement adds to
pub each_asked : {X : Type 0} (names : List (List ℕ)) (f : Statement → List X) → ((statement : Statement) → f (asking names statement) ≡ f statement) → (statements : List Statement)
    → flat_map f (map (asking names) statements) ≡ flat_map f statements
each_asked names f same [] = refl
each_asked names f same (statement ∷ statements) =
    ap (λ xs. xs ++ flat_map f (map (asking names) statements)) (same statement)
    ∙ ap (λ xs. f statement ++ xs) (each_asked names f same statements)

pub first_fault_asked : (names : List (List ℕ)) → are_among hold_operands names ≡ true → (statements : List Statement) → first_fault (map (asking names) statements) ≡ first_fault statements
first_fault_asked names all statements = ap first_of (each_asked names faults_of (faults_asked names all) statements)
