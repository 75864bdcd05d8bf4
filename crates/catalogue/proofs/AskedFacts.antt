-- What statements publish is the same where no other operands are read than those that are asked for.
use Rattle.std.proofs.Common.{◌≡◌, ℕ, Bool, true, ◌||◌, ◌++◌, List, [], ◌∷◌, map, codes, refl, sym, ◌∙◌, ap, Option, Some, None}
use Rattle.std.specs.Prelude.{is_some, not, option_map}
use Rattle.std.specs.List.{filter_map, flat_map, list_all, list_any}
use Rattle.std.specs.Option.{option_or, option_to_list}
use Rattle.std.specs.Str.{bytes_eq}
use Rattle.std.proofs.lemmas.Bool.{and_parts}
use Rattle.std.proofs.lemmas.List.Folds.{list_all-append}
use Rattle.mcs_reader.specs.Asking.{asking}
use Rattle.mcs_reader.specs.Id.{id_of}
use Rattle.mcs_reader.specs.declared.statement.Statement.{Statement}
use Rattle.holddata.specs.Asked.{are_among, hold_operands}
use Rattle.mcs_reader.specs.StatementText.{sole}
use Rattle.holddata.specs.Operands.{the_id}
use Rattle.holddata.specs.Statements as holddata
use Rattle.holddata.proofs.AskedFacts.{asked_too, change_asked as hold_change_asked, each_asked, faults_asked as hold_faults_asked, values_asked}
use Rattle.catalogue.specs.declared.change.Change.TheVariants.{Whole, OfHold}
use Rattle.catalogue.specs.declared.fault.CatFault.TheVariants.{VerOutside, IfOutside, IfFmid, BadId, Held}
use Rattle.catalogue.specs.declared.sysmod.Sysmod.{Sysmod}
use Rattle.catalogue.specs.declared.sysmod.SysmodKind.{SysmodKind}
use Rattle.catalogue.specs.Asked.{publication_operands}
use Rattle.catalogue.specs.Conditional.{put_conds}
use Rattle.catalogue.specs.Ids.{in_order, put_among}
use Rattle.catalogue.specs.Reading.{Part, Header, More, OnCondition, OnHold, Begun, part_of, ids_given, vers_in, vers_in_front, ifs_in, ifs_in_front, conds_given, conds_under, has_function, if_faults, requires_no_id, record_by, changes_by, changes_of, is_header, is_no_id, gives_no_id, has_bad_id, fault_if, faults_by, faults_of, first_fault, with_ver, with_if, with_part, with_statement}

-- what is asked for on account of holds is among it
holds_too : (names : List (List ℕ)) → are_among publication_operands names ≡ true → are_among hold_operands names ≡ true
holds_too names all =
    let test = λ (name : List ℕ). list_any (bytes_eq name) names in
    let rest = codes "PRE" ∷ codes "REQ" ∷ codes "SUP" ∷ [] in
    (and_parts (list_all test hold_operands) (list_all test rest) (sym (list_all-append test hold_operands rest) ∙ all)).0

given_asked : (names : List (List ℕ)) (name : List ℕ) → are_among publication_operands names ≡ true → list_any (bytes_eq name) publication_operands ≡ true → (statement : Statement)
    → holddata.given (asking names statement) name ≡ holddata.given statement name
given_asked names name all among statement = values_asked names name (asked_too publication_operands names name all among) statement.operands

ids_asked : (names : List (List ℕ)) (name : List ℕ) → are_among publication_operands names ≡ true → list_any (bytes_eq name) publication_operands ≡ true → (statement : Statement)
    → ids_given name (asking names statement) ≡ ids_given name statement
ids_asked names name all among statement = ap (filter_map id_of) (given_asked names name all among statement)

-- ---- faults

no_id_asked : (names : List (List ℕ)) (name : List ℕ) → are_among publication_operands names ≡ true → list_any (bytes_eq name) publication_operands ≡ true → (statement : Statement)
    → gives_no_id (asking names statement) name ≡ gives_no_id statement name
no_id_asked names name all among statement = ap (list_any is_no_id) (given_asked names name all among statement)

bad_id_asked : (names : List (List ℕ)) → are_among publication_operands names ≡ true → (statement : Statement) → has_bad_id (asking names statement) ≡ has_bad_id statement
bad_id_asked names all statement =
    let fmid = no_id_asked names (codes "FMID") all refl statement in
    let pre = no_id_asked names (codes "PRE") all refl statement in
    let req = no_id_asked names (codes "REQ") all refl statement in
    let sup = no_id_asked names (codes "SUP") all refl statement in
    cc

if_faults_asked : (names : List (List ℕ)) → are_among publication_operands names ≡ true → (statement : Statement)
    → if_faults (asking names statement) ≡ if_faults statement
if_faults_asked names all statement =
    let given = given_asked names (codes "FMID") all refl statement in
    let fmid = no_id_asked names (codes "FMID") all refl statement in
    let req = no_id_asked names (codes "REQ") all refl statement in
    ap (λ values. fault_if (not (is_some (sole values))) (IfFmid statement.line) ++ fault_if (requires_no_id (asking names statement)) (BadId statement.line)) given
    ∙ ap (λ bad. fault_if (not (has_function statement)) (IfFmid statement.line) ++ fault_if (bad || gives_no_id (asking names statement) (codes "REQ")) (BadId statement.line)) fmid
    ∙ ap (λ bad. fault_if (not (has_function statement)) (IfFmid statement.line) ++ fault_if (gives_no_id statement (codes "FMID") || bad) (BadId statement.line)) req

faults_part_asked : (part : Part) (names : List (List ℕ)) (begun : Bool) → are_among publication_operands names ≡ true → (statement : Statement)
    → faults_by part begun (asking names statement) ≡ faults_by part begun statement
faults_part_asked (Header kind) names begun all statement = refl
faults_part_asked More names begun all statement =
    ap (λ bad. fault_if (not begun) (VerOutside statement.line) ++ fault_if bad (BadId statement.line)) (bad_id_asked names all statement)
faults_part_asked OnCondition names begun all statement =
    ap (λ faults. fault_if (not begun) (IfOutside statement.line) ++ faults) (if_faults_asked names all statement)
faults_part_asked OnHold names begun all statement = ap (map Held) (hold_faults_asked names (holds_too names all) statement)

pub faults_asked : (names : List (List ℕ)) (begun : Bool) → are_among publication_operands names ≡ true → (statement : Statement)
    → faults_of begun (asking names statement) ≡ faults_of begun statement
faults_asked names begun all statement = faults_part_asked (part_of statement) names begun all statement

pub first_fault_asked : (names : List (List ℕ)) (begun : Bool) → are_among publication_operands names ≡ true → (statements : List Statement)
    → first_fault begun (map (asking names) statements) ≡ first_fault begun statements
first_fault_asked names begun all [] = refl
first_fault_asked names begun all (statement ∷ statements) =
    let now = begun || is_header (part_of statement) in
    ap (λ faults. option_or (holddata.first_of faults) (first_fault now (map (asking names) statements))) (faults_asked names begun all statement)
    ∙ ap (option_or (holddata.first_of (faults_of begun statement))) (first_fault_asked names now all statements)

-- ---- changes

-- what stands in front of the next header is the same, read with these operands
abbrev AreAsked : List (List ℕ) → List Statement → List Statement → Type 0
AreAsked names asked statements = asked ≡ map (asking names) statements

front_asked : (names : List (List ℕ)) (statements : List Statement)
    → AreAsked names (vers_in_front (map (asking names) statements)) (vers_in_front statements)
    × AreAsked names (ifs_in_front (map (asking names) statements)) (ifs_in_front statements)
front_asked names [] = (refl, refl)
front_asked names (statement ∷ statements) =
    let (vers, ifs) = front_asked names statements in
    by (part_of statement) (vers_in_front (map (asking names) statements)) (vers_in_front statements) (ifs_in_front (map (asking names) statements)) (ifs_in_front statements) vers ifs
  where
    by : (part : Part) (asked_vers vers asked_ifs ifs : List Statement) → AreAsked names asked_vers vers → AreAsked names asked_ifs ifs
        → AreAsked names (vers_in part (asking names statement) asked_vers) (vers_in part statement vers)
        × AreAsked names (ifs_in part (asking names statement) asked_ifs) (ifs_in part statement ifs)
    by (Header kind) asked_vers vers asked_ifs ifs same_vers same_ifs = (refl, refl)
    by More asked_vers vers asked_ifs ifs same_vers same_ifs = (ap (λ vers. asking names statement ∷ vers) same_vers, same_ifs)
    by OnCondition asked_vers vers asked_ifs ifs same_vers same_ifs = (same_vers, ap (λ ifs. asking names statement ∷ ifs) same_ifs)
    by OnHold asked_vers vers asked_ifs ifs same_vers same_ifs = (same_vers, same_ifs)

joined_asked : (names : List (List ℕ)) (name : List ℕ) → are_among publication_operands names ≡ true → list_any (bytes_eq name) publication_operands ≡ true → (vers : List Statement)
    → flat_map (ids_given name) (map (asking names) vers) ≡ flat_map (ids_given name) vers
joined_asked names name all among = each_asked names (ids_given name) (ids_asked names name all among)

conds_asked : (names : List (List ℕ)) → are_among publication_operands names ≡ true → (statement : Statement) → conds_given (asking names statement) ≡ conds_given statement
conds_asked names all statement =
    ap (λ values. conds_under (the_id values) (in_order (ids_given (codes "REQ") (asking names statement)))) (given_asked names (codes "FMID") all refl statement)
    ∙ ap (λ ids. conds_under (the_id (holddata.given statement (codes "FMID"))) (in_order ids)) (ids_asked names (codes "REQ") all refl statement)

conds_joined_asked : (names : List (List ℕ)) → are_among publication_operands names ≡ true → (ifs : List Statement)
    → flat_map conds_given (map (asking names) ifs) ≡ flat_map conds_given ifs
conds_joined_asked names all = each_asked names conds_given (conds_asked names all)

record_asked : (kind : SysmodKind) (id : List ℕ) (names : List (List ℕ)) → are_among publication_operands names ≡ true → (vers ifs : List Statement)
    → record_by kind id (map (asking names) vers) (map (asking names) ifs) ≡ record_by kind id vers ifs
record_asked kind id names all vers ifs =
    let conds = ap (put_conds []) (conds_joined_asked names all ifs) in
    let fmids = ap in_order (joined_asked names (codes "FMID") all refl vers) in
    let pre = ap in_order (joined_asked names (codes "PRE") all refl vers) in
    let req = ap in_order (joined_asked names (codes "REQ") all refl vers) in
    let sup = ap in_order (joined_asked names (codes "SUP") all refl vers) in
    cc

change_asked : (part : Part) (names : List (List ℕ)) → are_among publication_operands names ≡ true → (statement : Statement) (vers ifs : List Statement)
    → changes_by part (asking names statement) (map (asking names) vers) (map (asking names) ifs) ≡ changes_by part statement vers ifs
change_asked (Header kind) names all statement vers ifs = by statement.subject
  where
    by : (subject : Option (List ℕ))
        → option_to_list (option_map (λ id. Whole (record_by kind id (map (asking names) vers) (map (asking names) ifs))) subject)
        ≡ option_to_list (option_map (λ id. Whole (record_by kind id vers ifs)) subject)
    by None = refl
    by (Some id) = ap (λ sysmod. Whole sysmod ∷ []) (record_asked kind id names all vers ifs)
change_asked More names all statement vers ifs = refl
change_asked OnCondition names all statement vers ifs = refl
change_asked OnHold names all statement vers ifs = ap (λ change. option_to_list (option_map OfHold change)) (hold_change_asked names (holds_too names all) statement)

pub changes_asked : (names : List (List ℕ)) → are_among publication_operands names ≡ true → (statements : List Statement) → changes_of (map (asking names) statements) ≡ changes_of statements
changes_asked names all [] = refl
changes_asked names all (statement ∷ statements) =
    let asked = map (asking names) statements in
    ap (λ vers. changes_by (part_of statement) (asking names statement) vers (ifs_in_front asked) ++ changes_of asked) (front_asked names statements).0
    ∙ ap (λ ifs. changes_by (part_of statement) (asking names statement) (map (asking names) (vers_in_front statements)) ifs ++ changes_of asked) (front_asked names statements).1
    ∙ ap (λ changes. changes ++ changes_of asked) (change_asked (part_of statement) names all statement (vers_in_front statements) (ifs_in_front statements))
    ∙ ap (λ changes. changes_by (part_of statement) statement (vers_in_front statements) (ifs_in_front statements) ++ changes) (changes_asked names all statements)

-- ---- one statement at a time

ver_asked : (names : List (List ℕ)) → are_among publication_operands names ≡ true → (ver : Statement) (sysmod : Sysmod) → with_ver (asking names ver) sysmod ≡ with_ver ver sysmod
ver_asked names all ver sysmod =
    let fmids = ap (put_among sysmod.fmids) (ids_asked names (codes "FMID") all refl ver) in
    let pre = ap (put_among sysmod.pre) (ids_asked names (codes "PRE") all refl ver) in
    let req = ap (put_among sysmod.req) (ids_asked names (codes "REQ") all refl ver) in
    let sup = ap (put_among sysmod.sup) (ids_asked names (codes "SUP") all refl ver) in
    cc

read_part_asked : (part : Part) (names : List (List ℕ)) (begun : Begun) → are_among publication_operands names ≡ true → (statement : Statement)
    → with_part part (asking names statement) begun ≡ with_part part statement begun
read_part_asked (Header kind) names begun all statement = refl
read_part_asked More names begun all statement = ap (λ opened. record begun { open_record = opened }) (by begun.open_record)
  where
    by : (opened : Option Sysmod) → option_map (with_ver (asking names statement)) opened ≡ option_map (with_ver statement) opened
    by None = refl
    by (Some sysmod) = ap Some (ver_asked names all statement sysmod)
read_part_asked OnCondition names begun all statement = ap (λ opened. record begun { open_record = opened }) (by begun.open_record)
  where
    by : (opened : Option Sysmod) → option_map (with_if (asking names statement)) opened ≡ option_map (with_if statement) opened
    by None = refl
    by (Some sysmod) = ap (λ conds. Some (record sysmod { conds = put_conds sysmod.conds conds })) (conds_asked names all statement)
read_part_asked OnHold names begun all statement =
    ap (λ change. record begun { after = begun.after ++ option_to_list (option_map OfHold change) }) (hold_change_asked names (holds_too names all) statement)

pub read_asked : (names : List (List ℕ)) (begun : Begun) → are_among publication_operands names ≡ true → (statement : Statement)
    → with_statement begun (asking names statement) ≡ with_statement begun statement
read_asked names begun all statement = read_part_asked (part_of statement) names begun all statement
