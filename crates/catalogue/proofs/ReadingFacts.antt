-- Statements that are taken one at a time give what all of them publish.
use Rattle.std.proofs.Common.{◌≡◌, ℕ, Bool, true, false, ◌||◌, List, [], ◌∷◌, ◌++◌, refl, sym, ◌∙◌, ap, append_assoc}
use Rattle.std.specs.Prelude.{Option, Some, None, is_none, is_some, option_map, codes}
use Rattle.std.specs.BTreeSet.{insert_key}
use Rattle.std.specs.List.{fold, flat_map, list_any}
use Rattle.std.specs.Option.{option_or, option_to_list}
use Rattle.std.proofs.lemmas.List.{append-nil}
use Rattle.std.proofs.lemmas.List.Sums.{fold-append}
use Rattle.lemmas.proofs.TestFacts.{or_false, or_true}
use Rattle.mcs_reader.specs.declared.statement.Statement.{Statement}
use Rattle.holddata.specs.Statements as holddata
use Rattle.catalogue.specs.declared.change.Change.{Change}
use Rattle.catalogue.specs.declared.change.Change.TheVariants.{Whole, OfHold}
use Rattle.catalogue.specs.declared.fault.CatFault.{CatFault}
use Rattle.catalogue.specs.declared.fault.CatFault.TheVariants.{BadId}
use Rattle.catalogue.specs.declared.sysmod.Sysmod.{Sysmod}
use Rattle.catalogue.specs.declared.sysmod.SysmodKind.{SysmodKind}
use Rattle.catalogue.specs.declared.conditional.CondNeed.{CondNeed}
use Rattle.catalogue.specs.Conditional.{cond_cmp, put_conds}
use Rattle.catalogue.specs.Ids.{id_cmp, put_among}
use Rattle.catalogue.specs.Reading.{HeadersOpen, Part, Header, More, OnCondition, OnHold, part_of, ids_given, vers_in, vers_in_front, ifs_in, ifs_in_front, conds_given, record_by, changes_by, changes_of, fault_if, faults_by, faults_of, first_fault, is_header, Begun, nothing_begun, changes_in, with_ver, with_if, with_part, with_statement}

-- a record with what `++VER` statements say
abbrev pub with_vers : Sysmod → List Statement → Sysmod
with_vers sysmod [] = sysmod
with_vers sysmod (ver ∷ vers) = with_vers (with_ver ver sysmod) vers

-- the same, list by list
abbrev lists_with : Sysmod → List Statement → Sysmod
lists_with sysmod vers = record {
  id = sysmod.id;
  kind = sysmod.kind;
  fmids = put_among sysmod.fmids (flat_map (ids_given (codes "FMID")) vers);
  pre = put_among sysmod.pre (flat_map (ids_given (codes "PRE")) vers);
  req = put_among sysmod.req (flat_map (ids_given (codes "REQ")) vers);
  conds = sysmod.conds;
  sup = put_among sysmod.sup (flat_map (ids_given (codes "SUP")) vers);
}

abbrev record_with : Sysmod → List (List ℕ) → List (List ℕ) → List (List ℕ) → List (List ℕ) → Sysmod
record_with sysmod fmids pre req sup = record { id = sysmod.id; kind = sysmod.kind; fmids = fmids; pre = pre; req = req; conds = sysmod.conds; sup = sup }

-- one more statement's ids
put_more : (name : List ℕ) (ids : List (List ℕ)) (ver : Statement) (vers : List Statement) → put_among (put_among ids (ids_given name ver)) (flat_map (ids_given name) vers) ≡ put_among ids (flat_map (ids_given name) (ver ∷ vers))
put_more name ids ver vers = sym (fold-append (insert_key id_cmp) ids (ids_given name ver) (flat_map (ids_given name) vers))

with_vers_is : (sysmod : Sysmod) (vers : List Statement) → with_vers sysmod vers ≡ lists_with sysmod vers
with_vers_is sysmod [] = refl
with_vers_is sysmod (ver ∷ vers) =
    with_vers_is (with_ver ver sysmod) vers
    ∙ ap (λ f. record_with sysmod f (put_among (with_ver ver sysmod).pre (flat_map (ids_given (codes "PRE")) vers)) (put_among (with_ver ver sysmod).req (flat_map (ids_given (codes "REQ")) vers)) (put_among (with_ver ver sysmod).sup (flat_map (ids_given (codes "SUP")) vers))) (put_more (codes "FMID") sysmod.fmids ver vers)
    ∙ ap (λ p. record_with sysmod (lists_with sysmod (ver ∷ vers)).fmids p (put_among (with_ver ver sysmod).req (flat_map (ids_given (codes "REQ")) vers)) (put_among (with_ver ver sysmod).sup (flat_map (ids_given (codes "SUP")) vers))) (put_more (codes "PRE") sysmod.pre ver vers)
    ∙ ap (λ q. record_with sysmod (lists_with sysmod (ver ∷ vers)).fmids (lists_with sysmod (ver ∷ vers)).pre q (put_among (with_ver ver sysmod).sup (flat_map (ids_given (codes "SUP")) vers))) (put_more (codes "REQ") sysmod.req ver vers)
    ∙ ap (λ s. record_with sysmod (lists_with sysmod (ver ∷ vers)).fmids (lists_with sysmod (ver ∷ vers)).pre (lists_with sysmod (ver ∷ vers)).req s) (put_more (codes "SUP") sysmod.sup ver vers)

-- a record with what `++IF` statements say
abbrev pub with_ifs : Sysmod → List Statement → Sysmod
with_ifs sysmod [] = sysmod
with_ifs sysmod (condition ∷ ifs) = with_ifs (with_if condition sysmod) ifs

-- the same, at once
abbrev conds_with : Sysmod → List CondNeed → Sysmod
conds_with sysmod conds = record { id = sysmod.id; kind = sysmod.kind; fmids = sysmod.fmids; pre = sysmod.pre; req = sysmod.req; conds = conds; sup = sysmod.sup }

with_ifs_is : (sysmod : Sysmod) (ifs : List Statement) → with_ifs sysmod ifs ≡ conds_with sysmod (put_conds sysmod.conds (flat_map conds_given ifs))
with_ifs_is sysmod [] = refl
with_ifs_is sysmod (condition ∷ ifs) =
    with_ifs_is (with_if condition sysmod) ifs
    ∙ ap (conds_with sysmod) (sym (fold-append (insert_key cond_cmp) sysmod.conds (conds_given condition) (flat_map conds_given ifs)))

-- an `++IF` may stand before a `++VER` or after it
if_first : (sysmod : Sysmod) (condition : Statement) (vers : List Statement) → with_vers (with_if condition sysmod) vers ≡ with_if condition (with_vers sysmod vers)
if_first sysmod condition [] = refl
if_first sysmod condition (ver ∷ vers) = if_first (with_ver ver sysmod) condition vers

record_joined : (kind : SysmodKind) (id : List ℕ) (vers ifs : List Statement) → with_ifs (with_vers (record_by kind id [] []) vers) ifs ≡ record_by kind id vers ifs
record_joined kind id vers ifs =
    ap (λ sysmod. with_ifs sysmod ifs) (with_vers_is (record_by kind id [] []) vers) ∙ with_ifs_is (record_by kind id vers []) ifs

-- ---- all statements

-- an open record with the statements that belong to it
abbrev opened : Option Sysmod → List Statement → List Statement → List Change
opened record_open vers ifs = option_to_list (option_map Whole (option_map (λ sysmod. with_ifs (with_vers sysmod vers) ifs) record_open))

-- what was read so far, and what statements make of it
abbrev continued : Begun → List Statement → List Change
continued begun statements = begun.before ++ (opened begun.open_record (vers_in_front statements) (ifs_in_front statements) ++ (begun.after ++ changes_of statements))

regroup : (a o b x c : List Change) → (a ++ (o ++ b)) ++ (x ++ c) ≡ a ++ (o ++ (b ++ (x ++ c)))
regroup a o b x c = append_assoc a (o ++ b) (x ++ c) ∙ ap (λ l. a ++ l) (append_assoc o b (x ++ c))

plain : (o : Option Sysmod) → option_to_list (option_map Whole o) ≡ opened o [] []
plain None = refl
plain (Some sysmod) = refl

begun_header : (kind : SysmodKind) (subject : Option (List ℕ)) (vers ifs : List Statement)
    → opened (option_map (λ id. record_by kind id [] []) subject) vers ifs ≡ option_to_list (option_map (λ id. Whole (record_by kind id vers ifs)) subject)
begun_header kind None vers ifs = refl
begun_header kind (Some id) vers ifs = ap (λ sysmod. Whole sysmod ∷ []) (record_joined kind id vers ifs)

one_ver : (o : Option Sysmod) (ver : Statement) (vers ifs : List Statement) → opened (option_map (with_ver ver) o) vers ifs ≡ opened o (ver ∷ vers) ifs
one_ver None ver vers ifs = refl
one_ver (Some sysmod) ver vers ifs = refl

one_if : (o : Option Sysmod) (condition : Statement) (vers ifs : List Statement) → opened (option_map (with_if condition) o) vers ifs ≡ opened o vers (condition ∷ ifs)
one_if None condition vers ifs = refl
one_if (Some sysmod) condition vers ifs = ap (λ x. Whole (with_ifs x ifs) ∷ []) (if_first sysmod condition vers)

one_part : (part : Part) (statement : Statement) (begun : Begun) (vers ifs : List Statement) (rest : List Change)
    → (with_part part statement begun).before ++ (opened (with_part part statement begun).open_record vers ifs ++ ((with_part part statement begun).after ++ rest))
    ≡ begun.before ++ (opened begun.open_record (vers_in part statement vers) (ifs_in part statement ifs) ++ (begun.after ++ (changes_by part statement vers ifs ++ rest)))
one_part (Header kind) statement begun vers ifs rest =
    ap (λ l. changes_in begun ++ (l ++ rest)) (begun_header kind statement.subject vers ifs)
    ∙ regroup begun.before (option_to_list (option_map Whole begun.open_record)) begun.after (changes_by (Header kind) statement vers ifs) rest
    ∙ ap (λ l. begun.before ++ (l ++ (begun.after ++ (changes_by (Header kind) statement vers ifs ++ rest)))) (plain begun.open_record)
one_part More statement begun vers ifs rest =
    ap (λ l. begun.before ++ (l ++ (begun.after ++ rest))) (one_ver begun.open_record statement vers ifs)
one_part OnCondition statement begun vers ifs rest =
    ap (λ l. begun.before ++ (l ++ (begun.after ++ rest))) (one_if begun.open_record statement vers ifs)
one_part OnHold statement begun vers ifs rest =
    ap (λ l. begun.before ++ (opened begun.open_record vers ifs ++ l)) (append_assoc begun.after (option_to_list (option_map OfHold (holddata.change_of statement))) rest)

-- what was read so far with more statements, one at a time
pub read_on : (begun : Begun) (statements : List Statement) → changes_in (fold with_statement begun statements) ≡ continued begun statements
read_on begun [] =
    ap (λ l. begun.before ++ (l ++ begun.after)) (plain begun.open_record)
    ∙ ap (λ l. begun.before ++ (opened begun.open_record [] [] ++ l)) (sym (append-nil begun.after))
read_on begun (statement ∷ statements) =
    read_on (with_statement begun statement) statements
    ∙ one_part (part_of statement) statement begun (vers_in_front statements) (ifs_in_front statements) (changes_of statements)

-- statements one at a time give what they publish
pub read_all : (statements : List Statement) → changes_in (fold with_statement nothing_begun statements) ≡ changes_of statements
read_all statements = read_on nothing_begun statements

-- ---- faults

-- a header that is read begins a record
pub begins : (part : Part) (statement : Statement) (begun : Begun) → faults_by part (is_some begun.open_record) statement ≡ []
    → is_some (with_part part statement begun).open_record ≡ (is_some begun.open_record || is_header part)
begins (Header kind) statement begun none = by statement.subject none ∙ sym (or_true (is_some begun.open_record))
  where
    by : (subject : Option (List ℕ)) → fault_if (is_none subject) (BadId statement.line) ≡ [] → is_some (option_map (λ id. record_by kind id [] []) subject) ≡ true
    by None h = cc
    by (Some id) h = refl
begins More statement begun none = by begun.open_record ∙ or_false (is_some begun.open_record)
  where
    by : (o : Option Sysmod) → is_some (option_map (with_ver statement) o) ≡ is_some o
    by None = refl
    by (Some sysmod) = refl
begins OnCondition statement begun none = by begun.open_record ∙ or_false (is_some begun.open_record)
  where
    by : (o : Option Sysmod) → is_some (option_map (with_if statement) o) ≡ is_some o
    by None = refl
    by (Some sysmod) = refl
begins OnHold statement begun none = or_false (is_some begun.open_record)

neither_one : {A : Type 0} (o p : Option A) → option_or o p ≡ None → (o ≡ None) × (p ≡ None)
neither_one None p h = (refl, h)
neither_one (Some x) p h = absurd (cc h)

no_first : {A : Type 0} (xs : List A) → holddata.first_of xs ≡ None → xs ≡ []
no_first [] h = refl
no_first (x ∷ xs) h = absurd (cc h)

opened_by : (begun : Begun) (statements : List Statement) → first_fault (is_some begun.open_record) statements ≡ None
    → is_some (fold with_statement begun statements).open_record ≡ (is_some begun.open_record || list_any (λ statement. is_header (part_of statement)) statements)
opened_by begun [] none = or_false (is_some begun.open_record)
opened_by begun (statement ∷ statements) none =
    opened_by (with_statement begun statement) statements (ap (λ b. first_fault b statements) opens ∙ parts.1)
    ∙ ap (λ b. b || list_any (λ s. is_header (part_of s)) statements) opens
    ∙ or_later (is_some begun.open_record) (is_header (part_of statement)) (list_any (λ s. is_header (part_of s)) statements)
  where
    parts : (holddata.first_of (faults_of (is_some begun.open_record) statement) ≡ None) × (first_fault (is_some begun.open_record || is_header (part_of statement)) statements ≡ None)
    parts = neither_one (holddata.first_of (faults_of (is_some begun.open_record) statement)) (first_fault (is_some begun.open_record || is_header (part_of statement)) statements) none

    opens : is_some (with_statement begun statement).open_record ≡ (is_some begun.open_record || is_header (part_of statement))
    opens = begins (part_of statement) statement begun (no_first (faults_of (is_some begun.open_record) statement) parts.0)

    or_later : (a b c : Bool) → ((a || b) || c) ≡ (a || (b || c))
    or_later true b c = refl
    or_later false b c = refl

pub headers_open : HeadersOpen
headers_open statements none = opened_by nothing_begun statements none

-- ---- one statement of those that are left

pub reads_next : (reader new all : Begun) (statement : Statement) (left rest : List Statement) → left ≡ statement ∷ rest → new ≡ with_statement reader statement
    → fold with_statement reader left ≡ all → fold with_statement new rest ≡ all
reads_next reader new all statement left rest at now reads =
    ap (λ begun. fold with_statement begun rest) now ∙ ap (fold with_statement reader) (sym at) ∙ reads

pub faults_next : (reader new : Begun) (first : Option CatFault) (statement : Statement) (left rest : List Statement) → left ≡ statement ∷ rest → new ≡ with_statement reader statement
    → faults_of (is_some reader.open_record) statement ≡ []
    → first_fault (is_some reader.open_record) left ≡ first → first_fault (is_some new.open_record) rest ≡ first
faults_next reader new first statement left rest at now none faults =
    let begun = is_some reader.open_record in
    ap (λ (b : Begun). first_fault (is_some b.open_record) rest) now
    ∙ ap (λ b. first_fault b rest) (begins (part_of statement) statement reader none)
    ∙ sym (ap (λ fs. option_or (holddata.first_of fs) (first_fault (begun || is_header (part_of statement)) rest)) none)
    ∙ ap (first_fault begun) (sym at) ∙ faults

pub fault_here : (begun : Bool) (first : Option CatFault) (fault : CatFault) (statement : Statement) (left rest : List Statement) → left ≡ statement ∷ rest
    → holddata.first_of (faults_of begun statement) ≡ Some fault → first_fault begun left ≡ first → first ≡ Some fault
fault_here begun first fault statement left rest at is faults =
    sym faults ∙ ap (first_fault begun) at ∙ ap (λ o. option_or o (first_fault (begun || is_header (part_of statement)) rest)) is
