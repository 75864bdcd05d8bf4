-- Small publications, so that the definitions are seen to mean what they should.
use Rattle.std.specs.Prelude.{◌≡◌, ℕ, List, [], ◌∷◌, codes, map, Option, Some, None, false, refl}
use Rattle.mcs_reader.specs.Id.{padded}
use Rattle.holddata.specs.declared.key.HoldKey.{HoldKey}
use Rattle.holddata.specs.declared.key.Kind.TheVariants.{ErrorHold, SystemHold}
use Rattle.holddata.specs.declared.hold.Hold.{Hold}
use Rattle.holddata.specs.declared.hold.HoldChange.TheVariants.{Put, Release}
use Rattle.mcs_reader.specs.OperandText.{OperandText}
use Rattle.mcs_reader.specs.declared.statement.Statement.{Statement}
use Rattle.mcs_reader.specs.declared.statement.Verb.{Verb}
use Rattle.mcs_reader.specs.declared.statement.Verb.TheVariants as verb
use Rattle.catalogue.specs.declared.conditional.CondNeed.{CondNeed}
use Rattle.catalogue.specs.declared.fault.CatFault.TheVariants.{BadId, IfFmid, IfOutside}
use Rattle.catalogue.specs.declared.sysmod.Sysmod.{Sysmod}
use Rattle.catalogue.specs.declared.sysmod.SysmodKind.TheVariants.{Func, Ptf}
use Rattle.catalogue.specs.declared.change.Change.{Change}
use Rattle.catalogue.specs.declared.change.Change.TheVariants.{Whole, OfHold}
use Rattle.catalogue.specs.Content.{nothing, record_of, superseders, holds_on}
use Rattle.catalogue.specs.Publication.{after, content_of}
use Rattle.catalogue.specs.Reading.{changes_of, first_fault}
use Rattle.catalogue.specs.Touched.{touched_ids}

abbrev id : List ℕ → List ℕ
id text = padded text

abbrev function : Sysmod
function = record { id = id (codes "HBB7790"); kind = Func; fmids = []; pre = []; req = []; conds = []; sup = [] }

-- a PTF for the function with these lists
abbrev ptf : List ℕ → List (List ℕ) → List (List ℕ) → Sysmod
ptf text pre sup = record { id = id text; kind = Ptf; fmids = id (codes "HBB7790") ∷ []; pre = pre; req = []; conds = []; sup = sup }

abbrev first_ptf : Sysmod
first_ptf = ptf (codes "UA10001") [] []

abbrev second_ptf : Sysmod
second_ptf = ptf (codes "UA10002") (id (codes "UA10001") ∷ []) (id (codes "AA20002") ∷ [])

abbrev in_error : HoldKey
in_error = record { sysmod = id (codes "UA10001"); kind = ErrorHold; reason = id (codes "AA20002") }

abbrev held : HoldKey → Hold
held key = record { key = key; fmid = Some (id (codes "HBB7790")); class = None; resolver = None; dated = None; categories = [] }

-- a function, two PTFs of which the second supersedes an APAR, and an error of the first
abbrev base : List Change
base = Whole function ∷ Whole first_ptf ∷ Whole second_ptf ∷ OfHold (Put (held in_error)) ∷ []

pub published : content_of base ≡ record { sysmods = function ∷ first_ptf ∷ second_ptf ∷ []; holds = held in_error ∷ [] }
published = refl

-- in whatever order it is published
pub other_order : content_of (OfHold (Put (held in_error)) ∷ Whole second_ptf ∷ Whole function ∷ Whole first_ptf ∷ []) ≡ content_of base
other_order = refl

-- the APAR isn't catalogued, and is superseded all the same
pub apar : record_of (content_of base) (id (codes "AA20002")) ≡ None
apar = refl

pub superseded : superseders (content_of base) (id (codes "AA20002")) ≡ id (codes "UA10002") ∷ []
superseded = refl

pub on_first : holds_on (content_of base) (id (codes "UA10001")) ≡ held in_error ∷ []
on_first = refl

pub on_second : holds_on (content_of base) (id (codes "UA10002")) ≡ []
on_second = refl

-- published again, a SYSMOD is what it is now: nothing of the earlier record stays
pub again : superseders (after (content_of base) (Whole (ptf (codes "UA10002") [] []) ∷ [])) (id (codes "AA20002")) ≡ []
again = refl

pub twice : record_of (content_of (Whole second_ptf ∷ Whole (ptf (codes "UA10002") [] []) ∷ [])) (id (codes "UA10002")) ≡ Some (ptf (codes "UA10002") [] [])
twice = refl

pub released : (after (content_of base) (OfHold (Release in_error) ∷ [])).holds ≡ []
released = refl

-- what a publication touches
pub touched_first : touched_ids nothing base ≡ map id (codes "AA20002" ∷ codes "HBB7790" ∷ codes "UA10001" ∷ codes "UA10002" ∷ [])
touched_first = refl

-- a SUP that is published no more is touched too
pub touched_again : touched_ids (content_of base) (Whole (ptf (codes "UA10002") [] []) ∷ []) ≡ map id (codes "AA20002" ∷ codes "UA10002" ∷ [])
touched_again = refl

pub touched_release : touched_ids (content_of base) (OfHold (Release in_error) ∷ []) ≡ map id (codes "UA10001" ∷ [])
touched_release = refl

-- a SYSTEM hold touches nothing
pub touched_system : touched_ids (content_of base) (OfHold (Put (held (record in_error { kind = SystemHold }))) ∷ []) ≡ []
touched_system = refl

-- ---- `++IF`

abbrev stated : Verb → Option (List ℕ) → List OperandText → Statement
stated verb subject operands = record { verb = verb; subject = subject; operands = operands; line = 1 }

abbrev operand : List ℕ → List (List ℕ) → OperandText
operand name values = record { name = name; values = values }

abbrev header : Statement
header = stated verb.Ptf (Some (id (codes "UA10020"))) []

abbrev condition : List (List ℕ) → List (List ℕ) → Statement
condition fmids needs = stated verb.Cond None (operand (codes "FMID") fmids ∷ operand (codes "THEN") [] ∷ operand (codes "REQ") needs ∷ [])

abbrev pair : List ℕ → List ℕ → CondNeed
pair fmid need = record { fmid = id fmid; need = id need }

abbrev requiring : List CondNeed → Sysmod
requiring conds = record { id = id (codes "UA10020"); kind = Ptf; fmids = []; pre = []; req = []; conds = conds; sup = [] }

-- the pairs of two of them are joined, in order and each once
pub joined : changes_of (header ∷ condition (codes "HXX0001" ∷ []) (codes "UA10022" ∷ codes "UA10021" ∷ []) ∷ condition (codes "HXX0001" ∷ []) (codes "UA10021" ∷ []) ∷ [])
    ≡ Whole (requiring (pair (codes "HXX0001") (codes "UA10021") ∷ pair (codes "HXX0001") (codes "UA10022") ∷ [])) ∷ []
joined = refl

-- one belongs to the nearest header before it, and no other
pub nearest : changes_of (header ∷ stated verb.Ptf (Some (id (codes "UA10021"))) [] ∷ condition (codes "HXX0001" ∷ []) (codes "UA10020" ∷ []) ∷ [])
    ≡ Whole (requiring []) ∷ Whole (record (requiring (pair (codes "HXX0001") (codes "UA10020") ∷ [])) { id = id (codes "UA10021") }) ∷ []
nearest = refl

-- without REQ it requires nothing
pub nothing_required : changes_of (header ∷ condition (codes "HXX0001" ∷ []) [] ∷ []) ≡ Whole (requiring []) ∷ []
nothing_required = refl

pub no_header : first_fault false (condition [] (codes "a" ∷ []) ∷ []) ≡ Some (IfOutside 1)
no_header = refl

pub no_function : first_fault false (header ∷ condition [] (codes "a" ∷ []) ∷ []) ≡ Some (IfFmid 1)
no_function = refl

-- one value that comes twice is two values
pub two_functions : first_fault false (header ∷ condition (codes "HXX0001" ∷ codes "HXX0001" ∷ []) [] ∷ []) ≡ Some (IfFmid 1)
two_functions = refl

pub no_id : first_fault false (header ∷ condition (codes "HXX0001" ∷ []) (codes "a" ∷ []) ∷ []) ≡ Some (BadId 1)
no_id = refl
