-- Small changes, so that the definitions are seen to mean what they should.
use Rattle.std.specs.Prelude.{◌≡◌, ℕ, List, [], ◌∷◌, codes, None, Some, refl}
use Rattle.mcs_reader.specs.Id.{padded}
use Rattle.holddata.specs.declared.hold.Hold.{Hold}
use Rattle.holddata.specs.declared.key.Kind.{Kind}
use Rattle.holddata.specs.declared.key.Kind.TheVariants.{ErrorHold, SystemHold}
use Rattle.zone_lists.specs.declared.zones.ZoneRow.{ZoneRow}
use Rattle.zone_lists.specs.declared.zones.ZoneState.{ZoneState}
use Rattle.zone_lists.specs.declared.zones.ZoneState.TheVariants.{Applied, Superseded}
use Rattle.bureau_store.specs.Caller.{caller_with}
use Rattle.bureau_store.specs.Effect.{Effect, patterns_put, received_put, tables_after, zone_dropped, zone_put}
use Rattle.bureau_store.specs.Held.{held_in}
use Rattle.bureau_store.specs.Tables.{LastChange, Tables, no_change, opened}
use Rattle.bureau_store.specs.declared.caller.Caller.TheVariants.{Publisher, Client}
use Rattle.bureau_store.specs.declared.caller.CallerRow.{CallerRow}

abbrev alpha : List ℕ
alpha = padded (codes "ALPHA")

abbrev beta : List ℕ
beta = padded (codes "BETA")

abbrev target : List ℕ
target = padded (codes "TGT1")

abbrev function : List ℕ
function = padded (codes "HBB7790")

abbrev fix : List ℕ
fix = padded (codes "UA10001")

abbrev row : List ℕ → ZoneState → ZoneRow
row sysmod state = record { sysmod = sysmod; state = state }

abbrev callers : List CallerRow
callers = record { name = alpha; token = codes "alpha-token" } ∷ record { name = padded (codes "PUBLISH"); token = codes "publish-token" } ∷ []

abbrev said : ℕ → LastChange
said number = record { number = number; reply = codes "reply" }

-- a client's change with a number
abbrev made : List ℕ → Effect → ℕ → Tables → Tables
made client effect number tables = tables_after (Client client) effect (said number) tables

abbrev first : Tables
first = made alpha (zone_put target (row function Applied ∷ [])) 1 (opened callers)

-- ---- who calls

pub publisher : caller_with callers (codes "publish-token") ≡ Some Publisher
publisher = refl

pub client : caller_with callers (codes "alpha-token") ≡ Some (Client alpha)
client = refl

pub nobody : caller_with callers (codes "alpha-toke") ≡ None
nobody = refl

-- ---- what a client puts is its own

pub put : first.zones alpha ≡ (target, record { rows = row function Applied ∷ []; patterns = [] }) ∷ []
put = refl

pub of_another : first.zones beta ≡ []
of_another = refl

pub its_number : first.last (Client alpha) ≡ said 1
its_number = refl

pub number_of_another : first.last (Client beta) ≡ no_change
number_of_another = refl

pub number_of_the_publisher : first.last Publisher ≡ no_change
number_of_the_publisher = refl

-- ---- a put replaces, and keeps the patterns; a drop keeps nothing

abbrev with_patterns : Tables
with_patterns = made alpha (patterns_put target (codes "ibm.device.*" ∷ [])) 2 first

pub rows_stay : with_patterns.zones alpha ≡ (target, record { rows = row function Applied ∷ []; patterns = codes "ibm.device.*" ∷ [] }) ∷ []
rows_stay = refl

pub put_again : (made alpha (zone_put target (row fix Applied ∷ [])) 3 with_patterns).zones alpha ≡ (target, record { rows = row fix Applied ∷ []; patterns = codes "ibm.device.*" ∷ [] }) ∷ []
put_again = refl

abbrev dropped : Tables
dropped = made alpha (zone_dropped target) 3 with_patterns

pub none_left : dropped.zones alpha ≡ []
none_left = refl

pub put_afresh : (made alpha (zone_put target []) 4 dropped).zones alpha ≡ (target, record { rows = []; patterns = [] }) ∷ []
put_afresh = refl

pub received : (made alpha (received_put (fix ∷ [])) 2 (made alpha (received_put (function ∷ [])) 1 (opened callers))).received alpha ≡ fix ∷ []
received = refl

-- ---- the holds that a report begins with

abbrev held : List ℕ → Kind → Hold
held sysmod kind = record { key = record { sysmod = sysmod; kind = kind; reason = fix }; fmid = None; class = None; resolver = None; dated = None; categories = [] }

-- of those in the zone, the installed one, and of its holds those of the kind
pub held_there : held_in (record { sysmods = []; holds = held function ErrorHold ∷ held fix ErrorHold ∷ held fix SystemHold ∷ [] }) (row function Superseded ∷ row fix Applied ∷ []) ErrorHold ≡ held fix ErrorHold ∷ []
held_there = refl
