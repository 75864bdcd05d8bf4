-- Choosing one of the SYSMODs that resolve a hold (IBM z/OS SMP/E Reference, `++VER`, operand SUP).
use Rattle.std.specs.Prelude.{ℕ, ◌&&◌, Bool, true, false, not, List, [], ◌∷◌, Option, filter, length, map, ◌-◌}
use Rattle.std.specs.List.{list_any, slice_get}
use Rattle.catalogue.specs.Content.{Content}
use Rattle.catalogue.specs.Ids.{in_order, same_id}
use Rattle.supersede.specs.Giving.{gives}
use Rattle.verdicts.specs.declared.verdict.Status.{Status}
use Rattle.verdicts.specs.declared.verdict.Status.TheVariants.{Good, Held, Lack}
use Rattle.reports.specs.Holds.{HoldLists}
use Rattle.reports.specs.declared.holds.Resolver.{Resolver}

-- whether two verdicts are of one kind
abbrev pub same_status : Status → Status → Bool
same_status Good Good = true
same_status Held Held = true
same_status Lack Lack = true
same_status Good Held = false
same_status Good Lack = false
same_status Held Good = false
same_status Held Lack = false
same_status Lack Good = false
same_status Lack Held = false

-- those of a list that were kept, or all if none was
abbrev pub or_all : {A : Type 0} → List A → List A → List A
or_all [] all = all
or_all (first ∷ more) all = first ∷ more

-- the greatest of some ids: the last of them in order
abbrev pub last_of : List (List ℕ) → Option (List ℕ)
last_of ids = slice_get ids (length ids - 1)

abbrev pub greatest_of : List (List ℕ) → Option (List ℕ)
greatest_of ids = last_of (in_order ids)

-- those of some resolvers that are of a kind; only those that the client has received, if it has received any
abbrev pub of_status : Status → List Resolver → List Resolver
of_status status resolvers = filter (λ resolver. same_status resolver.status status) resolvers

abbrev pub received_or_all : List Resolver → List Resolver
received_or_all resolvers = or_all (filter (λ resolver. resolver.received) resolvers) resolvers

-- whether another one of some SYSMODs gives one, itself or through others
abbrev pub is_given : Content → List (List ℕ) → List ℕ → Bool
is_given content ids id = list_any (λ other. not (same_id other id) && gives content other id) ids

-- those of some SYSMODs that no other of them gives, or all if each is given
abbrev pub on_top : Content → List (List ℕ) → List (List ℕ)
on_top content ids = or_all (filter (λ id. not (is_given content ids id)) ids) ids

-- the resolver of a kind that is chosen for a hold: the received before the others, then one that no other of them gives,
-- itself or through others, then the greatest id
abbrev pub choice : Content → Status → HoldLists → Option (List ℕ)
choice content status hold =
    greatest_of (on_top content (map (λ resolver. resolver.id) (received_or_all (of_status status hold.resolvers))))
