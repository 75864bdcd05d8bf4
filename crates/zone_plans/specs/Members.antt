-- The SYSMODs to install in a zone so that holds are resolved, and in which order (IBM z/OS SMP/E Reference, `++VER`,
-- operands PRE, REQ and SUP).
use Rattle.std.specs.Prelude.{◌≡◌, ◌++◌, ◌&&◌, ◌||◌, ℕ, zero, suc, Bool, not, List, [], ◌∷◌, filter, length, Contains}
use Rattle.std.specs.List.{flat_map, list_any}
use Rattle.std.specs.Ordering.{is_lt}
use Rattle.zone_lists.specs.declared.zones.ZoneRow.{ZoneRow}
use Rattle.catalogue.specs.Content.{Content}
use Rattle.catalogue.specs.Ids.{id_cmp, same_id}
use Rattle.supersede.specs.Giving.{gives, is_there, needs_in}
use Rattle.supersede.specs.Leading.{Gives, IsThere}
use Rattle.requisites.specs.Leads.{Leads}
use Rattle.requisites.specs.World.{IsPlan}
use Rattle.install_order.specs.Steps.{steps_of}
use Rattle.verdicts.specs.United.{plan_in, united}
use Rattle.verdicts.specs.Worlds.{world_of}

-- the ids of all steps
abbrev pub joined : List (List (List ℕ)) → List (List ℕ)
joined steps = flat_map (λ step. step) steps

-- an id needs something that isn't there, and a member gives it
pub record NeedsMember (content : Content) (rows : List ZoneRow) (members : List (List ℕ)) (id member : List ℕ) : Type 0 where
  pub need : List ℕ
  pub needs : Contains (needs_in content rows id) need
  pub absent : ¬ IsThere content rows need
  pub listed : Contains members member
  pub gives : Gives content member need

-- a member that gives an id
pub record IsGivenBy (content : Content) (members : List (List ℕ)) (id : List ℕ) : Type 0 where
  pub member : List ℕ
  pub listed : Contains members member
  pub gives : Gives content member id

-- why a member is there: it gives a chosen resolver, or needs lead to it from a member that does, each needing the next
pub record HasCause (content : Content) (rows : List ZoneRow) (chosen members : List (List ℕ)) (id : List ℕ) : Type 0 where
  pub resolver : List ℕ
  pub is_chosen : Contains chosen resolver
  pub first : IsGivenBy content members resolver
  pub leads : Leads (NeedsMember content rows members) first.member id

-- it comes of the chosen plan of a chosen resolver
pub record IsPlanned (content : Content) (rows : List ZoneRow) (chosen : List (List ℕ)) (id : List ℕ) : Type 0 where
  pub resolver : List ℕ
  pub is_chosen : Contains chosen resolver
  pub listed : Contains (plan_in content rows resolver) id

-- What may come as a step after others. It has an id, and none of its ids stands in another step. With it, what is
-- installed so far is a plan: each need of each is there, or one of them gives it. And if needs lead from one in it to another,
-- they lead back.
pub record IsNextStep (content : Content) (rows : List ZoneRow) (members : List (List ℕ)) (before : List (List (List ℕ))) (step : List (List ℕ)) : Type 0 where
  pub first : List ℕ
  pub begun : Contains step first
  pub once : (id : List ℕ) → Contains step id → ¬ Contains (joined before) id
  pub plan : IsPlan (world_of content rows) (joined (before ++ step ∷ []))
  pub back : (a b : List ℕ) → Contains step a → Contains step b → Leads (NeedsMember content rows members) a b → Leads (NeedsMember content rows members) b a

-- each step comes after those before it
abbrev pub AreStepsAfter : Content → List ZoneRow → List (List ℕ) → List (List (List ℕ)) → List (List (List ℕ)) → Type 0
AreStepsAfter content rows members before [] = Unit {0}
AreStepsAfter content rows members before (step ∷ later) =
    IsNextStep content rows members before step × AreStepsAfter content rows members (before ++ step ∷ []) later

-- ---- the members and their steps, as a function

-- whether an id comes before another one
abbrev pub is_less : List ℕ → List ℕ → Bool
is_less id other = is_lt (id_cmp id other)

-- whether another one outdoes an id: it gives the id, and the id doesn't give it, or is less
abbrev pub outdoes : Content → List ℕ → List ℕ → Bool
outdoes content id other =
    not (same_id other id) && (gives content other id && (is_less id other || not (gives content id other)))

-- of some ids those that no other of them outdoes
abbrev pub left_of : Content → List (List ℕ) → List (List ℕ)
left_of content ids = filter (λ id. not (list_any (outdoes content id) ids)) ids

-- whether an id needs something that isn't there and that another one gives
abbrev pub needs_id : Content → List ZoneRow → List ℕ → List ℕ → Bool
needs_id content rows id other =
    list_any (λ need. not (is_there content rows need) && gives content other need) (needs_in content rows id)

-- whether needs lead from one to another of some ids in at most so many steps
abbrev pub needed_within : Content → List ZoneRow → List (List ℕ) → ℕ → List ℕ → List ℕ → Bool
needed_within content rows ids zero from to = same_id from to
needed_within content rows ids (suc steps) from to =
    same_id from to || list_any (λ next. needs_id content rows from next && needed_within content rows ids steps next to) ids

-- whether they do in any number of steps: more than there are ids lead nowhere else
abbrev pub is_needed : Content → List ZoneRow → List (List ℕ) → List ℕ → List ℕ → Bool
is_needed content rows ids from to = needed_within content rows ids (length ids) from to

-- of some ids those that give a chosen resolver, and those to which needs lead from one that does
abbrev pub caused_in : Content → List ZoneRow → List (List ℕ) → List (List ℕ) → List (List ℕ)
caused_in content rows chosen ids =
    filter (λ id. list_any (λ start. list_any (gives content start) chosen && is_needed content rows ids start id) ids) ids

-- the members for some chosen resolvers
abbrev pub members_of : Content → List ZoneRow → List (List ℕ) → List (List ℕ)
members_of content rows chosen = caused_in content rows chosen (left_of content (united content rows chosen))

-- and the steps in which they are installed
abbrev pub zone_steps_of : Content → List ZoneRow → List (List ℕ) → List (List (List ℕ))
zone_steps_of content rows chosen =
    steps_of (is_needed content rows (members_of content rows chosen)) (length (united content rows chosen)) (members_of content rows chosen)

-- ---- what is so of them

-- The steps that install what some chosen resolvers want: those of the function. All members together are a plan. For each
-- chosen resolver there is a member that gives it. No member is there without a cause, or comes of no chosen plan. No member
-- gives another one, itself or through others.
pub record AreZoneSteps (content : Content) (rows : List ZoneRow) (chosen : List (List ℕ)) (steps : List (List (List ℕ))) : Type 0 where
  pub are : steps ≡ zone_steps_of content rows chosen
  pub order : AreStepsAfter content rows (joined steps) [] steps
  pub plan : IsPlan (world_of content rows) (joined steps)
  pub resolved : (id : List ℕ) → Contains chosen id → IsGivenBy content (joined steps) id
  pub caused : (id : List ℕ) → Contains (joined steps) id → HasCause content rows chosen (joined steps) id
  pub planned : (id : List ℕ) → Contains (joined steps) id → IsPlanned content rows chosen id
  pub alone : (a b : List ℕ) → Contains (joined steps) a → Contains (joined steps) b → Gives content b a → b ≡ a
