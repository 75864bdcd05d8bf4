-- A path needs no more steps than there are ids to step from: one that comes to an id twice can be cut short there.
use Rattle.std.proofs.Common.{◌≡◌, ◌⊎◌, ℕ, zero, suc, ◌≤◌, false, List, [], ◌∷◌, length, inl, inr, arith}
use Rattle.std.specs.Str.{bytes_eq}
use Rattle.std.proofs.lemmas.Bool.{cases_Bool}
use Rattle.std.proofs.lemmas.Slice.Eq.{bytes_eq-Decides}
use Rattle.supersede.proofs.GivingFacts.{In, same_self}
use Rattle.supersede.proofs.WithoutFacts.{fewer, in_without, without}

-- each id of a path from which it steps on
abbrev pub AllSources : (List ℕ → Type 0) → List ℕ → List (List ℕ) → Type 0
AllSources P from [] = Unit {0}
AllSources P from (next ∷ later) = P from × AllSources P next later

-- paths of whatever steps: one that has a step is that step, and a path after it
module _ (Step : List ℕ → List ℕ → Type 0) (Leads : List ℕ → List (List ℕ) → List ℕ → Type 0)
    (parts : (from next : List ℕ) (later : List (List ℕ)) (to : List ℕ) → Leads from (next ∷ later) to → Step from next × Leads next later to)
    (whole : (from next : List ℕ) (later : List (List ℕ)) (to : List ℕ) → Step from next × Leads next later to → Leads from (next ∷ later) to) where
  sources_without : (x : List ℕ) (ids : List (List ℕ)) (from : List ℕ) (list : List (List ℕ)) → AllSources (In ids) from list → AllSources (λ s. bytes_eq s x ≡ false) from list → AllSources (In (without x ids)) from list
  sources_without x ids from [] all apart = tt
  sources_without x ids from (next ∷ later) all apart = (in_without x ids from all.0 apart.0, sources_without x ids next later all.1 apart.1)

  -- what a path has after its last visit to an id
  record Rest (x to : List ℕ) (ids : List (List ℕ)) : Type 0 where
    next : List ℕ
    later : List (List ℕ)
    step : Step x next
    path : Leads next later to
    all : AllSources (In ids) next later
    apart : AllSources (λ s. bytes_eq s x ≡ false) next later

  last_visit : (x from : List ℕ) (list : List (List ℕ)) (to : List ℕ) (ids : List (List ℕ)) → Leads from list to → AllSources (In ids) from list
      → AllSources (λ s. bytes_eq s x ≡ false) from list ⊎ Rest x to ids
  last_visit x from [] to ids path all = inl tt
  last_visit x from (next ∷ later) to ids path all =
      let on = parts from next later to path in
      elim (last_visit x next later to ids on.1 all.1) [
        | inr rest ↦ inr rest
        | inl apart ↦ elim (cases_Bool (bytes_eq from x)) [
          | inr other ↦ inl (other, apart)
          | inl this ↦
              let is : from ≡ x = (bytes_eq-Decides from x).0 this in
              inr (record { next = next; later = later; step = rw (← is) on.0; path = on.1; all = all.1; apart = apart })
        ]
      ]

  pub record Short (from to : List ℕ) (n : ℕ) : Type 0 where
    pub list : List (List ℕ)
    pub path : Leads from list to
    pub short : length list ≤ n

  -- a path needs no more steps than there are ids from which it steps
  pub shorten : (n : ℕ) (ids : List (List ℕ)) → length ids ≤ n → (from : List ℕ) (list : List (List ℕ)) (to : List ℕ) → Leads from list to → AllSources (In ids) from list → Short from to (length ids)
  shorten n ids few from [] to path all = record { list = []; path = path; short = omega arith }
  shorten zero ids few from (next ∷ later) to path all = let some = fewer from ids all.0 in absurd (omega (arith, some, few))
  shorten (suc n) ids few from (next ∷ later) to path all =
      let some = fewer from ids all.0 in
      elim (last_visit from from (next ∷ later) to ids path all) [
        | inl apart ↦ absurd (let self = same_self from in cc (self, apart.0))
        | inr rest ↦
            let less = shorten n (without from ids) (omega (arith, some, few)) rest.next rest.later to rest.path (sources_without from ids rest.next rest.later rest.all rest.apart) in
            record { list = rest.next ∷ less.list; path = whole from rest.next less.list to (rest.step, less.path); short = let few_more = less.short in omega (arith, some, few_more) }
      ]
