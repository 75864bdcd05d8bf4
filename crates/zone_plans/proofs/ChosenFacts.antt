-- The resolver that is chosen for a hold.
use Rattle.std.proofs.Common.{◌≡◌, ◌∙◌, ◌⊎◌, ℕ, List, [], ◌∷◌, Bool, true, false, arith, length, map, refl, sym, ap, subst, inl, inr}
use Rattle.std.specs.Prelude.{◌==◌}
use Rattle.std.specs.List.{Contains, filter}
use Rattle.lemmas.proofs.ListFacts.{kept_from, map_from}
use Rattle.lemmas.proofs.TestFacts.{same_number}
use Rattle.verdicts.specs.declared.verdict.Status.{Status}
use Rattle.verdicts.specs.declared.verdict.Status.TheVariants.{Good, Held, Lack}
use Rattle.reports.specs.Holds.{HoldLists}
use Rattle.reports.specs.declared.holds.Resolver.{Resolver}
use Rattle.zone_plans.specs.Choices.{of_status, or_all, received_or_all, same_status}
use Rattle.zone_plans.specs.Graphs.{AreResolversOf}

or_all_inside : {A : Type 0} (kept all : List A) (x : A) → Contains (or_all kept all) x → Contains kept x ⊎ Contains all x
or_all_inside [] all x inside = inr inside
or_all_inside (first ∷ more) all x inside = inl inside

pub kept_or_all : {A : Type 0} (p : A → Bool) (xs : List A) (x : A) → Contains (or_all (filter p xs) xs) x → Contains xs x
kept_or_all p xs x inside = elim (or_all_inside (filter p xs) xs x inside) [
  | inl kept ↦ (kept_from p xs x kept).member
  | inr all ↦ all
]

pub same_is : (a b : Status) → same_status a b ≡ true → a ≡ b
same_is Good Good e = refl
same_is Held Held e = refl
same_is Lack Lack e = refl
same_is Good Held e = absurd (cc e)
same_is Good Lack e = absurd (cc e)
same_is Held Good e = absurd (cc e)
same_is Held Lack e = absurd (cc e)
same_is Lack Good e = absurd (cc e)
same_is Lack Held e = absurd (cc e)

-- ---- what is chosen

-- a resolver of a hold, of a kind
pub record IsOfKind (status : Status) (hold : HoldLists) (id : List ℕ) : Type 0 where
  pub resolver : Resolver
  pub listed : Contains hold.resolvers resolver
  pub is : resolver.id ≡ id
  pub kind : resolver.status ≡ status

-- ---- those of which one is chosen

-- the resolvers of a hold of which one is chosen
abbrev pub among_of : Status → HoldLists → List (List ℕ)
among_of status hold = map (λ (r : Resolver). r.id) (received_or_all (of_status status hold.resolvers))

pub among_inside : (ids : List (List ℕ)) (status : Status) (hold : HoldLists) → AreResolversOf ids hold → (id : List ℕ) → Contains (among_of status hold) id → Contains ids id
among_inside ids status hold inside id listed =
    let kinds = of_status status hold.resolvers in
    let own = map_from (λ (r : Resolver). r.id) (received_or_all kinds) id listed in
    let kept = kept_from (λ (r : Resolver). same_status r.status status) hold.resolvers own.from (kept_or_all (λ (r : Resolver). r.received) kinds own.from own.member) in
    let P : List ℕ → Type 0 = λ x. Contains ids x in
    subst P own.is (inside own.from kept.member)

-- all of a kind if none is received, and else those that are
pub none_received : (kinds received : List Resolver) → received ≡ filter (λ (r : Resolver). r.received) kinds → received ≡ [] → kinds ≡ received_or_all kinds
none_received kinds received is none = ap (λ (l : List Resolver). or_all l kinds) (sym none ∙ is)

or_all_some : {A : Type 0} (kept all : List A) → (kept ≡ [] → ⊥) → kept ≡ or_all kept all
or_all_some [] all some = absurd (some refl)
or_all_some (first ∷ more) all some = refl

pub some_received : (kinds received : List Resolver) → received ≡ filter (λ (r : Resolver). r.received) kinds → (received ≡ [] → ⊥) → received ≡ received_or_all kinds
some_received kinds received is some = or_all_some received kinds some ∙ ap (λ (l : List Resolver). or_all l kinds) is

pub empty_is : {A : Type 0} (xs : List A) → (length xs == 0) ≡ true → xs ≡ []
empty_is [] e = refl
empty_is (x ∷ xs) e = absurd (let none = same_number (length (x ∷ xs)) 0 e in omega (arith, none))

pub some_is_not : {A : Type 0} (xs : List A) → (length xs == 0) ≡ false → xs ≡ [] → ⊥
some_is_not [] e same = cc e
some_is_not (x ∷ xs) e same = cc same
