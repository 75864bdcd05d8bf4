-- Members of lists: what is found in a list, what a filter keeps, and what is made of each element.
use Rattle.std.proofs.Common.{◌≡◌, ◌⊎◌, ◌&&◌, ◌<◌, ℕ, zero, suc, length, get_or, ◌∙◌, Bool, true, false, cond, List, [], ◌∷◌, ◌++◌, Option, Some, None, map, refl, sym, ap, subst, inl, inr, arith}
use Rattle.std.specs.List.{AllByRecursion, Contains, cons_option, filter, filter_map, flat_map, list_all, list_any}
use Rattle.std.proofs.lemmas.Bool.{and_from, and_parts}
use Rattle.std.proofs.lemmas.List.Elements.{Contains-append_cases, Contains-append_left, Contains-append_right, Contains-push, Contains-push_cases}
use Rattle.std.proofs.lemmas.List.Folds.{Any-from_list_any, list_any-from_Any}

-- an element of a list that passes a test
pub record Passes {A : Type 0} (p : A → Bool) (xs : List A) : Type 0 where
  pub element : A
  pub member : Contains xs element
  pub passes : p element ≡ true

pub any_at : {A : Type 0} (p : A → Bool) (xs : List A) (x : A) → Contains xs x → p x ≡ true → list_any p xs ≡ true
any_at p xs x inside h = list_any-from_Any p xs (inside.0, x, inside.1, inside.2, h)

pub any_from : {A : Type 0} (p : A → Bool) (xs : List A) → list_any p xs ≡ true → Passes p xs
any_from p xs h = let found = Any-from_list_any p xs h in record { element = found.1; member = (found.0, found.2, found.3); passes = found.4 }

pub none_inside : {A : Type 0} (x : A) → Contains [] x → ⊥
none_inside x inside = omega (arith, inside.1)

pub first_inside : {A : Type 0} (x : A) (xs : List A) → Contains (x ∷ xs) x
first_inside x xs = Contains-append_left (x ∷ []) xs x (Contains-push [] x)

pub rest_inside : {A : Type 0} (x y : A) (xs : List A) → Contains xs y → Contains (x ∷ xs) y
rest_inside x y xs inside = Contains-append_right (x ∷ []) xs y inside

pub inside_cases : {A : Type 0} (x y : A) (xs : List A) → Contains (x ∷ xs) y → (x ≡ y) ⊎ Contains xs y
inside_cases x y xs inside = elim (Contains-append_cases (x ∷ []) xs y inside) [
  | inl first ↦ elim (Contains-push_cases [] x y first) [ inl none ↦ absurd (none_inside y none) | inr e ↦ inl e ]
  | inr later ↦ inr later
]

pub first_true : (a b : Bool) → (a && b) ≡ true → a ≡ true
first_true a b h = (and_parts a b h).0

pub second_true : (a b : Bool) → (a && b) ≡ true → b ≡ true
second_true a b h = (and_parts a b h).1

pub all_at : {A : Type 0} (p : A → Bool) (xs : List A) (x : A) → list_all p xs ≡ true → Contains xs x → p x ≡ true
all_at p [] x h inside = absurd (none_inside x inside)
all_at {A} p (y ∷ ys) x h inside = elim (inside_cases y x ys inside) [
  | inl same ↦ (let P : A → Type 0 = λ z. p z ≡ true in subst P same (first_true (p y) (list_all p ys) h))
  | inr later ↦ all_at p ys x (second_true (p y) (list_all p ys) h) later
]

pub all_from : {A : Type 0} (p : A → Bool) (xs : List A) → ((x : A) → Contains xs x → p x ≡ true) → list_all p xs ≡ true
all_from p [] each = refl
all_from p (y ∷ ys) each = and_from (p y) (list_all p ys) (each y (first_inside y ys)) (all_from p ys (λ x inside. each x (rest_inside y x ys inside)))

-- ---- what a filter keeps

pub kept_inside : {A : Type 0} (p : A → Bool) (xs : List A) (x : A) → Contains xs x → p x ≡ true → Contains (filter p xs) x
kept_inside p [] x inside h = absurd (none_inside x inside)
kept_inside {A} p (y ∷ ys) x inside h = go (λ (later : Contains ys x). kept_inside p ys x later h) (p y) refl where
  go : (Contains ys x → Contains (filter p ys) x) → (b : Bool) → p y ≡ b → Contains (cond b (y ∷ filter p ys) (filter p ys)) x
  go further true e = elim (inside_cases y x ys inside) [
    | inl same ↦ (let P : A → Type 0 = λ z. Contains (y ∷ filter p ys) z in subst P same (first_inside y (filter p ys)))
    | inr later ↦ rest_inside y x (filter p ys) (further later)
  ]
  go further false e = elim (inside_cases y x ys inside) [
    | inl same ↦ absurd (let P : A → Type 0 = λ z. p z ≡ false in let off : p x ≡ false = subst P same e in cc)
    | inr later ↦ further later
  ]

pub record IsKept {A : Type 0} (p : A → Bool) (xs : List A) (x : A) : Type 0 where
  pub member : Contains xs x
  pub passes : p x ≡ true

pub kept_from : {A : Type 0} (p : A → Bool) (xs : List A) (x : A) → Contains (filter p xs) x → IsKept p xs x
kept_from p [] x inside = absurd (none_inside x inside)
kept_from {A} p (y ∷ ys) x inside = go (λ (rest : Contains (filter p ys) x). kept_from p ys x rest) (p y) refl inside where
  later : IsKept p ys x → IsKept p (y ∷ ys) x
  later kept = record { member = rest_inside y x ys kept.member; passes = kept.passes }

  go : (Contains (filter p ys) x → IsKept p ys x) → (b : Bool) → p y ≡ b → Contains (cond b (y ∷ filter p ys) (filter p ys)) x → IsKept p (y ∷ ys) x
  go further true e inside = elim (inside_cases y x (filter p ys) inside) [
    | inl same ↦ (let P : A → Type 0 = λ z. IsKept p (y ∷ ys) z in subst P same (record { member = first_inside y ys; passes = e }))
    | inr rest ↦ later (further rest)
  ]
  go further false e inside = later (further inside)

-- ---- what is made of each element

pub map_inside : {A B : Type 0} (f : A → B) (xs : List A) (x : A) → Contains xs x → Contains (map f xs) (f x)
map_inside f [] x inside = absurd (none_inside x inside)
map_inside {A} {B} f (y ∷ ys) x inside = elim (inside_cases y x ys inside) [
  | inl same ↦ (let P : A → Type 0 = λ z. Contains (f y ∷ map f ys) (f z) in subst P same (first_inside (f y) (map f ys)))
  | inr later ↦ rest_inside (f y) (f x) (map f ys) (map_inside f ys x later)
]

pub record IsImage {A B : Type 0} (f : A → B) (xs : List A) (y : B) : Type 0 where
  pub from : A
  pub member : Contains xs from
  pub is : f from ≡ y

pub map_from : {A B : Type 0} (f : A → B) (xs : List A) (y : B) → Contains (map f xs) y → IsImage f xs y
map_from f [] y inside = absurd (none_inside y inside)
map_from f (x ∷ xs) y inside = elim (inside_cases (f x) y (map f xs) inside) [
  | inl same ↦ record { from = x; member = first_inside x xs; is = same }
  | inr later ↦ (let image = map_from f xs y later in record { from = image.from; member = rest_inside x image.from xs image.member; is = image.is })
]

-- what a test makes of a list, where it makes something
pub map_found : {A B : Type 0} (f : A → Option B) (xs : List A) (x : A) (y : B) → Contains xs x → f x ≡ Some y → Contains (filter_map f xs) y
map_found f [] x y inside e = absurd (none_inside x inside)
map_found {A} {B} f (z ∷ zs) x y inside e = elim (inside_cases z x zs inside) [
  | inl same ↦ (let P : A → Type 0 = λ w. f w ≡ Some y in now (f z) (subst P (sym same) e))
  | inr later ↦ more (f z) (map_found f zs x y later e)
] where
  now : (o : Option B) → o ≡ Some y → Contains (cons_option o (filter_map f zs)) y
  now None e = absurd (cc)
  now (Some w) e = let same : w ≡ y = (cc) in let P : B → Type 0 = λ v. Contains (w ∷ filter_map f zs) v in subst P same (first_inside w (filter_map f zs))

  more : (o : Option B) → Contains (filter_map f zs) y → Contains (cons_option o (filter_map f zs)) y
  more None inside = inside
  more (Some w) inside = rest_inside w y (filter_map f zs) inside

pub record IsMade {A B : Type 0} (f : A → Option B) (xs : List A) (y : B) : Type 0 where
  pub from : A
  pub member : Contains xs from
  pub is : f from ≡ Some y

pub made_from : {A B : Type 0} (f : A → Option B) (xs : List A) (y : B) → Contains (filter_map f xs) y → IsMade f xs y
made_from f [] y inside = absurd (none_inside y inside)
made_from {A} {B} f (z ∷ zs) y inside = go (f z) refl (λ (rest : Contains (filter_map f zs) y). made_from f zs y rest) inside where
  later : IsMade f zs y → IsMade f (z ∷ zs) y
  later made = record { from = made.from; member = rest_inside z made.from zs made.member; is = made.is }

  go : (o : Option B) → f z ≡ o → (Contains (filter_map f zs) y → IsMade f zs y) → Contains (cons_option o (filter_map f zs)) y → IsMade f (z ∷ zs) y
  go None e further inside = later (further inside)
  go (Some w) e further inside = elim (inside_cases w y (filter_map f zs) inside) [
    | inl same ↦ record { from = z; member = first_inside z zs; is = e ∙ ap Some same }
    | inr rest ↦ later (further rest)
  ]

pub filter_map_push : {X Y : Type 0} (f : X → Option Y) (xs : List X) (x : X) → filter_map f xs ++ cons_option (f x) [] ≡ filter_map f (xs ++ x ∷ [])
filter_map_push f [] x = refl
filter_map_push {X} {Y} f (y ∷ ys) x = go (f y) (filter_map_push f ys x) where
  go : (o : Option Y) → filter_map f ys ++ cons_option (f x) [] ≡ filter_map f (ys ++ x ∷ []) → cons_option o (filter_map f ys) ++ cons_option (f x) [] ≡ cons_option o (filter_map f (ys ++ x ∷ []))
  go None rest = rest
  go (Some z) rest = ap (λ l. z ∷ l) rest

-- ---- lists of lists

pub record IsFrom {A B : Type 0} (f : A → List B) (xs : List A) (y : B) : Type 0 where
  pub from : A
  pub listed : Contains xs from
  pub has : Contains (f from) y

pub flat_from : {A B : Type 0} (f : A → List B) (xs : List A) (y : B) → Contains (flat_map f xs) y → IsFrom f xs y
flat_from f [] y inside = absurd (none_inside y inside)
flat_from f (x ∷ xs) y inside = elim (Contains-append_cases (f x) (flat_map f xs) y inside) [
  | inl first ↦ record { from = x; listed = first_inside x xs; has = first }
  | inr later ↦ (let rest = flat_from f xs y later in record { from = rest.from; listed = rest_inside x rest.from xs rest.listed; has = rest.has })
]

pub flat_inside : {A B : Type 0} (f : A → List B) (xs : List A) (x : A) (y : B) → Contains xs x → Contains (f x) y → Contains (flat_map f xs) y
flat_inside f [] x y listed has = absurd (none_inside x listed)
flat_inside {A} {B} f (z ∷ zs) x y listed has = elim (inside_cases z x zs listed) [
  | inl same ↦ (let P : A → Type 0 = λ w. Contains (f w) y in Contains-append_left (f z) (flat_map f zs) y (subst P (sym same) has))
  | inr later ↦ Contains-append_right (f z) (flat_map f zs) y (flat_inside f zs x y later has)
]

-- ---- what each element has

pub all_so : {K : Type 0} (P Q : K → Type 0) → ((x : K) → P x → Q x) → (xs : List K) → AllByRecursion P xs → AllByRecursion Q xs
all_so P Q so [] h = tt
all_so P Q so (x ∷ xs) h = (so x h.0, all_so P Q so xs h.1)

pub all_append : {K : Type 0} (P : K → Type 0) (xs ys : List K) → AllByRecursion P xs → AllByRecursion P ys → AllByRecursion P (xs ++ ys)
all_append P [] ys h g = g
all_append P (x ∷ xs) ys h g = (h.0, all_append P xs ys h.1 g)

pub all_in : {A : Type 0} (P : A → Type 0) (xs : List A) → AllByRecursion P xs → (x : A) → Contains xs x → P x
all_in P [] all x inside = absurd (none_inside x inside)
all_in {A} P (y ∷ ys) all x inside = elim (inside_cases y x ys inside) [
  | inl same ↦ (let Q : A → Type 0 = λ z. P z in subst Q same all.0)
  | inr later ↦ all_in P ys all.1 x later
]

-- within a list what stands past its end doesn't count
pub get_any : {X : Type 0} (xs : List X) (k : ℕ) (d e : X) → k < length xs → get_or xs k d ≡ get_or xs k e
get_any [] k d e within = absurd (omega (arith, within))
get_any (x ∷ xs) zero d e within = refl
get_any (x ∷ xs) (suc k) d e within = get_any xs k d e (omega (arith, within))
