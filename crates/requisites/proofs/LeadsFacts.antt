-- Lists that lead from one to another.
use Rattle.std.proofs.Common.{◌≡◌, ◌⊎◌, List, [], ◌∷◌, ◌++◌, refl, sym, subst, inl, inr}
use Rattle.requisites.specs.Leads.{IsPath, Leads}

-- one step more at the end
pub IsPath-push : {A : Type 0} (Step : A → A → Type 0) (x y z : A) (list : List A) → IsPath Step x list y → Step y z → IsPath Step x (list ++ z ∷ []) z
IsPath-push {A} Step x y z [] same step = let P : A → Type 0 = λ w. Step w z in (subst P (sym same) step, refl)
IsPath-push Step x y z (w ∷ ws) path step = (path.0, IsPath-push Step w y z ws path.1 step)

pub leads_itself : {A : Type 0} (Step : A → A → Type 0) (x : A) → Leads Step x x
leads_itself Step x = record { list = []; path = refl }

pub leads_more : {A : Type 0} {Step : A → A → Type 0} {x y z : A} → Leads Step x y → Step y z → Leads Step x z
leads_more {A} {Step} {x} {y} {z} l step = record { list = l.list ++ z ∷ []; path = IsPath-push Step x y z l.list l.path step }

IsPath-closed : {A : Type 0} (Step : A → A → Type 0) (P : A → Type 0) (x y : A) (list : List A) → ((u v : A) → P u → Step u v → P v) → P x → IsPath Step x list y → P y
IsPath-closed Step P x y [] closed here same = subst P same here
IsPath-closed Step P x y (z ∷ zs) closed here path = IsPath-closed Step P z y zs closed (closed x z here path.0) path.1

-- what holds of x and is handed on by each step holds of all that x leads to
pub leads_closed : {A : Type 0} {Step : A → A → Type 0} (P : A → Type 0) {x y : A} → ((u v : A) → P u → Step u v → P v) → P x → Leads Step x y → P y
leads_closed {A} {Step} P {x} {y} closed here l = IsPath-closed Step P x y l.list closed here l.path

-- the last step of a list
pub record LastStep {A : Type 0} (Step : A → A → Type 0) (x y : A) : Type 0 where
  pub before : A
  pub leads : Leads Step x before
  pub step : Step before y

IsPath-last : {A : Type 0} (Step : A → A → Type 0) (x y : A) (list : List A) → IsPath Step x list y → (x ≡ y) ⊎ LastStep Step x y
IsPath-last Step x y [] same = inl same
IsPath-last {A} Step x y (z ∷ zs) path =
    elim (IsPath-last Step z y zs path.1) [
      | inl same ↦ inr (record { before = x; leads = leads_itself Step x; step = (let P : A → Type 0 = λ w. Step x w in subst P same path.0) })
      | inr last ↦ inr (record {
        before = last.before;
        leads = record { list = z ∷ last.leads.list; path = (path.0, last.leads.path) };
        step = last.step;
      })
    ]

-- a list leads to y: x is y, or the list has a last step
pub leads_last : {A : Type 0} {Step : A → A → Type 0} {x y : A} → Leads Step x y → (x ≡ y) ⊎ LastStep Step x y
leads_last {A} {Step} {x} {y} l = IsPath-last Step x y l.list l.path
