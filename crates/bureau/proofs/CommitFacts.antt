-- Making an accepted change.
use Rattle.std.proofs.Common.{◌≡◌, ℕ, List, refl, subst}
use Rattle.std.specs.Prelude.{Result}
use Rattle.catalogue.specs.View.{View}
use Rattle.bureau_store.specs.Store.{Makes, Update, update}
use Rattle.bureau_store.specs.Tables.{Tables}
use Rattle.bureau_store.specs.declared.fault.StoreFault.{StoreFault}
use Rattle.bureau.specs.Outcomes.{effect_as, maker_of}
use Rattle.bureau.specs.declared.outcome.Effect.{Effect}

module _ {Store : Type 0} {view : View Store Tables} {HasOutgrown : Update → Store → Store → Type 0} {old new : Store} {answer : Result (Unit {0}) StoreFault} where
  -- what a store makes of slices, it makes of the lists that they show
  pub makes_effect : {What : Type 0} (effect this : Effect) → this ≡ effect → (number : ℕ) {reply text : List ℕ} {what items : What} (asked : List ℕ → What → Update)
      → reply ≡ text → what ≡ items → Makes view HasOutgrown (asked reply what) old new answer
      → asked text items ≡ update (maker_of this) (effect_as this) number text
      → Makes view HasOutgrown (update (maker_of effect) (effect_as effect) number text) old new answer
  makes_effect {What = What} effect this is number {reply} {text} {what} {items} asked replies whats made same =
      subst (λ (e : Effect). Makes view HasOutgrown (update (maker_of e) (effect_as e) number text) old new answer) is
      (subst (λ (u : Update). Makes view HasOutgrown u old new answer) same
      (subst (λ (w : What). Makes view HasOutgrown (asked text w) old new answer) whats
      (subst (λ (r : List ℕ). Makes view HasOutgrown (asked r what) old new answer) replies made)))

-- a drop is handed nothing but names
pub nothing_handed : ◌≡◌ {A = Unit {0}} tt tt
nothing_handed = refl
