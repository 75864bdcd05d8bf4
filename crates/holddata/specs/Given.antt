-- No part of what is promised: private contracts cite it. What the code keeps of the values of
-- operands.
use Rattle.std.specs.Prelude.{◌≡◌, ℕ, ◌≤◌, false, List, [], ◌∷◌, length, codes, Some, None}
use Rattle.std.specs.Borrow.{Bor}
use Rattle.holddata.specs.declared.key.Kind.{Kind}
use Rattle.holddata.specs.declared.operands.Given.{Given}
use Rattle.holddata.specs.declared.operands.Given.TheVariants.{Nothing, One, Several}
use Rattle.holddata.specs.declared.operands.Gathered.{Gathered}
use Rattle.mcs_reader.specs.OperandText.{OperandText}
use Rattle.holddata.specs.Operands.{the_kind, is_nothing, kinds_of, values_of}

-- it tells no values, one value and several apart, and keeps the one
abbrev pub Shows : Given (Bor (List ℕ)) → List (List ℕ) → Type 0
Shows Nothing values = values ≡ []
Shows (One value) values = values ≡ value.now ∷ []
Shows Several values = 2 ≤ length values

-- it tells no kind, one kind and several apart, and keeps the one
abbrev pub ShowsKinds : Given Kind → List Kind → Type 0
ShowsKinds Nothing kinds = kinds ≡ []
ShowsKinds (One kind) kinds = the_kind kinds ≡ Some kind
ShowsKinds Several kinds = record { several : the_kind kinds ≡ None; some : is_nothing kinds ≡ false }

-- it keeps what operands give under each name
pub record IsGathered (given : Gathered) (operands : List OperandText) : Type 0 where
  pub kinds : ShowsKinds given.kinds (kinds_of operands)
  pub reason : Shows given.reason (values_of (codes "REASON") operands)
  pub fmid : Shows given.fmid (values_of (codes "FMID") operands)
  pub class : Shows given.class (values_of (codes "CLASS") operands)
  pub resolver : Shows given.resolver (values_of (codes "RESOLVER") operands)
  pub date : Shows given.date (values_of (codes "DATE") operands)
  pub category : Shows given.category (values_of (codes "CATEGORY") operands)
