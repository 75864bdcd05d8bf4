-- A source that is asked, and asked again.
use Rattle.std.proofs.Common.{arith, inl, inr}
use Rattle.catalogue.specs.View.{Goes, HasFailed, View}

module _ {Source Held : Type 0} {view : View Source Held} where
  -- what has failed since a later moment has failed since an earlier one
  pub failed_since : {a b c : Source} → Goes view a b → HasFailed view b c → HasFailed view a c
  failed_since goes (inl rose) = inl (omega (arith, goes.failures_rise, rose))
  failed_since goes (inr most) = inr most
