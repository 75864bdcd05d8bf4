use Rattle.std.proofs.Common.{inl, inr, subst}
use Rattle.std.specs.List.{Contains}
use Rattle.bureau_sql.proofs.kept.Kept.put.Goals as goal

pub returns : goal.returns
returns g c = λ one inside.
    elim (c.store.ensures one inside) [
      | inl earlier ↦ inl (c.forget.ensures one (c.make_room.ensures one (subst (λ list. Contains list one) c.make.ensures earlier)))
      | inr now ↦ inr now
    ]
