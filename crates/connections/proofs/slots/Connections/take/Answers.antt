use Rattle.std.proofs.Common.{◌≡◌, sym, subst, refl, arith, Some, slice_get, length}
use Rattle.std.proofs.lemmas.Option.{slice_get_read}
use Rattle.connections.proofs.SlotFacts.{none_past, take_none}
use Rattle.connections.proofs.slots.Connections.take.Goals as goal

pub returns-then-slot-len-clause-none : goal.returns-then-slot-len-clause-none
returns-then-slot-len-clause-none c =
    take_none c.args.self.now.slots.items c.args.slot c.take.result c.take.new.self (λ before. Unit {0})
    (subst (λ r. slice_get c.args.self.now.slots.items c.args.slot ≡ Some r) (sym c.take.ensures.value)
    (slice_get_read c.args.self.now.slots.items (length c.args.self.now.slots.items) c.args.slot c.index_mut.result.now refl (omega arith) c.index_mut.ensures.value))
    c.take.ensures.after

pub returns-else-slot-len-clause-none : goal.returns-else-slot-len-clause-none
returns-else-slot-len-clause-none c = (none_past c.args.self.now.slots.items c.args.slot (λ before. Unit {0}) (omega arith), refl)
