use Rattle.std.proofs.Common.{refl}
use Rattle.bureau_store.specs.Lists.{Lists}
use Rattle.bureau_store.proofs.StoreFacts.{publication_ordered}
use Rattle.bureau_store.proofs.list_store.ListStore.make_publication.Goals as goal

pub invariant_of-self : goal.invariant_of-self
invariant_of-self c =
    let old : Lists = record { callers = c.self.inside.rows.items; content = c.self.inside.published; publisher = c.self.inside.published_last; clients = c.self.inside.by_name.entries } in
    let new : Lists = record { callers = c.self.inside.rows.items; content = c.publish.new.self; publisher = c.self.inside.published_last; clients = c.self.inside.by_name.entries } in
    record { tokens = c.self.invariant.tokens; ours = record { in_order = publication_ordered old new c.publish.ensures.in_order refl c.self.invariant.ours.in_order } }
