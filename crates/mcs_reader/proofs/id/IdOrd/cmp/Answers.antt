use Rattle.std.proofs.Common.{◌∙◌, ap}
use Rattle.std.specs.Ordering.{nat_cmp}
use Rattle.std.specs.Cmp.Lexicographic.{slice_cmp}
use Rattle.mcs_reader.specs.Id.{number}
use Rattle.mcs_reader.proofs.IdOrderFacts.{as_numbers}
use Rattle.mcs_reader.proofs.id.IdOrd.cmp.Goals as goal

pub returns : goal.returns
returns c =
    c.cmp.ensures
    ∙ ap (λ n. nat_cmp n c.number_of-2.result) c.number_of.ensures
    ∙ ap (nat_cmp (number 0 c.self.inside.bytes)) c.number_of-2.ensures
    ∙ as_numbers c.self.inside.bytes c.other.inside.bytes c.self.invariant c.other.invariant
    ∙ ap (λ xs. slice_cmp nat_cmp xs c.other.inside.bytes) c.self.view_is
    ∙ ap (slice_cmp nat_cmp c.args.self.now) c.other.view_is
