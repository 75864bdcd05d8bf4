use Rattle.std.proofs.Common.{ℕ, List}
use Rattle.std.specs.Borrow.{Bor}
use Rattle.std.proofs.lemmas.List.Folds.{list_all-map}
use Rattle.mcs_reader.specs.Category.{is_category}
use Rattle.holddata.proofs.categories.are_in_order.Goals as goal

pub returns-then-are_allowed : goal.returns-then-are_allowed
returns-then-are_allowed c =
    rw (list_all-map is_category (λ (text : Bor (List ℕ)). text.now) c.args.texts.now, ← c.are_allowed.ensures, c.if-are_allowed.true) c.are_ascending.ensures

pub returns-else-are_allowed : goal.returns-else-are_allowed
returns-else-are_allowed c =
    rw (list_all-map is_category (λ (text : Bor (List ℕ)). text.now) c.args.texts.now, ← c.are_allowed.ensures, c.if-are_allowed.false)
