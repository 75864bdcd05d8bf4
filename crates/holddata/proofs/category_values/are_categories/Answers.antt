use Rattle.std.proofs.Common.{ℕ, List, Bor, sym, ◌∙◌}
use Rattle.std.proofs.lemmas.List.Folds.{list_all-map}
use Rattle.mcs_reader.specs.Category.{is_category}
use Rattle.holddata.proofs.category_values.are_categories.Goals as goal

pub returns : goal.returns
returns c = c.are_allowed.ensures ∙ sym (list_all-map is_category (λ (value : Bor (List ℕ)). value.now) c.args.values.now)
