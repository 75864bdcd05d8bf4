-- The inputs of each report, by the lists and publications that a call is handed.
use Rattle.std.specs.Prelude.{ℕ, List, None}
use Rattle.std.specs.Option.{option_map}
use Rattle.file_reports.specs.Inputs.{Inputs}
use Rattle.file_reports.specs.declared.inputs.Lists.{Lists}

abbrev pub inputs_of : Lists → List (List ℕ) → Inputs
inputs_of lists publications = record {
  zone = lists.zone.now;
  categories = option_map (λ body. body.now) lists.categories;
  received = option_map (λ body. body.now) lists.received;
  publications = publications;
}

-- the exception SYSMOD report reads no categories
abbrev pub err_inputs_of : Lists → List (List ℕ) → Inputs
err_inputs_of lists publications = record (inputs_of lists publications) { categories = None }

-- a verdict reads the zone's rows and no other list
abbrev pub chain_inputs_of : Lists → List (List ℕ) → Inputs
chain_inputs_of lists publications = record (inputs_of lists publications) { categories = None; received = None }
