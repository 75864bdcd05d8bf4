-- No part of what is promised: private contracts cite it. The callers that were read so far.
use Rattle.std.specs.Prelude.{◌≡◌, ℕ, Bool, List, map, is_some}
use Rattle.std.specs.BTreeMap.{is_at}
use Rattle.std.specs.Cmp.Lexicographic.{slice_cmp}
use Rattle.std.specs.List.{list_any}
use Rattle.std.specs.Map.{lookup}
use Rattle.std.specs.Ordering.{nat_cmp}
use Rattle.std.specs.Str.{bytes_eq}
use Rattle.zone_lists.specs.Lists.{in_order}
use Rattle.bureau_store.specs.Callers.{caller_list}
use Rattle.bureau_store.specs.declared.caller.CallerRow.{CallerRow}

-- a caller as a map's entry, the token at its name
abbrev pub row_of : List ℕ × List ℕ → CallerRow
row_of entry = record { name = entry.0; token = entry.1 }

-- whether a list of texts has a token, as a set looks for it
abbrev pub has_token : {Text : Type 0} → (Text → List ℕ) → List Text → List ℕ → Bool
has_token text_of texts token = list_any (λ text. is_at (slice_cmp nat_cmp token) (text_of text)) texts

-- The callers that came, in order by name. The map and the set of tokens say which names and which tokens came.
pub record HasCallers {Text : Type 0} (text_of : Text → List ℕ) (names : List (List ℕ × List ℕ)) (tokens : List Text) (came : List CallerRow) : Type 0 where
  pub listed : map row_of names ≡ in_order caller_list came
  pub by_name : (name : List ℕ) → list_any (λ row. bytes_eq name row.name) came ≡ is_some (lookup (is_at (slice_cmp nat_cmp name)) names)
  pub by_token : (token : List ℕ) → list_any (λ row. bytes_eq token row.token) came ≡ has_token text_of tokens token
