-- A caller that a token tells is never a client with the publisher's name.
use Rattle.std.proofs.Common.{◌≡◌, ℕ, Bool, true, false, cond, List, refl, sym, ◌∙◌}
use Rattle.std.specs.Prelude.{IfSome, Option, Some, None, find}
use Rattle.std.specs.Option.{option_map}
use Rattle.std.specs.Str.{bytes_eq}
use Rattle.std.proofs.lemmas.Slice.Eq.{bytes_eq-Decides}
use Rattle.bureau_store.specs.Caller.{IsProper, caller_named, caller_with, is_publisher, publisher_name}
use Rattle.bureau_store.specs.declared.caller.Caller.TheVariants.{Publisher, Client}
use Rattle.bureau_store.specs.declared.caller.CallerRow.{CallerRow}

named_proper : (name : List ℕ) (b : Bool) → is_publisher name ≡ b → IsProper (cond b Publisher (Client name))
named_proper name true is = tt
named_proper name false is = λ same. let e : false ≡ true = sym is ∙ (bytes_eq-Decides name publisher_name).1 same in cc

pub told_proper : (rows : List CallerRow) (token : List ℕ) → IfSome (caller_with rows token) IsProper
told_proper rows token = by (find (λ row. bytes_eq row.token token) rows)
  where
    by : (o : Option CallerRow) → IfSome (option_map (λ row. caller_named row.name) o) IsProper
    by None = tt
    by (Some row) = named_proper row.name (is_publisher row.name) refl
