-- Who calls, and the token that identifies a caller.
use Rattle.std.specs.Prelude.{◌≢◌, ℕ, Bool, true, false, List, map, find, codes, Option, Contains, if◌then◌else◌}
use Rattle.std.specs.Option.{option_map}
use Rattle.std.specs.Str.{bytes_eq}
use Rattle.mcs_reader.specs.Id.{text_of}
use Rattle.bureau_store.specs.declared.caller.Caller.{Caller}
use Rattle.bureau_store.specs.declared.caller.Caller.TheVariants.{Publisher, Client}
use Rattle.bureau_store.specs.declared.caller.CallerRow.{CallerRow}

-- whether two callers are the same one
abbrev pub is_caller : Caller → Caller → Bool
is_caller Publisher Publisher = true
is_caller Publisher (Client name) = false
is_caller (Client name) Publisher = false
is_caller (Client name) (Client other) = bytes_eq name other

-- the name that stands for the publisher
abbrev pub publisher_name : List ℕ
publisher_name = codes "PUBLISH"

-- the name of a caller, without the blanks after it
abbrev pub name_text : Caller → List ℕ
name_text Publisher = publisher_name
name_text (Client name) = text_of name

-- whether a name is the publisher's
abbrev pub is_publisher : List ℕ → Bool
is_publisher name = bytes_eq name publisher_name

-- the caller of a name
abbrev pub caller_named : List ℕ → Caller
caller_named name = if is_publisher name then Publisher else Client name

-- the caller whose token this is
abbrev pub caller_with : List CallerRow → List ℕ → Option Caller
caller_with rows token = option_map (λ row. caller_named row.name) (find (λ row. bytes_eq row.token token) rows)

-- the caller is one of these
abbrev pub IsAmong : List CallerRow → Caller → Type 0
IsAmong rows caller = Contains (map (λ row. caller_named row.name) rows) caller

-- a client doesn't have the publisher's name
abbrev pub IsProper : Caller → Type 0
IsProper Publisher = Unit {0}
IsProper (Client name) = name ≢ publisher_name
