-- The callers file: who may call, each with a token.
use Rattle.std.specs.Prelude.{ℕ, ◌==◌, ◌&&◌, ◌||◌, Bool, List, length, nat_le, Option, Some, None, Result, Ok, Err, codes, if◌then◌else◌}
use Rattle.std.specs.Cmp.Lexicographic.{slice_cmp}
use Rattle.std.specs.List.{list_all, list_any}
use Rattle.std.specs.Ordering.{nat_cmp}
use Rattle.std.specs.Str.{bytes_eq}
use Rattle.std.specs.declared.cmp.Ordering.{Ordering}
use Rattle.mcs_reader.specs.Id.{id_of}
use Rattle.zone_lists.specs.Fields.{two_fields}
use Rattle.zone_lists.specs.Header.{are_names}
use Rattle.zone_lists.specs.Lists.{ListKind, Numbered, answer, records_of}
use Rattle.zone_lists.specs.declared.fault.ListFault.{ListFault}
use Rattle.zone_lists.specs.declared.fault.ListFault.TheVariants as list
use Rattle.bureau_store.specs.Caller.{is_publisher}
use Rattle.bureau_store.specs.declared.caller.CallerRow.{CallerRow}
use Rattle.bureau_store.specs.declared.fault.CallerFault.{CallerFault}
use Rattle.bureau_store.specs.declared.fault.CallerFault.TheVariants.{CallerHeader, BadCaller, NoPublisher, Memory}

-- a byte of a token: a letter, a digit, or one of `- . _ ~`
abbrev pub is_token_byte : ℕ → Bool
is_token_byte b =
    (nat_le 0x41 b && nat_le b 0x5A) || (nat_le 0x61 b && nat_le b 0x7A) || (nat_le 0x30 b && nat_le b 0x39)
    || b == 0x2D || b == 0x2E || b == 0x5F || b == 0x7E

-- a token: 8 to 64 such bytes
abbrev pub is_token : List ℕ → Bool
is_token text = nat_le 8 (length text) && nat_le (length text) 64 && list_all is_token_byte text

-- the row of a name and a token
abbrev pub named_row : Option (List ℕ) → List ℕ → Result CallerRow Numbered
named_row None token = Err list.BadRecord
named_row (Some name) token = if is_token token then Ok (record { name = name; token = token }) else Err list.BadRecord

-- the row that the fields of a record stand for
abbrev pub caller_fields : Option (List ℕ × List ℕ) → Result CallerRow Numbered
caller_fields None = Err list.BadRecord
caller_fields (Some fields) = named_row (id_of fields.0) fields.1

-- the order of rows is that of their names
abbrev pub row_order : CallerRow → CallerRow → Ordering
row_order a b = slice_cmp nat_cmp a.name b.name

-- a name or a token that came before
abbrev pub comes_again : CallerRow → CallerRow → Bool
comes_again row before = bytes_eq row.name before.name || bytes_eq row.token before.token

-- a callers file, of at most 10,000 records below the header NAME,TOKEN
abbrev pub caller_list : ListKind CallerRow
caller_list = record {
  is_header = λ fields. are_names (codes "NAME") (codes "TOKEN") (two_fields fields);
  limit = 10000;
  entry = λ fields. caller_fields (two_fields fields);
  order = row_order;
  contradicts = comes_again;
}

-- a list's fault as one of the callers file: whatever is wrong with a record, the record is a bad caller
abbrev pub caller_fault : ListFault → CallerFault
caller_fault list.Header = CallerHeader
caller_fault (list.BadRecord n) = BadCaller n
caller_fault (list.BadId n) = BadCaller n
caller_fault (list.BadState n) = BadCaller n
caller_fault (list.BadPattern n) = BadCaller n
caller_fault (list.Repeated n) = BadCaller n
caller_fault list.TooMany = BadCaller 10001
caller_fault list.Memory = Memory

-- one of the rows has the publisher's name
abbrev pub has_publisher : List CallerRow → Bool
has_publisher rows = list_any (λ row. is_publisher row.name) rows

-- the rows, the publisher's among them
abbrev pub with_publisher : Result (List CallerRow) ListFault → Result (List CallerRow) CallerFault
with_publisher (Ok rows) = if has_publisher rows then Ok rows else Err NoPublisher
with_publisher (Err fault) = Err (caller_fault fault)

-- what a text stands for as a callers file: its rows, ascending by name, or its first fault
abbrev pub callers_of : List ℕ → Result (List CallerRow) CallerFault
callers_of text = with_publisher (answer caller_list (records_of text))
