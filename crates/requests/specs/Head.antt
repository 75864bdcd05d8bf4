-- The head of a request as the spans of its parts in its bytes, as `httparse` reads it.
use Rattle.std.specs.Prelude.{ℕ, List, [], length, option_map, IfSome}
use Rattle.httparse.specs.Grammar.{RequestHead, ReadsRequest}
use Rattle.httparse.specs.Spans.{IsWithin, span_bytes}
use Rattle.requests.specs.Request.{Parts}
use Rattle.requests.specs.declared.head.Head.{Head}

-- the parts that the spans cover in bytes
abbrev pub parts_at : List ℕ → Head → Parts
parts_at bytes head = record {
  method = span_bytes bytes head.method;
  target = span_bytes bytes head.target;
  token = option_map (span_bytes bytes) head.token;
  number = option_map (span_bytes bytes) head.number;
  closes = head.closes;
}

-- the spans lie in the bytes
pub record LiesIn (bytes : List ℕ) (head : Head) : Type 0 where
  pub method : IsWithin (length bytes) head.method
  pub target : IsWithin (length bytes) head.target
  pub token : IfSome head.token (IsWithin (length bytes))
  pub number : IfSome head.number (IsWithin (length bytes))

-- the bytes are no whole head
abbrev pub IsNoHead : List ℕ → Type 0
IsNoHead bytes = (head : RequestHead) → ¬ (ReadsRequest bytes head [])
