-- What a head decides.
use Rattle.std.proofs.Common.{◌≡◌, ℕ, ◌≤◌, Bool, false, List, [], length, take, drop, min, nat_lt, Some, sym, ap, ◌∙◌, subst, arith}
use Rattle.std.proofs.lemmas.Bool.Decides.{nat_tests}
use Rattle.std.proofs.lemmas.List.{drop_all, length-map, length-take}
use Rattle.httparse.specs.Grammar.{RequestHead, ReadsRequest}
use Rattle.httparse.specs.Spans.{AreFieldsAt, IsRequestOf, header_bytes, name_and_value, span_bytes}
use Rattle.httparse.specs.declared.spans.HeaderSpan.{HeaderSpan}
use Rattle.httparse.specs.declared.spans.RequestSpans.{RequestSpans}
use Rattle.requests.specs.HeadEnd.{lines_between}
use Rattle.requests.specs.Headers.{pairs_at}
use Rattle.requests.specs.Order.{Decision, IsDecided, IsDecidedBy, by_parts}
use Rattle.requests.proofs.HeadFacts.{line_each}

by_test : (t : Bool) (bytes : List ℕ) (decision : Decision) → nat_lt 64 (lines_between bytes) ≡ t → IsDecidedBy t bytes decision
    → IsDecided bytes decision
by_test t bytes decision e h = rw e h

-- a head that was read has no more fields than there is room for
few_lines : (bytes : List ℕ) (headers : List HeaderSpan) (count : ℕ) (head : RequestHead) → length headers ≡ 64 → ReadsRequest bytes head []
    → AreFieldsAt bytes headers count head.fields → lines_between bytes ≤ 64
few_lines bytes headers count head room reads are =
    let each = line_each bytes head reads in
    let same : length (take count headers) ≡ length head.fields =
    sym (length-map (take count headers) (header_bytes bytes)) ∙ ap length are ∙ length-map head.fields name_and_value in
    let taken : length (take count headers) ≡ min count (length headers) = length-take count headers in
    omega (arith, each, same, taken, room)

-- a head that was read as long as the bytes decides by its parts
pub decided_whole : (bytes : List ℕ) (headers : List HeaderSpan) (spans : RequestSpans) (decision : Decision)
    → length headers ≡ 64 → IsRequestOf bytes headers spans → spans.len ≡ length bytes
    → decision ≡ by_parts (span_bytes bytes spans.method) (span_bytes bytes spans.path) spans.version (pairs_at bytes (take spans.headers headers))
    → IsDecided bytes decision
decided_whole bytes headers spans decision room (head, at) long is =
    let nothing : drop spans.len bytes ≡ [] = ap (λ n. drop n bytes) long ∙ drop_all (length bytes) bytes (omega arith) in
    let reads : ReadsRequest bytes head [] = subst (ReadsRequest bytes head) nothing at.reads in
    let few = few_lines bytes headers spans.headers head room reads at.fields in
    by_test false bytes _ (grind (arith, nat_tests)) (
      Some head,
      reads,
      is ∙ ap (λ m. by_parts m (span_bytes bytes spans.path) spans.version (pairs_at bytes (take spans.headers headers))) at.method
          ∙ ap (λ t. by_parts head.method t spans.version (pairs_at bytes (take spans.headers headers))) at.path
          ∙ ap (λ v. by_parts head.method head.target v (pairs_at bytes (take spans.headers headers))) at.version
          ∙ ap (by_parts head.method head.target head.minor) at.fields,
    )
