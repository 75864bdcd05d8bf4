-- Only one thing stands next in the bytes of a connection.
use Rattle.std.proofs.Common.{◌≡◌, ℕ, Bool, true, false, List, [], take, drop, nat_lt, Option, Some, None, refl, sym, ap, ◌∙◌}
use Rattle.httparse.proofs.GrammarLemmas.{request_unique}
use Rattle.httparse.specs.Grammar.{RequestHead}
use Rattle.requests.specs.HeadEnd.{front_of, head_limit, lines_between}
use Rattle.requests.specs.Order.{Decision, IsDecided, IsDecidedBy, IsRead, by_head}
use Rattle.requests.specs.NextRequest.{IsNext, IsNextBy, Next, after_head}
use Rattle.requests.specs.declared.front.Front.{Front}
use Rattle.requests.specs.declared.front.Front.TheVariants.{Head, CleanEnd, EndInside, TooLarge}

-- the bytes are read as one head, or as none
one_head : (bytes : List ℕ) (read other : Option RequestHead) → IsRead bytes read → IsRead bytes other → read ≡ other
one_head bytes None None is also = refl
one_head bytes None (Some head) is also = absurd (is head also)
one_head bytes (Some head) None is also = absurd (also head is)
one_head bytes (Some head) (Some other) is also = ap (λ h. Some h) (request_unique bytes head other [] [] is also).0

decided_by : (many : Bool) (bytes : List ℕ) (decision other : Decision) → IsDecidedBy many bytes decision → IsDecidedBy many bytes other
    → decision ≡ other
decided_by true bytes decision other is also = is ∙ sym also
decided_by false bytes decision other is also = is.2 ∙ ap by_head (one_head bytes is.0 also.0 is.1 also.1) ∙ sym also.2

one_decision : (bytes : List ℕ) (decision other : Decision) → IsDecided bytes decision → IsDecided bytes other → decision ≡ other
one_decision bytes decision other is also = decided_by (nat_lt 64 (lines_between bytes)) bytes decision other is also

by_front : (front : Front) (bytes : List ℕ) (next other : Next) → IsNextBy front bytes next → IsNextBy front bytes other → next ≡ other
by_front (Head n) bytes next other is also =
    is.2 ∙ ap (after_head (drop n bytes)) (one_decision (take n bytes) is.0 also.0 is.1 also.1) ∙ sym also.2
by_front CleanEnd bytes next other is also = is ∙ sym also
by_front EndInside bytes next other is also = is ∙ sym also
by_front TooLarge bytes next other is also = is ∙ sym also

-- one thing stands next
pub one_next : (bytes : List ℕ) (next other : Next) → IsNext bytes next → IsNext bytes other → next ≡ other
one_next bytes next other is also = by_front (front_of head_limit bytes) bytes next other is also
