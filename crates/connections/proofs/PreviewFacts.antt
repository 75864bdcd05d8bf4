-- What lies unread at a connection.
use Rattle.std.proofs.Common.{◌≡◌, ◌∙◌, ap, sym, subst, refl, arith, ℕ, ◌+◌, ◌-◌, ◌≤◌, nat_le, Bool, true, false, List, [], ◌++◌, append_assoc, length, take, drop, Option, Some, None, Result, Ok, Err, IfSome, if◌then◌else◌}
use Rattle.std.proofs.lemmas.Bool.{le-leb}
use Rattle.std.proofs.lemmas.List.{length-drop, length-take-le, take-append-le}
use Rattle.std.specs.Io.KnownBytes.{Keeps, prepend_known}
use Rattle.requests.specs.HeadEnd.{EndsWithin, front_of, head_limit}
use Rattle.requests.specs.NextRequest.{IsNext, IsNextBy, Next, after_head, end_inside, refused, whole}
use Rattle.requests.specs.Order.{Decision, IsDecided}
use Rattle.requests.specs.Request.{Parts}
use Rattle.requests.specs.declared.front.Front.{Front}
use Rattle.requests.specs.declared.front.Front.TheVariants.{Head, TooLarge}
use Rattle.requests.specs.declared.refusal.Refusal.{Refusal}
use Rattle.requests.specs.declared.refusal.Refusal.TheVariants.{HeadTooLarge}
use Rattle.connections.specs.Preview.{EndsWith, caller_by}

-- the next, by the decision on its head
pub next_by : (bytes head : List ℕ) (next : Next) (decision : Decision) → take (length head) bytes ≡ head → front_of head_limit bytes ≡ Head (length head) → IsDecided head decision
    → next ≡ after_head (drop (length head) bytes) decision → IsNext bytes next
next_by bytes head next decision first front decided is =
    subst (λ f. IsNextBy f bytes next) (sym front) (decision, subst (λ h. IsDecided h decision) (sym first) decided, is)

-- the head is refused
pub ends_refused : (bytes head caller : List ℕ) (refusal : Refusal) (bare : Bool) (unread : ℕ) → take (length head) bytes ≡ head → front_of head_limit bytes ≡ Head (length head)
    → IsDecided head (Err (refusal, bare)) → caller ≡ [] → (next : Next) × IsNext bytes next × EndsWith unread unread caller next
ends_refused bytes head caller refusal bare unread first front decided none =
    (refused refusal bare, next_by bytes head (refused refusal bare) (Err (refusal, bare)) first front decided refl, (refl, none))

-- the request is whole, and so many bytes follow it
pub ends_whole : (bytes head caller : List ℕ) (parts : Parts) (body_len following unread count : ℕ) → take (length head) bytes ≡ head → front_of head_limit bytes ≡ Head (length head)
    → IsDecided head (Ok (parts, body_len)) → length bytes ≡ following + (length head + body_len) → caller ≡ caller_by parts.token → count ≡ unread - following
    → (next : Next) × IsNext bytes next × EndsWith unread count caller next
ends_whole bytes head caller parts body_len following unread count first front decided all is many =
    let rest : List ℕ = drop (length head) bytes in
    let left : length rest ≡ length bytes - length head = length-drop (length head) bytes in
    let fits : nat_le body_len (length rest) ≡ true = le-leb body_len (length rest) (omega (arith, left, all)) in
    let last : length (drop body_len rest) ≡ length rest - body_len = length-drop body_len rest in
    let next : Next = whole parts (take body_len rest) (drop body_len rest) in (
      next,
      next_by bytes head next (Ok (parts, body_len)) first front decided (ap (λ b. if b then whole parts (take body_len rest) (drop body_len rest) else end_inside) (sym fits)),
      (many ∙ ap (λ n. unread - n) (omega (arith, last, left, all)), is),
    )

-- no head ends in as many bytes as one may have
pub ends_large : (bytes caller : List ℕ) (unread : ℕ) → front_of head_limit bytes ≡ TooLarge → caller ≡ [] → (next : Next) × IsNext bytes next × EndsWith unread unread caller next
ends_large bytes caller unread front none =
    (refused HeadTooLarge false, subst (λ f. IsNextBy f bytes (refused HeadTooLarge false)) (sym front) refl, (refl, none))

-- what is known of the bytes is known of these
pub known : (bytes old : List ℕ) (start : Option (List ℕ)) (P : List ℕ → Type 0) → old ≡ [] → start ≡ Some bytes → IfSome (prepend_known old start) P → P bytes
known bytes old start P none is h =
    subst (λ s. IfSome (prepend_known [] s) P) is (subst (λ o. IfSome (prepend_known o start) P) none h)

-- the first of them were read
pub read_of : (bytes new : List ℕ) (left : Option (List ℕ)) (len : ℕ) → Keeps (Some bytes) (prepend_known new left) → len ≤ length new → take len bytes ≡ take len new
read_of bytes new None len k within = absurd k
read_of bytes new (Some rest) len k within = ap (take len) (sym k) ∙ take-append-le len new rest within

pub first_read : (bytes old new : List ℕ) (start left : Option (List ℕ)) (len : ℕ) → old ≡ [] → start ≡ Some bytes → Keeps (prepend_known old start) (prepend_known new left) → len ≤ length new
    → take len bytes ≡ take len new
first_read bytes old new start left len none is kept within =
    read_of bytes new left len (subst (λ s. Keeps (prepend_known [] s) (prepend_known new left)) is (subst (λ o. Keeps (prepend_known o start) (prepend_known new left)) none kept)) within

-- what holds of bytes that begin with a head holds of these
pub headed : (bytes old new head : List ℕ) (start left : Option (List ℕ)) (shown : Front) (len all : ℕ) (P : List ℕ → Type 0) → old ≡ [] → start ≡ Some bytes
    → Keeps (prepend_known old start) (prepend_known new left) → shown ≡ Head len → IfSome (prepend_known old start) (λ b. shown ≡ front_of head_limit b) → EndsWithin shown new
    → head ≡ take len new → length bytes ≡ all → ((b : List ℕ) → length b ≡ all → take (length head) b ≡ head → front_of head_limit b ≡ Head (length head) → P b) → P bytes
headed bytes old new head start left shown len all P none is kept front_is front ends cut count holds =
    let within : len ≤ length new = (subst (λ f. EndsWithin f new) front_is ends).0 in
    let long : length head ≡ len = ap length cut ∙ length-take-le len new within in
    holds bytes count
    (ap (λ n. take n bytes) long ∙ first_read bytes old new start left len none is kept within ∙ sym cut)
    (sym (known bytes old start (λ b. shown ≡ front_of head_limit b) none is front) ∙ front_is ∙ ap Head (sym long))
