-- What stands next in a connection, from what was read of it.
use Rattle.std.proofs.Common.{◌≡◌, ◌⊎◌, inl, inr, ℕ, ◌+◌, ◌-◌, ◌<◌, ◌≤◌, true, false, List, [], ◌++◌, length, take, drop, nat_le, Option, Some, None, IfErr, IfSome, Result, Ok, Err, refl, sym, ap, ◌∙◌, subst, arith, append-nil, length-append}
use Rattle.std.proofs.lemmas.Bool.Decides.{nat_tests}
use Rattle.std.proofs.lemmas.List.{drop-append-le, drop-drop, length-drop, take-append-drop, take-append-le, take-take}
use Rattle.std.specs.Io.KnownBytes.{IsAtEnd, Keeps, prepend_known}
use Rattle.requests.specs.HeadEnd.{IsAtHand, front_of, head_limit}
use Rattle.requests.specs.Order.{IsDecided}
use Rattle.requests.specs.Request.{Parts}
use Rattle.requests.specs.NextRequest.{HasBody, IsNext, IsNextBy, IsReadAs, IsUnfinished, Next, clean_end, end_inside, next_of, whole, with_body}
use Rattle.requests.specs.declared.front.Front.{Front}
use Rattle.requests.specs.declared.front.Front.TheVariants.{Head, CleanEnd, EndInside, TooLarge}
use Rattle.requests.specs.declared.next_request.Request.{Request}
use Rattle.requests.specs.declared.next_request.NextRequest.{NextRequest}
use Rattle.requests.proofs.FrontFacts.{head_stays}
use Rattle.requests.proofs.LaterFacts.{body_test}

-- what was told of the bytes is told of those that are held and left now
pub read_as : (IsRight : List ℕ → Next → Type 0) (P : List ℕ → Type 0) (all left : Option (List ℕ)) (held : List ℕ) (answer : NextRequest)
    → IfSome all P → Keeps all (prepend_known held left)
    → ((more : List ℕ) → left ≡ Some more → P (held ++ more) → IsRight (held ++ more) (next_of held more answer))
    → IfSome all (IsReadAs IsRight held left answer)
read_as IsRight P None left held answer p kept h = tt
read_as IsRight P (Some x) None held answer p kept h = absurd kept
read_as IsRight P (Some x) (Some y) held answer p kept h = record {
  more = y;
  left_are = refl;
  bytes_are = sym kept;
  next = subst (λ b. IsRight b (next_of held y answer)) kept (h y refl (subst P (sym kept) p));
}

-- what is told of the bytes as they are held later is told of them all
pub passed_on : (P Q R : List ℕ → Type 0) (all later : Option (List ℕ)) → Keeps all later → IfSome all P → IfSome later Q
    → ((bytes : List ℕ) → P bytes → Q bytes → R bytes) → IfSome all R
passed_on P Q R None later kept p q h = tt
passed_on P Q R (Some x) None kept p q h = absurd kept
passed_on P Q R (Some x) (Some y) kept p q h = h x p (subst Q kept q)

-- a front of the bytes that are held
pub held_front : (n : ℕ) (held : List ℕ) (left : Option (List ℕ)) → n ≤ length held
    → IfSome (prepend_known held left) (λ bytes. take n bytes ≡ take n held)
held_front n held None low = tt
held_front n held (Some more) low = take-append-le n held more low

pub nothing_told : (all : Option (List ℕ)) → IfSome all (λ bytes. Unit {0})
nothing_told None = tt
nothing_told (Some x) = tt

-- by the front of the bytes
pub by_front : (front : Front) (held : List ℕ) (left : Option (List ℕ)) (answer : NextRequest) (bytes : List ℕ) → front ≡ front_of head_limit bytes
    → IsReadAs (IsNextBy front) held left answer bytes → IsReadAs IsNext held left answer bytes
by_front front held left answer bytes e read = record {
  more = read.more;
  left_are = read.left_are;
  bytes_are = read.bytes_are;
  next = subst (λ f. IsNextBy f bytes (next_of held read.more answer)) e read.next;
}

-- a head with its body
pub with_head : (n : ℕ) (parts : Parts) (request : Request) (first held : List ℕ) (left : Option (List ℕ)) (answer : NextRequest) (bytes : List ℕ)
    → n ≡ request.head_len → take n bytes ≡ first → IsDecided first (Ok (parts, request.body_len)) → IsReadAs (HasBody parts request) held left answer bytes
    → IsReadAs (IsNextBy (Head n)) held left answer bytes
with_head n parts request first held left answer bytes same front decided read = record {
  more = read.more;
  left_are = read.left_are;
  bytes_are = read.bytes_are;
  next = (
    Ok (parts, request.body_len),
    subst (λ b. IsDecided b (Ok (parts, request.body_len))) (sym front) decided,
    read.next ∙ ap (λ k. with_body parts request.body_len (drop k bytes)) (sym same),
  );
}

-- ---- the body

-- the body is whole
pub whole_body : (parts : Parts) (h n : ℕ) (held more : List ℕ) → h + n ≤ length held
    → whole parts (take n (drop h held)) (drop (h + n) held ++ more) ≡ with_body parts n (drop h (held ++ more))
whole_body parts h n held more low =
    let rest : drop h (held ++ more) ≡ drop h held ++ more = drop-append-le h held more (omega arith) in
    let left : length (drop h held) ≡ length held - h = length-drop h held in
    let count : length (drop h held ++ more) ≡ length (drop h held) + length more = length-append (drop h held) more in
    let short : n ≤ length (drop h held) = omega arith in
    let test : nat_le n (length (drop h held ++ more)) ≡ true = grind (arith, nat_tests) in
    let body : take n (drop h held ++ more) ≡ take n (drop h held) = take-append-le n (drop h held) more short in
    let after : drop n (drop h held ++ more) ≡ drop (h + n) held ++ more =
    drop-append-le n (drop h held) more short ∙ ap (λ l. l ++ more) (drop-drop n h held) in
    sym (ap (with_body parts n) rest ∙ body_test true parts n (drop h held ++ more) test
    ∙ ap (λ l. whole parts l (drop n (drop h held ++ more))) body ∙ ap (whole parts (take n (drop h held))) after)

-- the input ends inside the body
pub short_body : (parts : Parts) (h n : ℕ) (held more : List ℕ) → h ≤ length held → length held < h + n → more ≡ []
    → end_inside ≡ with_body parts n (drop h (held ++ more))
short_body parts h n held more low short none =
    let all : held ++ more ≡ held = ap (λ l. held ++ l) none ∙ append-nil held in
    let left : length (drop h held) ≡ length held - h = length-drop h held in
    let test : nat_le n (length (drop h held)) ≡ false = grind (arith, nat_tests) in
    sym (ap (λ l. with_body parts n (drop h l)) all ∙ body_test false parts n (drop h held) test)

-- nothing is left at the end
pub none_left : (left : Option (List ℕ)) (more : List ℕ) → left ≡ Some more → IsAtEnd left → more ≡ []
none_left left more e end = subst IsAtEnd e end

-- ---- where a read failed

-- a front that isn't at hand holds no whole request, nor a head that is refused
pub unfinished_by : (front : Front) (held : List ℕ) → (IsAtHand front → ⊥) → IsNextBy front held clean_end ⊎ IsNextBy front held end_inside
unfinished_by (Head n) held none = absurd (none tt)
unfinished_by CleanEnd held none = inl refl
unfinished_by EndInside held none = inr refl
unfinished_by TooLarge held none = absurd (none tt)

-- a body of which bytes are missing
pub missing_body : (parts : Parts) (h n : ℕ) (held : List ℕ) → h ≤ length held → length held < h + n → end_inside ≡ with_body parts n (drop h held)
missing_body parts h n held low short =
    subst (λ bytes. end_inside ≡ with_body parts n (drop h bytes)) (append-nil held) (short_body parts h n held [] low short refl)

-- a front part of bytes that only grow
pub same_front : (n : ℕ) (old new : List ℕ) → n ≤ length old → take (length old) new ≡ old → take n new ≡ take n old
same_front n old new low grown = sym (take-take n (length old) new low) ∙ ap (take n) grown

-- bytes that only grow have more after them
pub more_after : (old new : List ℕ) → take (length old) new ≡ old → new ≡ old ++ drop (length old) new
more_after old new grown = sym (take-append-drop (length old) new) ∙ ap (λ l. l ++ drop (length old) new) grown

-- the head of a request whose body is missing bytes stays the front
pub unfinished_head : (n : ℕ) (old new : List ℕ) → Head n ≡ front_of head_limit old → take (length old) new ≡ old → IsNextBy (Head n) new end_inside
    → IsUnfinished new
unfinished_head n old new came grown is =
    let stays : front_of head_limit new ≡ Head n =
    ap (front_of head_limit) (more_after old new grown) ∙ head_stays head_limit n old (drop (length old) new) (sym came) in
    inr (subst (λ front. IsNextBy front new end_inside) (sym stays) is)

pub map_err : {A E : Type 0} {P Q : Type 0} (r : Result A E) → IfErr r (λ fault. P) → (P → Q) → IfErr r (λ fault. Q)
map_err (Ok a) p h = p
map_err (Err fault) p h = h p
