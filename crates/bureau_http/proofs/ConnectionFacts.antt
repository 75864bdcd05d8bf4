-- A connection's bytes are requests and a stop in one way only.
use Rattle.std.proofs.Common.{◌≡◌, ℕ, ◌+◌, true, false, List, [], ◌∷◌, ◌++◌, length, refl, sym, ap, ◌∙◌, subst, arith}
use Rattle.requests.specs.NextRequest.{IsNext, Next, clean_end, end_inside, refused, whole}
use Rattle.bureau_store.specs.declared.caller.CallerRow.{CallerRow}
use Rattle.bureau_http.specs.Asked.{Asked, asked_whole}
use Rattle.bureau_http.specs.Connection.{IsConnection, IsLast, IsLastBy, IsOwn, IsRequest, ReadsTo, Stop, StopsAt, clean, inside, closed, cut}

-- only one thing stands next
abbrev pub OneReading : Type 0
OneReading = (bytes : List ℕ) (next other : Next) → IsNext bytes next → IsNext bytes other → next ≡ other

-- no request stands where the connection ends
no_request_clean : (one : OneReading) (rows : List CallerRow) (ordinal : ℕ) (bytes : List ℕ) (asked : Asked) (following : List ℕ)
    → IsNext bytes clean_end → IsRequest rows ordinal bytes asked following → ⊥
no_request_clean one rows ordinal bytes asked following end is =
    let e : clean_end ≡ whole is.parts is.body following = one bytes clean_end (whole is.parts is.body following) end is.next in absurd (cc)

no_request_inside : (one : OneReading) (rows : List CallerRow) (ordinal : ℕ) (bytes : List ℕ) (asked : Asked) (following : List ℕ)
    → IsNext bytes end_inside → IsRequest rows ordinal bytes asked following → ⊥
no_request_inside one rows ordinal bytes asked following end is =
    let e : end_inside ≡ whole is.parts is.body following = one bytes end_inside (whole is.parts is.body following) end is.next in absurd (cc)

closing_twice : (last asked same : Asked) → last ≡ same → asked ≡ same → last.closes ≡ true → asked.closes ≡ false → ⊥
closing_twice last asked same e f closes stays =
    let never : true ≡ false = sym closes ∙ ap (λ a. a.closes) (e ∙ sym f) ∙ stays in absurd (cc)

no_request_closed : (one : OneReading) (rows : List CallerRow) (ordinal : ℕ) (bytes : List ℕ) (asked : Asked) (following : List ℕ) (last : Asked)
    → IsLast rows ordinal bytes last → IsRequest rows ordinal bytes asked following → ⊥
no_request_closed one rows ordinal bytes asked following last ends is =
    let e : ends.0 ≡ whole is.parts is.body following = one bytes ends.0 (whole is.parts is.body following) ends.1 is.next in
    let by = subst (λ next. IsLastBy next rows ordinal last) e ends.2 in
    closing_twice last asked (asked_whole rows ordinal is.parts is.body) by.0 is.is by.1 is.stays

no_request : (one : OneReading) (stop : Stop) (rows : List CallerRow) (ordinal : ℕ) (bytes : List ℕ) (last : List Asked) (asked : Asked) (following : List ℕ)
    → IsOwn stop → StopsAt stop rows ordinal bytes last → IsRequest rows ordinal bytes asked following → ⊥
no_request one clean rows ordinal bytes last asked following own stops is = no_request_clean one rows ordinal bytes asked following stops.1 is
no_request one inside rows ordinal bytes last asked following own stops is = no_request_inside one rows ordinal bytes asked following stops.1 is
no_request one closed rows ordinal bytes last asked following own stops is = no_request_closed one rows ordinal bytes asked following stops.0 stops.2 is
no_request one cut rows ordinal bytes last asked following own stops is = own

-- ---- one stop

last_here : (next : Next) (rows : List CallerRow) (ordinal : ℕ) (last other : Asked) → IsLastBy next rows ordinal last → IsLastBy next rows ordinal other → last ≡ other
last_here clean_end rows ordinal last other h k = absurd h
last_here end_inside rows ordinal last other h k = absurd h
last_here (refused refusal bare) rows ordinal last other h k = h ∙ sym k
last_here (whole parts body following) rows ordinal last other h k = h.0 ∙ sym k.0

one_last : (one : OneReading) (rows : List CallerRow) (ordinal : ℕ) (bytes : List ℕ) (last other : Asked) → IsLast rows ordinal bytes last
    → IsLast rows ordinal bytes other → last ≡ other
one_last one rows ordinal bytes last other h k =
    last_here k.0 rows ordinal last other (subst (λ next. IsLastBy next rows ordinal last) (one bytes h.0 k.0 h.1 k.1) h.2) k.2

no_last_clean : (one : OneReading) (rows : List CallerRow) (ordinal : ℕ) (bytes : List ℕ) (last : Asked) → IsNext bytes clean_end → IsLast rows ordinal bytes last → ⊥
no_last_clean one rows ordinal bytes last end h = subst (λ next. IsLastBy next rows ordinal last) (one bytes h.0 clean_end h.1 end) h.2

no_last_inside : (one : OneReading) (rows : List CallerRow) (ordinal : ℕ) (bytes : List ℕ) (last : Asked) → IsNext bytes end_inside → IsLast rows ordinal bytes last → ⊥
no_last_inside one rows ordinal bytes last end h = subst (λ next. IsLastBy next rows ordinal last) (one bytes h.0 end_inside h.1 end) h.2

no_two_ends : (one : OneReading) (bytes : List ℕ) → IsNext bytes clean_end → IsNext bytes end_inside → ⊥
no_two_ends one bytes h k = let e : clean_end ≡ end_inside = one bytes clean_end end_inside h k in absurd (cc)

one_stop : (one : OneReading) (rows : List CallerRow) (ordinal : ℕ) (bytes : List ℕ) (stop other : Stop) (last others : List Asked) → IsOwn stop → IsOwn other
    → StopsAt stop rows ordinal bytes last → StopsAt other rows ordinal bytes others → (last ≡ others) × (stop ≡ other)
one_stop one rows ordinal bytes clean clean last others own also h k = (h.0 ∙ sym k.0, refl)
one_stop one rows ordinal bytes clean inside last others own also h k = absurd (no_two_ends one bytes h.1 k.1)
one_stop one rows ordinal bytes clean closed last others own also h k = absurd (no_last_clean one rows ordinal bytes k.0 h.1 k.2)
one_stop one rows ordinal bytes clean cut last others own also h k = absurd also
one_stop one rows ordinal bytes inside clean last others own also h k = absurd (no_two_ends one bytes k.1 h.1)
one_stop one rows ordinal bytes inside inside last others own also h k = (h.0 ∙ sym k.0, refl)
one_stop one rows ordinal bytes inside closed last others own also h k = absurd (no_last_inside one rows ordinal bytes k.0 h.1 k.2)
one_stop one rows ordinal bytes inside cut last others own also h k = absurd also
one_stop one rows ordinal bytes closed clean last others own also h k = absurd (no_last_clean one rows ordinal bytes h.0 k.1 h.2)
one_stop one rows ordinal bytes closed inside last others own also h k = absurd (no_last_inside one rows ordinal bytes h.0 k.1 h.2)
one_stop one rows ordinal bytes closed closed last others own also h k =
    (h.1 ∙ ap (λ a. a ∷ []) (one_last one rows ordinal bytes h.0 k.0 h.2 k.2) ∙ sym k.1, refl)
one_stop one rows ordinal bytes closed cut last others own also h k = absurd also
one_stop one rows ordinal bytes cut other last others own also h k = absurd own

-- ---- one row of requests

same_request : (one : OneReading) (rows : List CallerRow) (ordinal : ℕ) (bytes : List ℕ) (asked other : Asked) (following rest : List ℕ)
    → IsRequest rows ordinal bytes asked following → IsRequest rows ordinal bytes other rest → (asked ≡ other) × (following ≡ rest)
same_request one rows ordinal bytes asked other following rest h k =
    let e : whole h.parts h.body following ≡ whole k.parts k.body rest = one bytes _ _ h.next k.next in
    let parts : h.parts ≡ k.parts = cc in
    let body : h.body ≡ k.body = cc in
    let left : following ≡ rest = cc in
    (h.is ∙ ap (λ p. asked_whole rows ordinal p h.body) parts ∙ ap (asked_whole rows ordinal k.parts) body ∙ sym k.is, left)

agree : (one : OneReading) (rows : List CallerRow) (ordinal : ℕ) (bytes : List ℕ) (first others : List Asked) (following rest : List ℕ) (stop other : Stop) (last ends : List Asked)
    → ReadsTo rows ordinal bytes first following → ReadsTo rows ordinal bytes others rest → IsOwn stop → IsOwn other
    → StopsAt stop rows (length first + ordinal) following last → StopsAt other rows (length others + ordinal) rest ends
    → (first ++ last ≡ others ++ ends) × (stop ≡ other)
agree one rows ordinal bytes [] [] following rest stop other last ends h k own also s t =
    let at : 0 + ordinal ≡ ordinal = omega arith in
    one_stop one rows ordinal bytes stop other last ends own also (subst (λ n. StopsAt stop rows n bytes last) at (subst (λ b. StopsAt stop rows (0 + ordinal) b last) h s))
    (subst (λ n. StopsAt other rows n bytes ends) at (subst (λ b. StopsAt other rows (0 + ordinal) b ends) k t))
agree one rows ordinal bytes [] (y ∷ ys) following rest stop other last ends h k own also s t =
    let at : 0 + ordinal ≡ ordinal = omega arith in
    absurd (no_request one stop rows ordinal bytes last y k.0 own (subst (λ n. StopsAt stop rows n bytes last) at (subst (λ b. StopsAt stop rows (0 + ordinal) b last) h s)) k.1)
agree one rows ordinal bytes (x ∷ xs) [] following rest stop other last ends h k own also s t =
    let at : 0 + ordinal ≡ ordinal = omega arith in
    absurd (no_request one other rows ordinal bytes ends x h.0 also (subst (λ n. StopsAt other rows n bytes ends) at (subst (λ b. StopsAt other rows (0 + ordinal) b ends) k t)) h.1)
agree one rows ordinal bytes (x ∷ xs) (y ∷ ys) following rest stop other last ends h k own also s t =
    let same = same_request one rows ordinal bytes x y h.0 k.0 h.1 k.1 in
    let at : length (x ∷ xs) + ordinal ≡ length xs + (ordinal + 1) = omega arith in
    let there : length (y ∷ ys) + ordinal ≡ length ys + (ordinal + 1) = omega arith in
    let more = agree one rows (ordinal + 1) k.0 xs ys following rest stop other last ends (subst (λ b. ReadsTo rows (ordinal + 1) b xs following) same.1 h.2) k.2 own also
    (subst (λ n. StopsAt stop rows n following last) at s) (subst (λ n. StopsAt other rows n rest ends) there t) in
    (ap (λ a. a ∷ (xs ++ last)) same.0 ∙ ap (λ l. y ∷ l) more.0, more.1)

pub unique : (one : OneReading) (rows : List CallerRow) (bytes : List ℕ) (asked others : List Asked) (stop other : Stop)
    → IsConnection rows bytes asked stop → IsConnection rows bytes others other → IsOwn stop → IsOwn other → (asked ≡ others) × (stop ≡ other)
unique one rows bytes asked others stop other h k own also =
    let at : 1 + length h.first ≡ length h.first + 1 = omega arith in
    let there : 1 + length k.first ≡ length k.first + 1 = omega arith in
    let same = agree one rows 1 bytes h.first k.first h.following k.following stop other h.last k.last h.reads k.reads own also
    (subst (λ n. StopsAt stop rows n h.following h.last) at h.stops) (subst (λ n. StopsAt other rows n k.following k.last) there k.stops) in
    (h.all ∙ same.0 ∙ sym k.all, same.1)
