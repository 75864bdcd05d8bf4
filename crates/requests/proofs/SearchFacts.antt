-- The search for a head's end, a byte and a piece at a time.
use Rattle.std.proofs.Common.{◌≡◌, ℕ, ◌+◌, ◌<◌, ◌≤◌, List, [], ◌∷◌, ◌++◌, length, take, drop, get_or, take-append-drop, Option, Some, None, Result, Ok, Err, suc, refl, sym, ap, ◌∙◌, arith, add-one}
use Rattle.std.proofs.lemmas.List.{length-take-le}
use Rattle.std.proofs.Math.ListN.{drop_of_length-le}
use Rattle.std.proofs.Math.Seq.{drop-cons}
use Rattle.requests.specs.Search.{search, after, go_on, counted, further, resumed}
use Rattle.requests.specs.declared.head_end.Ending.{Ending}

further_counted : (i : ℕ) (found : Result ℕ Ending) → further i (counted found) ≡ further (i + 1) found
further_counted i (Ok n) = ap (λ m. Ok m) (omega arith)
further_counted i (Err ending) = refl

further_on : (i : ℕ) (next : Option Ending) (ending : Ending) (bytes : List ℕ) → next ≡ Some ending
    → further i (go_on next (λ p. search p bytes)) ≡ further (i + 1) (search ending bytes)
further_on i next ending bytes e = rw e (further_counted i (search ending bytes))

further_done : (i : ℕ) (next : Option Ending) (bytes : List ℕ) → next ≡ None
    → further i (go_on next (λ p. search p bytes)) ≡ Ok (i + 1)
further_done i next bytes e = rw e refl

search_cons : (ending : Ending) (bytes : List ℕ) (i : ℕ) → i < length bytes
    → search ending (drop i bytes) ≡ go_on (after ending (get_or bytes i 0)) (λ p. search p (drop (i + 1) bytes))
unfolding search
search_cons ending bytes i h = rw (add-one, drop-cons bytes i 0) refl

pub search_nil : (ending : Ending) → search ending [] ≡ Err ending
unfolding search
search_nil ending = refl

-- the search goes on after a byte
pub goes_on : (ending next : Ending) (bytes : List ℕ) (i : ℕ) → i < length bytes → after ending (get_or bytes i 0) ≡ Some next
    → further i (search ending (drop i bytes)) ≡ further (i + 1) (search next (drop (i + 1) bytes))
goes_on ending next bytes i h e = ap (further i) (search_cons ending bytes i h) ∙ further_on i _ next _ e

-- the search ends with a byte
pub ends : (ending : Ending) (bytes : List ℕ) (i : ℕ) → i < length bytes → after ending (get_or bytes i 0) ≡ None
    → further i (search ending (drop i bytes)) ≡ Ok (i + 1)
ends ending bytes i h e = ap (further i) (search_cons ending bytes i h) ∙ further_done i _ _ e

-- no byte is left
pub at_end : (ending : Ending) (bytes : List ℕ) (i : ℕ) → length bytes ≤ i → further i (search ending (drop i bytes)) ≡ Err ending
at_end ending bytes i h = ap (λ rest. further i (search ending rest)) (drop_of_length-le bytes h) ∙ ap (further i) (search_nil ending)

-- ---- bytes that come in pieces

further_nothing : (found : Result ℕ Ending) → further 0 found ≡ found
further_nothing (Ok n) = ap (λ m. Ok m) (omega arith)
further_nothing (Err ending) = refl

further_counted_too : (n : ℕ) (found : Result ℕ Ending) → counted (further n found) ≡ further (suc n) found
further_counted_too n (Ok m) = ap (λ k. Ok k) (omega arith)
further_counted_too n (Err ending) = refl

counted_later : (n : ℕ) (found : Result ℕ Ending) (more : List ℕ)
    → counted (resumed n found more) ≡ resumed (suc n) (counted found) more
counted_later n (Ok m) more = refl
counted_later n (Err ending) more = further_counted_too n (search ending more)

goes_on_later : (n : ℕ) (next : Option Ending) (bytes more : List ℕ)
    → ((ending : Ending) → search ending (bytes ++ more) ≡ resumed n (search ending bytes) more)
    → go_on next (λ ending. search ending (bytes ++ more)) ≡ resumed (suc n) (go_on next (λ ending. search ending bytes)) more
goes_on_later n None bytes more rest = refl
goes_on_later n (Some ending) bytes more rest = ap counted (rest ending) ∙ counted_later n (search ending bytes) more

-- the search in two pieces goes on in the second from what it found in the first
pub search_append : (ending : Ending) (bytes more : List ℕ) → search ending (bytes ++ more) ≡ resumed (length bytes) (search ending bytes) more
unfolding search
search_append ending [] more = sym (further_nothing (search ending more))
search_append ending (b ∷ bytes) more = goes_on_later (length bytes) (after ending b) bytes more (λ next. search_append next bytes more)

after_first : (n : ℕ) (first : Result ℕ Ending) (ending : Ending) (more : List ℕ) → first ≡ Err ending
    → resumed n first more ≡ further n (search ending more)
after_first n (Ok m) ending more e = cc
after_first n (Err other) ending more e = let same : other ≡ ending = cc in ap (λ p. further n (search p more)) same

-- the search goes on after the bytes that were seen
pub resume : (bytes : List ℕ) (seen : ℕ) (start ending : Ending) → seen ≤ length bytes → search start (take seen bytes) ≡ Err ending
    → search start bytes ≡ further seen (search ending (drop seen bytes))
resume bytes seen start ending fits none =
    ap (search start) (sym (take-append-drop seen bytes)) ∙ search_append start (take seen bytes) (drop seen bytes)
    ∙ after_first _ _ ending _ none ∙ ap (λ n. further n (search ending (drop seen bytes))) (length-take-le seen bytes fits)

-- what is found in the bytes after those that were seen is found in all
pub resume_found : (bytes fresh : List ℕ) (seen : ℕ) (start ending : Ending) (found : Result ℕ Ending) → seen ≤ length bytes → search start (take seen bytes) ≡ Err ending
    → fresh ≡ drop seen bytes → search ending fresh ≡ found → further seen found ≡ search start bytes
resume_found bytes fresh seen start ending found fits none is e =
    sym (resume bytes seen start ending fits none ∙ ap (λ rest. further seen (search ending rest)) (sym is) ∙ ap (further seen) e)
