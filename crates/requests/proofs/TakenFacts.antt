-- What the parameters of a route take of a path that begins as those with a zone do.
use Rattle.std.proofs.Common.{◌≡◌, inl, inr, ℕ, zero, suc, ◌+◌, ◌-◌, ◌<◌, ◌≤◌, ltb, leb, ◌&&◌, Bool, true, false, cond, not, List, [], ◌∷◌, ◌++◌, length, take, drop, codes, ◌==◌, IsAscii, refl, sym, ap, ap₂, ◌∙◌, subst, arith, append-nil, length-append}
use Rattle.std.proofs.lemmas.Bool.Decides.{nat_tests}
use Rattle.std.proofs.lemmas.List.Sums.{prefix_len-le-length}
use Rattle.std.proofs.lemmas.Str.{IsAscii-drop}
use Rattle.std.specs.List.{list_all}
use Rattle.matchit.specs.Params.{after_token, next_at, part_of, walk, wild_from, wild_stop}
use Rattle.matchit.specs.Rows.{param_token}
use Rattle.matchit.specs.Seek.{has_slash, segment}
use Rattle.lemmas.proofs.ListFacts.{first_true, second_true}
use Rattle.lemmas.proofs.TestFacts.{less_number}
use Rattle.requests.specs.Request.{slash}
use Rattle.requests.specs.Text.{before, before_len}
use Rattle.requests.proofs.MatchFacts.{Matches}

-- ---- where segments end

cut_here : (text rest : List ℕ) → drop (length (segment text) - 1) text ≡ slash ∷ rest → length (segment text) - 1 ≡ before_len slash text
cut_here [] rest h = cc
cut_here (b ∷ text) rest h = by (cut_here text rest) (b == slash) refl h
  where
    by : (drop (length (segment text) - 1) text ≡ slash ∷ rest → length (segment text) - 1 ≡ before_len slash text)
        → (v : Bool) → (b == slash) ≡ v → drop (length (cond v (b ∷ []) (b ∷ segment text)) - 1) (b ∷ text) ≡ slash ∷ rest
        → length (cond v (b ∷ []) (b ∷ segment text)) - 1 ≡ cond (not v) (1 + before_len slash text) 0
    by later true e h = refl
    by later false e h = one_less (length (segment text)) ∙ inner (length (segment text)) refl (ap (λ k. drop k (b ∷ text)) (sym (one_less (length (segment text)))) ∙ h)
      where
        one_less : (n : ℕ) → suc n - 1 ≡ n
        one_less n = omega arith

        inner : (k : ℕ) → k ≡ length (segment text) → drop k (b ∷ text) ≡ slash ∷ rest → k ≡ 1 + before_len slash text
        inner zero same h =
            let at : b ≡ slash = cc in
            let bad : false ≡ (slash == slash) = sym e ∙ ap (λ x. x == slash) at in
            cc
        inner (suc k) same h =
            let less : k ≡ length (segment text) - 1 = omega (arith, same) in
            let it = later (ap (λ n. drop n text) (sym less) ∙ h) in
            omega (arith, less, it)

pub no_slash : (text : List ℕ) → has_slash text ≡ false → before_len slash text ≡ length text
no_slash [] h = refl
no_slash (b ∷ text) h = by (no_slash text) (b == slash) refl h
  where
    by : (has_slash text ≡ false → before_len slash text ≡ length text) → (v : Bool) → (b == slash) ≡ v → cond v true (has_slash text) ≡ false
        → cond (not v) (1 + before_len slash text) 0 ≡ suc (length text)
    by later true e h = cc
    by later false e h = let it = later h in omega (arith, it)

-- ---- literal parts of a pattern

abbrev pub is_byte : ℕ → Bool
is_byte x = ltb x 256

-- what a path has after the literal part that a pattern begins with
pub record After (front t path : List ℕ) : Type 0 where
  pub rest : List ℕ
  pub is : path ≡ front ++ rest
  pub matches : Matches t rest

pub after_literal : (front t path : List ℕ) → list_all is_byte front ≡ true → Matches (front ++ t) path → After front t path
after_literal [] t path h m = record { rest = path; is = refl; matches = m }
after_literal (x ∷ front) t [] h m = absurd m
after_literal (x ∷ front) t (b ∷ path) h m = by (after_literal front t path) m
  where
    less : x < 256
    less = less_number x 256 (first_true (is_byte x) (list_all is_byte front) h)

    by : (list_all is_byte front ≡ true → Matches (front ++ t) path → After front t path) → Matches (x ∷ (front ++ t)) (b ∷ path) → After (x ∷ front) t (b ∷ path)
    by later (inl it) =
        let after = later (second_true (is_byte x) (list_all is_byte front) h) it.1 in
        record { rest = after.rest; is = ap₂ (λ y l. y ∷ l) (sym it.0) after.is; matches = after.matches }
    by later (inr (inl it)) = absurd (omega (arith, it.0, less))
    by later (inr (inr (inl it))) = absurd (omega (arith, it.0, less))
    by later (inr (inr (inr e))) = absurd (omega (arith, e, less))

nothing_more : (rest : List ℕ) → Matches [] rest → rest ≡ []
nothing_more [] h = refl
nothing_more (b ∷ rest) h = absurd h

pub literal_path : (t path : List ℕ) → list_all is_byte t ≡ true → Matches t path → path ≡ t
literal_path t path h m =
    let N : List ℕ → Type 0 = λ l. Matches l path in
    let it = after_literal t [] path h (subst N (sym (append-nil t)) m) in
    it.is ∙ ap (λ l. t ++ l) (nothing_more it.rest it.matches) ∙ append-nil t

pub wild_after : (front rest : List ℕ) (len token at : ℕ) → list_all is_byte front ≡ true → at + length front ≤ len
    → wild_from (front ++ param_token ∷ rest) len token at ≡ (token + length front, at + length front)
wild_after [] rest len token at h fits =
    let pair : ℕ → ℕ → ℕ × ℕ = λ a b. (a, b) in
    let one : token ≡ token + 0 = omega arith in
    let two : at ≡ at + 0 = omega arith in
    ap₂ pair one two
wild_after (x ∷ front) rest len token at h fits =
    let pair : ℕ → ℕ → ℕ × ℕ = λ a b. (a, b) in
    let byte : is_byte x ≡ true = first_true (is_byte x) (list_all is_byte front) h in
    let within : ltb at len ≡ true = grind (arith, nat_tests, fits) in
    let one : (token + 1) + length front ≡ token + suc (length front) = omega arith in
    let two : (at + 1) + length front ≡ at + suc (length front) = omega arith in
    ap (λ v. cond v (wild_from (front ++ param_token ∷ rest) len (token + 1) (next_at len at)) (token, at)) byte
    ∙ ap (λ v. wild_from (front ++ param_token ∷ rest) len (token + 1) (cond v (at + 1) at)) within
    ∙ wild_after front rest len (token + 1) (at + 1) (second_true (is_byte x) (list_all is_byte front) h) (omega (arith, fits))
    ∙ ap₂ pair one two

drop_front : (front tail : List ℕ) → drop (length front) (front ++ tail) ≡ tail
drop_front [] tail = refl
drop_front (x ∷ front) tail = drop_front front tail

pub part_after : (front tail : List ℕ) (at stop n : ℕ) → at ≡ length front → stop ≡ length front + n → n ≤ length tail
    → part_of (front ++ tail) at stop ≡ take n tail
part_after front tail at stop n begins ends fits =
    let count : length (front ++ tail) ≡ length front + length tail = length-append front tail in
    let one : leb (length front) (length front + n) ≡ true = grind (arith, nat_tests) in
    let two : leb (length front + n) (length (front ++ tail)) ≡ true = grind (arith, nat_tests, count, fits) in
    let less : (length front + n) - length front ≡ n = omega arith in
    ap₂ (λ a s. part_of (front ++ tail) a s) begins ends
    ∙ ap₂ (λ v w. cond (v && w) (take ((length front + n) - length front) (drop (length front) (front ++ tail))) []) one two
    ∙ ap₂ (λ k l. take k l) less (drop_front front tail)

-- ---- the parameters

abbrev pub front : List ℕ
front = codes "/zones/"

abbrev pub between : List ℕ
between = codes "/chains/"

-- a pattern goes on with a segment of its own, if at all
abbrev pub GoesOn : List ℕ → Type 0
GoesOn [] = Unit {0}
GoesOn (x ∷ rest) = x ≡ slash

-- where the first parameter ends, and what stands after it
pub record Taken (rest path : List ℕ) : Type 0 where
  pub tail : List ℕ
  pub is : path ≡ front ++ tail
  pub stops : wild_stop (front ++ param_token ∷ rest) 7 path 7 ≡ 7 + before_len slash tail
  pub left : Matches rest (drop (before_len slash tail) tail)

all_gone : (text : List ℕ) → drop (length text) text ≡ []
all_gone [] = refl
all_gone (b ∷ text) = all_gone text

-- a parameter at the end of a pattern takes a segment without a slash
pub last_param : (b : ℕ) (path : List ℕ) → IsAscii (b ∷ path) → Matches (param_token ∷ []) (b ∷ path) → has_slash (b ∷ path) ≡ false
last_param b path ascii (inl it) = absurd (let first = ascii 0 in omega (arith, it.0, first))
last_param b path ascii (inr (inl it)) = absurd (omega (arith, it.1))
last_param b path ascii (inr (inr (inl it))) = it.2
last_param b path ascii (inr (inr (inr e))) = absurd (omega (arith, e))

-- a parameter before a slash takes what stands before the first one
inner_param : (r : List ℕ) (b : ℕ) (path : List ℕ) → IsAscii (b ∷ path) → Matches (param_token ∷ slash ∷ r) (b ∷ path)
    → (length (segment (b ∷ path)) ≡ 1 + before_len slash (b ∷ path)) × Matches (slash ∷ r) (drop (before_len slash (b ∷ path)) (b ∷ path))
inner_param r b path ascii (inl it) = absurd (let first = ascii 0 in omega (arith, it.0, first))
inner_param r b path ascii (inr (inl it)) =
    let next = after_literal (slash ∷ []) r (drop (length (segment (b ∷ path)) - 1) (b ∷ path)) refl it.3 in
    let count = cut_here (b ∷ path) next.rest next.is in
    let N : ℕ → Type 0 = λ n. Matches (slash ∷ r) (drop n (b ∷ path)) in
    (omega (arith, count, it.2), subst N count it.3)
inner_param r b path ascii (inr (inr (inl it))) = absurd (let e : length (slash ∷ r) ≡ 0 = ap length it.1 in omega (arith, e))
inner_param r b path ascii (inr (inr (inr e))) = absurd (omega (arith, e))

last_stop : (path : List ℕ) → wild_stop (front ++ param_token ∷ []) 7 path 7 ≡ length path
last_stop path = refl

inner_stop : (r tail : List ℕ) → wild_stop (front ++ param_token ∷ slash ∷ r) 7 (front ++ tail) 7 ≡ 7 + length (segment tail) - 1
inner_stop r tail =
    let one : ltb 7 (length (front ++ param_token ∷ slash ∷ r)) ≡ true = grind (arith, nat_tests) in
    let two : ltb 8 (length (front ++ param_token ∷ slash ∷ r)) ≡ true = grind (arith, nat_tests) in
    ap₂ (λ v w. cond (v && true && w) (7 + length (segment tail) - 1) (length (front ++ tail))) one two

pub taken_first : (rest path : List ℕ) → IsAscii path → GoesOn rest → Matches (front ++ param_token ∷ rest) path → Taken rest path
taken_first rest path ascii goes m = by rest goes (after_literal front (param_token ∷ rest) path refl m)
  where
    by : (rest : List ℕ) → GoesOn rest → After front (param_token ∷ rest) path → Taken rest path
    by rest goes it = at rest goes it.rest it.is it.matches
      where
        at : (rest : List ℕ) → GoesOn rest → (tail : List ℕ) → path ≡ front ++ tail → Matches (param_token ∷ rest) tail → Taken rest path
        at rest goes [] is m = absurd m
        at [] goes (b ∷ tail) is m =
            let own : IsAscii (b ∷ tail) = subst IsAscii (ap (drop 7) is) (IsAscii-drop path 7 ascii) in
            let none = no_slash (b ∷ tail) (last_param b tail own m) in
            let count : length path ≡ length front + length (b ∷ tail) = ap length is ∙ length-append front (b ∷ tail) in
            let N : List ℕ → Type 0 = λ l. Matches [] l in
            record {
              tail = b ∷ tail;
              is = is;
              stops = last_stop path ∙ count ∙ ap (λ n. 7 + n) (sym none);
              left = subst N (sym (ap (λ n. drop n (b ∷ tail)) none ∙ all_gone (b ∷ tail))) tt;
            }
        at (x ∷ r) goes (b ∷ tail) is m =
            let own : IsAscii (b ∷ tail) = subst IsAscii (ap (drop 7) is) (IsAscii-drop path 7 ascii) in
            let M : ℕ → Type 0 = λ y. Matches (param_token ∷ y ∷ r) (b ∷ tail) in
            let it = inner_param r b tail own (subst M goes m) in
            let L : ℕ → Type 0 = λ y. Matches (y ∷ r) (drop (before_len slash (b ∷ tail)) (b ∷ tail)) in
            let exact : 7 + length (segment (b ∷ tail)) - 1 ≡ 7 + before_len slash (b ∷ tail) = omega (arith, it.0) in
            record {
              tail = b ∷ tail;
              is = is;
              stops = ap₂ (λ y p. wild_stop (front ++ param_token ∷ y ∷ r) 7 p 7) goes is ∙ inner_stop r (b ∷ tail) ∙ exact;
              left = subst L (sym goes) it.1;
            }

abbrev pub Pairs : Type 0
Pairs = List (List ℕ × List ℕ)

-- a walk over the names begins with the zone
pub zone_walk : (rest text path : List ℕ) (more : List (ℕ × ℕ)) (it : Taken rest path) → part_of text 8 12 ≡ codes "zone"
    → walk (front ++ param_token ∷ rest) text path ((8, 12) ∷ more) 0 0
    ≡ (codes "zone", before slash it.tail) ∷ walk (front ++ param_token ∷ rest) text path more 8 (7 + before_len slash it.tail)
zone_walk rest text path more it name =
    let pattern : List ℕ = front ++ param_token ∷ rest in
    let count : length path ≡ length front + length it.tail = ap length it.is ∙ length-append front it.tail in
    let from : wild_from pattern (length path) 0 0 ≡ (7, 7) = wild_after front rest (length path) 0 0 refl (omega (arith, count)) in
    let here : ℕ × ℕ → Pairs = λ w. (part_of text 8 12, part_of path w.1 (wild_stop pattern w.0 path w.1)) ∷ walk pattern text path more (after_token w.0) (wild_stop pattern w.0 path w.1) in
    let to : ℕ → Pairs = λ e. (part_of text 8 12, part_of path 7 e) ∷ walk pattern text path more 8 e in
    let both : List ℕ → List ℕ → Pairs = λ n p. (n, p) ∷ walk pattern text path more 8 (7 + before_len slash it.tail) in
    let part : part_of path 7 (7 + before_len slash it.tail) ≡ before slash it.tail =
    ap (λ p. part_of p 7 (7 + before_len slash it.tail)) it.is
    ∙ part_after front it.tail 7 (7 + before_len slash it.tail) (before_len slash it.tail) refl refl (prefix_len-le-length (λ b. not (b == slash)) it.tail) in
    ap here from ∙ ap to it.stops ∙ ap₂ both name part
