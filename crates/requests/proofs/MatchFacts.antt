-- A path that a router finds a route for: one of its rows has that route, and the path matches the row's pattern.
use Rattle.std.proofs.Common.{◌≡◌, ◌⊎◌, inl, inr, ℕ, zero, suc, ◌-◌, ◌<◌, ltb, ◌&&◌, Bool, true, false, cond, List, [], ◌∷◌, length, drop, Option, Some, None, nat_eq, ◌==◌, Contains, refl, sym, ap, ◌∙◌, subst, arith}
use Rattle.std.specs.Cmp.Lexicographic.{bytes_decides}
use Rattle.std.specs.List.{ends_with}
use Rattle.matchit.specs.Rows.{RowsOf, param_token, catch_all_token}
use Rattle.matchit.specs.Seek.{better, cuts, first, has_slash, longest_from, longest_suffix, or_else, own, param_step, same_text, seek, segment, step, with_suffix}
use Rattle.lemmas.proofs.ListFacts.{first_inside, first_true, inside_cases, none_inside, rest_inside}
use Rattle.lemmas.proofs.TestFacts.{less_number, same_number}

-- how many bytes a parameter takes of a path, before the segment that the pattern goes on with
abbrev pub taken_len : List ℕ → List ℕ → ℕ
taken_len t path = length (segment path) - length (segment t)

-- a path matches a pattern: byte by byte; or a parameter takes what leaves the rest of its segment, or all of the
-- path where that has no other segment; or by a catch-all
abbrev pub Matches : List ℕ → List ℕ → Type 0
Matches [] [] = Unit {0}
Matches [] (b ∷ path) = ⊥
Matches (x ∷ t) [] = ⊥
Matches (x ∷ t) (b ∷ path) =
    ((x ≡ b) × Matches t path)
    ⊎ (((x ≡ param_token) × (0 < length (segment t)) × (length (segment t) < length (segment (b ∷ path))) × Matches t (drop (taken_len t (b ∷ path)) (b ∷ path)))
    ⊎ (((x ≡ param_token) × (t ≡ []) × (has_slash (b ∷ path) ≡ false)) ⊎ (x ≡ catch_all_token)))

pub nothing_left : (t : List ℕ) → Matches t [] → t ≡ []
nothing_left [] h = refl
nothing_left (x ∷ t) h = absurd h

shifted : (n b : ℕ) (path : List ℕ) → 0 < n → drop (n - 1) path ≡ drop n (b ∷ path)
shifted zero b path h = absurd (omega (arith, h))
shifted (suc n) b path h = let same : suc n - 1 ≡ n = omega arith in ap (λ k. drop k path) same

module _ {K : Type 0} where
  -- a row with this key, whose pattern the path matches
  pub record Found (rows : RowsOf K) (path : List ℕ) (key : K) : Type 0 where
    pub pattern : List ℕ
    pub inside : Contains rows (pattern, key)
    pub matches : Matches pattern path

  own_inside : (rows : RowsOf K) (key : K) → own rows ≡ Some key → Contains rows ([], key)
  own_inside [] key h = cc
  own_inside (([], k) ∷ rest) key h =
      let same : k ≡ key = cc in
      let P : K → Type 0 = λ it. Contains (([], k) ∷ rest) ([], it) in
      subst P same (first_inside ([], k) rest)
  own_inside ((x ∷ t, k) ∷ rest) key h = rest_inside (x ∷ t, k) ([], key) rest (own_inside rest key h)

  step_inside : (b : ℕ) (rows : RowsOf K) (t : List ℕ) (key : K) → Contains (step b rows) (t, key) → Contains rows (b ∷ t, key)
  step_inside b [] t key h = absurd (none_inside (t, key) h)
  step_inside b (([], k) ∷ rest) t key h = rest_inside ([], k) (b ∷ t, key) rest (step_inside b rest t key h)
  step_inside b ((x ∷ u, k) ∷ rest) t key h = by (step_inside b rest t key) (x == b) refl h
    where
      by : (Contains (step b rest) (t, key) → Contains rest (b ∷ t, key)) → (v : Bool) → (x == b) ≡ v
          → Contains (cond v ((u, k) ∷ step b rest) (step b rest)) (t, key) → Contains ((x ∷ u, k) ∷ rest) (b ∷ t, key)
      by later true e h = elim (inside_cases (u, k) (t, key) (step b rest) h) [
        | inl same ↦
            (let P : List ℕ × K → Type 0 = λ row. Contains ((x ∷ u, k) ∷ rest) (b ∷ row.0, row.1) in
            let Q : ℕ → Type 0 = λ y. Contains ((x ∷ u, k) ∷ rest) (y ∷ u, k) in
            subst P same (subst Q (same_number x b e) (first_inside (x ∷ u, k) rest)))
        | inr h ↦ rest_inside (x ∷ u, k) (b ∷ t, key) rest (later h)
      ]
      by later false e h = rest_inside (x ∷ u, k) (b ∷ t, key) rest (later h)

  with_suffix_inside : (suffix : List ℕ) (rows : RowsOf K) (t : List ℕ) (key : K) → Contains (with_suffix suffix rows) (t, key)
      → Contains rows (t, key) × (same_text (segment t) suffix ≡ true)
  with_suffix_inside suffix [] t key h = absurd (none_inside (t, key) h)
  with_suffix_inside suffix ((u, k) ∷ rest) t key h = by (with_suffix_inside suffix rest t key) (same_text (segment u) suffix) refl h
    where
      by : (Contains (with_suffix suffix rest) (t, key) → Contains rest (t, key) × (same_text (segment t) suffix ≡ true))
          → (v : Bool) → same_text (segment u) suffix ≡ v → Contains (cond v ((u, k) ∷ with_suffix suffix rest) (with_suffix suffix rest)) (t, key)
          → Contains ((u, k) ∷ rest) (t, key) × (same_text (segment t) suffix ≡ true)
      by later true e h = elim (inside_cases (u, k) (t, key) (with_suffix suffix rest) h) [
        | inl same ↦
            (let P : List ℕ × K → Type 0 = λ row. Contains ((u, k) ∷ rest) row × (same_text (segment row.0) suffix ≡ true) in
            subst P same (first_inside (u, k) rest, e))
        | inr h ↦ (let it = later h in (rest_inside (u, k) (t, key) rest it.0, it.1))
      ]
      by later false e h = let it = later h in (rest_inside (u, k) (t, key) rest it.0, it.1)

  -- a suffix that is found is shorter than the segment
  longest_short : (seg best : List ℕ) (rows : RowsOf K) → (length best ≡ 0) ⊎ (length best < length seg)
      → (length (longest_from seg best rows) ≡ 0) ⊎ (length (longest_from seg best rows) < length seg)
  longest_short seg best [] h = h
  longest_short seg best ((t, k) ∷ rest) h = longest_short seg (better seg best (segment t)) rest (by (ltb (length best) (length (segment t)) && cuts seg (segment t)) refl)
    where
      by : (v : Bool) → (ltb (length best) (length (segment t)) && cuts seg (segment t)) ≡ v
          → (length (cond v (segment t) best) ≡ 0) ⊎ (length (cond v (segment t) best) < length seg)
      by true e =
          let both : cuts seg (segment t) ≡ true = second (ltb (length best) (length (segment t))) (cuts seg (segment t)) e in
          inr (less_number (length (segment t)) (length seg) (first_true (ltb (length (segment t)) (length seg)) (ends_with nat_eq seg (segment t)) both))
        where
          second : (a b : Bool) → (a && b) ≡ true → b ≡ true
          second true b h = h
          second false b h = cc
      by false e = h

  param_row : (rows : RowsOf K) (b : ℕ) (path t : List ℕ) (key : K) → Contains (param_step rows (b ∷ path)).1 (t, key)
      → Matches t (drop ((param_step rows (b ∷ path)).0 - 1) path) → Contains rows (t, key) × Matches (param_token ∷ t) (b ∷ path)
  unfolding param_step
  param_row rows b path t key = by (ltb 0 (length suffix)) (has_slash (b ∷ path)) refl refl
    where
      suffix : List ℕ
      suffix = longest_suffix (segment (b ∷ path)) rows

      by : (v w : Bool) → ltb 0 (length suffix) ≡ v → has_slash (b ∷ path) ≡ w
          → Contains (cond {A = ℕ × RowsOf K} v (length (segment (b ∷ path)) - length suffix, with_suffix suffix rows) (cond {A = ℕ × RowsOf K} w (0, []) (length (b ∷ path), rows))).1 (t, key)
          → Matches t (drop ((cond {A = ℕ × RowsOf K} v (length (segment (b ∷ path)) - length suffix, with_suffix suffix rows) (cond {A = ℕ × RowsOf K} w (0, []) (length (b ∷ path), rows))).0 - 1) path)
          → Contains rows (t, key) × Matches (param_token ∷ t) (b ∷ path)
      by true w e f h m =
          let it = with_suffix_inside suffix rows t key h in
          let same : segment t ≡ suffix = (bytes_decides (segment t) suffix).0 it.1 in
          let some : 0 < length suffix = less_number 0 (length suffix) e in
          let short : length suffix < length (segment (b ∷ path)) = elim (longest_short (segment (b ∷ path)) [] rows (inl refl)) [
            | inl none ↦ absurd (omega (arith, none, some))
            | inr less ↦ less
          ] in
          let P : ℕ → Type 0 = λ n. (0 < n) × (n < length (segment (b ∷ path))) × Matches t (drop (length (segment (b ∷ path)) - n) (b ∷ path)) in
          let N : List ℕ → Type 0 = λ rest. Matches t rest in
          let after : Matches t (drop (length (segment (b ∷ path)) - length suffix) (b ∷ path)) =
          subst N (shifted (length (segment (b ∷ path)) - length suffix) b path (omega (arith, short))) m in
          let both = subst P (sym (ap length same)) (some, short, after) in
          (it.0, inr (inl (refl, both.0, both.1, both.2)))
      by false true e f h m = absurd (none_inside (t, key) h)
      by false false e f h m =
          let N : List ℕ → Type 0 = λ rest. Matches t rest in
          (h, inr (inr (inl (refl, nothing_left t (subst N (none_left (length path) path refl) m), f))))
        where
          none_left : (n : ℕ) (path : List ℕ) → n ≡ length path → drop (suc n - 1) path ≡ []
          none_left n path e = let same : suc n - 1 ≡ length path = omega (arith, e) in ap (λ k. drop k path) same ∙ all_gone path
            where
              all_gone : (path : List ℕ) → drop (length path) path ≡ []
              all_gone [] = refl
              all_gone (c ∷ path) = all_gone path

  -- the search finds a row that matches
  seek_found : (skip : ℕ) (rows : RowsOf K) (path : List ℕ) (key : K) → seek skip rows path ≡ Some key → Found rows (drop skip path) key
  unfolding seek
  seek_found zero rows [] key h = record { pattern = []; inside = own_inside rows key h; matches = tt }
  seek_found (suc skip) rows [] key h = record { pattern = []; inside = own_inside rows key h; matches = tt }
  seek_found (suc skip) rows (b ∷ path) key h = seek_found skip rows path key h
  seek_found zero rows (b ∷ path) key h =
      by (seek 0 (step b rows) path) (seek (after.0 - 1) after.1 path) refl refl (seek_found 0 (step b rows) path key) (seek_found (after.0 - 1) after.1 path key) h
    where
      after : ℕ × RowsOf K
      after = param_step (step param_token rows) (b ∷ path)

      by : (byte param : Option K) → seek 0 (step b rows) path ≡ byte → seek (after.0 - 1) after.1 path ≡ param
          → (seek 0 (step b rows) path ≡ Some key → Found (step b rows) path key)
          → (seek (after.0 - 1) after.1 path ≡ Some key → Found after.1 (drop (after.0 - 1) path) key)
          → or_else byte (or_else param (own (step catch_all_token rows))) ≡ Some key → Found rows (b ∷ path) key
      by (Some k) param e f at_byte at_param h =
          let it = at_byte (e ∙ h) in
          record { pattern = b ∷ it.pattern; inside = step_inside b rows it.pattern key it.inside; matches = inl (refl, it.matches) }
      by None (Some k) e f at_byte at_param h =
          let it = at_param (f ∙ h) in
          let row = param_row (step param_token rows) b path it.pattern key it.inside it.matches in
          record { pattern = param_token ∷ it.pattern; inside = step_inside param_token rows it.pattern key row.0; matches = row.1 }
      by None None e f at_byte at_param h = record {
        pattern = catch_all_token ∷ [];
        inside = step_inside catch_all_token rows [] key (own_inside (step catch_all_token rows) key h);
        matches = inr (inr (inr refl));
      }

  pub first_found : (rows : RowsOf K) (path : List ℕ) (key : K) → first rows path ≡ Some key → Found rows path key
  first_found rows path key h = seek_found 0 rows path key h
