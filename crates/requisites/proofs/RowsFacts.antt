-- Rows in one list.
use Rattle.std.proofs.Common.{◌≡◌, ◌∙◌, ℕ, zero, suc, ◌+◌, ◌-◌, ◌<◌, ◌≤◌, List, [], ◌∷◌, ◌++◌, length, get_or, take, drop, set, replicate, length-append, length-drop, refl, sym, ap, subst, arith}
use Rattle.std.specs.List.{concat, slice_range}
use Rattle.std.proofs.lemmas.List.{take-append-drop, take-append-le, take-set-le, drop-append-le, drop-drop, drop-set-add, drop-set-lt, length-take, take_more, get_or_past}
use Rattle.std.proofs.Math.Seq.{drop-append_seam, drop-length, take-length, take-set-lt}
use Rattle.requisites.specs.Nodes.{row}
use Rattle.requisites.specs.Rows.{AreEnds, blank_rows, rows_from, start_at}

pub length_rows : (entries : List ℕ) (start : ℕ) (ends : List ℕ) → length (rows_from entries start ends) ≡ length ends
length_rows entries start [] = refl
length_rows entries start (end ∷ ends) = ap suc (length_rows entries end ends)

pub row_between : (entries : List ℕ) (start : ℕ) (ends : List ℕ) (i : ℕ) → i < length ends
    → get_or (rows_from entries start ends) i [] ≡ slice_range entries (start_at start ends i) (get_or ends i 0)
row_between entries start [] i h = absurd (omega arith)
row_between entries start (end ∷ ends) zero h = refl
row_between entries start (end ∷ []) (suc i) h = absurd (omega arith)
row_between entries start (end ∷ next ∷ ends) (suc zero) h = refl
row_between entries start (end ∷ next ∷ ends) (suc (suc i)) h = row_between entries end (next ∷ ends) (suc i) (omega arith)

pub last_is : (start : ℕ) (ends : List ℕ) (len : ℕ) → AreEnds start ends len → start ≤ len
last_is start [] len e = omega (arith, e)
last_is start (end ∷ ends) len e = omega (arith, e.0, last_is end ends len e.1)

pub ends_at : (start : ℕ) (ends : List ℕ) (len i : ℕ) → AreEnds start ends len → i < length ends
    → (start_at start ends i ≤ get_or ends i 0) × (get_or ends i 0 ≤ len)
ends_at start [] len i e h = absurd (omega arith)
ends_at start (end ∷ ends) len zero e h = (e.0, last_is end ends len e.1)
ends_at start (end ∷ []) len (suc i) e h = absurd (omega arith)
ends_at start (end ∷ next ∷ ends) len (suc zero) e h = (e.1.0, last_is next ends len e.1.1)
ends_at start (end ∷ next ∷ ends) len (suc (suc i)) e h = ends_at end (next ∷ ends) len (suc i) e.1 (omega arith)

pub ends_more : (start : ℕ) (ends : List ℕ) (len more : ℕ) → AreEnds start ends len → len ≤ more → AreEnds start (ends ++ more ∷ []) more
ends_more start [] len more e h = ((let P : ℕ → Type 0 = λ k. k ≤ more in subst P (sym e) h), refl)
ends_more start (end ∷ ends) len more e h = (e.0, ends_more end ends len more e.1 h)

slice_stays : (entries row : List ℕ) (start end : ℕ) → start ≤ end → end ≤ length entries → slice_range (entries ++ row) start end ≡ slice_range entries start end
slice_stays entries row start end h h' =
    ap (λ (l : List ℕ). take (end - start) l) (drop-append-le start entries row (omega arith))
    ∙ take-append-le (end - start) (drop start entries) row (omega (arith, length-drop start entries))

slice_new : (entries row : List ℕ) (start : ℕ) → start ≡ length entries → slice_range (entries ++ row) start (length (entries ++ row)) ≡ row
slice_new entries row start e =
    let whole : length (entries ++ row) ≡ length entries + length row = length-append entries row in
    let size : length (entries ++ row) - start ≡ length row = omega arith in
    ap (λ (k : ℕ). take (length (entries ++ row) - start) (drop k (entries ++ row))) e
    ∙ ap (λ (l : List ℕ). take (length (entries ++ row) - start) l) (drop-append_seam entries row)
    ∙ ap (λ (k : ℕ). take k row) size
    ∙ take-length row

pub rows_more : (entries row : List ℕ) (start : ℕ) (ends : List ℕ) → AreEnds start ends (length entries)
    → rows_from (entries ++ row) start (ends ++ length (entries ++ row) ∷ []) ≡ rows_from entries start ends ++ row ∷ []
rows_more entries row start [] e = ap (λ r. r ∷ []) (slice_new entries row start e)
rows_more entries row start (end ∷ ends) e =
    ap (λ r. r ∷ rows_from (entries ++ row) end (ends ++ length (entries ++ row) ∷ [])) (slice_stays entries row start end e.0 (last_is end ends (length entries) e.1))
    ∙ ap (λ rows. slice_range entries start end ∷ rows) (rows_more entries row end ends e.1)

pub row_past : (entries ends : List ℕ) (rows : List (List ℕ)) (p : ℕ) → rows_from entries 0 ends ≡ rows → length ends ≤ p → [] ≡ row rows p
row_past entries ends rows p is h =
    let past : length (rows_from entries 0 ends) ≤ p = omega (arith, length_rows entries 0 ends) in
    sym (get_or_past (rows_from entries 0 ends) p [] past) ∙ ap (λ (r : List (List ℕ)). row r p) is

pub row_is : (entries ends : List ℕ) (rows : List (List ℕ)) (shown : List ℕ) (p start end : ℕ) → rows_from entries 0 ends ≡ rows → p < length ends
    → start ≡ start_at 0 ends p → end ≡ get_or ends p 0 → shown ≡ slice_range entries start end → shown ≡ row rows p
row_is entries ends rows shown p start end is h start_is end_is shown_is =
    shown_is
    ∙ ap (λ (k : ℕ). slice_range entries k end) start_is
    ∙ ap (λ (k : ℕ). slice_range entries (start_at 0 ends p) k) end_is
    ∙ sym (row_between entries 0 ends p h)
    ∙ ap (λ (r : List (List ℕ)). row r p) is

-- the ends after one more
pub ends_pushed : (entries row ends entries' ends' : List ℕ) (end : ℕ) → AreEnds 0 ends (length entries) → entries' ≡ entries ++ row → end ≡ length entries' → ends' ≡ ends ++ end ∷ []
    → AreEnds 0 ends' (length entries')
ends_pushed entries row ends entries' ends' end e is_entries is_end is_ends =
    let grown : length entries' ≡ length entries + length row = ap length is_entries ∙ length-append entries row in
    let P : List ℕ → Type 0 = λ l. AreEnds 0 l (length entries') in
    let Q : ℕ → Type 0 = λ k. AreEnds 0 (ends ++ k ∷ []) (length entries') in
    subst P (sym is_ends) (subst Q (sym is_end) (ends_more 0 ends (length entries) (length entries') e (omega arith)))

-- the rows after one more
pub rows_pushed : (entries row ends entries' ends' : List ℕ) (end : ℕ) (rows : List (List ℕ)) → AreEnds 0 ends (length entries) → rows_from entries 0 ends ≡ rows → entries' ≡ entries ++ row → end ≡ length entries'
    → ends' ≡ ends ++ end ∷ [] → rows_from entries' 0 ends' ≡ rows ++ row ∷ []
rows_pushed entries row ends entries' ends' end rows e is is_entries is_end is_ends =
    let whole : end ≡ length (entries ++ row) = is_end ∙ ap length is_entries in
    ap (λ (l : List ℕ). rows_from l 0 ends') is_entries
    ∙ ap (λ (l : List ℕ). rows_from (entries ++ row) 0 l) is_ends
    ∙ ap (λ (k : ℕ). rows_from (entries ++ row) 0 (ends ++ k ∷ [])) whole
    ∙ rows_more entries row 0 ends e
    ∙ ap (λ (r : List (List ℕ)). r ++ row ∷ []) is

-- ---- the entries of all rows

drop_later : (xs : List ℕ) (i j : ℕ) → i ≤ j → drop (j - i) (drop i xs) ≡ drop j xs
drop_later xs i j h = let e : i + (j - i) ≡ j = omega (arith, h) in drop-drop (j - i) i xs ∙ ap (λ (k : ℕ). drop k xs) e

all_are : (entries : List ℕ) (start : ℕ) (ends : List ℕ) → AreEnds start ends (length entries) → concat (rows_from entries start ends) ≡ drop start entries
all_are entries start [] e = sym (ap (λ (k : ℕ). drop k entries) e ∙ drop-length entries)
all_are entries start (end ∷ ends) e =
    ap (λ (l : List ℕ). slice_range entries start end ++ l) (all_are entries end ends e.1)
    ∙ ap (λ (l : List ℕ). slice_range entries start end ++ l) (sym (drop_later entries start end e.0))
    ∙ take-append-drop (end - start) (drop start entries)

pub all_of : (entries ends shown : List ℕ) (rows : List (List ℕ)) → AreEnds 0 ends (length entries) → rows_from entries 0 ends ≡ rows → shown ≡ entries → shown ≡ concat rows
all_of entries ends shown rows e is shown_is = shown_is ∙ sym (all_are entries 0 ends e) ∙ ap concat is

-- ---- rows to be filled

blank_push : (counts : List ℕ) (count : ℕ) → blank_rows (counts ++ count ∷ []) ≡ blank_rows counts ++ replicate count 0 ∷ []
blank_push [] count = refl
blank_push (first ∷ counts) count = ap (λ (rows : List (List ℕ)). replicate first 0 ∷ rows) (blank_push counts count)

pub blank_taken : (counts : List ℕ) (i : ℕ) → i < length counts → blank_rows (take i counts) ++ replicate (get_or counts i 0) 0 ∷ [] ≡ blank_rows (take (i + 1) counts)
blank_taken counts i h = sym (ap blank_rows (take_more counts i 0 h) ∙ blank_push (take i counts) (get_or counts i 0))

-- ---- an entry is put in place of another

starts_from : (start : ℕ) (ends : List ℕ) (len p : ℕ) → AreEnds start ends len → p < length ends → start ≤ start_at start ends p
starts_from start ends len zero e h = omega arith
starts_from start [] len (suc p) e h = absurd (omega (arith, h))
starts_from start (end ∷ ends) len (suc zero) e h = e.0
starts_from start (end ∷ ends) len (suc (suc p)) e h = omega (arith, e.0, starts_from end ends len (suc p) e.1 (omega (arith, h)))

put_before : (entries : List ℕ) (k x start end : ℕ) → k < start → slice_range (set entries k x) start end ≡ slice_range entries start end
put_before entries k x start end h = ap (λ (l : List ℕ). take (end - start) l) (drop-set-lt start entries k x h)

put_after : (entries : List ℕ) (k x start end : ℕ) → start ≤ k → end ≤ k → slice_range (set entries k x) start end ≡ slice_range entries start end
put_after entries k x start end h h' =
    let at : k ≡ start + (k - start) = omega (arith, h) in
    ap (λ (i : ℕ). take (end - start) (drop start (set entries i x))) at
    ∙ ap (λ (l : List ℕ). take (end - start) l) (drop-set-add start entries (k - start) x)
    ∙ take-set-le (end - start) (drop start entries) (k - start) x (omega (arith, h, h'))

put_inside : (entries : List ℕ) (start end at x : ℕ) → at < end - start → slice_range (set entries (start + at) x) start end ≡ set (slice_range entries start end) at x
put_inside entries start end at x h =
    ap (λ (l : List ℕ). take (end - start) l) (drop-set-add start entries at x)
    ∙ take-set-lt (end - start) (drop start entries) at x h

rows_stay : (entries : List ℕ) (start : ℕ) (ends : List ℕ) (len k x : ℕ) → AreEnds start ends len → k < start → rows_from (set entries k x) start ends ≡ rows_from entries start ends
rows_stay entries start [] len k x e h = refl
rows_stay entries start (end ∷ ends) len k x e h =
    ap (λ r. r ∷ rows_from (set entries k x) end ends) (put_before entries k x start end h)
    ∙ ap (λ rows. slice_range entries start end ∷ rows) (rows_stay entries end ends len k x e.1 (omega (arith, h, e.0)))

put_in : (entries : List ℕ) (start : ℕ) (ends : List ℕ) (len p at x : ℕ) → AreEnds start ends len → p < length ends → at < get_or ends p 0 - start_at start ends p
    → rows_from (set entries (start_at start ends p + at) x) start ends ≡ set (rows_from entries start ends) p (set (slice_range entries (start_at start ends p) (get_or ends p 0)) at x)
put_in entries start [] len p at x e h h' = absurd (omega (arith, h))
put_in entries start (end ∷ ends) len zero at x e h h' =
    ap (λ r. r ∷ rows_from (set entries (start + at) x) end ends) (put_inside entries start end at x h')
    ∙ ap (λ rows. set (slice_range entries start end) at x ∷ rows) (rows_stay entries end ends len (start + at) x e.1 (omega (arith, h')))
put_in entries start (end ∷ ends) len (suc zero) at x e h h' =
    ap (λ r. r ∷ rows_from (set entries (end + at) x) end ends) (put_after entries (end + at) x start end (omega (arith, e.0)) (omega arith))
    ∙ ap (λ rows. slice_range entries start end ∷ rows) (put_in entries end ends len zero at x e.1 (omega (arith, h)) h')
put_in entries start (end ∷ ends) len (suc (suc p)) at x e h h' =
    let from = starts_from end ends len (suc p) e.1 (omega (arith, h)) in
    ap (λ r. r ∷ rows_from (set entries (get_or ends p 0 + at) x) end ends) (put_after entries (get_or ends p 0 + at) x start end (omega (arith, e.0, from)) (omega (arith, from)))
    ∙ ap (λ rows. slice_range entries start end ∷ rows) (put_in entries end ends len (suc p) at x e.1 (omega (arith, h)) h')

module _ (entries ends : List ℕ) (rows : List (List ℕ)) (p at : ℕ) (e : AreEnds 0 ends (length entries)) (is : rows_from entries 0 ends ≡ rows) (h : p < length rows) (h' : at < length (row rows p)) where
  pub node_within : p < length ends
  node_within = omega (arith, h, length_rows entries 0 ends, ap length is)

  own : slice_range entries (start_at 0 ends p) (get_or ends p 0) ≡ row rows p
  own = row_is entries ends rows (slice_range entries (start_at 0 ends p) (get_or ends p 0)) p (start_at 0 ends p) (get_or ends p 0) is node_within refl refl refl

  within_row : at < get_or ends p 0 - start_at 0 ends p
  within_row = omega (arith, h', ap length own, length-take (get_or ends p 0 - start_at 0 ends p) (drop (start_at 0 ends p) entries))

  pub place_within : start_at 0 ends p + at < length entries
  place_within = (let bounds = ends_at 0 ends (length entries) p e node_within in omega (arith, within_row, bounds.0, bounds.1))

  pub rows_put : (x : ℕ) → rows_from (set entries (start_at 0 ends p + at) x) 0 ends ≡ set rows p (set (row rows p) at x)
  rows_put x =
      put_in entries 0 ends (length entries) p at x e node_within within_row
      ∙ ap (λ (r : List (List ℕ)). set r p (set (slice_range entries (start_at 0 ends p) (get_or ends p 0)) at x)) is
      ∙ ap (λ (l : List ℕ). set rows p (set l at x)) own
