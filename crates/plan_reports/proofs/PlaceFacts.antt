-- The places of a list at which a test holds, and how they are put into rows.
use Rattle.std.proofs.Common.{◌≡◌, ◌∙◌, ◌+◌, ◌-◌, ◌<◌, ◌≤◌, ℕ, zero, suc, List, [], ◌∷◌, ◌++◌, Bool, true, false, ◌||◌, ◌&&◌, cond, Option, Some, None, length, get_or, set, take, map, refl, sym, ap, subst, inl, inr, arith, length-append, add-one, append_assoc}
use Rattle.std.specs.List.{Contains, cons_option, filter, list_any, slice_get}
use Rattle.std.proofs.lemmas.Bool.{eq-eqb, ne_eqb}
use Rattle.std.proofs.lemmas.Bool.Decides.{eqb_tells}
use Rattle.std.proofs.lemmas.List.{append-nil, get_or-set_other, get_or-set_same, length-set, map-append, take_all, take_more}
use Rattle.std.proofs.lemmas.List.Elements.{filter-append, filter_map-append}
use Rattle.std.proofs.lemmas.List.Folds.{list_any-append}
use Rattle.std.proofs.lemmas.Option.{slice_get-get_or}
use Rattle.std.proofs.Math.Seq.{get_or-append_seam}
use Rattle.std.proofs.Math.Bool.{or-false}
use Rattle.catalogue.specs.Ids.{Ascend, same_id}
use Rattle.catalogue.proofs.IdFacts.{itself, one_id}
use Rattle.supersede.specs.Reach.{has}
use Rattle.requisites.specs.Nodes.{row}
use Rattle.verdicts.specs.Indices.{id_at, IsAt}
use Rattle.verdicts.proofs.IndexFacts.{index_is, indexed_inside}
use Rattle.plan_reports.specs.Found.{ArePlaces, ArePut, ArePutBy, ends_with, gives_one, is_some_of, once, or_none, picked, places, with_once}

-- ---- a place put once

last_pushed : (xs : List ℕ) (k : ℕ) → slice_get (xs ++ k ∷ []) (length (xs ++ k ∷ []) - 1) ≡ Some k
last_pushed xs k =
    let end : length (xs ++ k ∷ []) - 1 ≡ length xs = omega (arith, length-append xs (k ∷ [])) in
    ap (slice_get (xs ++ k ∷ [])) end
    ∙ slice_get-get_or (xs ++ k ∷ []) (length xs) k (omega (arith, length-append xs (k ∷ [])))
    ∙ ap Some (get_or-append_seam xs k [] k)

ends_here : (xs : List ℕ) (k : ℕ) → ends_with (xs ++ k ∷ []) k ≡ true
ends_here xs k = ap (λ o. is_some_of o k) (last_pushed xs k) ∙ eq-eqb k k refl

ends_elsewhere : (xs : List ℕ) (x k : ℕ) → (x ≡ k → ⊥) → ends_with (xs ++ x ∷ []) k ≡ false
ends_elsewhere xs x k apart = ap (λ o. is_some_of o k) (last_pushed xs x) ∙ ne_eqb x k apart

-- the places below a number don't end with it or a greater one
not_last : (test : ℕ → Bool) (n k : ℕ) → n ≤ k → ends_with (places test n) k ≡ false
not_last test zero k below = refl
not_last test (suc n) k below = go (test n) (not_last test n k (omega arith)) where
  go : (b : Bool) → ends_with (places test n) k ≡ false → ends_with (places test n ++ cond b (n ∷ []) []) k ≡ false
  go true before = ends_elsewhere (places test n) n k (λ same. omega arith)
  go false before = ap (λ l. ends_with l k) (append-nil (places test n)) ∙ before

pub once_grows : (test : ℕ → Bool) (n : ℕ) → once (test n) n (places test n) ≡ places test (n + 1)
once_grows test n = go (test n) ∙ ap (places test) (sym (add-one n)) where
  go : (b : Bool) → once b n (places test n) ≡ places test n ++ cond b (n ∷ []) []
  go true = ap (λ e. cond e (places test n) (places test n ++ n ∷ [])) (not_last test n n (omega arith))
  go false = sym (append-nil (places test n))

once_again : (xs : List ℕ) (k : ℕ) → with_once (with_once xs k) k ≡ with_once xs k
once_again xs k = go (ends_with xs k) refl where
  go : (b : Bool) → ends_with xs k ≡ b → with_once (with_once xs k) k ≡ with_once xs k
  go true e =
      let same : with_once xs k ≡ xs = ap (λ b. cond b xs (xs ++ k ∷ [])) e in
      ap (λ l. with_once l k) same
  go false e =
      let more : with_once xs k ≡ xs ++ k ∷ [] = ap (λ b. cond b xs (xs ++ k ∷ [])) e in
      ap (λ l. with_once l k) more
      ∙ ap (λ b. cond b (xs ++ k ∷ []) ((xs ++ k ∷ []) ++ k ∷ [])) (ends_here xs k)
      ∙ sym more

once_or : (a b : Bool) (k : ℕ) (xs : List ℕ) → once b k (once a k xs) ≡ once (a || b) k xs
once_or true true k xs = once_again xs k
once_or true false k xs = refl
once_or false true k xs = refl
once_or false false k xs = refl

-- ---- a place put into rows

pub put_none : (test : List ℕ → Bool) (ids : List (List ℕ)) (place : ℕ) (rows : List (List ℕ)) → ((id : List ℕ) → test id ≡ false) → ArePut test ids place rows rows
put_none test ids place rows none = record {
  len = refl;
  each = λ q within. sym (ap (λ b. once b place (row rows q)) (none (id_at ids q)));
}

-- by an answer
pub put_by : (answer : Option (List (List ℕ))) (ids : List (List ℕ)) (place : ℕ) (old new : List (List ℕ)) → ArePutBy answer ids place old new → ArePut (has (or_none answer)) ids place old new
put_by None ids place old new same =
    let P : List (List ℕ) → Type 0 = λ l. ArePut (has []) ids place old l in
    subst P (sym same) (put_none (has []) ids place old (λ id. refl))
put_by (Some givers) ids place old new put = put

pub put_more : (test more : List ℕ → Bool) (ids : List (List ℕ)) (place : ℕ) (a b c : List (List ℕ)) → ArePut test ids place a b → ArePut more ids place b c → ArePut (λ id. test id || more id) ids place a c
put_more test more ids place a b c first second = record {
  len = second.len ∙ first.len;
  each = λ q within.
      second.each q within
      ∙ ap (once (more (id_at ids q)) place) (first.each q within)
      ∙ once_or (test (id_at ids q)) (more (id_at ids q)) place (row a q);
}

pub put_same : (test other : List ℕ → Bool) (ids : List (List ℕ)) (place : ℕ) (a b : List (List ℕ)) → ((id : List ℕ) → test id ≡ other id) → ArePut test ids place a b → ArePut other ids place a b
put_same test other ids place a b same put = record {
  len = put.len;
  each = λ q within. put.each q within ∙ ap (λ t. once t place (row a q)) (same (id_at ids q));
}

any_more : {X : Type 0} (p : X → Bool) (xs : List X) (i : ℕ) (x : X) → i < length xs → x ≡ get_or xs i x → (list_any p (take i xs) || p x) ≡ list_any p (take (i + 1) xs)
any_more p xs i x below at =
    ap (λ b. list_any p (take i xs) || b) (sym (or-false (p x)))
    ∙ sym (list_any-append p (take i xs) (x ∷ []))
    ∙ ap (λ z. list_any p (take i xs ++ z ∷ [])) at
    ∙ ap (list_any p) (sym (take_more xs i x below))

-- after one more of some ids
pub put_id_more : (list ids : List (List ℕ)) (i : ℕ) (id : List ℕ) (place : ℕ) (a b c : List (List ℕ)) → i < length list → id ≡ get_or list i id
    → ArePut (has (take i list)) ids place a b → ArePut (λ other. same_id other id) ids place b c → ArePut (has (take (i + 1) list)) ids place a c
put_id_more list ids i id place a b c below at first second =
    put_same (λ other. has (take i list) other || same_id other id) (has (take (i + 1) list)) ids place a c
    (λ other. any_more (same_id other) list i id below at)
    (put_more (has (take i list)) (λ other. same_id other id) ids place a b c first second)

-- after one more of some needs
pub put_need_more : (f : List ℕ → List (List ℕ)) (needs ids : List (List ℕ)) (i : ℕ) (need : List ℕ) (place : ℕ) (a b c : List (List ℕ)) → i < length needs → need ≡ get_or needs i need
    → ArePut (gives_one f (take i needs)) ids place a b → ArePut (has (f need)) ids place b c → ArePut (gives_one f (take (i + 1) needs)) ids place a c
put_need_more f needs ids i need place a b c below at first second =
    put_same (λ other. gives_one f (take i needs) other || has (f need) other) (gives_one f (take (i + 1) needs)) ids place a c
    (λ other. any_more (λ one. has (f one) other) needs i need below at)
    (put_more (gives_one f (take i needs)) (has (f need)) ids place a b c first second)

-- ---- a place put into one row

same_or_not : (ids : List (List ℕ)) (id : List ℕ) (q : ℕ) (b : Bool) → same_id (id_at ids q) id ≡ b → (id_at ids q ≡ id → ⊥) → same_id (id_at ids q) id ≡ false
same_or_not ids id q true on apart = absurd (apart (one_id (id_at ids q) id on))
same_or_not ids id q false off apart = off

-- after a place was put into the row of an id
pub put_at : (ids : List (List ℕ)) (id : List ℕ) (index place : ℕ) (old new : List (List ℕ)) → Ascend ids → IsAt ids id index → length old ≡ length ids
    → new ≡ set old index (with_once (row old index) place) → ArePut (λ other. same_id other id) ids place old new
put_at ids id index place old new ascend at many is = record {
  len = ap length is ∙ length-set old index (with_once (row old index) place);
  each = λ q within. elim (eqb_tells q index) [
    | inl here ↦
        (let e : q ≡ index = here.1 in
        let on : same_id (id_at ids q) id ≡ true = ap (λ k. same_id (id_at ids k) id) e ∙ ap (λ x. same_id x id) at.is ∙ itself id in
        let inside : index < length old = omega (arith, at.within, many) in
        ap (λ l. row l q) is
        ∙ ap (λ k. row (set old index (with_once (row old index) place)) k) e
        ∙ get_or-set_same old index (with_once (row old index) place) [] inside
        ∙ ap (λ k. with_once (row old k) place) (sym e)
        ∙ sym (ap (λ b. once b place (row old q)) on))
    | inr there ↦
        (let off : same_id (id_at ids q) id ≡ false =
        same_or_not ids id q (same_id (id_at ids q) id) refl (λ same. there.1 (index_is ids id q index ascend (record { within = within; is = same }) at)) in
        ap (λ l. row l q) is
        ∙ get_or-set_other old index q (with_once (row old index) place) [] there.1
        ∙ sym (ap (λ b. once b place (row old q)) off))
  ];
}

-- none is put for an id that isn't there
pub put_absent : (ids : List (List ℕ)) (id : List ℕ) (place : ℕ) (rows : List (List ℕ)) → (Contains ids id → ⊥) → ArePut (λ other. same_id other id) ids place rows rows
put_absent ids id place rows none = record {
  len = refl;
  each = λ q within.
      let off : same_id (id_at ids q) id ≡ false = same_or_not ids id q (same_id (id_at ids q) id) refl (λ same. none (indexed_inside ids id q (record { within = within; is = same }))) in
      sym (ap (λ b. once b place (row rows q)) off);
}

-- ---- the rows of all places

pub placed_none : (test : ℕ → List ℕ → Bool) (ids rows : List (List ℕ)) → length rows ≡ length ids → ((q : ℕ) → row rows q ≡ []) → ArePlaces test ids 0 rows
placed_none test ids rows many none = record { len = many; each = λ q within. none q }

pub placed_more : (test : ℕ → List ℕ → Bool) (ids : List (List ℕ)) (n : ℕ) (old new : List (List ℕ)) → ArePlaces test ids n old → ArePut (test n) ids n old new → ArePlaces test ids (n + 1) new
placed_more test ids n old new are put = record {
  len = put.len ∙ are.len;
  each = λ q within. put.each q within ∙ ap (once (test n (id_at ids q)) n) (are.each q within) ∙ once_grows (λ k. test k (id_at ids q)) n;
}

-- ---- what stands at the places

-- the places of those that pass are those of the ones that are kept
places_up_to : {X : Type 0} (xs : List X) (d : X) (test : X → Bool) (n : ℕ) → n ≤ length xs → picked xs (places (λ k. test (get_or xs k d)) n) ≡ filter test (take n xs)
places_up_to xs d test zero below = refl
places_up_to {X} xs d test (suc n) below =
    let at : slice_get xs n ≡ Some (get_or xs n d) = slice_get-get_or xs n d (omega arith) in
    let t = λ (k : ℕ). test (get_or xs k d) in
    let go : (b : Bool) → picked xs (cond b (n ∷ []) []) ≡ cond b (get_or xs n d ∷ []) [] =
    λ b. elim b as (λ v. picked xs (cond v (n ∷ []) []) ≡ cond v (get_or xs n d ∷ []) []) [ true ↦ ap (λ o. cons_option o []) at | false ↦ refl ] in
    filter_map-append (slice_get xs) (places t n) (cond (t n) (n ∷ []) [])
    ∙ ap (λ l. l ++ picked xs (cond (t n) (n ∷ []) [])) (places_up_to xs d test n (omega arith))
    ∙ ap (λ l. filter test (take n xs) ++ l) (go (t n))
    ∙ sym (filter-append test (take n xs) (get_or xs n d ∷ []))
    ∙ ap (filter test) (sym (take_more xs n d (omega arith)) ∙ ap (λ m. take m xs) (add-one n))

pub places_kept : {X : Type 0} (xs : List X) (d : X) (test : X → Bool) → picked xs (places (λ k. test (get_or xs k d)) (length xs)) ≡ filter test xs
places_kept xs d test = places_up_to xs d test (length xs) (omega arith) ∙ ap (filter test) (take_all (length xs) xs (omega arith))

-- what stands at one place more
picked_more : {X : Type 0} (xs : List X) (places : List ℕ) (i : ℕ) (found : Option X) → i < length places → found ≡ slice_get xs (get_or places i 0) → picked xs (take i places) ++ cons_option found [] ≡ picked xs (take (i + 1) places)
picked_more xs places i found below is =
    ap (λ o. picked xs (take i places) ++ cons_option o []) is
    ∙ sym (filter_map-append (slice_get xs) (take i places) (get_or places i 0 ∷ []))
    ∙ ap (picked xs) (sym (take_more places i 0 below))

pub mapped_more : {X Y : Type 0} (f : X → Y) (xs : List X) (places : List ℕ) (i : ℕ) (found : Option X) (old new : List Y) → i < length places → found ≡ slice_get xs (get_or places i 0)
    → old ≡ map f (picked xs (take i places)) → new ≡ old ++ map f (cons_option found []) → new ≡ map f (picked xs (take (i + 1) places))
mapped_more f xs places i found old new below is was now =
    now
    ∙ ap (λ l. l ++ map f (cons_option found [])) was
    ∙ sym (map-append f (picked xs (take i places)) (cons_option found []))
    ∙ ap (map f) (picked_more xs places i found below is)

pub filtered_more : {X : Type 0} (p : X → Bool) (xs : List X) (places : List ℕ) (i : ℕ) (found : Option X) (old new : List X) → i < length places → found ≡ slice_get xs (get_or places i 0)
    → old ≡ filter p (picked xs (take i places)) → new ≡ old ++ filter p (cons_option found []) → new ≡ filter p (picked xs (take (i + 1) places))
filtered_more p xs places i found old new below is was now =
    now
    ∙ ap (λ l. l ++ filter p (cons_option found [])) was
    ∙ sym (filter-append p (picked xs (take i places)) (cons_option found []))
    ∙ ap (filter p) (picked_more xs places i found below is)

-- one more after those that were there
pub appended_more : {X Y : Type 0} (f : X → Y) (base : List Y) (xs : List X) (i : ℕ) (x : X) (y : Y) (old new : List Y) → i < length xs → x ≡ get_or xs i x
    → old ≡ base ++ map f (take i xs) → y ≡ f x → new ≡ old ++ y ∷ [] → new ≡ base ++ map f (take (i + 1) xs)
appended_more f base xs i x y old new below at was is now =
    now
    ∙ ap (λ l. l ++ y ∷ []) was
    ∙ append_assoc base (map f (take i xs)) (y ∷ [])
    ∙ ap (λ z. base ++ (map f (take i xs) ++ z ∷ [])) (is ∙ ap f at)
    ∙ ap (λ l. base ++ l) (sym (map-append f (take i xs) (get_or xs i x ∷ [])) ∙ ap (map f) (sym (take_more xs i x below)))

pub places_same : (test other : ℕ → Bool) (n : ℕ) → ((k : ℕ) → k < n → test k ≡ other k) → places test n ≡ places other n
places_same test other zero same = refl
places_same test other (suc n) same =
    ap (λ l. l ++ cond (test n) (n ∷ []) []) (places_same test other n (λ k below. same k (omega arith)))
    ∙ ap (λ b. places other n ++ cond b (n ∷ []) []) (same n (omega arith))

kept_by_both : {X : Type 0} (a : Bool) (x : X) (old new : List X) → old ≡ new → cond a (x ∷ old) old ≡ cond (a && true) (x ∷ new) new
kept_by_both true x old new same = ap (λ l. x ∷ l) same
kept_by_both false x old new same = same

left_out : {X : Type 0} (a : Bool) (x : X) (old new : List X) → old ≡ new → old ≡ cond (a && false) (x ∷ new) new
left_out true x old new same = same
left_out false x old new same = same

pub filter_twice : {X : Type 0} (p q : X → Bool) (xs : List X) → filter p (filter q xs) ≡ filter (λ x. p x && q x) xs
filter_twice p q [] = refl
filter_twice {X} p q (x ∷ xs) = go (q x) (filter_twice p q xs) where
  go : (b : Bool) → filter p (filter q xs) ≡ filter (λ x. p x && q x) xs
      → filter p (cond b (x ∷ filter q xs) (filter q xs)) ≡ cond (p x && b) (x ∷ filter (λ x. p x && q x) xs) (filter (λ x. p x && q x) xs)
  go true rest = kept_by_both (p x) x (filter p (filter q xs)) (filter (λ x. p x && q x) xs) rest
  go false rest = left_out (p x) x (filter p (filter q xs)) (filter (λ x. p x && q x) xs) rest
