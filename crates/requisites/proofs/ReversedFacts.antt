-- Links the other way round.
use Rattle.std.proofs.Common.{◌≡◌, ◌≢◌, ℕ, zero, suc, Bool, false, cond, eqb, set, ◌++◌, ◌+◌, ◌-◌, ◌<◌, ◌≤◌, List, [], ◌∷◌, length, get_or, replicate, take, drop, refl, sym, ap, ◌∙◌, subst, inl, inr, arith}
use Rattle.std.specs.List.{Contains, concat}
use Rattle.std.proofs.lemmas.Bool.{cases_eq, cases_lt, eq-eqb}
use Rattle.std.proofs.lemmas.Bool.Decides.{eqb_tells}
use Rattle.std.proofs.lemmas.List.{drop_all, drop-replicate, drop-set, get_or-set_other, get_or-set_same, get_or_past, length-set, take_all, take_more}
use Rattle.std.proofs.Math.ListN.{get_or-map, length-map}
use Rattle.std.proofs.lemmas.List.Elements.{Contains-append_cases, Contains-append_left, Contains-append_right, Contains-push, Contains-push_cases}
use Rattle.std.proofs.lemmas.List.Sums.{sum_by-append, sum_by-cons, sum_by-drop_more, sum_by-take-le}
use Rattle.requisites.proofs.SpreadFacts.{in_one}
use Rattle.requisites.specs.Nodes.{AreReversed, Links, row}
use Rattle.requisites.specs.Reversed.{AreTaken, HavePlaces, RowAdded, filled, times, times_in}
use Rattle.requisites.specs.Rows.{blank_rows}

abbrev nought : ℕ
nought = 0

pub added_none : (node : ℕ) (rows : List (List ℕ)) → RowAdded [] node rows rows
added_none node rows = record {
  len = refl;
  keeps = λ q p inside. inside;
  added = λ q inside h. absurd (omega (arith, inside.1));
  only = λ q p inside. inl inside;
}

pub added_more : (listed : List ℕ) (i node : ℕ) (old mid new : List (List ℕ)) → i < length listed → RowAdded (take i listed) node old mid → RowAdded (get_or listed i 0 ∷ []) node mid new → RowAdded (take (i + 1) listed) node old new
added_more listed i node old mid new h a b = rw (take_more listed i 0 h) (record {
  len = b.len ∙ a.len;
  keeps = λ q p inside. b.keeps q p (a.keeps q p inside);
  added = λ q inside below. elim (Contains-push_cases (take i listed) (get_or listed i 0) q inside) [
    | inl before ↦ b.keeps q node (a.added q before below)
    | inr same ↦ b.added q (let P : ℕ → Type 0 = λ k. Contains (get_or listed i 0 ∷ []) k in subst P same (Contains-push [] (get_or listed i 0))) (omega (arith, a.len))
  ];
  only = λ q p inside. elim (b.only q p inside) [
    | inl before ↦ elim (a.only q p before) [
      | inl old_one ↦ inl old_one
      | inr earlier ↦ inr (record { is = earlier.is; within = earlier.within; inside = Contains-append_left (take i listed) (get_or listed i 0 ∷ []) q earlier.inside })
    ]
    | inr now ↦ inr (record { is = now.is; within = (let w = now.within in omega (arith, w, a.len)); inside = Contains-append_right (take i listed) (get_or listed i 0 ∷ []) q now.inside })
  ];
})

pub added_all : (listed : List ℕ) (i node : ℕ) (old new : List (List ℕ)) → length listed ≤ i → RowAdded (take i listed) node old new → RowAdded listed node old new
added_all listed i node old new h a = let P : List ℕ → Type 0 = λ l. RowAdded l node old new in subst P (take_all i listed h) a

-- the links of the nodes below i are turned
pub record AreTurnedBelow (lists : List (List ℕ)) (n i : ℕ) (rows : List (List ℕ)) : Type 0 where
  pub len : length rows ≡ n
  pub turned : (p q : ℕ) → p < i → Links lists n p q → Contains (row rows q) p
  pub only : (p q : ℕ) → Contains (row rows q) p → Links lists n p q

pub turned_more : (lists : List (List ℕ)) (n i : ℕ) (own : List ℕ) (old new : List (List ℕ)) → own ≡ row lists i → AreTurnedBelow lists n i old → RowAdded own i old new → AreTurnedBelow lists n (i + 1) new
turned_more lists n i own old new same a b = record {
  len = b.len ∙ a.len;
  turned = λ p q h link. elim (cases_lt p i) [
    | inl before ↦ b.keeps q p (a.turned p q before link)
    | inr after ↦ (let at : i ≡ p = omega arith in
        let P : ℕ → Type 0 = λ k. Contains (row new q) k in
        subst P at (b.added q (let Q : ℕ → Type 0 = λ k. Contains (row lists k) q in let R : List ℕ → Type 0 = λ l. Contains l q in subst R (sym same) (subst Q (sym at) link.listed)) (omega (arith, link.index, a.len))))
  ];
  only = λ p q inside. elim (b.only q p inside) [
    | inl before ↦ a.only p q before
    | inr now ↦
        let P : List ℕ → Type 0 = λ l. Contains l q in
        let Q : ℕ → Type 0 = λ k. Contains (row lists k) q in
        record { listed = subst Q now.is (subst P same now.inside); index = (let w = now.within in omega (arith, w, a.len)) }
  ];
}

pub turned_all : (lists : List (List ℕ)) (n i : ℕ) (rows : List (List ℕ)) → length lists ≤ i → AreTurnedBelow lists n i rows → AreReversed lists n rows
turned_all lists n i rows end a = record {
  turned = λ p q link. elim (cases_lt p i) [
    | inl before ↦ a.turned p q before link
    | inr after ↦ absurd (let P : List ℕ → Type 0 = λ l. Contains l q in let inside : Contains [] q = subst P (get_or_past lists p [] (omega arith)) link.listed in omega (arith, inside.1))
  ];
  only = a.only;
}

-- ---- how often a node is listed

times_one : (b q : ℕ) → times (b ∷ []) q ≡ cond (eqb b q) 1 0
times_one b q = sum_by-cons (λ k. cond (eqb k q) 1 0) b [] ∙ omega arith

pub times_same : (b : ℕ) → times (b ∷ []) b ≡ 1
times_same b = times_one b b ∙ ap (λ (t : Bool). cond t 1 nought) (eq-eqb b b refl)

times_other : (b q : ℕ) → b ≢ q → times (b ∷ []) q ≡ 0
times_other b q other =
    let differ : eqb b q ≡ false = elim (eqb_tells b q) [ inl same ↦ absurd (other same.1) | inr differ ↦ differ.0 ] in
    times_one b q ∙ ap (λ (t : Bool). cond t 1 nought) differ

times_append : (xs ys : List ℕ) (q : ℕ) → times (xs ++ ys) q ≡ times xs q + times ys q
times_append xs ys q = sum_by-append (λ k. cond (eqb k q) 1 0) xs ys

times_more : (listed : List ℕ) (i q : ℕ) → i < length listed → times (take (i + 1) listed) q ≡ times (take i listed) q + times (get_or listed i 0 ∷ []) q
times_more listed i q h = ap (λ (l : List ℕ). times l q) (take_more listed i 0 h) ∙ times_append (take i listed) (get_or listed i 0 ∷ []) q

times_part : (listed : List ℕ) (i q : ℕ) → times (take i listed) q ≤ times listed q
times_part listed i q = sum_by-take-le (λ k. cond (eqb k q) 1 0) listed i

pub times_within : (listed : List ℕ) (q : ℕ) → times listed q ≤ length listed
times_within [] q = omega arith
times_within (b ∷ listed) q = elim (cases_eq b q) [
  | inl same ↦ omega (arith, times_append (b ∷ []) listed q, times_within listed q, (let P : ℕ → Type 0 = λ k. times (b ∷ []) k ≡ 1 in subst P same (times_same b)))
  | inr other ↦ omega (arith, times_append (b ∷ []) listed q, times_within listed q, times_other b q other)
]

pub times_all : (lists : List (List ℕ)) (q : ℕ) → times (concat lists) q ≡ times_in lists q
times_all [] q = refl
times_all (listed ∷ lists) q =
    times_append listed (concat lists) q ∙ ap (λ (k : ℕ). times listed q + k) (times_all lists q) ∙ sym (sum_by-cons (λ l. times l q) listed lists)

-- ---- rows that are filled from their ends

length_filled : (left : List ℕ) (rows : List (List ℕ)) → length left ≡ length rows → length (filled left rows) ≡ length left
length_filled [] rows e = refl
length_filled (places ∷ left) [] e = absurd (omega (arith, e))
length_filled (places ∷ left) (own ∷ rows) e = ap suc (length_filled left rows (omega (arith, e)))

row_filled : (left : List ℕ) (rows : List (List ℕ)) (q : ℕ) → length left ≡ length rows → row (filled left rows) q ≡ drop (get_or left q 0) (row rows q)
row_filled [] [] q e = refl
row_filled [] (own ∷ rows) q e = absurd (omega (arith, e))
row_filled (places ∷ left) [] q e = absurd (omega (arith, e))
row_filled (places ∷ left) (own ∷ rows) zero e = refl
row_filled (places ∷ left) (own ∷ rows) (suc q) e = row_filled left rows q (omega (arith, e))

-- where no place is left, the rows are filled
filled_all : (left : List ℕ) (rows : List (List ℕ)) → length left ≡ length rows → ((q : ℕ) → q < length left → get_or left q 0 ≡ 0) → filled left rows ≡ rows
filled_all [] [] e none = refl
filled_all [] (own ∷ rows) e none = absurd (omega (arith, e))
filled_all (places ∷ left) [] e none = absurd (omega (arith, e))
filled_all (places ∷ left) (own ∷ rows) e none =
    ap (λ (k : ℕ). drop k own ∷ filled left rows) (none 0 (omega arith))
    ∙ ap (λ (r : List (List ℕ)). own ∷ r) (filled_all left rows (omega (arith, e)) (λ q h. none (suc q) (omega (arith, h))))

abbrev put_at : List (List ℕ) → ℕ → ℕ → ℕ → List (List ℕ)
put_at rows b k x = set rows b (set (row rows b) k x)

-- the places that are left, and the rows, after x was put at the last place left of b
module _ (left : List ℕ) (rows : List (List ℕ)) (b k x : ℕ) (places : HavePlaces left rows) (h : b < length left) (at : k + 1 ≡ get_or left b 0) where
  abbrev L : List ℕ
  L = set left b k

  abbrev R : List (List ℕ)
  R = put_at rows b k x

  as_many : length L ≡ length R
  as_many = length-set left b k ∙ places.as_many ∙ sym (length-set rows b (set (row rows b) k x))

  inside : b < length rows
  inside = omega (arith, h, places.as_many)

  room_put : k < length (row rows b)
  room_put = omega (arith, at, places.within b)

  own_row : row R b ≡ set (row rows b) k x
  own_row = get_or-set_same rows b (set (row rows b) k x) [] inside

  own : row (filled L R) b ≡ x ∷ row (filled left rows) b
  own = row_filled L R b as_many
      ∙ ap (λ (i : ℕ). drop i (row R b)) (get_or-set_same left b k 0 h)
      ∙ ap (λ (l : List ℕ). drop k l) own_row
      ∙ drop-set (row rows b) k x room_put
      ∙ ap (λ (i : ℕ). x ∷ drop i (row rows b)) at
      ∙ ap (λ (r : List ℕ). x ∷ r) (sym (row_filled left rows b places.as_many))

  another : (q : ℕ) → q ≢ b → row (filled L R) q ≡ row (filled left rows) q
  another q other = row_filled L R q as_many
      ∙ ap (λ (i : ℕ). drop i (row R q)) (get_or-set_other left b q k 0 other)
      ∙ ap (λ (l : List ℕ). drop (get_or left q 0) l) (get_or-set_other rows b q (set (row rows b) k x) [] other)
      ∙ sym (row_filled left rows q places.as_many)

  pub added_put : RowAdded (b ∷ []) x (filled left rows) (filled L R)
  added_put = record {
    len = length_filled L R as_many ∙ length-set left b k ∙ sym (length_filled left rows places.as_many);
    keeps = λ q p has. elim (cases_eq q b) [
      | inl same ↦ (let P : List ℕ → Type 0 = λ l. Contains l p in
          let Q : ℕ → Type 0 = λ i. Contains (row (filled left rows) i) p in
          let S : ℕ → Type 0 = λ i. Contains (row (filled L R) i) p in
          subst S (sym same) (subst P (sym own) (Contains-append_right (x ∷ []) (row (filled left rows) b) p (subst Q same has))))
      | inr other ↦ (let P : List ℕ → Type 0 = λ l. Contains l p in subst P (sym (another q other)) has)
    ];
    added = λ q has below.
        let same : q ≡ b = sym (in_one b q has) in
        let P : List ℕ → Type 0 = λ l. Contains l x in
        let S : ℕ → Type 0 = λ i. Contains (row (filled L R) i) x in
        subst S (sym same) (subst P (sym own) (Contains-append_left (x ∷ []) (row (filled left rows) b) x (Contains-push [] x)));
    only = λ q p has. elim (cases_eq q b) [
      | inl same ↦ (let P : List ℕ → Type 0 = λ l. Contains l p in
          let Q : ℕ → Type 0 = λ i. Contains (row (filled left rows) i) p in
          let S : ℕ → Type 0 = λ i. Contains (row (filled L R) i) p in
          elim (Contains-append_cases (x ∷ []) (row (filled left rows) b) p (subst P own (subst S same has))) [
            | inl first ↦ inr (record {
              is = in_one x p first;
              within = omega (arith, h, same, length_filled left rows places.as_many);
              inside = (let T : ℕ → Type 0 = λ i. Contains (b ∷ []) i in subst T (sym same) (Contains-push [] b));
            })
            | inr later ↦ inl (subst Q (sym same) later)
          ])
      | inr other ↦ (let P : List ℕ → Type 0 = λ l. Contains l p in inl (subst P (another q other) has))
    ];
  }

-- what is past the last row changes nothing
module _ (left : List ℕ) (rows : List (List ℕ)) (b x : ℕ) (places : HavePlaces left rows) (past : length left ≤ b) where
  pub added_past : RowAdded (b ∷ []) x (filled left rows) (filled left rows)
  added_past = record {
    len = refl;
    keeps = λ q p has. has;
    added = λ q has below. absurd (omega (arith, in_one b q has, below, past, length_filled left rows places.as_many));
    only = λ q p has. inl has;
  }

-- ---- rows in which nothing is put yet

length_blank : (left : List ℕ) → length (blank_rows left) ≡ length left
length_blank left = length-map left (λ (count : ℕ). replicate count 0)

row_blank : (left : List ℕ) (q : ℕ) → row (blank_rows left) q ≡ replicate (get_or left q 0) 0
row_blank left q = get_or-map (λ (count : ℕ). replicate count 0) left q 0

-- rows with as many places left as they have show no node
pub none_blank : (left : List ℕ) (q p : ℕ) → Contains (row (filled left (blank_rows left)) q) p → ⊥
none_blank left q p has =
    let n = get_or left q 0 in
    let no_more : n - n ≡ 0 = omega arith in
    let empty : row (filled left (blank_rows left)) q ≡ [] =
    row_filled left (blank_rows left) q (sym (length_blank left))
    ∙ ap (λ (l : List ℕ). drop n l) (row_blank left q)
    ∙ drop-replicate n n nought
    ∙ ap (λ (k : ℕ). replicate k nought) no_more in
    let P : List ℕ → Type 0 = λ l. Contains l p in
    let nothing : Contains [] p = subst P empty has in
    omega (arith, nothing.1)

pub turned_none : (lists rows : List (List ℕ)) (left : List ℕ) → HavePlaces left rows → ((q p : ℕ) → Contains (row (filled left rows) q) p → ⊥) → AreTurnedBelow lists (length left) 0 (filled left rows)
turned_none lists rows left places none = record {
  len = length_filled left rows places.as_many;
  turned = λ p q h link. absurd (omega (arith, h));
  only = λ p q has. absurd (none q p has);
}

-- ---- places that are taken

pub taken_none : (left : List ℕ) → AreTaken [] left left
taken_none left = record { len = refl; taken = λ q h. omega arith }

pub taken_more : (listed : List ℕ) (i : ℕ) (old mid new : List ℕ) → i < length listed → AreTaken (take i listed) old mid → AreTaken (get_or listed i 0 ∷ []) mid new
    → AreTaken (take (i + 1) listed) old new
taken_more listed i old mid new h a b = record {
  len = b.len ∙ a.len;
  taken = λ q below. omega (arith, b.taken q (omega (arith, below, a.len)), a.taken q below, times_more listed i q h);
}

pub taken_all : (listed : List ℕ) (i : ℕ) (old new : List ℕ) → length listed ≤ i → AreTaken (take i listed) old new → AreTaken listed old new
taken_all listed i old new h a = let P : List ℕ → Type 0 = λ l. AreTaken l old new in subst P (take_all i listed h) a

pub room_next : (listed : List ℕ) (i : ℕ) (old mid : List ℕ) → i < length listed → ((q : ℕ) → q < length old → times listed q ≤ get_or old q 0)
    → AreTaken (take i listed) old mid → (q : ℕ) → q < length mid → times (get_or listed i 0 ∷ []) q ≤ get_or mid q 0
room_next listed i old mid h room a q below =
    let inside : q < length old = omega (arith, below, a.len) in
    omega (arith, a.taken q inside, times_more listed i q h, times_part listed (i + 1) q, room q inside)

-- so many places are left as there are links to come
abbrev pub AreToCome : List (List ℕ) → List ℕ → Type 0
AreToCome lists left = (q : ℕ) → q < length left → get_or left q 0 ≡ times_in lists q

next_row : (lists : List (List ℕ)) (i : ℕ) (own : List ℕ) (q : ℕ) → i < length lists → own ≡ row lists i → times_in (drop i lists) q ≡ times own q + times_in (drop (i + 1) lists) q
next_row lists i shown q h same =
    sum_by-drop_more (λ listed. times listed q) lists i [] h ∙ ap (λ (l : List ℕ). times l q + times_in (drop (i + 1) lists) q) (sym same)

pub room_row : (lists : List (List ℕ)) (i : ℕ) (own left : List ℕ) → i < length lists → own ≡ row lists i → AreToCome (drop i lists) left
    → (q : ℕ) → q < length left → times own q ≤ get_or left q 0
room_row lists i own left h same come q below = omega (arith, come q below, next_row lists i own q h same)

pub come_next : (lists : List (List ℕ)) (i : ℕ) (own old new : List ℕ) → i < length lists → own ≡ row lists i → AreToCome (drop i lists) old → AreTaken own old new → AreToCome (drop (i + 1) lists) new
come_next lists i own old new h same come a q below =
    let inside : q < length old = omega (arith, below, a.len) in
    omega (arith, come q inside, a.taken q inside, next_row lists i own q h same)

pub reversed_all : (lists : List (List ℕ)) (n i : ℕ) (left : List ℕ) (rows : List (List ℕ)) → length lists ≤ i → HavePlaces left rows → AreToCome (drop i lists) left
    → AreTurnedBelow lists n i (filled left rows) → AreReversed lists n rows
reversed_all lists n i left rows end places come a =
    let P : List (List ℕ) → Type 0 = λ r. AreReversed lists n r in
    subst P (filled_all left rows places.as_many (λ q below. come q below ∙ ap (λ (l : List (List ℕ)). times_in l q) (drop_all i lists end)))
    (turned_all lists n i (filled left rows) end a)
