-- Walks from one id to all to which steps lead, and the map of what is read on the way.
use Rattle.std.proofs.Common.{◌≡◌, ◌⊎◌, ◌∙◌, ℕ, ◌+◌, ◌<◌, ◌≤◌, ◌||◌, true, cond, List, [], ◌∷◌, ◌++◌, length, map, take, get_or, is_some, IfSome, Option, None, Some, refl, sym, ap, subst, inl, inr, arith}
use Rattle.std.specs.BTreeMap.{insert_entry, is_at}
use Rattle.std.specs.BTreeSet.{insert_key}
use Rattle.std.specs.List.{Contains, list_any}
use Rattle.std.specs.Map.{keys_of, lookup, values_of}
use Rattle.std.specs.Ordering.{is_eq, match_ordering, nat_cmp}
use Rattle.std.proofs.lemmas.Map.Lookups.{CmpEqualImpliesEq, exact_unsigned}
use Rattle.std.specs.declared.cmp.Ordering.{Ordering}
use Rattle.std.specs.declared.cmp.Ordering.TheVariants.{Less, Equal, Greater}
use Rattle.std.proofs.lemmas.List.{take-append-le, take_all, take_more}
use Rattle.std.proofs.lemmas.List.Elements.{Contains-append_cases, Contains-append_left, Contains-append_right, Contains-push_cases}
use Rattle.lemmas.proofs.ListFacts.{first_inside, inside_cases, none_inside, rest_inside}
use Rattle.catalogue.specs.Content.{Content}
use Rattle.catalogue.specs.Ids.{id_cmp}
use Rattle.catalogue.proofs.IdFacts.{exact_ids}
use Rattle.requisites.specs.Leads.{Leads}
use Rattle.requisites.specs.Nodes.{row}
use Rattle.listings.specs.Links.{IsAbove}
use Rattle.requisites.proofs.LeadsFacts.{leads_closed, leads_itself, leads_more}
use Rattle.listings.specs.Gathered.{AreNamed, AreRead, IsGathered, IsGathering, IsWalked, Names, gathered_of, named_by}
use Rattle.listings.specs.declared.gathered.Gathered.{Gathered}

-- ---- walks

module _ {A : Type 0} where
  pub asked_more : (order more : List A) (at : ℕ) (x y : A) → at < length order → x ≡ get_or order at x → Contains (take (at + 1) (order ++ more)) y → Contains (take at order) y ⊎ (x ≡ y)
  asked_more order more at x y below is inside =
      let front : take (at + 1) (order ++ more) ≡ take at order ++ x ∷ [] = take-append-le (at + 1) order more (omega (arith, below)) ∙ take_more order at x below ∙ ap (λ (z : A). take at order ++ z ∷ []) (sym is) in
      let P : List A → Type 0 = λ l. Contains l y in
      Contains-push_cases (take at order) x y (subst P front inside)

  asked_here : (order : List A) (at : ℕ) (x y : A) → at < length order → x ≡ get_or order at x → Contains (take (at + 1) order) y → Contains (take at order) y ⊎ (x ≡ y)
  asked_here order at x y below is inside =
      let P : List A → Type 0 = λ l. Contains l y in
      Contains-push_cases (take at order) x y (subst P (take_more order at x below ∙ ap (λ (z : A). take at order ++ z ∷ []) (sym is)) inside)

  -- one that was looked at before
  pub asked_passes : (seen order : List A) (at : ℕ) (x : A) → at < length order → x ≡ get_or order at x → Contains seen x
      → ((y : A) → Contains (take at order) y → Contains seen y) → (y : A) → Contains (take (at + 1) order) y → Contains seen y
  asked_passes seen order at x below is here asked y inside = elim (asked_here order at x y below is inside) [
    | inl before ↦ asked y before
    | inr same ↦ (let P : A → Type 0 = λ z. Contains seen z in subst P same here)
  ]

  -- one that is looked at now
  pub asked_reads : (seen seen' order order' more : List A) (at : ℕ) (x : A) → at < length order → x ≡ get_or order at x → ((y : A) → Contains seen y → Contains seen' y) → Contains seen' x
      → order' ≡ order ++ more → ((y : A) → Contains (take at order) y → Contains seen y) → (y : A) → Contains (take (at + 1) order') y → Contains seen' y
  asked_reads seen seen' order order' more at x below is stay here now asked y inside =
      let Q : List A → Type 0 = λ l. Contains (take (at + 1) l) y in
      elim (asked_more order more at x y below is (subst Q now inside)) [
        | inl before ↦ stay y (asked y before)
        | inr same ↦ (let P : A → Type 0 = λ z. Contains seen' z in subst P same here)
      ]

  -- all in the order were looked at
  pub all_asked : (seen order : List A) (at : ℕ) → length order ≤ at → ((y : A) → Contains (take at order) y → Contains seen y) → (y : A) → Contains order y → Contains seen y
  all_asked seen order at whole asked y inside = let P : List A → Type 0 = λ l. Contains l y in asked y (subst P (sym (take_all at order whole)) inside)

module _ {A : Type 0} (Step : A → A → Type 0) (start : A) where
  pub walk_begins : IsWalked Step start [] (start ∷ []) 0
  walk_begins = record {
    begun = first_inside start [];
    asked = λ y inside. absurd (none_inside y inside);
    drawn = λ x inside. absurd (none_inside x inside);
    closed = λ x y inside step. absurd (none_inside x inside);
    reached = λ y inside. elim (inside_cases start y [] inside) [
      | inl same ↦ (let P : A → Type 0 = λ z. Leads Step start z in subst P same (leads_itself Step start))
      | inr none ↦ absurd (none_inside y none)
    ];
  }

  -- what was looked at up to one index was up to another
  pub walk_moves : (seen order : List A) (at to : ℕ) → (((y : A) → Contains (take at order) y → Contains seen y) → (y : A) → Contains (take to order) y → Contains seen y)
      → IsWalked Step start seen order at → IsWalked Step start seen order to
  walk_moves seen order at to on walked = record {
    begun = walked.begun;
    asked = on walked.asked;
    drawn = walked.drawn;
    closed = walked.closed;
    reached = walked.reached;
  }

  pub walk_passes : (seen order : List A) (at : ℕ) (x : A) → at < length order → x ≡ get_or order at x → Contains seen x → IsWalked Step start seen order at → IsWalked Step start seen order (at + 1)
  walk_passes seen order at x below is here = walk_moves seen order at (at + 1) (asked_passes seen order at x below is here)

  pub walk_reads : (seen seen' order order' more : List A) (at : ℕ) (x : A) → at < length order → x ≡ get_or order at x
      → ((y : A) → Contains seen' y → (x ≡ y) ⊎ Contains seen y) → ((y : A) → Contains seen y → Contains seen' y) → Contains seen' x
      → ((y : A) → Contains more y → Step x y) → ((y : A) → Step x y → Contains more y) → order' ≡ order ++ more
      → IsWalked Step start seen order at → IsWalked Step start seen' order' (at + 1)
  walk_reads seen seen' order order' more at x below is new stay here steps named now walked = record {
    begun = kept start walked.begun;
    asked = asked_reads seen seen' order order' more at x below is stay here now walked.asked;
    drawn = λ y inside. elim (new y inside) [
      | inl same ↦ (let P : A → Type 0 = λ z. Contains order' z in subst P same (kept x own))
      | inr before ↦ kept y (walked.drawn y before)
    ];
    closed = λ y z inside step. elim (new y inside) [
      | inl same ↦ (let P : A → Type 0 = λ w. Step w z in put z (named z (subst P (sym same) step)))
      | inr before ↦ kept z (walked.closed y z before step)
    ];
    reached = λ y inside. (let P : List A → Type 0 = λ l. Contains l y in elim (Contains-append_cases order more y (subst P now inside)) [
      | inl before ↦ walked.reached y before
      | inr later ↦ leads_more (walked.reached x own) (steps y later)
    ]);
  } where
    own : Contains order x
    own = (at, below, sym is)

    kept : (y : A) → Contains order y → Contains order' y
    kept y inside = let P : List A → Type 0 = λ l. Contains l y in subst P (sym now) (Contains-append_left order more y inside)

    put : (y : A) → Contains more y → Contains order' y
    put y inside = let P : List A → Type 0 = λ l. Contains l y in subst P (sym now) (Contains-append_right order more y inside)

  pub walk_whole : (seen order : List A) (at : ℕ) → length order ≤ at → IsWalked Step start seen order at → (y : A) → Leads Step start y → Contains seen y
  walk_whole seen order at whole walked y leads =
      let all = all_asked seen order at whole walked.asked in
      leads_closed (λ z. Contains seen z) (λ x z here step. all z (walked.closed x z here step)) (all start walked.begun) leads

-- ---- a map by ids

module _ {X : Type 0} where
  pub keys_now : (es : List (List ℕ × X)) (k : List ℕ) (v : X) (y : List ℕ) → Contains (keys_of (insert_entry id_cmp es k v)) y → (k ≡ y) ⊎ Contains (keys_of es) y
  keys_now [] k v y inside = elim (inside_cases k y [] inside) [ inl same ↦ inl same | inr none ↦ inr none ]
  keys_now (e ∷ es) k v y inside = go (id_cmp k e.0) (keys_now es k v y) inside where
    go : (o : Ordering) → (Contains (keys_of (insert_entry id_cmp es k v)) y → (k ≡ y) ⊎ Contains (keys_of es) y)
        → Contains (keys_of (match_ordering o ((k, v) ∷ e ∷ es) ((e.0, v) ∷ es) (e ∷ insert_entry id_cmp es k v))) y → (k ≡ y) ⊎ Contains (e.0 ∷ keys_of es) y
    go Less rest inside = elim (inside_cases k y (e.0 ∷ keys_of es) inside) [ inl same ↦ inl same | inr later ↦ inr later ]
    go Equal rest inside = inr inside
    go Greater rest inside = elim (inside_cases e.0 y (keys_of (insert_entry id_cmp es k v)) inside) [
      | inl same ↦ (let P : List ℕ → Type 0 = λ z. Contains (e.0 ∷ keys_of es) z in inr (subst P same (first_inside e.0 (keys_of es))))
      | inr later ↦ elim (rest later) [ inl same ↦ inl same | inr before ↦ inr (rest_inside e.0 y (keys_of es) before) ]
    ]

  pub keys_stay : (es : List (List ℕ × X)) (k : List ℕ) (v : X) (y : List ℕ) → Contains (keys_of es) y → Contains (keys_of (insert_entry id_cmp es k v)) y
  keys_stay [] k v y inside = absurd (none_inside y inside)
  keys_stay (e ∷ es) k v y inside = go (id_cmp k e.0) (keys_stay es k v y) where
    go : (o : Ordering) → (Contains (keys_of es) y → Contains (keys_of (insert_entry id_cmp es k v)) y)
        → Contains (keys_of (match_ordering o ((k, v) ∷ e ∷ es) ((e.0, v) ∷ es) (e ∷ insert_entry id_cmp es k v))) y
    go Less rest = rest_inside k y (e.0 ∷ keys_of es) inside
    go Equal rest = inside
    go Greater rest = elim (inside_cases e.0 y (keys_of es) inside) [
      | inl same ↦ (let P : List ℕ → Type 0 = λ z. Contains (e.0 ∷ keys_of (insert_entry id_cmp es k v)) z in subst P same (first_inside e.0 (keys_of (insert_entry id_cmp es k v))))
      | inr later ↦ rest_inside e.0 y (keys_of (insert_entry id_cmp es k v)) (rest later)
    ]

  pub key_put : (es : List (List ℕ × X)) (k : List ℕ) (v : X) → Contains (keys_of (insert_entry id_cmp es k v)) k
  key_put [] k v = first_inside k []
  key_put (e ∷ es) k v = go (id_cmp k e.0) refl (key_put es k v) where
    go : (o : Ordering) → id_cmp k e.0 ≡ o → Contains (keys_of (insert_entry id_cmp es k v)) k
        → Contains (keys_of (match_ordering o ((k, v) ∷ e ∷ es) ((e.0, v) ∷ es) (e ∷ insert_entry id_cmp es k v))) k
    go Less is rest = first_inside k (e.0 ∷ keys_of es)
    go Equal is rest = (let P : List ℕ → Type 0 = λ z. Contains (e.0 ∷ keys_of es) z in subst P (sym (exact_ids k e.0 is)) (first_inside e.0 (keys_of es)))
    go Greater is rest = rest_inside e.0 k (keys_of (insert_entry id_cmp es k v)) rest

  pub values_now : (es : List (List ℕ × X)) (k : List ℕ) (v w : X) → Contains (values_of (insert_entry id_cmp es k v)) w → (v ≡ w) ⊎ Contains (values_of es) w
  values_now [] k v w inside = elim (inside_cases v w [] inside) [ inl same ↦ inl same | inr none ↦ inr none ]
  values_now (e ∷ es) k v w inside = go (id_cmp k e.0) (values_now es k v w) inside where
    go : (o : Ordering) → (Contains (values_of (insert_entry id_cmp es k v)) w → (v ≡ w) ⊎ Contains (values_of es) w)
        → Contains (values_of (match_ordering o ((k, v) ∷ e ∷ es) ((e.0, v) ∷ es) (e ∷ insert_entry id_cmp es k v))) w → (v ≡ w) ⊎ Contains (e.1 ∷ values_of es) w
    go Less rest inside = elim (inside_cases v w (e.1 ∷ values_of es) inside) [ inl same ↦ inl same | inr later ↦ inr later ]
    go Equal rest inside = elim (inside_cases v w (values_of es) inside) [ inl same ↦ inl same | inr later ↦ inr (rest_inside e.1 w (values_of es) later) ]
    go Greater rest inside = elim (inside_cases e.1 w (values_of (insert_entry id_cmp es k v)) inside) [
      | inl same ↦ (let P : X → Type 0 = λ z. Contains (e.1 ∷ values_of es) z in inr (subst P same (first_inside e.1 (values_of es))))
      | inr later ↦ elim (rest later) [ inl same ↦ inl same | inr before ↦ inr (rest_inside e.1 w (values_of es) before) ]
    ]

  -- there is at most one key more
  pub keys_longer : (es : List (List ℕ × X)) (k : List ℕ) (v : X) → length (keys_of (insert_entry id_cmp es k v)) ≤ length (keys_of es) + 1
  keys_longer [] k v = omega (arith)
  keys_longer (e ∷ es) k v = go (id_cmp k e.0) (keys_longer es k v) where
    go : (o : Ordering) → length (keys_of (insert_entry id_cmp es k v)) ≤ length (keys_of es) + 1
        → length (keys_of (match_ordering o ((k, v) ∷ e ∷ es) ((e.0, v) ∷ es) (e ∷ insert_entry id_cmp es k v))) ≤ length (keys_of (e ∷ es)) + 1
    go Less rest = omega (arith)
    go Equal rest = omega (arith)
    go Greater rest = omega (arith, rest)

  -- where there was room for one more, there are not too many then
  pub few_now : (most : Option ℕ) (old new : List (List ℕ × X)) (k : List ℕ) (v : X) → new ≡ insert_entry id_cmp old k v → IfSome most (λ m. length (keys_of old) < m)
      → IfSome most (λ m. length (keys_of new) ≤ m)
  few_now None old new k v is room = tt
  few_now (Some m) old new k v is room = omega (arith, keys_longer old k v, ap (λ es. length (keys_of es)) is, room)

  pub says_more : (f : List ℕ → X) (es : List (List ℕ × X)) (k : List ℕ) (v : X) → v ≡ f k → values_of es ≡ map f (keys_of es)
      → values_of (insert_entry id_cmp es k v) ≡ map f (keys_of (insert_entry id_cmp es k v))
  says_more f [] k v is says = ap (λ (z : X). z ∷ []) is
  says_more f (e ∷ es) k v is says = go (id_cmp k e.0) refl (says_more f es k v is) where
    first : e.1 ≡ f e.0
    first = cc

    rest : values_of es ≡ map f (keys_of es)
    rest = cc

    go : (o : Ordering) → id_cmp k e.0 ≡ o → (values_of es ≡ map f (keys_of es) → values_of (insert_entry id_cmp es k v) ≡ map f (keys_of (insert_entry id_cmp es k v)))
        → values_of (match_ordering o ((k, v) ∷ e ∷ es) ((e.0, v) ∷ es) (e ∷ insert_entry id_cmp es k v))
        ≡ map f (keys_of (match_ordering o ((k, v) ∷ e ∷ es) ((e.0, v) ∷ es) (e ∷ insert_entry id_cmp es k v)))
    go Less at later = ap (λ (z : X). z ∷ e.1 ∷ values_of es) is ∙ ap (λ (l : List X). f k ∷ l) says
    go Equal at later = ap (λ (z : X). z ∷ values_of es) (is ∙ ap f (exact_ids k e.0 at)) ∙ ap (λ (l : List X). f e.0 ∷ l) rest
    go Greater at later = ap (λ (z : X). z ∷ values_of (insert_entry id_cmp es k v)) first ∙ ap (λ (l : List X). f e.0 ∷ l) (later rest)

  pub found_key : (es : List (List ℕ × X)) (k : List ℕ) → is_some (lookup (is_at (id_cmp k)) es) ≡ true → Contains (keys_of es) k
  found_key [] k h = absurd (cc)
  found_key (e ∷ es) k h = go (id_cmp k e.0) refl (found_key es k) h where
    go : (o : Ordering) → id_cmp k e.0 ≡ o → (is_some (lookup (is_at (id_cmp k)) es) ≡ true → Contains (keys_of es) k)
        → is_some (cond (is_eq o) (Some e.1) (lookup (is_at (id_cmp k)) es)) ≡ true → Contains (e.0 ∷ keys_of es) k
    go Equal at rest h = (let P : List ℕ → Type 0 = λ z. Contains (e.0 ∷ keys_of es) z in subst P (sym (exact_ids k e.0 at)) (first_inside e.0 (keys_of es)))
    go Less at rest h = rest_inside e.0 k (keys_of es) (rest h)
    go Greater at rest h = rest_inside e.0 k (keys_of es) (rest h)

-- ---- a set in order

module _ {K : Type 0} (cmp : K → K → Ordering) (exact : CmpEqualImpliesEq cmp) where
  pub set_now : (ks : List K) (k y : K) → Contains (insert_key cmp ks k) y → (k ≡ y) ⊎ Contains ks y
  set_now [] k y inside = elim (inside_cases k y [] inside) [ inl same ↦ inl same | inr none ↦ inr none ]
  set_now (x ∷ xs) k y inside = go (cmp k x) (set_now xs k y) inside where
    go : (o : Ordering) → (Contains (insert_key cmp xs k) y → (k ≡ y) ⊎ Contains xs y) → Contains (match_ordering o (k ∷ x ∷ xs) (x ∷ xs) (x ∷ insert_key cmp xs k)) y → (k ≡ y) ⊎ Contains (x ∷ xs) y
    go Less rest inside = elim (inside_cases k y (x ∷ xs) inside) [ inl same ↦ inl same | inr later ↦ inr later ]
    go Equal rest inside = inr inside
    go Greater rest inside = elim (inside_cases x y (insert_key cmp xs k) inside) [
      | inl same ↦ (let P : K → Type 0 = λ z. Contains (x ∷ xs) z in inr (subst P same (first_inside x xs)))
      | inr later ↦ elim (rest later) [ inl same ↦ inl same | inr before ↦ inr (rest_inside x y xs before) ]
    ]

  pub set_stay : (ks : List K) (k y : K) → Contains ks y → Contains (insert_key cmp ks k) y
  set_stay [] k y inside = absurd (none_inside y inside)
  set_stay (x ∷ xs) k y inside = go (cmp k x) (set_stay xs k y) where
    go : (o : Ordering) → (Contains xs y → Contains (insert_key cmp xs k) y) → Contains (match_ordering o (k ∷ x ∷ xs) (x ∷ xs) (x ∷ insert_key cmp xs k)) y
    go Less rest = rest_inside k y (x ∷ xs) inside
    go Equal rest = inside
    go Greater rest = elim (inside_cases x y xs inside) [
      | inl same ↦ (let P : K → Type 0 = λ z. Contains (x ∷ insert_key cmp xs k) z in subst P same (first_inside x (insert_key cmp xs k)))
      | inr later ↦ rest_inside x y (insert_key cmp xs k) (rest later)
    ]

  pub set_put : (ks : List K) (k : K) → Contains (insert_key cmp ks k) k
  set_put [] k = first_inside k []
  set_put (x ∷ xs) k = go (cmp k x) refl (set_put xs k) where
    go : (o : Ordering) → cmp k x ≡ o → Contains (insert_key cmp xs k) k → Contains (match_ordering o (k ∷ x ∷ xs) (x ∷ xs) (x ∷ insert_key cmp xs k)) k
    go Less at rest = first_inside k (x ∷ xs)
    go Equal at rest = (let P : K → Type 0 = λ z. Contains (x ∷ xs) z in subst P (sym (exact k x at)) (first_inside x xs))
    go Greater at rest = rest_inside x k (insert_key cmp xs k) rest

  pub set_found : (ks : List K) (k : K) → list_any (is_at (cmp k)) ks ≡ true → Contains ks k
  set_found [] k h = absurd (cc)
  set_found (x ∷ xs) k h = go (cmp k x) refl (set_found xs k) h where
    go : (o : Ordering) → cmp k x ≡ o → (list_any (is_at (cmp k)) xs ≡ true → Contains xs k) → (is_eq o || list_any (is_at (cmp k)) xs) ≡ true → Contains (x ∷ xs) k
    go Equal at rest h = (let P : K → Type 0 = λ z. Contains (x ∷ xs) z in subst P (sym (exact k x at)) (first_inside x xs))
    go Less at rest h = rest_inside x k xs (rest h)
    go Greater at rest h = rest_inside x k xs (rest h)

-- one index more is looked at, of a walk by rows
pub above_reads : (above : List (List ℕ)) (start : ℕ) (old new order order' more : List ℕ) (at x : ℕ) → at < length order → x ≡ get_or order at x → new ≡ insert_key nat_cmp old x → more ≡ row above x → order' ≡ order ++ more
    → IsWalked (IsAbove above) start old order at → IsWalked (IsAbove above) start new order' (at + 1)
above_reads above start old new order order' more at x below is now more_is order_now walked =
    let P : List ℕ → ℕ → Type 0 = λ l y. Contains l y in
    walk_reads (IsAbove above) start old new order order' more at x below is
    (λ y inside. let Q : List ℕ → Type 0 = λ l. P l y in set_now nat_cmp exact_unsigned old x y (subst Q now inside))
    (λ y inside. let Q : List ℕ → Type 0 = λ l. P l y in subst Q (sym now) (set_stay nat_cmp exact_unsigned old x y inside))
    (let Q : List ℕ → Type 0 = λ l. P l x in subst Q (sym now) (set_put nat_cmp exact_unsigned old x))
    (λ y inside. let Q : List ℕ → Type 0 = λ l. P l y in subst Q more_is inside)
    (λ y step. let Q : List ℕ → Type 0 = λ l. P l y in subst Q (sym more_is) step)
    order_now walked

-- ---- what is gathered

-- what was read up to one index of the order was up to another
pub gather_moves : (content : Content) (start : List ℕ) (ids order : List (List ℕ)) (gathered : List Gathered) (at to : ℕ) → (AreRead ids order at → AreRead ids order to)
    → IsGathering content start ids order at gathered → IsGathering content start ids order to gathered
gather_moves content start ids order gathered at to on so_far = record { says = so_far.says; walked = walk_moves (Names content) start ids order at to on so_far.walked }

module _ (old new : List (List ℕ × Gathered)) (x : List ℕ) (v : Gathered) (now : new ≡ insert_entry id_cmp old x v) where
  stays : (y : List ℕ) → Contains (keys_of old) y → Contains (keys_of new) y
  stays y inside = let P : List (List ℕ × Gathered) → Type 0 = λ l. Contains (keys_of l) y in subst P (sym now) (keys_stay old x v y inside)

  put : Contains (keys_of new) x
  put = let P : List (List ℕ × Gathered) → Type 0 = λ l. Contains (keys_of l) x in subst P (sym now) (key_put old x v)

  fresh : (y : List ℕ) → Contains (keys_of new) y → (x ≡ y) ⊎ Contains (keys_of old) y
  fresh y inside = let P : List (List ℕ × Gathered) → Type 0 = λ l. Contains (keys_of l) y in keys_now old x v y (subst P now inside)

  says_now : (f : List ℕ → Gathered) → v ≡ f x → values_of old ≡ map f (keys_of old) → values_of new ≡ map f (keys_of new)
  says_now f is says = let P : List (List ℕ × Gathered) → Type 0 = λ l. values_of l ≡ map f (keys_of l) in subst P (sym now) (says_more f old x v is says)

  -- what is read now
  pub gather_reads : (content : Content) (start : List ℕ) (order order' : List (List ℕ)) (at : ℕ) → at < length order → x ≡ get_or order at x → order' ≡ order ++ named_by v → v ≡ gathered_of content x
      → IsGathering content start (keys_of old) order at (values_of old) → IsGathering content start (keys_of new) order' (at + 1) (values_of new)
  gather_reads content start order order' at below is order_now v_is so_far =
      let P : Gathered → List ℕ → Type 0 = λ g y. Contains (named_by g) y in
      record {
        says = says_now (gathered_of content) v_is so_far.says;
        walked = walk_reads (Names content) start (keys_of old) (keys_of new) order order' (named_by v) at x below is fresh stays put
            (λ y inside. let Q : Gathered → Type 0 = λ g. P g y in subst Q v_is inside)
            (λ y step. let Q : Gathered → Type 0 = λ g. P g y in subst Q (sym v_is) step)
            order_now so_far.walked;
      }

  pub asked_now : (order order' : List (List ℕ)) (at : ℕ) → at < length order → x ≡ get_or order at x → order' ≡ order ++ named_by v → ((y : List ℕ) → Contains (take at order) y → Contains (keys_of old) y)
      → (y : List ℕ) → Contains (take (at + 1) order') y → Contains (keys_of new) y
  asked_now order order' at below is order_now asked = asked_reads (keys_of old) (keys_of new) order order' (named_by v) at x below is stays put order_now asked

  pub named_now : (order order' : List (List ℕ)) → order' ≡ order ++ named_by v → AreNamed (values_of old) order → AreNamed (values_of new) order'
  named_now order order' order_now are = record {
    named = λ g id inside names.
        let V : List (List ℕ × Gathered) → Type 0 = λ l. Contains (values_of l) g in
        let O : List (List ℕ) → Type 0 = λ l. Contains l id in
        let N : Gathered → Type 0 = λ h. Contains (named_by h) id in
        elim (values_now old x v g (subst V now inside)) [
          | inl same ↦ subst O (sym order_now) (Contains-append_right order (named_by v) id (subst N (sym same) names))
          | inr before ↦ subst O (sym order_now) (Contains-append_left order (named_by v) id (are.named g id before names))
        ];
  }

-- nothing is read
pub none_named : (ids : List (List ℕ)) → AreNamed [] ids
none_named ids = record { named = λ g id inside names. absurd (none_inside g inside) }

-- at the end all that was read stands among the ids
pub gather_ends : (content : Content) (start : List ℕ) (ids order : List (List ℕ)) (at : ℕ) (gathered : List Gathered) → length order ≤ at → IsGathering content start ids order at gathered → IsGathered content start ids gathered
gather_ends content start ids order at gathered whole done = record {
  says = done.says;
  whole = λ id leads. walk_whole (Names content) start ids order at whole done.walked id leads;
  reached = λ id inside. done.walked.reached id (done.walked.drawn id inside);
}

pub named_ends : (ids order : List (List ℕ)) (at : ℕ) (gathered : List Gathered) → length order ≤ at → ((y : List ℕ) → Contains (take at order) y → Contains ids y) → AreNamed gathered order → AreNamed gathered ids
named_ends ids order at gathered whole asked are = record { named = λ g id inside names. all_asked ids order at whole asked id (are.named g id inside names) }
