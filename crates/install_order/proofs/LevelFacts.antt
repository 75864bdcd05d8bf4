-- The levels of rings, each by those before it.
use Rattle.std.proofs.Common.{◌≡◌, ℕ, zero, suc, ◌+◌, ◌<◌, ◌≤◌, max, List, [], ◌∷◌, ◌++◌, Option, Some, None, length, get_or, set, take, refl, sym, ◌∙◌, subst, inl, inr, arith, append_assoc}
use Rattle.std.specs.Prelude.{◌⊎◌}
use Rattle.std.specs.List.{Contains}
use Rattle.std.proofs.lemmas.Bool.{cases_eq, cases_lt}
use Rattle.std.proofs.lemmas.Grind.{common_steps}
use Rattle.std.proofs.lemmas.List.{get_or_past, get_or-set_same, get_or-set_other, length-set}
use Rattle.std.proofs.lemmas.List.Elements.{Contains-append_left, Contains-get_or, Contains-push, Contains-push_cases}
use Rattle.requisites.specs.Nodes.{Links, row}
use Rattle.requisites.proofs.LeadsFacts.{leads_more}
use Rattle.install_order.specs.Levels.{AreCounted, AreLevelled, AreLevels, AreLevelsBelow, Falls, HasLast, IsBelow, IsBelowRing, IsJustAbove, IsLevelOf, Rests, level_of, raise}
use Rattle.install_order.specs.Rings.{AreRingsAfter, IsNextRing}
use Rattle.install_order.specs.Steps.{StandsIn}
use Rattle.install_order.proofs.PutFacts.{stands_before, stands_cases, stands_last}
use Rattle.install_order.proofs.ReadFacts.{in_one, max_is, none_in, read_more}

-- ---- just above a row

pub just_begun : (levels : List (Option ℕ)) → IsJustAbove levels [] 0
just_begun levels = record { above = λ q below listed is. none_in q listed; just = inl refl }

later_in : (levels : List (Option ℕ)) (xs ys : List ℕ) (level : ℕ) → IsBelow levels xs level → IsBelow levels (xs ++ ys) level
later_in levels xs ys level by = record { node = by.node; listed = Contains-append_left xs ys by.node by.listed; below = by.below; is = by.is; next = by.next }

module _ (levels : List (Option ℕ)) (xs : List ℕ) (node level : ℕ) (was : IsJustAbove levels xs level) where
  stays_just : (next : ℕ) → next ≡ level → ((below : ℕ) → level_of levels node ≡ Some below → below < level) → IsJustAbove levels (xs ++ node ∷ []) next
  stays_just next same new =
      let P : ℕ → Type 0 = λ l. IsJustAbove levels (xs ++ node ∷ []) l in
      subst P (sym same) (record {
        above = λ q below listed is. elim (Contains-push_cases xs node q listed) [
          | inl before ↦ was.above q below before is
          | inr here ↦ (let Q : ℕ → Type 0 = λ k. level_of levels k ≡ Some below in new below (subst Q (sym here) is))
        ];
        just = elim was.just [
          | inl none ↦ inl none
          | inr by ↦ inr (later_in levels xs (node ∷ []) level by)
        ];
      })

  rises_just : (next below : ℕ) → next ≡ below + 1 → level ≤ below + 1 → level_of levels node ≡ Some below → IsJustAbove levels (xs ++ node ∷ []) next
  rises_just next below same less is =
      record {
        above = λ q other listed e. elim (Contains-push_cases xs node q listed) [
          | inl before ↦ (let low : other < level = was.above q other before e in omega arith)
          | inr here ↦
              (let Q : ℕ → Type 0 = λ k. level_of levels k ≡ Some other in
              let both : Some below ≡ Some other = sym is ∙ subst Q (sym here) e in
              let one : below ≡ other = cc in
              omega arith)
        ];
        just = inr (record { node = node; listed = Contains-push xs node; below = below; is = is; next = omega arith });
      }

  by_level : (o : Option ℕ) → level_of levels node ≡ o → IsJustAbove levels (xs ++ node ∷ []) (raise level o)
  by_level None e = stays_just level refl (λ below is. absurd (cc))
  by_level (Some below) e = elim (max_is level (below + 1)) [
    | inl kept ↦ stays_just (max level (below + 1)) kept.0 (λ other is. let one : below ≡ other = cc in let low = kept.1 in omega arith)
    | inr more ↦ rises_just (max level (below + 1)) below more.0 more.1 e
  ]

  pub just_more : (next : ℕ) → next ≡ raise level (level_of levels node) → IsJustAbove levels (xs ++ node ∷ []) next
  just_more next same = let P : ℕ → Type 0 = λ l. IsJustAbove levels (xs ++ node ∷ []) l in subst P (sym same) (by_level (level_of levels node) refl)

-- ---- the level of a ring

pub ring_begun : (needs : List (List ℕ)) (levels : List (Option ℕ)) → IsLevelOf needs levels [] 0
ring_begun needs levels = record { above = λ p q below listed row is. none_in p listed; just = inl refl }

module _ (needs : List (List ℕ)) (levels : List (Option ℕ)) (xs : List ℕ) (node level own : ℕ) (was : IsLevelOf needs levels xs level) (here : IsJustAbove levels (row needs node) own) where
  above_all : (next p q below : ℕ) → level ≤ next → own ≤ next → Contains (xs ++ node ∷ []) p → Contains (row needs p) q → level_of levels q ≡ Some below → below < next
  above_all next p q below first second listed linked is = elim (Contains-push_cases xs node p listed) [
    | inl before ↦ (let low : below < level = was.above p q below before linked is in omega arith)
    | inr same ↦
        (let P : ℕ → Type 0 = λ k. Contains (row needs k) q in
        let low : below < own = here.above q below (subst P (sym same) linked) is in
        omega arith)
  ]

  was_just : (next : ℕ) → next ≡ level → (next ≡ 0) ⊎ IsBelowRing needs levels (xs ++ node ∷ []) next
  was_just next same =
      let P : ℕ → Type 0 = λ l. (l ≡ 0) ⊎ IsBelowRing needs levels (xs ++ node ∷ []) l in
      subst P (sym same) (elim was.just [
        | inl none ↦ inl none
        | inr by ↦ inr (record { node = by.node; listed = Contains-append_left xs (node ∷ []) by.node by.listed; rests = by.rests })
      ])

  is_just : (next : ℕ) → next ≡ own → (next ≡ 0) ⊎ IsBelowRing needs levels (xs ++ node ∷ []) next
  is_just next same =
      let P : ℕ → Type 0 = λ l. (l ≡ 0) ⊎ IsBelowRing needs levels (xs ++ node ∷ []) l in
      subst P (sym same) (elim here.just [
        | inl none ↦ inl none
        | inr by ↦ inr (record { node = node; listed = Contains-push xs node; rests = by })
      ])

  pub ring_more : (next : ℕ) → next ≡ max level own → IsLevelOf needs levels (xs ++ node ∷ []) next
  ring_more next same = elim (max_is level own) [
    | inl kept ↦ (let e = same ∙ kept.0 in let low = kept.1 in record { above = λ p q below. above_all next p q below (omega arith) (omega arith); just = was_just next e })
    | inr more ↦ (let e = same ∙ more.0 in let low = more.1 in record { above = λ p q below. above_all next p q below (omega arith) (omega arith); just = is_just next e })
  ]

-- ---- levels that are set

pub set_none : (level : ℕ) (old : List (Option ℕ)) → AreLevelled [] level old old
set_none level old = record { len = refl; set = λ p listed inside. none_in p listed; each = λ p. inl refl }

-- what has the level has it still
has_it : (nodes : List ℕ) (level : ℕ) (old new : List (Option ℕ)) (p : ℕ) → AreLevelled nodes level old new → level_of old p ≡ Some level → level_of new p ≡ Some level
has_it nodes level old new p a is = elim (a.each p) [ inl same ↦ same ∙ is | inr put ↦ put.is ]

pub set_joined : (xs : List ℕ) (node level : ℕ) (a b c : List (Option ℕ)) → AreLevelled xs level a b → AreLevelled (node ∷ []) level b c → AreLevelled (xs ++ node ∷ []) level a c
set_joined xs node level a b c first second = record {
  len = second.len ∙ first.len;
  set = λ p listed inside. elim (Contains-push_cases xs node p listed) [
    | inl before ↦ has_it (node ∷ []) level b c p second (first.set p before inside)
    | inr same ↦ (let P : ℕ → Type 0 = λ k. Contains (node ∷ []) k in second.set p (subst P same (Contains-push [] node)) (omega (arith, first.len)))
  ];
  each = λ p. elim (second.each p) [
    | inl same ↦ elim (first.each p) [
      | inl was ↦ inl (same ∙ was)
      | inr put ↦ inr (record { listed = Contains-append_left xs (node ∷ []) p put.listed; is = same ∙ put.is })
    ]
    | inr put ↦
        (let P : ℕ → Type 0 = λ k. Contains (xs ++ node ∷ []) k in
        inr (record { listed = subst P (in_one node p put.listed) (Contains-push xs node); is = put.is }))
  ];
}

-- one that is there
pub set_one : (node level : ℕ) (old : List (Option ℕ)) → node < length old → AreLevelled (node ∷ []) level old (set old node (Some level))
set_one node level old inside = record {
  len = length-set old node (Some level);
  set = λ p listed within. (let P : ℕ → Type 0 = λ k. level_of (set old node (Some level)) k ≡ Some level in subst P (in_one node p listed) put);
  each = λ p. elim (cases_eq p node) [
    | inl e ↦
        (let P : ℕ → Type 0 = λ k. level_of (set old node (Some level)) k ≡ Some level in
        let Q : ℕ → Type 0 = λ k. Contains (node ∷ []) k in
        inr (record { listed = subst Q (sym e) (Contains-push [] node); is = subst P (sym e) put }))
    | inr ne ↦ inl (get_or-set_other old node p (Some level) None ne)
  ];
} where
  put : level_of (set old node (Some level)) node ≡ Some level
  put = get_or-set_same old node (Some level) None inside

-- one that is not
pub set_past : (node level : ℕ) (old : List (Option ℕ)) → length old ≤ node → AreLevelled (node ∷ []) level old old
set_past node level old past = record {
  len = refl;
  set = λ p listed inside. absurd (let same : node ≡ p = in_one node p listed in omega arith);
  each = λ p. inl refl;
}

-- ---- one ring more

module _ (needs : List (List ℕ)) (n : ℕ) (before : List (List ℕ)) (ring : List ℕ) (level : ℕ) (old new : List (Option ℕ))
    (a : AreLevels needs n (StandsIn before) old) (next : IsNextRing needs n before ring) (inside : (p : ℕ) → Contains ring p → p < n)
    (of : IsLevelOf needs old ring level) (put : AreLevelled ring level old new) where
  -- a node that had a level has it still
  stays : (p own : ℕ) → level_of old p ≡ Some own → level_of new p ≡ Some own
  stays p own is = elim (put.each p) [
    | inl same ↦ same ∙ is
    | inr here ↦ absurd (next.once p here.listed (a.only p own is))
  ]

  has : (q : ℕ) (o : Option ℕ) → level_of old q ≡ o → StandsIn before q → (own : ℕ) × (level_of old q ≡ Some own)
  has q None e stands = absurd (a.whole q stands e)
  has q (Some own) e stands = (own, e)

  same_level : (p own : ℕ) → level_of new p ≡ Some own → Contains ring p → own ≡ level
  same_level p own is listed = let here : level_of new p ≡ Some level = put.set p listed (omega (arith, inside p listed, a.len)) in cc

  ring_falls : (p q own : ℕ) → level_of new p ≡ Some own → Contains ring p → Links needs n p q → Falls needs n new p own q
  ring_falls p q own is listed link =
      let same : own ≡ level = same_level p own is listed in
      elim (stands_cases before ring q (next.needed p q listed link)) [
        | inl stands ↦
            (let had = has q (level_of old q) refl stands in
            let low : had.0 < level = of.above p q had.0 listed link.listed had.1 in
            record { below = had.0; is = stays q had.0 had.1; falls = inl (omega arith) })
        | inr here ↦ record { below = level; is = put.set q here (omega (arith, inside q here, a.len)); falls = inr (sym same, next.together q p here listed) }
      ]

  old_falls : (p q own : ℕ) → level_of old p ≡ Some own → Links needs n p q → Falls needs n new p own q
  old_falls p q own is link = let was = a.falls p q own is link in record { below = was.below; is = stays q was.below was.is; falls = was.falls }

  ring_rests : (p own : ℕ) → level_of new p ≡ Some (suc own) → Contains ring p → Rests needs n new p own
  ring_rests p own is listed =
      let same : suc own ≡ level = same_level p (suc own) is listed in
      elim of.just [
        | inl none ↦ absurd (let zero_is : suc own ≡ 0 = same ∙ none in cc)
        | inr by ↦
            (let below = by.rests in
            let is_own : below.below ≡ own = (let e : suc own ≡ suc below.below = same ∙ below.next in cc) in
            let P : ℕ → Type 0 = λ l. level_of new below.node ≡ Some l in
            let listed_n : below.node < n = node_inside below.node below.below below.is in
            record {
              on = below.node;
              is = subst P is_own (stays below.node below.below below.is);
              leads = leads_more (next.together p by.node listed by.listed) (record { listed = below.listed; index = listed_n });
            })
      ]
    where
      node_inside : (q l : ℕ) → level_of old q ≡ Some l → q < n
      node_inside q l e = elim (cases_lt q (length old)) [
        | inl in_it ↦ omega (arith, a.len)
        | inr past ↦ absurd (let none : level_of old q ≡ None = get_or_past old q None past in cc)
      ]

  old_rests : (p own : ℕ) → level_of old p ≡ Some (suc own) → Rests needs n new p own
  old_rests p own is = let was = a.rests p own is in record { on = was.on; is = stays was.on own was.is; leads = was.leads }

  pub levels_more : AreLevels needs n (StandsIn (before ++ ring ∷ [])) new
  levels_more = record {
    len = put.len ∙ a.len;
    whole = λ p stands none. elim (stands_cases before ring p stands) [
      | inl was ↦ (let had = has p (level_of old p) refl was in let is = stays p had.0 had.1 in absurd (cc))
      | inr here ↦ (let is = put.set p here (omega (arith, inside p here, a.len)) in absurd (cc))
    ];
    only = λ p own is. elim (put.each p) [
      | inl same ↦ stands_before before ring p (a.only p own (sym same ∙ is))
      | inr here ↦ stands_last before ring p here.listed
    ];
    falls = λ p q own is link. elim (put.each p) [
      | inl same ↦ old_falls p q own (sym same ∙ is) link
      | inr here ↦ ring_falls p q own is here.listed link
    ];
    rests = λ p own is. elim (put.each p) [
      | inl same ↦ old_rests p own (sym same ∙ is)
      | inr here ↦ ring_rests p own is here.listed
    ];
  }

-- ---- how many there are

pub record IsCountBelow (levels : List (Option ℕ)) (i count : ℕ) : Type 0 where
  pub above : (p level : ℕ) → p < i → level_of levels p ≡ Some level → level < count
  pub last : (count ≡ 0) ⊎ HasLast levels count

pub count_begun : (levels : List (Option ℕ)) → IsCountBelow levels 0 0
count_begun levels = record { above = λ p level inside is. absurd (omega arith); last = inl refl }

module _ (levels : List (Option ℕ)) (i count : ℕ) (was : IsCountBelow levels i count) where
  kept_count : (next : ℕ) → next ≡ count → ((level : ℕ) → level_of levels i ≡ Some level → level < count) → IsCountBelow levels (i + 1) next
  kept_count next same here =
      let P : ℕ → Type 0 = λ l. IsCountBelow levels (i + 1) l in
      subst P (sym same) (record {
        above = λ p level inside is. elim (cases_lt p i) [
          | inl before ↦ was.above p level before is
          | inr after ↦ (let e : p ≡ i = omega arith in let Q : ℕ → Type 0 = λ k. level_of levels k ≡ Some level in here level (subst Q e is))
        ];
        last = was.last;
      })

  more_count : (next own : ℕ) → next ≡ own + 1 → count ≤ own + 1 → level_of levels i ≡ Some own → IsCountBelow levels (i + 1) next
  more_count next own same less is = record {
    above = λ p level inside e. elim (cases_lt p i) [
      | inl before ↦ (let low : level < count = was.above p level before e in omega arith)
      | inr after ↦
          (let here : p ≡ i = omega arith in
          let Q : ℕ → Type 0 = λ k. level_of levels k ≡ Some level in
          let both : Some own ≡ Some level = sym is ∙ subst Q here e in
          let one : own ≡ level = cc in
          omega arith)
    ];
    last = inr (record { node = i; last = own; is = is; next = omega arith });
  }

  count_by : (o : Option ℕ) → level_of levels i ≡ o → IsCountBelow levels (i + 1) (raise count o)
  count_by None e = kept_count count refl (λ level is. absurd (cc))
  count_by (Some own) e = elim (max_is count (own + 1)) [
    | inl kept ↦ kept_count (max count (own + 1)) kept.0 (λ other is. let one : own ≡ other = cc in let low = kept.1 in omega arith)
    | inr more ↦ more_count (max count (own + 1)) own more.0 more.1 e
  ]

  pub count_more : (next : ℕ) → next ≡ raise count (level_of levels i) → IsCountBelow levels (i + 1) next
  count_more next same = let P : ℕ → Type 0 = λ l. IsCountBelow levels (i + 1) l in subst P (sym same) (count_by (level_of levels i) refl)

pub counted : (levels : List (Option ℕ)) (i count : ℕ) → i ≡ length levels → IsCountBelow levels i count → AreCounted levels count
counted levels i count end was = record {
  above = λ p level is. elim (cases_lt p i) [
    | inl inside ↦ was.above p level inside is
    | inr past ↦ absurd (let none : level_of levels p ≡ None = get_or_past levels p None (omega arith) in cc)
  ];
  last = was.last;
}

-- ---- all rings

-- each ring comes next after those before it
pub ring_next : (needs : List (List ℕ)) (n : ℕ) (before rings : List (List ℕ)) (i : ℕ) → AreRingsAfter needs n before rings → i < length rings → IsNextRing needs n (before ++ take i rings) (get_or rings i [])
ring_next needs n before [] i after inside = absurd (omega arith)
ring_next needs n before (ring ∷ rings) zero after inside =
    let P : List (List ℕ) → Type 0 = λ l. IsNextRing needs n l ring in
    let e : before ++ [] ≡ before = grind (arith, common_steps) in
    subst P (sym e) after.0
ring_next needs n before (ring ∷ rings) (suc i) after inside =
    let P : List (List ℕ) → Type 0 = λ l. IsNextRing needs n l (get_or rings i []) in
    subst P (append_assoc before (ring ∷ []) (take i rings)) (ring_next needs n (before ++ ring ∷ []) rings i after.1 (omega arith))

-- before any ring no node has a level
pub levels_begun : (needs : List (List ℕ)) (levels : List (Option ℕ)) → ((p : ℕ) → level_of levels p ≡ None) → AreLevels needs (length levels) (StandsIn []) levels
levels_begun needs levels none = record {
  len = refl;
  whole = λ p stands e. none_in stands.step stands.listed;
  only = λ p level is. absurd (let off = none p in cc);
  falls = λ p q level is link. absurd (let off = none p in cc);
  rests = λ p level is. absurd (let off = none p in cc);
}

-- one ring more of all
pub next_levels : (needs : List (List ℕ)) (n : ℕ) (rings : List (List ℕ)) (i level : ℕ) (old new : List (Option ℕ)) → i < length rings
    → AreRingsAfter needs n [] rings → ((p : ℕ) → StandsIn rings p → p < n) → AreLevels needs n (StandsIn (take i rings)) old → IsLevelOf needs old (get_or rings i []) level → AreLevelled (get_or rings i []) level old new
    → AreLevels needs n (StandsIn (take (i + 1) rings)) new
next_levels needs n rings i level old new inside after all a of put =
    read_more (λ l. AreLevels needs n (StandsIn l) new) rings i [] inside
    (levels_more needs n (take i rings) (get_or rings i []) level old new a (ring_next needs n [] rings i after inside)
    (λ p listed. all p (record { step = get_or rings i []; listed = Contains-get_or rings i [] inside; member = listed })) of put)

pub next_below : (nodes : List ℕ) (i level : ℕ) (old new : List (Option ℕ)) → AreLevelsBelow old i → level ≤ i → AreLevelled nodes level old new → AreLevelsBelow new (i + 1)
next_below nodes i level old new below at_most put p own is = elim (put.each p) [
  | inl same ↦ (let low : own < i = below p own (sym same ∙ is) in omega arith)
  | inr here ↦ (let both : Some own ≡ Some level = sym is ∙ here.is in let e : own ≡ level = cc in omega arith)
]
