-- The search for sources.
use Rattle.std.proofs.Common.{◌≡◌, ◌≢◌, ℕ, ◌+◌, ◌*◌, ◌<◌, ◌≤◌, ◌⊎◌, List, [], ◌∷◌, ◌++◌, true, false, Option, Some, None, length, get_or, set, refl, sym, ap, ◌∙◌, subst, inl, inr, arith}
use Rattle.std.specs.Prelude.{is_none, is_some, if◌then◌else◌}
use Rattle.std.specs.List.{Contains}
use Rattle.std.proofs.lemmas.Bool.{cases_eq}
use Rattle.std.proofs.lemmas.List.{get_or-set_same, get_or-set_other}
use Rattle.std.proofs.lemmas.List.Elements.{Contains-append_left, Contains-push, Contains-push_cases}
use Rattle.std.proofs.lemmas.List.Sums.{sum_by-set}
use Rattle.std.proofs.lemmas.Grind.{common_steps}
use Rattle.requisites.specs.Sources.{source_of, HasSource}
use Rattle.requisites.specs.Leads.{Leads}
use Rattle.requisites.specs.Nodes.{Links, row}
use Rattle.requisites.specs.Spread.{AreClosed, AreReached, IsTaken, SourcesSpread, SourcesTaken, sourceless}
use Rattle.requisites.proofs.LeadsFacts.{leads_itself, leads_more}

-- what is read after a source was set
set_cases : (xs : List (Option ℕ)) (p q : ℕ) (v : Option ℕ) → p < length xs → ((p ≡ q) × (source_of (set xs p v) q ≡ v)) ⊎ ((q ≢ p) × (source_of (set xs p v) q ≡ source_of xs q))
set_cases xs p q v h = elim (cases_eq p q) [
  | inl e ↦ inl (e, (let P : ℕ → Type 0 = λ k. source_of (set xs p v) k ≡ v in subst P e (get_or-set_same xs p v None h)))
  | inr ne ↦ let other : q ≢ p = λ e. ne (sym e) in inr (other, get_or-set_other xs p q v None other)
]

-- nothing is taken
pub taken_none : (s : ℕ) (old : List (Option ℕ)) (work : List ℕ) → SourcesTaken [] s old old work work
taken_none s old work = record {
  len = refl;
  stays = λ q t e. e;
  row_taken = λ q inside h. absurd (omega (arith, inside.1));
  taken = λ q t e. inl e;
  work_stays = λ q inside. inside;
  work_new = λ q inside. inl inside;
  grows = omega arith;
  count = refl;
}

pub in_one : (p q : ℕ) → Contains (p ∷ []) q → p ≡ q
in_one p q inside =
    elim (Contains-push_cases [] p q inside) [ inl none ↦ absurd (omega (arith, none.1)) | inr e ↦ e ]

pub none_from_test : {X : Type 0} (o : Option X) → is_some o ≡ false → o ≡ None
none_from_test None e = refl
none_from_test (Some t) e = absurd (cc)

-- a node whose source was found
pub some_from_test : (sources : List (Option ℕ)) (q : ℕ) (o : Option ℕ) → source_of sources q ≡ o → is_some o ≡ true → HasSource sources q
some_from_test sources q None is e = absurd (cc)
some_from_test sources q (Some t) is e = record { source = t; is = is }

pub none≢some : {X : Type 0} (o : Option X) (t : X) → o ≡ None → o ≡ Some t → ⊥
none≢some o t a b = cc

-- a node that had no source takes s
pub taken_put : (s p : ℕ) (old : List (Option ℕ)) (work : List ℕ) → p < length old → source_of old p ≡ None → SourcesTaken (p ∷ []) s old (set old p (Some s)) work (work ++ p ∷ [])
taken_put s p old work h none = record {
  len = grind (arith, common_steps);
  stays = λ q t e. elim (set_cases old p q (Some s) h) [
    | inl same ↦ absurd (let there : source_of old p ≡ Some t = (let P : ℕ → Type 0 = λ k. source_of old k ≡ Some t in subst P (sym same.0) e) in none≢some (source_of old p) t none there)
    | inr other ↦ other.1 ∙ e
  ];
  row_taken = λ q inside g. record { source = s; is = (let P : ℕ → Type 0 = λ k. source_of (set old p (Some s)) k ≡ Some s in subst P (in_one p q inside) (get_or-set_same old p (Some s) None h)) };
  taken = λ q t e. elim (set_cases old p q (Some s) h) [
    | inl same ↦ inr (record {
      source = (let u : Some t ≡ Some s = sym e ∙ same.1 in cc);
      in_row = (let P : ℕ → Type 0 = λ k. Contains (p ∷ []) k in subst P same.0 (Contains-push [] p));
      index = (let P : ℕ → Type 0 = λ k. k < length old in subst P same.0 h);
      before = (let P : ℕ → Type 0 = λ k. source_of old k ≡ None in subst P same.0 none);
      put = (let P : ℕ → Type 0 = λ k. Contains (work ++ p ∷ []) k in subst P same.0 (Contains-push work p));
    })
    | inr other ↦ inl (sym other.1 ∙ e)
  ];
  work_stays = λ q inside. Contains-append_left work (p ∷ []) q inside;
  work_new = λ q inside. elim (Contains-push_cases work p q inside) [
    | inl was ↦ inl was
    | inr same ↦ inr (record {
      source = refl;
      in_row = (let P : ℕ → Type 0 = λ k. Contains (p ∷ []) k in subst P same (Contains-push [] p));
      index = (let P : ℕ → Type 0 = λ k. k < length old in subst P same h);
      before = (let P : ℕ → Type 0 = λ k. source_of old k ≡ None in subst P same none);
      put = inside;
    })
  ];
  grows = grind (arith, common_steps);
  count = taken_count s p old work h none;
} where
  taken_count : (s p : ℕ) (old : List (Option ℕ)) (work : List ℕ) → p < length old → source_of old p ≡ None → length (work ++ p ∷ []) + sourceless (set old p (Some s)) ≡ length work + sourceless old
  taken_count s p old work h none =
      let weight : Option ℕ → ℕ = λ o. if is_none o then 1 else 0 in
      let one : weight (get_or old p None) ≡ 1 = ap weight none in
      let sums : sourceless (set old p (Some s)) + weight (get_or old p None) ≡ sourceless old + 0 = sum_by-set weight old p (Some s) None h in
      let longer : length (work ++ p ∷ []) ≡ length work + 1 = grind (arith, common_steps) in
      omega arith

-- what has no source had none
none_before : (old mid : List (Option ℕ)) → ((q t : ℕ) → source_of old q ≡ Some t → source_of mid q ≡ Some t) → (q : ℕ) → source_of mid q ≡ None → (o : Option ℕ) → source_of old q ≡ o → o ≡ None
none_before old mid stays q none None e = refl
none_before old mid stays q none (Some t) e = absurd (none≢some (source_of mid q) t none (stays q t e))

-- a node that has a source, or is none, takes nothing
pub taken_skip : (s p : ℕ) (old : List (Option ℕ)) (work : List ℕ) → (p < length old → HasSource old p) → SourcesTaken (p ∷ []) s old old work work
taken_skip s p old work had = record {
  len = refl;
  stays = λ q t e. e;
  row_taken = λ q inside h. (let same : p ≡ q = in_one p q inside in let P : ℕ → Type 0 = λ k. k < length old → HasSource old k in subst P same had h);
  taken = λ q t e. inl e;
  work_stays = λ q inside. inside;
  work_new = λ q inside. inl inside;
  grows = omega arith;
  count = refl;
}

-- a row, and then one more node
pub taken_more : (row : List ℕ) (s p : ℕ) (old mid new : List (Option ℕ)) (w wm w' : List ℕ) → SourcesTaken row s old mid w wm → SourcesTaken (p ∷ []) s mid new wm w' → SourcesTaken (row ++ p ∷ []) s old new w w'
taken_more row s p old mid new w wm w' a b = record {
  len = b.len ∙ a.len;
  stays = λ q t e. b.stays q t (a.stays q t e);
  row_taken = λ q inside h. elim (Contains-push_cases row p q inside) [
    | inl was ↦ (let had = a.row_taken q was h in record { source = had.source; is = b.stays q had.source had.is })
    | inr same ↦ b.row_taken q (let P : ℕ → Type 0 = λ k. Contains (p ∷ []) k in subst P same (Contains-push [] p)) (omega (arith, a.len))
  ];
  taken = λ q t e. elim (b.taken q t e) [
    | inl was ↦ elim (a.taken q t was) [
      | inl older ↦ inl older
      | inr taken ↦ inr (wider q t taken (b.work_stays q taken.put))
    ]
    | inr taken ↦ inr (later q t taken)
  ];
  work_stays = λ q inside. b.work_stays q (a.work_stays q inside);
  work_new = λ q inside. elim (b.work_new q inside) [
    | inl was ↦ elim (a.work_new q was) [
      | inl older ↦ inl older
      | inr taken ↦ inr (wider q s taken inside)
    ]
    | inr taken ↦ inr (later q s taken)
  ];
  grows = omega (arith, a.grows, b.grows);
  count = omega (arith, a.count, b.count);
} where
  wider : (q t : ℕ) → IsTaken row s old wm q t → Contains w' q → IsTaken (row ++ p ∷ []) s old w' q t
  wider q t taken put = record { source = taken.source; in_row = Contains-append_left row (p ∷ []) q taken.in_row; index = taken.index; before = taken.before; put = put }

  later : (q t : ℕ) → IsTaken (p ∷ []) s mid w' q t → IsTaken (row ++ p ∷ []) s old w' q t
  later q t taken = record {
    source = taken.source;
    in_row = (let P : ℕ → Type 0 = λ k. Contains (row ++ p ∷ []) k in subst P (in_one p q taken.in_row) (Contains-push row p));
    index = omega (arith, taken.index, a.len);
    before = none_before old mid a.stays q taken.before (source_of old q) refl;
    put = taken.put;
  }

-- what holds while sources are spread from s
pub record IsSpreading (lists : List (List ℕ)) (s : ℕ) (old new : List (Option ℕ)) (work : List ℕ) : Type 0 where
  pub spread : SourcesSpread lists s old new
  pub closed : AreClosed lists new work
  pub reached : AreReached lists (length old) s work

-- a source found later was there before, or was taken
had_before : (row : List ℕ) (s p : ℕ) (old new : List (Option ℕ)) (w work : List ℕ) → SourcesTaken row s old new w work → HasSource new p → HasSource old p ⊎ Contains work p
had_before row s p old new w work taken had =
    elim (taken.taken p had.source had.is) [
      | inl was ↦ inl (record { source = had.source; is = was })
      | inr new ↦ inr new.put
    ]

still_had : (row : List ℕ) (s p : ℕ) (old new : List (Option ℕ)) (w work : List ℕ) → SourcesTaken row s old new w work → HasSource old p → HasSource new p
still_had row s p old new w work taken had = record { source = had.source; is = taken.stays p had.source had.is }

same_links : (lists : List (List ℕ)) (m n p q : ℕ) → m ≡ n → Links lists m p q → Links lists n p q
same_links lists m n p q e link = record { listed = link.listed; index = omega (arith, link.index) }

-- the start has a source, and is worked on where it had none
pub spreading_begins : (lists : List (List ℕ)) (s : ℕ) (old new : List (Option ℕ)) (work : List ℕ) → AreClosed lists old [] → SourcesTaken (s ∷ []) s old new [] work → IsSpreading lists s old new work
spreading_begins lists s old new work closed taken = record {
  spread = record {
    len = taken.len;
    stays = taken.stays;
    begun = taken.row_taken s (Contains-push [] s);
    spread = λ q t e. elim (taken.taken q t e) [
      | inl was ↦ inl was
      | inr new ↦ inr (record { source = new.source; leads = from_start q (in_one s q new.in_row); before = new.before })
    ];
  };
  closed = record {
    closed = λ p q had link. elim (had_before (s ∷ []) s p old new [] work taken had) [
      | inl was ↦ elim (closed.closed p q was (same_links lists (length new) (length old) p q taken.len link)) [
        | inl has ↦ inl (still_had (s ∷ []) s q old new [] work taken has)
        | inr none ↦ absurd (omega (arith, none.1))
      ]
      | inr put ↦ inr put
    ];
  };
  reached = record {
    reached = λ q inside. elim (taken.work_new q inside) [
      | inl none ↦ absurd (omega (arith, none.1))
      | inr new ↦ from_start q (in_one s q new.in_row)
    ];
  };
} where
  from_start : (q : ℕ) → s ≡ q → Leads (Links lists (length old)) s q
  from_start q same = let P : ℕ → Type 0 = λ k. Leads (Links lists (length old)) s k in subst P same (leads_itself (Links lists (length old)) s)

-- one node of the work is done
pub spreading_more : (lists : List (List ℕ)) (s p : ℕ) (old mid new : List (Option ℕ)) (rest work : List ℕ) → IsSpreading lists s old mid (rest ++ p ∷ []) → SourcesTaken (row lists p) s mid new rest work → IsSpreading lists s old new work
spreading_more lists s p old mid new rest work a taken = record {
  spread = record {
    len = taken.len ∙ a.spread.len;
    stays = λ q t e. taken.stays q t (a.spread.stays q t e);
    begun = λ h. still_had (row lists p) s s mid new rest work taken (a.spread.begun h);
    spread = λ q t e. elim (taken.taken q t e) [
      | inl was ↦ a.spread.spread q t was
      | inr new ↦ inr (record { source = new.source; leads = onward q new; before = none_before old mid a.spread.stays q new.before (source_of old q) refl })
    ];
  };
  closed = record {
    closed = λ u q had link. elim (had_before (row lists p) s u mid new rest work taken had) [
      | inl was ↦ elim (a.closed.closed u q was (same_links lists (length new) (length mid) u q taken.len link)) [
        | inl has ↦ inl (still_had (row lists p) s q mid new rest work taken has)
        | inr before ↦ elim (Contains-push_cases rest p u before) [
          | inl inside ↦ inr (taken.work_stays u inside)
          | inr same ↦ inl (taken.row_taken q (let P : ℕ → Type 0 = λ k. Contains (row lists k) q in subst P (sym same) link.listed) (omega (arith, link.index, taken.len)))
        ]
      ]
      | inr put ↦ inr put
    ];
  };
  reached = record {
    reached = λ q inside. elim (taken.work_new q inside) [
      | inl before ↦ a.reached.reached q (Contains-append_left rest (p ∷ []) q before)
      | inr new ↦ onward q new
    ];
  };
} where
  onward : (q : ℕ) {t : ℕ} → IsTaken (row lists p) s mid work q t → Leads (Links lists (length old)) s q
  onward q new = leads_more (a.reached.reached p (Contains-push rest p)) (record { listed = new.in_row; index = omega (arith, new.index, a.spread.len) })

-- the same, of work that is known to be none
pub spreading_starts : (lists : List (List ℕ)) (s : ℕ) (old new : List (Option ℕ)) (w work : List ℕ) → w ≡ [] → AreClosed lists old w → SourcesTaken (s ∷ []) s old new w work → IsSpreading lists s old new work
spreading_starts lists s old new w work idle closed taken =
    spreading_begins lists s old new work
    (let P : List ℕ → Type 0 = λ u. AreClosed lists old u in subst P idle closed)
    (let P : List ℕ → Type 0 = λ u. SourcesTaken (s ∷ []) s old new u work in subst P idle taken)

-- the same, of work that is known to end with p
pub spreading_steps : (lists : List (List ℕ)) (s p : ℕ) (old mid new : List (Option ℕ)) (indices before rest work : List ℕ) → IsSpreading lists s old mid before → before ≡ rest ++ p ∷ [] → indices ≡ row lists p → SourcesTaken indices s mid new rest work → IsSpreading lists s old new work
spreading_steps lists s p old mid new indices before rest work a is_before is_row taken =
    spreading_more lists s p old mid new rest work
    (let P : List ℕ → Type 0 = λ u. IsSpreading lists s old mid u in subst P is_before a)
    (let P : List ℕ → Type 0 = λ u. SourcesTaken u s mid new rest work in subst P is_row taken)

pub work_falls : (before after work rest next : ℕ) → rest ≤ next → next + after ≡ rest + before → rest + 1 ≡ work → 2 * after + next < 2 * before + work
work_falls before after work rest next g e f = omega arith
