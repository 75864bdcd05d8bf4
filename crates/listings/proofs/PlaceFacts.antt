-- Where each id of one list stands in another, by one merge of both.
use Rattle.std.proofs.Common.{◌≡◌, ◌∙◌, ℕ, ◌+◌, ◌<◌, ◌≤◌, List, [], ◌∷◌, ◌++◌, length, get_or, Option, Some, None, refl, sym, ap, subst, take, inl, inr, arith}
use Rattle.std.specs.List.{Contains, cons_option, filter_map}
use Rattle.std.specs.declared.cmp.Ordering.TheVariants.{Less}
use Rattle.std.proofs.lemmas.Bool.{cases_lt}
use Rattle.std.proofs.lemmas.List.{take_more}
use Rattle.lemmas.proofs.ListFacts.{filter_map_push, made_from, map_found}
use Rattle.catalogue.specs.Ids.{Ascend, id_cmp}
use Rattle.catalogue.proofs.IdFacts.{ids_total}
use Rattle.verdicts.specs.Indices.{id_at, AreIndicesOf, IsAt}
use Rattle.listings.specs.Places.{AreLesser, ArePlaces, IsPlace, place_at}
use Rattle.verdicts.proofs.IndexFacts.{at_inside, below_at, each_more, inside_at, length-push, one_index}
use Rattle.verdicts.proofs.OrderFacts.{not_below_itself}

-- ---- one place more

pub places_none : (from to : List (List ℕ)) (places : List (Option ℕ)) → places ≡ [] → ArePlaces from to 0 places
places_none from to places is = record { len = ap length is; each = λ p below. absurd (omega (arith, below)) }

pub places_more : (from to : List (List ℕ)) (n : ℕ) (id : List ℕ) (place : Option ℕ) (old new : List (Option ℕ)) → id ≡ id_at from n → IsPlace to id place → ArePlaces from to n old → new ≡ old ++ place ∷ []
    → ArePlaces from to (n + 1) new
places_more from to n id place old new is own are now = record {
  len = ap length now ∙ length-push old place ∙ ap (λ (k : ℕ). k + 1) are.len;
  each = each_more (λ p found. IsPlace to (id_at from p) found) n None old new place are.len are.each
      (let P : List ℕ → Type 0 = λ x. IsPlace to x place in subst P is own) now;
}

-- what is lesser than an id is lesser than the later ones
pub lesser_later : (from to : List (List ℕ)) (index next : ℕ) → Ascend from → AreLesser to next (id_at from index) → (p : ℕ) → index + 1 ≤ p → p < length from → AreLesser to next (id_at from p)
lesser_later from to index next ascend below p later within = λ q before.
    ids_total.trans (id_at to q) (id_at from index) (id_at from p) (below q before) (below_at from index p [] ascend (omega (arith, later)) within)

-- ---- whether an id stands at the one index where it can

pub here_is : (ids : List (List ℕ)) (index : ℕ) (id found : List ℕ) → index < length ids → found ≡ id_at ids index → found ≡ id → IsPlace ids id (Some index)
here_is ids index id found within at same = record { within = within; is = sym at ∙ same }

module _ (ids : List (List ℕ)) (index : ℕ) (id : List ℕ) (ascend : Ascend ids) (below : AreLesser ids index id) (next : index < length ids → id_cmp (id_at ids index) id ≡ Less → ⊥) where
  pub nowhere_past : length ids ≤ index → Contains ids id → ⊥
  nowhere_past past inside =
      let at = inside_at ids id inside in
      let within = at.within in
      let P : List ℕ → Type 0 = λ x. id_cmp x id ≡ Less in
      not_below_itself id (subst P at.is (below at.index (omega (arith, past, within))))

  pub nowhere_else : index < length ids → (id_at ids index ≡ id → ⊥) → Contains ids id → ⊥
  nowhere_else within other inside =
      let at = inside_at ids id inside in
      let there = at.within in
      let P : List ℕ → Type 0 = λ x. id_cmp x id ≡ Less in
      elim (cases_lt at.index index) [
        | inl before ↦ not_below_itself id (subst P at.is (below at.index before))
        | inr from ↦ elim (cases_lt index at.index) [
          | inl after ↦ (let Q : List ℕ → Type 0 = λ x. id_cmp (id_at ids index) x ≡ Less in next within (subst Q at.is (below_at ids index at.index [] ascend after there)))
          | inr to ↦ (let same : at.index ≡ index = omega (arith, from, to) in other (ap (id_at ids) (sym same) ∙ at.is))
        ]
      ]

-- ---- the places of indices

pub moved_more : (places : List (Option ℕ)) (row : List ℕ) (i : ℕ) (place : Option ℕ) (old new : List ℕ) → i < length row → place ≡ place_at places (get_or row i 0)
    → old ≡ filter_map (place_at places) (take i row) → new ≡ old ++ cons_option place [] → new ≡ filter_map (place_at places) (take (i + 1) row)
moved_more places row i place old new below at was now =
    now
    ∙ ap (λ l. l ++ cons_option place []) was
    ∙ ap (λ o. filter_map (place_at places) (take i row) ++ cons_option o []) at
    ∙ filter_map_push (place_at places) (take i row) (get_or row i 0)
    ∙ ap (filter_map (place_at places)) (sym (take_more row i 0 below))

-- where what stands now at an index stood before
record IsMoved (from to : List (List ℕ)) (indices : List ℕ) (q : ℕ) : Type 0 where
  before : ℕ
  listed : Contains indices before
  at : IsAt to (id_at from before) q

pub moved_indices : (from to ids : List (List ℕ)) (places : List (Option ℕ)) (indices : List ℕ) → Ascend to → ArePlaces from to (length from) places → AreIndicesOf from ids indices
    → ((id : List ℕ) → Contains ids id → Contains from id) → AreIndicesOf to ids (filter_map (place_at places) indices)
moved_indices from to ids places indices ascend are of whole = record {
  within = λ q inside. (let here = moved q inside in here.at.within);
  listed = λ q inside. (let here = moved q inside in let P : List ℕ → Type 0 = λ x. Contains ids x in subst P (sym here.at.is) (of.listed here.before here.listed));
  whole = λ q within inside. (
      let at = inside_at from (id_at to q) (whole (id_at to q) inside) in
      let P : List ℕ → Type 0 = λ x. Contains ids x in
      let listed = of.whole at.index at.within (subst P (sym at.is) inside) in
      map_found (place_at places) indices at.index q listed (stands q within at.index at.is (place_at places at.index) refl (are.each at.index at.within)));
} where
  moved : (q : ℕ) → Contains (filter_map (place_at places) indices) q → IsMoved from to indices q
  moved q inside =
      let made = made_from (place_at places) indices q inside in
      let P : Option ℕ → Type 0 = λ place. IsPlace to (id_at from made.from) place in
      record { before = made.from; listed = made.member; at = subst P made.is (are.each made.from (of.within made.from made.member)) }

  stands : (q : ℕ) → q < length to → (p : ℕ) → id_at from p ≡ id_at to q → (place : Option ℕ) → place_at places p ≡ place → IsPlace to (id_at from p) place → place_at places p ≡ Some q
  stands q within p same None e nowhere = (let P : List ℕ → Type 0 = λ x. Contains to x in absurd (nowhere (subst P (sym same) (at_inside to q within))))
  stands q within p same (Some r) e at = e ∙ ap Some (one_index to r q [] ascend at.within within (at.is ∙ same))
