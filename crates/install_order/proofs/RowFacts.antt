-- Nodes that are put to the lists of their levels.
use Rattle.std.proofs.Common.{◌≡◌, ℕ, ◌+◌, ◌<◌, List, [], ◌∷◌, ◌++◌, Option, Some, None, true, false, cond, map, length, get_or, set, refl, sym, ◌∙◌, ap, subst, inl, inr, arith}
use Rattle.std.specs.Global.{Vec}
use Rattle.std.specs.List.{filter, range_with_len}
use Rattle.std.proofs.lemmas.Bool.{cases_eq, cases_lt}
use Rattle.std.proofs.lemmas.Bool.Decides.{nat_tests}
use Rattle.std.proofs.lemmas.Grind.{common_steps}
use Rattle.std.proofs.lemmas.List.{get_or_append_left, get_or_past, get_or_push, get_or-map, get_or-set_same, get_or-set_other, length-append, map-set}
use Rattle.std.proofs.lemmas.List.Elements.{filter-append}
use Rattle.std.proofs.lemmas.List.FromFn.{fill_by_all, map-range_with_len_more}
use Rattle.requisites.specs.Nodes.{row}
use Rattle.install_order.specs.Levels.{AreCounted, AreNodesWith, AreRows, IsPutAt, IsPutBy, has_level, level_of, lists_in, nodes_with}

pub put_is : (lists : List (Vec ℕ)) (level node : ℕ) (own more : Vec ℕ) → level < length lists → more.items ≡ (get_or lists level own).items ++ node ∷ [] → IsPutAt level node (lists_in lists) (lists_in (set lists level more))
put_is lists level node own more inside grown =
    let items : Vec ℕ → List ℕ = λ list. list.items in
    let e : lists_in (set lists level more) ≡ set (lists_in lists) level more.items = map-set items lists level more in
    let P : List (List ℕ) → Type 0 = λ l. IsPutAt level node (lists_in lists) l in
    let was : row (lists_in lists) level ≡ (get_or lists level own).items = get_or-map items lists level own [] inside in
    subst P (sym e) (record {
      put = λ within. get_or-set_same (lists_in lists) level more.items [] within ∙ grown ∙ ap (λ l. l ++ node ∷ []) (sym was);
      others = λ other ne. get_or-set_other (lists_in lists) level other more.items [] ne;
    })

-- a list without nodes more
pub none_more : (lists : List (List ℕ)) → ((level : ℕ) → row lists level ≡ []) → (level : ℕ) → row (lists ++ [] ∷ []) level ≡ []
none_more lists none level = elim (cases_lt level (length lists)) [
  | inl inside ↦ get_or_append_left lists ([] ∷ []) [] level inside ∙ none level
  | inr past ↦ elim (cases_eq level (length lists)) [
    | inl e ↦ get_or_push lists [] [] level (sym e)
    | inr ne ↦ get_or_past (lists ++ [] ∷ []) level [] (omega (arith, length-append lists ([] ∷ [])))
  ]
]

pub lists_push : (lists : List (Vec ℕ)) (own : Vec ℕ) → own.items ≡ [] → lists_in (lists ++ own ∷ []) ≡ lists_in lists ++ [] ∷ []
lists_push [] own e = ap (λ l. l ∷ []) e
lists_push (first ∷ lists) own e = ap (λ l. first.items ∷ l) (lists_push lists own e)

-- one number more in a range
range_more : (i : ℕ) → range_with_len 0 (i + 1) ≡ range_with_len 0 i ++ i ∷ []
range_more i =
    let all : (n : ℕ) → map (λ k. k) (range_with_len 0 n) ≡ range_with_len 0 n = λ n. same (range_with_len 0 n) in
    sym (all (i + 1)) ∙ map-range_with_len_more (λ k. k) 0 i i (omega arith) ∙ ap (λ l. l ++ i ∷ []) (all i)
  where
    same : (xs : List ℕ) → map (λ k. k) xs ≡ xs
    same [] = refl
    same (x ∷ xs) = ap (λ l. x ∷ l) (same xs)

with_more : (levels : List (Option ℕ)) (i level : ℕ) → nodes_with levels (i + 1) level ≡ nodes_with levels i level ++ cond (has_level (level_of levels i) level) (i ∷ []) []
with_more levels i level =
    ap (λ l. filter (λ p. has_level (level_of levels p) level) l) (range_more i) ∙ filter-append (λ p. has_level (level_of levels p) level) (range_with_len 0 i) (i ∷ [])

append_nil : (xs : List ℕ) → xs ++ [] ≡ xs
append_nil xs = grind (arith, common_steps)

module _ (levels : List (Option ℕ)) (i : ℕ) (old new : List (List ℕ)) (len : length new ≡ length old) (was : AreNodesWith levels i old) where
  by_level : (o : Option ℕ) → level_of levels i ≡ o → IsPutBy o i old new → AreNodesWith levels (i + 1) new
  by_level None e same level inside =
      let P : List (List ℕ) → Type 0 = λ l. row l level ≡ nodes_with levels (i + 1) level in
      subst P (sym same)
      (was level (omega arith)
      ∙ sym (append_nil (nodes_with levels i level))
      ∙ ap (λ o. nodes_with levels i level ++ cond (has_level o level) (i ∷ []) []) (sym e)
      ∙ sym (with_more levels i level))
  by_level (Some own) e put level inside = elim (cases_eq level own) [
    | inl here ↦
        (let P : ℕ → Type 0 = λ l. row new l ≡ row old l ++ i ∷ [] in
        let on : has_level (Some own) level ≡ true = (let same : own ≡ level = sym here in grind (arith, nat_tests)) in
        subst P (sym here) (put.put (omega arith))
        ∙ ap (λ l. l ++ i ∷ []) (was level (omega arith))
        ∙ ap (λ b. nodes_with levels i level ++ cond b (i ∷ []) []) (sym on)
        ∙ ap (λ o. nodes_with levels i level ++ cond (has_level o level) (i ∷ []) []) (sym e)
        ∙ sym (with_more levels i level))
    | inr other ↦
        (let off : has_level (Some own) level ≡ false = grind (arith, nat_tests) in
        put.others level other
        ∙ was level (omega arith)
        ∙ sym (append_nil (nodes_with levels i level))
        ∙ ap (λ b. nodes_with levels i level ++ cond b (i ∷ []) []) (sym off)
        ∙ ap (λ o. nodes_with levels i level ++ cond (has_level o level) (i ∷ []) []) (sym e)
        ∙ sym (with_more levels i level))
  ]

  pub one_more_put : IsPutBy (level_of levels i) i old new → AreNodesWith levels (i + 1) new
  one_more_put put = by_level (level_of levels i) refl put

pub lists_len : (lists : List (Vec ℕ)) → length (lists_in lists) ≡ length lists
lists_len lists = grind (arith, common_steps)

pub rows_are : (levels : List (Option ℕ)) (count : ℕ) (rows : List (List ℕ)) → AreCounted levels count → length rows ≡ count → AreNodesWith levels (length levels) rows → AreRows levels rows
rows_are levels count rows counted len each = record {
  count = count;
  counted = counted;
  are = fill_by_all (nodes_with levels (length levels)) rows count [] len (λ k inside. each k (omega arith));
}
