-- Outside the ids that a publication touches all stays as it was.
use Rattle.std.proofs.Common.{◌≡◌, ℕ, Bool, true, false, ◌||◌, ◌==◌, cond, List, [], ◌∷◌, ◌++◌, refl, sym, ◌∙◌, ap, subst}
use Rattle.std.specs.Prelude.{filter, map, Contains, Option, Some, None}
use Rattle.std.specs.List.{list_any, flat_map, AllByRecursion}
use Rattle.std.specs.List.Sorted.{IsStrictlySortedBy}
use Rattle.std.specs.Option.{option_or}
use Rattle.std.specs.declared.cmp.Ordering.{Ordering}
use Rattle.std.specs.declared.cmp.Ordering.TheVariants.{Less, Equal, Greater}
use Rattle.std.proofs.lemmas.List.Folds.{list_any-append}
use Rattle.std.proofs.lemmas.Map.Views.{Contains-from_any}
use Rattle.holddata.specs.declared.key.HoldKey.{HoldKey}
use Rattle.holddata.specs.declared.key.Kind.{Kind}
use Rattle.holddata.specs.declared.key.Kind.TheVariants.{ErrorHold, SystemHold, UserHold, FixcatHold}
use Rattle.holddata.specs.declared.hold.Hold.{Hold}
use Rattle.holddata.specs.HoldKey.{is_same_key, kind_order}
use Rattle.holddata.specs.HoldChange.{key_of, names, hold_left}
use Rattle.holddata.specs.HoldBook.{hold_under, IsInKeyOrder}
use Rattle.holddata.proofs.BookFacts.{same_book}
use Rattle.holddata.proofs.KeyFacts.{same_key}
use Rattle.catalogue.specs.declared.sysmod.Sysmod.{Sysmod}
use Rattle.catalogue.specs.declared.change.Change.{Change}
use Rattle.catalogue.specs.declared.change.Change.TheVariants.{Whole, OfHold}
use Rattle.catalogue.specs.Changes.{records_in, hold_changes_in}
use Rattle.catalogue.specs.Content.{Content, IsInOrder, holds_on, is_of, error_reasons, record_of, sup_names, superseders}
use Rattle.catalogue.specs.Ids.{id_cmp, same_id, Ascend}
use Rattle.catalogue.specs.Publication.{last_of, after}
use Rattle.catalogue.specs.Touched.{TouchesAll, sup_of, touched_by, touched_by_key, touched_ids}
use Rattle.catalogue.proofs.BookFacts.{filtered_in_order}
use Rattle.catalogue.proofs.IdFacts.{all_below, apart, exact_ids, in_order_any, itself, one_id, same_back, turned}
use Rattle.catalogue.proofs.PublicationFacts.{after_in_order, after_is}
use Rattle.catalogue.proofs.RecordFacts.{filtered_ascend, last_append, none_last}
use Rattle.catalogue.proofs.SupersedeFacts.{any_passes, passes}

-- ---- where an id is not

left_false : (a b : Bool) → (a || b) ≡ false → a ≡ false
left_false true b h = h
left_false false b h = refl

right_false : (a b : Bool) → (a || b) ≡ false → b ≡ false
right_false true b h = cc
right_false false b h = h

left_of : (id : List ℕ) (xs ys : List (List ℕ)) → list_any (same_id id) (xs ++ ys) ≡ false → list_any (same_id id) xs ≡ false
left_of id xs ys h = left_false (list_any (same_id id) xs) (list_any (same_id id) ys) (sym (list_any-append (same_id id) xs ys) ∙ h)

right_of : (id : List ℕ) (xs ys : List (List ℕ)) → list_any (same_id id) (xs ++ ys) ≡ false → list_any (same_id id) ys ≡ false
right_of id xs ys h = right_false (list_any (same_id id) xs) (list_any (same_id id) ys) (sym (list_any-append (same_id id) xs ys) ∙ h)

-- no change touches an id
abbrev IsApart : Content → List Change → List ℕ → Type 0
IsApart content changes id = list_any (same_id id) (flat_map (touched_by content) changes) ≡ false

apart_from : (content : Content) (changes : List Change) (id : List ℕ) → (Contains (touched_ids content changes) id → ⊥) → IsApart content changes id
apart_from content changes id out = by (list_any (same_id id) (flat_map (touched_by content) changes)) refl
  where
    by : (b : Bool) → list_any (same_id id) (flat_map (touched_by content) changes) ≡ b → b ≡ false
    by true is = absurd (out (Contains-from_any {eq = same_id} one_id id (touched_ids content changes) (in_order_any (same_id id) (flat_map (touched_by content) changes) ∙ is)))
    by false is = refl

-- ---- its record

none_published : (content : Content) (changes : List Change) (id : List ℕ) → IsApart content changes id → list_any (is_of id) (records_in changes) ≡ false
none_published content [] id h = refl
none_published content (Whole sysmod ∷ changes) id h =
    let now : List (List ℕ) = touched_by content (Whole sysmod) in
    let rest : List (List ℕ) = flat_map (touched_by content) changes in
    let named : List (List ℕ) = sup_of (record_of content sysmod.id) ++ sysmod.sup in
    ap (λ b. b || list_any (is_of id) (records_in changes)) (same_back sysmod.id id ∙ left_false (same_id id sysmod.id) (list_any (same_id id) named) (left_of id now rest h))
    ∙ none_published content changes id (right_of id now rest h)
none_published content (OfHold change ∷ changes) id h =
    none_published content changes id (right_of id (touched_by content (OfHold change)) (flat_map (touched_by content) changes) h)

same_record : (content : Content) (changes : List Change) (id : List ℕ) → IsInOrder content → IsApart content changes id → record_of (after content changes) id ≡ record_of content id
same_record content changes id ordered h =
    (after_is content changes ordered).records id
    ∙ ap (λ o. option_or o (record_of content id)) (none_last (records_in changes) id (none_published content changes id h))

-- ---- what supersedes it

-- SUP of a record that is published doesn't name the id, neither before nor now
IsUnnamed : Content → List ℕ → Sysmod → Type 0
IsUnnamed content id sysmod = (sup_names id sysmod ≡ false) × (list_any (same_id id) (sup_of (record_of content sysmod.id)) ≡ false)

unnamed : (content : Content) (changes : List Change) (id : List ℕ) → IsApart content changes id → AllByRecursion (IsUnnamed content id) (records_in changes)
unfolding IsUnnamed
unnamed content [] id h = tt
unnamed content (Whole sysmod ∷ changes) id h =
    let now : List (List ℕ) = touched_by content (Whole sysmod) in
    let rest : List (List ℕ) = flat_map (touched_by content) changes in
    let before : List (List ℕ) = sup_of (record_of content sysmod.id) in
    let named = right_false (same_id id sysmod.id) (list_any (same_id id) (before ++ sysmod.sup)) (left_of id now rest h) in
    ((right_of id before sysmod.sup named, left_of id before sysmod.sup named), unnamed content changes id (right_of id now rest h))
unnamed content (OfHold change ∷ changes) id h =
    unnamed content changes id (right_of id (touched_by content (OfHold change)) (flat_map (touched_by content) changes) h)

last_has : (P : Sysmod → Type 0) (xs : List Sysmod) (id : List ℕ) (sysmod : Sysmod) → AllByRecursion P xs → last_of xs id ≡ Some sysmod → P sysmod × (sysmod.id ≡ id)
last_has P [] id sysmod all h = let e : None ≡ Some sysmod = h in absurd (none_some e)
  where
    none_some : None ≡ Some sysmod → ⊥
    none_some e = cc
last_has P (x ∷ xs) id sysmod all h = by (last_of xs id) refl (last_has P xs id sysmod all.1) (sym (last_append (x ∷ []) xs id) ∙ h)
  where
    alone : (b : Bool) → same_id x.id id ≡ b → cond b (Some x) None ≡ Some sysmod → P sysmod × (sysmod.id ≡ id)
    alone true at e = let same : x ≡ sysmod = cc in (subst P same all.0, ap (λ (z : Sysmod). z.id) (sym same) ∙ one_id x.id id at)
    alone false at e = absurd (none_some e)
      where
        none_some : None ≡ Some sysmod → ⊥
        none_some e = cc

    by : (o : Option Sysmod) → last_of xs id ≡ o → (last_of xs id ≡ Some sysmod → P sysmod × (sysmod.id ≡ id)) → option_or o (cond (same_id x.id id) (Some x) None) ≡ Some sysmod → P sysmod × (sysmod.id ≡ id)
    by (Some y) is rest e = rest (is ∙ e)
    by None is rest e = alone (same_id x.id id) refl e

sup_passes_not : (id : List ℕ) (o : Option Sysmod) → list_any (same_id id) (sup_of o) ≡ false → passes (sup_names id) o ≡ false
unfolding passes
sup_passes_not id None h = refl
sup_passes_not id (Some x) h = h

same_passes : (content : Content) (changes : List Change) (id : List ℕ) → IsApart content changes id → (other : List ℕ) (o : Option Sysmod) → last_of (records_in changes) other ≡ o
    → passes (sup_names id) (option_or o (record_of content other)) ≡ passes (sup_names id) (record_of content other)
unfolding passes IsUnnamed
same_passes content changes id h other None is = refl
same_passes content changes id h other (Some sysmod) is =
    let of_it = last_has (IsUnnamed content id) (records_in changes) other sysmod (unnamed content changes id h) is in
    of_it.0.0
    ∙ sym (sup_passes_not id (record_of content other) (subst (λ i. list_any (same_id id) (sup_of (record_of content i)) ≡ false) of_it.1 of_it.0.1))

none_in : (id : List ℕ) (ids : List (List ℕ)) → AllByRecursion (λ y. id_cmp id y ≡ Less) ids → list_any (same_id id) ids ≡ false
none_in id [] h = refl
none_in id (x ∷ ids) h = ap (λ b. b || list_any (same_id id) ids) (apart id x h.0) ∙ none_in id ids h.1

head_in : (id : List ℕ) (ids : List (List ℕ)) → list_any (same_id id) (id ∷ ids) ≡ true
head_in id ids = ap (λ b. b || list_any (same_id id) ids) (itself id)

-- ids in order in which the same ids stand are the same
same_ids : (a b : List (List ℕ)) → Ascend a → Ascend b → ((id : List ℕ) → list_any (same_id id) a ≡ list_any (same_id id) b) → a ≡ b
unfolding IsStrictlySortedBy
same_ids [] [] s t h = refl
same_ids [] (y ∷ b) s t h = let e : false ≡ true = h y ∙ head_in y b in cc
same_ids (x ∷ a) [] s t h = let e : true ≡ false = sym (head_in x a) ∙ h x in cc
same_ids (x ∷ a) (y ∷ b) s t h = by (id_cmp x y) refl (same_ids a b s.1 t.1)
  where
    below : (u v : List ℕ) (us vs : List (List ℕ)) → id_cmp u v ≡ Less → AllByRecursion (λ k. id_cmp v k ≡ Less) vs → list_any (same_id u) (u ∷ us) ≡ list_any (same_id u) (v ∷ vs) → ⊥
    below u v us vs less rest e =
        let none : list_any (same_id u) (v ∷ vs) ≡ false = none_in u (v ∷ vs) (less, all_below u v vs less rest) in
        let f : true ≡ false = sym (head_in u us) ∙ e ∙ none in cc

    tails : x ≡ y → (id : List ℕ) (o : Bool) → same_id id x ≡ o → list_any (same_id id) a ≡ list_any (same_id id) b
    tails e id true at =
        let k : id ≡ x = one_id id x at in
        ap (λ i. list_any (same_id i) a) k ∙ none_in x a s.0
        ∙ sym (ap (λ i. list_any (same_id i) b) (k ∙ e) ∙ none_in y b t.0)
    tails e id false at =
        ap (λ o. o || list_any (same_id id) a) (sym at) ∙ h id
        ∙ ap (λ o. o || list_any (same_id id) b) (ap (same_id id) (sym e) ∙ at)

    by : (o : Ordering) → id_cmp x y ≡ o → (((id : List ℕ) → list_any (same_id id) a ≡ list_any (same_id id) b) → a ≡ b) → x ∷ a ≡ y ∷ b
    by Less is rest = absurd (below x y a b is t.0 (h x))
    by Greater is rest = absurd (below y x b a (turned x y is) s.0 (sym (h y)))
    by Equal is rest =
        let e : x ≡ y = exact_ids x y is in
        let f : a ≡ b = rest (λ id. tails e id (same_id id x) refl) in cc

same_superseders : (content : Content) (changes : List Change) (id : List ℕ) → IsInOrder content → IsApart content changes id → superseders (after content changes) id ≡ superseders content id
same_superseders content changes id ordered h =
    let new = after content changes in
    let new_order = after_in_order content changes in
    same_ids (superseders new id) (superseders content id)
    (filtered_ascend (sup_names id) new.sysmods new_order.sysmods) (filtered_ascend (sup_names id) content.sysmods ordered.sysmods)
    (λ other.
    any_passes (sup_names id) other new.sysmods new_order.sysmods
    ∙ ap (passes (sup_names id)) ((after_is content changes ordered).records other)
    ∙ same_passes content changes id h other (last_of (records_in changes) other) refl
    ∙ sym (any_passes (sup_names id) other content.sysmods ordered.sysmods))

-- ---- the reasons of its ERROR holds

error_touches : (id : List ℕ) (kind : Kind) (key : HoldKey) → (kind_order kind == kind_order ErrorHold) ≡ true → same_id id key.sysmod ≡ true → list_any (same_id id) (touched_by_key kind key) ≡ true
error_touches id ErrorHold key is at = ap (λ b. b || false) at
error_touches id SystemHold key is at = cc
error_touches id UserHold key is at = cc
error_touches id FixcatHold key is at = cc

none_named : (content : Content) (changes : List Change) (id : List ℕ) → IsApart content changes id → (key : HoldKey) → (kind_order key.kind == kind_order ErrorHold) ≡ true → same_id id key.sysmod ≡ true
    → list_any (names key) (hold_changes_in changes) ≡ false
none_named content [] id h key is at = refl
none_named content (Whole sysmod ∷ changes) id h key is at =
    none_named content changes id (right_of id (touched_by content (Whole sysmod)) (flat_map (touched_by content) changes) h) key is at
none_named content (OfHold change ∷ changes) id h key is at =
    ap (λ b. b || list_any (names key) (hold_changes_in changes)) (by (names key change) refl)
    ∙ none_named content changes id (right_of id (touched_by content (OfHold change)) (flat_map (touched_by content) changes) h) key is at
  where
    by : (b : Bool) → names key change ≡ b → b ≡ false
    by true same =
        sym (error_touches id key.kind key is at)
        ∙ ap (λ (k : HoldKey). list_any (same_id id) (touched_by_key k.kind k)) (sym (same_key (key_of change) key same))
        ∙ left_of id (touched_by content (OfHold change)) (flat_map (touched_by content) changes) h
    by false same = refl

under_filtered : (test : HoldKey → Bool) (xs : List Hold) (key : HoldKey) → hold_under (filter (λ x. test x.key) xs) key ≡ cond (test key) (hold_under xs key) None
under_filtered test [] key = by (test key)
  where
    by : (b : Bool) → hold_under [] key ≡ cond b (hold_under [] key) None
    by true = refl
    by false = refl
under_filtered test (x ∷ xs) key = by (under_filtered test xs key) (test x.key) refl (is_same_key key x.key) refl
  where
    by : hold_under (filter (λ x. test x.key) xs) key ≡ cond (test key) (hold_under xs key) None → (t : Bool) → test x.key ≡ t → (b : Bool) → is_same_key key x.key ≡ b
        → hold_under (cond t (x ∷ filter (λ x. test x.key) xs) (filter (λ x. test x.key) xs)) key ≡ cond (test key) (cond b (Some x) (hold_under xs key)) None
    by rest true is true at =
        ap (λ b. cond b (Some x) (hold_under (filter (λ x. test x.key) xs) key)) at
        ∙ sym (ap (λ b. cond b (Some x) None) (ap test (same_key key x.key at) ∙ is))
    by rest true is false at = ap (λ b. cond b (Some x) (hold_under (filter (λ x. test x.key) xs) key)) at ∙ rest
    by rest false is true at =
        let no : test key ≡ false = ap test (same_key key x.key at) ∙ is in
        rest ∙ ap (λ b. cond b (hold_under xs key) None) no ∙ sym (ap (λ b. cond b (Some x) None) no)
    by rest false is false at = rest

filtered_same : (test : HoldKey → Bool) (xs ys : List Hold) → IsInKeyOrder xs → IsInKeyOrder ys → ((key : HoldKey) → test key ≡ true → hold_under xs key ≡ hold_under ys key)
    → filter (λ x. test x.key) xs ≡ filter (λ x. test x.key) ys
filtered_same test xs ys s t h =
    same_book (filter (λ x. test x.key) xs) (filter (λ x. test x.key) ys) (filtered_in_order (λ x. test x.key) xs s) (filtered_in_order (λ x. test x.key) ys t)
    (λ key. under_filtered test xs key ∙ by key (test key) refl ∙ sym (under_filtered test ys key))
  where
    by : (key : HoldKey) (b : Bool) → test key ≡ b → cond b (hold_under xs key) None ≡ cond b (hold_under ys key) None
    by key true is = h key is
    by key false is = refl

same_reasons : (content : Content) (changes : List Change) (id : List ℕ) → IsInOrder content → IsApart content changes id → error_reasons (after content changes) id ≡ error_reasons content id
same_reasons content changes id ordered h =
    ap (map (λ (hold : Hold). hold.key.reason)) (
    filtered_same is_error (holds_on new id) (holds_on content id) (filtered_in_order (λ hold. of_it hold.key) new.holds new_order.holds) (filtered_in_order (λ hold. of_it hold.key) content.holds ordered.holds)
    (λ key error. under_filtered of_it new.holds key ∙ by key error (of_it key) refl ∙ sym (under_filtered of_it content.holds key))
    )
  where
    new : Content
    new = after content changes

    new_order : IsInOrder new
    new_order = after_in_order content changes

    is_error : HoldKey → Bool
    is_error key = kind_order key.kind == kind_order ErrorHold

    of_it : HoldKey → Bool
    of_it key = same_id id key.sysmod

    by : (key : HoldKey) → is_error key ≡ true → (b : Bool) → of_it key ≡ b → cond b (hold_under new.holds key) None ≡ cond b (hold_under content.holds key) None
    by key error true at =
        (after_is content changes ordered).holds key
        ∙ ap (λ b. cond b (hold_left (hold_changes_in changes) key) (hold_under content.holds key)) (none_named content changes id h key error at)
    by key error false at = refl

pub touches_all : TouchesAll
touches_all content changes ordered = record {
  records = λ id out. same_record content changes id ordered (apart_from content changes id out);
  above = λ id out. same_superseders content changes id ordered (apart_from content changes id out);
  reasons = λ id out. same_reasons content changes id ordered (apart_from content changes id out);
}
