-- The fields of a request one after the other.
use Rattle.std.proofs.Common.{◌≡◌, ℕ, ◌+◌, ◌<◌, ◌||◌, Bool, true, false, List, [], ◌∷◌, ◌++◌, length, take, drop, get_or, Option, Some, None, if◌then◌else◌, refl, sym, ap, ◌∙◌, add-one, append-nil, take-append-drop, is_some, option_map, option_to_list}
use Rattle.std.proofs.Math.ListN.{get_or-map, length-map}
use Rattle.std.proofs.Math.Seq.{take-suc}
use Rattle.std.proofs.lemmas.List.Folds.{list_any_at, list_any_more}
use Rattle.std.proofs.lemmas.List.Elements.{filter_map-append}
use Rattle.httparse.specs.Spans.{header_bytes}
use Rattle.httparse.specs.declared.spans.HeaderSpan.{HeaderSpan}
use Rattle.requests.specs.Headers.{Pair, pairs_at, is_named, value_if_named, values, sole}
use Rattle.std.specs.List.{list_any, filter_map}

within : (bytes : List ℕ) (spans : List HeaderSpan) (i : ℕ) → i < length spans → i < length (pairs_at bytes spans)
within bytes spans i h = rw length-map h

-- one field settles the answer
pub any_at : (p : Pair → Bool) (bytes : List ℕ) (spans : List HeaderSpan) (i : ℕ) (d : HeaderSpan) → i < length spans
    → p (header_bytes bytes (get_or spans i d)) ≡ true → list_any p (pairs_at bytes spans) ≡ true
any_at p bytes spans i d h e =
    list_any_at p (pairs_at bytes spans) i (header_bytes bytes d) (within bytes spans i h)
    (ap p (get_or-map (header_bytes bytes) spans i d) ∙ e)

either : (a b : Bool) → a ≡ false → b ≡ false → (a || b) ≡ false
either true b p q = cc
either false b p q = q

-- one field more, which isn't it
pub none_more : (p : Pair → Bool) (bytes : List ℕ) (spans : List HeaderSpan) (i : ℕ) (d : HeaderSpan) → i < length spans
    → p (header_bytes bytes (get_or spans i d)) ≡ false → list_any p (take i (pairs_at bytes spans)) ≡ false
    → list_any p (take (i + 1) (pairs_at bytes spans)) ≡ false
none_more p bytes spans i d h e before =
    list_any_more p (pairs_at bytes spans) i (header_bytes bytes d) (within bytes spans i h)
    ∙ either _ _ before (ap p (get_or-map (header_bytes bytes) spans i d) ∙ e)

-- ---- values

value_named : (name : List ℕ) (field : Pair) → is_named name field ≡ true → value_if_named name field ≡ Some field.1
value_named name field e = rw e refl

value_unnamed : (name : List ℕ) (field : Pair) → is_named name field ≡ false → value_if_named name field ≡ None
value_unnamed name field e = rw e refl

at_one : (name : List ℕ) (field : Pair) → filter_map (value_if_named name) (field ∷ []) ≡ option_to_list (value_if_named name field)
at_one name field =
    elim (is_named name field) as (λ t. filter_map (λ f. if t then Some field.1 else None) (field ∷ []) ≡ option_to_list (if t then Some field.1 else None))
    [ true ↦ refl | false ↦ refl ]

values_more : (name bytes : List ℕ) (spans : List HeaderSpan) (i : ℕ) (d : HeaderSpan) → i < length spans
    → values name (take (i + 1) (pairs_at bytes spans))
    ≡ values name (take i (pairs_at bytes spans)) ++ option_to_list (value_if_named name (header_bytes bytes (get_or spans i d)))
values_more name bytes spans i d h =
    let pairs = pairs_at bytes spans in
    let field = header_bytes bytes (get_or spans i d) in
    let one : take (i + 1) pairs ≡ take i pairs ++ (field ∷ []) =
    rw add-one (take-suc pairs i (header_bytes bytes d) (within bytes spans i h)
    ∙ ap (λ x. take i pairs ++ (x ∷ [])) (get_or-map (header_bytes bytes) spans i d)) in
    ap (values name) one ∙ filter_map-append (value_if_named name) (take i pairs) (field ∷ [])
    ∙ ap (λ l. values name (take i pairs) ++ l) (at_one name field)

-- a field with another name adds no value
pub values_kept : (name bytes : List ℕ) (spans : List HeaderSpan) (i : ℕ) (d : HeaderSpan) (found : List (List ℕ)) → i < length spans
    → is_named name (header_bytes bytes (get_or spans i d)) ≡ false → found ≡ values name (take i (pairs_at bytes spans))
    → found ≡ values name (take (i + 1) (pairs_at bytes spans))
values_kept name bytes spans i d found h e before =
    before ∙ sym (append-nil _) ∙ ap (λ o. values name (take i (pairs_at bytes spans)) ++ option_to_list o) (sym (value_unnamed name _ e))
    ∙ sym (values_more name bytes spans i d h)

-- a field with the name adds its value
pub values_grown : (name bytes : List ℕ) (spans : List HeaderSpan) (i : ℕ) (d : HeaderSpan) (found : List (List ℕ)) → i < length spans
    → is_named name (header_bytes bytes (get_or spans i d)) ≡ true → found ≡ values name (take i (pairs_at bytes spans))
    → found ++ ((header_bytes bytes (get_or spans i d)).1 ∷ []) ≡ values name (take (i + 1) (pairs_at bytes spans))
values_grown name bytes spans i d found h e before =
    ap (λ l. l ++ ((header_bytes bytes (get_or spans i d)).1 ∷ [])) before
    ∙ ap (λ o. values name (take i (pairs_at bytes spans)) ++ option_to_list o) (sym (value_named name _ e))
    ∙ sym (values_more name bytes spans i d h)

two_values : (o : Option (List ℕ)) (value : List ℕ) (more : List (List ℕ)) → is_some o ≡ true
    → sole ((option_to_list o ++ (value ∷ [])) ++ more) ≡ None
two_values None value more h = cc
two_values (Some first) value more h = refl

-- a second field with the name
pub not_sole : (name bytes : List ℕ) (spans : List HeaderSpan) (i : ℕ) (d : HeaderSpan) (found : Option (List ℕ)) → i < length spans
    → is_named name (header_bytes bytes (get_or spans i d)) ≡ true → option_to_list found ≡ values name (take i (pairs_at bytes spans))
    → is_some found ≡ true → sole (values name (pairs_at bytes spans)) ≡ None
not_sole name bytes spans i d found h e before there =
    let pairs = pairs_at bytes spans in
    let all : values name pairs ≡ values name (take (i + 1) pairs) ++ values name (drop (i + 1) pairs) =
    ap (values name) (sym (take-append-drop (i + 1) pairs)) ∙ filter_map-append (value_if_named name) (take (i + 1) pairs) (drop (i + 1) pairs) in
    ap sole (all ∙ ap (λ l. l ++ values name (drop (i + 1) pairs)) (sym (values_grown name bytes spans i d _ h e before)))
    ∙ two_values found _ _ there

pub sole_of : (o : Option (List ℕ)) (vs : List (List ℕ)) → option_to_list o ≡ vs → o ≡ sole vs
sole_of None vs e = ap sole e
sole_of (Some value) vs e = ap sole e

pub shown_is_some : {T : Type 0} (show : T → List ℕ) (o : Option T) → is_some o ≡ true → is_some (option_map show o) ≡ true
shown_is_some show None h = cc
shown_is_some show (Some x) h = refl

pub shown_none : {T : Type 0} (show : T → List ℕ) (o : Option T) → is_some o ≡ false → option_to_list (option_map show o) ≡ []
shown_none show None h = refl
shown_none show (Some x) h = cc
