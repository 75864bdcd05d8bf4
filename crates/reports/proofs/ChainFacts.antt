-- Values and the items that they stand for.
use Rattle.std.proofs.Common.{◌+◌, ◌<◌, ◌++◌, ◌||◌, length, take, get_or, ◌≡◌, ◌∙◌, ℕ, false, List, [], ◌∷◌, map, refl, sym, ap}
use Rattle.std.proofs.lemmas.List.{map-append, take_more}
use Rattle.mcs_reader.specs.Id.{text_of}
use Rattle.serde_json.specs.Data.{Data, item, string}
use Rattle.serde_json.specs.View.{items_of, items_view, view}
use Rattle.serde_json.specs.Written.{has_float, items_have_float}
use Rattle.serde_json.specs.declared.value.Value.{Value}
use Rattle.catalogue.specs.Content.{Content, holds_on}
use Rattle.holddata.specs.declared.key.Kind.TheVariants.{SystemHold, UserHold}
use Rattle.verdicts.specs.Verdicts.{Judged, good, held, lack}
use Rattle.reports.specs.ChainText.{chain_data, member_with, plan_items, plan_member, reasons_in, texts}

-- one more value
pub value_more : {X : Type 0} (f : X → Data) (xs : List X) (i : ℕ) (x : X) (old new : List Value) (value : Value) → i < length xs → x ≡ get_or xs i x
    → map view old ≡ map f (take i xs) → view value ≡ f x → new ≡ old ++ value ∷ [] → map view new ≡ map f (take (i + 1) xs)
value_more f xs i x old new value below at was is now =
    ap (map view) now
    ∙ map-append view old (value ∷ [])
    ∙ ap (λ l. l ++ view value ∷ []) was
    ∙ ap (λ v. map f (take i xs) ++ v ∷ []) is
    ∙ sym (map-append f (take i xs) (x ∷ []))
    ∙ ap (map f) (sym (take_more xs i x below ∙ ap (λ z. take i xs ++ z ∷ []) (sym at)))

pub texts_are : (ids : List (List ℕ)) → items_of (map (λ id. string (text_of id)) ids) ≡ texts ids
texts_are [] = refl
texts_are (id ∷ ids) = ap (item (string (text_of id))) (texts_are ids)

pub texts_by : (values : List Value) (ids : List (List ℕ)) → map view values ≡ map (λ id. string (text_of id)) ids → items_view values ≡ texts ids
texts_by values ids are = ap items_of are ∙ texts_are ids

plan_is : (content : Content) (ids : List (List ℕ)) → items_of (map (plan_member content) ids) ≡ plan_items content ids
plan_is content [] = refl
plan_is content (id ∷ ids) = ap (item (plan_member content id)) (plan_is content ids)

pub plan_by : (content : Content) (values : List Value) (ids : List (List ℕ)) → map view values ≡ map (plan_member content) ids → items_view values ≡ plan_items content ids
plan_by content values ids are = ap items_of are ∙ plan_is content ids

-- no number of some items is a float
pub items_plain : {X : Type 0} (f : X → Data) → ((x : X) → has_float (f x) ≡ false) → (xs : List X) → items_have_float (items_of (map f xs)) ≡ false
items_plain f plain [] = refl
items_plain f plain (x ∷ xs) = ap (λ b. b || items_have_float (items_of (map f xs))) (plain x) ∙ items_plain f plain xs

pub texts_plain : (ids : List (List ℕ)) → items_have_float (texts ids) ≡ false
texts_plain [] = refl
texts_plain (id ∷ ids) = texts_plain ids

plan_plain : (content : Content) (ids : List (List ℕ)) → items_have_float (plan_items content ids) ≡ false
plan_plain content [] = refl
plan_plain content (id ∷ ids) =
    rw (texts_plain (reasons_in SystemHold (holds_on content id)), texts_plain (reasons_in UserHold (holds_on content id)), plan_plain content ids) refl

-- a verdict has no number that is a float
pub chain_plain : (content : Content) (zone sysmod : List ℕ) (judged : Judged) → has_float (chain_data content zone sysmod judged) ≡ false
chain_plain content zone sysmod (good plan) = rw (plan_plain content plan) refl
chain_plain content zone sysmod (held need) = refl
chain_plain content zone sysmod lack = refl

-- one more value is one more member
pub plan_more : (content : Content) (plan : List (List ℕ)) (i : ℕ) (id : List ℕ) (old new : List Value) (value : Value) → i < length plan → id ≡ get_or plan i id
    → map view old ≡ map (plan_member content) (take i plan)
    → view value ≡ member_with id (holds_on content id)
    → new ≡ old ++ value ∷ []
    → map view new ≡ map (plan_member content) (take (i + 1) plan)
plan_more content = value_more (plan_member content)
