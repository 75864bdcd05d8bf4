-- Tables with one row more.
use Rattle.std.proofs.Common.{◌≡◌, ◌∙◌, ◌+◌, ◌<◌, ℕ, List, [], ◌∷◌, ◌++◌, Option, length, get_or, take, map, sym, ap, append_assoc}
use Rattle.std.specs.List.{flat_map}
use Rattle.std.proofs.lemmas.List.{append-nil, map-append, take_more}
use Rattle.std.proofs.lemmas.List.Concat.{flat_map-append}
use Rattle.columns.specs.Table.{TableText, table_with}
use Rattle.plan_reports.specs.Adding.{AddsRows}

pub row_more : {X : Type 0} (f : X → List (List ℕ)) (columns : List (ℕ × List ℕ)) (title : Option (List ℕ)) (before : List (List (List ℕ))) (xs : List X) (i : ℕ) (x : X) (fields : List (List ℕ)) (new : TableText)
    → i < length xs → x ≡ get_or xs i x → new ≡ table_with columns title ((before ++ map f (take i xs)) ++ fields ∷ []) → fields ≡ f x → new ≡ table_with columns title (before ++ map f (take (i + 1) xs))
row_more f columns title before xs i x fields new below at now is =
    now ∙ ap (λ l. table_with columns title ((before ++ map f (take i xs)) ++ l ∷ [])) is
    ∙ ap (table_with columns title) (append_assoc before (map f (take i xs)) (f x ∷ []) ∙ ap (λ l. before ++ l) (sym (map-append f (take i xs) (x ∷ [])) ∙ ap (map f) (sym (take_more xs i x below ∙ ap (λ z. take i xs ++ z ∷ []) (sym at)))))

-- one row more after those that were put into a table
pub added_more : {X : Type 0} (f : X → List (List ℕ)) (xs : List X) (i : ℕ) (x : X) (fields : List (List ℕ)) (old now new : TableText)
    → i < length xs → x ≡ get_or xs i x → AddsRows (map f (take i xs)) old now → AddsRows (fields ∷ []) now new → fields ≡ f x → AddsRows (map f (take (i + 1) xs)) old new
added_more f xs i x fields old now new below at so_far adds is = λ columns title rows was.
    row_more f columns title rows xs i x fields new below at (adds columns title (rows ++ map f (take i xs)) (so_far columns title rows was)) is

pub rows_more : {X : Type 0} (f : X → List (List (List ℕ))) (columns : List (ℕ × List ℕ)) (title : Option (List ℕ)) (xs : List X) (i : ℕ) (x : X) (new : TableText)
    → i < length xs → x ≡ get_or xs i x → new ≡ table_with columns title (flat_map f (take i xs) ++ f x) → new ≡ table_with columns title (flat_map f (take (i + 1) xs))
rows_more f columns title xs i x new below at now =
    now
    ∙ ap (λ l. table_with columns title (flat_map f (take i xs) ++ l)) (sym (append-nil (f x)))
    ∙ ap (table_with columns title) (sym (flat_map-append f (take i xs) (x ∷ [])) ∙ ap (flat_map f) (sym (take_more xs i x below ∙ ap (λ z. take i xs ++ z ∷ []) (sym at))))

-- one more part of a text
pub text_more : (old new part base more : List ℕ) → new ≡ old ++ part → old ≡ base → part ≡ more → new ≡ base ++ more
text_more old new part base more grown was is = grown ∙ ap (λ l. l ++ part) was ∙ ap (λ l. base ++ l) is
