-- What is read of files, one after the other.
use Rattle.std.proofs.Common.{◌≡◌, ℕ, ◌+◌, ◌<◌, List, [], ◌∷◌, ◌++◌, length, map, take, get_or, sym, ap, ◌∙◌, subst}
use Rattle.std.proofs.lemmas.List.{map-append, take_more}
use Rattle.run_parts.specs.Files.{KnownFile, AreContents, IsContent}

module _ (files : List ℕ → KnownFile) where
  -- one file more was read
  after : (names : List (List ℕ)) (contents : List (List ℕ)) (name bytes : List ℕ) → AreContents files names contents → IsContent (files name) bytes
      → AreContents files (names ++ name ∷ []) (contents ++ bytes ∷ [])
  after [] [] name bytes before now = (now, tt)
  after [] (other ∷ contents) name bytes before now = elim before [ ]
  after (other ∷ names) [] name bytes before now = elim before [ ]
  after (other ∷ names) (these ∷ contents) name bytes before now = (before.0, after names contents name bytes before.1 now)

  module _ {V W : Type 0} (f : V → List ℕ) (h : W → List ℕ) (names : List V) (read : List W) (i : ℕ) (name : V) (low : i < length names) (is : name ≡ get_or names i name) where
    pub one_more : (bytes : W) → AreContents files (map f (take i names)) (map h read) → IsContent (files (f name)) (h bytes)
        → AreContents files (map f (take (i + 1) names)) (map h (read ++ bytes ∷ []))
    one_more bytes before now =
        let names_are : map f (take (i + 1) names) ≡ map f (take i names) ++ f name ∷ [] =
        ap (map f) (take_more names i name low) ∙ map-append f (take i names) (get_or names i name ∷ [])
        ∙ ap (λ v. map f (take i names) ++ f v ∷ []) (sym is) in
        subst (λ ns. AreContents files ns (map h (read ++ bytes ∷ []))) (sym names_are)
        (subst (AreContents files (map f (take i names) ++ f name ∷ [])) (sym (map-append h read (bytes ∷ [])))
        (after (map f (take i names)) (map h read) (f name) (h bytes) before now))
