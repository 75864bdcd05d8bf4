-- What supersedes some ids, directly or through others, as it is read and by index.
use Rattle.std.proofs.Common.{◌≡◌, ◌∙◌, ℕ, ◌+◌, ◌<◌, ◌≤◌, List, [], ◌++◌, length, map, take, get_or, sym, ap, subst, inl, inr}
use Rattle.std.specs.BTreeMap.{insert_entry}
use Rattle.std.specs.List.{Contains}
use Rattle.std.specs.Map.{keys_of, values_of}
use Rattle.std.proofs.lemmas.List.Elements.{Contains-append_left, Contains-append_right}
use Rattle.lemmas.proofs.ListFacts.{map_inside, none_inside, get_any}
use Rattle.catalogue.specs.Content.{Content, superseders}
use Rattle.catalogue.specs.Ids.{id_cmp}
use Rattle.chains.specs.Climbs.{AreAbove, AreListed}
use Rattle.verdicts.specs.Indices.{AreIndexed, AreIndicesOf, list_at}
use Rattle.listings.proofs.WalkFacts.{all_asked, asked_reads, key_put, keys_stay, says_more, values_now}

-- nothing is listed
pub none_listed : (ids : List (List ℕ)) → AreListed [] ids
none_listed ids = record { listed = λ list id inside names. absurd (none_inside list inside) }

module _ (old new : List (List ℕ × List (List ℕ))) (x : List ℕ) (v : List (List ℕ)) (now : new ≡ insert_entry id_cmp old x v) where
  stays : (y : List ℕ) → Contains (keys_of old) y → Contains (keys_of new) y
  stays y inside = let P : List (List ℕ × List (List ℕ)) → Type 0 = λ l. Contains (keys_of l) y in subst P (sym now) (keys_stay old x v y inside)

  put : Contains (keys_of new) x
  put = let P : List (List ℕ × List (List ℕ)) → Type 0 = λ l. Contains (keys_of l) x in subst P (sym now) (key_put old x v)

  pub above_now : (f : List ℕ → List (List ℕ)) → v ≡ f x → values_of old ≡ map f (keys_of old) → values_of new ≡ map f (keys_of new)
  above_now f is says = let P : List (List ℕ × List (List ℕ)) → Type 0 = λ l. values_of l ≡ map f (keys_of l) in subst P (sym now) (says_more f old x v is says)

  pub asked_now : (order order' : List (List ℕ)) (at : ℕ) → at < length order → x ≡ get_or order at x → order' ≡ order ++ v → ((y : List ℕ) → Contains (take at order) y → Contains (keys_of old) y)
      → (y : List ℕ) → Contains (take (at + 1) order') y → Contains (keys_of new) y
  asked_now order order' at below is order_now asked = asked_reads (keys_of old) (keys_of new) order order' v at x below is stays put order_now asked

  pub listed_now : (order order' : List (List ℕ)) → order' ≡ order ++ v → AreListed (values_of old) order → AreListed (values_of new) order'
  listed_now order order' order_now are = record {
    listed = λ list id inside names.
        let V : List (List ℕ × List (List ℕ)) → Type 0 = λ l. Contains (values_of l) list in
        let O : List (List ℕ) → Type 0 = λ l. Contains l id in
        elim (values_now old x v list (subst V now inside)) [
          | inl same ↦ subst O (sym order_now) (Contains-append_right order v id (subst O (sym same) names))
          | inr before ↦ subst O (sym order_now) (Contains-append_left order v id (are.listed list id before names))
        ];
  }

-- at the end all that is listed was read
pub listed_ends : (ids order : List (List ℕ)) (at : ℕ) (lists : List (List (List ℕ))) → length order ≤ at → ((y : List ℕ) → Contains (take at order) y → Contains ids y) → AreListed lists order → AreListed lists ids
listed_ends ids order at lists whole asked are = record { listed = λ list id inside names. all_asked ids order at whole asked id (are.listed list id inside names) }

pub starts_stay : (starts order order' more : List (List ℕ)) → order' ≡ order ++ more → ((y : List ℕ) → Contains starts y → Contains order y) → (y : List ℕ) → Contains starts y → Contains order' y
starts_stay starts order order' more now begun y inside = let P : List (List ℕ) → Type 0 = λ l. Contains l y in subst P (sym now) (Contains-append_left order more y (begun y inside))

-- the indices of what is listed at an index
pub listed_here : (lists : List (List (List ℕ))) (index : ℕ) (list ids seen : List (List ℕ)) (indices : List ℕ) → index < length lists → list ≡ get_or lists index list → seen ≡ list
    → AreIndicesOf ids seen indices → AreIndicesOf ids (list_at lists index) indices
listed_here lists index list ids seen indices below at is are =
    let P : List (List ℕ) → Type 0 = λ l. AreIndicesOf ids l indices in
    subst P (is ∙ at ∙ get_any lists index list [] below) are

-- what was read is what supersedes each of the ids directly
pub are_above : (content : Content) (ids keys : List (List ℕ)) (lists : List (List (List ℕ))) (above : List (List ℕ)) → ids ≡ keys → lists ≡ map (superseders content) keys → AreListed lists keys → AreIndexed ids lists above
    → AreAbove content ids above
are_above content ids keys lists above same says listed indexed = record {
  indexed = (let P : List (List (List ℕ)) → Type 0 = λ l. AreIndexed ids l above in subst P (says ∙ ap (map (superseders content)) (sym same)) indexed);
  whole = λ id other inside names.
      let I : List (List ℕ) → Type 0 = λ l. Contains l id in
      let O : List (List ℕ) → Type 0 = λ l. Contains l other in
      let V : List (List (List ℕ)) → Type 0 = λ l. Contains l (superseders content id) in
      subst O (sym same) (listed.listed (superseders content id) other (subst V (sym says) (map_inside (superseders content) keys id (subst I same inside))) names);
}
