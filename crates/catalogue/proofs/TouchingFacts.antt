-- What changes touch, one change at a time.
use Rattle.std.proofs.Common.{◌≡◌, ℕ, ◌+◌, ◌<◌, List, [], ◌∷◌, ◌++◌, length, take, get_or, sym, ◌∙◌, ap}
use Rattle.std.specs.BTreeSet.{insert_key}
use Rattle.std.specs.List.{flat_map}
use Rattle.std.proofs.lemmas.Grind.{flat_map-append}
use Rattle.std.proofs.lemmas.List.{append-nil, take_more}
use Rattle.std.proofs.lemmas.List.Sums.{fold-append}
use Rattle.catalogue.specs.declared.change.Change.{Change}
use Rattle.catalogue.specs.Content.{Content}
use Rattle.catalogue.specs.Ids.{id_cmp, in_order, put_among}
use Rattle.catalogue.specs.Touched.{touched_by}

pub touched_more : (content : Content) (changes : List Change) (i : ℕ) (change : Change) (old new : List (List ℕ)) → i < length changes → change ≡ get_or changes i change
    → old ≡ in_order (flat_map (touched_by content) (take i changes))
    → new ≡ put_among old (touched_by content change)
    → new ≡ in_order (flat_map (touched_by content) (take (i + 1) changes))
touched_more content changes i change old new below at was now =
    let front : List (List ℕ) = flat_map (touched_by content) (take i changes) in
    now
    ∙ ap (λ ids. put_among ids (touched_by content change)) was
    ∙ sym (fold-append (insert_key id_cmp) [] front (touched_by content change))
    ∙ ap (λ ids. in_order (front ++ ids)) (sym (append-nil (touched_by content change)))
    ∙ ap in_order (sym (flat_map-append (touched_by content) (take i changes) (change ∷ [])))
    ∙ ap (λ cs. in_order (flat_map (touched_by content) cs)) (sym (take_more changes i change below ∙ ap (λ c. take i changes ++ c ∷ []) (sym at)))
