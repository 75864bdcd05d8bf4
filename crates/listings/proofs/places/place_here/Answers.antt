use Rattle.std.proofs.Common.{◌≡◌, ◌∙◌, List, [], ℕ, true, arith, subst, sym}
use Rattle.lemmas.proofs.ListFacts.{get_any}
use Rattle.catalogue.specs.Ids.{same_id}
use Rattle.catalogue.proofs.IdFacts.{itself}
use Rattle.listings.proofs.PlaceFacts.{nowhere_else, nowhere_past}
use Rattle.listings.proofs.places.place_here.Goals as goal
use Rattle.listings.proofs.places.place_here.Goals.{else-index-ids-via-then-index-ids+else-eq, else-index-ids-via-else-index-ids}

pub returns : goal.returns
returns c =
    let ids = c.args.ids.now in
    let index = c.args.index in
    let id = c.args.id.now in
    elim c.else-index-ids.branch [
      | else-index-ids-via-then-index-ids+else-eq w ↦ nowhere_else ids index id c.requires.ascend c.requires.lesser c.requires.next w.if-index-ids.true (λ same.
          let at : w.index-ids-index.result ≡ id = w.index-ids-index.is ∙ get_any ids index w.index-ids-index.result [] w.if-index-ids.true ∙ same in
          let P : List ℕ → Type 0 = λ x. same_id x id ≡ true in
          let on = subst P (sym at) (itself id) in
          let e = w.eq.ensures in
          let off = w.if-eq.false in
          cc)
      | else-index-ids-via-else-index-ids w ↦ nowhere_past ids index id c.requires.ascend c.requires.lesser c.requires.next (omega arith)
    ]
