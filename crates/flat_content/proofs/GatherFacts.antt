-- One more change to the content that was gathered.
use Rattle.std.proofs.Common.{◌≡◌, List, [], ◌∷◌, ◌++◌, sym, ◌∙◌, ap}
use Rattle.std.proofs.lemmas.List.{append-nil}
use Rattle.holddata.specs.declared.hold.Hold.{Hold}
use Rattle.holddata.specs.declared.hold.HoldChange.{HoldChange}
use Rattle.holddata.specs.HoldBook.{book_of}
use Rattle.catalogue.specs.declared.sysmod.Sysmod.{Sysmod}
use Rattle.catalogue.specs.declared.change.Change.{Change}
use Rattle.catalogue.specs.declared.change.Change.TheVariants.{OfHold, Whole}
use Rattle.catalogue.specs.Changes.{hold_changes_in, records_in}
use Rattle.catalogue.specs.Content.{Content}
use Rattle.catalogue.specs.Publication.{catalogue_of, content_of}
use Rattle.catalogue.proofs.PublicationFacts.{hold_changes_append, records_append, same_content}
use Rattle.catalogue.proofs.RecordFacts.{catalogue_joined}

-- one more record after those that were gathered
pub record_gathered : (earlier : List Change) (x : Sysmod) (records now : List Sysmod) (holds : List Hold)
    → record { sysmods = catalogue_of records; holds = holds } ≡ content_of earlier → now ≡ records ++ x ∷ []
    → record { sysmods = catalogue_of now; holds = holds } ≡ content_of (earlier ++ Whole x ∷ [])
record_gathered earlier x records now holds was is =
    let new : Content = record { sysmods = catalogue_of now; holds = holds } in
    same_content new (content_of (earlier ++ Whole x ∷ []))
    (ap catalogue_of is
    ∙ sym (catalogue_joined records (x ∷ []))
    ∙ ap (λ (c : Content). catalogue_of (c.sysmods ++ x ∷ [])) was
    ∙ catalogue_joined (records_in earlier) (x ∷ [])
    ∙ ap catalogue_of (sym (records_append earlier (Whole x ∷ []))))
    (ap (λ (c : Content). c.holds) was
    ∙ ap book_of (sym (append-nil (hold_changes_in earlier)) ∙ sym (hold_changes_append earlier (Whole x ∷ []))))

-- a change to the holds
pub hold_gathered : (earlier : List Change) (change : HoldChange) (old new : Content) → old ≡ content_of earlier → new.sysmods ≡ old.sysmods
    → ((changes : List HoldChange) → old.holds ≡ book_of changes → new.holds ≡ book_of (changes ++ change ∷ []))
    → new ≡ content_of (earlier ++ OfHold change ∷ [])
hold_gathered earlier change old new was same holds =
    same_content new (content_of (earlier ++ OfHold change ∷ []))
    (same
    ∙ ap (λ (c : Content). c.sysmods) was
    ∙ ap catalogue_of (sym (append-nil (records_in earlier)) ∙ sym (records_append earlier (OfHold change ∷ []))))
    (holds (hold_changes_in earlier) (ap (λ (c : Content). c.holds) was)
    ∙ ap book_of (sym (hold_changes_append earlier (OfHold change ∷ []))))
