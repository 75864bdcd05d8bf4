-- What a publication leaves is determined by id and by key, and publications join.
use Rattle.std.proofs.Common.{◌≡◌, List, [], ◌++◌, sym, ◌∙◌, ap, append_assoc}
use Rattle.std.specs.Prelude.{map, if◌then◌else◌}
use Rattle.std.specs.List.{list_any}
use Rattle.std.specs.Option.{option_or}
use Rattle.std.proofs.lemmas.List.{append-nil}
use Rattle.std.proofs.lemmas.List.Elements.{filter_map-append}
use Rattle.holddata.specs.declared.hold.Hold.{Hold}
use Rattle.holddata.specs.declared.hold.HoldChange.TheVariants.{Put}
use Rattle.holddata.specs.HoldChange.{names, hold_left}
use Rattle.holddata.specs.HoldBook.{book_of}
use Rattle.holddata.proofs.BookFacts.{book_of_is_left, book_of_only}
use Rattle.catalogue.specs.declared.sysmod.Sysmod.{Sysmod}
use Rattle.catalogue.specs.declared.change.Change.{Change}
use Rattle.catalogue.specs.Changes.{record_in, hold_change_in, records_in, hold_changes_in}
use Rattle.catalogue.specs.Content.{Content, nothing, IsInOrder}
use Rattle.catalogue.specs.Publication.{last_of, catalogue_of, after, content_of, IsAfter}
use Rattle.catalogue.proofs.BookFacts.{left_append, own_left, own_book, book_joined}
use Rattle.catalogue.proofs.RecordFacts.{catalogue_is, catalogue_only, own_catalogue, catalogue_joined, last_append, last_in_order}

pub same_content : (a b : Content) → a.sysmods ≡ b.sysmods → a.holds ≡ b.holds → a ≡ b
same_content a b s h =
    let by_sysmods : List Sysmod → Content = λ xs. record { sysmods = xs; holds = a.holds } in
    let by_holds : List Hold → Content = λ xs. record { sysmods = b.sysmods; holds = xs } in
    ap by_sysmods s ∙ ap by_holds h

pub records_append : (a b : List Change) → records_in (a ++ b) ≡ records_in a ++ records_in b
records_append a b = filter_map-append record_in a b

pub hold_changes_append : (a b : List Change) → hold_changes_in (a ++ b) ≡ hold_changes_in a ++ hold_changes_in b
hold_changes_append a b = filter_map-append hold_change_in a b

-- one publication and then another leave what both leave as one
pub after_joined : (content : Content) (a b : List Change) → after (after content a) b ≡ after content (a ++ b)
after_joined content a b =
    same_content (after (after content a) b) (after content (a ++ b))
    (catalogue_joined (content.sysmods ++ records_in a) (records_in b)
    ∙ ap catalogue_of (append_assoc content.sysmods (records_in a) (records_in b) ∙ ap (λ xs. content.sysmods ++ xs) (sym (records_append a b))))
    (book_joined (map Put content.holds ++ hold_changes_in a) (hold_changes_in b)
    ∙ ap book_of (append_assoc (map Put content.holds) (hold_changes_in a) (hold_changes_in b) ∙ ap (λ cs. map Put content.holds ++ cs) (sym (hold_changes_append a b))))

pub content_joined : (a b : List Change) → content_of (a ++ b) ≡ after (content_of a) b
content_joined a b = sym (after_joined nothing a b)

-- the content after a publication is in order
pub after_in_order : (content : Content) (changes : List Change) → IsInOrder (after content changes)
after_in_order content changes = record {
  sysmods = (catalogue_is (content.sysmods ++ records_in changes)).ascend;
  holds = (book_of_is_left (map Put content.holds ++ hold_changes_in changes)).in_key_order;
}

-- it has the records and holds that it should
pub after_is : (old : Content) (changes : List Change) → IsInOrder old → IsAfter old changes (after old changes)
after_is old changes ordered = record {
  in_order = after_in_order old changes;
  records = λ id.
      (catalogue_is (old.sysmods ++ records_in changes)).finds id
      ∙ last_append old.sysmods (records_in changes) id
      ∙ ap (option_or (last_of (records_in changes) id)) (last_in_order old.sysmods id ordered.sysmods);
  holds = λ key.
      (book_of_is_left (map Put old.holds ++ hold_changes_in changes)).holds key
      ∙ left_append (map Put old.holds) (hold_changes_in changes) key
      ∙ ap (λ o. if list_any (names key) (hold_changes_in changes) then hold_left (hold_changes_in changes) key else o) (own_left old.holds key ordered.holds);
}

-- and no other content has
pub after_only : (old : Content) (changes : List Change) (new : Content) → IsInOrder old → IsAfter old changes new → new ≡ after old changes
after_only old changes new ordered is =
    same_content new (after old changes)
    (catalogue_only (old.sysmods ++ records_in changes) new.sysmods (record {
      ascend = is.in_order.sysmods;
      finds = λ id.
          is.records id
          ∙ sym (ap (option_or (last_of (records_in changes) id)) (last_in_order old.sysmods id ordered.sysmods))
          ∙ sym (last_append old.sysmods (records_in changes) id);
    }))
    (book_of_only (map Put old.holds ++ hold_changes_in changes) new.holds (record {
      in_key_order = is.in_order.holds;
      holds = λ key.
          is.holds key
          ∙ sym (ap (λ o. if list_any (names key) (hold_changes_in changes) then hold_left (hold_changes_in changes) key else o) (own_left old.holds key ordered.holds))
          ∙ sym (left_append (map Put old.holds) (hold_changes_in changes) key);
    }))

-- a publication of several changes is one of the first and then one of the others
pub after_more : (content : Content) (earlier later : List Change) → after content (earlier ++ later) ≡ after (after content earlier) later
after_more content earlier later = sym (after_joined content earlier later)

-- a publication of nothing changes nothing
pub after_none : (content : Content) → IsInOrder content → after content [] ≡ content
after_none content ordered =
    same_content (after content []) content
    (ap catalogue_of (append-nil content.sysmods) ∙ sym (catalogue_only content.sysmods content.sysmods (own_catalogue content.sysmods ordered.sysmods)))
    (ap book_of (append-nil (map Put content.holds)) ∙ sym (own_book content.holds ordered.holds))
