-- What is gathered while a publication is read is what it publishes.
use Rattle.std.proofs.Common.{◌≡◌, true, List, [], ◌∷◌, ◌++◌, refl, sym, ◌∙◌, ap, append_assoc, append-nil}
use Rattle.std.specs.Prelude.{Option, Some, None, is_some, option_map}
use Rattle.std.specs.Option.{option_to_list}
use Rattle.mcs_reader.specs.Unread.{Read, with_statements}
use Rattle.mcs_reader.specs.declared.statement.Statement.{Statement}
use Rattle.holddata.specs.Statements.{change_of}
use Rattle.holddata.specs.HoldBook.{book_of}
use Rattle.holddata.specs.declared.hold.HoldChange.{HoldChange}
use Rattle.catalogue.specs.declared.change.Change.{Change}
use Rattle.catalogue.specs.declared.change.Change.TheVariants.{OfHold, Whole}
use Rattle.catalogue.specs.declared.sysmod.Sysmod.{Sysmod}
use Rattle.catalogue.specs.Changes.{hold_changes_in, records_in}
use Rattle.catalogue.specs.Content.{Content}
use Rattle.catalogue.specs.Publication.{catalogue_of, content_of}
use Rattle.catalogue.specs.Reading.{Begun, Part, Header, More, OnCondition, OnHold, changes_in, faults_of, nothing_begun, with_part, with_statement}
use Rattle.catalogue.proofs.PublicationFacts.{hold_changes_append, records_append, same_content}
use Rattle.bureau.proofs.PublicationFacts.{published_from, published_next}
use Rattle.file_reports.specs.Gathering.{IsGathered, IsWith, is_of_hold}
use Rattle.file_reports.specs.declared.gathering.Reading.{Reading}

-- ---- a record and holds after it, in either order

-- the changes of an open record, and of a hold
abbrev of_record : Option Sysmod → List Change
of_record open_record = option_to_list (option_map Whole open_record)

abbrev of_hold : Statement → List Change
of_hold statement = option_to_list (option_map OfHold (change_of statement))

record_alone : (o : Option Sysmod) → hold_changes_in (of_record o) ≡ []
record_alone None = refl
record_alone (Some sysmod) = refl

hold_alone : (o : Option HoldChange) → records_in (option_to_list (option_map OfHold o)) ≡ []
hold_alone None = refl
hold_alone (Some change) = refl

-- what is empty may stand on either side
either_side : {A : Type 0} (front none some : List A) → none ≡ [] → front ++ (none ++ some) ≡ front ++ (some ++ none)
either_side front none some is =
    ap (λ l. front ++ (l ++ some)) is ∙ sym (ap (λ l. front ++ (some ++ l)) is ∙ ap (λ l. front ++ l) (append-nil some))

records_three : (a b c : List Change) → records_in (a ++ (b ++ c)) ≡ records_in a ++ (records_in b ++ records_in c)
records_three a b c = records_append a (b ++ c) ∙ ap (λ l. records_in a ++ l) (records_append b c)

holds_three : (a b c : List Change) → hold_changes_in (a ++ (b ++ c)) ≡ hold_changes_in a ++ (hold_changes_in b ++ hold_changes_in c)
holds_three a b c = hold_changes_append a (b ++ c) ∙ ap (λ l. hold_changes_in a ++ l) (hold_changes_append b c)

-- no record depends on a hold, and no hold on a record
either_first : (front held one : List Change) → records_in held ≡ [] → hold_changes_in one ≡ [] → content_of (front ++ (held ++ one)) ≡ content_of (front ++ (one ++ held))
either_first front held one no_records no_holds =
    same_content (content_of (front ++ (held ++ one))) (content_of (front ++ (one ++ held)))
    (ap catalogue_of (records_three front held one ∙ either_side (records_in front) (records_in held) (records_in one) no_records ∙ sym (records_three front one held)))
    (ap book_of (holds_three front held one ∙ sym (either_side (hold_changes_in front) (hold_changes_in one) (hold_changes_in held) no_holds) ∙ sym (holds_three front one held)))

regroup : (a b c d : List Change) → (a ++ (b ++ c)) ++ d ≡ a ++ (b ++ (c ++ d))
regroup a b c d = append_assoc a (b ++ c) d ∙ ap (λ l. a ++ l) (append_assoc b c d)

-- the open record is gathered after the holds that stand after it
closes : (earlier before after : List Change) (o : Option Sysmod) → records_in after ≡ []
    → content_of ((earlier ++ (before ++ after)) ++ (of_record o ++ [])) ≡ content_of (earlier ++ (before ++ (of_record o ++ after)))
closes earlier before after o no_records =
    ap (λ l. content_of ((earlier ++ (before ++ after)) ++ l)) (append-nil (of_record o))
    ∙ ap content_of (regroup earlier before after (of_record o) ∙ sym (append_assoc earlier before (after ++ of_record o)))
    ∙ either_first (earlier ++ before) after (of_record o) no_records (record_alone o)
    ∙ ap content_of (append_assoc earlier before (of_record o ++ after))

-- ---- one more statement

-- all that was read is gathered
pub all_gathered : (old : Content) (all : Begun) (now : Reading) (changes : List Change) (new : Content) → IsGathered old all now
    → changes ≡ changes_in now.header → IsWith now.gathered changes new → IsWith old (changes_in all) new
all_gathered old all now changes new is gives more earlier was =
    more (earlier ++ (all.before ++ all.after)) (is.gathered earlier was)
    ∙ ap (λ (cs : List Change). content_of ((earlier ++ (all.before ++ all.after)) ++ cs)) (gives ∙ ap changes_in is.header)
    ∙ closes earlier all.before all.after all.open_record is.holds_after

-- a hold is gathered at once
pub hold_gathered : (old : Content) (all : Begun) (part : Part) (statement : Statement) (now : Reading) (changes : List Change) (gathered : Content) → is_of_hold part ≡ true
    → IsGathered old all now → changes ≡ changes_in (with_part part statement nothing_begun) → IsWith now.gathered changes gathered
    → IsGathered old (with_part part statement all) (record { gathered = gathered; header = now.header })
hold_gathered old all (Header kind) statement now changes gathered is was gives more = absurd (cc is)
hold_gathered old all More statement now changes gathered is was gives more = absurd (cc is)
hold_gathered old all OnCondition statement now changes gathered is was gives more = absurd (cc is)
hold_gathered old all OnHold statement now changes gathered is was gives more = record {
  gathered = λ earlier before.
      more (earlier ++ (all.before ++ all.after)) (was.gathered earlier before)
      ∙ ap (λ (cs : List Change). content_of ((earlier ++ (all.before ++ all.after)) ++ cs)) gives
      ∙ ap content_of (regroup earlier all.before all.after (of_hold statement));
  header = was.header;
  holds_after =
      records_append all.after (of_hold statement)
      ∙ ap (λ l. l ++ records_in (of_hold statement)) was.holds_after
      ∙ hold_alone (change_of statement);
}

-- the open record is that of all that was read
pub open_is : (old : Content) (all : Begun) (now : Reading) → IsGathered old all now → is_some now.header.open_record ≡ is_some all.open_record
open_is old all now is = ap (λ (begun : Begun). is_some begun.open_record) is.header

-- one more statement was read, of which no fault is told
pub read_next : (old : Content) (all : Begun) (now : Reading) (statement : Statement) (before left whole : Read) → IsGathered old all now
    → before ≡ with_statements (statement ∷ []) left → faults_of (is_some now.header.open_record) statement ≡ []
    → published_from all before ≡ published_from nothing_begun whole → published_from (with_statement all statement) left ≡ published_from nothing_begun whole
read_next old all now statement before left whole is first none says =
    published_next all (with_statement all statement) statement before left first refl (ap (λ b. faults_of b statement) (sym (open_is old all now is)) ∙ none)
    ∙ says
