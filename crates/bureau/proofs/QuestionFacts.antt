-- The answers to questions, from what is read on the way.
use Rattle.std.proofs.Common.{◌≡◌, ℕ, List, [], sym, ◌∙◌, ap, refl}
use Rattle.std.specs.Prelude.{Option, Some, None}
use Rattle.std.specs.Option.{option_map}
use Rattle.holddata.specs.declared.hold.Hold.{Hold}
use Rattle.holddata.specs.declared.key.Kind.TheVariants.{ErrorHold, FixcatHold}
use Rattle.zone_lists.specs.declared.zones.ZoneRow.{ZoneRow}
use Rattle.catalogue.specs.Content.{Content}
use Rattle.questions.specs.Wanted.{form_of}
use Rattle.questions.specs.declared.report.Report.{Report}
use Rattle.questions.specs.declared.wanted.Wanted.{Wanted}
use Rattle.bureau_store.specs.Held.{held_in}
use Rattle.bureau_store.specs.Tables.{Tables, ZoneTable, patterns_of, rows_of, zone_named}
use Rattle.bureau_store.specs.declared.caller.Caller.TheVariants.{Client}
use Rattle.bureau.specs.Call.{report_on, zone_counts}
use Rattle.bureau.specs.Outcomes.{IsReplyTo}
use Rattle.bureau.specs.Outcome.{Answer, Outcome, answered, as_json, in_form, not_found, of_zone}
use Rattle.bureau.specs.Replies.{reply_as}
use Rattle.bureau.specs.Texts.{chain_text, chain_text_from, kind_of, patterns_for, text_from, zone_counts_from, zone_counts_text}
use Rattle.bureau.specs.declared.reply.Reply.{Reply}

-- ---- the rows of a zone

abbrev rows_in : Option (List ZoneRow) → List ZoneRow
rows_in None = []
rows_in (Some rows) = rows

-- what is told of rows that are found
pub with_rows : {V : Type 0} (items : V → List ZoneRow) (found : Option V) (rows : V) (told : Option (List ZoneRow)) → found ≡ Some rows → option_map items found ≡ told → Some (items rows) ≡ told
with_rows items found rows told is told_is = sym (ap (option_map items) is) ∙ told_is

-- what is told of rows that aren't found
pub without_rows : {V : Type 0} (items : V → List ZoneRow) (found : Option V) (told : Option (List ZoneRow)) → ((rows : V) → found ≡ Some rows → ⊥) → option_map items found ≡ told → None ≡ told
without_rows items None told never is = is
without_rows items (Some rows) told never is = absurd (never rows refl)

-- what asks for a zone that has no rows
pub no_rows : (found : Option ZoneTable) (answer : ZoneTable → Outcome) (reply : Reply) → None ≡ option_map (λ (table : ZoneTable). table.rows) found → reply_as reply ≡ not_found
    → answered (reply_as reply) ≡ of_zone found answer
no_rows None answer reply missing is = ap answered is
no_rows (Some table) answer reply missing is = absurd (cc)

-- ---- what is wanted of a report

-- what is answered of a zone that is there
abbrev answer_on : Report → Wanted → Tables → List ℕ → List ℕ → ZoneTable → Outcome
answer_on report wanted this client zone table =
    answered (in_form (form_of wanted) (text_from report wanted this.content zone table.rows (this.received client) (patterns_for report (Some table)) (held_in this.content table.rows (kind_of report))))

-- an answer, from its parts
report_parts : (report : Report) (content : Content) (found : Option ZoneTable) (received known patterns : List (List ℕ)) (rows installed : List ZoneRow) (holds : List Hold)
    (answer : List ZoneRow → List (List ℕ) → List (List ℕ) → List Hold → Answer) (reply : Reply)
    → Some rows ≡ option_map (λ (table : ZoneTable). table.rows) found → received ≡ known → patterns ≡ patterns_for report found
    → holds ≡ held_in content (rows_of found) (kind_of report) → installed ≡ rows → reply_as reply ≡ answer installed received patterns holds
    → answered (reply_as reply) ≡ of_zone found (λ table. answered (answer table.rows known (patterns_for report (Some table)) (held_in content table.rows (kind_of report))))
report_parts report content None received known patterns rows installed holds answer reply there has asked held same is = absurd (cc)
report_parts report content (Some table) received known patterns rows installed holds answer reply there has asked held same is =
    ap answered (is ∙ ap (λ rows. answer rows received patterns holds) (same ∙ ap rows_in there)
    ∙ ap (λ ids. answer table.rows ids patterns holds) has
    ∙ ap (λ asked. answer table.rows known asked holds) asked ∙ ap (answer table.rows known (patterns_for report (Some table))) held)

pub report_told : (report : Report) (wanted : Wanted) (client zone : List ℕ) (this : Tables) (received patterns : List (List ℕ)) (rows installed : List ZoneRow) (holds : List Hold) (reply : Reply)
    → Some rows ≡ option_map (λ (table : ZoneTable). table.rows) (zone_named zone (this.zones client)) → received ≡ this.received client
    → patterns ≡ patterns_for report (zone_named zone (this.zones client)) → holds ≡ held_in this.content (rows_of (zone_named zone (this.zones client))) (kind_of report) → installed ≡ rows
    → reply_as reply ≡ in_form (form_of wanted) (text_from report wanted this.content zone installed received patterns holds)
    → IsReplyTo (Client client) (report_on report wanted zone) this reply
report_told report wanted client zone this received patterns rows installed holds reply there has asked held same is =
    report_parts report this.content (zone_named zone (this.zones client)) received (this.received client) patterns rows installed holds
    (λ rows ids patterns holds. in_form (form_of wanted) (text_from report wanted this.content zone rows ids patterns holds)) reply there has asked held same is

pub report_absent : (report : Report) (wanted : Wanted) (client zone : List ℕ) (this : Tables) (reply : Reply)
    → None ≡ option_map (λ (table : ZoneTable). table.rows) (zone_named zone (this.zones client)) → reply_as reply ≡ not_found
    → IsReplyTo (Client client) (report_on report wanted zone) this reply
report_absent report wanted client zone this reply missing is =
    no_rows (zone_named zone (this.zones client)) (answer_on report wanted this client zone) reply missing is

-- ---- counts

-- what is answered of a zone that is there
abbrev counts_on : Tables → List ℕ → ZoneTable → Outcome
counts_on this zone table = answered (as_json (zone_counts_text this.content zone table))

-- the counts, from their parts
counts_parts : (content : Content) (zone : List ℕ) (found : Option ZoneTable) (patterns : List (List ℕ)) (rows installed : List ZoneRow) (errors fixes : List Hold) (reply : Reply)
    → Some rows ≡ option_map (λ (table : ZoneTable). table.rows) found → patterns ≡ patterns_of found
    → errors ≡ held_in content (rows_of found) ErrorHold → fixes ≡ held_in content (rows_of found) FixcatHold → installed ≡ rows
    → reply_as reply ≡ as_json (zone_counts_from content zone installed patterns errors fixes)
    → answered (reply_as reply) ≡ of_zone found (λ table. answered (as_json (zone_counts_text content zone table)))
counts_parts content zone None patterns rows installed errors fixes reply there asked held missing same is = absurd (cc)
counts_parts content zone (Some table) patterns rows installed errors fixes reply there asked held missing same is =
    ap answered (is ∙ ap (λ rows. as_json (zone_counts_from content zone rows patterns errors fixes)) (same ∙ ap rows_in there)
    ∙ ap (λ asked. as_json (zone_counts_from content zone table.rows asked errors fixes)) asked
    ∙ ap (λ held. as_json (zone_counts_from content zone table.rows table.patterns held fixes)) held
    ∙ ap (λ missing. as_json (zone_counts_from content zone table.rows table.patterns (held_in content table.rows ErrorHold) missing)) missing)

pub counts_told : (client zone : List ℕ) (this : Tables) (patterns : List (List ℕ)) (rows installed : List ZoneRow) (errors fixes : List Hold) (reply : Reply)
    → Some rows ≡ option_map (λ (table : ZoneTable). table.rows) (zone_named zone (this.zones client)) → patterns ≡ patterns_of (zone_named zone (this.zones client))
    → errors ≡ held_in this.content (rows_of (zone_named zone (this.zones client))) ErrorHold → fixes ≡ held_in this.content (rows_of (zone_named zone (this.zones client))) FixcatHold → installed ≡ rows
    → reply_as reply ≡ as_json (zone_counts_from this.content zone installed patterns errors fixes)
    → IsReplyTo (Client client) (zone_counts zone) this reply
counts_told client zone this patterns rows installed errors fixes reply there asked held missing same is =
    counts_parts this.content zone (zone_named zone (this.zones client)) patterns rows installed errors fixes reply there asked held missing same is

pub counts_absent : (client zone : List ℕ) (this : Tables) (reply : Reply)
    → None ≡ option_map (λ (table : ZoneTable). table.rows) (zone_named zone (this.zones client)) → reply_as reply ≡ not_found
    → IsReplyTo (Client client) (zone_counts zone) this reply
counts_absent client zone this reply missing is = no_rows (zone_named zone (this.zones client)) (counts_on this zone) reply missing is

-- ---- verdicts

-- the verdict, from its parts
pub chain_told : (content : Content) (zone sysmod : List ℕ) (found : Option ZoneTable) (rows installed : List ZoneRow) (reply : Reply)
    → Some rows ≡ option_map (λ (table : ZoneTable). table.rows) found → installed ≡ rows
    → reply_as reply ≡ as_json (chain_text_from content zone installed sysmod)
    → answered (reply_as reply) ≡ of_zone found (λ table. answered (as_json (chain_text content zone table sysmod)))
chain_told content zone sysmod None rows installed reply there same is = absurd (cc)
chain_told content zone sysmod (Some table) rows installed reply there same is =
    ap answered (is ∙ ap (λ rows. as_json (chain_text_from content zone rows sysmod)) (same ∙ ap rows_in there))
