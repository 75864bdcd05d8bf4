use Rattle.std.proofs.Common.{◌≡◌, ◌<◌, ◌≤◌, ◌+◌, ◌++◌, ℕ, List, length, drop, get_or, sym, ◌∙◌, ap, subst, append-nil}
use Rattle.std.specs.Prelude.{filter}
use Rattle.catalogue.specs.declared.sysmod.Sysmod.{Sysmod}
use Rattle.catalogue.specs.Content.{ids_in, sup_names}
use Rattle.flat_content.specs.declared.links.Link.{Link}
use Rattle.flat_content.specs.declared.records.Head.{Head}
use Rattle.flat_content.specs.Links.{linked, links_to}
use Rattle.flat_content.specs.Records.{record_at}
use Rattle.flat_content.specs.Spans.{part_at}
use Rattle.flat_content.proofs.LinkFacts.{next_record, none_left, of_next, sup_ascends}
use Rattle.flat_content.proofs.links.links_in_turn.Goals as goal

pub loop-head-preserved : goal.loop-head-preserved
loop-head-preserved c = λ q.
    let old = c.records.inside in
    let records = c.args.records.now in
    let i = c.loop-head.head-index in
    let head = c.head-item.result in
    let given = c.deref-head-items.ensures.value in
    let within = subst (λ (heads : List Head). i < length heads) given c.loop-head-test.true in
    let at = subst (λ (heads : List Head). head ≡ get_or heads i head) given c.head-item.is in
    ap (λ (links : List Link). linked q links ++ ids_in (filter (sup_names q) (drop (i + 1) records)))
    (c.in_ok-push_links.ensures
    ∙ ap (λ (sup : List (List ℕ)). c.loop-head.links.items ++ links_to sup head.id) (c.ids_in.ensures ∙ ap (λ (names : List (List ℕ)). part_at names c.sup.result) c.deref-in-loop-head.ensures.value ∙ ap (part_at old.names.items) c.sup.ensures))
    ∙ of_next c.loop-head.links.items (record_at old.names.items old.conds.items head) (drop (i + 1) records) q
    (sup_ascends old.names.items old.conds.items old.heads.items records c.records.view_is i head c.records.invariant within at)
    ∙ ap (λ (xs : List Sysmod). linked q c.loop-head.links.items ++ ids_in (filter (sup_names q) xs))
    (sym (next_record old.names.items old.conds.items old.heads.items records c.records.view_is i head within at))
    ∙ c.loop-head.invariant q

pub returns : goal.returns
returns c = λ q.
    let old = c.records.inside in
    let ended = subst (λ (heads : List Head). length heads ≤ c.loop-head.head-index) c.deref-head-items.ensures.value c.loop-head-test.false in
    sym (append-nil (linked q c.loop-head.links.items))
    ∙ ap (λ (xs : List Sysmod). linked q c.loop-head.links.items ++ ids_in (filter (sup_names q) xs))
    (sym (none_left old.names.items old.conds.items old.heads.items c.args.records.now c.records.view_is c.loop-head.head-index ended))
    ∙ c.loop-head.invariant q
