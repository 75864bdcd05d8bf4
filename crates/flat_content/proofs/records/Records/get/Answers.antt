use Rattle.std.proofs.Common.{List, sym, ◌∙◌, ap, subst}
use Rattle.std.specs.Prelude.{find, option_map}
use Rattle.catalogue.specs.declared.sysmod.Sysmod.{Sysmod}
use Rattle.catalogue.specs.Content.{ids_in, is_of}
use Rattle.catalogue.specs.Ids.{Ascend}
use Rattle.flat_content.specs.Records.{HeadsAscend, is_head_of, record_at}
use Rattle.flat_content.proofs.HeadFacts.{found_at, head_is, heads_ascend}
use Rattle.flat_content.proofs.records.Records.get.Goals as goal

pub head_for-requires : goal.head_for-requires
head_for-requires c =
    let old = c.self.inside in
    subst HeadsAscend (sym c.deref.ensures.value)
    (heads_ascend old.names.items old.conds.items old.heads.items (subst (λ (xs : List Sysmod). Ascend (ids_in xs)) (sym c.self.view_is) c.requires))

pub record_of-requires : goal.record_of-requires
record_of-requires c =
    let old = c.self.inside in
    let found = c.in-Some.ensures ∙ ap (find (is_head_of c.args.id.now)) c.deref.ensures.value in
    rw (c.deref-in-Some.ensures.value, c.deref-in-Some-2.ensures.value) (head_is old.names.items old.conds.items old.heads.items c.args.id.now c.in-Some.head.now c.self.invariant (sym found))

pub returns-in_ok-record_of-in-Some : goal.returns-in_ok-record_of-in-Some
returns-in_ok-record_of-in-Some c =
    let old = c.self.inside in
    let found = c.in-Some.ensures ∙ ap (find (is_head_of c.args.id.now)) c.deref.ensures.value in
    rw (c.in_ok-record_of-in-Some.ensures, c.deref-in-Some.ensures.value, c.deref-in-Some-2.ensures.value)
    (ap (option_map (record_at old.names.items old.conds.items)) found
    ∙ sym (found_at old.names.items old.conds.items old.heads.items c.args.id.now)
    ∙ ap (find (is_of c.args.id.now)) c.self.view_is)

pub returns-in-None : goal.returns-in-None
returns-in-None c =
    let old = c.self.inside in
    let found = c.in-None.ensures ∙ ap (find (is_head_of c.args.id.now)) c.deref.ensures.value in
    ap (option_map (record_at old.names.items old.conds.items)) found
    ∙ sym (found_at old.names.items old.conds.items old.heads.items c.args.id.now)
    ∙ ap (find (is_of c.args.id.now)) c.self.view_is
