use Rattle.std.proofs.Common.{◌≡◌, ◌+◌, ◌++◌, [], ◌∷◌, List, sym, ◌∙◌, ap, subst, append_assoc, take}
use Rattle.std.specs.BTreeMap.{IsOrdered, values}
use Rattle.std.specs.List.Sorted.{IsStrictlySortedBy}
use Rattle.std.specs.Map.{keys_of, values_of}
use Rattle.std.proofs.lemmas.List.{append-nil, take_all}
use Rattle.catalogue.specs.Publication.{catalogue_of}
use Rattle.catalogue.specs.declared.change.Change.{Change}
use Rattle.catalogue.specs.declared.sysmod.Sysmod.{Sysmod}
use Rattle.catalogue.specs.Changes.{records_in}
use Rattle.catalogue.specs.Ids.{id_cmp}
use Rattle.catalogue.specs.ListPublished.{IsKeyed}
use Rattle.catalogue.proofs.EntryFacts.{Records, records_ascend, records_more}
use Rattle.catalogue.proofs.RecordFacts.{IsCatalogue, own_catalogue, catalogue_more, catalogue_only}
use Rattle.catalogue.proofs.list_published.catalogue_after.Goals as goal
use Rattle.catalogue.proofs.list_published.catalogue_after.Goals.{in-Whole+in_ok-copy+in_ok-put, in_default}

pub loop-change-init : goal.loop-change-init
loop-change-init c =
    let old = c.args.old.now in
    let same = sym c.in_ok-sysmods.ensures in
    record {
      ordered = subst (λ es. IsStrictlySortedBy id_cmp (keys_of es)) same c.requires.ordered;
      keyed = subst IsKeyed same c.requires.keyed;
      records =
          subst (λ es. IsCatalogue (values old ++ []) (values_of es)) same (
          subst (λ xs. IsCatalogue xs (values old)) (sym (append-nil (values old))) (
          own_catalogue (values old) (records_ascend old.entries c.requires.keyed c.requires.ordered)
          )
          );
    }

pub loop-change-preserved : goal.loop-change-preserved
loop-change-preserved c =
    let old : List Sysmod = values c.args.old.now in
    let front : List Sysmod = records_in (take c.loop-change.change-index c.args.changes.now) in
    let with_change : Change → List Sysmod = λ change. front ++ records_in (change ∷ []) in
    let all : List Sysmod → List Sysmod = λ sysmods. old ++ sysmods in
    let one : Sysmod → List Sysmod = λ sysmod. front ++ sysmod ∷ [] in
    let more = records_more c.args.changes.now c.loop-change.change-index c.change-item.result c.loop-change-test.true c.change-item.is in
    elim c.match-change.branch [
      | in-Whole+in_ok-copy+in_ok-put w ↦
          let ascend = records_ascend w.put.new.sysmods.entries w.in_ok-put.ensures.keyed w.put.ensures.ordered in
          record {
            ordered = subst (IsOrdered id_cmp) (sym w.sysmods-is) w.put.ensures.ordered;
            keyed = subst (λ (m : Records). IsKeyed m.entries) (sym w.sysmods-is) w.in_ok-put.ensures.keyed;
            records =
                subst (λ (m : Records). IsCatalogue (old ++ records_in (take (c.loop-change.change-index + 1) c.args.changes.now)) (values m)) (sym w.sysmods-is) (
                subst (λ xs. IsCatalogue xs (values w.put.new.sysmods))
                (append_assoc old front (w.in_ok-copy.field-0 ∷ []) ∙ ap all (ap one w.in_ok-copy.ensures ∙ sym (more ∙ ap with_change w.in-Whole.is)))
                (catalogue_more (old ++ front) (values c.loop-change.sysmods) (values w.put.new.sysmods) w.in_ok-copy.field-0 c.loop-change.invariant.records ascend w.in_ok-put.ensures.found)
                );
          }
      | in_default w ↦ record {
        ordered = subst (IsOrdered id_cmp) (sym w.sysmods-is) c.loop-change.invariant.ordered;
        keyed = subst (λ (m : Records). IsKeyed m.entries) (sym w.sysmods-is) c.loop-change.invariant.keyed;
        records =
            subst (λ (m : Records). IsCatalogue (old ++ records_in (take (c.loop-change.change-index + 1) c.args.changes.now)) (values m)) (sym w.sysmods-is) (
            subst (λ xs. IsCatalogue xs (values c.loop-change.sysmods)) (ap all (sym (more ∙ ap with_change w.in_default.is ∙ append-nil front))) c.loop-change.invariant.records
            );
      }
    ]

pub returns-clause-records : goal.returns-clause-records
returns-clause-records c =
    let old : List Sysmod = values c.args.old.now in
    subst (λ changes. values c.loop-change.sysmods ≡ catalogue_of (old ++ records_in changes)) (take_all c.loop-change.change-index c.args.changes.now c.loop-change-test.false) (
    catalogue_only (old ++ records_in (take c.loop-change.change-index c.args.changes.now)) (values c.loop-change.sysmods) c.loop-change.invariant.records
    )
