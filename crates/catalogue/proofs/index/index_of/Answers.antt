use Rattle.std.proofs.Common.{[], ◌∷◌, List, Bor, sym, ◌∙◌, ap}
use Rattle.std.specs.Prelude.{map, filter}
use Rattle.std.specs.BTreeMap.{get}
use Rattle.std.proofs.lemmas.List.{map-append}
use Rattle.catalogue.specs.declared.sysmod.Sysmod.{Sysmod}
use Rattle.catalogue.specs.Content.{ids_in, sup_names}
use Rattle.catalogue.specs.Ids.{id_cmp}
use Rattle.catalogue.proofs.IndexFacts.{one_more}
use Rattle.catalogue.proofs.index.index_of.Goals as goal

pub loop-sysmod-preserved : goal.loop-sysmod-preserved
loop-sysmod-preserved c =
    let seen : Bor Sysmod → Sysmod = λ sysmod. sysmod.now in
    λ id.
    one_more (get id_cmp c.loop-sysmod.index id) (get id_cmp c.list_superseder.new.index id) (map seen c.loop-sysmod.yielded) c.in-Some.sysmod.now id
    (c.loop-sysmod.invariant id) (c.in_ok-list_superseder.ensures id)
    ∙ ap (λ (xs : List Sysmod). ids_in (filter (sup_names id) xs)) (sym (map-append seen c.loop-sysmod.yielded (c.in-Some.sysmod ∷ [])))
