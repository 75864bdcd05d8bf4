use Rattle.std.proofs.Common.{sym, ◌∙◌, ap, map}
use Rattle.std.proofs.lemmas.Result.{IfOk-weaker}
use Rattle.catalogue.specs.Content.{ids_in}
use Rattle.flat_content.specs.declared.records.Head.{Head}
use Rattle.flat_content.proofs.HeadFacts.{ids_are}
use Rattle.flat_content.proofs.records.Records.ids.Goals as goal

pub returns : goal.returns
returns c =
    let old = c.self.inside in
    IfOk-weaker c.ids_listed.result _ _
    (λ ids is. is ∙ ap (map (λ (head : Head). head.id)) c.deref.ensures.value ∙ sym (ids_are old.names.items old.conds.items old.heads.items) ∙ ap ids_in c.self.view_is)
    c.ids_listed.ensures
