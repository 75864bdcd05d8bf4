use Rattle.std.proofs.Common.{◌∙◌, ◌++◌, ◌∷◌, [], ℕ, List, Bool, decimal, ap}
use Rattle.columns.specs.Table.{table_with}
use Rattle.mcs_reader.specs.Id.{text_of}
use Rattle.plan_reports.specs.Tables.{list_field, received_field}
use Rattle.plan_reports.proofs.member_tables.push_member.Goals as goal

pub returns : goal.returns
returns c = λ columns title rows was.
    let m = c.args.member.now in
    let row = λ (r : List (List ℕ)). table_with columns title (rows ++ r ∷ []) in
    c.in_ok-push.ensures.rows columns title rows was
    ∙ ap row (c.member_fields.ensures
    ∙ ap (λ (s : List ℕ). s ∷ text_of c.id-id.result ∷ received_field c.received-received.result ∷ c.deref-2.result.now ∷ []) (c.deref.ensures.value ∙ c.in_ok-step.ensures ∙ ap decimal c.step.ensures)
    ∙ ap (λ (i : List ℕ). decimal m.step ∷ text_of i ∷ received_field c.received-received.result ∷ c.deref-2.result.now ∷ []) c.id-id.ensures
    ∙ ap (λ (b : Bool). decimal m.step ∷ text_of m.id ∷ received_field b ∷ c.deref-2.result.now ∷ []) c.received-received.ensures
    ∙ ap (λ (f : List ℕ). decimal m.step ∷ text_of m.id ∷ received_field m.received ∷ f ∷ []) (c.deref-2.ensures.value ∙ c.in_ok-fmids.ensures ∙ ap list_field c.fmids.ensures))
