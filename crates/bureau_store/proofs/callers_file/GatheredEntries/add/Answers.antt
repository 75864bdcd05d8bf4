use Rattle.std.proofs.Common.{◌≡◌, ◌∙◌, List, Some, inl, inr, rules}
use Rattle.std.proofs.lemmas.Bool.{or_parts}
use Rattle.csv.specs.Records.{fields_of}
use Rattle.faults.specs.Refusal.{IsRefusal}
use Rattle.zone_lists.specs.Fields.{two_fields}
use Rattle.zone_lists.specs.Lists.{own_fault}
use Rattle.zone_lists.specs.declared.fault.ListFault.TheVariants.{Memory}
use Rattle.zone_lists.proofs.ListFacts.{entry_at}
use Rattle.bureau_store.specs.Callers.{caller_fields, caller_list}
use Rattle.bureau_store.specs.Gathered.{HasCallers}
use Rattle.bureau_store.specs.declared.caller.CallerRow.{CallerRow}
use Rattle.bureau_store.proofs.CallerFacts.{again_by, again_fault, caller_added}
use Rattle.bureau_store.proofs.callers_file.GatheredEntries.add.Goals as goal

pub returns-in_err-put_caller-clause-fault : goal.returns-in_err-put_caller-clause-fault
returns-in_err-put_caller-clause-fault c =
    let told : IsRefusal Memory (λ fault. (earlier : List CallerRow) → HasCallers (λ text. text.items) c.args.self.now.names.entries c.args.self.now.tokens.keys earlier
    → own_fault caller_list c.args.n earlier (caller_fields (two_fields (fields_of c.args.row.now))) ≡ Some fault) c.in_err-put_caller.field-0.0 =
    elim c.in_err-put_caller.ensures.repeated [
      | inl memory ↦ inl memory
      | inr again ↦ inr (λ earlier has.
          again_fault c.args.n earlier _ c.in_ok-caller.caller c.in_err-put_caller.field-0.0
          (entry_at c.args.n _ c.in_ok-caller.caller c.in_ok-caller.ensures.made)
          (again_by (λ text. text.items) c.args.self.now.names.entries c.args.self.now.tokens.keys earlier has c.in_ok-caller.caller ∙ again.1)
          again.0)
    ] in
    search rules

pub returns-clause-added : goal.returns-clause-added
returns-clause-added c =
    let put = c.in_ok-put_caller.ensures in
    λ earlier has. (
      c.in_ok-caller.caller,
      (
        entry_at c.args.n _ c.in_ok-caller.caller c.in_ok-caller.ensures.made,
        again_by (λ text. text.items) c.args.self.now.names.entries c.args.self.now.tokens.keys earlier has c.in_ok-caller.caller ∙ put.first,
      ),
      caller_added (λ text. text.items) earlier c.args.self.now.names.entries c.put_caller.new.names.entries c.args.self.now.tokens.keys c.put_caller.new.tokens.keys c.in_ok-caller.caller has put.names put.named.0 put.tokens ((or_parts _ _ put.first).0),
    )
