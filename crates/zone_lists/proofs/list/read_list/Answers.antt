use Rattle.std.proofs.Common.{◌≡◌, ◌<◌, ◌∙◌, inl, inr, sym, arith, rules, Err}
use Rattle.faults.specs.Refusal.{IsRefusal}
use Rattle.zone_lists.specs.declared.fault.ListFault.TheVariants.{Memory}
use Rattle.csv.specs.Records.{fields_of}
use Rattle.zone_lists.specs.Lists.{answer, records_of}
use Rattle.zone_lists.specs.Reader.{records_left}
use Rattle.zone_lists.proofs.ListFacts.{begins, ends, goes_on, stops_at, stops_full}
use Rattle.zone_lists.proofs.list.read_list.Goals as goal

pub loop-list-init : goal.loop-list-init
loop-list-init g c = record {
  reads = c.in_ok-read_next.ensures.goes_on;
  within = omega arith;
  entries = begins g.E.Entries.kind (g.E.Entries.Has c.new-list.result) (records_of c.args.text.now) (fields_of c.read_next.new.self.row) (records_left c.read_next.new.self.reader) (
      sym c.new-records.ensures.all ∙ rw c.if-not-branch.false at c.in_ok-read_next.ensures.takes
      ) (rw c.row.ensures at (sym c.is_header.ensures ∙ c.if-not-is_header.false)) c.new-list.ensures;
}

pub loop-list-preserved : goal.loop-list-preserved
loop-list-preserved g c =
    let taken = rw c.if-branch.true at c.in_ok-read_next-2.ensures.takes in
    let below : c.loop-list.n < c.limit-limit.result = omega (arith, c.loop-list.invariant.within, c.if-n-limit.false) in
    record {
      reads = c.in_ok-read_next-2.ensures.goes_on;
      within = omega (arith, below);
      entries = goes_on g.E.Entries.kind (g.E.Entries.Has c.loop-list.list) (g.E.Entries.Has c.add.new.self) (answer g.E.Entries.kind (records_of c.args.text.now)) c.loop-list.n _ _ (rw taken at c.loop-list.invariant.entries) (rw c.limit-limit.ensures at below) (
          rw c.row-in-loop-list.ensures at c.in_ok-add.ensures.added
          );
    }

pub returns-then-n-limit-clause-fault : goal.returns-then-n-limit-clause-fault
returns-then-n-limit-clause-fault g c =
    let taken = rw c.if-branch.true at c.in_ok-read_next-2.ensures.takes in
    inr (
    stops_full g.E.Entries.kind (g.E.Entries.Has c.loop-list.list) (answer g.E.Entries.kind (records_of c.args.text.now)) c.loop-list.n _ _ (rw taken at c.loop-list.invariant.entries) (c.if-n-limit.true ∙ c.limit-limit.ensures)
    )

pub returns-in_err-add-clause-fault : goal.returns-in_err-add-clause-fault
returns-in_err-add-clause-fault g c =
    let taken = rw c.if-branch.true at c.in_ok-read_next-2.ensures.takes in
    let below : c.loop-list.n < c.limit-limit.result = omega (arith, c.loop-list.invariant.within, c.if-n-limit.false) in
    let told : IsRefusal Memory (λ fault. answer g.E.Entries.kind (records_of c.args.text.now) ≡ Err fault) c.in_err-add.field-0.0 =
    elim c.in_err-add.ensures.fault [
      | inl memory ↦ inl memory
      | inr has ↦ inr (
          stops_at g.E.Entries.kind (g.E.Entries.Has c.loop-list.list) (answer g.E.Entries.kind (records_of c.args.text.now)) c.loop-list.n _ _ c.in_err-add.field-0.0 (rw taken at c.loop-list.invariant.entries) (rw c.limit-limit.ensures at below) (
          rw c.row-in-loop-list.ensures at has
          )
          )
    ] in
    search rules

pub returns-clause-entries : goal.returns-clause-entries
returns-clause-entries g c =
    let none = rw c.if-branch.false at c.in_ok-read_next-2.ensures.takes in
    ends g.E.Entries.kind (g.E.Entries.Has c.loop-list.list) (answer g.E.Entries.kind (records_of c.args.text.now)) c.loop-list.n _ c.loop-list.invariant.entries none
