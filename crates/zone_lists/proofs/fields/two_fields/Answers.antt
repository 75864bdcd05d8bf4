use Rattle.std.proofs.Common.{◌≡◌, ◌∙◌, sym, Some, None}
use Rattle.csv.specs.Records.{fields_of, field_at}
use Rattle.zone_lists.proofs.FieldFacts.{two_fields_at}
use Rattle.zone_lists.proofs.fields.two_fields.Goals as goal

pub returns-in_default : goal.returns-in_default
returns-in_default c =
    let first : field_at (fields_of c.args.row.now) 0 ≡ None = sym c.in_default.ensures.value in
    rw (two_fields_at _ (sym c.len.ensures ∙ c.if-len-ne2.false), first)

pub returns-in_default-get : goal.returns-in_default-get
returns-in_default-get c =
    let first : field_at (fields_of c.args.row.now) 0 ≡ Some c.in-Some.first.now = sym c.in-Some.ensures.value in
    let second : field_at (fields_of c.args.row.now) 1 ≡ None = sym c.in_default-get.ensures.value in
    rw (two_fields_at _ (sym c.len.ensures ∙ c.if-len-ne2.false), first, second)

pub returns : goal.returns
returns c =
    let first : field_at (fields_of c.args.row.now) 0 ≡ Some c.in-Some.first.now = sym c.in-Some.ensures.value in
    let second : field_at (fields_of c.args.row.now) 1 ≡ Some c.in-Some-get.second.now = sym c.in-Some-get.ensures.value in
    rw (two_fields_at _ (sym c.len.ensures ∙ c.if-len-ne2.false), first, second, c.trimmed.ensures, c.trimmed-2.ensures)
