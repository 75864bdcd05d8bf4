use Rattle.std.proofs.Common.{rules, ◌≡◌, ◌∷◌, [], ◌++◌, ◌∙◌, ap, sym, map, append_assoc}
use Rattle.std.specs.Prelude.{None}
use Rattle.std.specs.Map.Iter.{deref}
use Rattle.std.proofs.lemmas.List.{map-append}
use Rattle.columns.specs.Table.{table_with}
use Rattle.holddata.specs.declared.hold.Hold.{Hold}
use Rattle.holddata.specs.BookText.{hold_columns, hold_fields}
use Rattle.holddata.proofs.book.HoldBook.text.Goals as goal

pub loop-hold-preserved : goal.loop-hold-preserved
loop-hold-preserved c =
    let seen = map (deref {X = Hold}) c.loop-hold.yielded in
    let more = map-append (deref {X = Hold}) c.loop-hold.yielded (c.in-Some.hold ∷ []) in
    let next : c.in-Some.hold.now ∷ c.next.new.self ≡ c.loop-hold.hold-iterator = search rules in
    record {
      made = c.in_ok-push_hold.ensures seen c.loop-hold.invariant.made ∙ ap (λ hs. table_with hold_columns None (map hold_fields hs)) (sym more);
      left = ap (λ hs. hs ++ c.next.new.self) more ∙ append_assoc seen (c.in-Some.hold.now ∷ []) c.next.new.self ∙ ap (λ hs. seen ++ hs) next ∙ c.loop-hold.invariant.left;
    }
