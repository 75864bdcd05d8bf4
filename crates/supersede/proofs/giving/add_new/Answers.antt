use Rattle.std.proofs.Common.{◌≡◌, ◌∙◌, ◌++◌, ◌∷◌, [], sym, ap, subst, rules}
use Rattle.supersede.specs.Reach.{Alike, Continues}
use Rattle.supersede.proofs.ReachFacts.{alike_with, continues_with, found_more}
use Rattle.supersede.proofs.giving.add_new.Goals as goal
use Rattle.supersede.proofs.giving.add_new.Goals.{then-branch+in_ok-push, else-branch}

pub loop-id-preserved : goal.loop-id-preserved
loop-id-preserved c = record {
  found = found_more c.args.found.now.keys c.loop-id.found.keys c.insert.new.self.keys c.args.ids.now c.loop-id.id-index c.id-item.result
      c.loop-id-test.true c.id-item.is c.loop-id.invariant.found c.in_ok-insert.ensures.keys;
  continues = elim c.if-branch.branch [
    | then-branch+in_ok-push w ↦
        subst (Continues c.args.order.now.items) (sym (ap (λ order. order.items) w.order-is ∙ w.in_ok-push.ensures.items))
        (continues_with c.args.order.now.items c.loop-id.order.items c.id-item.result c.loop-id.invariant.continues)
    | else-branch w ↦ subst (Continues c.args.order.now.items) (sym (ap (λ order. order.items) w.order-is)) c.loop-id.invariant.continues
  ];
  alike = λ begun. elim c.if-branch.branch [
    | then-branch+in_ok-push w ↦
        subst (Alike c.insert.new.self.keys) (sym (ap (λ order. order.items) w.order-is ∙ w.in_ok-push.ensures.items))
        (subst (λ keys. Alike keys (c.loop-id.order.items ++ c.id-item.result ∷ [])) (sym c.in_ok-insert.ensures.keys)
        (alike_with c.loop-id.found.keys c.loop-id.order.items c.id-item.result (c.loop-id.invariant.alike begun)))
    | else-branch w ↦
        let stays : c.insert.new.self.keys ≡ c.loop-id.found.keys = search rules in
        subst (Alike c.insert.new.self.keys) (sym (ap (λ order. order.items) w.order-is))
        (subst (λ keys. Alike keys c.loop-id.order.items) (sym stays) (c.loop-id.invariant.alike begun))
  ];
}
