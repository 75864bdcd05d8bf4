use Rattle.std.proofs.Common.{IsTrue, inl, inr, rules, subst, sym}
use Rattle.sqlite_store.specs.FileStore.{recovers, view}
use Rattle.sqlite_trees.specs.View.{View}
use Rattle.store_runs.proofs.EndFacts.{left_trees}
use Rattle.store_runs.proofs.ended.copy_log.Goals as goal

pub returns : goal.returns
returns g c = record {
  clean = search rules;
  left = λ clean numbered sound kept left may.
      let still : IsTrue (view c.checkpoint.new.self).is_numbered = elim kept [
        | inl is_open ↦ subst (λ (v : View). IsTrue v.is_numbered) (sym (c.checkpoint.ensures.same is_open)) numbered
        | inr is ↦ is
      ] in
      let before = c.checkpoint.ensures.quiet.outcomes in
      left_trees c.checkpoint.new.self (recovers c.args.store) still (λ trees found. sound trees (before trees found)) before left may;
}
