use Rattle.std.proofs.Common.{◌∙◌, ◌++◌, ◌∷◌, [], List, ℕ, sym, subst}
use Rattle.verdicts.specs.Indices.{AreIndicesOf}
use Rattle.listings.proofs.ConditionalFacts.{where_installed}
use Rattle.verdicts.proofs.IndexFacts.{indices_more, indices_skip}
use Rattle.listings.proofs.conditional.push_index_where.Goals as goal

pub returns-in_ok-push : goal.returns-in_ok-push
returns-in_ok-push c = λ ids are.
    let here = sym c.installed.ensures ∙ c.if-not-installed.false in
    let P : List (List ℕ) → Type 0 = λ l. AreIndicesOf c.args.members.now (ids ++ l) c.push.new.self.items in
    let Q : List ℕ → Type 0 = λ l. AreIndicesOf c.args.members.now (ids ++ c.args.cond.now.need ∷ []) l in
    subst P (sym (where_installed c.args.zone.now c.args.cond.now here))
    (subst Q (sym c.in_ok-push.ensures.items) (indices_more c.args.members.now ids c.args.indices.now.items c.args.cond.now.need c.in-Some.index c.requires are c.in-Some.ensures.some))

pub returns-in_default : goal.returns-in_default
returns-in_default c = λ ids are.
    let here = sym c.installed.ensures ∙ c.if-not-installed.false in
    let P : List (List ℕ) → Type 0 = λ l. AreIndicesOf c.args.members.now (ids ++ l) c.args.indices.now.items in
    subst P (sym (where_installed c.args.zone.now c.args.cond.now here))
    (indices_skip c.args.members.now ids c.args.indices.now.items c.args.cond.now.need are c.in_default.ensures.none)
