use Rattle.std.proofs.Common.{◌∙◌, ℕ, List, ap, subst, sym}
use Rattle.chains.specs.Frames.{FrameLists}
use Rattle.chain_cache.specs.Cache.{AreFrames, CacheLists, MayBeMarked, untouched}
use Rattle.chain_cache.proofs.DropFacts.{right_after, right_kept}
use Rattle.chain_cache.proofs.SurveyFacts.{marked_right, marked_stays}
use Rattle.chain_cache.proofs.cache.ChainCacheJudge.drop_touched.Goals as goal

pub returns-clause-stays : goal.returns-clause-stays
returns-clause-stays g c = λ content right.
    let P : List (List ℕ × FrameLists) → Type 0 = λ entries. AreFrames content entries in
    let M : CacheLists → Type 0 = λ cache. MayBeMarked c.args.ids.now cache.surveys c.mark.new.self in
    let kept = ap (λ frames. frames.entries) c.drop_among.ensures ∙ ap (λ cache. untouched c.args.ids.now cache.entries) c.self.view_is in
    record {
      frames = subst P (sym kept) (right_kept c.args.ids.now c.args.self.now.entries content right.frames);
      surveys = marked_stays c.args.ids.now c.args.self.now.surveys c.mark.new.self (subst M c.self.view_is c.mark.ensures) content right.surveys;
    }

pub returns-clause-right : goal.returns-clause-right
returns-clause-right g c = λ old new ordered_old ordered_new right agree.
    let P : List (List ℕ × FrameLists) → Type 0 = λ entries. AreFrames new entries in
    let M : CacheLists → Type 0 = λ cache. MayBeMarked c.args.ids.now cache.surveys c.mark.new.self in
    let kept = ap (λ frames. frames.entries) c.drop_among.ensures ∙ ap (λ cache. untouched c.args.ids.now cache.entries) c.self.view_is in
    record {
      frames = subst P (sym kept) (right_after c.args.ids.now c.args.self.now.entries old new ordered_old ordered_new right.frames agree);
      surveys = marked_right c.args.ids.now c.args.self.now.surveys c.mark.new.self (subst M c.self.view_is c.mark.ensures) old new ordered_new agree right.surveys;
    }

pub returns-clause-surveys : goal.returns-clause-surveys
returns-clause-surveys g c =
    let M : CacheLists → Type 0 = λ cache. MayBeMarked c.args.ids.now cache.surveys c.mark.new.self in
    subst M c.self.view_is c.mark.ensures
