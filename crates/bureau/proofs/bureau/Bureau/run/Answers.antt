use Rattle.std.proofs.Common.{◌≡◌, ◌<◌, ◌+◌, ◌++◌, ◌∷◌, [], List, length, take, sym, ◌∙◌, ap, subst, arith}
use Rattle.std.specs.Prelude.{if◌then◌else◌}
use Rattle.std.specs.Vec.{vec_capacity, vec_len}
use Rattle.std.proofs.lemmas.List.{take_all, take_more}
use Rattle.std.proofs.lemmas.List.Elements.{All-get_or}
use Rattle.catalogue.proofs.SourceFacts.{goes_on}
use Rattle.bureau_store.specs.Caller.{IsAmong, IsProper}
use Rattle.bureau_store.specs.declared.caller.Caller.{Caller}
use Rattle.bureau.specs.Answering.{bureau_view, calls_of}
use Rattle.bureau.specs.Calls.{call_as}
use Rattle.bureau.specs.Joint.{CallBy}
use Rattle.bureau.specs.Kept.{IsKeptRun}
use Rattle.bureau.specs.Replies.{reply_as}
use Rattle.bureau.specs.declared.call.Call as declared
use Rattle.bureau.specs.declared.reply.Reply.{Reply}
use Rattle.bureau.proofs.KeptFacts.{kept_on, kept_run, one_kept, stands_after}
use Rattle.bureau.proofs.RunFacts.{calls_more, lawful_run, one_more, run_callers}
use Rattle.bureau.proofs.bureau.Bureau.run.Goals as goal

pub answer-reply-requires : goal.answer-reply-requires
answer-reply-requires g c =
    subst (λ (asked : Caller × declared.Call). IsProper asked.0) (sym c.asked-item.is)
    (All-get_or (λ (asked : Caller × declared.Call). IsProper asked.0) c.args.calls.now c.loop-asked.asked-index _ c.loop-asked-test.true c.requires)

pub loop-asked-preserved : goal.loop-asked-preserved
loop-asked-preserved g c =
    let view = bureau_view g.S.Store.tables_view g.J.Judge.is_right in
    let calls = c.args.calls.now in
    let at = c.loop-asked.asked-index in
    let asked = c.asked-item.result in
    let so_far = c.loop-asked.invariant in
    let replies = c.loop-asked.replies.items in
    let next : take (at + 1) calls ≡ take at calls ++ asked ∷ [] = take_more calls at asked c.loop-asked-test.true ∙ ap (λ (a : Caller × declared.Call). take at calls ++ a ∷ []) (sym c.asked-item.is) in
    let below : vec_len c.loop-asked.replies < vec_capacity c.loop-asked.replies = omega (arith, so_far.room, so_far.counted, c.loop-asked-test.true) in
    let pushed : c.push.new.self.items ≡ replies ++ c.answer-reply.result ∷ [] = c.push.ensures.items ∙ ap (λ b. if b then replies ++ c.answer-reply.result ∷ [] else replies) (c.push.ensures.succeeds below) in
    let call_by : CallBy = record { caller = asked.0; call = call_as asked.1; answer = reply_as c.answer-reply.result } in
    let added : calls_of (take (at + 1) calls) c.push.new.self.items ≡ calls_of (take at calls) replies ++ call_by ∷ [] =
    ap (λ (rs : List Reply). calls_of (take (at + 1) calls) rs) pushed
    ∙ ap (λ (cs : List (Caller × declared.Call)). calls_of cs (replies ++ c.answer-reply.result ∷ [])) next
    ∙ calls_more (take at calls) replies asked c.answer-reply.result so_far.answered in
    record {
      goes = goes_on so_far.goes c.answer-reply.ensures.goes;
      answered = ap length pushed ∙ one_more replies c.answer-reply.result (take at calls) asked so_far.answered ∙ ap length (sym next);
      counted = c.push.ensures.len ∙ ap (λ b. if b then vec_len c.loop-asked.replies + 1 else vec_len c.loop-asked.replies) (c.push.ensures.succeeds below) ∙ ap (λ n. n + 1) so_far.counted;
      room = omega (arith, so_far.room, c.push.ensures.capacity);
      run = record {
        told = λ ours clean this stands among.
            let before = c.answer-reply.ensures.goes.clean clean in
            let earlier = so_far.run.told ours before this stands among in
            let mid = earlier.0 in
            let by_caller = subst (λ rows. IsAmong rows asked.0) (sym (run_callers this mid _ (kept_run view c.args.self.now c.loop-asked.self this _ mid earlier.1)))
            (subst (λ (a : Caller × declared.Call). IsAmong this.callers a.0) (sym c.asked-item.is) (All-get_or (λ (a : Caller × declared.Call). IsAmong this.callers a.0) calls at _ c.loop-asked-test.true among)) in
            let step = c.answer-reply.ensures.call_made.told (so_far.goes.ours ours before) clean mid (stands_after view c.args.self.now c.loop-asked.self this _ mid earlier.1) by_caller in
            let one = one_kept view c.loop-asked.self c.answer-reply.new.self mid call_by step.0 step.1 in (
              step.0,
              subst (λ (ts : List CallBy). IsKeptRun view c.args.self.now c.answer-reply.new.self this ts step.0) (sym added)
                  (kept_on view c.args.self.now c.loop-asked.self c.answer-reply.new.self this mid step.0 _ _ earlier.1 one),
            );
      };
    }

pub returns-clause-run : goal.returns-clause-run
returns-clause-run g c =
    let view = bureau_view g.S.Store.tables_view g.J.Judge.is_right in
    let all = calls_of c.args.calls.now c.loop-asked.replies.items in
    let whole = take_all c.loop-asked.asked-index c.args.calls.now c.loop-asked-test.false in
    record {
      told = λ ours clean this stands among.
          let ran = c.loop-asked.invariant.run.told ours clean this stands among in
          let kept = subst (λ (cs : List (Caller × declared.Call)). IsKeptRun view c.args.self.now c.loop-asked.self this (calls_of cs c.loop-asked.replies.items) ran.0) whole ran.1 in
          (ran.0, lawful_run view c.args.self.now c.loop-asked.self this all ran.0 kept);
    }
