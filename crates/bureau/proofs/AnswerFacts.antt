-- One call answered, from what is decided and what is made.
use Rattle.std.proofs.Common.{◌≡◌, inl, inr, ◌+◌, ◌⊎◌, refl, sym, ◌∙◌, ap, subst}
use Rattle.std.specs.Prelude.{Result, Ok, Err, IsErr, IsErrOf, false}
use Rattle.catalogue.specs.Content.{Content, IsInOrder}
use Rattle.catalogue.specs.View.{Goes, IsLawful, IsOpen, Keeps, Tells, View}
use Rattle.catalogue.proofs.SourceFacts.{goes_on, no_fault, was_open}
use Rattle.bureau_store.specs.Caller.{IsAmong}
use Rattle.bureau_store.specs.Effect.{content_after}
use Rattle.bureau_store.specs.Store.{Makes, Reads, Update, update, updated}
use Rattle.bureau_store.specs.Store as store
use Rattle.bureau_store.specs.Tables.{AreInOrder, Tables}
use Rattle.bureau_store.specs.declared.caller.Caller.{Caller}
use Rattle.bureau_store.specs.declared.fault.StoreFault.{StoreFault}
use Rattle.bureau_store.specs.declared.fault.StoreFault.TheVariants.{Device}
use Rattle.bureau.specs.Answering.{IsAnswered, bureau_view}
use Rattle.bureau.specs.Call.{Call}
use Rattle.bureau.specs.Outcomes.{IsOutcome, TouchesNoMore, answer_in, effect_as, maker_of, update_of}
use Rattle.bureau.specs.Joint.{CallBy, IsStep, tables_left}
use Rattle.bureau.specs.Kept.{IsToldOfNoTables}
use Rattle.bureau.specs.Parts.{Parts}
use Rattle.bureau.specs.Outcome.{Answer, Outcome, answer_of, may_ask, no_room, outcome, plain}
use Rattle.bureau.specs.Replies.{reply_as}
use Rattle.bureau.specs.View.{view_of}
use Rattle.bureau.specs.declared.outcome.Outcome.TheVariants.{Answered, Accepted}
use Rattle.bureau.specs.declared.outcome.AcceptedChange.{AcceptedChange}
use Rattle.bureau.specs.declared.reply.Reply.{Reply}

-- what isn't made has no room
pub no_answer : {E : Type 0} (result : Result Reply E) → IsErr result → answer_in result ≡ no_room
no_answer (Ok reply) is = absurd (cc)
no_answer (Err fault) is = refl

abbrev answered_call : Caller → Call → Answer → CallBy
answered_call caller call answer = record { caller = caller; call = call; answer = answer }

-- the tables after an accepted change
after_is : (caller : Caller) (call : Call) (change : AcceptedChange) (this : Tables) → IsOutcome caller call this (Accepted change)
    → updated (update_of change) this ≡ tables_left caller (outcome (view_of caller this) call) this
after_is caller call change this comes =
    ap (λ n. updated (update (maker_of change.effect) (effect_as change.effect) n change.reply.items) this) comes.1.0
    ∙ ap (λ c. updated (update c (effect_as change.effect) ((this.last caller).number + 1) change.reply.items) this) comes.1.1
    ∙ ap (λ (o : Outcome). tables_left caller o this) comes.0

-- an accepted change is due
is_due : (caller : Caller) (call : Call) (change : AcceptedChange) (this : Tables) → IsOutcome caller call this (Accepted change) → IsAmong this.callers caller
    → store.IsDue (update_of change) this
is_due caller call change this comes among = record {
  among = subst (IsAmong this.callers) (sym comes.1.1) among;
  next = comes.1.0 ∙ ap (λ c. (this.last c).number + 1) (sym comes.1.1);
  zone = comes.1.2.0;
}

module _ {Store : Type 0} {view : View Store Tables} {HasOutgrown : Update → Store → Store → Type 0} {old mid new : Store} {caller : Caller} {Done : Type 0} where
  -- a stop may leave what it might have left, or the tables with the change
  left_of : (call : Call) (result : Result Done StoreFault) (change : AcceptedChange) → Keeps view old mid → Makes view HasOutgrown (update_of change) mid new result
      → (this : Tables) → IsOutcome caller call this (Accepted change) → view.is_ours old → view.is_clean new → view.stands old this → IsAmong this.callers caller
      → (left : Tables) → view.may_leave new left
      → view.may_leave old left ⊎ (IsOpen view old × (left ≡ tables_left caller (outcome (view_of caller this) call) this))
  left_of call result change keeps makes this comes ours clean stands among left h =
      let between = makes.goes.clean clean in
      by (makes.crash (keeps.goes.ours ours between) clean this (is_due caller call change this comes among) (keeps.stays ours between this stands) left h)
    where
      by : view.may_leave mid left ⊎ (IsOpen view mid × (left ≡ updated (update_of change) this))
          → view.may_leave old left ⊎ (IsOpen view old × (left ≡ tables_left caller (outcome (view_of caller this) call) this))
      by (inl before) = inl (keeps.leaves ours (makes.goes.clean clean) left before)
      by (inr made) = inr (was_open keeps.goes made.0, made.1 ∙ after_is caller call change this comes)

module _ {Store : Type 0} {view : View Store Tables} {HasOutgrown : Update → Store → Store → Type 0} {mid new : Store} {Done : Type 0} where
  -- what is refused leaves the tables
  refused_stands : (asked : Update) (result : Result Done StoreFault) → IsErr result → Makes view HasOutgrown asked mid new result
      → view.is_ours mid → view.is_clean new → (this : Tables) → view.stands mid this → view.stands new this
  refused_stands asked (Ok done) failed makes = absurd (cc)
  refused_stands asked (Err fault) failed makes = makes.refused

  -- what is made was made by a store that is open
  made_open : (asked : Update) (result : Result Done StoreFault) (done : Done) → result ≡ Ok done → Makes view HasOutgrown asked mid new result → IsOpen view new
  made_open asked result done same makes = makes.is_open (λ fault. no_fault done (subst (λ (r : Result Done StoreFault). IsErrOf r Device) same fault))

module _ {Store Judge : Type 0} (view : View Store Tables) (is_right : Judge → Content → Type 0) where
  -- the bureau goes on as its store does
  as_bureau : {old new : Store} (judge now : Judge) → Goes view old new → Goes (bureau_view view is_right) (record { store = old; judge = judge }) (record { store = new; judge = now })
  as_bureau judge now goes = record { clean = goes.clean; ours = goes.ours; failures_rise = goes.failures_rise }

  -- a read of the store is one of the bureau
  pub bureau_reads : {Answer : Type 0} {old new : Parts Store Judge} {answer : Result Answer StoreFault} → IsLawful view → Reads view old.store new.store answer → new.judge ≡ old.judge
      → Reads (bureau_view view is_right) old new answer
  bureau_reads lawful reads same = record {
    asks = record { keeps = (lawful.keeps _ _ reads.asks.keeps, same); cause = reads.asks.cause; is_open = reads.asks.is_open };
    refusal = reads.refusal;
  }

  -- nothing changes
  unchanged : {old mid : Store} {judge now : Judge} (call_by : CallBy) → Keeps view old mid
      → Tells view old mid (λ this. is_right judge this.content → is_right now this.content)
      → Tells view old mid (λ this. is_right judge this.content → IsStep this call_by this)
      → IsOpen view mid ⊎ IsToldOfNoTables call_by
      → IsAnswered (bureau_view view is_right) (record { store = old; judge = judge }) (record { store = mid; judge = now }) call_by
  unchanged {judge = judge} {now = now} call_by keeps right step told = record {
    goes = as_bureau judge now keeps.goes;
    closed = told;
    call_made = record {
      told = λ ours clean this stands among. (
        this,
        record {
          goes = as_bureau judge now keeps.goes;
          step = step.told ours clean this stands.0 stands.1;
          stands = (keeps.stays ours clean this stands.0, right.told ours clean this stands.0 stands.1);
          told = told;
          leaves = λ left h. inl (keeps.leaves ours clean left h);
          rests = λ rests is_open left h. rests (was_open keeps.goes is_open) left (keeps.leaves ours clean left h);
        },
      );
    };
  }

  -- nothing is decided for want of room
  pub none_decided : {old mid : Store} {judge now : Judge} {caller : Caller} (call : Call) {answer : Answer} → answer ≡ no_room
      → Keeps view old mid
      → Tells view old mid (λ this. is_right judge this.content → is_right now this.content)
      → IsAnswered (bureau_view view is_right) (record { store = old; judge = judge }) (record { store = mid; judge = now }) (answered_call caller call answer)
  none_decided call none keeps right = unchanged (answered_call _ call _) keeps right (record { told = λ ours clean this stands is. inl (none, refl) }) (inr (inl none))

  -- an answer is decided
  pub answer_decided : {old mid : Store} {judge now : Judge} {caller : Caller} (call : Call) (reply : Reply)
      → Keeps view old mid
      → Tells view old mid (λ this. is_right judge this.content → IsOutcome caller call this (Answered reply))
      → Tells view old mid (λ this. is_right judge this.content → is_right now this.content)
      → IsOpen view mid ⊎ (may_ask caller call ≡ false)
      → IsAnswered (bureau_view view is_right) (record { store = old; judge = judge }) (record { store = mid; judge = now }) (answered_call caller call (reply_as reply))
  answer_decided {old} {mid} {caller = caller} call reply keeps decided right told = unchanged (answered_call caller call (reply_as reply)) keeps right (record {
    told = λ ours clean this stands is.
        let comes = (decided.told ours clean this stands is).0 in
        inr (ap answer_of comes, ap (λ (o : Outcome). tables_left caller o this) comes);
  }) (by told)
    where
      by : IsOpen view mid ⊎ (may_ask caller call ≡ false) → IsOpen view mid ⊎ IsToldOfNoTables (answered_call caller call (reply_as reply))
      by (inl is_open) = inl is_open
      by (inr not_allowed) = inr (inr not_allowed)

  module _ {HasOutgrown : Update → Store → Store → Type 0} {old mid new : Store} {judge after : Judge} {caller : Caller} {Done : Type 0} (now : Judge) (call : Call) (result : Result Done StoreFault) (change : AcceptedChange)
      (keeps : Keeps view old mid)
      (decided : Tells view old mid (λ this. is_right judge this.content → IsOutcome caller call this (Accepted change)))
      (right : Tells view old mid (λ this. is_right judge this.content → is_right now this.content))
      (makes : Makes view HasOutgrown (update_of change) mid new result) where
    -- a change is decided, and not made
    pub change_not_made : {answer : Answer} → IsErr result → answer ≡ no_room
        → ((content : Content) → is_right now content → is_right after content)
        → IsAnswered (bureau_view view is_right) (record { store = old; judge = judge }) (record { store = new; judge = after }) (answered_call caller call answer)
    change_not_made failed none kept = record {
      goes = as_bureau judge after (goes_on keeps.goes makes.goes);
      closed = inr (inl none);
      call_made = record {
        told = λ ours clean this stands among.
            let between = makes.goes.clean clean in
            let stands_now = refused_stands (update_of change) result failed makes (keeps.goes.ours ours between) clean this (keeps.stays ours between this stands.0) in (
              this,
              record {
                goes = as_bureau judge after (goes_on keeps.goes makes.goes);
                step = inl (none, refl);
                stands = (stands_now, kept this.content (right.told ours between this stands.0 stands.1));
                told = inr (inl none);
                leaves = left_of call result change keeps makes this (decided.told ours between this stands.0 stands.1) ours clean stands.0 among;
                rests = λ rests is_open left h. makes.settled (makes.goes.ours (keeps.goes.ours ours between) clean) clean is_open this stands_now left h;
              },
            );
      };
    }

    -- a change is decided and made
    pub change_made : (done : Done) (reply : Reply) → result ≡ Ok done → reply_as reply ≡ plain 200 change.reply.items
        → ((store : Store) (tables : Tables) → view.is_ours store → IsOpen view store → view.stands store tables → AreInOrder tables)
        → ((content : Content) → IsInOrder content → IsInOrder (content_after (effect_as change.effect) content) → TouchesNoMore change.effect content → is_right now content → is_right after (content_after (effect_as change.effect) content))
        → IsAnswered (bureau_view view is_right) (record { store = old; judge = judge }) (record { store = new; judge = after }) (answered_call caller call (reply_as reply))
    change_made done reply is told order ready = record {
      goes = as_bureau judge after (goes_on keeps.goes makes.goes);
      closed = inl (made_open (update_of change) result done is makes);
      call_made = record {
        told = λ ours clean this stands among.
            let between = makes.goes.clean clean in
            let comes = decided.told ours between this stands.0 stands.1 in
            let made = rw is at makes.done in
            let standing = keeps.stays ours between this stands.0 in
            let stands_now = made (keeps.goes.ours ours between) clean this (is_due caller call change this comes among) standing in
            let still : IsOpen view new = made_open (update_of change) result done is makes in
            let in_order = (order old this ours (was_open (goes_on keeps.goes makes.goes) still) stands.0).content in
            let order_after = (order new (updated (update_of change) this) (makes.goes.ours (keeps.goes.ours ours between) clean) still stands_now).content in (
              updated (update_of change) this,
              record {
                goes = as_bureau judge after (goes_on keeps.goes makes.goes);
                step = inr (told ∙ ap answer_of comes.0, after_is caller call change this comes);
                stands = (stands_now, ready this.content in_order order_after (comes.1.2.1 in_order) (right.told ours between this stands.0 stands.1));
                told = inl still;
                leaves = left_of call result change keeps makes this (decided.told ours between this stands.0 stands.1) ours clean stands.0 among;
                rests = λ rests is_open left h. makes.settled (makes.goes.ours (keeps.goes.ours ours between) clean) clean is_open (updated (update_of change) this) stands_now left h;
              },
            );
      };
    }
