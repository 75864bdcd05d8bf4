-- A turn in which a request is answered.
use Rattle.std.proofs.Common.{◌≡◌, inr, ℕ, ◌+◌, List, [], ◌++◌, Some, ap, ◌∙◌, subst, append-nil}
use Rattle.std.specs.Io.KnownBytes.{Appends}
use Rattle.log_lines.specs.declared.note.Note.{Note}
use Rattle.bureau_store.specs.Tables.{Tables}
use Rattle.bureau.specs.Joint.{CallBy}
use Rattle.bureau_http.specs.Connection.{IsLast}
use Rattle.bureau_http.specs.Exchange.{exchange_text}
use Rattle.bureau_http.specs.Served.{ExchangedAs}
use Rattle.connections.specs.Items.{IsReady}
use Rattle.connections.specs.Turns.{Turns}
use Rattle.connections.specs.declared.connection.Connection.{Connection}
use Rattle.connections.specs.declared.connection.Phase.TheVariants.{Last}
use Rattle.connections.specs.declared.connection.Turn.TheVariants.{Answered}

-- the request was the last one, and its reply has to go out
pub last_answered : (Runs : Tables → List CallBy → Tables → Type 0) (this : Tables) (old new : Connection) (taken before text : List ℕ) (note : Note)
    → IsReady old → taken ≡ old.held → before ≡ []
    → ExchangedAs Runs this (IsLast this.callers old.ordinal (taken ++ [])) (Appends (Some before) (Some text)) (taken ++ []) note
    → new ≡ record { held = []; out = text; note = Some note; ordinal = old.ordinal; phase = Last }
    → Turns Runs this Answered old new
last_answered Runs this old new taken before text note ready is_taken none served is_new =
    let done = subst (λ (b : List ℕ). ExchangedAs Runs this (IsLast this.callers old.ordinal b) (Appends (Some before) (Some text)) b note) (append-nil taken ∙ is_taken) served in (
      done.0.exchange,
      done.0.has,
      (
        ready,
        done.0.has.answered,
        (note, done.1, inr (done.0.asked, is_new ∙ ap (λ (l : List ℕ). record { held = []; out = l; note = Some note; ordinal = old.ordinal; phase = Last }) (done.0.written ∙ ap (λ (l : List ℕ). l ++ exchange_text done.0.exchange) none))),
      ),
    )
