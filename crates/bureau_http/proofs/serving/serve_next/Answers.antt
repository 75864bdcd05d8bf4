use Rattle.std.proofs.Common.{refl, sym, ◌∙◌, Ok, subst, drop, ◌++◌}
use Rattle.std.specs.Io.KnownBytes.{Keeps, prepend_known}
use Rattle.std.proofs.lemmas.Result.{err_from_is_err_and}
use Rattle.requests.specs.NextRequest.{IsAt, IsNext, IsReadAs, NextLies, body_in, parts_in, request_len}
use Rattle.requests.specs.Order.{is_bare}
use Rattle.std.proofs.KnownBytes.{Appends-nil}
use Rattle.bureau.proofs.KeptFacts.{idle}
use Rattle.bureau_http.specs.ConnFault.{of_transfer}
use Rattle.bureau_http.specs.Asked.{has_token, what_of}
use Rattle.bureau.specs.Kept.{IsKeptRun}
use Rattle.transfer.specs.Transfer.{AppendsFront}
use Rattle.bureau_http.specs.Noted.{IsNotedOf}
use Rattle.bureau_http.specs.Served.{IfEnded, IsExchanged, IsFailedWrite, Serves}
use Rattle.bureau_http.specs.declared.fault.ConnFault.TheVariants.{Write}
use Rattle.bureau_http.proofs.NotedFacts.{left_after, len_is, refused_noted, stays_with, whole_last, whole_stays}
use Rattle.bureau_http.proofs.RestFacts.{some_taken}
use Rattle.bureau_http.proofs.ServingFacts.{also_asked, exit_as, head_refused, map_some, no_end, read_failed, unfinished_of, whole_cut}
use Rattle.bureau_http.proofs.serving.serve_next.Goals as goal

pub returns-in_err-write-in-Refused-clause-next : goal.returns-in_err-write-in-Refused-clause-next
returns-in_err-write-in-Refused-clause-next g c = record {
  told = λ ours clean this stands.
      let failed = c.in_err-write-in-Refused.ensures.err in
      map_some _ c.in_ok-read_next.ensures.next (λ bytes read.
      let as_read = subst (λ t. IsReadAs IsNext c.read_next.new.intake (g.R.Read.remaining c.read_next.new.reader) t bytes) c.in-Refused.is read in
      exit_as (λ r. Serves (IsKeptRun g.D.Desk.tables_view c.args.desk.now c.args.desk.now) this c.args.ordinal c.read_next.new.intake (g.R.Read.remaining c.read_next.new.reader) (g.W.Write.contents c.args.writer.now) (g.W.Write.contents c.write.new.writer) r bytes)
      c.from_residual-in_err-write-in-Refused.result c.in_err-write-in-Refused.field-0.0 Write
      (err_from_is_err_and c.from_residual-in_err-write-in-Refused.result c.from_residual-in_err-write-in-Refused.ensures.1) failed.0
      (also_asked _ this c.args.ordinal bytes _ (head_refused (IsKeptRun g.D.Desk.tables_view c.args.desk.now c.args.desk.now) this c.args.ordinal c.in-Refused.refused.refusal c.in-Refused.refused.is_bare bytes
      (AppendsFront (g.W.Write.contents c.args.writer.now) (g.W.Write.contents c.write.new.writer)) (refl, idle g.D.Desk.tables_view c.args.desk.now this stands) as_read.next failed.1)));
}

pub returns-in_ok-write-in-Refused-clause-next : goal.returns-in_ok-write-in-Refused-clause-next
returns-in_ok-write-in-Refused-clause-next g c = record {
  told = λ ours clean this stands.
      map_some _ c.in_ok-read_next.ensures.next (λ bytes read.
      let as_read = subst (λ t. IsReadAs IsNext c.read_next.new.intake (g.R.Read.remaining c.read_next.new.reader) t bytes) c.in-Refused.is read in
      refused_noted (IsKeptRun g.D.Desk.tables_view c.args.desk.now c.args.desk.now) this c.args.ordinal c.in-Refused.refused.refusal c.in-Refused.refused.is_bare bytes c.read_next.new.intake as_read.more
      (g.W.Write.contents c.args.writer.now) (g.W.Write.contents c.write.new.writer) c.note_refused.result (refl, idle g.D.Desk.tables_view c.args.desk.now this stands) as_read.next as_read.bytes_are
      c.in_ok-write-in-Refused.ensures.ok c.note_refused.ensures.caller c.note_refused.ensures.told (c.note_refused.ensures.came ∙ c.len.ensures));
}

pub returns-in_err-note-in-Whole-clause-next : goal.returns-in_err-note-in-Whole-clause-next
returns-in_err-note-in-Whole-clause-next g c = record {
  told = λ ours clean this stands.
      let request = c.in-Whole.request in
      let held = c.read_next.new.intake in
      let parts = parts_in held request in
      let done = subst (λ h. IsExchanged (IsKeptRun g.D.Desk.tables_view c.args.desk.now c.serve_request.new.desk) this (what_of this.callers (parts_in h request) (body_in h request)) (has_token (parts_in h request)) (is_bare (parts_in h request))
      c.ends_after-closes.result (IsNotedOf this.callers (parts_in h request) (request_len request)) (g.W.Write.contents c.args.writer.now) (g.W.Write.contents c.serve_request.new.writer) c.serve_request.result)
      c.bytes.ensures (c.serve_request.ensures.exchanged.told ours clean this stands) in
      let ends = c.ends_after-closes.ensures in
      map_some _ c.in_ok-read_next.ensures.next (λ bytes read.
      let as_read = subst (λ t. IsReadAs IsNext held (g.R.Read.remaining c.read_next.new.reader) t bytes) c.in-Whole.is read in
      let cut = whole_cut (IsKeptRun g.D.Desk.tables_view c.args.desk.now c.serve_request.new.desk) this c.args.ordinal bytes parts (body_in held request) (drop (request_len request) held ++ as_read.more)
      c.ends_after-closes.result (g.W.Write.contents c.args.writer.now) (g.W.Write.contents c.serve_request.new.writer) (IsNotedOf this.callers parts (request_len request)) c.serve_request.result
      c.in_err-note-in-Whole.field-0.0 as_read.next ends c.in_err-note-in-Whole.was done in
      exit_as (λ r. Serves (IsKeptRun g.D.Desk.tables_view c.args.desk.now c.serve_request.new.desk) this c.args.ordinal held (g.R.Read.remaining c.read_next.new.reader) (g.W.Write.contents c.args.writer.now) (g.W.Write.contents c.serve_request.new.writer) r bytes)
      c.from_residual-in_err-note-in-Whole.result c.in_err-note-in-Whole.field-0.0 Write
      (err_from_is_err_and c.from_residual-in_err-note-in-Whole.result c.from_residual-in_err-note-in-Whole.ensures.1) cut.0 cut.1);
}

pub returns-in_err-read_next-clause-next : goal.returns-in_err-read_next-clause-next
returns-in_err-read_next-clause-next g c = record {
  told = λ ours clean this stands.
      let runs = IsKeptRun g.D.Desk.tables_view c.args.desk.now c.args.desk.now in
      let held = c.read_next.new.intake in
      let left = g.R.Read.remaining c.read_next.new.reader in
      let kept = g.W.Write.contents c.args.writer.now in
      let fault = c.in_err-read_next.field-0.0 in
      map_some _ (unfinished_of _ held left c.in_err-read_next.ensures.kept c.in_err-read_next.ensures.unfinished) (λ bytes unfinished.
      exit_as (λ r. Serves runs this c.args.ordinal held left kept kept r bytes) c.from_residual.result (of_transfer fault) (of_transfer fault)
      (err_from_is_err_and c.from_residual.result c.from_residual.ensures.1) refl
      (read_failed runs this c.args.ordinal held left kept kept bytes fault (refl, idle g.D.Desk.tables_view c.args.desk.now this stands) (Appends-nil kept) unfinished));
}

pub returns-then-closes-clause-next : goal.returns-then-closes-clause-next
returns-then-closes-clause-next g c = record {
  told = λ ours clean this stands.
      let request = c.in-Whole.request in
      let held = c.read_next.new.intake in
      let parts = parts_in held request in
      let runs = IsKeptRun g.D.Desk.tables_view c.args.desk.now c.serve_request.new.desk in
      let at : IsAt held request = subst (λ t. NextLies t held) c.in-Whole.is c.in_ok-read_next.ensures.within in
      let done = subst (λ h. IsExchanged runs this (what_of this.callers (parts_in h request) (body_in h request)) (has_token (parts_in h request)) (is_bare (parts_in h request))
      c.ends_after-closes.result (IsNotedOf this.callers (parts_in h request) (request_len request)) (g.W.Write.contents c.args.writer.now) (g.W.Write.contents c.serve_request.new.writer) c.serve_request.result)
      c.bytes.ensures (c.serve_request.ensures.exchanged.told ours clean this stands) in
      map_some _ c.in_ok-read_next.ensures.next (λ bytes read.
      let as_read = subst (λ t. IsReadAs IsNext held (g.R.Read.remaining c.read_next.new.reader) t bytes) c.in-Whole.is read in
      whole_last runs this c.args.ordinal bytes parts (body_in held request) (drop (request_len request) held ++ as_read.more)
      (g.W.Write.contents c.args.writer.now) (g.W.Write.contents c.serve_request.new.writer) c.in_ok-note-in-Whole.note (request_len request) as_read.next
      (len_is (request_len request) held as_read.more bytes at.whole as_read.bytes_are)
      (sym c.if-closes.true ∙ c.ends_after-closes.ensures)
      (subst (λ b. IsExchanged runs this (what_of this.callers parts (body_in held request)) (has_token parts) (is_bare parts) b (IsNotedOf this.callers parts (request_len request)) (g.W.Write.contents c.args.writer.now) (g.W.Write.contents c.serve_request.new.writer) (Ok c.in_ok-note-in-Whole.note))
      c.if-closes.true
      (subst (λ r. IsExchanged runs this (what_of this.callers parts (body_in held request)) (has_token parts) (is_bare parts) c.ends_after-closes.result (IsNotedOf this.callers parts (request_len request)) (g.W.Write.contents c.args.writer.now) (g.W.Write.contents c.serve_request.new.writer) r)
      c.in_ok-note-in-Whole.was done)));
}

pub returns-else-closes-clause-next : goal.returns-else-closes-clause-next
returns-else-closes-clause-next g c = record {
  told = λ ours clean this stands.
      let request = c.in-Whole.request in
      let held = c.read_next.new.intake in
      let parts = parts_in held request in
      let runs = IsKeptRun g.D.Desk.tables_view c.args.desk.now c.serve_request.new.desk in
      let at : IsAt held request = subst (λ t. NextLies t held) c.in-Whole.is c.in_ok-read_next.ensures.within in
      let done = subst (λ h. IsExchanged runs this (what_of this.callers (parts_in h request) (body_in h request)) (has_token (parts_in h request)) (is_bare (parts_in h request))
      c.ends_after-closes.result (IsNotedOf this.callers (parts_in h request) (request_len request)) (g.W.Write.contents c.args.writer.now) (g.W.Write.contents c.serve_request.new.writer) c.serve_request.result)
      c.bytes.ensures (c.serve_request.ensures.exchanged.told ours clean this stands) in
      map_some _ c.in_ok-read_next.ensures.next (λ bytes read.
      let as_read = subst (λ t. IsReadAs IsNext held (g.R.Read.remaining c.read_next.new.reader) t bytes) c.in-Whole.is read in
      stays_with runs this c.args.ordinal bytes (drop (request_len request) held ++ as_read.more) c.take_off.new.intake (g.R.Read.remaining c.read_next.new.reader)
      (g.W.Write.contents c.args.writer.now) (g.W.Write.contents c.serve_request.new.writer) c.in_ok-note-in-Whole.note
      (left_after (request_len request) held c.take_off.new.intake as_read.more (g.R.Read.remaining c.read_next.new.reader) c.take_off.ensures as_read.left_are)
      (whole_stays runs this c.args.ordinal bytes parts (body_in held request) (drop (request_len request) held ++ as_read.more)
      (g.W.Write.contents c.args.writer.now) (g.W.Write.contents c.serve_request.new.writer) c.in_ok-note-in-Whole.note (request_len request) as_read.next
      (len_is (request_len request) held as_read.more bytes at.whole as_read.bytes_are)
      (sym c.if-closes.false ∙ c.ends_after-closes.ensures)
      (subst (λ b. IsExchanged runs this (what_of this.callers parts (body_in held request)) (has_token parts) (is_bare parts) b (IsNotedOf this.callers parts (request_len request)) (g.W.Write.contents c.args.writer.now) (g.W.Write.contents c.serve_request.new.writer) (Ok c.in_ok-note-in-Whole.note))
      c.if-closes.false
      (subst (λ r. IsExchanged runs this (what_of this.callers parts (body_in held request)) (has_token parts) (is_bare parts) c.ends_after-closes.result (IsNotedOf this.callers parts (request_len request)) (g.W.Write.contents c.args.writer.now) (g.W.Write.contents c.serve_request.new.writer) r)
      c.in_ok-note-in-Whole.was done))));
}

-- ---- where the input ended, the bytes stay

pub returns-in_err-read_next-clause-kept : goal.returns-in_err-read_next-clause-kept
returns-in_err-read_next-clause-kept g c = record {
  told = λ ours clean this stands.
      let fault = c.in_err-read_next.field-0.0 in
      let kept = Keeps (prepend_known c.args.intake.now (g.R.Read.remaining c.args.reader.now)) (prepend_known c.read_next.new.intake (g.R.Read.remaining c.read_next.new.reader)) in
      exit_as (λ r. IfEnded r kept) c.from_residual.result (of_transfer fault) (of_transfer fault)
      (err_from_is_err_and c.from_residual.result c.from_residual.ensures.1) refl (no_end fault kept);
}

pub returns-in_err-write-in-Refused-clause-kept : goal.returns-in_err-write-in-Refused-clause-kept
returns-in_err-write-in-Refused-clause-kept g c = record {
  told = λ ours clean this stands.
      let kept = Keeps (prepend_known c.args.intake.now (g.R.Read.remaining c.args.reader.now)) (prepend_known c.read_next.new.intake (g.R.Read.remaining c.read_next.new.reader)) in
      exit_as (λ r. IfEnded r kept) c.from_residual-in_err-write-in-Refused.result c.in_err-write-in-Refused.field-0.0 Write
      (err_from_is_err_and c.from_residual-in_err-write-in-Refused.result c.from_residual-in_err-write-in-Refused.ensures.1) c.in_err-write-in-Refused.ensures.err.0 tt;
}

pub returns-in_err-note-in-Whole-clause-kept : goal.returns-in_err-note-in-Whole-clause-kept
returns-in_err-note-in-Whole-clause-kept g c = record {
  told = λ ours clean this stands.
      let kept = Keeps (prepend_known c.args.intake.now (g.R.Read.remaining c.args.reader.now)) (prepend_known c.read_next.new.intake (g.R.Read.remaining c.read_next.new.reader)) in
      let failed = subst IsFailedWrite c.in_err-note-in-Whole.was (c.serve_request.ensures.exchanged.told ours clean this stands).failed in
      exit_as (λ r. IfEnded r kept) c.from_residual-in_err-note-in-Whole.result c.in_err-note-in-Whole.field-0.0 Write
      (err_from_is_err_and c.from_residual-in_err-note-in-Whole.result c.from_residual-in_err-note-in-Whole.ensures.1) failed tt;
}

-- ---- what is left

pub returns-then-closes-clause-rest : goal.returns-then-closes-clause-rest
returns-then-closes-clause-rest g c =
    some_taken (prepend_known c.args.intake.now (g.R.Read.remaining c.args.reader.now)) (g.R.Read.remaining c.read_next.new.reader) c.read_next.new.intake c.take_off.new.intake (request_len c.in-Whole.request)
    c.read_next.ensures.kept c.take_off.ensures

pub returns-else-closes-clause-rest : goal.returns-else-closes-clause-rest
returns-else-closes-clause-rest g c =
    some_taken (prepend_known c.args.intake.now (g.R.Read.remaining c.args.reader.now)) (g.R.Read.remaining c.read_next.new.reader) c.read_next.new.intake c.take_off.new.intake (request_len c.in-Whole.request)
    c.read_next.ensures.kept c.take_off.ensures
