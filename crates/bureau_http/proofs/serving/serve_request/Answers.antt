use Rattle.std.proofs.Common.{ap, refl, ◌∙◌, subst}
use Rattle.std.specs.Io.KnownBytes.{Appends}
use Rattle.std.proofs.lemmas.Result.{err_from_is_err_and}
use Rattle.transfer.specs.Transfer.{AppendsFront}
use Rattle.bureau.specs.Kept.{IsKeptRun}
use Rattle.bureau_http.proofs.ExchangeFacts.{has_exchanged, same_text}
use Rattle.bureau_http.proofs.NotedFacts.{noted_as}
use Rattle.bureau_http.proofs.ServingFacts.{exit_as}
use Rattle.bureau_http.specs.Noted.{IsNotedOf}
use Rattle.bureau_http.specs.Served.{IsExchanged}
use Rattle.bureau_http.specs.Told.{answer_told, told_text}
use Rattle.bureau_http.specs.declared.fault.ConnFault.TheVariants.{Write}
use Rattle.requests.specs.Order.{is_bare}
use Rattle.requests.specs.Request.{path_of}
use Rattle.bureau_http.specs.Asked.{has_token, what_of}
use Rattle.requests.specs.NextRequest.{body_in, parts_in, request_len}
use Rattle.bureau_http.proofs.serving.serve_request.Goals as goal

pub returns-clause-exchanged : goal.returns-clause-exchanged
returns-clause-exchanged g c = record {
  told = λ ours clean this stands.
      let parts = parts_in c.args.bytes.now c.args.request.now in
      let what = what_of this.callers parts (body_in c.args.bytes.now c.args.request.now) in
      let told = c.answer_to-told.ensures.told.told ours clean this stands in
      let bare = c.is_bare.ensures in
      record {
        told = answer_told c.answer_to-told.result.0;
        has = has_exchanged (IsKeptRun g.D.Desk.tables_view c.args.desk.now c.answer_to-told.new.desk) this told.0 what (has_token parts) c.answer_to-told.result.0 (is_bare parts) c.args.closes told.1 told.2;
        failed = tt;
        noted = record {
          known = c.answer_to-told.result.1;
          is_known = told.3;
          caller = c.note_of.ensures.caller;
          shown = noted_as parts.method (path_of parts.target) this told.0 what (has_token parts) c.answer_to-told.result.0 (is_bare parts) c.args.closes c.note_of.result told.1 c.note_of.ensures.told;
          came = c.note_of.ensures.came;
        };
        written = subst (Appends (g.W.Write.contents c.args.writer.now) (g.W.Write.contents c.write.new.writer))
            (ap (λ b. told_text c.answer_to-told.result.0 b c.args.closes) bare ∙ same_text this told.0 what (has_token parts) c.answer_to-told.result.0 (is_bare parts) c.args.closes told.1)
            c.in_ok-write.ensures.ok;
      };
}

pub returns-in_err-write-clause-exchanged : goal.returns-in_err-write-clause-exchanged
returns-in_err-write-clause-exchanged g c = record {
  told = λ ours clean this stands.
      let parts = parts_in c.args.bytes.now c.args.request.now in
      let what = what_of this.callers parts (body_in c.args.bytes.now c.args.request.now) in
      let runs = IsKeptRun g.D.Desk.tables_view c.args.desk.now c.answer_to-told.new.desk in
      let told = c.answer_to-told.ensures.told.told ours clean this stands in
      let bare = c.is_bare.ensures in
      let failed = c.in_err-write.ensures.err in
      exit_as (λ r. IsExchanged runs this what (has_token parts) (is_bare parts) c.args.closes (IsNotedOf this.callers parts (request_len c.args.request.now)) (g.W.Write.contents c.args.writer.now) (g.W.Write.contents c.write.new.writer) r)
      c.from_residual.result c.in_err-write.field-0.0 Write (err_from_is_err_and c.from_residual.result c.from_residual.ensures.1) failed.0
      (record {
        told = answer_told c.answer_to-told.result.0;
        has = has_exchanged runs this told.0 what (has_token parts) c.answer_to-told.result.0 (is_bare parts) c.args.closes told.1 told.2;
        failed = refl;
        noted = tt;
        written = subst (AppendsFront (g.W.Write.contents c.args.writer.now) (g.W.Write.contents c.write.new.writer))
            (ap (λ b. told_text c.answer_to-told.result.0 b c.args.closes) bare ∙ same_text this told.0 what (has_token parts) c.answer_to-told.result.0 (is_bare parts) c.args.closes told.1)
            failed.1;
      });
}
