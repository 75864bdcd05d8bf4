use Rattle.std.proofs.Common.{◌≡◌, ◌++◌}
use Rattle.transfer.specs.Transfer.{AppendsFront}
use Rattle.std.proofs.lemmas.Result.{err_from_is_err_and}
use Rattle.bureau_http.specs.declared.fault.ConnFault.TheVariants.{Write as NotWritten}
use Rattle.transfer.proofs.FrontFacts.{front_first, front_second}
use Rattle.bureau_http.proofs.ReplyFacts.{exits, map_err}
use Rattle.bureau_http.proofs.reply.write_both.Goals as goal

pub returns-in_err-write_text-clause-err : goal.returns-in_err-write_text-clause-err
returns-in_err-write_text-clause-err g c =
    let told = c.in_err-write_text.ensures.err in
    exits (λ fault. (fault ≡ NotWritten) × AppendsFront (g.W.Write.contents c.args.writer.now) (g.W.Write.contents c.write_text.new.writer) (c.args.head.now ++ c.args.body.now))
    c.from_residual.result c.in_err-write_text.field-0.0 (err_from_is_err_and c.from_residual.result c.from_residual.ensures.1)
    (told.0, front_first _ _ c.args.head.now c.args.body.now told.1)

pub returns-then-body-head-clause-err : goal.returns-then-body-head-clause-err
returns-then-body-head-clause-err g c =
    map_err c.write_text-then-body-head.result c.write_text-then-body-head.ensures.err
    (λ fault told. (told.0, front_second _ _ _ c.args.head.now c.args.body.now (c.in_ok-write_text.ensures.ok) told.1))
