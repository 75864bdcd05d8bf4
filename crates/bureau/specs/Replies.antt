-- A reply as that of the definitions.
use Rattle.bureau.specs.Outcome.{Answer}
use Rattle.bureau.specs.declared.reply.Reply.{Reply}

abbrev pub reply_as : Reply → Answer
reply_as reply = record { status = reply.status; json = reply.json; body = reply.body }
