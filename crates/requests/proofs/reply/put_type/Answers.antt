use Rattle.std.proofs.Common.{◌++◌, codes, ap, ◌∙◌}
use Rattle.requests.specs.Reply.{line}
use Rattle.requests.proofs.reply.put_type.Goals as goal

pub returns-clause-text : goal.returns-clause-text
returns-clause-text c =
    c.put_line.ensures.text ∙ ap (λ value. c.args.room.now.items ++ line (codes "content-type: ") value) c.type_name.ensures.text
