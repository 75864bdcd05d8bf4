use Rattle.std.proofs.Common.{◌++◌, length, rules}
use Rattle.std.proofs.lemmas.List.{length-append}
use Rattle.std.specs.Prelude.{IfOk}
use Rattle.connections.specs.Preview.{IsPreview}
use Rattle.connections.proofs.PreviewFacts.{ends_large, headed}
use Rattle.connections.proofs.preview.preview_of.Goals as goal

pub returns-in-Ok-Head : goal.returns-in-Ok-Head
returns-in-Ok-Head c =
    headed (c.args.came.now ++ c.args.unread.now) c.new-intake.result c.read_front.new.intake c.split_at.result.0.now _ _ c.in-Ok-Head.field-0 c.in-Ok-Head.len c.in_ok-all.all
    (λ b. IfOk c.by_head.result (IsPreview b (length c.args.unread.now)))
    c.new-intake.ensures c.chain.ensures.bytes c.in-Ok-Head.ensures.kept (search rules) c.in-Ok-Head.ensures.front c.in-Ok-Head.ensures.within (search rules) (search (rules, length-append)) c.by_head.ensures

pub returns-in-Ok-TooLarge : goal.returns-in-Ok-TooLarge
returns-in-Ok-TooLarge c =
    ends_large (c.args.came.now ++ c.args.unread.now) c.new.result.items (length c.args.unread.now) (search rules) c.new.ensures.items
