use Rattle.std.proofs.Common.{◌∙◌, ap}
use Rattle.std.proofs.lemmas.Str.{IsUtf8-from_ascii}
use Rattle.httparse.specs.Spans.{span_bytes}
use Rattle.requests.specs.Request.{path_of}
use Rattle.requests.proofs.RequestFacts.{path_ascii}
use Rattle.requests.proofs.head.Head.action.Goals as goal

pub unreachable-requires : goal.unreachable-requires
unreachable-requires c =
    c.in-Err.ensures.cases.0 (IsUtf8-from_ascii _
    (path_ascii (span_bytes c.args.bytes.now c.args.self.now.target) _ c.requires.path (c.cut.ensures.before ∙ ap path_of c.of.ensures)))
