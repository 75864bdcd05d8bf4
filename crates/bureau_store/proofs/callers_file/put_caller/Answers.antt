use Rattle.std.proofs.Common.{◌∙◌, ◌||◌, ap}
use Rattle.std.specs.Str.{bytes_eq}
use Rattle.bureau_store.specs.Gathered.{has_token}
use Rattle.bureau_store.proofs.CallerFacts.{token_put}
use Rattle.bureau_store.proofs.callers_file.put_caller.Goals as goal

pub returns-clause-tokens : goal.returns-clause-tokens
returns-clause-tokens c = λ token.
    ap (λ keys. has_token (λ text. text.items) keys token) c.in_ok-insert.ensures.keys
    ∙ token_put (λ text. text.items) c.args.tokens.now.keys c.into_vec.result token
    ∙ ap (λ text. bytes_eq token text || has_token (λ text. text.items) c.args.tokens.now.keys token) (c.into_vec.ensures ∙ c.in_ok-copy.ensures)
