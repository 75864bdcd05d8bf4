use Rattle.std.proofs.Common.{◌∙◌, ap, inl, inr}
use Rattle.bureau_sql.proofs.recent.Recent.keep_book.Goals as goal

pub returns-in-Ok-clause-book : goal.returns-in-Ok-clause-book
returns-in-Ok-clause-book c = elim c.keep.ensures [
  | inl same ↦ inl (same ∙ ap (λ it. it.book) c.self.view_is)
  | inr now ↦ inr (c.in-Ok.holds, c.in-Ok.is, now)
]
