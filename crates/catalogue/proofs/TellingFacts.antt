-- What calls of a source tell of its content, one after the other.
use Rattle.catalogue.specs.Content.{Content, IsInOrder}
use Rattle.catalogue.specs.View.{Goes, IsLawful, IsOpen, Keeps, Tells, View}
use Rattle.catalogue.proofs.SourceFacts.{goes_on, told_both, told_later, told_so, told_sooner, was_open}

-- a source that has told this so far: it holds what it held, and is open if it was
pub record HasTold {Source : Type 0} (view : View Source Content) (old new : Source) (Fact : Content → Type 0) : Type 0 where
  pub keeps : view.keeps old new
  pub still_open : IsOpen view old → IsOpen view new
  pub told : Tells view old new Fact

module _ {Source : Type 0} {view : View Source Content} where
  -- what follows from the facts of two calls is told by both together
  pub told_by_two : {a b c : Source} {Fact Later Other : Content → Type 0} → Keeps view a b → Keeps view b c → Tells view a b Fact → Tells view b c Later
      → ((content : Content) → Fact content → Later content → Other content) → Tells view a c Other
  told_by_two first second sooner later so =
      told_so (told_both (told_sooner sooner second) (told_later first second later)) (λ content facts. so content facts.0 facts.1)

  -- what follows from a fact of a content in order is told with the fact, of a source that stays open
  pub told_in_order : {a b : Source} {Fact Other : Content → Type 0}
      → ((source : Source) (content : Content) → view.is_ours source → IsOpen view source → view.stands source content → IsInOrder content)
      → Goes view a b → IsOpen view b → Tells view a b Fact → ((content : Content) → IsInOrder content → Fact content → Other content) → Tells view a b Other
  told_in_order {a} in_order goes standing tells so = record {
    told = λ ours clean content stands. so content (in_order a content ours (was_open goes standing) stands) (tells.told ours clean content stands);
  }

  -- so is what follows from the facts of two calls
  pub told_in_order_by_two : {a b c : Source} {Fact Later Other : Content → Type 0}
      → ((source : Source) (content : Content) → view.is_ours source → IsOpen view source → view.stands source content → IsInOrder content)
      → Keeps view a b → Keeps view b c → IsOpen view c → Tells view a b Fact → Tells view b c Later
      → ((content : Content) → IsInOrder content → Fact content → Later content → Other content) → Tells view a c Other
  told_in_order_by_two in_order first second standing sooner later so =
      told_in_order in_order (goes_on first.goes second.goes) standing (told_both (told_sooner sooner second) (told_later first second later)) (λ content ordered facts.
      so content ordered facts.0 facts.1)

  -- after one more call a source has told what follows from both
  pub tells_on : {a b c : Source} {Fact Later Other : Content → Type 0} → IsLawful view → HasTold view a b Fact → view.keeps b c → (IsOpen view b → IsOpen view c) → Tells view b c Later
      → ((content : Content) → Fact content → Later content → Other content) → HasTold view a c Other
  tells_on {a} {b} {c} lawful before keeps opens later so = record {
    keeps = lawful.on a b c before.keeps keeps;
    still_open = λ standing. opens (before.still_open standing);
    told = told_by_two (lawful.keeps a b before.keeps) (lawful.keeps b c keeps) before.told later so;
  }
