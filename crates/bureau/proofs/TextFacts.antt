-- Texts of what is published, from what was found.
use Rattle.std.proofs.Common.{◌≡◌, ℕ, List, ◌∙◌}
use Rattle.std.specs.Prelude.{IfOk, Ok, Result}
use Rattle.std.specs.Global.{Vec}
use Rattle.catalogue.specs.Content.{Content}
use Rattle.catalogue.specs.View.{IsLawful, MayAsk, Tells, View}
use Rattle.catalogue.specs.declared.fault.SourceFault.{SourceFault}
use Rattle.catalogue.specs.declared.fault.SourceFault.TheVariants.{Device}
use Rattle.catalogue.proofs.SourceFacts.{no_fault, told_both, told_so, told_sooner}
use Rattle.verdicts.proofs.AskingFacts.{failed_since}
use Rattle.bureau.specs.Reading.{TellsText}
use Rattle.bureau.proofs.SeenFacts.{seen, then_seen, told_on}

module _ {Source Judge Found : Type 0} {view : View Source Content} (is_right : Judge → Content → Type 0) where
  -- what is written of what was found
  pub written : {a b : Source} (before after : Judge) (found : Found) (text : Vec ℕ) (Says : Content → Type 0) (text_of : Content → List ℕ)
      → MayAsk view {Answer = Found} Device a b (Ok found) → Tells view a b (λ content. is_right before content → Says content)
      → Tells view a b (λ content. is_right before content → is_right after content) → ((content : Content) → Says content → text.items ≡ text_of content)
      → TellsText view is_right a b before after (Ok text) text_of
  written before after found text Says text_of asks says right so = record {
    asks = record { keeps = asks.keeps; cause = λ failed. absurd (no_fault _ failed); stays_open = λ fine is_open. asks.stays_open (no_fault _) is_open };
    text = told_so says (λ content said is. so content (said is));
    right = right;
  }

  -- what is written of it by what asks the source and the judge once more
  pub written_then : {a b c : Source} (before mid after : Judge) (found : Found) (Says : Content → Type 0) (later_of text_of : Content → List ℕ) (answer : Result (Vec ℕ) SourceFault)
      → IsLawful view → MayAsk view {Answer = Found} Device a b (Ok found) → Tells view a b (λ content. is_right before content → Says content)
      → Tells view a b (λ content. is_right before content → is_right mid content) → TellsText view is_right b c mid after answer later_of
      → ((content : Content) → Says content → later_of content ≡ text_of content)
      → TellsText view is_right a c before after answer text_of
  written_then before mid after found Says later_of text_of answer law first says right later so = record {
    asks = record {
      keeps = law.on _ _ _ first.keeps later.asks.keeps;
      cause = λ failed. failed_since (law.keeps _ _ first.keeps).goes (later.asks.cause failed);
      stays_open = λ fine is_open. later.asks.stays_open fine (first.stays_open (no_fault _) is_open);
    };
    text = told_on answer law (told_both says right) first.keeps later.text later.asks.keeps (λ text content said is ok. is (said.1 ok) ∙ so content (said.0 ok));
    right = told_so (then_seen law (seen right first.keeps) later.right later.asks.keeps).told (λ content both ok. both.1 (both.0 ok));
  }

  -- what is written of it by what asks the source once more
  pub written_on : {a b c : Source} (before after : Judge) (found : Found) (Says : Content → Type 0) (Later : Vec ℕ → Content → Type 0) (text_of : Content → List ℕ) (answer : Result (Vec ℕ) SourceFault)
      → IsLawful view → MayAsk view {Answer = Found} Device a b (Ok found) → Tells view a b (λ content. is_right before content → Says content)
      → Tells view a b (λ content. is_right before content → is_right after content) → MayAsk view Device b c answer → IfOk answer (λ text. Tells view b c (Later text))
      → ((text : Vec ℕ) (content : Content) → Says content → Later text content → text.items ≡ text_of content)
      → TellsText view is_right a c before after answer text_of
  written_on before after found Says Later text_of answer law first says right second later so = record {
    asks = record {
      keeps = law.on _ _ _ first.keeps second.keeps;
      cause = λ failed. failed_since (law.keeps _ _ first.keeps).goes (second.cause failed);
      stays_open = λ fine is_open. second.stays_open fine (first.stays_open (no_fault _) is_open);
    };
    text = told_on answer law says first.keeps later second.keeps (λ text content said is right. so text content (said right) is);
    right = told_sooner right (law.keeps _ _ second.keeps);
  }
