-- What is told of what is published is told of the tables.
use Rattle.std.proofs.Common.{sym, ◌∙◌}
use Rattle.std.specs.Prelude.{Ok}
use Rattle.catalogue.specs.Content.{Content}
use Rattle.catalogue.specs.View.{IsLawful, IsOpen, MayAsk, Tells, View}
use Rattle.catalogue.proofs.SourceFacts.{no_fault, told_later}
use Rattle.bureau_store.specs.Store.{AreOfOneStore}
use Rattle.bureau_store.specs.Tables.{Tables}
use Rattle.bureau.specs.Reading.{HasRead}

module _ {Store : Type 0} {content : View Store Content} {tables : View Store Tables} (shows : AreOfOneStore content tables) where
  pub shown_tells : {a b : Store} {Fact : Content → Type 0} → Tells content a b Fact → Tells tables a b (λ this. Fact this.content)
  shown_tells {a} {b} tells = record {
    told = λ ours clean this stands. tells.told (shows.ours a ours) (shows.clean b clean) this.content (shows.stands a this stands);
  }

  pub shown_keeps : {a b : Store} → content.keeps a b → tables.keeps a b
  shown_keeps {a} {b} keeps = shows.keeps a b keeps

  -- after reads of the store
  pub then_shown : {a b c : Store} {Fact : Content → Type 0} → IsLawful tables → tables.keeps a b → content.keeps b c → Tells content b c Fact
      → Tells tables a c (λ this. Fact this.content)
  then_shown lawful sooner later tells = told_later (lawful.keeps _ _ sooner) (lawful.keeps _ _ (shown_keeps later)) (shown_tells tells)

  pub shown_open : {a : Store} → IsOpen content a → IsOpen tables a
  shown_open {a} is_open = sym (shows.failures a) ∙ is_open

  pub open_shown : {a : Store} → IsOpen tables a → IsOpen content a
  open_shown {a} is_open = shows.failures a ∙ is_open

  -- what asks for what is published, once the tables were read, has read
  pub asked_after : {a b c : Store} {Found Answer Fault Other : Type 0} {device : Fault} {found : Found} {answer : Answer} → IsLawful tables → tables.keeps a b → IsOpen tables b
      → MayAsk content {Answer = Found} device b c (Ok found) → HasRead tables {Answer = Answer} {Fault = Other} a c (Ok answer)
  asked_after lawful keeps is_open asks = record {
    keeps = lawful.on _ _ _ keeps (shown_keeps asks.keeps);
    is_open = shown_open (asks.stays_open (no_fault _) (open_shown is_open));
  }
